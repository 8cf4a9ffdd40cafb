-- The listing of risings and settings. Assumes nothing.
use Rattle.std.proofs.Common.{◌≡◌, ℕ, zero, suc, ◌+◌, ◌<◌, ◌≤◌, Bool, true, false, cond, not, ◌⊎◌, List, [], ◌∷◌, ◌++◌, length, get_or, sym, refl, ap, ◌∙◌, subst, ap₂, inl, inr, add-zero, add-suc, suc-add, zero-add, arith}
use Rattle.std.proofs.Math.Bool.{not-not}
use Rattle.std.proofs.lemmas.Bool.{cases_Bool, cases_lt, cond-true, cond-false, both_ways}
use Rattle.crossing.specs.declared.event.Crossing.{Crossing}
use Rattle.crossing.specs.Above.{rises, sets, becomes}
use Rattle.crossing.specs.Events.{crossings}
use Rattle.crossing.specs.Promise.{Lists, Listed}
use Rattle.crossing.proofs.Turns.{became, becomes_here, clash, in_turn, not_at_first, not_from, not_to}

abbrev crossing : ℕ → Bool → Crossing
crossing t w = record { tick = t; rises = w }

-- a tick's crossing is of one kind
one_kind : (f : ℕ → Bool) (v w : Bool) (t : ℕ) → becomes v f t ≡ true → becomes w f t ≡ true → v ≡ w
one_kind f v w t p q = sym (became v f t p).1 ∙ (became w f t q).1

-- one more in front
lists_cons : (f : ℕ → Bool) (t k : ℕ) (w : Bool) (cs : List Crossing) → becomes w f t ≡ true → Lists f (suc t) k cs → Lists f t (suc k) (crossing t w ∷ cs)
lists_cons f t k w cs h rest = record { sound = sound; whole = whole; order = order; turns = turns }
  where
    sound : (i : ℕ) (d : Crossing) → i < suc (length cs) → (t ≤ (get_or (crossing t w ∷ cs) i d).tick) × ((get_or (crossing t w ∷ cs) i d).tick < t + suc k) × (becomes (get_or (crossing t w ∷ cs) i d).rises f (get_or (crossing t w ∷ cs) i d).tick ≡ true)
    sound zero d l = (omega arith, omega arith, h)
    sound (suc i) d l = let p = rest.sound i d (omega arith) in (omega (arith, p.0), omega (arith, p.1), p.2)

    whole : (v : Bool) (u : ℕ) → t ≤ u → u < t + suc k → becomes v f u ≡ true → (i : ℕ) × (i < suc (length cs)) × ((d : Crossing) → get_or (crossing t w ∷ cs) i d ≡ crossing u v)
    whole v u ge lt p =
        elim (cases_lt t u) [
          | inl l ↦ (let q = rest.whole v u l (omega arith) p in (suc q.0, omega (arith, q.1), q.2))
          | inr l ↦ (let e : t ≡ u = omega arith in (0, omega arith, λ d. (λ n. crossing (e n) (one_kind f w v t h (subst (λ (x : ℕ). becomes v f x ≡ true) (sym e) p) n))))
        ]

    order : (i j : ℕ) (d : Crossing) → i < j → j < suc (length cs) → (get_or (crossing t w ∷ cs) i d).tick < (get_or (crossing t w ∷ cs) j d).tick
    order i zero d l m = absurd (omega arith)
    order zero (suc j) d l m = omega (arith, (rest.sound j d (omega arith)).0)
    order (suc i) (suc j) d l m = rest.order i j d (omega arith) (omega arith)

    -- were the next of the same kind, one of the other kind would stand between the two
    other : (d : Crossing) → 0 < length cs → (x : Bool) → (get_or cs 0 d).rises ≡ x → x ≡ w → ⊥
    other d l x e same =
        let s = rest.sound 0 d l in
        let p = in_turn f w t (get_or cs 0 d).tick h (subst (λ (y : Bool). becomes y f (get_or cs 0 d).tick ≡ true) (e ∙ same) s.2) s.0 in
        let q = rest.whole (not w) p.0 p.1 (omega (arith, p.2, s.1)) p.3 in
        first d q.0 q.1 p.0 p.2 (q.2 d) (e ∙ same)
      where
        first : (d : Crossing) (i : ℕ) → i < length cs → (v : ℕ) → v < (get_or cs 0 d).tick → get_or cs i d ≡ crossing v (not w) → (get_or cs 0 d).rises ≡ w → ⊥
        first d zero l v lt q r = clash w (sym r ∙ ap (λ (c : Crossing). c.rises) q)
        first d (suc i) l v lt q r = omega (arith, rest.order 0 (suc i) d (omega arith) l, ap (λ (c : Crossing). c.tick) q)

    turns : (i : ℕ) (d : Crossing) → suc i < suc (length cs) → (get_or (crossing t w ∷ cs) (suc i) d).rises ≡ not (get_or (crossing t w ∷ cs) i d).rises
    turns zero d l = else_not (get_or cs 0 d).rises w (other d (omega arith) (get_or cs 0 d).rises refl)
      where
        else_not : (x w : Bool) → (x ≡ w → ⊥) → x ≡ not w
        else_not true true no_way = absurd (no_way refl)
        else_not true false no_way = refl
        else_not false true no_way = refl
        else_not false false no_way = absurd (no_way refl)
    turns (suc i) d l = rest.turns i d (omega arith)

-- a tick without one
lists_skip : (f : ℕ → Bool) (t k : ℕ) (cs : List Crossing) → rises f t ≡ false → sets f t ≡ false → Lists f (suc t) k cs → Lists f t (suc k) cs
lists_skip f t k cs p q rest =
    record {
      sound = λ i d l. (let s = rest.sound i d l in (omega (arith, s.0), omega (arith, s.1), s.2));
      whole = λ w u ge lt h. elim (cases_lt t u) [ inl l ↦ rest.whole w u l (omega arith) h | inr l ↦ (let e : u ≡ t = omega arith in absurd (neither w (subst (λ (x : ℕ). becomes w f x ≡ true) e h))) ];
      order = rest.order;
      turns = rest.turns;
    }
  where
    neither : (w : Bool) → becomes w f t ≡ true → ⊥
    neither true h = both_ways (rises f t) p h
    neither false h = both_ways (sets f t) q h

pub listed : Listed
unfolding crossings
listed f t zero =
    record { sound = λ i d l. absurd (omega arith); whole = λ w u ge lt h. absurd (omega arith); order = λ i j d l m. absurd (omega arith); turns = λ i d l. absurd (omega arith) }
listed f t (suc k) = by (listed f (suc t) k) (rises f t) refl (sets f t) refl
  where
    rest : List Crossing
    rest = crossings f (suc t) k

    by : Lists f (suc t) k rest → (x : Bool) → rises f t ≡ x → (y : Bool) → sets f t ≡ y → Lists f t (suc k) (cond x (crossing t true ∷ rest) (cond y (crossing t false ∷ rest) rest))
    by later true p y q = lists_cons f t k true rest p later
    by later false p true q = lists_cons f t k false rest q later
    by later false p false q = lists_skip f t k rest p q later

-- ---- for a walk that makes the listing

-- a tick with a crossing, and one without
crossings_one : (f : ℕ → Bool) (t k : ℕ) (w : Bool) → becomes w f t ≡ true → crossings f t (suc k) ≡ crossing t w ∷ crossings f (suc t) k
unfolding crossings
crossings_one f t k true h = cond-true _ _ _ h
crossings_one f t k false h = cond-false _ _ _ (never (rises f t) refl) ∙ cond-true _ _ _ h
  where
    never : (x : Bool) → rises f t ≡ x → rises f t ≡ false
    never true e = absurd (both_ways true (sym (one_kind f false true t h e)) refl)
    never false e = e

crossings_no : (f : ℕ → Bool) (t k : ℕ) → ((w : Bool) → becomes w f t ≡ false) → crossings f t (suc k) ≡ crossings f (suc t) k
unfolding crossings
crossings_no f t k h = cond-false _ _ _ (h true) ∙ cond-false _ _ _ (h false)

-- which of the two it is
kind : (f : ℕ → Bool) (t : ℕ) → ((w : Bool) × (becomes w f t ≡ true)) ⊎ ((w : Bool) → becomes w f t ≡ false)
kind f t =
    elim (cases_Bool (rises f t)) [
      | inl p ↦ inl (true, p)
      | inr p ↦ elim (cases_Bool (sets f t)) [ inl q ↦ inl (false, q) | inr q ↦ inr (neither p q) ]
    ]
  where
    neither : rises f t ≡ false → sets f t ≡ false → (w : Bool) → becomes w f t ≡ false
    neither p q true = p
    neither p q false = q

-- a row of ticks, and the ones behind it
pub crossings_add : (f : ℕ → Bool) (t j k : ℕ) → crossings f t (j + k) ≡ crossings f t j ++ crossings f (t + j) k
unfolding crossings
crossings_add f t zero k = ap₂ (crossings f) (sym (add-zero t)) (zero-add k)
crossings_add f t (suc j) k = go (kind f t) (crossings_add f (suc t) j k)
  where
    more : suc j + k ≡ suc (j + k)
    more = omega arith

    there : crossings f (suc t + j) k ≡ crossings f (t + suc j) k
    there = ap (λ (n : ℕ). crossings f n k) (suc-add t j ∙ sym (add-suc t j))

    go : ((w : Bool) × (becomes w f t ≡ true)) ⊎ ((w : Bool) → becomes w f t ≡ false) → crossings f (suc t) (j + k) ≡ crossings f (suc t) j ++ crossings f (suc t + j) k → crossings f t (suc j + k) ≡ crossings f t (suc j) ++ crossings f (t + suc j) k
    go (inl p) rest =
        ap (crossings f t) more ∙ crossings_one f t (j + k) p.0 p.1 ∙ ap (λ (l : List Crossing). crossing t p.0 ∷ l) rest
        ∙ ap₂ ◌++◌ (sym (crossings_one f t j p.0 p.1)) there
    go (inr p) rest =
        ap (crossings f t) more ∙ crossings_no f t (j + k) p ∙ rest ∙ ap₂ ◌++◌ (sym (crossings_no f t j p)) there

-- where it stays as it was there is none
pub crossings_none : (f : ℕ → Bool) (b : Bool) (t k : ℕ) → f t ≡ b → ((u : ℕ) → suc t ≤ u → u < suc t + k → f u ≡ b) → crossings f (suc t) k ≡ []
unfolding crossings
crossings_none f b t zero was stays = refl
crossings_none f b t (suc k) was stays =
    let now-so = stays (suc t) (omega arith) (omega arith) in
    crossings_no f (suc t) k (no_turn b was now-so) ∙ crossings_none f b (suc t) k now-so (λ u p q. stays u (omega arith) (omega arith))
  where
    no_turn : (b : Bool) → f t ≡ b → f (suc t) ≡ b → (w : Bool) → becomes w f (suc t) ≡ false
    no_turn true p q true = not_from true f t p
    no_turn true p q false = not_to false f t q
    no_turn false p q true = not_to true f t q
    no_turn false p q false = not_from false f t p

-- where it turns once, that one
pub crossings_turn : (f : ℕ → Bool) (b : Bool) (t j k : ℕ) → f t ≡ b → ((u : ℕ) → suc t ≤ u → u < suc t + j → f u ≡ b) → ((u : ℕ) → suc t + j ≤ u → u ≤ suc t + j + k → f u ≡ not b) → crossings f (suc t) (j + suc k) ≡ crossing (suc t + j) (not b) ∷ []
crossings_turn f b t j k was stays turned =
    let v = suc t + j in
    let last : f (t + j) ≡ b = before j stays in
    let here : f (suc (t + j)) ≡ not b = turned (suc (t + j)) (omega arith) (omega arith) in
    let e : suc (t + j) ≡ suc t + j = omega arith in
    crossings_add f (suc t) j (suc k) ∙ ap (λ (l : List Crossing). l ++ crossings f v (suc k)) (crossings_none f b t j was stays)
    ∙ crossings_one f v k (not b) (subst (λ (n : ℕ). becomes (not b) f n ≡ true) e (becomes_here (not b) f (t + j) here (last ∙ sym (not-not b))))
    ∙ ap (λ (l : List Crossing). crossing v (not b) ∷ l) (crossings_none f (not b) v k (turned v (omega arith) (omega arith)) (λ u p q. turned u (omega arith) (omega arith)))
  where
    before : (j : ℕ) → ((u : ℕ) → suc t ≤ u → u < suc t + j → f u ≡ b) → f (t + j) ≡ b
    before zero stays = ap f (add-zero t) ∙ was
    before (suc j) stays = stays (t + suc j) (omega arith) (omega arith)

-- tick 0 has none
pub crossings_first : (f : ℕ → Bool) (k : ℕ) → crossings f 0 (suc k) ≡ crossings f 1 k
crossings_first f k = crossings_no f 0 k (λ w. not_at_first w f)

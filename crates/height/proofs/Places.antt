-- Where a file is refused. Assumes nothing.
use Rattle.std.proofs.Common.{◌≡◌, ℕ, zero, suc, ◌%◌, ◌^◌, ◌<◌, ◌≤◌, List, [], ◌∷◌, length, get_or, ℤ, pos, nat_abs, sym, refl, ap, ◌∙◌, subst, inl, inr, arith, add-one, Option}
use Rattle.std.specs.List.{AllWithin, HoldsAt}
use Rattle.std.specs.Option.{MatchOption, unwrap_or}
use Rattle.std.proofs.lemmas.Iterator.{index_from_first}
use Rattle.std.proofs.lemmas.Bool.{cases_lt, le-leb, lt-leb, cond-true, cond-false}
use Rattle.height.specs.Files.{Good, first_beyond}
use Rattle.height.specs.Promise.{FirstBeyond}

next : (x : ℤ) (xs : List ℤ) → nat_abs x ≤ 2 ^ 24 → first_beyond (x ∷ xs) ≡ suc (first_beyond xs)
unfolding first_beyond
next x xs h = cond-true _ _ _ (le-leb (nat_abs x) (2 ^ 24) h)

here : (x : ℤ) (xs : List ℤ) → 2 ^ 24 < nat_abs x → first_beyond (x ∷ xs) ≡ 0
unfolding first_beyond
here x xs h = cond-false _ _ _ (lt-leb (nat_abs x) (2 ^ 24) h)

-- a number within the bound, and one beyond it
abbrev pub Near : ℤ → Type 0
Near x = nat_abs x ≤ 2 ^ 24

abbrev pub Far : ℤ → Type 0
Far x = 2 ^ 24 < nat_abs x

-- what a search for the first number beyond the bound finds
pub place_is : (xs : List ℤ) (r : Option ℕ) → MatchOption r (AllWithin Near xs 0 (length xs)) (λ i. (i < length xs) × HoldsAt Far xs i × AllWithin Near xs 0 i) → first_beyond xs ≡ unwrap_or r (length xs)
unfolding first_beyond
place_is = index_from_first first_beyond Far Near refl here (λ x xs h. next x xs h ∙ sym (add-one (first_beyond xs)))

-- the place as the first one beyond, in terms of the file's numbers
pub first_beyond_is : FirstBeyond
unfolding first_beyond
first_beyond_is [] = omega arith
first_beyond_is (x ∷ xs) =
    elim (cases_lt (2 ^ 24) (nat_abs x)) [
      | inl h ↦ subst At (sym (here x xs h)) (omega arith, λ k l. absurd (omega arith), λ l. h)
      | inr h ↦ subst At (sym (next x xs h)) (let p = first_beyond_is xs in (omega (arith, p.0), before h p.1, λ l. p.2 (omega arith)))
    ]
  where
    At : ℕ → Type 0
    At v =
        (v ≤ suc (length xs))
        × ((k : ℕ) → k < v → nat_abs (get_or (x ∷ xs) k (pos 0)) ≤ 2 ^ 24)
        × (v < suc (length xs) → 2 ^ 24 < nat_abs (get_or (x ∷ xs) v (pos 0)))

    before : {n : ℕ} → nat_abs x ≤ 2 ^ 24 → ((k : ℕ) → k < n → nat_abs (get_or xs k (pos 0)) ≤ 2 ^ 24) → (k : ℕ) → k < suc n → nat_abs (get_or (x ∷ xs) k (pos 0)) ≤ 2 ^ 24
    before h within zero l = h
    before h within (suc k) l = within k (omega arith)

-- a file is good just if its first number beyond the bound is behind its last, and its numbers make spans
pub good_if : (xs : List ℤ) (n : ℕ) → n ≡ first_beyond xs → n ≡ length xs → (n % 4 ≡ 0) × (4 ≤ n) × (n ≤ 16384) → Good xs
good_if xs n place all spans =
    record {
      fours = ap (λ (k : ℕ). k % 4) (sym all) ∙ spans.0;
      some = omega (arith, spans.1, all);
      few = omega (arith, spans.2, all);
      small = λ k h. (first_beyond_is xs).1 k (omega (arith, h, place, all));
    }

pub good_spans : (xs : List ℤ) (n : ℕ) → n ≡ length xs → Good xs → (n % 4 ≡ 0) × (4 ≤ n) × (n ≤ 16384)
good_spans xs n all good = (ap (λ (k : ℕ). k % 4) all ∙ good.fours, omega (arith, good.some, all), omega (arith, good.few, all))

pub good_place : (xs : List ℤ) (n : ℕ) → n ≡ first_beyond xs → Good xs → n ≡ length xs
good_place xs n place good =
    let p = first_beyond_is xs in
    elim (cases_lt n (length xs)) [
      | inl h ↦ absurd (omega (arith, p.2 (omega (arith, h, place)), good.small (first_beyond xs) (omega (arith, h, place))))
      | inr h ↦ omega (arith, p.0, h, place)
    ]

-- What is left of the risings and settings, from where a walk came to. Assumes nothing.
use Rattle.std.proofs.Common.{◌≡◌, ℕ, zero, suc, ◌+◌, ◌-◌, ◌<◌, ◌≤◌, Bool, not, List, [], ◌∷◌, ◌++◌, sym, ap, ◌∙◌, subst, Option, Some, None, unwrap_or, inl, inr, append_assoc, append-nil, arith}
use Rattle.std.proofs.Math.Bool.{not-not}
use Rattle.std.proofs.lemmas.Bool.{cases_lt}
use Rattle.crossing.specs.declared.event.Crossing.{Crossing}
use Rattle.crossing.specs.Events.{crossings}
use Rattle.search.specs.Walks.{Course, Seen, First, Walked, Came, Gives, Steps, after, left}
use Rattle.search.proofs.Steps.{after_add, after_is}
use Rattle.crossing.proofs.Listings.{crossings_add, crossings_first, crossings_none, crossings_turn}

-- up to v, and from there up to w
up_to : (f : ℕ → Bool) (t v w : ℕ) → t ≤ v → v ≤ w → crossings f t (w - t) ≡ crossings f t (v - t) ++ crossings f v (w - v)
up_to f t v w p q =
    let e : w - t ≡ (v - t) + (w - v) = omega arith in
    let a : t + (v - t) ≡ v = omega arith in
    ap (crossings f t) e ∙ crossings_add f t (v - t) (w - v) ∙ ap (λ (n : ℕ). crossings f t (v - t) ++ crossings f n (w - v)) a

-- where the walk starts: in the tick before t, from which on the condition stays up to w
collect_start : (f : ℕ → Bool) (b : Bool) (t s w : ℕ) → s ≡ t - 1 → s < w → ((u : ℕ) → s ≤ u → u < w → f u ≡ b) → crossings f t (w - t) ≡ []
collect_start f b zero s zero s-is lt stays = absurd (omega arith)
collect_start f b zero s (suc k) s-is lt stays =
    let e : suc k - 0 ≡ suc k = omega arith in
    ap (crossings f 0) e ∙ crossings_first f k ∙ crossings_none f b 0 k (stays 0 (omega arith) (omega arith)) (λ u p q. stays u (omega arith) (omega arith))
collect_start f b (suc t) s w s-is lt stays =
    crossings_none f b t (w - suc t) (stays t (omega arith) (omega arith)) (λ u p q. stays u (omega arith) (omega arith))

-- behind the first tick that is evaluated all are left
pub left_all : (m : Course) (t s till : ℕ) (b : Bool) → s ≡ t - 1 → t < m.stop → Seen m s b till → left m till ≡ crossings m.so t (m.stop - t)
left_all m t s till b s-is lt seen =
    sym
    (up_to m.so t till m.stop (omega (arith, seen.onward)) seen.inside
    ∙ ap (λ (l : List Crossing). l ++ left m till) (collect_start m.so (m.so s) t s till s-is seen.onward seen.same))

-- where the row has no tick from t on, none are left
pub left_of_none : (m : Course) (t v : ℕ) → m.stop ≤ t → v ≡ m.stop → left m v ≡ crossings m.so t (m.stop - t)
unfolding crossings
left_of_none m t v le v-is =
    let e : m.stop - v ≡ 0 = omega arith in
    let z : 0 ≡ m.stop - t = omega arith in
    ap (crossings m.so v) e ∙ ap (crossings m.so t) z

-- a crossing is found
left_one : (m : Course) (v r till k : ℕ) (b : Bool) → (v < m.stop → (0 < v) × (m.so (v - 1) ≡ b)) → First m.so (not b) v m.stop (Some r) → Walked m (not b) v r till k → left m v ≡ record { tick = r; rises = not b } ∷ left m till
left_one m v r till k b before first walked =
    up_to m.so v till m.stop (omega (arith, first.0, onward)) walked.inside
    ∙ ap (λ (l : List Crossing). l ++ left m till) (turns v was.0 was.1 first.0 first.3)
  where
    onward : r < till
    onward = walked.onward first.1

    was : (0 < v) × (m.so (v - 1) ≡ b)
    was = before (omega (arith, first.0, first.1))

    turns : (v : ℕ) → 0 < v → m.so (v - 1) ≡ b → v ≤ r → ((u : ℕ) → v ≤ u → u < r → m.so u ≡ not (not b)) → crossings m.so v (till - v) ≡ record { tick = r; rises = not b } ∷ []
    turns zero some is le none = absurd (omega arith)
    turns (suc v) some is le none =
        let e : suc v - 1 ≡ v = omega arith in
        let j = r - suc v in
        let k = till - suc r in
        let at : suc v + j ≡ r = omega arith in
        let all : till - suc v ≡ j + suc k = omega (arith, onward) in
        ap (crossings m.so (suc v)) all
        ∙ crossings_turn m.so b v j k (ap m.so (sym e) ∙ is) (λ u p q. none u p (omega arith) ∙ not-not b) (λ u p q. walked.stays u (omega arith) (omega (arith, onward)))
        ∙ ap (λ (n : ℕ). record { tick = n; rises = not b } ∷ []) at

-- none is found
left_none : (m : Course) (v : ℕ) (b : Bool) → v ≤ m.stop → (v < m.stop → (0 < v) × (m.so (v - 1) ≡ b)) → First m.so (not b) v m.stop None → left m v ≡ []
unfolding crossings
left_none m v b inside before none =
    elim (cases_lt v m.stop) [
      | inl h ↦ stays v (before h).0 (before h).1 none
      | inr h ↦ (let e : m.stop - v ≡ 0 = omega arith in ap (crossings m.so v) e)
    ]
  where
    stays : (v : ℕ) → 0 < v → m.so (v - 1) ≡ b → ((u : ℕ) → v ≤ u → u < m.stop → m.so u ≡ not (not b)) → crossings m.so v (m.stop - v) ≡ []
    stays zero some is none = absurd (omega arith)
    stays (suc v) some is none =
        let e : suc v - 1 ≡ v = omega arith in
        crossings_none m.so b v (m.stop - suc v) (ap m.so (sym e) ∙ is) (λ u p q. none u p (omega arith) ∙ not-not b)

-- the walk gives what the search found, and goes on behind it
pub gives_one : (m : Course) (v r till n k : ℕ) (b : Bool) (o : Option ℕ) → (v < m.stop → (0 < v) × (m.so (v - 1) ≡ b)) → o ≡ Some r → First m.so (not b) v m.stop o → Walked m (not b) v (unwrap_or o m.stop) till k → Gives m v n (Some (record { tick = r; rises = not b })) till (n + k)
gives_one m v r till n k b o before is first walked =
    record {
      next = (left_one m v r till k b before found here, omega (arith, found.0, found.1, here.onward found.1));
      steps = after_is m.onto v (n + k - n) k (omega arith) ∙ here.on;
      counted = omega arith;
      few = omega (arith, here.few);
      inside = here.inside;
    }
  where
    found : First m.so (not b) v m.stop (Some r)
    found = subst (First m.so (not b) v m.stop) is first

    here : Walked m (not b) v r till k
    here = subst (λ (x : Option ℕ). Walked m (not b) v (unwrap_or x m.stop) till k) is walked

-- or it found nothing, and came to the row's end
pub gives_none : (m : Course) (v till n k : ℕ) (b : Bool) (o : Option ℕ) → v ≤ m.stop → (v < m.stop → (0 < v) × (m.so (v - 1) ≡ b)) → o ≡ None → First m.so (not b) v m.stop o → Walked m (not b) v (unwrap_or o m.stop) till k → Gives m v n None till (n + k)
gives_none m v till n k b o inside before is first walked =
    record {
      next = (left_none m v b inside before (subst (First m.so (not b) v m.stop) is first), here.ended (omega arith));
      steps = after_is m.onto v (n + k - n) k (omega arith) ∙ here.on;
      counted = omega arith;
      few = omega (arith, here.few);
      inside = here.inside;
    }
  where
    here : Walked m (not b) v m.stop till k
    here = subst (λ (x : Option ℕ). Walked m (not b) v (unwrap_or x m.stop) till k) is walked

-- one walk behind the other
pub came_on : (m : Course) (first t n u k : ℕ) (r : Option Crossing) → Came m first t n → Gives m t n r u k → Came m first u k
came_on m first t n u k r came gives = (
  λ h. (omega (arith, gives.inside, (came.0 h).0, (came.0 h).1, gives.counted, gives.few), omega (arith, gives.inside, (came.0 h).0, (came.0 h).1, gives.counted, gives.few)),
  λ h. after_is m.onto (first - 1) k (n + (k - n)) (omega (arith, gives.counted)) ∙ after_add m.onto (first - 1) n (k - n) ∙ ap (after m.onto (k - n)) (came.1 h) ∙ gives.steps,
)

-- what was listed, and one more, is what there is up to what is left
pub listed_on : (m : Course) (t n u k : ℕ) (c : Crossing) (items all : List Crossing) → items ++ left m t ≡ all → Gives m t n (Some c) u k → (items ++ (c ∷ [])) ++ left m u ≡ all
listed_on m t n u k c items all listed gives =
    append_assoc items (c ∷ []) (left m u) ∙ ap (λ (l : List Crossing). items ++ l) (sym gives.next.0) ∙ listed

-- at the row's end all are listed
pub listed_all : (m : Course) (t n u k : ℕ) (items all : List Crossing) → items ++ left m t ≡ all → Gives m t n None u k → items ≡ all
listed_all m t n u k items all listed gives =
    sym (append-nil items) ∙ ap (λ (l : List Crossing). items ++ l) (sym gives.next.0) ∙ listed

pub came_to_end : (m : Course) (first u k : ℕ) → u ≡ m.stop → Came m first u k → Steps m (first - 1) first k
came_to_end m first u k is came = (λ h. (came.0 h).0, λ h. came.1 h ∙ is)

-- The entries of a table: how they are written as they are found, and that they take turns. Assumes nothing.
use Rattle.std.proofs.Common.{◌≡◌, ℕ, zero, suc, ◌+◌, ◌-◌, ◌<◌, ◌≤◌, Bool, not, ◌≢◌, List, [], ◌∷◌, ◌++◌, length, get_or, set, Option, Some, None, sym, refl, ap, ◌∙◌, subst, inl, inr, arith, length-append, length-set, get_or-set_other, get_or-set_same}
use Rattle.std.proofs.lemmas.List.{get_or_append_left, get_or_push}
use Rattle.std.proofs.lemmas.Bool.{cases_eq}
use Rattle.crossing.specs.declared.event.Crossing.{Crossing}
use Rattle.crossing.specs.Events.{crossings}
use Rattle.crossing.specs.Promise.{Listed}
use Rattle.search.specs.Walks.{Came, Course, Gives, left}
use Rattle.search.proofs.Collecting.{came_on, came_to_end, listed_all, listed_on}
use Rattle.std.specs.Option.{option_or}
use Rattle.bridge.specs.Tables.{Copied, FilledWith, first_kind, first_rises, turned}

-- one more is written behind those that are
copied_more : (cs : List Crossing) (c : Crossing) (n : ℕ) (into out : List ℕ) → n ≡ length cs → length out ≡ length into → Copied cs into out → Copied (cs ++ (c ∷ [])) into (set out n c.tick)
copied_more cs c n into out n_is long h = record {
  ticks = λ k d lt room.
      elim (cases_eq k n) [
        | inl same ↦ subst (λ (j : ℕ). get_or (set out n c.tick) j 0 ≡ (get_or (cs ++ (c ∷ [])) j d).tick) (sym same) (get_or-set_same out n c.tick 0 (omega (arith, same)) ∙ sym (ap (λ (x : Crossing). x.tick) (get_or_push cs c d n (sym n_is))))
        | inr apart ↦ get_or-set_other out n k c.tick 0 apart ∙ h.ticks k d (less k lt apart) room ∙ sym (ap (λ (x : Crossing). x.tick) (get_or_append_left cs (c ∷ []) d k (less k lt apart)))
      ];
  behind = λ k le. get_or-set_other out n k c.tick 0 (λ same. omega (arith, same, le, length-append cs (c ∷ []))) ∙ h.behind k (omega (arith, le, length-append cs (c ∷ [])));
}
  where
    less : (k : ℕ) → k < length (cs ++ (c ∷ [])) → k ≢ n → k < length cs
    less k lt apart = omega (arith, apart, length-append cs (c ∷ []))

kind_more : (cs : List Crossing) (c : Crossing) → option_or (first_kind cs) (Some c.rises) ≡ first_kind (cs ++ (c ∷ []))
kind_more [] c = refl
kind_more (x ∷ cs) c = refl

-- what was found and written by a walk that came to tick v by n evaluations
pub record Filling (m : Course) (t v : ℕ) (into out : List ℕ) (n entries : ℕ) (first : Option Bool) : Type 0 where
  pub found : List Crossing
  pub listed : found ++ left m v ≡ crossings m.so t (m.stop - t)
  pub came : Came m t v n
  pub count : entries ≡ length found
  pub kind : first ≡ first_kind found
  pub copied : Copied found into out
  pub long : length out ≡ length into
  pub few : entries ≤ v

pub filling_start : (m : Course) (t v n : ℕ) (into : List ℕ) → Came m t v n → left m v ≡ crossings m.so t (m.stop - t) → Filling m t v into into n 0 None
filling_start m t v n into came whole = record {
  found = [];
  listed = whole;
  came = came;
  count = refl;
  kind = refl;
  copied = record { ticks = λ k d lt room. absurd (omega arith); behind = λ k le. refl };
  long = refl;
  few = omega arith;
}

pub filling_one : (m : Course) (t v u n k entries : ℕ) (c : Crossing) (first after : Option Bool) (into out more : List ℕ) → Filling m t v into out n entries first → Gives m v n (Some c) u k → more ≡ set out entries c.tick → after ≡ option_or first (Some c.rises) → Filling m t u into more k (entries + 1) after
filling_one m t v u n k entries c first after into out more h gives more-is after_is = record {
  found = h.found ++ (c ∷ []);
  listed = listed_on m v n u k c h.found (crossings m.so t (m.stop - t)) h.listed gives;
  came = came_on m t v n u k (Some c) h.came gives;
  count = omega (arith, h.count, length-append h.found (c ∷ []));
  kind = after_is ∙ ap (λ (o : Option Bool). option_or o (Some c.rises)) h.kind ∙ kind_more h.found c;
  copied = subst (Copied (h.found ++ (c ∷ [])) into) (sym more-is) (copied_more h.found c entries into out h.count h.long h.copied);
  long = ap length more-is ∙ length-set out entries c.tick ∙ h.long;
  few = omega (arith, h.few, gives.next.1);
}

-- at the row's end it has them all
pub filling_end : (m : Course) (t v u n k entries : ℕ) (first : Option Bool) (into out : List ℕ) → Filling m t v into out n entries first → Gives m v n None u k → FilledWith m t into out (record { entries = entries; first = first; evaluations = k })
filling_end m t v u n k entries first into out h gives = record {
  entries = h.count ∙ ap length all;
  first = h.kind ∙ ap first_kind all;
  written = subst (λ (cs : List Crossing). Copied cs into out) all h.copied;
  steps = came_to_end m t u k gives.next.1 (came_on m t v n u k None h.came gives);
}
  where
    all : h.found ≡ crossings m.so t (m.stop - t)
    all = listed_all m v n u k h.found (crossings m.so t (m.stop - t)) h.listed gives

starts : (cs : List Crossing) (d : Crossing) → 0 < length cs → (get_or cs 0 d).rises ≡ first_rises cs
starts [] d h = absurd (omega arith)
starts (c ∷ cs) d h = refl

-- the entries of a listing take turns, from the first one on
pub take_turns : Listed → (f : ℕ → Bool) (t n : ℕ) (cs : List Crossing) → cs ≡ crossings f t n → (w : Bool) → w ≡ first_rises cs → (k : ℕ) (d : Crossing) → k < length cs → (get_or cs k d).rises ≡ turned w k
take_turns listed f t n cs is w w-is zero d h = starts cs d h ∙ sym w-is
take_turns listed f t n cs is w w-is (suc k) d h =
    subst (λ (xs : List Crossing). suc k < length xs → (get_or xs (suc k) d).rises ≡ not (get_or xs k d).rises) (sym is) ((listed f t n).turns k d) h
    ∙ ap not (take_turns listed f t n cs is w w-is k d (omega arith))

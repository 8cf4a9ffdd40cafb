-- A text cut into its lines. Assumes nothing.
use Rattle.std.proofs.Common.{◌≡◌, ℕ, zero, suc, ◌+◌, ◌<◌, ◌≤◌, min, true, false, ◌==◌, List, [], ◌∷◌, ◌++◌, length, sym, refl, ap, ◌∙◌, append_assoc, append-nil, arith}
use Rattle.std.proofs.lemmas.Bool.{cond-true, cond-false}
use Rattle.std.specs.List.{IsFirstMatchOrLen}
use Rattle.words.specs.Words.{before_first}
use Rattle.session.specs.Lines.{lines}
use Rattle.session.specs.Sessions.{State, run, run_lines, step}

-- ---- the first line, and what follows it
at_break : (b : ℕ) (bs : List ℕ) → (b == 10) ≡ true → lines (b ∷ bs) ≡ (b ∷ []) ∷ lines bs
unfolding lines
at_break b bs h = cond-true _ _ _ h

no_break : (b : ℕ) (bs : List ℕ) → (b == 10) ≡ false → lines (b ∷ bs) ≡ before_first b (lines bs)
unfolding lines
no_break b bs h = cond-false _ _ _ h

no_line : lines [] ≡ []
unfolding lines
no_line = refl

-- a text that is cut behind its first break, or at its end
pub first_cut : (text line after : List ℕ) (i : ℕ) → text ≡ line ++ after → length line ≡ min (i + 1) (length text) → IsFirstMatchOrLen (λ b. b == 10) text i → 0 < length text → lines text ≡ line ∷ lines after
first_cut [] line after i e n f h = absurd (omega arith)
first_cut (b ∷ bs) [] after i e n f h = absurd (omega (arith, n))
first_cut (b ∷ bs) (c ∷ []) after zero e n f h =
    let p : b ≡ c = cc in
    let q : bs ≡ after = cc in
    at_break b bs (f.1 h 0) ∙ (λ i. (p i ∷ []) ∷ lines (q i))
first_cut (b ∷ bs) (c ∷ d ∷ cs) after zero e n f h = absurd (omega (arith, n))
first_cut (b ∷ []) (c ∷ []) after (suc i) e n f h =
    let p : b ≡ c = cc in
    let q : [] ≡ after = cc in
    no_break b [] (f.0 0 0 (omega arith) (omega arith)) ∙ ap (before_first b) no_line ∙ (λ i. (p i ∷ []) ∷ sym no_line i) ∙ (λ i. (c ∷ []) ∷ lines (q i))
first_cut (b ∷ []) (c ∷ d ∷ cs) after (suc i) e n f h = absurd (omega (arith, n))
first_cut (b ∷ a ∷ bs) (c ∷ cs) after (suc i) e n f h =
    let p : b ≡ c = cc in
    let q : a ∷ bs ≡ cs ++ after = cc in
    no_break b (a ∷ bs) (f.0 0 0 (omega arith) (omega arith))
    ∙ ap (before_first b) (first_cut (a ∷ bs) cs after i q (omega (arith, n)) ((λ k d l u. f.0 (suc k) d (omega arith) (omega arith)), (λ u d. f.1 (omega arith) d)) (omega arith))
    ∙ (λ i. (p i ∷ cs) ∷ lines after)

-- ---- the run, line by line
pub record Running (text : List ℕ) (s : State) (written rest : List ℕ) : Type 0 where
  pub state : (run_lines s (lines rest)).state ≡ (run text).state
  pub so_far : written ++ (run_lines s (lines rest)).text ≡ (run text).text

one_more : (s : State) (l : List ℕ) (ls : List (List ℕ)) → ((run_lines s (l ∷ ls)).state ≡ (run_lines (step s l).state ls).state) × ((run_lines s (l ∷ ls)).text ≡ (step s l).text ++ (run_lines (step s l).state ls).text)
unfolding run_lines
one_more s l ls = (refl, refl)

pub running_more : (text : List ℕ) (s t : State) (was is rest line after : List ℕ) → Running text s was rest → lines rest ≡ line ∷ lines after → t ≡ (step s line).state → is ≡ was ++ (step s line).text → Running text t is after
running_more text s t was is rest line after r cut t-is is-is =
    record {
      state = ap (λ (x : State). (run_lines x (lines after)).state) t-is ∙ sym (one_more s line (lines after)).0 ∙ ap (λ (ls : List (List ℕ)). (run_lines s ls).state) (sym cut) ∙ r.state;
      so_far =
          (λ i. is-is i ++ (run_lines (t-is i) (lines after)).text)
          ∙ append_assoc was (step s line).text (run_lines (step s line).state (lines after)).text
          ∙ ap (λ (x : List ℕ). was ++ x) (sym (one_more s line (lines after)).1)
          ∙ ap (λ (ls : List (List ℕ)). was ++ (run_lines s ls).text) (sym cut)
          ∙ r.so_far;
    }

nothing_more : (s : State) (rest : List ℕ) → length rest ≤ 0 → ((run_lines s (lines rest)).state ≡ s) × ((run_lines s (lines rest)).text ≡ [])
unfolding run_lines lines
nothing_more s [] h = (refl, refl)
nothing_more s (b ∷ bs) h = absurd (omega arith)

pub running_ends : (text : List ℕ) (s : State) (written rest : List ℕ) → Running text s written rest → length rest ≤ 0 → (written ≡ (run text).text) × (s ≡ (run text).state)
running_ends text s written rest r h = (
  sym (append-nil written) ∙ ap (λ (x : List ℕ). written ++ x) (sym (nothing_more s rest h).1) ∙ r.so_far,
  sym (nothing_more s rest h).0 ∙ r.state,
)

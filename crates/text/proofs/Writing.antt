-- Texts written one piece after the other. Assumes nothing.
use Rattle.std.proofs.Common.{◌≡◌, ℕ, zero, suc, ◌/◌, ◌<◌, List, [], ◌∷◌, ◌++◌, length, get_or, ℤ, pos, Ok, Err, Result, refl, ap, ◌∙◌, append_assoc, arith}
use Rattle.std.specs.List.{flat_map}
use Rattle.std.specs.Simd.{first_chunks}
use Rattle.text.specs.Answers.{Appends, span_bytes, numbers_bytes, part_bytes}

-- a span's line, of its four numbers
abbrev pub four_bytes : List ℤ → List ℕ
four_bytes s = span_bytes (get_or s 0 (pos 0)) (get_or s 1 (pos 0)) (get_or s 2 (pos 0)) (get_or s 3 (pos 0))

-- numbers, four to a line, are a line for each four
four_each : (xs : List ℤ) (k : ℕ) → length xs / 4 ≡ k → numbers_bytes xs ≡ flat_map four_bytes (first_chunks 4 k xs)
unfolding numbers_bytes
four_each [] zero e = refl
four_each [] (suc k) e = absurd (omega arith)
four_each (a ∷ []) zero e = refl
four_each (a ∷ []) (suc k) e = absurd (omega arith)
four_each (a ∷ b ∷ []) zero e = refl
four_each (a ∷ b ∷ []) (suc k) e = absurd (omega arith)
four_each (a ∷ b ∷ c ∷ []) zero e = refl
four_each (a ∷ b ∷ c ∷ []) (suc k) e = absurd (omega arith)
four_each (a ∷ b ∷ c ∷ d ∷ xs) zero e = absurd (omega arith)
four_each (a ∷ b ∷ c ∷ d ∷ xs) (suc k) e = ap (λ (l : List ℕ). span_bytes a b c d ++ l) (four_each xs k (omega arith))

pub part_each : (xs : List ℤ) → 0 < length xs → part_bytes xs ≡ flat_map four_bytes (first_chunks 4 (length xs / 4) xs)
part_each [] h = absurd (omega arith)
part_each (x ∷ xs) h = four_each (x ∷ xs) (length (x ∷ xs) / 4) refl

-- one piece is written behind another
pub then : {X : Type 0} (was a b mid is : List ℕ) (r : Result (Unit {0}) X) → mid ≡ was ++ a → Appends mid b is r → Appends was (a ++ b) is r
then was a b mid is (Ok u) e h = h ∙ ap (λ (l : List ℕ). l ++ b) e ∙ append_assoc was a b
then was a b mid is (Err x) e h = tt

-- The numbers of near and seen lines are read as they were. Assumes nothing.
use Rattle.std.proofs.Common.{◌≡◌, ℕ, suc, ◌+◌, ◌-◌, ◌*◌, ◌^◌, ◌<◌, Bool, true, false, cond, eqb, List, [], ◌∷◌, ◌++◌, ℤ, pos, nat_abs, Some, None, codes, sym, refl, ap, append_assoc, arith, lit<}
use lib.Signed.{le_z}
use Rattle.std.specs.Char.{is_ascii_digit}
use Rattle.std.proofs.lemmas.Option.{none-some}
use Rattle.std.proofs.lemmas.Bool.{cond-true, eqb-true}
use Rattle.binary.specs.Nearest.{half_place, nearest_over}
use Rattle.decimal.specs.Figures.{error_text, float_text}
use Rattle.decimal.specs.Promise.{Says}
use Rattle.decimal.specs.Reading.{Said, before, behind, number_in, point, unsigned}
use Rattle.decimal.proofs.Floats.{error_exact, float_exact, written_near}
use Rattle.replies.specs.Promise.{NearRead, ReadingsBack, SeenRead}
use Rattle.words.specs.Words.{blank}
use Rattle.words.proofs.Solid.{Solid, Word, digit_solid, key_front, words_front, words_last}

-- ---- a text that is read as a number has no blank in it
behind_solid : (m : Bool) (n p : ℕ) (cs : List ℕ) (s : Said) → behind m n p cs ≡ Some s → Solid cs
unfolding behind
behind_solid m n p [] s e = tt
behind_solid m n p (c ∷ cs) s e = go (is_ascii_digit c) refl e (behind_solid m (10 * n + (c - 48)) (suc p) cs s)
  where
    go : (b : Bool) → is_ascii_digit c ≡ b → cond b (behind m (10 * n + (c - 48)) (suc p) cs) None ≡ Some s → (behind m (10 * n + (c - 48)) (suc p) cs ≡ Some s → Solid cs) → Solid (c ∷ cs)
    go true d q rest = (digit_solid c d, rest q)
    go false d q rest = absurd (none-some s q)

point_solid : (m : Bool) (n : ℕ) (cs : List ℕ) (s : Said) → point m n cs ≡ Some s → Solid cs
unfolding point
point_solid m n [] s e = tt
point_solid m n (c ∷ cs) s e = behind_solid m n 0 (c ∷ cs) s e

before_solid : (m : Bool) (n : ℕ) (cs : List ℕ) (s : Said) → before m n cs ≡ Some s → Solid cs
unfolding before
before_solid m n [] s e = tt
before_solid m n (c ∷ cs) s e = go (is_ascii_digit c) (eqb c 46) refl refl e (before_solid m (10 * n + (c - 48)) cs s)
  where
    go : (b d : Bool) → is_ascii_digit c ≡ b → eqb c 46 ≡ d → cond b (before m (10 * n + (c - 48)) cs) (cond d (point m n cs) None) ≡ Some s → (before m (10 * n + (c - 48)) cs ≡ Some s → Solid cs) → Solid (c ∷ cs)
    go true d i j q rest = (digit_solid c i, rest q)
    go false true i j q rest = (ap blank (eqb-true c 46 j), point_solid m n cs s q)
    go false false i j q rest = absurd (none-some s q)

-- and is not empty: it is a word
unsigned_word : (m : Bool) (cs : List ℕ) (s : Said) → unsigned m cs ≡ Some s → Word cs
unfolding unsigned
unsigned_word m [] s e = absurd (none-some s e)
unsigned_word m (c ∷ cs) s e = (go (is_ascii_digit c) e, omega arith)
  where
    go : (b : Bool) → cond b (before m 0 (c ∷ cs)) None ≡ Some s → Solid (c ∷ cs)
    go true q = before_solid m 0 (c ∷ cs) s q
    go false q = absurd (none-some s q)

read_word : (w : List ℕ) (s : Said) → number_in w ≡ Some s → Word w
unfolding number_in
read_word [] s e = absurd (none-some s e)
read_word (c ∷ cs) s e = go (eqb c 45) refl e
  where
    go : (b : Bool) → eqb c 45 ≡ b → cond b (unsigned true cs) (unsigned false (c ∷ cs)) ≡ Some s → Word (c ∷ cs)
    go true j q = ((ap blank (eqb-true c 45 j), (unsigned_word true cs s q).0), omega arith)
    go false j q = unsigned_word false (c ∷ cs) s q

-- ---- the two lines
module _ (h : ℤ) (H : nat_abs h < 2 ^ 62) where
  small : nat_abs h < 2 ^ (30 + 63)
  small = omega arith

  number : Says (nearest_over 30 h) (float_text 30 h)
  number = float_exact 30 h (omega arith) small

  half : Says (half_place 30 h) (error_text 30 h)
  half = error_exact 30 h (omega arith) small

  float_word : Word (float_text 30 h)
  float_word = read_word (float_text 30 h) number.said number.read

  error_word : Word (error_text 30 h)
  error_word = read_word (error_text 30 h) half.said half.read

  near_read : NearRead h
  near_read = record {
    line = sym (append_assoc (float_text 30 h) (codes " " ++ error_text 30 h) (codes "\n"));
    two = words_front (float_text 30 h) (error_text 30 h) _ float_word (words_last (error_text 30 h) error_word);
    number = number;
    half = half;
    off = written_near 30 h (omega arith) small;
  }

  seen_read : le_z (pos 0) h ≡ true → SeenRead h
  seen_read above = record {
    line = cond-true _ _ _ above;
    two = key_front (codes "seen") (float_text 30 h) _ refl (lit< tt) (words_last (float_text 30 h) float_word);
    number = number;
  }

pub readings_back : ReadingsBack
readings_back = (near_read, seen_read)

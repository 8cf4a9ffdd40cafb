-- A line's numbers, pushed one after the other. Assumes nothing.
use Rattle.std.proofs.Common.{◌≡◌, ℕ, ◌≤◌, List, [], ◌∷◌, ◌++◌, length, take, ℤ, Some, None, Option, sym, refl, ap, ◌∙◌, append_assoc, append-nil, arith, length-take}
use lib.Seq.{take-append-le}
use Rattle.std.specs.Option.{option_map}
use Rattle.words.specs.Numbers.{number_of}
use Rattle.session.specs.Sessions.{kept, and_more, numbers_of}

-- of a line's words some were pushed, and these are left; the ones that were there are still in front
pub record Pushed (was : List ℤ) (all : List (List ℕ)) (is : List ℤ) (left : List (List ℕ)) (had : ℕ) : Type 0 where
  pub same : option_map (λ zs. was ++ zs) (numbers_of all) ≡ option_map (λ zs. is ++ zs) (numbers_of left)
  pub count : had ≡ length was
  pub front : take had is ≡ was

none_left : numbers_of [] ≡ Some []
unfolding numbers_of
none_left = refl

-- an equation of answers that are there, or of ones that are not
back : (f : List ℤ → List ℤ) (o : Option (List ℤ)) → option_map f o ≡ None → o ≡ None
back f None e = refl
back f (Some zs) e = absurd (let z : ◌≡◌ {A = ℕ} 0 1 = cc in omega arith)

there : (f : List ℤ → List ℤ) (o : Option (List ℤ)) (ys : List ℤ) → option_map f o ≡ Some ys → (zs : List ℤ) × (o ≡ Some zs) × (ys ≡ f zs)
there f None ys e = absurd (let z : ◌≡◌ {A = ℕ} 0 1 = cc in omega arith)
there f (Some zs) ys e = (zs, refl, cc)

first : (w : List ℕ) (ws : List (List ℕ)) (o : Option ℤ) → o ≡ number_of w → numbers_of (w ∷ ws) ≡ and_more o (numbers_of ws)
unfolding numbers_of
first w ws o e = ap (λ (x : Option ℤ). and_more x (numbers_of ws)) (sym e)

pub pushed_more : (was is next : List ℤ) (all left rest : List (List ℕ)) (had : ℕ) (w : List ℕ) (z : ℤ) → Pushed was all is left had → left ≡ w ∷ rest → Some z ≡ number_of w → next ≡ is ++ (kept z ∷ []) → Pushed was all next rest had
pushed_more was is next all left rest had w z p l n e =
    record {
      same = p.same ∙ ap (λ (ws : List (List ℕ)). option_map (λ zs. is ++ zs) (numbers_of ws)) l ∙ ap (option_map (λ zs. is ++ zs)) (first w rest (Some z) n) ∙ shifted (numbers_of rest);
      count = p.count;
      front = ap (take had) e ∙ take-append-le had is (kept z ∷ []) enough ∙ p.front;
    }
  where
    enough : had ≤ length is
    enough = omega (arith, p.count, ap length p.front, length-take had is)

    shifted : (o : Option (List ℤ)) → option_map (λ zs. is ++ zs) (and_more (Some z) o) ≡ option_map (λ zs. next ++ zs) o
    shifted None = refl
    shifted (Some zs) = ap Some (sym (append_assoc is (kept z ∷ []) zs) ∙ ap (λ (l : List ℤ). l ++ zs) (sym e))

pub pushed_all : (was is : List ℤ) (all left : List (List ℕ)) (had : ℕ) → Pushed was all is left had → left ≡ [] → (zs : List ℤ) × (numbers_of all ≡ Some zs) × (is ≡ was ++ zs)
pushed_all was is all left had p e =
    there (λ zs. was ++ zs) (numbers_of all) is (p.same ∙ ap (λ (ws : List (List ℕ)). option_map (λ zs. is ++ zs) (numbers_of ws)) e ∙ whole is)
  where
    whole : (is : List ℤ) → option_map (λ zs. is ++ zs) (numbers_of []) ≡ Some is
    whole is = ap (option_map (λ zs. is ++ zs)) none_left ∙ ap Some (append-nil is)

pub pushed_none : (was is back : List ℤ) (all left rest : List (List ℕ)) (had : ℕ) (w : List ℕ) → Pushed was all is left had → left ≡ w ∷ rest → None ≡ number_of w → back ≡ take had is → (numbers_of all ≡ None) × (back ≡ was)
pushed_none was is same all left rest had w p l n e =
    (back (λ zs. was ++ zs) (numbers_of all) (p.same ∙ ap (λ (ws : List (List ℕ)). option_map (λ zs. is ++ zs) (numbers_of ws)) l ∙ ap (option_map (λ zs. is ++ zs)) (first w rest None n)), e ∙ p.front)

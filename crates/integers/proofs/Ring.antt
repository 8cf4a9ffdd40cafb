-- ℤ is a commutative ring: the laws of `*ℤ` that the kit's library lacks, and `ring`, a set of them for `simp`, which proves identities without subtraction. Assumes nothing.
use Rattle.std.proofs.Common.{◌≡◌, ◌+◌, ◌*◌, ℤ, pos, ◌+ℤ◌, ◌*ℤ◌, neg_ℤ, sym, ap, ◌∙◌, ap₂, arith}
use lib.IntN.{+ℤ_comm, +ℤ_assoc, *ℤ_comm, neg_ℤ-+ℤ, neg_ℤ-neg_ℤ}
use borrow.Author.Differences.{up, down, ints, sum_is_lem, neg_is, product_is}

-- a sum's product by its positive and negative parts, for omega, which does not multiply sums out
pub sum_times_is : (x y z : ℤ) → up ((x +ℤ y) *ℤ z) + (down x + down y) * up z + (up x + up y) * down z ≡ down ((x +ℤ y) *ℤ z) + (up x + up y) * up z + (down x + down y) * down z
sum_times_is x y z =
    omega (arith, product_is (x +ℤ y) z, ap (λ n. n * up z) (sum_is_lem x y), ap (λ n. n * down z) (sum_is_lem x y))

pub times_sum_right : (x y z : ℤ) → (x +ℤ y) *ℤ z ≡ x *ℤ z +ℤ y *ℤ z
times_sum_right x y z = omega (arith, ints, sum_times_is x y z)

pub times_sum_left : (x y z : ℤ) → x *ℤ (y +ℤ z) ≡ x *ℤ y +ℤ x *ℤ z
times_sum_left x y z = *ℤ_comm x (y +ℤ z) ∙ times_sum_right y z x ∙ ap₂ ◌+ℤ◌ (*ℤ_comm y x) (*ℤ_comm z x)

pub times_assoc : (x y z : ℤ) → (x *ℤ y) *ℤ z ≡ x *ℤ (y *ℤ z)
times_assoc x y z =
    omega (arith, ints, ap (λ n. n * up z) (product_is x y).0, ap (λ n. n * down z) (product_is x y).0, ap (λ n. n * up z) (product_is x y).1, ap (λ n. n * down z) (product_is x y).1, ap (λ n. up x * n) (product_is y z).0, ap (λ n. down x * n) (product_is y z).0, ap (λ n. up x * n) (product_is y z).1, ap (λ n. down x * n) (product_is y z).1)

pub times_left_comm : (x y z : ℤ) → x *ℤ (y *ℤ z) ≡ y *ℤ (x *ℤ z)
times_left_comm x y z = sym (times_assoc x y z) ∙ ap (λ w. w *ℤ z) (*ℤ_comm x y) ∙ times_assoc y x z

pub neg_times : (x y : ℤ) → neg_ℤ x *ℤ y ≡ neg_ℤ (x *ℤ y)
neg_times x y =
    omega (arith, ints, ap (λ n. n * up y) (neg_is x).0, ap (λ n. n * down y) (neg_is x).0, ap (λ n. n * up y) (neg_is x).1, ap (λ n. n * down y) (neg_is x).1)

pub times_neg : (x y : ℤ) → x *ℤ neg_ℤ y ≡ neg_ℤ (x *ℤ y)
times_neg x y = *ℤ_comm x (neg_ℤ y) ∙ neg_times y x ∙ ap neg_ℤ (*ℤ_comm y x)

pub twice : (x : ℤ) → pos 2 *ℤ x ≡ x +ℤ x
twice x = omega (arith, ints)

pub thrice : (x : ℤ) → pos 3 *ℤ x ≡ x +ℤ (x +ℤ x)
thrice x = omega (arith, ints)

pub plus_left_comm : (x y z : ℤ) → x +ℤ (y +ℤ z) ≡ y +ℤ (x +ℤ z)
plus_left_comm x y z = omega (arith, ints)

pub ruleset ring = (twice, thrice, times_sum_left, times_sum_right, times_assoc, neg_times, times_neg, neg_ℤ-+ℤ, neg_ℤ-neg_ℤ, *ℤ_comm, times_left_comm, +ℤ_assoc, +ℤ_comm, plus_left_comm)

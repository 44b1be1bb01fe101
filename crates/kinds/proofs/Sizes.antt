-- The size of a whole number: of a sum, and within a range as far on either side of zero.
use mathlib.Core.Path.{◌≡◌}
use mathlib.Core.Bool.{true}
use Prim.Native.Nat.{ℕ, ◌+◌, ◌≤◌}
use native.Mathlib.Omega.{arith}
use lib.IntN.{ℤ, pos, neg_ℤ, nat_abs, ◌+ℤ◌}
use Rattle.std.proofs.lemmas.Int.{ints}
use lib.Signed.{le_z}
use Rattle.kinds.specs.Range.{either_side}
use Rattle.kinds.proofs.Within.{ranged_signed}

pub sum_size : (a b : ℤ) → nat_abs (a +ℤ b) ≤ nat_abs a + nat_abs b
sum_size a b = omega (arith, ints)

-- no further than n from zero, as two comparisons
pub above_least : (z : ℤ) (n : ℕ) → nat_abs z ≤ n → le_z (neg_ℤ (pos n)) z ≡ true
above_least z n h = grind (arith, ints)

pub below_most : (z : ℤ) (n : ℕ) → nat_abs z ≤ n → le_z z (pos n) ≡ true
below_most z n h = grind (arith, ints)

size_between : (z : ℤ) (n : ℕ) → le_z (neg_ℤ (pos n)) z ≡ true → le_z z (pos n) ≡ true → nat_abs z ≤ n
size_between z n l h = grind (arith, ints)

pub either_sided : {A : Type 0} (P : A → Type 0) (f : ℤ → A) (other : A) (x : ℤ) (most : ℕ) → (nat_abs x ≤ most → P (f x)) → P other → P (either_side x most f other)
either_sided P f other x most h out = ranged_signed P f other x (neg_ℤ (pos most)) (pos most) (λ l r. h (size_between x most l r)) out

-- Keys that are equal, and those that are not.
use mathlib.Core.Path.{◌≡◌}
use mathlib.Core.Bool.{true, false, ◌||◌}
use native.Mathlib.Omega.{arith}
use lib.IntN.{ℤ}
use Rattle.std.proofs.lemmas.Int.{ints}
use lib.Signed.{lt_z, le_z}

-- numbers that are each at most the other are equal
pub at_most_each : (k l : ℤ) → le_z k l ≡ true → le_z l k ≡ true → k ≡ l
at_most_each k l e f = grind (arith, ints)

pub equal_keys : (k l : ℤ) → (lt_z k l || lt_z l k) ≡ false → k ≡ l
equal_keys k l e = grind (arith, ints)

pub not_below_itself : (k : ℤ) → lt_z k k ≡ false
not_below_itself k = grind (arith, ints)

pub unequal_keys : (k l : ℤ) → (lt_z k l || lt_z l k) ≡ true → k ≡ l → ⊥
unequal_keys k l t e = grind (arith, ints)

pub not_above_itself : (k : ℤ) → le_z k k ≡ true
not_above_itself k = grind (arith, ints)

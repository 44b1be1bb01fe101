-- Numbers from outside, and the ranges that a kind sets for them. Source: document 01, "Objects and numbers"; request Q-1: a range may reach below zero.
use Rattle.std.specs.Prelude.{ℕ, cond, ◌&&◌, ℤ, pos, neg_ℤ, nat_abs}
use Rattle.std.specs.Int.Signed.{le_z}

-- what f makes of the number, where it is from low to high; else the other
abbrev pub in_signed : {A : Type 0} → ℤ → ℤ → ℤ → (ℤ → A) → A → A
in_signed x low high f other = cond (le_z low x && le_z x high) (f x) other

-- of a range from zero up, in which a number is its size
abbrev pub in_range : {A : Type 0} → ℤ → ℕ → ℕ → (ℕ → A) → A → A
in_range x low high f other = in_signed x (pos low) (pos high) (λ z. f (nat_abs z)) other

-- of a range that reaches as far on either side of zero
abbrev pub either_side : {A : Type 0} → ℤ → ℕ → (ℤ → A) → A → A
either_side x most f other = in_signed x (neg_ℤ (pos most)) (pos most) f other

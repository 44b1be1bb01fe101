-- The turn of a loop that climbs from x and stands at y: it goes on to z, the number above y.
use Prim.Native.Nat.{ℕ, ◌+◌, ◌≤◌, ◌<◌}
use mathlib.Core.Bool.{Bool, false}
use mathlib.Core.Path.{◌≡◌, sym, ap, ◌∙◌}
use native.Mathlib.Omega.{arith}
use Rattle.below.specs.Climb.{Lower, up_any}
use Rattle.below.proofs.Climb.{lower_to, up_next}

module _ (above : ℕ → ℕ) (x y z : ℕ) (w : Lower (x + 1) above) (le : y ≤ x) (some : y ≡ 0 → ⊥) (is : z ≡ above y) where
  pub turn_less : z < y
  turn_less = omega (arith, w.lower y (omega arith) (omega arith))

  pub turn_same : (p : ℕ → Bool) → p y ≡ false → up_any above p y ≡ up_any above p x → up_any above p z ≡ up_any above p x
  turn_same p n e = ap (up_any above p) is ∙ sym (up_next above p y (lower_to above (x + 1) (y + 1) w (omega arith)) some n) ∙ e

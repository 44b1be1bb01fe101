-- What `openable` says, and ways to it.
use Prim.Native.Nat.{ℕ, ◌≤◌}
use mathlib.Core.Path.{◌≡◌}
use mathlib.Core.Bool.{Bool, true, false, and-eq-true_iff}
use mathlib.Core.List.{List}
use native.Mathlib.Omega.{arith}
use lib.IntN.{ℤ}
use lib.Dec.{eqb, leb, ltb}
use lib.ListN.{length}
use borrow.Author.Tests.{leb-true, eq-eqb, le-leb, lt-ltb, le-ltb}
use Rattle.below.specs.Below.{all_below}
use Rattle.refusal.specs.Open.{opens_at, openable}

module _ (kinds : List ℕ) (openings : List ℤ) where
  module _ (e : length kinds ≡ length openings) where
    pub none : length kinds ≡ 0 → false ≡ openable kinds openings
    none z = rw (eq-eqb (length kinds) (length openings) e, le-ltb 0 (length kinds) (omega arith))

    module _ (s : length kinds ≡ 0 → ⊥) where
      pub each : length kinds ≤ 64 → (b : Bool) → b ≡ all_below (length kinds) (opens_at kinds openings) → b ≡ openable kinds openings
      each h b q = rw (eq-eqb (length kinds) (length openings) e, lt-ltb 0 (length kinds) (omega arith), le-leb (length kinds) 64 h) q

  -- what it says of the lengths
  pub few : openable kinds openings ≡ true → length kinds ≤ 64
  few e =
      let b = ((and-eq-true_iff (eqb (length kinds) (length openings)) _).0 e).1 in
      leb-true (length kinds) 64 ((and-eq-true_iff (leb (length kinds) 64) _).0 ((and-eq-true_iff (ltb 0 (length kinds)) _).0 b).1).0

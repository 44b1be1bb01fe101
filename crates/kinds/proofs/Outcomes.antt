-- Outcomes are told apart.
use mathlib.Core.Path.{◌≡◌}
use Prim.Native.Nat.{ℕ}
use lib.IntN.{ℤ, pos}
use Rattle.kinds.specs.declared.outcome.Outcome.TheVariants.{Ok, Fail, Value}

pub value_is : {v w : ℤ} → Value v ≡ Value w → v ≡ w
value_is e = cc

pub size_is : {n m : ℕ} → Value (pos n) ≡ Value (pos m) → n ≡ m
size_is e = cc

pub ok_not_fail : Ok ≡ Fail → ⊥
ok_not_fail e = cc

-- What an optional lowest number says of the lowest number.
use Rattle.std.specs.Prelude.{Some, None}
use Prim.Native.Nat.{ℕ, ◌<◌, ◌≤◌}
use mathlib.Core.Path.{◌≡◌, sym, ◌∙◌}
use mathlib.Core.Bool.{Bool, true}
use borrow.Author.Tests.{ltb-false}
use Rattle.below.specs.Below.{any_below, first_below, found_below}
use Rattle.below.proofs.Search.{any_found, first_any, found_first, found_lowest, found_nothing}

module _ (p : ℕ → Bool) (n : ℕ) where
  pub found_is : (k : ℕ) → Some k ≡ found_below n p → (any_below n p ≡ true) × (k ≡ first_below n p)
  found_is k e =
      let l = found_lowest p n k (sym e) in
      let a = any_found p n k l.small l.passes in
      (a, cc (e ∙ found_first p n a))

  pub found_small : (k : ℕ) → Some k ≡ found_below n p → k < n
  found_small k e = (found_lowest p n k (sym e)).small

  pub past_all : None ≡ found_below n p → n ≤ first_below n p
  past_all e = ltb-false (first_below n p) n (first_any p n ∙ found_nothing p n (sym e))

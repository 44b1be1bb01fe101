-- `all` over the numbers of a range is the test of each number below its end.
use Prim.Native.Nat.{ℕ, zero, suc, ◌+◌, ◌-◌}
use mathlib.Core.Bool.{Bool, true, false, ◌&&◌, and_assoc}
use mathlib.Core.List.{List}
use mathlib.Core.Path.{◌≡◌, refl, sym, ap, ◌∙◌}
use native.Mathlib.Numerals.{add-one}
use native.Mathlib.Omega.{arith}
use denote.Param.Members.{Mut}
use Rattle.std.specs.Prelude.{Option, MatchOption}
use Rattle.std.specs.declared.ops.Range.{Range}
use Rattle.std.specs.Iterator.{YieldsThen}
use Rattle.std.proofs.iter.Yields.{nat_range_steps}
use Rattle.std.specs.List.{FoldsTo, list_all, range_with_len}
use Rattle.std.specs.Fn.{Called}
use Rattle.std.proofs.Math.Bool.{and-true}
use Rattle.std.proofs.lemmas.Iterator.{YieldsList-from_range}
use Rattle.std.proofs.lemmas.Iterator.Search.{all_from_yields_List}
use Rattle.below.specs.Below.{all_below}

module _ (p : ℕ → Bool) where
  ranged : (n a m : ℕ) → a + n ≡ m → all_below m p ≡ (all_below a p && list_all p (range_with_len a n))
  unfolding all_below
  ranged zero a m e = let s : m ≡ a = omega arith in rw s (sym (and-true (all_below a p)))
  ranged (suc n) a m e =
      let rest = list_all p (range_with_len (a + 1) n) in
      let one_more : all_below (a + 1) p ≡ (all_below a p && p a) = rw add-one refl in
      ranged n (a + 1) m (omega arith) ∙ ap (λ b. b && rest) one_more ∙ and_assoc (all_below a p) (p a) rest

  in_range : (n : ℕ) → list_all p (range_with_len 0 (n - 0)) ≡ all_below n p
  unfolding all_below
  in_range n = let s : n - 0 ≡ n = omega arith in rw s (sym (ranged n 0 n (omega arith)))

  -- what `all` tells of its calls, each of which tells p
  module _ {F : Type 0} {g : Mut F (ℕ × Unit {0}) Bool} (n : ℕ) (f : F) (u : Range ℕ) (r : Bool) where
    pub all_in_range : (xs : List ℕ) × (o : Option ℕ) × (j : F) × YieldsThen nat_range_steps (record { start = 0; end = n }) xs o u × FoldsTo (λ p x q. Called g p (x, tt) true q) f xs j
        × MatchOption o (r ≡ true) (λ x. (r ≡ false) × ((h : F) × Called g j (x, tt) false h))
        → ((x : ℕ) (b : Bool) (q : F) → Called g f (x, tt) b q → (q ≡ f) × (b ≡ p x)) → r ≡ all_below n p
    all_in_range ran calls = all_from_yields_List p u f r ran (YieldsList-from_range 0 n _ refl refl) calls ∙ in_range n

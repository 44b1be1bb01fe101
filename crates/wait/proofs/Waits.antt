-- The search for the first access in the way, where the holders that it passes over are marked.
use Rattle.std.specs.Prelude.{Option, Some, None, MatchOption}
use Prim.Native.Nat.{ℕ, ◌+◌, ◌<◌, ◌≤◌}
use mathlib.Core.Bool.{Bool, true, false}
use mathlib.Core.Path.{◌≡◌, refl, sym, ◌∙◌}
use mathlib.Core.List.{List}
use native.Mathlib.Omega.{arith}
use lib.ListN.{get_or}
use Rattle.below.specs.Below.{found_below}
use Rattle.below.proofs.Search.{found_ranged}
use Rattle.columns.specs.Column.{at, rows_most}
use Rattle.columns.specs.Tree.{at_or_above, marks_of}
use Rattle.columns.proofs.Marks.{mark_of}
use Rattle.kinds.specs.declared.Kind.{Kind}
use Rattle.kinds.specs.declared.Answered.{Answered}
use Rattle.wait.specs.Wait.{blocks_outside, blocks}

module _ (count : ℕ) (few : count < rows_most) (parent holder place object : List ℕ) (holders : (k : ℕ) → k < count + 1 → at holder k < count + 1)
    (recorded : ℕ → Option Answered) (kind : Kind) (o t : ℕ) (asking : Answered) (above : List Bool) (marked : above ≡ marks_of rows_most (λ h. at_or_above parent t h)) where
  abbrev outside : ℕ → Bool
  outside x = blocks_outside (λ h. get_or above h false) holder place object recorded kind o asking x

  abbrev in_way : ℕ → Bool
  in_way x = blocks parent holder place object recorded kind o t asking x

  -- a marked holder is one at or above t
  told : (x : ℕ) → x < count + 1 → outside x ≡ in_way x
  told x h =
      let q : get_or above (at holder x) false ≡ at_or_above parent t (at holder x) =
      mark_of (λ h. at_or_above parent t h) rows_most (at holder x) (at holder x) above marked (omega arith) refl (omega (arith, holders x h)) in
      rw q

  pub first_in_way : (r : Option ℕ)
      → MatchOption r ((k : ℕ) → 0 ≤ k → k < count + 1 → outside k ≡ false) (λ i. (0 ≤ i) × (i < count + 1) × (outside i ≡ true) × ((k : ℕ) → 0 ≤ k → k < i → outside k ≡ false))
      → r ≡ found_below (count + 1) in_way
  first_in_way None m = found_ranged in_way None (count + 1) (λ k z h. sym (told k h) ∙ m k z h)
  first_in_way (Some i) m =
      found_ranged in_way (Some i) (count + 1) (m.0, m.1, sym (told i m.1) ∙ m.2, λ k z h. sym (told k (omega (arith, m.1))) ∙ m.3 k z h)

-- The tree keeps its form: when a transaction commits or aborts, when one is created, and at an opening.
use Prim.Native.Nat.{ℕ, ◌+◌, ◌<◌, ◌≤◌}
use mathlib.Core.Path.{◌≡◌, sym, ◌∙◌}
use mathlib.Core.Logic.{◌⊎◌, inl, inr, ⊎_elim}
use mathlib.Core.List.{List}
use native.Mathlib.Omega.{arith}
use lib.ListN.{length, set, replicate, length-set, get_or-eq_default}
use lib.Seq.{get_or-set_same, get_or-set_other}
use Rattle.below.proofs.Tests.{same_or, le_or}
use Rattle.below.proofs.Column.{filled_at}
use Rattle.columns.specs.Column.{at, rows_most}
use Rattle.columns.specs.Tree.{has_aborted}
use Rattle.form.specs.Form.{count_most}
use Rattle.form.proofs.Facts.{Used, Transaction, Tree}

-- a write at t takes, or t lies outside and nothing changes
pub set_or : (column : List ℕ) (t v : ℕ) → (at (set column t v) t ≡ v) ⊎ (at (set column t v) t ≡ at column t)
set_or column t v =
    ⊎_elim (λ s. inr (get_or-eq_default (set column t v) 0 (rw length-set s) ∙ sym (get_or-eq_default column 0 s)))
    (λ s. inl (get_or-set_same column t v 0 s)) (le_or (length column) t)

-- the rows up to count do not see a write at the next
pub set_next : (column : List ℕ) (count v k : ℕ) → k ≤ count → at (set column (count + 1) v) k ≡ at column k
set_next column count v k b = get_or-set_other column (count + 1) k v 0 (λ e. omega arith)

module _ (count : ℕ) (parent state operation : List ℕ) (tree : Tree count parent state operation) where
  -- t gets another state
  pub state_kept : (t v : ℕ) → Used count t → v ≤ has_aborted → Tree count parent (set state t v) operation
  state_kept t v u b = record {
    few = tree.few;
    rows = λ k w. record { lower = (tree.rows k w).lower; plain_above = (tree.rows k w).plain_above; stated = stated k w };
    unused_parent = tree.unused_parent;
    unused_state = λ k h n. other k (λ e. n (rw e u)) ∙ tree.unused_state k h n;
  }
    where
      other : (k : ℕ) → (k ≡ t → ⊥) → at (set state t v) k ≡ at state k
      other k n = get_or-set_other state t k v 0 n

      stated : (k : ℕ) → Used count k → at (set state t v) k ≤ has_aborted
      stated k w =
          ⊎_elim (λ e. rw e (⊎_elim (λ q. rw q b) (λ q. rw q (tree.rows t u).stated) (set_or state t v)))
          (λ n. rw (other k n) (tree.rows k w).stated) (same_or k t)

  -- the next number gets a row under p; the operations of the rows before it are as they were
  module _ (p : ℕ) (after : List ℕ) (room : count < count_most) (known : p ≤ count) (plain : at operation p ≡ 0) (root : at operation 0 ≡ 0)
      (same : (k : ℕ) → k ≤ count → at after k ≡ at operation k) where
    abbrev parents : List ℕ
    parents = set parent (count + 1) p

    other : (k : ℕ) → (k ≡ count + 1 → ⊥) → at parents k ≡ at parent k
    other k n = get_or-set_other parent (count + 1) k p 0 n

    fresh : Used count (count + 1) → ⊥
    fresh u = omega (arith, u.1)

    -- the new row, also where its parent lies outside the column, which then reads 0
    new_row : Transaction (count + 1) (at parents (count + 1)) (at state (count + 1)) (at after (at parents (count + 1)))
    new_row =
        let stated = tree.unused_state (count + 1) (omega arith) fresh in
        let none = tree.unused_parent (count + 1) (omega arith) fresh in
        ⊎_elim
        (λ e. record { lower = omega arith; plain_above = rw e (same p known ∙ plain); stated = omega arith })
        (λ e. let z : at parents (count + 1) ≡ 0 = e ∙ none in
        record { lower = omega arith; plain_above = rw z (same 0 (omega arith) ∙ root); stated = omega arith })
        (set_or parent (count + 1) p)

    old_row : (k : ℕ) → Used count k → Transaction k (at parents k) (at state k) (at after (at parents k))
    old_row k u =
        let r = tree.rows k u in
        let e = other k (λ e. omega (arith, u.1)) in
        record { lower = rw e r.lower; plain_above = rw e (same (at parent k) (omega (arith, r.lower, u.1)) ∙ r.plain_above); stated = r.stated }

    past : (k : ℕ) → (Used (count + 1) k → ⊥) → (k ≡ count + 1 → ⊥) × (Used count k → ⊥)
    past k n = ((λ e. n (omega arith)), (λ u. n (u.0, omega (arith, u.1))))

    pub tree_created : Tree (count + 1) (set parent (count + 1) p) state after
    tree_created = record {
      few = omega arith;
      rows = λ k u. ⊎_elim (λ e. rw e new_row) (λ n. old_row k (u.0, omega (arith, u.1))) (same_or k (count + 1));
      unused_parent = λ k h n. other k (past k n).0 ∙ tree.unused_parent k h (past k n).1;
      unused_state = λ k h n. tree.unused_state k h (past k n).1;
    }

pub tree_opened : Tree 0 (replicate rows_most 0) (replicate rows_most 0) (replicate rows_most 0)
tree_opened = record {
  few = omega arith;
  rows = λ k u. absurd (omega arith);
  unused_parent = λ k h n. filled_at 0 rows_most k;
  unused_state = λ k h n. filled_at 0 rows_most k;
}

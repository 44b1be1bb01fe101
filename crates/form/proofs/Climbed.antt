-- The laws of a climb that marks its way: what is known of each row, from the start, at a turn, and where the climb ends.
use Prim.Native.Nat.{ℕ, ◌+◌, ◌<◌, ◌≤◌}
use mathlib.Core.Bool.{true, or-true, true≢false}
use mathlib.Core.Path.{◌≡◌, refl, sym, ◌∙◌}
use mathlib.Core.Logic.{⊎_elim}
use mathlib.Core.List.{List}
use native.Mathlib.Omega.{arith}
use lib.Dec.{eqb}
use lib.ListN.{set, replicate}
use lib.Seq.{get_or-set_other}
use borrow.Author.Tests.{eq-eqb, ne_eqb}
use Rattle.below.specs.Climb.{Lower}
use Rattle.below.proofs.Tests.{bool_or, not_so, same_or}
use Rattle.below.proofs.Column.{filled_at}
use Rattle.below.proofs.Climb.{lower_to, climb_ind, up_here, up_step, up_le}
use Rattle.columns.specs.Column.{at, rows_most}
use Rattle.columns.specs.Tree.{at_or_above}
use Rattle.columns.proofs.Climbing.{turn_less, turn_same}
use Rattle.form.specs.Known.{Known}
use Rattle.form.proofs.KeptTree.{set_or}

-- a climb from x to h that stands at y: if h is there or above, what is marked is true; the rows up to y are not marked yet
pub record Climbing (parent before above : List ℕ) (x h y : ℕ) : Type 0 where
  pub le : y ≤ x
  pub same : at_or_above parent y h ≡ at_or_above parent x h
  pub ahead : (k : ℕ) → k ≤ y → at above k ≡ at before k
  pub marked : at_or_above parent y h ≡ true → Known parent above

module _ (parent : List ℕ) (w : Lower rows_most (at parent)) where
  root_above : (k : ℕ) → k < rows_most → at_or_above parent k 0 ≡ true
  root_above =
      climb_ind (at parent) rows_most w (λ k. at_or_above parent k 0 ≡ true) (up_here (at parent) (λ y. eqb y 0) 0 refl)
      (λ k z l e. up_step (at parent) (λ y. eqb y 0) k (lower_to (at parent) rows_most (k + 1) w (omega arith)) z ∙ rw e (or-true (eqb k 0)))

  -- at first the root is known
  pub known_start : Known parent (replicate rows_most 0)
  known_start = record { known = λ k h. rw (filled_at {A = ℕ} 0 rows_most k) (root_above k h) }

  pub climbing_start : (before : List ℕ) (x h : ℕ) → Known parent before → Climbing parent before before x h x
  climbing_start before x h known = record { le = omega arith; same = refl; ahead = λ k l. refl; marked = λ e. known }

  mark_known : (above : List ℕ) (h y : ℕ) → Known parent above → at_or_above parent y h ≡ true → Known parent (set above y h)
  mark_known above h y known e = record {
    known = λ k l. ⊎_elim (λ q. rw q (⊎_elim (λ s. rw s e) (λ s. rw s (known.known y (rw q at l))) (set_or above y h)))
        (λ n. rw (get_or-set_other above y k h 0 n) (known.known k l)) (same_or k y);
  }

  module _ (before above : List ℕ) (x h y : ℕ) (known : Known parent before) (b : x < rows_most) (c : Climbing parent before above x h y) where
    -- a turn: y is marked, and the climb goes on from the one above it
    pub climbing_turn : (z : ℕ) → h < y → z ≡ at parent y → Climbing parent before (set above y h) x h z
    climbing_turn z l is =
        let low = lower_to (at parent) rows_most (x + 1) w (omega arith) in
        let less : z < y = turn_less (at parent) x y z low c.le (λ e. omega arith) is in
        let same : at_or_above parent z h ≡ at_or_above parent x h =
        turn_same (at parent) x y z low c.le (λ e. omega arith) is (λ k. eqb k h) (ne_eqb y h (λ e. omega arith)) c.same in
        record {
          le = omega (arith, c.le);
          same = same;
          ahead = λ k q. get_or-set_other above y k h 0 (λ e. omega arith) ∙ c.ahead k (omega arith);
          marked = λ e. let up = c.same ∙ sym same ∙ e in mark_known above h y (c.marked up) up;
        }

    -- a row where a climb to h has gone before
    pub climbing_met : at above y ≡ h → at_or_above parent y h ≡ true
    climbing_met e = let met : at before y ≡ h = sym (c.ahead y (omega arith)) ∙ e in rw met at (known.known y (omega (arith, c.le)))

    -- h, or a row below it
    pub climbing_end : y ≤ h → at_or_above parent y h ≡ eqb y h
    climbing_end l =
        let not_higher : at_or_above parent y h ≡ true → h ≤ y = up_le (at parent) rows_most w h y (omega (arith, c.le)) in
        ⊎_elim (λ t. up_here (at parent) (λ k. eqb k h) y t ∙ sym t)
        (λ f. not_so _ (λ t. true≢false (sym (eq-eqb y h (omega (arith, not_higher t))) ∙ f)) ∙ sym f) (bool_or (eqb y h))

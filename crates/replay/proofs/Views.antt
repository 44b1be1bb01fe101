-- The laws of views, and that a view has no more entries than the order: an entry has one holder, and those above a transaction are lower.
use Prim.Native.Nat.{ℕ, ◌+◌, ◌<◌, ◌≤◌}
use mathlib.Core.Path.{◌≡◌, sym, ap₂, ◌∙◌}
use mathlib.Core.Bool.{true, false, cond, false≢true}
use mathlib.Core.List.{List, [], ◌++◌}
use mathlib.Core.Logic.{⊎_elim}
use native.Mathlib.Omega.{arith}
use lib.Dec.{eqb, leb}
use lib.ListN.{length, length-append}
use borrow.Author.Tests.{eqb-true, leb-true, le-leb, ne_eqb}
use Rattle.below.specs.Climb.{Lower}
use Rattle.below.proofs.Climb.{lower_to, climb_root, climb_step, climb_ind}
use Rattle.below.proofs.Tests.{and_fst, same_or}
use Rattle.columns.specs.Column.{at}
use Rattle.columns.specs.Work.{only, on_list, list_in}
use Rattle.columns.proofs.Work.{Each, each_append, only_le, only_within}
use Rattle.replay.specs.View.{view_in}

module _ (parent : List ℕ) (own : ℕ → List ℕ) where
  pub view_root : view_in parent own 0 ≡ own 0
  view_root = climb_root (at parent) (own 0) (λ u above. above ++ own u)

  pub view_step : (t : ℕ) → Lower (t + 1) (at parent) → 0 < t → view_in parent own t ≡ view_in parent own (at parent t) ++ own t
  view_step t w z = climb_step (at parent) (own 0) (λ u above. above ++ own u) t w z

  -- what a view has before the own list
  abbrev pub before : ℕ → List ℕ
  before t = cond (eqb t 0) [] (view_in parent own (at parent t))

  pub view_parts : (t : ℕ) → Lower (t + 1) (at parent) → view_in parent own t ≡ before t ++ own t
  view_parts t w = ⊎_elim (λ e. rw e view_root) (λ n. rw (ne_eqb t 0 n) (view_step t w (omega arith))) (same_or t 0)

-- lists that agree give the same view
pub view_same : (parent : List ℕ) (own other : ℕ → List ℕ) (n : ℕ) → Lower n (at parent) → ((u : ℕ) → u < n → own u ≡ other u)
    → (t : ℕ) → t < n → view_in parent own t ≡ view_in parent other t
view_same parent own other n w e t h =
    climb_ind (at parent) n w (λ x. view_in parent own x ≡ view_in parent other x)
    (view_root parent own ∙ e 0 (omega arith) ∙ sym (view_root parent other))
    (λ x z l i.
    let v = lower_to (at parent) n (x + 1) w (omega arith) in
    view_step parent own x v z ∙ ap₂ ◌++◌ i (e x l) ∙ sym (view_step parent other x v z))
    t h

-- what holds of each entry of every list holds of each of a view
pub view_each : (parent : List ℕ) (own : ℕ → List ℕ) (P : ℕ → Type 0) (n : ℕ) → Lower n (at parent) → ((u : ℕ) → Each P (own u)) → (t : ℕ) → t < n → Each P (view_in parent own t)
view_each parent own P n w each =
    climb_ind (at parent) n w (λ t. Each P (view_in parent own t)) (rw (view_root parent own) (each 0))
    (λ t z l up. rw (view_step parent own t (lower_to (at parent) n (t + 1) w (omega arith)) z) (each_append P (view_in parent own (at parent t)) (own t) up (each t)))

module _ (all holder object : List ℕ) (o : ℕ) where
  abbrev own : ℕ → List ℕ
  own = list_in all holder object o

  -- how much is held by t or a lower one
  abbrev up_to : ℕ → ℕ
  up_to t = length (only (λ x. leb (at holder x) t) all)

  held : (t x : ℕ) → on_list holder object o t x ≡ true → leb (at holder x) t ≡ true
  held t x e =
      let q = eqb-true (at holder x) t (and_fst (eqb (at holder x) t) (eqb (at object x) o) e) in
      le-leb (at holder x) t (omega arith)

  own_count : (t : ℕ) → length (own t) ≤ up_to t
  own_count t = omega (arith, only_within (λ x. false) (on_list holder object o t) (λ x. leb (at holder x) t) all (λ x e. absurd (false≢true e)) (held t))

  more_count : (p t : ℕ) → p < t → up_to p + length (own t) ≤ up_to t
  more_count p t h = only_within (λ x. leb (at holder x) p) (on_list holder object o t) (λ x. leb (at holder x) t) all
      (λ x e. let l = leb-true (at holder x) p e in (rw (ne_eqb (at holder x) t (λ q. omega arith)), le-leb (at holder x) t (omega arith)))
      (held t)

  view_count : (parent : List ℕ) (n : ℕ) → Lower n (at parent) → (t : ℕ) → t < n → length (view_in parent own t) ≤ up_to t
  view_count parent n w =
      climb_ind (at parent) n w (λ t. length (view_in parent own t) ≤ up_to t) (rw (view_root parent own) (own_count 0))
      (λ t z l i. rw (view_step parent own t (lower_to (at parent) n (t + 1) w (omega arith)) z, length-append (view_in parent own (at parent t)) (own t))
      (omega (arith, i, more_count (at parent t) t (w.lower t z l))))

  pub view_short : (parent : List ℕ) (n : ℕ) → Lower n (at parent) → (t : ℕ) → t < n → length (view_in parent own t) ≤ length all
  view_short parent n w t h = omega (arith, view_count parent n w t h, only_le (λ x. leb (at holder x) t) all)

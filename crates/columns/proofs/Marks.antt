-- The loops that mark a part of the tree.
use Prim.Native.Nat.{ℕ, ◌+◌, ◌<◌, ◌≤◌}
use mathlib.Core.Bool.{Bool, true, false, ◌||◌, or-true}
use mathlib.Core.Path.{◌≡◌, refl, sym, ap, ◌∙◌}
use mathlib.Core.List.{List}
use mathlib.Core.Logic.{⊎_elim}
use native.Mathlib.Omega.{arith}
use lib.ListN.{length, get_or, set, replicate, length-set, length-replicate}
use lib.Seq.{get_or-set_same, get_or-set_other, ext_get_or}
use lib.Dec.{eqb}
use borrow.Author.Tests.{eq-eqb, ne_eqb}
use Rattle.below.specs.Climb.{Lower}
use Rattle.below.proofs.Tests.{bool_or, same_or}
use Rattle.below.proofs.Climb.{up_here, up_stop, up_next}
use Rattle.below.proofs.Column.{set_length, set_at, filled_at}
use Rattle.columns.specs.Column.{at, rows_most}
use Rattle.columns.specs.Tree.{at_or_above, marks_of}

-- the mark of a row
abbrev pub mark : List Bool → ℕ → Bool
mark marks k = get_or marks k false

-- a column of marks: its length, its rows, and that these are all
module _ (p : ℕ → Bool) where
  marks_length : (rows : ℕ) → length (marks_of rows p) ≡ rows_most
  marks_length rows = set_length p rows (replicate rows_most false) ∙ length-replicate {A = Bool} rows_most false

  pub marks_at : (rows k : ℕ) → rows ≤ rows_most → k < rows → mark (marks_of rows p) k ≡ p k
  marks_at rows k b h = set_at p rows k (replicate rows_most false) false h (rw length-replicate (omega arith))

  pub mark_of : (rows h k : ℕ) (marks : List Bool) → marks ≡ marks_of rows p → rows ≤ rows_most → h ≡ k → h < rows → mark marks h ≡ p k
  mark_of rows h k marks m b e l = rw (m, ← e) (marks_at rows h b l)

  marks_all : (l : List Bool) → length l ≡ rows_most → ((k : ℕ) → k < rows_most → mark l k ≡ p k) → l ≡ marks_of rows_most p
  marks_all l n e =
      ext_get_or false l (marks_of rows_most p) (n ∙ sym (marks_length rows_most))
      (λ k b. let h : k < rows_most = omega arith in e k h ∙ sym (marks_at rows_most k (omega arith) h))

-- the climb from t stands at y: each at or above t is marked, or is at or above y
pub record Marking (parent : List ℕ) (t y : ℕ) (marks : List Bool) : Type 0 where
  pub size : length marks ≡ rows_most
  pub each : (h : ℕ) → h < rows_most → (at_or_above parent y h || mark marks h) ≡ at_or_above parent t h

none : (b : Bool) → (b || false) ≡ b
none true = refl
none false = refl

module _ (parent : List ℕ) (t : ℕ) where
  pub marking_start : Marking parent t t (replicate rows_most false)
  marking_start = record { size = length-replicate {A = Bool} rows_most false; each = λ h b. rw (filled_at {A = Bool} false rows_most h) (none (at_or_above parent t h)) }

  -- one more mark, at y: what a row has then is what it has now, or the mark of y
  mark_at : (y h : ℕ) (marks : List Bool) → y < length marks → mark (set marks y true) h ≡ (eqb y h || mark marks h)
  mark_at y h marks b =
      ⊎_elim (λ e. rw (eq-eqb y h e, ← e) (get_or-set_same marks y true false b))
      (λ n. rw (ne_eqb y h n) (get_or-set_other marks y h true false (λ e. n (sym e)))) (same_or y h)

  pub marking_turn : (y z : ℕ) (marks : List Bool) → Marking parent t y marks → y < rows_most → Lower (y + 1) (at parent) → (y ≡ 0 → ⊥) → z ≡ at parent y → Marking parent t z (set marks y true)
  marking_turn y z marks m b w n e = record {
    size = length-set marks y true ∙ m.size;
    each = λ h l. rw (mark_at y h marks (omega (arith, m.size)), e) (turn h ∙ m.each h l);
  }
    where
      turn : (h : ℕ) → (at_or_above parent (at parent y) h || (eqb y h || mark marks h)) ≡ (at_or_above parent y h || mark marks h)
      turn h =
          ⊎_elim (λ s. rw (eq-eqb y h s, up_here (at parent) (λ k. eqb k h) y (eq-eqb y h s)) (or-true (at_or_above parent (at parent y) h)))
          (λ d. rw (ne_eqb y h d, up_next (at parent) (λ k. eqb k h) y w n (ne_eqb y h d))) (same_or y h)

  pub marking_end : (y : ℕ) (marks : List Bool) → Marking parent t y marks → y ≡ 0 → set marks 0 true ≡ marks_of rows_most (λ h. at_or_above parent t h)
  marking_end y marks m z =
      marks_all (λ h. at_or_above parent t h) (set marks 0 true) (length-set marks 0 true ∙ m.size)
      (λ h b. mark_at 0 h marks (omega (arith, m.size)) ∙ ap (λ b. b || mark marks h) (sym (root h)) ∙ m.each h b)
    where
      root : (h : ℕ) → at_or_above parent y h ≡ eqb 0 h
      root h = ⊎_elim (λ s. up_here (at parent) (λ k. eqb k h) y (rw z s) ∙ sym s) (λ d. up_stop (at parent) (λ k. eqb k h) y z (rw z d) ∙ sym d) (bool_or (eqb 0 h))

-- the marks of those at or beneath t: none for the root, one for t, and for any other that of its parent
module _ (parent : List ℕ) (t : ℕ) where
  pub mark_root : 0 < t → at_or_above parent 0 t ≡ false
  mark_root z = up_stop (at parent) (λ y. eqb y t) 0 refl (ne_eqb 0 t (λ e. omega arith))

  pub mark_here : (k : ℕ) → k ≡ t → true ≡ at_or_above parent k t
  mark_here k e = sym (up_here (at parent) (λ y. eqb y t) k (eq-eqb k t e))

  pub mark_next : (k : ℕ) → Lower (k + 1) (at parent) → 0 < k → (k ≡ t → ⊥) → at_or_above parent (at parent k) t ≡ at_or_above parent k t
  mark_next k w z n = sym (up_next (at parent) (λ y. eqb y t) k w (λ e. omega arith) (ne_eqb k t n))

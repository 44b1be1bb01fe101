-- Past the rows in use each rule asks zeros alone: the test of every row is that of zeros from there on, and of the rows in use.
use Prim.Native.Nat.{ℕ, ◌+◌, ◌-◌, ◌<◌, ◌≤◌, zero, suc, min}
use mathlib.Core.Bool.{Bool, true, false, ◌&&◌, not}
use mathlib.Core.Path.{◌≡◌, refl, ap, ap₂, ◌∙◌}
use mathlib.Core.Logic.{⊎_elim}
use mathlib.Core.List.{List}
use native.Mathlib.Omega.{arith}
use lib.IntN.{ℤ}
use lib.Dec.{eqb, leb, ltb}
use borrow.Author.Tests.{lt-ltb, le-ltb, leb-true, eqb-true, eqb-false}
use Rattle.below.specs.Below.{all_below, all_from}
use Rattle.below.proofs.Tests.{bool_or, not_so, and_fst, and_snd}
use Rattle.below.proofs.Search.{all_at}
use Rattle.below.proofs.From.{all_split}
use Rattle.kinds.specs.Kinds.{kind_of, opened_of, opens}
use Rattle.columns.specs.Column.{at, at_z, rows_most, places_most}
use Rattle.columns.specs.Tree.{at_or_above}
use Rattle.form.specs.Form.{objects_most, count_most, is_zero, object_fine, objects_fine, tree_row, tree_fine, blank, access_row, accesses_fine, order_entry, list_row, lists_fine}
use Rattle.form.proofs.Facts.{not_used}

-- what comes behind a test may differ where it fails
and_same : (a x y : Bool) → (a ≡ true → x ≡ y) → (a && x) ≡ (a && y)
and_same true x y e = e refl
and_same false x y e = refl

all_same : (p q : ℕ → Bool) (n : ℕ) → ((k : ℕ) → k < n → p k ≡ q k) → all_below n p ≡ all_below n q
unfolding all_below
all_same p q zero e = refl
all_same p q (suc n) e = ap₂ ◌&&◌ (all_same p q n (λ k l. e k (omega arith))) (e n (omega arith))

-- the tests, as the code makes them
pub tree_parts : (count : ℕ) (parent state operation : List ℕ) → tree_fine count parent state operation
    ≡ (leb count count_most && (all_from (count + 1) rows_most (λ k. eqb (at parent k) 0 && eqb (at state k) 0) && all_below (count + 1) (tree_row count parent state operation)))
unfolding tree_fine
tree_parts count parent state operation =
    and_same (leb count count_most) _ _
    (λ t. let few : count ≤ count_most = leb-true _ _ t in
    all_split (tree_row count parent state operation) (λ k. eqb (at parent k) 0 && eqb (at state k) 0) (count + 1) rows_most (omega arith)
    (λ k l h. rw (not_used count k (λ u. omega arith))))

pub accesses_parts : (objects : ℕ) (kind : List ℕ) (count : ℕ) (object operation : List ℕ) (argument : List ℤ) (outcome : List ℕ) (value : List ℤ)
    → accesses_fine objects kind count object operation argument outcome value
    ≡ (all_from (min count count_most + 1) rows_most (λ k. blank (at object k) (at operation k) (at_z argument k) (at outcome k) (at_z value k))
    && all_below (min count count_most + 1) (access_row objects kind count object operation argument outcome value))
unfolding accesses_fine
accesses_parts objects kind count object operation argument outcome value =
    all_split (access_row objects kind count object operation argument outcome value)
    (λ k. blank (at object k) (at operation k) (at_z argument k) (at outcome k) (at_z value k)) (min count count_most + 1) rows_most (omega arith)
    (λ k l h. rw (not_used count k (λ u. omega arith)))

-- an object in use
abbrev pub object_opens : List ℕ → List ℤ → ℕ → Bool
object_opens kind opening o = opens (opened_of (kind_of (at kind o)) (at_z opening o))

pub objects_parts : (objects : ℕ) (kind : List ℕ) (opening : List ℤ) → objects_fine objects kind opening
    ≡ (leb objects objects_most && (all_from objects objects_most (λ o. eqb (at kind o) 0 && is_zero (at_z opening o)) && all_below objects (object_opens kind opening)))
unfolding objects_fine
objects_parts objects kind opening = and_same (leb objects objects_most) _ _
    (λ t. all_split (object_fine objects kind opening) (λ o. eqb (at kind o) 0 && is_zero (at_z opening o)) objects objects_most (leb-true _ _ t) (λ o l h. rw (le-ltb o objects l))
    ∙ ap (λ b. all_from objects objects_most (λ o. eqb (at kind o) 0 && is_zero (at_z opening o)) && b)
    (all_same (object_fine objects kind opening) (object_opens kind opening) objects (λ o l. rw (lt-ltb o objects l))))

-- past the places in use
module _ (count listed : ℕ) (order place : List ℕ) (few : listed ≤ places_most) where
  pub entries_split : all_below places_most (order_entry count listed order place)
      ≡ (all_from listed places_most (λ i. eqb (at order i) 0) && all_below listed (order_entry count listed order place))
  entries_split =
      all_split (order_entry count listed order place) (λ i. eqb (at order i) 0) listed places_most few (λ i l h. rw (le-ltb i listed l))

  -- where each entry is fine, what is listed is not past count
  module _ (entries : all_below places_most (order_entry count listed order place) ≡ true) where
    entry_known : (i : ℕ) → i < listed → at order i ≤ count
    entry_known i l =
        let all : (ltb 0 (at order i) && (leb (at order i) count && eqb (at place (at order i)) (i + 1))) ≡ true =
        rw (lt-ltb i listed l) at (all_at (order_entry count listed order place) places_most i entries (omega arith)) in
        leb-true _ _ (and_fst (leb (at order i) count) _ (and_snd (ltb 0 (at order i)) _ all))

    module _ (parent outcome holder : List ℕ) where
      unlisted : (k : ℕ) → count < k → list_row parent outcome listed order holder place k ≡ (eqb (at place k) 0 && eqb (at holder k) 0)
      unlisted k l = ⊎_elim (λ z. rw z) (λ n. rw n (not_so _ (λ t. known n t))) (bool_or (eqb (at place k) 0))
        where
          known : eqb (at place k) 0 ≡ false
              → (not (eqb (at outcome k) 0)
              && (leb (at place k) listed && (eqb (at order (at place k - 1)) k && at_or_above parent k (at holder k)))) ≡ true
              → ⊥
          known n t =
              let rest = and_snd (not (eqb (at outcome k) 0)) _ t in
              let within : at place k ≤ listed = leb-true _ _ (and_fst (leb (at place k) listed) _ rest) in
              let last = and_snd (leb (at place k) listed) _ rest in
              let stands : at order (at place k - 1) ≡ k = eqb-true _ _ (and_fst (eqb (at order (at place k - 1)) k) _ last) in
              let some : at place k ≡ 0 → ⊥ = eqb-false _ _ n in
              omega (arith, entry_known (at place k - 1) (omega arith))

      pub lists_split : count ≤ count_most → all_below rows_most (list_row parent outcome listed order holder place)
          ≡ (all_from (count + 1) rows_most (λ k. eqb (at place k) 0 && eqb (at holder k) 0)
          && all_below (count + 1) (list_row parent outcome listed order holder place))
      lists_split few =
          all_split (list_row parent outcome listed order holder place) (λ k. eqb (at place k) 0 && eqb (at holder k) 0) (count + 1) rows_most (omega arith)
          (λ k l h. unlisted k (omega arith))

pub lists_parts : (count : ℕ) (parent outcome : List ℕ) (listed : ℕ) (order holder place : List ℕ) → count ≤ count_most
    → lists_fine count parent outcome listed order holder place
    ≡ (leb listed places_most && (all_below places_most (order_entry count listed order place)
    && (all_from (count + 1) rows_most (λ k. eqb (at place k) 0 && eqb (at holder k) 0) && all_below (count + 1) (list_row parent outcome listed order holder place))))
unfolding lists_fine
lists_parts count parent outcome listed order holder place few = and_same (leb listed places_most) _ _
    (λ t. and_same (all_below places_most (order_entry count listed order place)) _ _ (λ e. lists_split count listed order place (leb-true _ _ t) e parent outcome holder few))

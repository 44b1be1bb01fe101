-- What the form rules say of each row: for each test a record, the test from the record and the record from the test.
-- A row's own record is over the row's values, so that a change elsewhere in a column leaves it as it is.
use Rattle.std.specs.Prelude.{Option, Some, None}
use Prim.Native.Nat.{ℕ, ◌+◌, ◌-◌, ◌<◌, ◌≤◌}
use mathlib.Core.Bool.{Bool, true, false, ◌&&◌, not, false≢true}
use mathlib.Core.Path.{◌≡◌, refl, sym, ap, ◌∙◌}
use mathlib.Core.Logic.{◌⊎◌, inl, inr, ⊎_elim}
use mathlib.Core.List.{List}
use native.Mathlib.Omega.{arith}
use lib.IntN.{ℤ, pos, negsuc}
use lib.Dec.{eqb, leb, ltb}
use Rattle.std.proofs.lemmas.Bool.Decides.{nat_tests}
use borrow.Author.Tests.{ltb-true, ltb-false, leb-true, eqb-true, lt-ltb, le-ltb, le-leb, eq-eqb, ne_eqb, eqb-false, not-true}
use Rattle.below.specs.Below.{all_below}
use Rattle.below.specs.Climb.{Lower}
use Rattle.below.proofs.Tests.{bool_or, not_so, same_or, le_or, and_both, and_fst, and_snd, by_cases}
use Rattle.below.proofs.Search.{all_at, all_of}
use Rattle.below.proofs.Climb.{up_le}
use Rattle.kinds.specs.declared.Operation.{Operation}
use Rattle.kinds.specs.declared.outcome.Outcome.{Outcome}
use Rattle.kinds.specs.Kinds.{kind_of, opened_of, opens, decode_of, recall_of}
use Rattle.columns.specs.Column.{at, at_z, rows_most, places_most}
use Rattle.columns.specs.Tree.{has_aborted, at_or_above}
use Rattle.columns.specs.Work.{Sound}
use Rattle.form.specs.Form.{objects_most, count_most, is_zero, object_fine, objects_fine, used, tree_row, tree_fine, is_access, given, fits, blank, access_row, accesses_fine, list_row, order_entry, lists_fine}

pub zero_is : (z : ℤ) → is_zero z ≡ true → z ≡ pos 0
zero_is (pos n) e = ap pos (eqb-true n 0 e)
zero_is (negsuc n) e = cc

pub is_zero_lem : (z : ℤ) → z ≡ pos 0 → is_zero z ≡ true
is_zero_lem z e = rw e

-- the objects
pub record Objects (objects : ℕ) (kind : List ℕ) (opening : List ℤ) : Type 0 where
  pub few : objects ≤ objects_most
  pub opened : (o : ℕ) → o < objects → opens (opened_of (kind_of (at kind o)) (at_z opening o)) ≡ true
  pub unused_kind : (o : ℕ) → objects ≤ o → o < objects_most → at kind o ≡ 0
  pub unused_opening : (o : ℕ) → objects ≤ o → o < objects_most → at_z opening o ≡ pos 0

module _ (objects : ℕ) (kind : List ℕ) (opening : List ℤ) where
  pub objects_facts : objects_fine objects kind opening ≡ true → Objects objects kind opening
  unfolding objects_fine
  objects_facts e =
      let few : objects ≤ objects_most = leb-true objects objects_most (and_fst (leb objects objects_most) _ e) in
      let each : (o : ℕ) → o < objects_most → object_fine objects kind opening o ≡ true =
      λ o h. all_at (object_fine objects kind opening) objects_most o (and_snd (leb objects objects_most) _ e) h in
      let unused : (o : ℕ) → objects ≤ o → o < objects_most → (eqb (at kind o) 0 && is_zero (at_z opening o)) ≡ true =
      λ o l h. rw (le-ltb o objects l) at (each o h) in
      record {
        few = few;
        opened = λ o h. rw (lt-ltb o objects h) at (each o (omega arith));
        unused_kind = λ o l h. let z = unused o l h in grind (arith, nat_tests);
        unused_opening = λ o l h. zero_is _ (and_snd (eqb (at kind o) 0) _ (unused o l h));
      }

  pub objects_fine_lem : Objects objects kind opening → objects_fine objects kind opening ≡ true
  unfolding objects_fine
  objects_fine_lem f =
      and_both (leb objects objects_most) _ (le-leb _ _ f.few)
      (all_of (object_fine objects kind opening) objects_most
      (λ o h. by_cases (ltb o objects) _ _ (λ t. f.opened o (ltb-true _ _ t))
      (λ n. let l : objects ≤ o = ltb-false o objects n in rw (f.unused_kind o l h) (is_zero_lem _ (f.unused_opening o l h)))))

-- a row is a transaction's, or else the root's or unused
abbrev pub Used : ℕ → ℕ → Type 0
Used count k = (0 < k) × (k ≤ count)

module _ (count k : ℕ) where
  pub used_or : Used count k ⊎ (Used count k → ⊥)
  used_or = ⊎_elim (λ z. inr (λ u. omega arith)) (λ z. ⊎_elim (λ l. inl (omega arith)) (λ l. inr (λ u. omega arith)) (le_or k count)) (same_or k 0)

  is_used : Used count k → used count k ≡ true
  is_used u = and_both (ltb 0 k) _ (lt-ltb 0 k u.0) (le-leb k count u.1)

  used_is : used count k ≡ true → Used count k
  used_is e = (ltb-true 0 k (and_fst (ltb 0 k) _ e), leb-true k count (and_snd (ltb 0 k) _ e))

  pub not_used : (Used count k → ⊥) → used count k ≡ false
  not_used n = not_so (used count k) (λ t. n (used_is t))

  unused_is : used count k ≡ false → Used count k → ⊥
  unused_is f u = false≢true (sym f ∙ is_used u)

-- a transaction k, its parent, its state, and its parent's operation
pub record Transaction (k parent state operation : ℕ) : Type 0 where
  pub lower : parent < k
  pub plain_above : operation ≡ 0
  pub stated : state ≤ has_aborted

pub record Tree (count : ℕ) (parent state operation : List ℕ) : Type 0 where
  pub few : count ≤ count_most
  pub rows : (k : ℕ) → Used count k → Transaction k (at parent k) (at state k) (at operation (at parent k))
  pub unused_parent : (k : ℕ) → k < rows_most → (Used count k → ⊥) → at parent k ≡ 0
  pub unused_state : (k : ℕ) → k < rows_most → (Used count k → ⊥) → at state k ≡ 0

module _ (count : ℕ) (parent state operation : List ℕ) where
  pub tree_facts : tree_fine count parent state operation ≡ true → Tree count parent state operation
  unfolding tree_fine
  tree_facts e =
      let each : (k : ℕ) → k < rows_most → tree_row count parent state operation k ≡ true =
      λ k h. all_at (tree_row count parent state operation) rows_most k (and_snd (leb count count_most) _ e) h in
      let few : count ≤ count_most = leb-true count count_most (and_fst (leb count count_most) _ e) in
      let row : (k : ℕ) → Used count k → (ltb (at parent k) k && (eqb (at operation (at parent k)) 0 && leb (at state k) has_aborted)) ≡ true =
      λ k u. rw (is_used count k u) at (each k (omega arith)) in
      let unused : (k : ℕ) → k < rows_most → (Used count k → ⊥) → (eqb (at parent k) 0 && eqb (at state k) 0) ≡ true =
      λ k h n. rw (not_used count k n) at (each k h) in
      record {
        few = few;
        rows = λ k u. let r = row k u in record { lower = grind (arith, nat_tests); plain_above = grind (arith, nat_tests); stated = grind (arith, nat_tests) };
        unused_parent = λ k h n. let z = unused k h n in grind (arith, nat_tests);
        unused_state = λ k h n. let z = unused k h n in grind (arith, nat_tests);
      }

  pub tree_fine_lem : Tree count parent state operation → tree_fine count parent state operation ≡ true
  unfolding tree_fine
  tree_fine_lem t =
      and_both (leb count count_most) _ (le-leb _ _ t.few)
      (all_of (tree_row count parent state operation) rows_most
      (λ k h. by_cases (used count k) _ _
      (λ u. let r = t.rows k (used_is count k u) in grind (arith, nat_tests, r.lower, r.plain_above, r.stated))
      (λ f. let n : Used count k → ⊥ = unused_is count k f in rw (t.unused_parent k h n, t.unused_state k h n))))

  pub tree_lower : Tree count parent state operation → Lower rows_most (at parent)
  tree_lower t = record { lower = λ k z h. ⊎_elim (λ u. (t.rows k u).lower) (λ n. omega (arith, t.unused_parent k h n)) (used_or count k) }

-- a row is an access's
abbrev pub Access : ℕ → List ℕ → ℕ → Type 0
Access count operation k = Used count k × (at operation k ≡ 0 → ⊥)

module _ (count : ℕ) (operation : List ℕ) (k : ℕ) where
  is_access_lem : Access count operation k → is_access count operation k ≡ true
  is_access_lem a = rw (is_used count k a.0, ne_eqb (at operation k) 0 a.1)

  access_is : is_access count operation k ≡ true → Access count operation k
  access_is e = (used_is count k (and_fst (used count k) _ e), eqb-false _ _ (not-true _ (and_snd (used count k) _ e)))

  no_access : (Access count operation k → ⊥) → is_access count operation k ≡ false
  no_access n = not_so (is_access count operation k) (λ t. n (access_is t))

  pub access_or : Access count operation k ⊎ (Access count operation k → ⊥)
  access_or = ⊎_elim (λ t. inl (access_is t)) (λ f. inr (λ a. false≢true (sym f ∙ is_access_lem a))) (bool_or (is_access count operation k))

-- an outcome of a shape that the operation allows
pub record Answer (o : Operation) (a : ℕ) (b : ℤ) : Type 0 where
  pub outcome : Outcome
  pub recalled : recall_of o a b ≡ Some outcome

-- what is asked fits, and is answered so, or not at all
pub record Fits (asked : Option Operation) (outcome : ℕ) (value : ℤ) : Type 0 where
  pub ask : Operation
  pub fit : asked ≡ Some ask
  pub unanswered : outcome ≡ 0 → value ≡ pos 0
  pub answered : (outcome ≡ 0 → ⊥) → Answer ask (outcome - 1) value

-- no access
pub record Blank (object operation : ℕ) (argument : ℤ) (outcome : ℕ) (value : ℤ) : Type 0 where
  pub no_object_lem : object ≡ 0
  pub no_operation : operation ≡ 0
  pub no_argument : argument ≡ pos 0
  pub no_outcome : outcome ≡ 0
  pub no_value : value ≡ pos 0

given_is : (o : Operation) (a : ℕ) (b : ℤ) → given (recall_of o a b) ≡ true → Answer o a b
given_is o a b e = go (recall_of o a b) refl e
  where
    go : (r : Option Outcome) → recall_of o a b ≡ r → given r ≡ true → Answer o a b
    go (Some r) q e = record { outcome = r; recalled = q }
    go None q e = absurd (false≢true e)

fits_facts : (asked : Option Operation) (outcome : ℕ) (value : ℤ) → fits asked outcome value ≡ true → Fits asked outcome value
fits_facts None outcome value e = absurd (false≢true e)
fits_facts (Some o) outcome value e = record {
  ask = o;
  fit = refl;
  unanswered = λ z. zero_is value (rw (eq-eqb outcome 0 z) at e);
  answered = λ n. given_is o (outcome - 1) value (rw (ne_eqb outcome 0 n) at e);
}

fits_fine : (asked : Option Operation) (outcome : ℕ) (value : ℤ) → Fits asked outcome value → fits asked outcome value ≡ true
fits_fine asked outcome value f =
    rw f.fit
    (by_cases (eqb outcome 0) _ _ (λ t. is_zero_lem value (f.unanswered (eqb-true _ _ t)))
    (λ n. rw (f.answered (eqb-false _ _ n)).recalled))

pub record Accesses (objects : ℕ) (kind : List ℕ) (count : ℕ) (object operation : List ℕ) (argument : List ℤ) (outcome : List ℕ) (value : List ℤ) : Type 0 where
  pub known : (k : ℕ) → k < rows_most → Access count operation k → at object k < objects
  pub fit : (k : ℕ) → k < rows_most → Access count operation k → Fits (decode_of (kind_of (at kind (at object k))) (at operation k) (at_z argument k)) (at outcome k) (at_z value k)
  pub blank : (k : ℕ) → k < rows_most → (Access count operation k → ⊥) → Blank (at object k) (at operation k) (at_z argument k) (at outcome k) (at_z value k)

module _ (objects : ℕ) (kind : List ℕ) (count : ℕ) (object operation : List ℕ) (argument : List ℤ) (outcome : List ℕ) (value : List ℤ) where
  abbrev fitting : ℕ → Bool
  fitting k = fits (decode_of (kind_of (at kind (at object k))) (at operation k) (at_z argument k)) (at outcome k) (at_z value k)

  pub accesses_facts : accesses_fine objects kind count object operation argument outcome value ≡ true → Accesses objects kind count object operation argument outcome value
  unfolding accesses_fine
  accesses_facts e =
      let each : (k : ℕ) → k < rows_most → access_row objects kind count object operation argument outcome value k ≡ true =
      λ k h. all_at (access_row objects kind count object operation argument outcome value) rows_most k e h in
      let row : (k : ℕ) → k < rows_most → Access count operation k → (ltb (at object k) objects && fitting k) ≡ true =
      λ k h a. rw (is_access_lem count operation k a) at (each k h) in
      record {
        known = λ k h a. ltb-true _ _ (and_fst (ltb (at object k) objects) _ (row k h a));
        fit = λ k h a. fits_facts _ (at outcome k) (at_z value k) (and_snd (ltb (at object k) objects) (fitting k) (row k h a));
        blank = λ k h n.
            let all : blank (at object k) (at operation k) (at_z argument k) (at outcome k) (at_z value k) ≡ true =
            rw (no_access count operation k n) at (each k h) in
            let rest = and_snd (eqb (at object k) 0) _ all in
            let last = and_snd (is_zero (at_z argument k)) _ (and_snd (eqb (at operation k) 0) _ rest) in
            record {
              no_object_lem = eqb-true _ _ (and_fst (eqb (at object k) 0) _ all);
              no_operation = eqb-true _ _ (and_fst (eqb (at operation k) 0) _ rest);
              no_argument = zero_is _ (and_fst (is_zero (at_z argument k)) _ (and_snd (eqb (at operation k) 0) _ rest));
              no_outcome = eqb-true _ _ (and_fst (eqb (at outcome k) 0) _ last);
              no_value = zero_is _ (and_snd (eqb (at outcome k) 0) _ last);
            };
      }

  pub accesses_fine_lem : Accesses objects kind count object operation argument outcome value → accesses_fine objects kind count object operation argument outcome value ≡ true
  unfolding accesses_fine
  accesses_fine_lem f =
      all_of (access_row objects kind count object operation argument outcome value) rows_most
      (λ k h. by_cases (is_access count operation k) _ _
      (λ t. let a = access_is count operation k t in
      and_both (ltb (at object k) objects) _ (lt-ltb _ _ (f.known k h a)) (fits_fine _ (at outcome k) (at_z value k) (f.fit k h a)))
      (λ n. let b = f.blank k h (λ a. false≢true (sym n ∙ is_access_lem count operation k a)) in
      rw (b.no_object_lem, b.no_operation, b.no_argument, b.no_outcome) (is_zero_lem _ b.no_value)))

  module _ (f : Accesses objects kind count object operation argument outcome value) (k : ℕ) (h : k < rows_most) where
    -- what has an operation, or an answer, is an access of the store
    pub asked_access : (at operation k ≡ 0 → ⊥) → Access count operation k
    asked_access n = ⊎_elim (λ a. a) (λ b. absurd (n (f.blank k h b).no_operation)) (access_or count operation k)

    pub answered_access : (at outcome k ≡ 0 → ⊥) → Access count operation k
    answered_access n = ⊎_elim (λ a. a) (λ b. absurd (n (f.blank k h b).no_outcome)) (access_or count operation k)

-- an entry of the order: the place, the access there, and that access's place
pub record Entry (count i access place : ℕ) : Type 0 where
  pub some : 0 < access
  pub known : access ≤ count
  pub placed : place ≡ i + 1

-- a listed access k: its outcome, its place, the entry there, and whether its holder is at or above it
pub record Listed (listed k outcome place entry : ℕ) (above : Bool) : Type 0 where
  pub answered : outcome ≡ 0 → ⊥
  pub within : place ≤ listed
  pub stands : entry ≡ k
  pub held : above ≡ true

pub record Lists (count : ℕ) (parent outcome : List ℕ) (listed : ℕ) (order holder place : List ℕ) : Type 0 where
  pub few : listed ≤ places_most
  pub entries : (i : ℕ) → i < listed → Entry count i (at order i) (at place (at order i))
  pub unused : (i : ℕ) → listed ≤ i → i < places_most → at order i ≡ 0
  pub unlisted : (k : ℕ) → k < rows_most → at place k ≡ 0 → at holder k ≡ 0
  pub rows : (k : ℕ) → k < rows_most → (at place k ≡ 0 → ⊥) → Listed listed k (at outcome k) (at place k) (at order (at place k - 1)) (at_or_above parent k (at holder k))

module _ (count : ℕ) (parent outcome : List ℕ) (listed : ℕ) (order holder place : List ℕ) where
  pub lists_facts : lists_fine count parent outcome listed order holder place ≡ true → Lists count parent outcome listed order holder place
  unfolding lists_fine
  lists_facts e =
      let few : listed ≤ places_most = leb-true listed places_most (and_fst (leb listed places_most) _ e) in
      let rest = and_snd (leb listed places_most) _ e in
      let entry : (i : ℕ) → i < places_most → order_entry count listed order place i ≡ true =
      λ i h. all_at (order_entry count listed order place) places_most i (and_fst (all_below places_most (order_entry count listed order place)) _ rest) h in
      let row : (k : ℕ) → k < rows_most → list_row parent outcome listed order holder place k ≡ true =
      λ k h. all_at (list_row parent outcome listed order holder place) rows_most k (and_snd (all_below places_most (order_entry count listed order place)) _ rest) h in
      record {
        few = few;
        entries = λ i l.
            let all : (ltb 0 (at order i) && (leb (at order i) count && eqb (at place (at order i)) (i + 1))) ≡ true =
            rw (lt-ltb i listed l) at (entry i (omega arith)) in
            record { some = grind (arith, nat_tests); known = grind (arith, nat_tests); placed = grind (arith, nat_tests) };
        unused = λ i l h. eqb-true _ _ (rw (le-ltb i listed l) at (entry i h));
        unlisted = λ k h z. eqb-true _ _ (rw (eq-eqb (at place k) 0 z) at (row k h));
        rows = λ k h n.
            let all : (not (eqb (at outcome k) 0) && (leb (at place k) listed && (eqb (at order (at place k - 1)) k && at_or_above parent k (at holder k)))) ≡ true =
            rw (ne_eqb (at place k) 0 n) at (row k h) in
            record { answered = grind (arith, nat_tests); within = grind (arith, nat_tests); stands = grind (arith, nat_tests); held = grind (arith, nat_tests) };
      }

  pub lists_fine_lem : Lists count parent outcome listed order holder place → lists_fine count parent outcome listed order holder place ≡ true
  unfolding lists_fine
  lists_fine_lem f =
      and_both (leb listed places_most) _ (le-leb _ _ f.few)
      (and_both (all_below places_most (order_entry count listed order place)) _
      (all_of (order_entry count listed order place) places_most
      (λ i h. by_cases (ltb i listed) _ _
      (λ t. let r = f.entries i (ltb-true _ _ t) in grind (arith, nat_tests, r.some, r.known, r.placed))
      (λ n. eq-eqb _ _ (f.unused i (ltb-false _ _ n) h))))
      (all_of (list_row parent outcome listed order holder place) rows_most
      (λ k h. by_cases (eqb (at place k) 0) _ _
      (λ t. eq-eqb _ _ (f.unlisted k h (eqb-true _ _ t)))
      (λ n. let r = f.rows k h (eqb-false _ _ n) in
      rw (ne_eqb (at outcome k) 0 r.answered, le-leb _ _ r.within, eq-eqb _ _ r.stands) r.held))))

  module _ (f : Lists count parent outcome listed order holder place) where
    -- nothing stands twice
    pub once : (i j : ℕ) → i < listed → j < listed → at order i ≡ at order j → i ≡ j
    once i j a b e = omega (arith, (f.entries i a).placed, (f.entries j b).placed, ap (at place) e)

    -- what has no place is no entry
    pub absent : (k : ℕ) → at place k ≡ 0 → (i : ℕ) → i < listed → at order i ≡ k → ⊥
    absent k z i h e = omega (arith, (f.entries i h).placed, ap (at place) e)

    -- an unanswered access is on no list
    pub unanswered_unlisted : (k : ℕ) → k < rows_most → at outcome k ≡ 0 → at place k ≡ 0
    unanswered_unlisted k h e = ⊎_elim (λ z. z) (λ n. absurd ((f.rows k h n).answered e)) (same_or (at place k) 0)

    -- what is listed is a transaction of the store
    pub listed_known : (k : ℕ) → k < rows_most → (at place k ≡ 0 → ⊥) → Used count k
    listed_known k h n =
        let r = f.rows k h n in
        let entry = f.entries (at place k - 1) (omega arith) in
        omega (arith, r.stands)

    module _ (w : Lower rows_most (at parent)) where
      -- no holder's number is higher than the access's
      pub holder_le : (k : ℕ) → k < rows_most → at holder k ≤ k
      holder_le k h =
          ⊎_elim (λ z. omega (arith, f.unlisted k h z)) (λ n. up_le (at parent) rows_most w (at holder k) k h (f.rows k h n).held) (same_or (at place k) 0)

      pub holder_known : (k : ℕ) → k < rows_most → at holder k ≤ count
      holder_known k h =
          ⊎_elim (λ z. omega (arith, f.unlisted k h z)) (λ n. omega (arith, holder_le k h, listed_known k h n)) (same_or (at place k) 0)

      pub sound : count ≤ count_most → Sound (count + 1) listed order holder
      sound few = record {
        rows_fit = omega arith;
        listed_fit = f.few;
        entries = λ k h. omega (arith, (f.entries k h).known);
        holders = λ k h. omega (arith, holder_known k (omega arith));
      }

-- Each accepted call but a response at object o is a step of the paper's locking object of o, or nothing to it; the lists are its intentions. Source: the
-- paper, 7.1; document 00, 2.
use Prim.Native.Nat.{ℕ, ◌+◌, ◌<◌}
use mathlib.Core.Path.{◌≡◌, refl, sym, ap, ◌∙◌, subst}
use mathlib.Core.Bool.{true}
use mathlib.Core.Logic.{⊎_elim}
use mathlib.Core.List.{List, [], ◌++◌, map}
use native.Mathlib.Omega.{arith}
use lib.IntN.{ℤ}
use lib.ListN.{get_or, replicate}
use borrow.Author.Tests.{ne_eqb, leb-false, not-false}
use Rattle.below.proofs.Tests.{same_or}
use Rattle.below.proofs.Column.{filled_at}
use Rattle.theory.specs.Serial.{Serial, Op}
use Rattle.theory.specs.History.{Role, other, access, created}
use Rattle.theory.specs.Locking.{Locking, Initial, SameRequested, SameIntentions, Same, INFORM_COMMIT, INFORM_ABORT, Takes}
use Rattle.kinds.specs.declared.Kind.{Kind}
use Rattle.kinds.specs.declared.State.{State}
use Rattle.kinds.specs.Object.{object_of}
use Rattle.columns.specs.Column.{at, at_z, rows_most}
use Rattle.columns.specs.Work.{work}
use Rattle.columns.proofs.Work.{Each}
use Rattle.columns.proofs.Once.{found_each}
use Rattle.columns.proofs.ListLaws.{list_entries}
use Rattle.form.specs.Form.{count_most}
use Rattle.form.proofs.Facts.{Used, Blank}
use Rattle.form.proofs.KeptLists.{known, found_placed}
use Rattle.store.specs.declared.Store.{Store}
use Rattle.refusal.specs.declared.Child.{Child}
use Rattle.store.specs.Form.{in_form}
use Rattle.store.specs.Lists.{list_of, kind_at}
use Rattle.store.specs.Open.{open_of}
use Rattle.store.specs.Create.{request_of, create_of}
use Rattle.store.specs.Respond.{respond_of}
use Rattle.store.specs.Finish.{commit_of, abort_of}
use Rattle.store.specs.Effects.{row_of, new_row, Sized}
use Rattle.store.proofs.Facts.{Form, form_facts}
use Rattle.store.proofs.Answers.{create_decided}
use Rattle.store.proofs.Effects.{create_does, respond_does, commit_does, abort_does}
use Rattle.store.proofs.Opens.{opened_or_empty, open_lists}
use Rattle.store.proofs.Waits.{on_record}
use Rattle.demands.specs.History.{role_of}
use Rattle.demands.specs.Locking.{steps_of, locking_of}
use Rattle.demands.proofs.ObjectRows.{row_by_row, requested_in, no_request, record_on, no_record, record_at, role_in, no_role, new_role}
use Rattle.demands.proofs.Steps.{OnRecord, steps_append, steps_same, steps_who}

-- what a creation is to the object: a step, or nothing, by the new number's role
takes_created : {S : Serial} (opening : S.State) (Commutes : Op S → Op S → Type 0) (parent : ℕ → ℕ) (n p : ℕ) (r : Role S) (s z : Locking S)
    → s.created n ≡ other → z.created n ≡ r → ((x : ℕ) → ¬ (x ≡ n) → z.created x ≡ s.created x) → SameRequested s z → SameIntentions s z
    → Takes S opening Commutes parent (created n p r) s z
takes_created opening Commutes parent n p other s z before own others requested intentions = record {
  created = λ x. ⊎_elim (λ e. rw e (own ∙ sym before)) (λ d. others x d) (same_or x n);
  commit_requested = requested;
  intentions = intentions;
}
takes_created opening Commutes parent n p (access a) s z before own others requested intentions =
    record { added = own; created = others; commit_requested = requested; intentions = intentions }

module _ (kind : Kind) (o : ℕ) where
  -- where every answer on record stays, a list that becomes l becomes the steps of l
  listed_as : (s z : Store) → ((x : ℕ) → record_at kind z x ≡ record_at kind s x) → (u : ℕ) (l : List ℕ) → list_of z o u ≡ l
      → (locking_of kind o z).intentions u ≡ steps_of kind (record_at kind s) l
  listed_as s z same u l e =
      ap (steps_of kind (record_at kind z)) e ∙ steps_same kind (record_at kind z) (record_at kind s) l (λ k b. same (get_or l k 0))

  -- every access on a list has an answer on record
  module _ (s : Store) (fine : in_form s ≡ true) (kinds : kind_at s o ≡ kind) where
    form : Form s
    form = form_facts s fine

    abbrev all : List ℕ
    all = work s.lists.listed s.lists.order

    pub listed_on_record : (u : ℕ) → Each (OnRecord (record_at kind s)) (list_of s o u)
    listed_on_record u k b =
        let x = get_or (list_of s o u) k 0 in
        let entry = list_entries all s.lists.holder s.accesses.object o u k b in
        let used = found_each (Used s.tree.count) all (known _ _ _ _ _ _ _ _ _ form.tree form.lists) x entry.2 in
        let row : x < rows_most = omega (arith, used.1, form.tree.few) in
        let placed = found_placed _ _ _ _ _ _ _ _ _ form.tree form.lists x entry.2 in
        subst (λ (k : Kind). OnRecord (record_at k s) x) kinds (on_record s fine o x row entry.1 (form.lists.rows x row placed).answered)

    -- the intentions are the lists, access by access
    pub lists_are : (u : ℕ) → map (λ e. e.who) ((locking_of kind o s).intentions u) ≡ list_of s o u
    lists_are u = steps_who kind (record_at kind s) (list_of s o u) (listed_on_record u)

  module _ (s : Store) (sized : Sized s) (t : ℕ) where
    pub commit_taken : (commit_of s t).answer.code ≡ 0 → INFORM_COMMIT (at s.tree.parent) t (locking_of kind o s) (locking_of kind o (commit_of s t).store)
    commit_taken e =
        let z = (commit_of s t).store in
        let does = commit_does s t sized e in
        let above = at s.tree.parent t in
        let listed = listed_as s z (row_by_row (record_on kind) s z t does.rows (ap (record_on kind) does.row)) in
        record {
          emptied = listed t [] (does.emptied o);
          appended =
              listed above (list_of s o above ++ list_of s o t) (does.appended o) ∙ steps_append kind (record_at kind s) (list_of s o above) (list_of s o t);
          others = λ u n m. listed u (list_of s o u) (does.lists o u n m);
          created = row_by_row (role_in kind o) s z t does.rows (ap (role_in kind o) does.row);
          commit_requested = row_by_row (requested_in o) s z t does.rows (ap (requested_in o) does.row);
        }

    pub abort_taken : (abort_of s t).answer.code ≡ 0 → INFORM_ABORT (at s.tree.parent) t (locking_of kind o s) (locking_of kind o (abort_of s t).store)
    abort_taken e =
        let z = (abort_of s t).store in
        let does = abort_does s t sized e in
        let listed = listed_as s z (row_by_row (record_on kind) s z t does.rows (ap (record_on kind) does.row)) in
        record {
          emptied = λ u h. listed u [] (does.emptied o u h);
          others = λ u h. listed u (list_of s o u) (does.lists o u h);
          created = row_by_row (role_in kind o) s z t does.rows (ap (role_in kind o) does.row);
          commit_requested = row_by_row (requested_in o) s z t does.rows (ap (requested_in o) does.row);
        }

    -- a response at another object
    pub respond_elsewhere : (respond_of s t).answer.code ≡ 0 → ¬ (at s.accesses.object t ≡ o) → Same (locking_of kind o s) (locking_of kind o (respond_of s t).store)
    respond_elsewhere e away =
        let z = (respond_of s t).store in
        let does = respond_does s t sized e in
        record {
          created = row_by_row (role_in kind o) s z t does.rows (ap (role_in kind o) does.row);
          commit_requested = row_by_row (requested_in o) s z t does.rows (ap (requested_in o) does.row ∙ rw (ne_eqb (at s.accesses.object t) o away));
          intentions = λ u.
              ap (steps_of kind (record_at kind z)) (does.lists o u (λ h q. away (sym q)))
              ∙ steps_same kind (record_at kind z) (record_at kind s) (list_of s o u) (λ k b.
              let x = get_or (list_of s o u) k 0 in
              let on = (list_entries (work s.lists.listed s.lists.order) s.lists.holder s.accesses.object o u k b).1 in
              ap (record_on kind) (does.rows x (λ h. away (ap (at s.accesses.object) (sym h) ∙ on))));
        }

  -- a creation takes a row that has neither an operation nor an answer
  pub create_taken : (s : Store) → Sized s → (p : ℕ) (child : Child) → (create_of s p child).answer.code ≡ 0
      → (opening : State) (Commutes : Op (object_of kind) → Op (object_of kind) → Type 0)
      → Takes (object_of kind) opening Commutes (at s.tree.parent) (created (create_of s p child).answer.a p (role_of kind o child)) (locking_of kind o s)
      (locking_of kind o (create_of s p child).store)
  create_taken s sized p child e opening Commutes =
      let z = (create_of s p child).store in
      let n = s.tree.count + 1 in
      let passed = (create_decided s p child).passed.0 e in
      let does = create_does s p child sized e in
      let room : s.tree.count < count_most = leb-false _ _ (passed 7 (omega arith)) in
      let blank : Blank (at s.accesses.object n) (at s.accesses.operation n) (at_z s.accesses.argument n) (at s.accesses.outcome n) (at_z s.accesses.value n) =
      (form_facts s (not-false _ (passed 0 (omega arith)))).accesses.blank n (omega arith) (λ a. omega (arith, a.0.1)) in
      let old = row_of s n in
      let new = new_row p (request_of child) in
      let records =
      row_by_row (record_on kind) s z n does.rows
      (ap (record_on kind) does.row ∙ no_record kind new refl ∙ sym (no_record kind old blank.no_outcome)) in
      let requests =
      row_by_row (requested_in o) s z n does.rows
      (ap (requested_in o) does.row ∙ no_request o new refl ∙ sym (no_request o old blank.no_outcome)) in
      subst (λ (m : ℕ). Takes (object_of kind) opening Commutes (at s.tree.parent) (created m p (role_of kind o child)) (locking_of kind o s) (locking_of kind o z))
      (sym (ap (λ r. r.answer.a) ((create_decided s p child).does e)))
      (takes_created opening Commutes (at s.tree.parent) n p (role_of kind o child) (locking_of kind o s) (locking_of kind o z)
      (no_role kind o old blank.no_operation)
      (ap (role_in kind o) does.row ∙ new_role kind o p child)
      (λ x d. ap (role_in kind o) (does.rows x d))
      requests
      (λ u. listed_as s z records u (list_of s o u) (does.lists o u)))

  pub starts : (kinds : List ℕ) (openings : List ℤ) → Initial (locking_of kind o (open_of kinds openings).store)
  starts kinds openings =
      let z = (open_of kinds openings).store in
      let zero : (x : ℕ) → at (replicate rows_most 0) x ≡ 0 = filled_at 0 rows_most in
      let rows : (x : ℕ) → (at z.accesses.operation x ≡ 0) × (at z.accesses.outcome x ≡ 0) =
      λ x. opened_or_empty (λ z. (at z.accesses.operation x ≡ 0) × (at z.accesses.outcome x ≡ 0)) kinds openings (λ e. (zero x, zero x)) (zero x, zero x) in
      record {
        created = λ x. no_role kind o (row_of z x) (rows x).0;
        commit_requested = λ x. no_request o (row_of z x) (rows x).1;
        intentions = λ u. ap (steps_of kind (record_at kind z)) (open_lists kinds openings o u);
      }

-- An accepted response at object o is the locking object's REQUEST_COMMIT. Source: the paper, 7.1; document 00, 2.
use Rattle.std.specs.Prelude.{Option, Some, None}
use Prim.Native.Nat.{ℕ, ◌+◌, ◌<◌, ◌≤◌}
use mathlib.Core.Path.{◌≡◌, sym, ap, ◌∙◌, subst}
use mathlib.Core.Bool.{true, false, true≢false}
use mathlib.Core.List.{[], ◌∷◌, ◌++◌, map}
use native.Mathlib.Omega.{arith}
use lib.ListN.{get_or}
use borrow.Author.Tests.{eq-eqb, ne_eqb}
use Rattle.below.proofs.Tests.{not_so}
use Rattle.theory.specs.Serial.{Right, Legal, run}
use Rattle.theory.specs.History.{◌∈◌, Step, ops}
use Rattle.theory.specs.Locking.{Locking, ancestor, total, REQUEST_COMMIT}
use Rattle.kinds.specs.declared.Kind.{Kind}
use Rattle.kinds.specs.declared.State.{State}
use Rattle.kinds.specs.declared.Answered.{Answered}
use Rattle.kinds.specs.Kinds.{opened_of, start_of, step_of, conflict_of}
use Rattle.kinds.specs.Object.{object_of, op_of}
use Rattle.kinds.proofs.Claims.{conflicts_symmetric}
use Rattle.columns.specs.Column.{at, at_z, rows_most}
use Rattle.columns.specs.Work.{Found}
use Rattle.columns.proofs.Work.{Each}
use Rattle.replay.specs.Access.{asked_of}
use Rattle.store.specs.declared.Store.{Store}
use Rattle.store.specs.Form.{in_form}
use Rattle.store.specs.Lists.{list_of, view_of, kind_at, state_for}
use Rattle.store.specs.Respond.{asking_of, result_of, respond_of}
use Rattle.store.specs.Effects.{row_of, Responds, Sized}
use Rattle.store.proofs.Facts.{Form, form_facts, lower}
use Rattle.store.proofs.Answers.{respond_decided}
use Rattle.store.proofs.Effects.{accepted_asks, respond_does, own_list_empty}
use Rattle.demands.specs.History.{outcome_for, asking}
use Rattle.demands.specs.Locking.{steps_of, locking_of}
use Rattle.demands.proofs.ObjectRows.{row_by_row, requested_in, no_request, record_at, role_in}
use Rattle.demands.proofs.Response.{Response}
use Rattle.demands.proofs.Steps.{answered_of, Pass, OnRecord, AskedOnRecord, recorded_asks, steps_same, steps_found, steps_who, steps_run, steps_view, view_each}
use Rattle.demands.proofs.Taken.{listed_on_record}
use Rattle.kinds.specs.declared.Operation.{Operation}

module _ (kind : Kind) (o : ℕ) (s : Store) (fine : in_form s ≡ true) (kinds : kind_at s o ≡ kind) where
  form : Form s
  form = form_facts s fine

  abbrev locking : Locking (object_of kind)
  locking = locking_of kind o s

  abbrev asked : ℕ → Option Operation
  asked = asked_of kind s.accesses.operation s.accesses.argument

  asked_on_record : (u : ℕ) → Each (AskedOnRecord (record_at kind s) asked) (list_of s o u)
  asked_on_record u k b =
      let x = get_or (list_of s o u) k 0 in
      let held = listed_on_record kind o s fine kinds u k b in
      (held.0, held.1, recorded_asks (asked x) (at s.accesses.outcome x) (at_z s.accesses.value x) held.0 held.1)

  module _ (t : ℕ) (known : t ≤ s.tree.count) where
    row : t < rows_most
    row = omega (arith, form.tree.few)

    -- the total of t is the view that the store replays
    total_view : total (at s.tree.parent) locking t ≡ steps_of kind (record_at kind s) (view_of s o t)
    total_view = steps_view kind (record_at kind s) s.tree.parent (list_of s o) rows_most (lower s form) t row

    -- access by access
    pub view_are : map (λ e. e.who) (total (at s.tree.parent) locking t) ≡ view_of s o t
    view_are =
        ap (map (λ e. e.who)) total_view
        ∙ steps_who kind (record_at kind s) (view_of s o t)
        (view_each (OnRecord (record_at kind s)) s.tree.parent (list_of s o) rows_most (lower s form) (listed_on_record kind o s fine kinds) t row)

    -- and the object comes to the same state after it
    total_state : (opening : State) → start_of (opened_of (kind_at s o) (at_z s.objects.opening o)) ≡ opening
        → run (object_of kind) opening (ops (total (at s.tree.parent) locking t)) ≡ state_for s o t
    total_state opening e =
        ap (λ l. run (object_of kind) opening (ops l)) total_view
        ∙ steps_run kind (record_at kind s) asked (view_of s o t) opening
        (view_each (AskedOnRecord (record_at kind s) asked) s.tree.parent (list_of s o) rows_most (lower s form) asked_on_record t row)
        ∙ rw (← kinds, ← e)

  module _ (t : ℕ) (r : Response kind o t s) where
    -- the locking object after the response
    abbrev afterwards : Locking (object_of kind)
    afterwards = locking_of kind o (respond_of s t).store

    -- the answer is what the object gives after the total
    pub answer_right : (opening : State) → start_of (opened_of (kind_at s o) (at_z s.objects.opening o)) ≡ opening
        → Right (object_of kind) (run (object_of kind) opening (ops (total (at s.tree.parent) locking t))) (op_of kind r.answered)
    answer_right opening e = ap (λ state. (step_of state r.answered.operation).outcome) (total_state t r.known opening e) ∙ sym r.result

    -- it passes every step held by a transaction that is not at or above it
    answer_passes : (u : ℕ) → ancestor (at s.tree.parent) t u ≡ false → (e : Step (object_of kind)) → e ∈ locking.intentions u
        → Pass kind e.did (op_of kind r.answered)
    answer_passes u outside e m =
        let found = steps_found kind (record_at kind s) (list_of s o u) e m in
        let held = answered_of e.did in
        let same : kind ≡ kind_at s (at s.accesses.object t) = sym kinds ∙ ap (kind_at s) (sym r.on) in
        not_so (conflict_of kind held r.answered) (λ clash. r.free u e.who (record {
          listed = subst (λ y. Found e.who (list_of s y u)) (sym r.on) found.0;
          outside = outside;
          held = held;
          recorded = subst (λ (k : Kind). record_at k s e.who ≡ Some held) same found.1;
          conflicts = subst (λ (k : Kind). conflict_of k r.answered held ≡ true) same (conflicts_symmetric kind r.answered held ∙ clash);
        }))

    module _ (sized : Sized s) (accepted : (respond_of s t).answer.code ≡ 0) where
      abbrev z : Store
      z = (respond_of s t).store

      does : Responds s t (result_of (asking_of s t)) z
      does = respond_does s t sized accepted

      -- every other list stays, and so does what is on record of its entries
      others_stay : (u : ℕ) → ¬ (u ≡ t) → afterwards.intentions u ≡ locking.intentions u
      others_stay u n =
          ap (steps_of kind (record_at kind z)) (does.lists o u (λ e q. n e))
          ∙ steps_same kind (record_at kind z) (record_at kind s) (list_of s o u) (λ k b.
          let held = listed_on_record kind o s fine kinds u k b in
          r.others (get_or (list_of s o u) k 0) (λ e. nothing_held held.0 (sym r.before ∙ ap (record_at kind s) (sym e) ∙ held.1)))
        where
          nothing_held : (p : Answered) → None ≡ Some p → ⊥
          nothing_held p e = let q : true ≡ false = cc in true≢false q

      -- its own list was empty, and now has the access alone
      own_appended : afterwards.intentions t ≡ locking.intentions t ++ (record { who = t; did = op_of kind r.answered } ∷ [])
      own_appended =
          let before : list_of s o t ≡ [] = own_list_empty s t (accepted_asks s t ((respond_decided s t).passed.0 accepted)) o in
          let after : list_of z o t ≡ t ∷ [] = subst (λ y. list_of z y t ≡ t ∷ []) r.on does.own in
          rw (before, after, r.own)

      pub request : (opening : State) → Legal (object_of kind) opening (ops (total (at s.tree.parent) locking t) ++ (op_of kind r.answered ∷ []))
          → REQUEST_COMMIT (object_of kind) opening (Pass kind) (at s.tree.parent) t (outcome_for (respond_of s t).answer.a (respond_of s t).answer.b)
          locking afterwards
      request opening legal =
          subst (λ v. REQUEST_COMMIT (object_of kind) opening (Pass kind) (at s.tree.parent) t v locking afterwards) (sym r.handed) (record {
            ask = r.answered.operation;
            was_created = rw (eq-eqb (at s.accesses.object t) o r.on) (ap (asking kind) r.asked);
            unrequested = no_request o (row_of s t) r.unanswered;
            commutes = answer_passes;
            behaviour = legal;
            requested =
                ap (requested_in o) does.row
                ∙ rw (eq-eqb (at s.accesses.object t) o r.on, ne_eqb ((result_of (asking_of s t)).a + 1) 0 (λ e. omega arith));
            commit_requested = λ x n. ap (requested_in o) (does.rows x n);
            appended = own_appended;
            others = others_stay;
            created = row_by_row (role_in kind o) s z t does.rows (ap (role_in kind o) does.row);
          })

-- What the refusals leave of an accepted call, as object o of this kind sees the rows.
use Rattle.std.specs.Prelude.{Some}
use Prim.Native.Nat.{ℕ, ◌+◌, ◌<◌, ◌≤◌}
use mathlib.Core.Path.{◌≡◌, sym, ap, subst, ◌∙◌}
use mathlib.Core.Bool.{Bool, true, false}
use mathlib.Core.Logic.{◌⊎◌, inl, inr, ⊎_elim, ◌↔◌}
use native.Mathlib.Omega.{arith}
use lib.ListN.{get_or-eq_default}
use lib.Dec.{eqb}
use borrow.Author.Tests.{eq-eqb, ne_eqb, eqb-true, eqb-false, ltb-false, not-true, not-false}
use Rattle.below.specs.Below.{any_below}
use Rattle.below.specs.Climb.{up_any}
use Rattle.below.proofs.Tests.{same_or, le_or, and_fst, and_snd}
use Rattle.below.proofs.Search.{any_at}
use Rattle.below.proofs.Climb.{lower_to, up_stop, up_next}
use Rattle.theory.specs.History.{access}
use Rattle.theory.proofs.Tree.{access_other}
use Rattle.theory.proofs.Agree.{blank}
use Rattle.theory.proofs.Rows.{got, Rows, CreateTests, FinishTests, RespondTests, CommitTests}
use Rattle.kinds.specs.declared.Kind.{Kind}
use Rattle.kinds.specs.declared.Operation.{Operation}
use Rattle.kinds.specs.declared.outcome.Outcome.{Outcome}
use Rattle.kinds.specs.Object.{object_of}
use Rattle.columns.specs.Column.{at, rows_most}
use Rattle.columns.specs.Tree.{has_aborted, open_child}
use Rattle.store.specs.declared.Store.{Store}
use Rattle.refusal.specs.declared.Child.{Child}
use Rattle.store.specs.Form.{in_form}
use Rattle.store.specs.Lists.{kind_at, rows_of}
use Rattle.store.specs.Refusal.{missing, is_root, finished, orphaned}
use Rattle.store.specs.Create.{create_of}
use Rattle.store.specs.Respond.{respond_of}
use Rattle.store.specs.Finish.{child_open, unanswered, commit_of, abort_of}
use Rattle.store.specs.Effects.{row_of, Sized}
use Rattle.store.proofs.Facts.{Form, form_facts, lower}
use Rattle.store.proofs.Answers.{create_decided, respond_decided, commit_decided, abort_decided}
use Rattle.store.proofs.Waits.{on_record}
use Rattle.demands.proofs.ObjectRows.{requested_in, record_at, no_role, away_role, no_reply, on_reply, away_reply, seen_by}
use Rattle.demands.proofs.Response.{Response, response}

module _ (kind : Kind) (o : ℕ) (s : Store) where
  abbrev seen : Rows (object_of kind)
  seen = seen_by kind o s

  -- 3: the parent is no access
  plain_no_access : (p : ℕ) → at s.accesses.operation p ≡ 0 → (a : Operation) → ¬ (seen.role p ≡ access a)
  plain_no_access p plain a e = access_other a (sym (no_role kind o (row_of s p) plain) ∙ e)

  -- 4 and 5: it is open, and nothing above it has aborted
  nothing_dropped : Form s → (t : ℕ) → t ≤ s.tree.count → at s.tree.state t ≡ 0 → (orphaned s t).when ≡ false
      → up_any (at s.tree.parent) (λ w. eqb (at s.tree.state w) has_aborted) t ≡ false
  nothing_dropped form t known open_yet orphan =
      let dropped : ℕ → Bool = λ w. eqb (at s.tree.state w) has_aborted in
      ⊎_elim (λ top. up_stop (at s.tree.parent) dropped t top (rw open_yet))
      (λ inner. up_next (at s.tree.parent) dropped t
      (lower_to (at s.tree.parent) rows_most (t + 1) (lower s form) (omega (arith, form.tree.few))) inner (rw open_yet) ∙ orphan)
      (same_or t 0)

  pub create_tests : (p : ℕ) (child : Child) → (create_of s p child).answer.code ≡ 0 → CreateTests seen p
  create_tests p child done =
      let passed = (create_decided s p child).passed.0 done in
      let known : p ≤ s.tree.count = ltb-false s.tree.count p (passed 1 (omega arith)) in
      let open_yet : at s.tree.state p ≡ 0 = eqb-true (at s.tree.state p) 0 (not-false _ (passed 3 (omega arith))) in
      record {
        known = known;
        no_access = plain_no_access p (eqb-true (at s.accesses.operation p) 0 (not-false _ (passed 2 (omega arith))));
        unfinished = open_yet;
        alive = nothing_dropped (form_facts s (not-false _ (passed 0 (omega arith)))) p known open_yet (passed 4 (omega arith));
      }

  module _ (t : ℕ) (fine : in_form s ≡ true) where
    form : Form s
    form = form_facts s fine

    finish_tests : (missing s t).when ≡ false → (is_root t).when ≡ false → (finished s t).when ≡ false → (orphaned s t).when ≡ false → FinishTests seen t
    finish_tests missed root ended orphan =
        let inner : ¬ (t ≡ 0) = eqb-false t 0 root in
        let known : t ≤ s.tree.count = ltb-false s.tree.count t missed in
        let open_yet : at s.tree.state t ≡ 0 = eqb-true (at s.tree.state t) 0 (not-false _ ended) in
        record {
          pos = omega arith;
          known = known;
          unfinished = open_yet;
          alive = nothing_dropped form t known open_yet orphan;
        }

    pub abort_tests : (abort_of s t).answer.code ≡ 0 → FinishTests seen t
    abort_tests done =
        let passed = (abort_decided s t).passed.0 done in
        finish_tests (passed 1 (omega arith)) (passed 2 (omega arith)) (passed 3 (omega arith)) (passed 4 (omega arith))

    -- 11: no child of a plain transaction is open; and nothing is beneath an access
    children_ended : (child_open s t).when ≡ false → (c : ℕ) → 0 < c → c ≤ s.tree.count → at s.tree.parent c ≡ t → (at s.tree.state c ≡ 1) ⊎ (at s.tree.state c ≡ 2)
    children_ended none c some known beneath =
        let row = form.tree.rows c (some, known) in
        let plain : at s.accesses.operation t ≡ 0 = ap (at s.accesses.operation) (sym beneath) ∙ row.plain_above in
        let searched : any_below (rows_of s) (open_child s.tree.parent s.tree.state t) ≡ false = rw (eq-eqb (at s.accesses.operation t) 0 plain) at none in
        let tested : open_child s.tree.parent s.tree.state t c ≡ false = any_at (open_child s.tree.parent s.tree.state t) (rows_of s) c searched (omega arith) in
        let ended : ¬ (at s.tree.state c ≡ 0) = eqb-false (at s.tree.state c) 0 (rw (eq-eqb (at s.tree.parent c) t beneath) at tested) in
        ⊎_elim inl (λ n. inr (omega (arith, row.stated))) (same_or (at s.tree.state c) 1)

    -- 12: an access has its answer on record
    access_answered : kind_at s o ≡ kind → t ≤ s.tree.count → (unanswered s t).when ≡ false → (a : Operation) → seen.role t ≡ access a
        → (v : Outcome) × (seen.reply t ≡ got v)
    access_answered kinds known twelve a asks =
        let on : at s.accesses.object t ≡ o =
        ⊎_elim (λ e. e) (λ off. absurd (access_other a (sym (away_role kind o (row_of s t) off) ∙ asks))) (same_or (at s.accesses.object t) o) in
        let busy : ¬ (at s.accesses.operation t ≡ 0) = λ plain. plain_no_access t plain a asks in
        let answered : ¬ (at s.accesses.outcome t ≡ 0) = eqb-false (at s.accesses.outcome t) 0 (rw (ne_eqb (at s.accesses.operation t) 0 busy) at twelve) in
        let held = on_record s fine o t (omega (arith, form.tree.few)) on answered in
        (held.0.outcome, on_reply kind o (row_of s t) held.0 on (subst (λ (k : Kind). record_at k s t ≡ Some held.0) kinds held.1))

    pub commit_finishes : (commit_of s t).answer.code ≡ 0 → FinishTests seen t
    commit_finishes done =
        let passed = (commit_decided s t).passed.0 done in
        finish_tests (passed 1 (omega arith)) (passed 2 (omega arith)) (passed 3 (omega arith)) (passed 4 (omega arith))

    pub commit_tests : kind_at s o ≡ kind → (commit_of s t).answer.code ≡ 0 → CommitTests seen t
    commit_tests kinds done =
        let passed = (commit_decided s t).passed.0 done in
        record {
          finish = commit_finishes done;
          children = children_ended (passed 5 (omega arith));
          answered = access_answered kinds (commit_finishes done).known (passed 6 (omega arith));
        }

    pub respond_tests : Sized s → kind_at s o ≡ kind → at s.accesses.object t ≡ o → (respond_of s t).answer.code ≡ 0 → RespondTests seen t
    respond_tests sized kinds on done =
        let passed = (respond_decided s t).passed.0 done in
        let r : Response kind o t s = response kind o t s sized fine kinds on done in
        record {
          finish = finish_tests (passed 1 (omega arith)) (passed 2 (omega arith)) (passed 4 (omega arith)) (passed 5 (omega arith));
          ask = r.answered.operation;
          asked = rw (eq-eqb (at s.accesses.object t) o on, r.asked);
          unanswered = no_reply kind o (row_of s t) r.unanswered;
        }

  -- an access of the object has a reply exactly when a response of it was accepted
  module _ (sized : Sized s) (fine : in_form s ≡ true) (kinds : kind_at s o ≡ kind) (x : ℕ) where
    in_rows : ¬ (at s.accesses.outcome x ≡ 0) → x < rows_most
    in_rows answered = ⊎_elim (λ past. absurd (answered (get_or-eq_default s.accesses.outcome 0 (omega (arith, sized.outcome))))) (λ row. row) (le_or rows_most x)

    requested_reply : requested_in o (row_of s x) ≡ true → (v : Outcome) × (seen.reply x ≡ got v)
    requested_reply e =
        let on : at s.accesses.object x ≡ o = eqb-true (at s.accesses.object x) o (and_fst (eqb (at s.accesses.object x) o) _ e) in
        let answered : ¬ (at s.accesses.outcome x ≡ 0) = eqb-false (at s.accesses.outcome x) 0 (not-true _ (and_snd (eqb (at s.accesses.object x) o) _ e)) in
        let held = on_record s fine o x (in_rows answered) on answered in
        (held.0.outcome, on_reply kind o (row_of s x) held.0 on (subst (λ (k : Kind). record_at k s x ≡ Some held.0) kinds held.1))

    reply_requested : (v : Outcome) → seen.reply x ≡ got v → requested_in o (row_of s x) ≡ true
    reply_requested v e =
        let on : at s.accesses.object x ≡ o =
        ⊎_elim (λ q. q) (λ off. absurd (blank {S = object_of kind} (sym (away_reply kind o (row_of s x) off) ∙ e))) (same_or (at s.accesses.object x) o) in
        let answered : ¬ (at s.accesses.outcome x ≡ 0) = λ none. blank {S = object_of kind} (sym (no_reply kind o (row_of s x) none) ∙ e) in
        both_pass on answered
      where
        both_pass : at s.accesses.object x ≡ o → ¬ (at s.accesses.outcome x ≡ 0) → requested_in o (row_of s x) ≡ true
        both_pass on answered = rw (eq-eqb (at s.accesses.object x) o on, ne_eqb (at s.accesses.outcome x) 0 answered)

    pub requested_replied : (requested_in o (row_of s x) ≡ true) ↔ ((v : Outcome) × (seen.reply x ≡ got v))
    requested_replied = (requested_reply, λ (v, e). reply_requested v e)

-- What an accepted call does to every row and to every list. Source: document 01, "Lists of work".
use Prim.Native.Nat.{ℕ, ◌+◌, ◌<◌, ◌≤◌}
use mathlib.Core.Path.{◌≡◌, refl, sym, ap, ◌∙◌, subst}
use mathlib.Core.Bool.{true, false}
use mathlib.Core.Logic.{⊎_elim}
use mathlib.Core.List.{List, [], ◌∷◌, ◌++◌}
use native.Mathlib.Omega.{arith}
use lib.IntN.{pos}
use lib.ListN.{length, set}
use lib.Seq.{get_or-set_same, get_or-set_other}
use lib.Dec.{eqb}
use borrow.Author.Tests.{eqb-true, eqb-false, leb-false, ltb-false, ne_eqb, not-false}
use Rattle.below.proofs.Climb.{up_ind}
use Rattle.kinds.specs.declared.outcome.Numbers.{Numbers}
use Rattle.columns.specs.Column.{at, rows_most}
use Rattle.columns.specs.Tree.{has_committed, has_aborted, at_or_above}
use Rattle.columns.specs.Work.{work, on_list, dropped_of, moved_of}
use Rattle.columns.specs.declared.lists.Lists.{Lists}
use Rattle.columns.proofs.Work.{work_each, only_same, only_none}
use Rattle.columns.proofs.Once.{Misses}
use Rattle.columns.proofs.ListLaws.{dropped_lost, dropped_other, moved_above, moved_own, moved_other, appended_own, appended_other}
use Rattle.form.specs.Form.{count_most}
use Rattle.form.proofs.Facts.{Used, used_or, unanswered_unlisted}
use Rattle.form.proofs.KeptAccesses.{root_plain}
use Rattle.form.proofs.KeptLists.{missing}
use Rattle.store.specs.declared.Store.{Store}
use Rattle.refusal.specs.Exact.{NoneHolds}
use Rattle.refusal.specs.declared.Request.{Request}
use Rattle.refusal.specs.declared.Child.{Child}
use Rattle.store.specs.Lists.{rows_of, list_of}
use Rattle.store.specs.Create.{request_of, created, create_of}
use Rattle.store.specs.Respond.{asking_of, result_of, responded, respond_refusals, respond_of}
use Rattle.store.specs.Finish.{finished_as, committed, commit_of, aborted, abort_of}
use Rattle.store.specs.Effects.{row_of, in_state, Creates, Responds, Commits, Aborts, Sized}
use Rattle.store.proofs.Facts.{Form, form_facts, lower, listed_sound}
use Rattle.store.proofs.Responding.{Askable, has_place}
use Rattle.store.proofs.Answers.{create_decided, respond_decided, commit_decided, abort_decided}

-- a transaction that finishes changes no row but its own, and that in its state only
module _ (s : Store) (t state : ℕ) (w : Lists) where
  finished_row : t < length s.tree.state → row_of (finished_as s t state w) t ≡ in_state (row_of s t) state
  finished_row h = ap (in_state (row_of s t)) (get_or-set_same s.tree.state t state 0 h)

  finished_rows : (k : ℕ) → (k ≡ t → ⊥) → row_of (finished_as s t state w) k ≡ row_of s k
  finished_rows k n = ap (in_state (row_of s k)) (get_or-set_other s.tree.state t k state 0 n)

module _ (s : Store) (t : ℕ) (sized : Sized s) where
  aborted_does : Form s → t ≤ s.tree.count → Aborts s t (aborted s t)
  aborted_does form h =
      let w : Lists = dropped_of (λ x. at_or_above s.tree.parent (at s.lists.holder x) t) (rows_of s) s.lists.listed s.lists.order s.lists.holder in
      record {
        same = record { objects = refl; kind = refl; opening = refl };
        count = refl;
        row = finished_row s t has_aborted w (omega (arith, sized.state, form.tree.few));
        rows = finished_rows s t has_aborted w;
        emptied = λ o u. dropped_lost (rows_of s) s.lists.listed s.lists.order s.lists.holder s.accesses.object (listed_sound s form) (λ u. at_or_above s.tree.parent u t) o u;
        lists = λ o u. dropped_other (rows_of s) s.lists.listed s.lists.order s.lists.holder s.accesses.object (listed_sound s form) (λ u. at_or_above s.tree.parent u t) o u;
      }

  pub abort_does : (abort_of s t).answer.code ≡ 0 → Aborts s t (abort_of s t).store
  abort_does e =
      let passed = (abort_decided s t).passed.0 e in
      subst (Aborts s t) (sym (ap (λ r. r.store) ((abort_decided s t).does e)))
      (aborted_does (form_facts s (not-false _ (passed 0 (omega arith)))) (ltb-false _ _ (passed 1 (omega arith))))

  committed_does : Form s → t ≤ s.tree.count → (t ≡ 0 → ⊥) → Commits s t (committed s t)
  committed_does form h n =
      let p = at s.tree.parent t in
      let w : Lists = moved_of (λ x. eqb (at s.lists.holder x) t) p (rows_of s) s.lists.listed s.lists.order s.lists.holder in
      let inner : 0 < t = omega arith in
      let apart : p ≡ t → ⊥ = λ q. omega (arith, (form.tree.rows t (inner, h)).lower) in
      let sound = listed_sound s form in
      record {
        same = record { objects = refl; kind = refl; opening = refl };
        count = refl;
        row = finished_row s t has_committed w (omega (arith, sized.state, form.tree.few));
        rows = finished_rows s t has_committed w;
        appended = λ o. moved_above (rows_of s) s.lists.listed s.lists.order s.lists.holder s.accesses.object sound t p inner apart o;
        emptied = λ o. moved_own (rows_of s) s.lists.listed s.lists.order s.lists.holder s.accesses.object sound t p inner apart o;
        lists = λ o u. moved_other (rows_of s) s.lists.listed s.lists.order s.lists.holder s.accesses.object sound t p inner apart o u;
      }

  pub commit_does : (commit_of s t).answer.code ≡ 0 → Commits s t (commit_of s t).store
  commit_does e =
      let passed = (commit_decided s t).passed.0 e in
      subst (Commits s t) (sym (ap (λ r. r.store) ((commit_decided s t).does e)))
      (committed_does (form_facts s (not-false _ (passed 0 (omega arith)))) (ltb-false _ _ (passed 1 (omega arith))) (eqb-false _ _ (passed 2 (omega arith))))

-- a creation takes the first unused row, and no list has it
module _ (s : Store) (p : ℕ) (r : Request) (sized : Sized s) where
  created_lists : Form s → (o u : ℕ) → list_of (created s p r) o u ≡ list_of s o u
  created_lists form o u =
      let object : List ℕ = set s.accesses.object (s.tree.count + 1) r.object in
      only_same _ _ (work s.lists.listed s.lists.order)
      (work_each s.lists.order (λ x. on_list s.lists.holder object o u x ≡ on_list s.lists.holder s.accesses.object o u x) s.lists.listed
      (λ i b. rw (get_or-set_other s.accesses.object (s.tree.count + 1) (at s.lists.order i) r.object 0 (λ e. omega (arith, (form.lists.entries i b).known)))))

  created_does : Form s → s.tree.count < count_most → Creates s p r (created s p r)
  created_does form room =
      let n = s.tree.count + 1 in
      let unused : Used s.tree.count n → ⊥ = λ u. omega (arith, u.1) in
      let row : n < rows_most = omega arith in
      let blank = form.accesses.blank n row (λ a. unused a.0) in
      record {
        same = record { objects = refl; kind = refl; opening = refl };
        count = refl;
        row =
            rw (
              get_or-set_same s.tree.parent n p 0 (omega (arith, sized.parent)),
              get_or-set_same s.accesses.object n r.object 0 (omega (arith, sized.object)),
              get_or-set_same s.accesses.operation n r.operation 0 (omega (arith, sized.operation)),
              get_or-set_same s.accesses.argument n r.argument (pos 0) (omega (arith, sized.argument)),
              form.tree.unused_state n row unused,
              blank.no_outcome,
              blank.no_value,
            );
        rows = λ k d.
            rw (
              get_or-set_other s.tree.parent n k p 0 d,
              get_or-set_other s.accesses.object n k r.object 0 d,
              get_or-set_other s.accesses.operation n k r.operation 0 d,
              get_or-set_other s.accesses.argument n k r.argument (pos 0) d,
            );
        lists = created_lists form;
      }

pub create_does : (s : Store) (p : ℕ) (child : Child) → Sized s → (create_of s p child).answer.code ≡ 0 → Creates s p (request_of child) (create_of s p child).store
create_does s p child sized e =
    let passed = (create_decided s p child).passed.0 e in
    subst (Creates s p (request_of child)) (sym (ap (λ r. r.store) ((create_decided s p child).does e)))
    (created_does s p (request_of child) sized (form_facts s (not-false _ (passed 0 (omega arith)))) (leb-false _ _ (passed 7 (omega arith))))

module _ (s : Store) (form : Form s) (t : ℕ) (access : at s.accesses.operation t ≡ 0 → ⊥) where
  -- nothing is beneath an access
  leaf : (x : ℕ) → x < rows_most → at_or_above s.tree.parent x t ≡ true → x ≡ t
  leaf =
      up_ind (at s.tree.parent) rows_most (lower s form) t (λ x. x ≡ t) (λ h. refl)
      (λ x z h above. absurd (access (ap (at s.accesses.operation) (sym above) ∙ plain_above x h)))
    where
      plain_above : (x : ℕ) → x < rows_most → at s.accesses.operation (at s.tree.parent x) ≡ 0
      plain_above x h =
          ⊎_elim (λ u. (form.tree.rows x u).plain_above)
          (λ n. ap (at s.accesses.operation) (form.tree.unused_parent x h n) ∙ root_plain _ _ _ _ _ _ _ _ form.accesses)
          (used_or s.tree.count x)

-- an access that is not yet answered is on no list, has none, and there is a place for it
module _ (s : Store) (t : ℕ) (a : Askable s t) where
  form : Form s
  form = form_facts s a.formed

  row : t < rows_most
  row = omega (arith, form.tree.few, a.known)

  unlisted : at s.lists.place t ≡ 0
  unlisted = unanswered_unlisted _ _ _ _ _ _ _ form.lists t row a.blank

  absent : Misses t (work s.lists.listed s.lists.order)
  absent = missing _ _ _ _ _ _ _ _ _ form.tree form.lists t unlisted

  -- no list has it yet, and nothing is beneath it
  pub own_list_empty : (o : ℕ) → list_of s o t ≡ []
  own_list_empty o = only_none _ _ (work_each s.lists.order (λ x. on_list s.lists.holder s.accesses.object o t x ≡ false) s.lists.listed (λ i b.
      let x = at s.lists.order i in
      let entry = form.lists.entries i b in
      let r = form.lists.rows x (omega (arith, entry.known, form.tree.few)) (λ z. omega (arith, entry.placed)) in
      let other : at s.lists.holder x ≡ t → ⊥ = λ e.
      let same = leaf s form t a.asks x (omega (arith, entry.known, form.tree.few)) (rw e at r.held) in
      omega (arith, entry.placed, ap (at s.lists.place) same, unlisted) in
      rw (ne_eqb (at s.lists.holder x) t other)))

  responded_does : Sized s → (result : Numbers) → Responds s t result (responded s t result)
  responded_does sized result =
      let order_room : s.lists.listed < length s.lists.order = omega (arith, sized.order, has_place s t a) in
      let holder_row : t < length s.lists.holder = omega (arith, sized.holder, row) in
      record {
        same = record { objects = refl; kind = refl; opening = refl };
        count = refl;
        row =
            rw (
              get_or-set_same s.accesses.outcome t (result.a + 1) 0 (omega (arith, sized.outcome, row)),
              get_or-set_same s.accesses.value t result.b (pos 0) (omega (arith, sized.value, row)),
            );
        rows = λ k n. rw (get_or-set_other s.accesses.outcome t k (result.a + 1) 0 n, get_or-set_other s.accesses.value t k result.b (pos 0) n);
        own =
            appended_own s.lists.listed t s.lists.order order_room s.lists.holder s.accesses.object holder_row absent (at s.accesses.object t) t refl refl
            ∙ ap (λ l. l ++ (t ∷ [])) (own_list_empty (at s.accesses.object t));
        lists = λ o u n. appended_other s.lists.listed t s.lists.order order_room s.lists.holder s.accesses.object holder_row absent o u (λ e q. n e (sym q));
      }

-- what an accepted response tested
pub accepted_asks : (s : Store) (t : ℕ) → NoneHolds (respond_refusals s t) → Askable s t
accepted_asks s t n =
    let some = eqb-false t 0 (n 2 (omega arith)) in
    record {
      formed = not-false _ (n 0 (omega arith));
      some = omega arith;
      known = ltb-false _ _ (n 1 (omega arith));
      asks = eqb-false _ _ (n 3 (omega arith));
      blank = eqb-true _ _ (not-false _ (n 6 (omega arith)));
    }

pub respond_does : (s : Store) (t : ℕ) → Sized s → (respond_of s t).answer.code ≡ 0 → Responds s t (result_of (asking_of s t)) (respond_of s t).store
respond_does s t sized e =
    subst (Responds s t (result_of (asking_of s t))) (sym (ap (λ r. r.store) ((respond_decided s t).does e)))
    (responded_does s t (accepted_asks s t ((respond_decided s t).passed.0 e)) sized (result_of (asking_of s t)))

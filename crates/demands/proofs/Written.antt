-- What a call writes in the rows, as object o of this kind sees them: what its event says, or nothing.
use Prim.Native.Nat.{ℕ, ◌+◌, ◌<◌, ◌≤◌}
use mathlib.Core.Path.{◌≡◌, refl, sym, ap, ◌∙◌, subst}
use mathlib.Core.Bool.{true}
use mathlib.Core.List.{List, [], ◌∷◌}
use native.Mathlib.Omega.{arith}
use borrow.Author.Tests.{eq-eqb, leb-false}
use Rattle.theory.specs.Serial.{Serial}
use Rattle.theory.specs.History.{Event, History}
use Rattle.theory.proofs.Rows.{Rows, Agrees, Adds, SameRows, Says, Ends, Idles, Writes, FinishTests, Tests}
use Rattle.kinds.specs.declared.Kind.{Kind}
use Rattle.kinds.specs.Object.{object_of}
use Rattle.columns.specs.Column.{at, rows_most}
use Rattle.form.specs.Form.{count_most}
use Rattle.form.proofs.Facts.{Used}
use Rattle.store.specs.declared.Store.{Store}
use Rattle.refusal.specs.declared.Child.{Child}
use Rattle.store.specs.Form.{in_form}
use Rattle.store.specs.Lists.{kind_at}
use Rattle.store.specs.Create.{create_of}
use Rattle.store.specs.Respond.{asking_of, result_of, respond_of}
use Rattle.store.specs.Finish.{commit_of, abort_of}
use Rattle.store.specs.Effects.{row_of, in_state, Responds, Sized}
use Rattle.store.proofs.Facts.{Form, form_facts}
use Rattle.store.proofs.Answers.{create_decided}
use Rattle.store.proofs.Effects.{create_does, respond_does, commit_does, abort_does}
use Rattle.store.specs.Calls.{Call, reply_to}
use Rattle.demands.specs.History.{outcome_for, role_of, events}
use Rattle.demands.proofs.Calls.{answers}
use Rattle.demands.proofs.ObjectRows.{row_by_row, role_in, new_role, reply_in, no_reply, away_reply, seen_by}
use Rattle.demands.proofs.Response.{Response, response}
use Rattle.demands.proofs.Tested.{create_tests, respond_tests, commit_finishes, commit_tests, abort_tests}
use Rattle.demands.proofs.Ways.{by_ways}

module _ (kind : Kind) (o : ℕ) (s : Store) where
  abbrev seen : Rows (object_of kind)
  seen = seen_by kind o s

  -- a creation
  module _ (p : ℕ) (child : Child) (sized : Sized s) (fine : in_form s ≡ true) (done : (create_of s p child).answer.code ≡ 0) where
    abbrev z : Store
    z = (create_of s p child).store

    adds : Adds seen (seen_by kind o z) (s.tree.count + 1) p (role_of kind o child)
    adds =
        let does = create_does s p child sized done in
        let form : Form s = form_facts s fine in
        let n = s.tree.count + 1 in
        let room : s.tree.count < count_most = leb-false _ _ ((create_decided s p child).passed.0 done 7 (omega arith)) in
        let row : n < rows_most = omega arith in
        let unused : Used s.tree.count n → ⊥ = λ u. omega (arith, u.1) in
        let blank = form.accesses.blank n row (λ a. unused a.0) in
        let old : (m : ℕ) → m ≤ s.tree.count → m ≡ n → ⊥ = λ m h e. omega arith in
        record {
          next = omega arith;
          count = does.count;
          parent = ap (λ r. r.parent) does.row;
          role = ap (role_in kind o) does.row ∙ new_role kind o p child;
          parents = λ m h. ap (λ r. r.parent) (does.rows m (old m h));
          roles = λ m h. ap (role_in kind o) (does.rows m (old m h));
          states = row_by_row (λ r. r.state) s z n does.rows (ap (λ r. r.state) does.row ∙ sym (form.tree.unused_state n row unused));
          replies = row_by_row (reply_in kind o) s z n does.rows
              (no_reply kind o (row_of z n) (ap (λ r. r.outcome) does.row) ∙ sym (no_reply kind o (row_of s n) blank.no_outcome));
        }

    create_adds : Adds seen (seen_by kind o z) (create_of s p child).answer.a p (role_of kind o child)
    create_adds =
        subst (λ (n : ℕ). Adds seen (seen_by kind o z) n p (role_of kind o child)) (sym (ap (λ r. r.answer.a) ((create_decided s p child).does done))) adds

  -- a response
  module _ (t : ℕ) (sized : Sized s) (done : (respond_of s t).answer.code ≡ 0) where
    abbrev after : Store
    after = (respond_of s t).store

    does : Responds s t (result_of (asking_of s t)) after
    does = respond_does s t sized done

    respond_rows : SameRows seen (seen_by kind o after)
    respond_rows = record {
      count = does.count;
      parents = row_by_row (λ r. r.parent) s after t does.rows (ap (λ r. r.parent) does.row);
      roles = row_by_row (role_in kind o) s after t does.rows (ap (role_in kind o) does.row);
    }

    respond_states : (m : ℕ) → at after.tree.state m ≡ at s.tree.state m
    respond_states = row_by_row (λ r. r.state) s after t does.rows (ap (λ r. r.state) does.row)

    respond_says : in_form s ≡ true → kind_at s o ≡ kind → at s.accesses.object t ≡ o
        → Says seen (seen_by kind o after) t (outcome_for (respond_of s t).answer.a (respond_of s t).answer.b)
    respond_says fine kinds on =
        let r : Response kind o t s = response kind o t s sized fine kinds on done in
        let there : at after.accesses.object t ≡ o = ap (λ r. r.object) does.row ∙ on in
        record {
          rows = respond_rows;
          before = no_reply kind o (row_of s t) r.unanswered;
          own = rw (eq-eqb (at after.accesses.object t) o there, r.own, r.handed);
          replies = λ m n. ap (reply_in kind o) (does.rows m n);
          states = respond_states;
        }

    -- at another object
    respond_idles : ¬ (at s.accesses.object t ≡ o) → Idles seen (seen_by kind o after)
    respond_idles off = record {
      rows = respond_rows;
      states = respond_states;
      replies = row_by_row (reply_in kind o) s after t does.rows
          (away_reply kind o (row_of after t) (λ e. off (sym (ap (λ r. r.object) does.row) ∙ e)) ∙ sym (away_reply kind o (row_of s t) off));
    }

  -- t commits or aborts: only its state changes
  ends : (z : Store) (t k : ℕ) → FinishTests seen t → z.tree.count ≡ s.tree.count → row_of z t ≡ in_state (row_of s t) k → ((m : ℕ) → (m ≡ t → ⊥) → row_of z m ≡ row_of s m)
      → Ends seen (seen_by kind o z) t k
  ends z t k tests count row rows = record {
    rows = record {
      count = count;
      parents = row_by_row (λ r. r.parent) s z t rows (ap (λ r. r.parent) row);
      roles = row_by_row (role_in kind o) s z t rows (ap (role_in kind o) row);
    };
    before = tests.unfinished;
    own = ap (λ r. r.state) row;
    states = λ m n. ap (λ r. r.state) (rows m n);
    replies = row_by_row (reply_in kind o) s z t rows (ap (reply_in kind o) row);
  }

  commit_ends : (t : ℕ) → Sized s → in_form s ≡ true → (commit_of s t).answer.code ≡ 0 → Ends seen (seen_by kind o (commit_of s t).store) t 1
  commit_ends t sized fine done =
      let does = commit_does s t sized done in
      ends (commit_of s t).store t 1 (commit_finishes kind o s t fine done) does.count does.row does.rows

  abort_ends : (t : ℕ) → Sized s → in_form s ≡ true → (abort_of s t).answer.code ≡ 0 → Ends seen (seen_by kind o (abort_of s t).store) t 2
  abort_ends t sized fine done =
      let does = abort_does s t sized done in
      ends (abort_of s t).store t 2 (abort_tests kind o s t fine done) does.count does.row does.rows

-- nothing, and then no row changes; or one event, allowed by the refusals, which the rows record
pub data Moved {S : Serial} (happened : List (Event S)) (T U : Rows S) : Type 0 where
  stays : happened ≡ [] → Idles T U → Moved happened T U
  moves : (e : Event S) → happened ≡ e ∷ [] → Writes T e U → Tests T e → Moved happened T U

idle : {S : Serial} (T : Rows S) → Idles T T
idle T = record { rows = record { count = refl; parents = λ m. refl; roles = λ m. refl }; states = λ m. refl; replies = λ m. refl }

module _ (kind : Kind) (o : ℕ) (s : Store) (sized : Sized s) (fine : in_form s ≡ true) (kinds : kind_at s o ≡ kind)
    (h : History (object_of kind)) (agrees : Agrees h (seen_by kind o s)) where
  abbrev Move : Call → List (Event (object_of kind)) → Type 0
  Move c happened = Moved happened (seen_by kind o s) (seen_by kind o (reply_to s c).store)

  pub writes : (c : Call) → Moved (events kind o h c (reply_to s c).answer) (seen_by kind o s) (seen_by kind o (reply_to s c).store)
  writes = by_ways kind o s sized fine kinds h agrees Move (record {
    refused = λ c n.
        stays refl (subst (λ (z : Store). Idles (seen_by kind o s) (seen_by kind o z)) (sym ((answers s c).refused n)) (idle (seen_by kind o s)));
    creates = λ p child done. moves _ refl (create_adds kind o s p child sized fine done) (create_tests kind o s p child done);
    responds = λ t done on. moves _ refl (respond_says kind o s t sized done fine kinds on) (respond_tests kind o s t fine sized kinds on done);
    elsewhere = λ t done off. stays refl (respond_idles kind o s t sized done off);
    commits = λ t done. moves _ refl (commit_ends kind o s t sized fine done) (commit_tests kind o s t fine kinds done);
    aborts = λ t done. moves _ refl (abort_ends kind o s t sized fine done) (abort_tests kind o s t fine done);
  })

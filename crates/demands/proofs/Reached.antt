-- What holds of object o, of this kind, after any calls on a newly opened store: its rows say what its history says, every call in the history was
-- allowed, and the locking object has run through it.
use Prim.Native.Nat.{ℕ, ◌<◌}
use mathlib.Core.Path.{◌≡◌, sym, ap, subst}
use mathlib.Core.Bool.{true}
use mathlib.Core.List.{List, [], ◌∷◌, ◌++◌}
use native.Mathlib.Omega.{arith}
use Rattle.theory.specs.Serial.{Legal}
use Rattle.theory.specs.History.{Event, History, ops}
use Rattle.theory.specs.Accepted.{Accepted}
use Rattle.theory.specs.Locking.{Locking, Same, total, Tree, Runs, start, next}
use Rattle.theory.proofs.Rows.{Rows, Agrees}
use Rattle.theory.proofs.Agree.{agrees_start, agrees_next, agrees_idle, tree, within_known, alive_row, allowed}
use Rattle.theory.proofs.Atomic.{behaves}
use Rattle.theory.proofs.Runs.{same_self, runs_same}
use Rattle.kinds.specs.declared.Kind.{Kind}
use Rattle.kinds.specs.declared.State.{State}
use Rattle.kinds.specs.Kinds.{kind_of, opened_of, start_of}
use Rattle.kinds.specs.Object.{object_of, op_of}
use Rattle.columns.specs.Column.{at, at_z}
use Rattle.store.specs.declared.Store.{Store}
use Rattle.store.specs.Form.{in_form}
use Rattle.store.specs.Lists.{kind_at}
use Rattle.store.specs.Respond.{respond_of}
use Rattle.store.specs.Effects.{Sized}
use Rattle.store.proofs.Sizes.{open_sized}
use Rattle.store.proofs.Kept.{open_kept, kind_at_lem, opening_at}
use Rattle.refusal.proofs.Opens.{few}
use Rattle.store.proofs.Opens.{opened_or_empty}
use Rattle.store.specs.Calls.{Call, reply_to, after}
use Rattle.demands.specs.History.{events, history_from}
use Rattle.demands.specs.Locking.{locking_of, Moves}
use Rattle.demands.specs.Run.{Run, opened_in, store_in, kind_in, start_in, history_in}
use Rattle.demands.proofs.Calls.{answers, call_sized, call_kept, call_objects}
use Rattle.demands.proofs.ObjectRows.{seen_by, opened_unwritten, parents_lower}
use Rattle.demands.proofs.Response.{Response, response}
use Rattle.demands.proofs.Tested.{respond_tests}
use Rattle.demands.proofs.Ways.{by_ways}
use Rattle.demands.proofs.Written.{Moved, stays, moves, writes}
use Rattle.demands.proofs.Steps.{Pass, pass_turned, pass_swaps}
use Rattle.demands.proofs.Taken.{starts, create_taken, commit_taken, abort_taken, respond_elsewhere}
use Rattle.demands.proofs.TakenRespond.{answer_right, request}

pub record Reached (kind : Kind) (o : ℕ) (opening : State) (h : History (object_of kind)) (s : Store) : Type 0 where
  pub sized : Sized s
  pub form : in_form s ≡ true
  pub has : o < s.objects.count
  pub kinds : kind_at s o ≡ kind
  pub opens : start_of (opened_of (kind_at s o) (at_z s.objects.opening o)) ≡ opening
  pub agrees : Agrees h (seen_by kind o s)
  pub accepted : Accepted h
  pub runs : Runs (object_of kind) opening (Pass kind) h (locking_of kind o s)

module _ (kind : Kind) (o : ℕ) (opening : State) (h : History (object_of kind)) (s : Store) (r : Reached kind o opening h s) where
  abbrev seen : Rows (object_of kind)
  seen = seen_by kind o s

  abbrev locking : Locking (object_of kind)
  locking = locking_of kind o s

  pub reached_tree : Tree h (at s.tree.parent)
  reached_tree = tree h seen r.agrees (parents_lower s r.sized r.form)

  abbrev Step : Call → List (Event (object_of kind)) → Type 0
  Step c happened = Moves kind opening (Pass kind) (at s.tree.parent) happened locking (locking_of kind o (reply_to s c).store)

  -- the view of an asking access, and then its answer
  asked_legal : (t : ℕ) (done : (respond_of s t).answer.code ≡ 0) (on : at s.accesses.object t ≡ o)
      → let said = response kind o t s r.sized r.form r.kinds on done in
      Legal (object_of kind) opening (ops (total (at s.tree.parent) locking t) ++ (op_of kind said.answered ∷ []))
  asked_legal t done on =
      let said : Response kind o t s = response kind o t s r.sized r.form r.kinds on done in
      let tests = respond_tests kind o s t r.form r.sized r.kinds on done in
      let alive = alive_row h seen r.accepted r.agrees (parents_lower s r.sized r.form) t tests.finish.alive in
      behaves (object_of kind) opening (Pass kind) (pass_turned kind) (pass_swaps kind) h locking r.accepted r.runs (at s.tree.parent) reached_tree t
      (within_known h seen r.agrees t said.known) alive (op_of kind said.answered)
      (answer_right kind o s r.form r.kinds t said opening r.opens)

  -- every call is a step of the locking object, or nothing to it
  pub takes : (c : Call) → Step c (events kind o h c (reply_to s c).answer)
  takes = by_ways kind o s r.sized r.form r.kinds h r.agrees Step (record {
    refused = λ c n. subst (λ (z : Store). Same locking (locking_of kind o z)) (sym ((answers s c).refused n)) (same_self locking);
    creates = λ p child done. create_taken kind o s r.sized p child done opening (Pass kind);
    responds = λ t done on.
        let said : Response kind o t s = response kind o t s r.sized r.form r.kinds on done in
        request kind o s r.form r.kinds t said r.sized done opening (asked_legal t done on);
    elsewhere = λ t done off. respond_elsewhere kind o s r.sized t done off;
    commits = λ t done. commit_taken kind o s r.sized t done;
    aborts = λ t done. abort_taken kind o s r.sized t done;
  })

  -- the history and the locking object go on together
  module _ (z : Store) where
    abbrev On : List (Event (object_of kind)) → Type 0
    On happened =
        Agrees (happened ++ h) (seen_by kind o z) × Accepted (happened ++ h)
        × Runs (object_of kind) opening (Pass kind) (happened ++ h) (locking_of kind o z)

    goes_on : (happened : List (Event (object_of kind))) → Moved happened seen (seen_by kind o z)
        → Moves kind opening (Pass kind) (at s.tree.parent) happened locking (locking_of kind o z) → On happened
    goes_on happened (stays e idles) step =
        rw e (
          agrees_idle h seen (seen_by kind o z) r.agrees idles,
          r.accepted,
          runs_same (object_of kind) opening (Pass kind) h locking (locking_of kind o z) r.runs (rw e at step),
        )
    goes_on happened (moves c e writes tests) step =
        rw e (
          agrees_next h c seen (seen_by kind o z) r.agrees writes,
          (r.accepted, allowed h seen r.accepted r.agrees (parents_lower s r.sized r.form) c (seen_by kind o z) writes tests),
          next c (at s.tree.parent) reached_tree r.runs (rw e at step),
        )

  reached_next : (c : Call) → Reached kind o opening (events kind o h c (reply_to s c).answer ++ h) (reply_to s c).store
  reached_next c =
      let z = (reply_to s c).store in
      let same = call_objects s c r.sized in
      let moved = writes kind o s r.sized r.form r.kinds h r.agrees c in
      let on = goes_on z (events kind o h c (reply_to s c).answer) moved (takes c) in
      record {
        sized = call_sized s c r.sized;
        form = call_kept s c r.sized r.form;
        has = rw same.objects r.has;
        kinds = rw same.kind r.kinds;
        opens = rw (same.kind, same.opening) r.opens;
        agrees = on.0;
        accepted = on.1;
        runs = on.2;
      }

module _ (kind : Kind) (o : ℕ) (opening : State) where
  reached_after : (h : History (object_of kind)) (s : Store) (calls : List Call) → Reached kind o opening h s
      → Reached kind o opening (history_from kind o s h calls) (after s calls)
  unfolding history_from after
  reached_after h s [] r = r
  reached_after h s (c ∷ calls) r =
      reached_after (events kind o h c (reply_to s c).answer ++ h) (reply_to s c).store calls (reached_next kind o opening h s r c)

module _ (r : Run) where
  -- the object is the one that was asked for
  opened_object : (kind_at (opened_in r) r.object ≡ kind_in r) × (at_z (opened_in r).objects.opening r.object ≡ at_z r.openings r.object)
  opened_object =
      opened_or_empty
      (λ z. r.object < z.objects.count → (kind_at z r.object ≡ kind_in r) × (at_z z.objects.opening r.object ≡ at_z r.openings r.object))
      r.kinds r.openings
      (λ e h.
      let most = few r.kinds r.openings e in
      (ap kind_of (kind_at_lem r.kinds r.openings r.object h (omega arith)), opening_at r.kinds r.openings r.object h (omega arith)))
      (λ h. absurd (omega arith)) r.has

  reached_start : Reached (kind_in r) r.object (start_in r) [] (opened_in r)
  reached_start =
      record {
        sized = open_sized r.kinds r.openings;
        form = open_kept r.kinds r.openings;
        has = r.has;
        kinds = opened_object.0;
        opens = rw (opened_object.0, opened_object.1);
        agrees = agrees_start (seen_by (kind_in r) r.object (opened_in r)) (opened_unwritten (kind_in r) r.object r.kinds r.openings);
        accepted = tt;
        runs = start (starts (kind_in r) r.object r.kinds r.openings);
      }

  pub reached : Reached (kind_in r) r.object (start_in r) (history_in r) (store_in r)
  reached = reached_after (kind_in r) r.object (start_in r) [] (opened_in r) r.calls reached_start

-- The three demands of the real calls. Each statement is a record in specs/Demands.antt, whose fields say its sentences; that no caller is trusted is in
-- Real.antt.
use Prim.Native.Nat.{ℕ}
use mathlib.Core.Path.{◌≡◌}
use mathlib.Core.List.{map}
use Rattle.theory.specs.Serial.{Serial, Legal, Commute}
use Rattle.theory.specs.History.{ops, Orphan, Work}
use Rattle.theory.specs.Accepted.{Known}
use Rattle.theory.specs.Locking.{Tree}
use Rattle.theory.specs.Atomic.{Serializes}
use Rattle.theory.proofs.Tree.{root_alive}
use Rattle.theory.proofs.Rows.{Rows}
use Rattle.theory.proofs.Agree.{known_within, within_known, asked_row, row_asked}
use Rattle.theory.proofs.Atomic.{total_is_work, dynamic_atomic, total_legal}
use Rattle.kinds.specs.Object.{object_of}
use Rattle.kinds.proofs.Claims.{passes_commute, conflicts_exactly}
use Rattle.columns.specs.Column.{at}
use Rattle.store.specs.declared.Store.{Store}
use Rattle.store.specs.declared.Reply.{Reply}
use Rattle.store.specs.Lists.{list_of, view_of}
use Rattle.store.specs.Claims.{Decided}
use Rattle.store.proofs.Answers.{decided_sole}
use Rattle.store.proofs.Waits.{respond_waits, respond_granted}
use Rattle.store.specs.Calls.{Call, reply_to}
use Rattle.demands.specs.Calls.{refusals_to, done_to}
use Rattle.demands.specs.History.{events}
use Rattle.demands.specs.Locking.{Moves}
use Rattle.demands.specs.Run.{Run, store_in, kind_in, start_in, history_in, locking_in}
use Rattle.demands.specs.Demands.{Demand1, RowsAgree, Demand2, viewed, Demand3}
use Rattle.demands.proofs.Calls.{answers, orders, listed, opens, unopened, call_does}
use Rattle.demands.proofs.ObjectRows.{seen_by}
use Rattle.demands.proofs.Response.{handed_out}
use Rattle.demands.proofs.Tested.{requested_replied}
use Rattle.demands.proofs.Steps.{Pass, pass_turned, pass_swaps, commuting}
use Rattle.demands.proofs.Taken.{starts, lists_are}
use Rattle.demands.proofs.TakenRespond.{view_are}
use Rattle.demands.proofs.Reached.{takes, reached, reached_tree}
use Rattle.demands.proofs.Blocked.{waits_exactly}
use Rattle.demands.proofs.Caused.{wait_uncommuting}

pub demand_1 : Demand1
demand_1 = record { listed = listed; handed_back = λ s c. (answers s c).refused; opens = opens; unopened = unopened }

-- what meets demand 2's answers is what the call hands back, and nothing else
pub answers_sole : (s : Store) (c : Call) (x : Reply) → Decided s (refusals_to s c) (done_to s c) x → x ≡ reply_to s c
answers_sole s c x decided = decided_sole s (refusals_to s c) (done_to s c) x (reply_to s c) decided (answers s c)

module _ (r : Run) where
  abbrev seen : Rows (object_of (kind_in r))
  seen = seen_by (kind_in r) r.object (store_in r)

  rows : RowsAgree r
  rows = record {
    formed = (reached r).form;
    numbers = λ n. (known_within (history_in r) seen (reached r).agrees n, within_known (history_in r) seen (reached r).agrees n);
    tree = reached_tree (kind_in r) r.object (start_in r) (history_in r) (store_in r) (reached r);
    committed = (reached r).agrees.commits;
    aborted = (reached r).agrees.aborts;
    asked = λ x some known a. (
      (λ asks. (asked_row (history_in r) seen (reached r).agrees x a asks).2),
      (λ role. row_asked (history_in r) seen (reached r).agrees x a some known role),
    );
    answered = λ x. let replied = requested_replied (kind_in r) r.object (store_in r) (reached r).sized (reached r).form (reached r).kinds x in (
      (λ e. let reply = replied.0 e in (reply.0, ((reached r).agrees.replies x reply.0).1 reply.1)),
      (λ (v, told). replied.1 (v, ((reached r).agrees.replies x v).0 told)),
    );
    allowed = (reached r).accepted;
  }

  steps : (c : Call) → let reply = reply_to (store_in r) c in
      Moves (kind_in r) (start_in r) (Commute (object_of (kind_in r))) (at (store_in r).tree.parent) (events (kind_in r) r.object (history_in r) c reply.answer)
      (locking_in r (store_in r)) (locking_in r reply.store)
  steps c =
      let s = store_in r in
      let h = history_in r in
      let z = (reply_to s c).store in
      commuting (kind_in r) (start_in r) (at s.tree.parent) (events (kind_in r) r.object h c (reply_to s c).answer) (locking_in r s) (locking_in r z)
      (takes (kind_in r) r.object (start_in r) h s (reached r) c)

  lists : (u : ℕ) → map (λ e. e.who) ((locking_in r (store_in r)).intentions u) ≡ list_of (store_in r) r.object u
  lists = lists_are (kind_in r) r.object (store_in r) (reached r).form (reached r).kinds

pub demand_2 : Demand2
demand_2 = record {
  answers = answers;
  orders = orders;
  rows = rows;
  does = call_does;
  granted = respond_granted;
  starts = λ r. starts (kind_in r) r.object r.kinds r.openings;
  steps = steps;
  lists = lists;
  waits = waits_exactly;
  names = respond_waits;
  table = passes_commute;
  exact = conflicts_exactly;
  caused = wait_uncommuting;
}

module _ (r : Run) (t : ℕ) where
  abbrev object : Serial
  object = object_of (kind_in r)

  abbrev tree : Tree (history_in r) (at (store_in r).tree.parent)
  tree = (rows r).tree

  serializes : ¬ Orphan (history_in r) t → Serializes object (start_in r) (history_in r) t
  serializes alive =
      dynamic_atomic object (start_in r) (Pass (kind_in r)) (pass_turned (kind_in r)) (pass_swaps (kind_in r)) (history_in r) (locking_in r (store_in r))
      (reached r).accepted (reached r).runs t alive

  module _ (known : Known (history_in r) t) where
    views : ¬ Orphan (history_in r) t → Work (history_in r) t (viewed r t)
    views alive =
        total_is_work object (start_in r) (Pass (kind_in r)) (pass_turned (kind_in r)) (history_in r) (locking_in r (store_in r))
        (reached r).accepted (reached r).runs (at (store_in r).tree.parent) tree t known alive

    accesses : map (λ e. e.who) (viewed r t) ≡ view_of (store_in r) r.object t
    accesses = view_are (kind_in r) r.object (store_in r) (reached r).form (reached r).kinds t (((rows r).numbers t).0 known)

    replayed : ¬ Orphan (history_in r) t → Legal object (start_in r) (ops (viewed r t))
    replayed alive =
        total_legal object (start_in r) (Pass (kind_in r)) (pass_turned (kind_in r)) (pass_swaps (kind_in r)) (history_in r) (locking_in r (store_in r))
        (reached r).accepted (reached r).runs (at (store_in r).tree.parent) tree t known alive

pub demand_3 : Demand3
demand_3 = record { serializes = serializes; views = views; accesses = accesses; replayed = replayed; handed_out = handed_out }

-- the root is never dropped: what reached it always adds up
pub root_serializes : (r : Run) → Serializes (object_of (kind_in r)) (start_in r) (history_in r) 0
root_serializes r = serializes r 0 (root_alive (history_in r) (reached r).accepted)

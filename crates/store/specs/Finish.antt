-- Commit and abort. Source: document 01, "Calls, answers and their order" and "Lists of work".
use Rattle.std.specs.Prelude.{ℕ, ◌&&◌, not, List, [], ◌∷◌, pos, set, eqb}
use Rattle.below.specs.Below.{any_below, first_below}
use Rattle.columns.specs.Column.{at}
use Rattle.columns.specs.Tree.{has_committed, has_aborted, at_or_above, open_child}
use Rattle.columns.specs.Work.{dropped_of, moved_of}
use Rattle.columns.specs.declared.lists.Lists.{Lists}
use Rattle.store.specs.declared.Store.{Store}
use Rattle.store.specs.declared.Reply.{Reply}
use Rattle.store.specs.Lists.{rows_of}
use Rattle.refusal.specs.Refusal.{Refusal, answer_of, refuse}
use Rattle.store.specs.Refusal.{reply_of, decide, malformed, missing, is_root, finished, orphaned}

-- the store with t in another state, and other lists
abbrev pub finished_as : Store → ℕ → ℕ → Lists → Store
finished_as s t state w = record {
  objects = s.objects;
  tree = record {
    count = s.tree.count;
    parent = s.tree.parent;
    state = set s.tree.state t state;
  };
  accesses = s.accesses;
  lists = w;
}

-- 11: commit of a plain transaction with a child neither committed nor aborted; the lowest such child
abbrev pub child_open : Store → ℕ → Refusal
child_open s t = record {
  when = eqb (at s.accesses.operation t) 0 && any_below (rows_of s) (open_child s.tree.parent s.tree.state t);
  answer = answer_of 11 (first_below (rows_of s) (open_child s.tree.parent s.tree.state t)) (pos 0);
}

-- 12: commit of an access not yet responded to
abbrev pub unanswered : Store → ℕ → Refusal
unanswered s t = refuse 12 (not (eqb (at s.accesses.operation t) 0) && eqb (at s.accesses.outcome t) 0)

-- commit of t appends t's list to the end of its parent's, for every object, and empties t's
abbrev pub committed : Store → ℕ → Store
committed s t =
    finished_as s t has_committed (moved_of (λ x. eqb (at s.lists.holder x) t) (at s.tree.parent t) (rows_of s) s.lists.listed s.lists.order s.lists.holder)

abbrev pub commit_refusals : Store → ℕ → List Refusal
commit_refusals s t = malformed s ∷ missing s t ∷ is_root t ∷ finished s t ∷ orphaned s t ∷ child_open s t ∷ unanswered s t ∷ []

unfoldable pub commit_of : Store → ℕ → Reply
commit_of s t = decide s (commit_refusals s t) (reply_of (committed s t) (answer_of 0 t (pos 0)))

-- abort of t empties the lists of t and of all beneath it
abbrev pub aborted : Store → ℕ → Store
aborted s t =
    finished_as s t has_aborted (dropped_of (λ x. at_or_above s.tree.parent (at s.lists.holder x) t) (rows_of s) s.lists.listed s.lists.order s.lists.holder)

abbrev pub abort_refusals : Store → ℕ → List Refusal
abort_refusals s t = malformed s ∷ missing s t ∷ is_root t ∷ finished s t ∷ orphaned s t ∷ []

unfoldable pub abort_of : Store → ℕ → Reply
abort_of s t = decide s (abort_refusals s t) (reply_of (aborted s t) (answer_of 0 t (pos 0)))

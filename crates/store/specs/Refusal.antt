-- Refusals, and the order in which they are tried. Source: document 01, "Calls, answers and their order".
use Rattle.std.specs.Prelude.{ℕ, cond, not, List, [], ◌∷◌, eqb, ltb}
use Rattle.columns.specs.Column.{at}
use Rattle.columns.specs.Tree.{is_open, aborted_up}
use Rattle.refusal.specs.Refusal.{Refusal, refuse}
use Rattle.store.specs.declared.Store.{Store}
use Rattle.refusal.specs.declared.Answer.{Answer}
use Rattle.store.specs.declared.Reply.{Reply}
use Rattle.store.specs.Form.{in_form}

abbrev pub reply_of : Store → Answer → Reply
reply_of s answer = record { store = s; answer = answer }

-- the first refusal whose condition holds, with the store as it came in; where none holds, what is done
unfoldable pub decide : Store → List Refusal → Reply → Reply
decide s [] done = done
decide s (r ∷ rest) done = cond r.when (reply_of s r.answer) (decide s rest done)

-- 15: the store handed in breaks a form rule
abbrev pub malformed : Store → Refusal
malformed s = refuse 15 (not (in_form s))

-- 1: no such transaction (for create: the parent)
abbrev pub missing : Store → ℕ → Refusal
missing s t = refuse 1 (ltb s.tree.count t)

-- 2: respond, commit or abort of the root
abbrev pub is_root : ℕ → Refusal
is_root t = refuse 2 (eqb t 0)

-- 4: the transaction, or the named parent, has itself committed or aborted
abbrev pub finished : Store → ℕ → Refusal
finished s t = refuse 4 (not (eqb (at s.tree.state t) is_open))

-- 5: some transaction above it has aborted
abbrev pub orphaned : Store → ℕ → Refusal
orphaned s t = refuse 5 (aborted_up s.tree.parent s.tree.state (at s.tree.parent t))

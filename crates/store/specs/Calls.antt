-- Calls on a store, one after another. Source: document 01, "Calls, answers and their order".
use Rattle.std.specs.Prelude.{ℕ, List, [], ◌∷◌}
use Rattle.store.specs.declared.Store.{Store}
use Rattle.refusal.specs.declared.Answer.{Answer}
use Rattle.store.specs.declared.Reply.{Reply}
use Rattle.refusal.specs.declared.Child.{Child}
use Rattle.store.specs.Create.{create_of}
use Rattle.store.specs.Respond.{respond_of}
use Rattle.store.specs.Finish.{commit_of, abort_of}

pub data Call : Type 0 where
  create : ℕ → Child → Call
  respond : ℕ → Call
  commit : ℕ → Call
  abort : ℕ → Call

-- what the code's call of that name is proved to hand back
abbrev pub reply_to : Store → Call → Reply
reply_to s (create p child) = create_of s p child
reply_to s (respond t) = respond_of s t
reply_to s (commit t) = commit_of s t
reply_to s (abort t) = abort_of s t

-- the store after the calls, accepted or refused, the first of the list first
unfoldable pub after : Store → List Call → Store
after s [] = s
after s (c ∷ calls) = after (reply_to s c).store calls

-- their answers
unfoldable pub answers_to : Store → List Call → List Answer
answers_to s [] = []
answers_to s (c ∷ calls) = (reply_to s c).answer ∷ answers_to (reply_to s c).store calls

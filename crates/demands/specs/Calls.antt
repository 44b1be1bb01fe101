-- What is said of any call. Source: document 01, "Calls, answers and their order"; document 00, 1.
use Rattle.std.specs.Prelude.{ℕ, ◌+◌, List, [], ◌∷◌, pos}
use Rattle.store.specs.declared.Store.{Store}
use Rattle.store.specs.declared.Reply.{Reply}
use Rattle.refusal.specs.Refusal.{Refusal, answer_of}
use Rattle.store.specs.Refusal.{reply_of}
use Rattle.store.specs.Create.{request_of, created, create_refusals}
use Rattle.store.specs.Respond.{asking_of, result_of, responded, respond_refusals}
use Rattle.store.specs.Effects.{Creates, Responds, Commits, Aborts}
use Rattle.store.specs.Finish.{committed, commit_refusals, aborted, abort_refusals}
use Rattle.store.specs.Calls.{Call, create, respond, commit, abort}

-- its refusals in document 01's order, and what it hands back where none holds
abbrev pub refusals_to : Store → Call → List Refusal
refusals_to s (create p child) = create_refusals s p child
refusals_to s (respond t) = respond_refusals s t
refusals_to s (commit t) = commit_refusals s t
refusals_to s (abort t) = abort_refusals s t

abbrev pub done_to : Store → Call → Reply
done_to s (create p child) = reply_of (created s p (request_of child)) (answer_of 0 (s.tree.count + 1) (pos 0))
done_to s (respond t) = let result = result_of (asking_of s t) in reply_of (responded s t result) (answer_of 0 result.a result.b)
done_to s (commit t) = reply_of (committed s t) (answer_of 0 t (pos 0))
done_to s (abort t) = reply_of (aborted s t) (answer_of 0 t (pos 0))

-- what it does to every row and to every list, once accepted; z is the store that it hands back
abbrev pub Does : Store → Call → Store → Type 0
Does s (create p child) z = Creates s p (request_of child) z
Does s (respond t) z = Responds s t (result_of (asking_of s t)) z
Does s (commit t) z = Commits s t z
Does s (abort t) z = Aborts s t z

-- the answers that a call has, in their order
abbrev pub codes_for : Call → List ℕ
codes_for (create p child) = 15 ∷ 1 ∷ 3 ∷ 4 ∷ 5 ∷ 6 ∷ 7 ∷ 8 ∷ 0 ∷ []
codes_for (respond t) = 15 ∷ 1 ∷ 2 ∷ 9 ∷ 4 ∷ 5 ∷ 10 ∷ 13 ∷ 0 ∷ []
codes_for (commit t) = 15 ∷ 1 ∷ 2 ∷ 4 ∷ 5 ∷ 11 ∷ 12 ∷ 0 ∷ []
codes_for (abort t) = 15 ∷ 1 ∷ 2 ∷ 4 ∷ 5 ∷ 0 ∷ []

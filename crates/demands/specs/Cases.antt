-- The starred cases. Source: document 01, "On both sides of each line".
use Rattle.std.specs.Prelude.{ℕ, ◌≡◌, List, [], ◌∷◌, pos}
use Rattle.store.specs.declared.Store.{Store}
use Rattle.refusal.specs.declared.Answer.{Answer}
use Rattle.store.specs.declared.Reply.{Reply}
use Rattle.refusal.specs.declared.Request.{Request}
use Rattle.refusal.specs.declared.Child.TheVariants.{Plain, Access}
use Rattle.refusal.specs.Refusal.{answer_of}
use Rattle.store.specs.Open.{open_of}
use Rattle.store.specs.Calls.{Call, create, respond, commit, abort, answers_to}

-- a run, and the answers that its calls are to have
pub record Case : Type 0 where
  pub calls : List Call
  pub answers : List Answer

-- each starts with objects `A 10` (object 0) and `R 7` (object 1)
abbrev pub opening : Reply
opening = open_of (65 ∷ 82 ∷ []) (pos 10 ∷ pos 7 ∷ [])

abbrev pub start : Store
start = opening.store

-- what an access asks of the account and of the register
abbrev asks : ℕ → ℕ → ℕ → Request
asks object operation argument = record { object = object; operation = operation; argument = pos argument }

abbrev pub balance : Request
balance = asks 0 1 0

abbrev pub deposit : ℕ → Request
deposit n = asks 0 2 n

abbrev pub withdraw : ℕ → Request
withdraw n = asks 0 3 n

abbrev pub read : Request
read = asks 1 4 0

abbrev pub write : ℕ → Request
write n = asks 1 5 n

abbrev pub root : ℕ
root = 0

-- a new access, and a new plain transaction
abbrev pub under : ℕ → Request → Call
under parent r = create parent (Access r)

abbrev pub plain_under : ℕ → Call
plain_under parent = create parent Plain

-- a creation's answer has the new number, a commit's and an abort's the transaction
abbrev pub done : ℕ → Answer
done t = answer_of 0 t (pos 0)

-- a response's answers
abbrev pub OK : Answer
OK = answer_of 0 1 (pos 0)

abbrev pub FAIL : Answer
FAIL = answer_of 0 0 (pos 0)

abbrev pub value : ℕ → Answer
value n = answer_of 0 2 (pos n)

abbrev pub wait : ℕ → ℕ → Answer
wait holder access = answer_of 13 holder (pos access)

-- the opening answers that there are 2 objects, and each call what the case says
abbrev pub Holds : Case → Type 0
Holds c = opening.answer ∷ answers_to start c.calls ≡ done 2 ∷ c.answers

abbrev pub AllHold : List Case → Type 0
AllHold [] = Unit {0}
AllHold (c ∷ rest) = Holds c × AllHold rest

abbrev pub table : List Case
table =
    -- 1* Withdraw 6 answered; another's withdraw 11 answers 0 0 0, no wait.
    record {
      calls = under root (withdraw 6) ∷ respond 1 ∷ under root (withdraw 11) ∷ respond 2 ∷ [];
      answers = done 1 ∷ OK ∷ done 2 ∷ FAIL ∷ [];
    }
    -- 2* Withdraw 6 answered by access 1; access 2, withdraw 4: 13 1 1.
    ∷ record {
      calls = under root (withdraw 6) ∷ respond 1 ∷ under root (withdraw 4) ∷ respond 2 ∷ [];
      answers = done 1 ∷ OK ∷ done 2 ∷ wait 1 1 ∷ [];
    }
    -- 3* Withdraw 10 alone: OK.
    ∷ record {
      calls = under root (withdraw 10) ∷ respond 1 ∷ [];
      answers = done 1 ∷ OK ∷ [];
    }
    -- Withdraw 11 alone: FAIL.
    ∷ record {
      calls = under root (withdraw 11) ∷ respond 1 ∷ [];
      answers = done 1 ∷ FAIL ∷ [];
    }
    -- 4* Deposit 1 answered by access 1; access 2, withdraw 11: 13 1 1.
    ∷ record {
      calls = under root (deposit 1) ∷ respond 1 ∷ under root (withdraw 11) ∷ respond 2 ∷ [];
      answers = done 1 ∷ OK ∷ done 2 ∷ wait 1 1 ∷ [];
    }
    -- 5* As 4 with withdraw 10: OK.
    ∷ record {
      calls = under root (deposit 1) ∷ respond 1 ∷ under root (withdraw 10) ∷ respond 2 ∷ [];
      answers = done 1 ∷ OK ∷ done 2 ∷ OK ∷ [];
    }
    -- 6* Two balances: both 0 2 10.
    ∷ record {
      calls = under root balance ∷ respond 1 ∷ under root balance ∷ respond 2 ∷ [];
      answers = done 1 ∷ value 10 ∷ done 2 ∷ value 10 ∷ [];
    }
    -- 7* Access 1 writes 3, access 2 writes 9; respond 2, commit 2, respond 1, commit 1; then a read: 0 2 3.
    ∷ record {
      calls = under root (write 3) ∷ under root (write 9) ∷ respond 2 ∷ commit 2 ∷ respond 1 ∷ commit 1 ∷ under root read ∷ respond 3 ∷ [];
      answers = done 1 ∷ done 2 ∷ OK ∷ done 2 ∷ OK ∷ done 1 ∷ done 3 ∷ value 3 ∷ [];
    }
    -- 8* As 7 without committing 1: the read gets 13 1 1.
    ∷ record {
      calls = under root (write 3) ∷ under root (write 9) ∷ respond 2 ∷ commit 2 ∷ respond 1 ∷ under root read ∷ respond 3 ∷ [];
      answers = done 1 ∷ done 2 ∷ OK ∷ done 2 ∷ OK ∷ done 3 ∷ wait 1 1 ∷ [];
    }
    -- 9* Plain 1 over access 2, deposit 5, answered; abort 1; a balance under the root: 0 2 10.
    ∷ record {
      calls = plain_under root ∷ under 1 (deposit 5) ∷ respond 2 ∷ abort 1 ∷ under root balance ∷ respond 3 ∷ [];
      answers = done 1 ∷ done 2 ∷ OK ∷ done 1 ∷ done 3 ∷ value 10 ∷ [];
    }
    -- 10* As 9, but commit 1 in place of the abort: 11 2 0.
    ∷ record {
      calls = plain_under root ∷ under 1 (deposit 5) ∷ respond 2 ∷ commit 1 ∷ [];
      answers = done 1 ∷ done 2 ∷ OK ∷ answer_of 11 2 (pos 0) ∷ [];
    }
    -- 11* Commit of an unanswered access: 12 0 0.
    ∷ record {
      calls = under root balance ∷ commit 1 ∷ [];
      answers = done 1 ∷ answer_of 12 0 (pos 0) ∷ [];
    }
    ∷ []

-- What the runner prints. Source: document 01, "The run file and its program": code, a and b for the opening and then for each call; a refused opening prints
-- only its line; a file that breaks the rules prints only 16, its line and 0.
use Rattle.std.specs.Prelude.{ℕ, ◌+◌, ◌*◌, ◌≤◌, ◌<◌, ◌≡◌, true, cond, List, [], ◌∷◌, ◌++◌, map, length, pos, eqb, Result, Ok, Err}
use Rattle.text.specs.Text.{answer_text, answer_most}
use Rattle.written.specs.Written.{bytes_most, calls_most, Contents, joined, Each, RunFile, IsRunFile, FirstWrong}
use Rattle.written.specs.File.{file_of}
use Rattle.written.specs.declared.Object.{Object}
use Rattle.written.specs.declared.WrongLine.{WrongLine}
use Rattle.written.specs.declared.Call as L
use Rattle.written.specs.declared.Call.TheVariants.{Plain, Access, Respond, Commit, Abort}
use Rattle.kinds.specs.Kinds.{kind_of, opened_of, opens}
use Rattle.kinds.specs.declared.Kind.TheVariants.{Unknown}
use Rattle.refusal.specs.declared.Answer.{Answer}
use Rattle.store.specs.declared.Reply.{Reply}
use Rattle.refusal.specs.declared.Child.TheVariants as C
use Rattle.store.specs.Open.{open_of}
use Rattle.refusal.specs.Refusal.{answer_of}
use Rattle.store.specs.Calls.{Call, create, respond, commit, abort, answers_to}

-- the store's call that a line asks
abbrev pub call_of : L.Call → Call
call_of (Plain parent) = create parent C.Plain
call_of (Access parent object operation argument) =
    create parent (C.Access (record { object = object; operation = operation; argument = argument }))
call_of (Respond t) = respond t
call_of (Commit t) = commit t
call_of (Abort t) = abort t

-- the opening's reply to the file's objects
abbrev pub opened_with : List Object → Reply
opened_with objects = open_of (map (λ o. o.letter) objects) (map (λ o. o.opening) objects)

-- the opening's answer and, if it was done, those of the calls
abbrev pub answers_from : Reply → List L.Call → List Answer
answers_from opened calls = opened.answer ∷ cond (eqb opened.answer.code 0) (answers_to opened.store (map call_of calls)) []

abbrev pub answers_of : Result Contents WrongLine → List Answer
answers_of (Ok contents) = answers_from (opened_with contents.objects) contents.calls
answers_of (Err wrong) = answer_of 16 wrong.line (pos 0) ∷ []

abbrev pub line_of : Answer → List ℕ
line_of answer = answer_text answer.code answer.a answer.b

-- what the runner prints on a file's bytes
unfoldable pub output_of : List ℕ → List ℕ
output_of s = joined line_of (answers_of (file_of s))

-- the letter of a kind that the store knows
abbrev pub NamesKind : ℕ → Type 0
NamesKind letter = kind_of letter ≡ Unknown → ⊥

-- some object, and each opening in its kind's range
abbrev pub Opens : List Object → Type 0
Opens objects = (1 ≤ length objects) × Each (λ o. opens (opened_of (kind_of o.letter) o.opening) ≡ true) objects

-- the same without reading: what is printed on a file as it is written
pub data Prints (s : List ℕ) : List ℕ → Type 0 where
  too_long : bytes_most < length s → Prints s (answer_text 16 0 (pos 0))
  wrong : length s ≤ bytes_most → (line : ℕ) → FirstWrong IsRunFile s line → Prints s (answer_text 16 line (pos 0))
  refused : length s ≤ bytes_most → (contents : Contents) → RunFile s contents → (Opens contents.objects → ⊥) → Prints s (answer_text 14 0 (pos 0))
  answers : length s ≤ bytes_most → (contents : Contents) → RunFile s contents → Opens contents.objects
      → Prints s (
      answer_text 0 (length contents.objects) (pos 0)
      ++ joined line_of (answers_to (opened_with contents.objects).store (map call_of contents.calls)))

-- the most that is printed: a line for the opening and one for each call
abbrev pub output_most : ℕ
output_most = (calls_most + 1) * answer_most

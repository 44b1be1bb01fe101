-- An object line and a call line as they are read; proofs/Line and Calls tie them to their text. Source: document 01, "The run file and its program", and requests Q-1 and Q-3.
use Rattle.std.specs.Prelude.{ℕ, ◌+◌, List, Bool, cond, ◌||◌, get_or, eqb, Option, Some, None, option_map, option_and_then}
use Prim.Native.Char.{code}
use Rattle.text.specs.Text.{space, line_end}
use Rattle.text.specs.Number.{number_at, on_read}
use Rattle.text.specs.Signed.{signed_at}
use Rattle.written.specs.declared.Call.{Call}
use Rattle.written.specs.declared.Call.TheVariants.{Plain, Access, Respond, Commit, Abort}
use Rattle.written.specs.declared.Object.{Object}

-- the byte at a place, where a space follows it
unfoldable pub letter_at : List ℕ → ℕ → Option ℕ
letter_at file at = cond (eqb (get_or file (at + 1) 0) space) (Some (get_or file at 0)) None

abbrev pub is_kind : ℕ → Bool
is_kind letter = eqb letter (code "A") || eqb letter (code "R") || eqb letter (code "K") || eqb letter (code "S")

-- the object of a letter, with its opening from a place on
abbrev pub object_from : List ℕ → ℕ → ℕ → Option (Object × ℕ)
object_from file at letter =
    cond (is_kind letter)
    (on_read (signed_at line_end file at) None (λ opening next. Some (record { letter = letter; opening = opening }, next)))
    None

-- a kind and its opening, with the place of the next line
abbrev pub object_at : List ℕ → ℕ → Option (Object × ℕ)
object_at file at = option_and_then (object_from file (at + 2)) (letter_at file at)

-- a call of one number
abbrev pub single_of : ℕ → ℕ → Option Call
single_of letter t =
    cond (eqb letter (code "N")) (Some (Plain t))
    (cond (eqb letter (code "G")) (Some (Respond t))
    (cond (eqb letter (code "C")) (Some (Commit t))
    (cond (eqb letter (code "B")) (Some (Abort t)) None)))

-- parent, object, operation, argument
abbrev pub access_at : List ℕ → ℕ → Option (Call × ℕ)
access_at file at =
    on_read (number_at space file at) None
    (λ parent i. on_read (number_at space file i) None
    (λ object j. on_read (number_at space file j) None
    (λ operation k. on_read (signed_at line_end file k) None
    (λ argument next. Some (Access parent object operation argument, next)))))

-- the call of a letter, with its fields from a place on
abbrev pub call_from : List ℕ → ℕ → ℕ → Option (Call × ℕ)
call_from file at letter =
    cond (eqb letter (code "U")) (access_at file at)
    (on_read (number_at line_end file at) None (λ t next. option_map (λ call. (call, next)) (single_of letter t)))

-- a call, with the place of the next line
abbrev pub call_at : List ℕ → ℕ → Option (Call × ℕ)
call_at file at = option_and_then (call_from file (at + 2)) (letter_at file at)

-- The check of a whole file. Source: document 01, "The run file and its program": sections stand in a fixed order, each after its count; nothing follows;
-- a count over its limit breaks the file; a file too long is named as line 0, even if a line is wrong too.
use Rattle.std.specs.Prelude.{ℕ, ◌+◌, ◌≡◌, List, cond, length, ltb, eqb, Option, Some, None, Result, Ok, Err}
use Rattle.text.specs.Text.{line_end}
use Rattle.text.specs.Number.{number_at, on_read}
use Rattle.written.specs.Written.{objects_most, calls_most, bytes_most}
use Rattle.written.specs.Line.{object_at, call_at}
use Rattle.written.specs.Items.{ends_from}
use Rattle.written.specs.declared.Place.{Place}
use Rattle.written.specs.declared.Part.{Part}
use Rattle.written.specs.declared.Layout.{Layout}
use Rattle.written.specs.declared.WrongLine.{WrongLine}

-- go on with the value, or stop at the error
abbrev pub result_and_then : {A B E : Type 0} → Result A E → (A → Result B E) → Result B E
result_and_then (Ok a) k = k a
result_and_then (Err e) k = Err e

-- a count on a line of its own
abbrev pub count_at : ℕ → List ℕ → ℕ → Option (ℕ × ℕ)
count_at most file at = on_read (number_at line_end file at) None (λ n next. cond (ltb most n) None (Some (n, next)))

-- a section of at most so many lines, from its count on, and the place after it; or its first wrong line
abbrev pub section_at : {A : Type 0} → (ℕ → Option (A × ℕ)) → ℕ → List ℕ → Place → Result (Part × Place) WrongLine
section_at line most file place =
    on_read (count_at most file place.at) (Err (record { line = place.line }))
    (λ lines start. result_and_then (ends_from line lines (record { at = start; line = place.line + 1 }))
    (λ end. Ok (record { lines = lines; start = start }, end)))

-- nothing follows
abbrev pub ended_at : List ℕ → Layout → Place → Result Layout WrongLine
ended_at file layout place = cond (eqb place.at (length file)) (Ok layout) (Err (record { line = place.line }))

-- from the call count on
abbrev pub calls_layout : List ℕ → Part → Place → Result Layout WrongLine
calls_layout file objects place =
    result_and_then (section_at (call_at file) calls_most file place) (λ calls. ended_at file (record { objects = objects; calls = calls.0 }) calls.1)

abbrev pub layout_of : List ℕ → Result Layout WrongLine
layout_of file =
    result_and_then (section_at (object_at file) objects_most file (record { at = 0; line = 1 })) (λ objects. calls_layout file objects.0 objects.1)

unfoldable pub check_of : List ℕ → Result Layout WrongLine
check_of file = cond (ltb bytes_most (length file)) (Err (record { line = 0 })) (layout_of file)

-- each outcome of the code that reads a line, `post`, is what the line gives
abbrev pub Reads : {A : Type 0} → (ℕ → Option (A × ℕ) → Type 0) → (ℕ → Option (A × ℕ)) → Type 0
Reads {A} post line = (at : ℕ) (r : Option (A × ℕ)) → post at r → r ≡ line at

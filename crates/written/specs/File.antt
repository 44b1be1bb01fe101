-- The file as it is read: what it holds, or its first wrong line. proofs/Reading says that it is the file as it is written.
use Rattle.std.specs.Prelude.{ℕ, List, Result, Ok, Err}
use Rattle.written.specs.Written.{Contents}
use Rattle.written.specs.Items.{items_from}
use Rattle.written.specs.Line.{object_at, call_at}
use Rattle.written.specs.Check.{check_of}
use Rattle.written.specs.declared.Object.{Object}
use Rattle.written.specs.declared.Call.{Call}
use Rattle.written.specs.declared.Layout.{Layout}
use Rattle.written.specs.declared.WrongLine.{WrongLine}

abbrev pub objects_in : List ℕ → Layout → List Object
objects_in s layout = items_from (object_at s) layout.objects.lines layout.objects.start

abbrev pub calls_in : List ℕ → Layout → List Call
calls_in s layout = items_from (call_at s) layout.calls.lines layout.calls.start

abbrev pub checked_file : List ℕ → Result Layout WrongLine → Result Contents WrongLine
checked_file s (Ok layout) = Ok (record { objects = objects_in s layout; calls = calls_in s layout })
checked_file s (Err wrong) = Err wrong

unfoldable pub file_of : List ℕ → Result Contents WrongLine
file_of s = checked_file s (check_of s)

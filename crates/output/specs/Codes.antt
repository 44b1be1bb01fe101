-- Source: document 01, "Calls, answers and their order", the table of codes.
use Rattle.std.specs.Prelude.{ℕ}

-- the highest code of a call or an opening; 16 is the program's
abbrev pub code_most : ℕ
code_most = 15

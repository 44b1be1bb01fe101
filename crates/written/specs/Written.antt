-- The run file as it is written, and the first wrong line of any other file. Source: document 01, "The run file and its program", and requests Q-1 and Q-3. `RunFile` sets
-- no limit of bytes: `Prints` (crates/output/specs/Output.antt) does, since a file too long is line 0 whatever its lines are.
use Rattle.std.specs.Prelude.{ℕ, ◌-◌, ◌≤◌, ◌≡◌, ◌⊎◌, List, [], ◌∷◌, ◌++◌, cond, length, ℤ, pos, nat_abs, eqb}
use Prim.Native.Char.{code}
use Rattle.text.specs.Text.{line_end, space, decimal, signed_text, number_most}
use Rattle.written.specs.declared.Object.{Object}
use Rattle.written.specs.declared.Call.{Call}
use Rattle.written.specs.declared.Call.TheVariants.{Plain, Access, Respond, Commit, Abort}

abbrev pub objects_most : ℕ
objects_most = 64

abbrev pub calls_most : ℕ
calls_most = 4096

abbrev pub bytes_most : ℕ
bytes_most = 65536

-- what a file holds
pub record Contents : Type 0 where
  pub objects : List Object
  pub calls : List Call

-- N creates a plain transaction, U an access, G responds, C commits, B aborts
abbrev pub letter_of : Call → ℕ
letter_of (Plain parent) = code "N"
letter_of (Access parent object operation argument) = code "U"
letter_of (Respond t) = code "G"
letter_of (Commit t) = code "C"
letter_of (Abort t) = code "B"

abbrev pub fields_of : Call → List ℤ
fields_of (Plain parent) = pos parent ∷ []
fields_of (Access parent object operation argument) = pos parent ∷ pos object ∷ pos operation ∷ argument ∷ []
fields_of (Respond t) = pos t ∷ []
fields_of (Commit t) = pos t ∷ []
fields_of (Abort t) = pos t ∷ []

-- one text after another
abbrev pub joined : {A : Type 0} → (A → List ℕ) → List A → List ℕ
joined text [] = []
joined text (x ∷ xs) = text x ++ joined text xs

-- a letter and its fields, one space before each, LF at the end
abbrev pub line_text : ℕ → List ℤ → List ℕ
line_text letter fields = letter ∷ joined (λ z. space ∷ signed_text z) fields ++ (line_end ∷ [])

abbrev pub object_text : Object → List ℕ
object_text o = line_text o.letter (o.opening ∷ [])

abbrev pub call_text : Call → List ℕ
call_text c = line_text (letter_of c) (fields_of c)

-- a count, then as many lines
abbrev pub section_text : {A : Type 0} → (A → List ℕ) → List A → List ℕ
section_text text lines = decimal (length lines) ++ (line_end ∷ []) ++ joined text lines

-- sections stand in a fixed order, and nothing follows
abbrev pub file_text : Contents → List ℕ
file_text contents = section_text object_text contents.objects ++ section_text call_text contents.calls

-- P of every member
abbrev pub Each : {A : Type 0} → (A → Type 0) → List A → Type 0
Each P [] = Unit {0}
Each P (x ∷ xs) = P x × Each P xs

-- at most the largest number of a file; a minus (request Q-1), which stands only before an opening or an argument, down to its negative
abbrev pub InRange : ℤ → Type 0
InRange z = nat_abs z ≤ number_most

-- A, an account, R, a register, K, a counter, or S, a bin of serial-numbered parts
abbrev pub KindLetter : ℕ → Type 0
KindLetter letter = (letter ≡ code "A") ⊎ (letter ≡ code "R") ⊎ (letter ≡ code "K") ⊎ (letter ≡ code "S")

abbrev pub ObjectFits : Object → Type 0
ObjectFits o = KindLetter o.letter × InRange o.opening

abbrev pub CallFits : Call → Type 0
CallFits c = Each InRange (fields_of c)

-- the file is the text of these contents, within the limits of numbers and counts
pub record RunFile (file : List ℕ) (contents : Contents) : Type 0 where
  pub text : file ≡ file_text contents
  pub few_objects : length contents.objects ≤ objects_most
  pub few_calls : length contents.calls ≤ calls_most
  pub objects_fit : Each ObjectFits contents.objects
  pub calls_fit : Each CallFits contents.calls

abbrev pub IsRunFile : List ℕ → Type 0
IsRunFile file = (contents : Contents) × RunFile file contents

-- a text of n lines, each ended by LF
abbrev pub Lines : ℕ → List ℕ → Type 0
Lines n [] = n ≡ 0
Lines n (b ∷ text) = (1 ≤ n) × Lines (cond (eqb b line_end) (n - 1) n) text

-- the first n lines of a file
pub record Top (n : ℕ) (file top : List ℕ) : Type 0 where
  pub rest : List ℕ
  pub parts : file ≡ top ++ rest
  pub lines : Lines n top

-- a good file can begin with this text
abbrev pub Begins : (List ℕ → Type 0) → List ℕ → Type 0
Begins Good text = (rest : List ℕ) × Good (text ++ rest)

-- the first wrong or missing line, from 1, where these files are good
pub record FirstWrong (Good : List ℕ → Type 0) (file : List ℕ) (line : ℕ) : Type 0 where
  pub numbered : 1 ≤ line
  -- a good file can begin with the lines before it
  pub before : List ℕ
  pub top : Top (line - 1) file before
  pub right : Begins Good before
  -- and with this line, where there is one, it cannot
  pub wrong : (upto : List ℕ) → Top line file upto → Begins Good upto → ⊥
  -- nor is the file good as it is
  pub broken : Good file → ⊥

-- What a function that prints does to the buffer that it is lent.
use Rattle.std.specs.Prelude.{ℕ, ◌+◌, ◌≤◌, ◌≡◌, List, length}
use Rattle.std.proofs.lemmas.List.Edits.{sets}
use Rattle.text.specs.declared.print.Line.{Line}

-- the text stands in the buffer from a place on, all else as it was (the library's `sets`: one list written over another, byte after byte); r is the place
-- after it, within the buffer
pub record Puts (before : List ℕ) (at : ℕ) (text : List ℕ) (r : ℕ) (exit : List ℕ) : Type 0 where
  pub next : r ≡ at + length text
  pub bytes : exit ≡ sets before at text
  pub room : r ≤ length exit

-- what a line has more: a text after what stood of it, in the same buffer, which keeps its length
pub record Adds (before : Line) (text : List ℕ) (after : Line) : Type 0 where
  pub same_buffer : after.out.ghost_name ≡ before.out.ghost_name
  pub puts : Puts before.out.now before.at text after.at after.out.now
  pub kept : length after.out.now ≡ length before.out.now

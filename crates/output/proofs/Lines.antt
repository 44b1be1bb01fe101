-- What is printed: by calls as they are read from their lines, by an opening, on a file.
use Prim.Native.Nat.{ℕ, ◌+◌, ◌≤◌, ◌<◌}
use mathlib.Core.Path.{◌≡◌, refl, ap}
use mathlib.Core.List.{List, [], ◌∷◌, ◌++◌, map, append-nil}
use native.Mathlib.Omega.{arith}
use lib.IntN.{pos}
use borrow.Author.Tests.{eq-eqb, ne_eqb}
use Rattle.text.specs.Text.{answer_text, codes_below}
use Rattle.std.specs.Prelude.{Some, None, Ok, Err}
use Rattle.written.specs.Written.{Contents, joined}
use Rattle.written.specs.Items.{items_from}
use Rattle.written.specs.Line.{call_at}
use Rattle.written.specs.Check.{check_of}
use Rattle.written.specs.File.{objects_in, calls_in, file_of}
use Rattle.written.specs.declared.Object.{Object}
use Rattle.written.specs.declared.Call.{Call}
use Rattle.written.specs.declared.Layout.{Layout}
use Rattle.written.proofs.Items.{items_done, items_wrong, items_more}
use Rattle.store.specs.declared.Store.{Store}
use Rattle.store.specs.declared.Reply.{Reply}
use Rattle.store.specs.Calls.{reply_to, answers_to}
use Rattle.output.proofs.Codes.{code_most_lem, open_code_most}
use Rattle.output.specs.Output.{call_of, line_of, answers_from, opened_with, output_of}

-- what these calls print on a store
abbrev pub printed : Store → List Call → List ℕ
printed store calls = joined line_of (answers_to store (map call_of calls))

-- the same, with the calls of n lines from a place
abbrev pub printed_from : Store → List ℕ → ℕ → ℕ → List ℕ
printed_from store file n at = printed store (items_from (call_at file) n at)

-- a code fits its place in a line
pub code_low : (store : Store) (call : Call) (r : Reply) → r ≡ reply_to store (call_of call) → r.answer.code < codes_below
code_low store call r e = omega (arith, ap (λ (x : Reply). x.answer.code) e, code_most_lem store (call_of call))

module _ (store : Store) where
  printed_none : printed store [] ≡ []
  unfolding answers_to
  printed_none = refl

  printed_first : (c : Call) (rest : List Call) (r : Reply) → r ≡ reply_to store (call_of c) → printed store (c ∷ rest) ≡ line_of r.answer ++ printed r.store rest
  unfolding answers_to
  printed_first c rest r e = rw e

  module _ (file : List ℕ) (n at : ℕ) where
    pub printed_done : n ≤ 0 → printed_from store file n at ≡ []
    printed_done h = rw (items_done (call_at file) n at h) printed_none

    pub printed_wrong : call_at file at ≡ None → printed_from store file n at ≡ []
    printed_wrong e = rw (items_wrong (call_at file) n at e) printed_none

    pub printed_more : (m : ℕ) (c : Call) (next : ℕ) (r : Reply) → n ≡ m + 1 → call_at file at ≡ Some (c, next) → r ≡ reply_to store (call_of c)
        → printed_from store file n at ≡ line_of r.answer ++ printed_from r.store file m next
    printed_more m c next r h e d =
        rw (items_more (call_at file) n m at c next h e) (printed_first c (items_from (call_at file) m next) r d)

-- what the opening prints, and the calls after it if it was done
module _ (opened r : Reply) (calls : List Call) (e : r ≡ opened) where
  pub opened_only : (r.answer.code ≡ 0 → ⊥) → joined line_of (answers_from opened calls) ≡ line_of r.answer
  opened_only n = rw (← e, ne_eqb r.answer.code 0 n) (append-nil (line_of r.answer))

  pub opened_run : r.answer.code ≡ 0 → joined line_of (answers_from opened calls) ≡ line_of r.answer ++ printed r.store calls
  opened_run z = rw (← e, eq-eqb r.answer.code 0 z)

pub opened_low : (objects : List Object) (r : Reply) → r ≡ opened_with objects → r.answer.code < codes_below
opened_low objects r e =
    omega (arith, ap (λ (x : Reply). x.answer.code) e, open_code_most (map (λ o. o.letter) objects) (map (λ o. o.opening) objects))

module _ (s : List ℕ) where
  pub output_line : (line : ℕ) → file_of s ≡ Err (record { line = line }) → output_of s ≡ answer_text 16 line (pos 0)
  unfolding output_of
  output_line line e = rw e (append-nil (answer_text 16 line (pos 0)))

  pub output_answers : (contents : Contents) → file_of s ≡ Ok contents
      → output_of s ≡ joined line_of (answers_from (opened_with contents.objects) contents.calls)
  unfolding output_of
  output_answers contents e = rw e

  pub output_bad : (line : ℕ) → check_of s ≡ Err (record { line = line }) → output_of s ≡ answer_text 16 line (pos 0)
  unfolding file_of
  output_bad line e = output_line line (rw e)

  pub output_good : (layout : Layout) → check_of s ≡ Ok layout
      → output_of s ≡ joined line_of (answers_from (opened_with (objects_in s layout)) (calls_in s layout))
  unfolding file_of
  output_good layout e = output_answers (record { objects = objects_in s layout; calls = calls_in s layout }) (rw e)

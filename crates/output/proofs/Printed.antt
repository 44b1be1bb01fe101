-- What is printed on every file is what `Prints` says, in document 01's words.
use Prim.Native.Nat.{ℕ, ◌≤◌}
use mathlib.Core.Path.{◌≡◌, refl, sym, ◌∙◌}
use mathlib.Core.Logic.{◌↔◌, ⊎_elim}
use mathlib.Core.Bool.{false≢true}
use mathlib.Core.List.{List, [], ◌∷◌}
use native.Mathlib.Omega.{arith}
use lib.ListN.{length, length-append}
use borrow.Author.Tests.{ne_eqb}
use Rattle.below.proofs.Tests.{bool_or, le_or}
use Rattle.kinds.specs.Kinds.{kind_of}
use Rattle.std.specs.Prelude.{Result, Ok, Err}
use Rattle.written.specs.Written.{bytes_most, Contents, joined, KindLetter}
use Rattle.written.specs.File.{file_of}
use Rattle.written.specs.declared.WrongLine.{WrongLine}
use Rattle.written.proofs.Letters.{kind_each, kind_among}
use Rattle.written.proofs.Reading.{read_exactly, first_wrong, too_long_lem}
use Rattle.refusal.specs.declared.Answer.{Answer}
use Rattle.refusal.specs.Open.{openable}
use Rattle.output.specs.Output.{answers_of, line_of, output_of, NamesKind, Prints, too_long, wrong, refused, answers}
use Rattle.output.proofs.Lines.{output_line, output_answers}
use Rattle.output.proofs.Opening.{letters, openings, opens_exactly, opening_refused, opening_done}

module _ (s : List ℕ) where
  pub prints_output : (out : List ℕ) → Prints s out → output_of s ≡ out
  prints_output out (too_long h) = output_line s 0 (too_long_lem s h)
  prints_output out (wrong h line w) = output_line s line ((first_wrong s h line).1 w)
  prints_output out (refused h contents run shut) =
      output_answers s contents ((read_exactly s h contents).1 run) ∙ opening_refused contents.objects run.few_objects contents.calls shut
  prints_output out (answers h contents run o) =
      output_answers s contents ((read_exactly s h contents).1 run) ∙ opening_done contents.objects run.few_objects contents.calls o

  -- every file is one of the four
  pub output_prints : Prints s (output_of s)
  output_prints = ⊎_elim (λ h. told h (file_of s) refl) (λ h. as_output (too_long h)) (le_or (length s) bytes_most)
    where
      as_output : {out : List ℕ} → Prints s out → Prints s (output_of s)
      as_output {out} p = rw (prints_output out p) p

      told : length s ≤ bytes_most → (f : Result Contents WrongLine) → file_of s ≡ f → Prints s (output_of s)
      told h (Ok contents) e =
          let run = (read_exactly s h contents).0 e in
          let exactly = opens_exactly contents.objects run.few_objects in
          ⊎_elim (λ t. as_output (answers h contents run (exactly.0 t)))
          (λ f. as_output (refused h contents run (λ o. false≢true (sym f ∙ exactly.1 o))))
          (bool_or (openable (letters contents.objects) (openings contents.objects)))
      told h (Err w) e = as_output (wrong h w.line ((first_wrong s h w.line).0 e))

some_joined : (answers : List Answer) → 1 ≤ length answers → 1 ≤ length (joined line_of answers)
some_joined [] h = absurd (omega arith)
some_joined (a ∷ rest) h = simp length-append (omega arith)

some_answer : (f : Result Contents WrongLine) → 1 ≤ length (answers_of f)
some_answer (Ok contents) = omega arith
some_answer (Err w) = omega arith

-- some line is printed on every file: to a caller from C, 0 says that its buffer was refused
pub prints_some : (s : List ℕ) → 1 ≤ length (output_of s)
unfolding output_of
prints_some s = some_joined (answers_of (file_of s)) (some_answer (file_of s))

-- the letters of a file are those of the kinds
pub letters_kinds : (letter : ℕ) → KindLetter letter ↔ NamesKind letter
unfolding kind_of
letters_kinds letter = (
  kind_each NamesKind
      (λ e. let z : ◌≡◌ {A = ℕ} 0 1 = cc in omega arith)
      (λ e. let z : ◌≡◌ {A = ℕ} 0 1 = cc in omega arith)
      (λ e. let z : ◌≡◌ {A = ℕ} 0 1 = cc in omega arith)
      (λ e. let z : ◌≡◌ {A = ℕ} 0 1 = cc in omega arith)
      letter,
  λ known. kind_among letter (λ a r k s. known (simp ne_eqb)),
)

-- A kind of line is read exactly where its text stands: counts, and object lines.
use Prim.Native.Nat.{ℕ, ◌+◌, ◌≤◌, ◌<◌}
use mathlib.Core.Path.{◌≡◌, refl}
use mathlib.Core.List.{List, [], ◌∷◌}
use mathlib.Core.Bool.{true, cond, false≢true}
use mathlib.Core.Logic.{◌↔◌}
use native.Mathlib.Omega.{arith}
use lib.Dec.{ltb}
use lib.IntN.{ℤ}
use borrow.Author.Tests.{ltb-false, le-ltb, ne_eqb}
use Rattle.text.specs.Text.{line_end, decimal, number_most}
use Rattle.std.specs.Prelude.{Option, Some, None}
use Rattle.std.proofs.lemmas.Option.{some_pair_parts, option_and_then_some}
use Rattle.below.proofs.Tests.{either}
use Rattle.written.specs.declared.Object.{Object}
use Rattle.written.specs.Written.{object_text, KindLetter, ObjectFits, Lines}
use Rattle.written.specs.Line.{letter_at, is_kind, object_from, object_at}
use Rattle.written.specs.Check.{count_at}
use Rattle.written.proofs.Letters.{kind_each, kind_among}
use Rattle.written.proofs.Standing.{Stands}
use Rattle.written.proofs.Lines.{inner_decimal, one_line}
use Rattle.written.proofs.Number.{nothing, number_text, number_read}
use Rattle.written.proofs.Fields.{numbers, signeds, fields_then, fields_complete, line_one, line_stands, line_letter, line_behind}

-- a kind of line: what is read, its text, and what may stand there
pub record LineKind {A : Type 0} (line : List ℕ → ℕ → Option (A × ℕ)) (text : A → List ℕ) (Fits : A → Type 0) : Type 0 where
  pub read : (s : List ℕ) (at : ℕ) (a : A) (next : ℕ) → (line s at ≡ Some (a, next)) ↔ (Fits a × Stands s at (text a) next)
  pub one : (a : A) → Fits a → Lines 1 (text a)

-- Counts.
abbrev pub count_text : ℕ → List ℕ
count_text n = number_text line_end n

abbrev within : ℕ → ℕ → ℕ → Option (ℕ × ℕ)
within most n next = cond (ltb most n) None (Some (n, next))

count_sound : (most : ℕ) (s : List ℕ) (at n next : ℕ) → count_at most s at ≡ Some (n, next) → (n ≤ most) × Stands s at (count_text n) next
count_sound most s at n next e =
    fields_then s (n, next) numbers 0 (within most) at e
    (λ m. either (ltb most m.values)
    (λ over. nothing (rw over at m.then))
    (λ fits.
    let parts : (m.values ≡ n) × (m.behind ≡ next) = some_pair_parts m.values n m.behind next (rw fits at m.then) in
    (omega (arith, ltb-false most m.values fits, parts.0), rw (parts.0, parts.1) at m.text)))

pub count_most : (most : ℕ) (s : List ℕ) (at n next : ℕ) → count_at most s at ≡ Some (n, next) → n ≤ most
count_most most s at n next e = (count_sound most s at n next e).0

pub counts : (most : ℕ) → most ≤ number_most → LineKind (count_at most) count_text (λ n. n ≤ most)
counts most small =
    record {
      read = λ s at n next. (
        count_sound most s at n next,
        λ w.
            rw ((number_read line_end (omega arith) s at n next).1 (omega (arith, w.0), w.1), le-ltb most n w.0),
      );
      one = λ n fits. one_line (decimal n) (inner_decimal n);
    }

-- Object lines.
is_kind_lem : (letter : ℕ) → KindLetter letter → is_kind letter ≡ true
is_kind_lem = kind_each (λ letter. is_kind letter ≡ true) refl refl refl refl

kind_is : (letter : ℕ) → is_kind letter ≡ true → KindLetter letter
kind_is letter e = kind_among letter (λ a r k s. false≢true (simp ne_eqb at e))

kind_high : (letter : ℕ) → KindLetter letter → line_end < letter
kind_high = kind_each (λ letter. line_end < letter) (omega arith) (omega arith) (omega arith) (omega arith)

-- the object of a letter and an opening
abbrev with_opening : ℕ → ℤ → ℕ → Option (Object × ℕ)
with_opening letter opening next = Some (record { letter = letter; opening = opening }, next)

object_sound : (s : List ℕ) (at : ℕ) (o : Object) (next : ℕ) → object_at s at ≡ Some (o, next) → ObjectFits o × Stands s at (object_text o) next
object_sound s at o next e =
    option_and_then_some (object_from s (at + 2)) (letter_at s at) (o, next) e
    (λ letter is e. either (is_kind letter)
    (λ kind. fields_then s (o, next) signeds 0 (with_opening letter) (at + 2) (rw kind at e)
    (λ m.
    let parts = some_pair_parts (record { letter = letter; opening = m.values }) o m.behind next m.then in
    rw (← parts.0, ← parts.1) (
      (kind_is letter kind, m.small.0),
      line_stands s at letter m.behind signeds 0 m.values is m.text,
    )))
    (λ other. nothing (rw other at e)))

object_complete : (s : List ℕ) (at : ℕ) (o : Object) (next : ℕ) → ObjectFits o → Stands s at (object_text o) next → object_at s at ≡ Some (o, next)
object_complete s at o next fits t =
    rw (
      line_letter s at o.letter next signeds 0 o.opening t,
      is_kind_lem o.letter fits.0,
      fields_complete s next signeds 0 (with_opening o.letter) (at + 2) o.opening (fits.1, tt) (line_behind s at o.letter next signeds 0 o.opening t),
    )

pub objects : LineKind object_at object_text ObjectFits
objects =
    record {
      read = λ s at o next. (object_sound s at o next, λ w. object_complete s at o next w.0 w.1);
      one = λ o fits. line_one o.letter (o.opening ∷ []) (kind_high o.letter fits.0);
    }

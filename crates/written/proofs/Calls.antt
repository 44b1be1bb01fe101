-- Call lines are read exactly where their texts stand.
use Prim.Native.Nat.{ℕ, ◌+◌, ◌<◌}
use Prim.Native.Char.{code}
use mathlib.Core.Path.{◌≡◌, refl}
use mathlib.Core.List.{List}
use mathlib.Core.Bool.{false}
use native.Mathlib.Omega.{arith}
use lib.Dec.{eqb}
use borrow.Author.Tests.{eqb-true}
use Rattle.std.specs.Prelude.{Option, Some, option_map}
use Rattle.std.proofs.lemmas.Option.{some_pair_parts, option_and_then_some}
use Rattle.text.specs.Text.{line_end}
use Rattle.below.proofs.Tests.{either}
use Rattle.written.specs.Written.{line_text, letter_of, fields_of, call_text, CallFits}
use Rattle.written.specs.Line.{letter_at, single_of, call_from, call_at}
use Rattle.written.specs.declared.Call.{Call}
use Rattle.written.specs.declared.Call.TheVariants.{Plain, Access, Respond, Commit, Abort}
use Rattle.written.proofs.Standing.{Stands}
use Rattle.written.proofs.Number.{nothing}
use Rattle.written.proofs.Fields.{FieldKind, numbers, signeds, Values, fields_at, field_list, Small, fields_then, fields_complete}
use Rattle.written.proofs.Fields.{line_one, line_stands, line_letter, line_behind}
use Rattle.written.proofs.Line.{LineKind}

-- the call of one number
abbrev single : ℕ → ℕ → ℕ → Option (Call × ℕ)
single letter t next = option_map (λ call. (call, next)) (single_of letter t)

-- a letter, and the call that its fields make
record Letter (letter : ℕ) : Type 1 where
  last : FieldKind
  n : ℕ
  call : Values last n → Call
  asks : (s : List ℕ) (at : ℕ) → call_from s at letter ≡ fields_at last n s at (λ vs next. Some (call vs, next))
  lettered : (vs : Values last n) → letter_of (call vs) ≡ letter
  listed : (vs : Values last n) → fields_of (call vs) ≡ field_list last n vs

abbrev plains : Letter (code "N")
plains = record { last = numbers; n = 0; call = Plain; asks = λ s at. refl; lettered = λ t. refl; listed = λ t. refl }

abbrev accesses : Letter (code "U")
accesses =
    record {
      last = signeds;
      n = 3;
      call = λ vs. Access vs.0 vs.1.0 vs.1.1.0 vs.1.1.1;
      asks = λ s at. refl;
      lettered = λ vs. refl;
      listed = λ vs. refl;
    }

abbrev responds : Letter (code "G")
responds = record { last = numbers; n = 0; call = Respond; asks = λ s at. refl; lettered = λ t. refl; listed = λ t. refl }

abbrev commits : Letter (code "C")
commits = record { last = numbers; n = 0; call = Commit; asks = λ s at. refl; lettered = λ t. refl; listed = λ t. refl }

abbrev aborts : Letter (code "B")
aborts = record { last = numbers; n = 0; call = Abort; asks = λ s at. refl; lettered = λ t. refl; listed = λ t. refl }

module _ (s : List ℕ) (at next : ℕ) where
  sound : {letter : ℕ} → Letter letter → letter_at s at ≡ Some letter → (c : Call) → call_from s (at + 2) letter ≡ Some (c, next)
      → CallFits c × Stands s at (call_text c) next
  sound {letter} l is c e =
      fields_then s (c, next) l.last l.n (λ vs i. Some (l.call vs, i)) (at + 2) (rw (l.asks s (at + 2)) at e)
      (λ m.
      let parts = some_pair_parts (l.call m.values) c m.behind next m.then in
      rw (← parts.0, ← parts.1, l.lettered m.values, l.listed m.values) (m.small, line_stands s at letter m.behind l.last l.n m.values is m.text))

  complete : {letter : ℕ} (l : Letter letter) (vs : Values l.last l.n) → CallFits (l.call vs) → Stands s at (call_text (l.call vs)) next
      → call_at s at ≡ Some (l.call vs, next)
  complete {letter} l vs fits t =
      let small : Small l.last l.n vs = rw (l.listed vs) at fits in
      let line : Stands s at (line_text letter (field_list l.last l.n vs)) next = rw (l.lettered vs, l.listed vs) at t in
      rw (
        line_letter s at letter next l.last l.n vs line,
        l.asks s (at + 2),
        fields_complete {R = Call × ℕ} s next l.last l.n (λ us i. Some (l.call us, i)) (at + 2) vs small (line_behind s at letter next l.last l.n vs line),
      )

  call_sound : (c : Call) → call_at s at ≡ Some (c, next) → CallFits c × Stands s at (call_text c) next
  call_sound c e = option_and_then_some (call_from s (at + 2)) (letter_at s at) (c, next) e among
    where
      among : (letter : ℕ) → letter_at s at ≡ Some letter → call_from s (at + 2) letter ≡ Some (c, next) → CallFits c × Stands s at (call_text c) next
      among letter is e =
          by plains (λ n. by accesses (λ u. by responds (λ g. by commits (λ m. by aborts
          (λ b. fields_then s (c, next) numbers 0 (single letter) (at + 2) (rw u at e)
          (λ f. nothing (rw (n, g, m, b) at f.then)))))))
        where
          by : {other : ℕ} → Letter other → (eqb letter other ≡ false → CallFits c × Stands s at (call_text c) next)
              → CallFits c × Stands s at (call_text c) next
          by {other} l others =
              either (eqb letter other) (λ t. let same = eqb-true letter other t in sound l (rw same at is) c (rw same at e)) others

  call_complete : (c : Call) → CallFits c → Stands s at (call_text c) next → call_at s at ≡ Some (c, next)
  call_complete (Plain t) = complete plains t
  call_complete (Access parent object operation argument) = complete accesses (parent, (object, (operation, argument)))
  call_complete (Respond t) = complete responds t
  call_complete (Commit t) = complete commits t
  call_complete (Abort t) = complete aborts t

call_high : (c : Call) → line_end < letter_of c
call_high (Plain t) = omega arith
call_high (Access parent object operation argument) = omega arith
call_high (Respond t) = omega arith
call_high (Commit t) = omega arith
call_high (Abort t) = omega arith

pub calls : LineKind call_at call_text CallFits
calls =
    record {
      read = λ s at c next. (call_sound s at next c, λ w. call_complete s at next c w.0 w.1);
      one = λ c fits. line_one (letter_of c) (fields_of c) (call_high c);
    }

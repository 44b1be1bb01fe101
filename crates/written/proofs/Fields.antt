-- A line's letter and its fields, any number of them, are read exactly where their texts stand.
use Prim.Native.Nat.{ℕ, zero, suc, ◌+◌, ◌<◌}
use mathlib.Core.Path.{◌≡◌, refl, sym, ◌∙◌, ap}
use mathlib.Core.List.{List, [], ◌∷◌, ◌++◌, append-nil, append_assoc}
use mathlib.Core.Logic.{◌↔◌}
use native.Mathlib.Numerals.{add-one}
use native.Mathlib.Omega.{arith}
use lib.IntN.{ℤ, pos, negsuc}
use lib.ListN.{length, drop, get_or}
use lib.Seq.{drop-cons}
use lib.Dec.{eqb}
use borrow.Author.Tests.{eqb-true}
use Rattle.text.specs.Text.{line_end, space, decimal, signed_text}
use Rattle.std.specs.Prelude.{Option, Some, None}
use Rattle.std.proofs.lemmas.Option.{same_Some}
use Rattle.text.specs.Number.{number_at, on_read}
use Rattle.text.specs.Signed.{signed_at}
use Rattle.below.proofs.Tests.{either}
use Rattle.written.specs.Written.{joined, line_text, Each, InRange, Lines}
use Rattle.written.specs.Line.{letter_at}
use Rattle.written.proofs.Letters.{letter_in}
use Rattle.written.proofs.Standing.{Stands, stands, stands_then, stands_before, stands_behind, stands_as, stands_byte}
use Rattle.written.proofs.Lines.{Inner, each_append, inner_decimal, one_line}
use Rattle.written.proofs.Number.{nothing, number_text, number_read, signed_field, signed_read}

-- a kind of field: its values, the number that each is, and its reading; a value is read exactly where its number's text stands
pub record FieldKind : Type 1 where
  pub Value : Type 0
  pub number : Value → ℤ
  pub reading : ℕ → List ℕ → ℕ → Option (Value × ℕ)
  pub read : (stop : ℕ) → stop < 48 → (s : List ℕ) (at : ℕ) (v : Value) (next : ℕ)
      → (reading stop s at ≡ Some (v, next)) ↔ (InRange (number v) × Stands s at (signed_field stop (number v)) next)

abbrev pub numbers : FieldKind
numbers = record { Value = ℕ; number = pos; reading = number_at; read = number_read }

-- with a minus or without
abbrev pub signeds : FieldKind
signeds = record { Value = ℤ; number = λ z. z; reading = signed_at; read = signed_read }

abbrev pub field_at : {R : Type 0} (f : FieldKind) → ℕ → List ℕ → ℕ → (f.Value → ℕ → Option R) → Option R
field_at f stop s at k = on_read (f.reading stop s at) None k

field_complete : {R : Type 0} (f : FieldKind) (stop : ℕ) → stop < 48 → (s : List ℕ) (at next : ℕ) (k : f.Value → ℕ → Option R) (v : f.Value)
    → InRange (f.number v) → Stands s at (signed_field stop (f.number v)) next → field_at f stop s at k ≡ k v next
field_complete f stop low s at next k v small t = ap (λ r. on_read r None k) ((f.read stop low s at v next).1 (small, t))

-- where some value comes of what was read, something was
read_told : {A R B : Type 0} (r : Option (A × ℕ)) (k : A → ℕ → Option R) (x : R) → on_read r None k ≡ Some x
    → ((a : A) (i : ℕ) → r ≡ Some (a, i) → k a i ≡ Some x → B) → B
read_told (Some r) k x e on = on r.0 r.1 refl e
read_told None k x e on = nothing e

-- n numbers and a last field
abbrev pub Values : FieldKind → ℕ → Type 0
Values last zero = last.Value
Values last (suc n) = ℕ × Values last n

-- n numbers with a space after each and the last field with LF; k takes them, and the place after them
abbrev pub fields_at : {R : Type 0} (last : FieldKind) (n : ℕ) → List ℕ → ℕ → (Values last n → ℕ → Option R) → Option R
fields_at last zero s at k = field_at last line_end s at k
fields_at last (suc n) s at k = field_at numbers space s at (λ v i. fields_at last n s i (λ vs. k (v, vs)))

abbrev pub fields_text : (last : FieldKind) (n : ℕ) → Values last n → List ℕ
fields_text last zero v = signed_field line_end (last.number v)
fields_text last (suc n) vs = number_text space vs.0 ++ fields_text last n vs.1

abbrev pub field_list : (last : FieldKind) (n : ℕ) → Values last n → List ℤ
field_list last zero v = last.number v ∷ []
field_list last (suc n) vs = pos vs.0 ∷ field_list last n vs.1

abbrev pub Small : (last : FieldKind) (n : ℕ) → Values last n → Type 0
Small last n vs = Each InRange (field_list last n vs)

-- the fields as a line has them, one space before each
abbrev spaced : List ℤ → List ℕ
spaced fields = joined (λ z. space ∷ signed_text z) fields

fields_spaced : (last : FieldKind) (n : ℕ) (vs : Values last n) → spaced (field_list last n vs) ++ (line_end ∷ []) ≡ space ∷ fields_text last n vs
fields_spaced last zero v = ap (λ (l : List ℕ). space ∷ (l ++ (line_end ∷ []))) (append-nil (signed_text (last.number v)))
fields_spaced last (suc n) vs =
    rw (append_assoc (decimal vs.0) (spaced (field_list last n vs.1)) (line_end ∷ []), fields_spaced last n vs.1, append_assoc)

-- what was read there: the values, and what is made of them
pub record Found {R : Type 0} (last : FieldKind) (n : ℕ) (k : Values last n → ℕ → Option R) (s : List ℕ) (at : ℕ) (x : R) : Type 0 where
  pub values : Values last n
  pub behind : ℕ
  pub small : Small last n values
  pub text : Stands s at (fields_text last n values) behind
  pub then : k values behind ≡ Some x

module _ {R : Type 0} (s : List ℕ) (x : R) where
  field_then : {B : Type 0} (f : FieldKind) (stop : ℕ) → stop < 48 → (at : ℕ) (k : f.Value → ℕ → Option R) → field_at f stop s at k ≡ Some x
      → ((v : f.Value) (i : ℕ) → InRange (f.number v) → Stands s at (signed_field stop (f.number v)) i → k v i ≡ Some x → B) → B
  field_then f stop low at k e on =
      read_told (f.reading stop s at) k x e
      (λ v i is then. let t : InRange (f.number v) × Stands s at (signed_field stop (f.number v)) i = (f.read stop low s at v i).0 is in on v i t.0 t.1 then)

  fields_found : (last : FieldKind) (n : ℕ) (k : Values last n → ℕ → Option R) (at : ℕ) → fields_at last n s at k ≡ Some x → Found last n k s at x
  fields_found last zero k at e =
      field_then last line_end (omega arith) at k e (λ v i small text then. record { values = v; behind = i; small = (small, tt); text = text; then = then })
  fields_found last (suc n) k at e =
      field_then numbers space (omega arith) at (λ v i. fields_at last n s i (λ vs. k (v, vs))) e
      (λ v i small text then.
      let r : Found last n (λ vs. k (v, vs)) s i x = fields_found last n (λ vs. k (v, vs)) i then in
      record { values = (v, r.values); behind = r.behind; small = (small, r.small); text = stands_then text r.text; then = r.then })

  pub fields_then : {B : Type 0} (last : FieldKind) (n : ℕ) (k : Values last n → ℕ → Option R) (at : ℕ) → fields_at last n s at k ≡ Some x
      → (Found last n k s at x → B) → B
  fields_then last n k at e on = on (fields_found last n k at e)

pub fields_complete : {R : Type 0} (s : List ℕ) (next : ℕ) (last : FieldKind) (n : ℕ) (k : Values last n → ℕ → Option R) (at : ℕ) (vs : Values last n)
    → Small last n vs → Stands s at (fields_text last n vs) next → fields_at last n s at k ≡ k vs next
fields_complete s next last zero k at v small t = field_complete last line_end (omega arith) s at next k v small.0 t
fields_complete s next last (suc n) k at vs small t =
    let i : ℕ = at + length (number_text space vs.0) in
    field_complete numbers space (omega arith) s at i (λ v j. fields_at last n s j (λ us. k (v, us))) vs.0 small.0
    (stands_before (number_text space vs.0) (fields_text last n vs.1) t)
    ∙ fields_complete s next last n (λ us. k (vs.0, us)) i vs.1 small.1
    (stands_behind (number_text space vs.0) (fields_text last n vs.1) t)

-- The letter, before them.
letter_sound : (s : List ℕ) (at letter : ℕ) → letter_at s at ≡ Some letter → Stands s at (letter ∷ space ∷ []) (at + 2)
unfolding letter_at
letter_sound s at letter e =
    let long : at + 1 < length s = letter_in s at letter e in
    either (eqb (get_or s (at + 1) 0) space)
    (λ t.
    let is : get_or s at 0 ≡ letter = same_Some (get_or s at 0) letter (rw t at e) in
    stands s at (letter ∷ space ∷ []) (drop (suc (at + 1)) s)
    (drop-cons s at 0 (omega arith) ∙ rw (← add-one at, drop-cons s (at + 1) 0 long, eqb-true (get_or s (at + 1) 0) space t, is)))
    (λ f. nothing (rw f at e))

letter_complete : (s : List ℕ) (at letter next : ℕ) (t : List ℕ) → Stands s at (letter ∷ space ∷ t) next → letter_at s at ≡ Some letter
unfolding letter_at
letter_complete s at letter next t p =
    let second : get_or s (at + 1) 0 ≡ space = stands_byte (stands_behind (letter ∷ []) (space ∷ t) p) in
    rw second (ap Some (stands_byte p))

inner_signed : (z : ℤ) → Inner (signed_text z)
inner_signed (pos v) = inner_decimal v
inner_signed (negsuc v) = (omega arith, inner_decimal (suc v))

inner_spaced : (fields : List ℤ) → Inner (spaced fields)
inner_spaced [] = tt
inner_spaced (z ∷ fields) = (omega arith, each_append (λ b. line_end < b) (signed_text z) (spaced fields) (inner_signed z) (inner_spaced fields))

pub line_one : (letter : ℕ) (fields : List ℤ) → line_end < letter → Lines 1 (line_text letter fields)
line_one letter fields h = one_line (letter ∷ spaced fields) (h, inner_spaced fields)

module _ (s : List ℕ) (at letter next : ℕ) (last : FieldKind) (n : ℕ) (vs : Values last n) where
  as_fields : line_text letter (field_list last n vs) ≡ (letter ∷ space ∷ []) ++ fields_text last n vs
  as_fields = ap (λ (l : List ℕ). letter ∷ l) (fields_spaced last n vs)

  pub line_stands : letter_at s at ≡ Some letter → Stands s (at + 2) (fields_text last n vs) next → Stands s at (line_text letter (field_list last n vs)) next
  line_stands is t = stands_as (sym as_fields) (stands_then (letter_sound s at letter is) t)

  module _ (t : Stands s at (line_text letter (field_list last n vs)) next) where
    pub line_letter : letter_at s at ≡ Some letter
    line_letter = letter_complete s at letter next (fields_text last n vs) (stands_as as_fields t)

    pub line_behind : Stands s (at + 2) (fields_text last n vs) next
    line_behind = stands_behind (letter ∷ space ∷ []) (fields_text last n vs) (stands_as as_fields t)

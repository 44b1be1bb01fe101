-- A number is read exactly where its digits stand with the end byte after them, and a number with its sign where its text stands so.
use Prim.Native.Nat.{ℕ, zero, suc, ◌+◌, ◌-◌, ◌*◌, ◌/◌, ◌%◌, ◌≤◌, ◌<◌}
use mathlib.Core.Path.{◌≡◌, refl, sym, ◌∙◌, ap}
use mathlib.Core.List.{List, [], ◌∷◌, ◌++◌, append_assoc}
use mathlib.Core.Bool.{true, false, cond}
use mathlib.Core.Logic.{◌↔◌}
use native.Mathlib.Omega.{arith}
use lib.IntN.{ℤ, pos, negsuc, neg_ℤ}
use lib.ListN.{length, drop, get_or, length-append, get_or-eq_default}
use lib.Seq.{drop-cons}
use lib.Dec.{ltb, leb, eqb}
use borrow.Author.Tests.{ltb-false, eqb-true, eqb-false, le-ltb, le-leb, eq-eqb, ne_eqb}
use Rattle.below.proofs.Tests.{le_or, and_both, either, cases}
use Rattle.text.specs.Text.{minus, decimal, signed_text, number_most}
use Rattle.std.specs.Prelude.{Option, Some, None}
use Rattle.std.proofs.lemmas.Option.{none-some, some_pair_parts}
use Rattle.text.specs.Number.{is_digit, further, rest_of, first_of, number_at, on_read}
use Rattle.text.specs.Signed.{signed_at}
use Rattle.text.proofs.Printing.{decimal_small, decimal_more}
use Rattle.text.proofs.Numbers.{number_end, number_start, digit_low, digit_high, signed_minus, signed_other}
use Rattle.written.specs.Written.{InRange}
use Rattle.written.proofs.Standing.{Stands, stands, stands_then, stands_behind, stands_to, stands_byte}

digit_so : (d : ℕ) → d < 10 → is_digit (48 + d) ≡ true
digit_so d h = and_both (leb 48 (48 + d)) (leb (48 + d) 57) (le-leb 48 (48 + d) (omega arith)) (le-leb (48 + d) 57 (omega arith))

first_digit : (b : ℕ) → is_digit b ≡ true → decimal (b - 48) ≡ b ∷ []
first_digit b e =
    let low : 48 ≤ b = digit_low b e in
    let is : 48 + (b - 48) ≡ b = omega arith in
    decimal_small (b - 48) (omega (arith, digit_high b e)) ∙ rw is

-- one digit more
digits_further : (v b : ℕ) → (v ≡ 0 → ⊥) → is_digit b ≡ true → decimal (further v b) ≡ decimal v ++ (b ∷ [])
digits_further v b some e =
    let low : 48 ≤ b = digit_low b e in
    let high : b ≤ 57 = digit_high b e in
    let before : further v b / 10 ≡ v = omega arith in
    let last : 48 + further v b % 10 ≡ b = omega arith in
    decimal_more (further v b) (omega arith) ∙ rw (before, last)

-- the value w was read from the digits of v and what follows them at place i
record NumberFound (stop : ℕ) (digits rest : List ℕ) (i w next : ℕ) : Type 0 where
  behind : List ℕ
  text : digits ++ rest ≡ decimal w ++ (stop ∷ behind)
  place : next + length behind ≡ i + length rest
  small : w ≤ number_most

-- what is not read is not some value
pub nothing : {A B : Type 0} {a : A} → None ≡ Some a → B
nothing {a = a} e = absurd (none-some a e)

found_more : {stop i w next : ℕ} {longer : List ℕ} (b : ℕ) (shorter rest : List ℕ) → longer ≡ shorter ++ (b ∷ []) → NumberFound stop longer rest (i + 1) w next
    → NumberFound stop shorter (b ∷ rest) i w next
found_more b shorter rest e r =
    record {
      behind = r.behind;
      text = sym (append_assoc shorter (b ∷ []) rest) ∙ rw (← e) r.text;
      place = omega (arith, r.place);
      small = r.small;
    }

rest_found : (stop : ℕ) (rest : List ℕ) (v i w next : ℕ) → v ≤ number_most → rest_of stop rest v i ≡ Some (w, next) → NumberFound stop (decimal v) rest i w next
unfolding rest_of
rest_found stop [] v i w next h e = nothing e
rest_found stop (b ∷ rest) v i w next h e =
    either (eqb b stop)
    (λ t.
    let parts : (v ≡ w) × (i + 1 ≡ next) = some_pair_parts v w (i + 1) next (rw t at e) in
    let same : v ≡ w = parts.0 in
    let placed : i + 1 ≡ next = parts.1 in
    record { behind = rest; text = rw (same, eqb-true b stop t); place = omega arith; small = omega arith })
    (λ f. either (is_digit b)
    (λ digit. either (eqb v 0)
    (λ none. nothing (rw (f, digit, none) at e))
    (λ some. either (ltb number_most (further v b))
    (λ over. nothing (rw (f, digit, some, over) at e))
    (λ fits. found_more b (decimal v) rest (digits_further v b (eqb-false v 0 some) digit)
    (rest_found stop rest (further v b) (i + 1) w next (ltb-false number_most (further v b) fits) (rw (f, digit, some, fits) at e)))))
    (λ other. nothing (rw (f, other) at e)))

first_found : (stop : ℕ) (rest : List ℕ) (i w next : ℕ) → first_of stop rest i ≡ Some (w, next) → NumberFound stop [] rest i w next
unfolding first_of
first_found stop [] i w next e = nothing e
first_found stop (b ∷ rest) i w next e =
    either (is_digit b)
    (λ digit. found_more b [] rest (first_digit b digit)
    (rest_found stop rest (b - 48) (i + 1) w next (omega (arith, digit_high b digit)) (rw digit at e)))
    (λ other. nothing (rw other at e))

abbrev pub number_text : ℕ → ℕ → List ℕ
number_text stop v = decimal v ++ (stop ∷ [])

number_sound : (stop : ℕ) (s : List ℕ) (at v next : ℕ) → number_at stop s at ≡ Some (v, next) → (v ≤ number_most) × Stands s at (number_text stop v) next
unfolding number_at
number_sound stop s at v next e =
    let r : NumberFound stop [] (drop at s) at v next = first_found stop (drop at s) at v next e in
    let text : drop at s ≡ number_text stop v ++ r.behind = r.text ∙ sym (append_assoc (decimal v) (stop ∷ []) r.behind) in (
      r.small,
      stands_to (stands s at (number_text stop v) r.behind text)
          (omega (arith, r.place, ap length text, length-append (number_text stop v) r.behind)),
    )

rest_more : (stop : ℕ) → stop < 48 → (v d : ℕ) → d < 10 → (v ≡ 0 → ⊥) → v * 10 + d ≤ number_most → (rest : List ℕ) (i : ℕ)
    → rest_of stop ((48 + d) ∷ rest) v i ≡ rest_of stop rest (v * 10 + d) (i + 1)
unfolding rest_of
rest_more stop low v d h some fits rest i =
    let is : further v (48 + d) ≡ v * 10 + d = omega arith in
    rw (ne_eqb (48 + d) stop (λ e. omega arith), digit_so d h, ne_eqb v 0 some, is, le-ltb number_most (v * 10 + d) fits)

first_small : (stop v : ℕ) → v < 10 → (rest : List ℕ) (i : ℕ) → first_of stop ((48 + v) ∷ rest) i ≡ rest_of stop rest v (i + 1)
unfolding first_of
first_small stop v h rest i =
    let is : 48 + v - 48 ≡ v = omega arith in
    rw (digit_so v h, is)

-- the digits of v are read, whatever follows
first_reads : (stop : ℕ) → stop < 48 → (most v : ℕ) → v < most → v ≤ number_most → (rest : List ℕ) (i : ℕ)
    → first_of stop (decimal v ++ rest) i ≡ rest_of stop rest v (i + length (decimal v))
first_reads stop low zero v h fits rest i = absurd (omega arith)
first_reads stop low (suc most) v h fits rest i =
    cases (le_or 10 v)
    (λ m.
    let again : v / 10 * 10 + v % 10 ≡ v = omega arith in
    let ends : i + length (decimal (v / 10)) + 1 ≡ i + length (decimal (v / 10) ++ ((48 + v % 10) ∷ [])) =
    omega (arith, length-append (decimal (v / 10)) ((48 + v % 10) ∷ [])) in
    rw (decimal_more v m, append_assoc (decimal (v / 10)) ((48 + v % 10) ∷ []) rest)
    (first_reads stop low most (v / 10) (omega arith) (omega arith) ((48 + v % 10) ∷ rest) i
    ∙ rest_more stop low (v / 10) (v % 10) (omega arith) (λ e. omega arith) (omega arith) rest (i + length (decimal (v / 10)))
    ∙ rw (again, ends)))
    (λ d. rw (decimal_small v d) (first_small stop v d rest i))

number_complete : (stop : ℕ) → stop < 48 → (s : List ℕ) (at v next : ℕ) → v ≤ number_most → Stands s at (number_text stop v) next
    → number_at stop s at ≡ Some (v, next)
unfolding number_at rest_of
number_complete stop low s at v next fits p =
    let ends : at + length (decimal v) + 1 ≡ next = omega (arith, p.place, length-append (decimal v) (stop ∷ [])) in
    rw (p.here, append_assoc (decimal v) (stop ∷ []) (drop next s))
    (first_reads stop low (suc v) v (omega arith) fits (stop ∷ drop next s) at ∙ rw (eq-eqb stop stop refl, ends))

-- the end byte is no digit
pub number_read : (stop : ℕ) → stop < 48 → (s : List ℕ) (at v next : ℕ)
    → (number_at stop s at ≡ Some (v, next)) ↔ ((v ≤ number_most) × Stands s at (number_text stop v) next)
number_read stop low s at v next = (number_sound stop s at v next, λ w. number_complete stop low s at v next w.0 w.1)

-- The sign.
abbrev pub signed_field : ℕ → ℤ → List ℕ
signed_field stop z = signed_text z ++ (stop ∷ [])

-- a minus that is there, within the file
minus_stands : (s : List ℕ) (at : ℕ) → get_or s at 0 ≡ minus → Stands s at (minus ∷ []) (at + 1)
minus_stands s at m =
    cases (le_or (length s) at)
    (λ past. absurd (let z : ◌≡◌ {A = ℕ} 0 minus = sym (get_or-eq_default s 0 {n = at} past) ∙ m in omega arith))
    (λ h. stands s at (minus ∷ []) (drop (suc at) s) (drop-cons s at 0 h ∙ rw m))

-- where a number is read, none stands
no_minus : (stop : ℕ) (s : List ℕ) (at v next : ℕ) → number_at stop s at ≡ Some (v, next) → get_or s at 0 ≡ minus → ⊥
no_minus stop s at v next e m =
    cases (le_or (length s) at)
    (λ past. nothing (sym (number_end stop s at past) ∙ e))
    (λ h. nothing (sym (number_start stop s at h ∙ rw m) ∙ e))

after_zero : (v : ℕ) → eqb (suc v) 0 ≡ false
after_zero v = ne_eqb (suc v) 0 (λ e. omega arith)

module _ (stop : ℕ) (low : stop < 48) (s : List ℕ) (at : ℕ) (z : ℤ) (next : ℕ) where
  signed_sound : signed_at stop s at ≡ Some (z, next) → InRange z × Stands s at (signed_field stop z) next
  signed_sound e =
      either (eqb (get_or s at 0) minus)
      (λ t.
      let m : get_or s at 0 ≡ minus = eqb-true (get_or s at 0) minus t in
      negative (minus_stands s at m) (number_at stop s (at + 1)) refl (sym (signed_minus stop s at m) ∙ e))
      (λ f. plain (number_at stop s at) refl (sym (signed_other stop s at (eqb-false (get_or s at 0) minus f)) ∙ e))
    where
      plain : (r : Option (ℕ × ℕ)) → number_at stop s at ≡ r → on_read {B = Option (ℤ × ℕ)} r None (λ v i. Some (pos v, i)) ≡ Some (z, next)
          → InRange z × Stands s at (signed_field stop z) next
      plain (Some (v, i)) is e =
          let parts : (pos v ≡ z) × (i ≡ next) = some_pair_parts (pos v) z i next e in
          rw (← parts.0, ← parts.1) ((number_read stop low s at v i).0 is)
      plain None is e = nothing e

      negative : Stands s at (minus ∷ []) (at + 1) → (r : Option (ℕ × ℕ)) → number_at stop s (at + 1) ≡ r
          → on_read {B = Option (ℤ × ℕ)} r None (λ v i. cond (eqb v 0) None (Some (neg_ℤ (pos v), i))) ≡ Some (z, next)
          → InRange z × Stands s at (signed_field stop z) next
      negative m (Some (zero, i)) is e = nothing e
      negative m (Some (suc v, i)) is e =
          let parts : (negsuc v ≡ z) × (i ≡ next) = some_pair_parts (negsuc v) z i next (rw (after_zero v) at e) in
          let w : (suc v ≤ number_most) × Stands s (at + 1) (number_text stop (suc v)) i = (number_read stop low s (at + 1) (suc v) i).0 is in
          rw (← parts.0, ← parts.1) (w.0, stands_then m w.1)
      negative m None is e = nothing e

signed_complete : (stop : ℕ) → stop < 48 → (s : List ℕ) (at : ℕ) (z : ℤ) (next : ℕ) → InRange z → Stands s at (signed_field stop z) next
    → signed_at stop s at ≡ Some (z, next)
signed_complete stop low s at (pos v) next fits t =
    let is : number_at stop s at ≡ Some (v, next) = (number_read stop low s at v next).1 (fits, t) in
    signed_other stop s at (no_minus stop s at v next is) ∙ rw is
signed_complete stop low s at (negsuc v) next fits t =
    signed_minus stop s at (stands_byte t)
    ∙ rw ((number_read stop low s (at + 1) (suc v) next).1 (fits, stands_behind (minus ∷ []) (number_text stop (suc v)) t), after_zero v)

pub signed_read : (stop : ℕ) → stop < 48 → (s : List ℕ) (at : ℕ) (z : ℤ) (next : ℕ)
    → (signed_at stop s at ≡ Some (z, next)) ↔ (InRange z × Stands s at (signed_field stop z) next)
signed_read stop low s at z next = (signed_sound stop low s at z next, λ w. signed_complete stop low s at z next w.0 w.1)

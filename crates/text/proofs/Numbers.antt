-- A number as it is read: its start, and one byte more; and its sign.
use Prim.Native.Nat.{ℕ, ◌+◌, ◌-◌, ◌≤◌, ◌<◌}
use mathlib.Core.Path.{◌≡◌}
use mathlib.Core.List.{List}
use mathlib.Core.Bool.{true, cond}
use native.Mathlib.Numerals.{add-one}
use borrow.Author.Tests.{leb-true, eq-eqb, ne_eqb}
use lib.ListN.{length, get_or, drop, drop_of_length-le, get_or-eq_default}
use lib.Seq.{drop-cons}
use lib.IntN.{pos}
use lib.Dec.{ltb, leb, eqb}
use Rattle.below.proofs.Tests.{and_fst, and_snd}
use Rattle.text.specs.Text.{number_most, minus}
use Rattle.text.specs.Number.{is_digit, further, rest_of, first_of, number_at, on_read}
use Rattle.text.specs.Signed.{negative_at, signed_at}
use Rattle.std.specs.Prelude.{Option, Some, None}

pub number_end : (stop : ℕ) (file : List ℕ) (at : ℕ) → length file ≤ at → number_at stop file at ≡ None
unfolding number_at first_of
number_end stop file at h = rw drop_of_length-le

pub number_start : (stop : ℕ) (file : List ℕ) (at : ℕ) → at < length file
    → number_at stop file at ≡ cond (is_digit (get_or file at 0)) (rest_of stop (drop (at + 1) file) (get_or file at 0 - 48) (at + 1)) None
unfolding number_at first_of
number_start stop file at h = rw (drop-cons file at 0, ← add-one at)

pub rest_end : (stop : ℕ) (file : List ℕ) (v i : ℕ) → length file ≤ i → rest_of stop (drop i file) v i ≡ None
unfolding rest_of
rest_end stop file v i h = rw drop_of_length-le

-- what the byte at place i makes of the value v so far
abbrev pub byte_more : ℕ → List ℕ → ℕ → ℕ → Option (ℕ × ℕ)
byte_more stop file v i =
    cond (eqb (get_or file i 0) stop) (Some (v, i + 1))
    (cond (is_digit (get_or file i 0))
    (cond (eqb v 0) None
    (cond (ltb number_most (further v (get_or file i 0))) None (rest_of stop (drop (i + 1) file) (further v (get_or file i 0)) (i + 1))))
    None)

pub rest_step : (stop : ℕ) (file : List ℕ) (v i : ℕ) → i < length file → rest_of stop (drop i file) v i ≡ byte_more stop file v i
unfolding rest_of
rest_step stop file v i h = rw (drop-cons file i 0, add-one i)

pub digit_low : (b : ℕ) → is_digit b ≡ true → 48 ≤ b
digit_low b e = leb-true 48 b (and_fst (leb 48 b) (leb b 57) e)

pub digit_high : (b : ℕ) → is_digit b ≡ true → b ≤ 57
digit_high b e = leb-true b 57 (and_snd (leb 48 b) (leb b 57) e)

pub signed_minus : (stop : ℕ) (file : List ℕ) (at : ℕ) → get_or file at 0 ≡ minus → signed_at stop file at ≡ negative_at stop file (at + 1)
unfolding signed_at
signed_minus stop file at e = rw (eq-eqb (get_or file at 0) minus e)

pub signed_other : (stop : ℕ) (file : List ℕ) (at : ℕ) → (get_or file at 0 ≡ minus → ⊥)
    → signed_at stop file at ≡ on_read (number_at stop file at) None (λ v i. Some (pos v, i))
unfolding signed_at
signed_other stop file at n = rw (ne_eqb (get_or file at 0) minus n)

-- past the end no minus stands, and no number
pub signed_end : (stop : ℕ) (file : List ℕ) (at : ℕ) → length file ≤ at → signed_at stop file at ≡ None
unfolding signed_at
signed_end stop file at h = rw (get_or-eq_default file 0 {n = at} h, number_end stop file at h)

-- The letter of a line: where there is one, a byte follows it; and the letters of the kinds.
use Prim.Native.Nat.{ℕ, ◌+◌, ◌≤◌, ◌<◌}
use Prim.Native.Char.{code}
use mathlib.Core.Path.{◌≡◌, sym, ◌∙◌}
use mathlib.Core.List.{List}
use Rattle.std.specs.Prelude.{Some, None}
use Rattle.std.proofs.lemmas.Option.{none-some}
use mathlib.Core.Logic.{inl, inr}
use lib.ListN.{length, get_or-eq_default}
use Rattle.below.proofs.Tests.{le_or, same_or, cases}
use Rattle.written.specs.Written.{KindLetter}
use Rattle.written.specs.Line.{letter_at}

pub letter_past : (file : List ℕ) (at : ℕ) → length file ≤ at + 1 → letter_at file at ≡ None
unfolding letter_at
letter_past file at h = rw (get_or-eq_default file 0 {n = at + 1} h)

pub letter_in : (file : List ℕ) (at letter : ℕ) → letter_at file at ≡ Some letter → at + 1 < length file
letter_in file at letter e = cases (le_or (length file) (at + 1)) (λ h. absurd (none-some letter (sym (letter_past file at h) ∙ e))) (λ h. h)

-- what is so of each kind's letter
pub kind_each : (P : ℕ → Type 0) → P (code "A") → P (code "R") → P (code "K") → P (code "S") → (letter : ℕ) → KindLetter letter → P letter
kind_each P a r k s letter (inl e) = rw e a
kind_each P a r k s letter (inr (inl e)) = rw e r
kind_each P a r k s letter (inr (inr (inl e))) = rw e k
kind_each P a r k s letter (inr (inr (inr e))) = rw e s

-- a letter that cannot be another
pub kind_among : (letter : ℕ) → ((letter ≡ code "A" → ⊥) → (letter ≡ code "R" → ⊥) → (letter ≡ code "K" → ⊥) → (letter ≡ code "S" → ⊥) → ⊥) → KindLetter letter
kind_among letter other =
    cases (same_or letter (code "A")) inl
    (λ a. cases (same_or letter (code "R")) (λ e. inr (inl e))
    (λ r. cases (same_or letter (code "K")) (λ e. inr (inr (inl e)))
    (λ k. cases (same_or letter (code "S")) (λ e. inr (inr (inr e)))
    (λ s. absurd (other a r k s)))))

-- A list laid over the start of a column.
use Prim.Native.Nat.{ℕ, ◌+◌, ◌-◌, ◌<◌, ◌≤◌}
use mathlib.Core.Path.{◌≡◌, refl, sym, ap, ◌∙◌, subst}
use mathlib.Core.Logic.{⊎_elim}
use mathlib.Core.List.{List, ◌++◌}
use native.Mathlib.Omega.{arith}
use lib.ListN.{length, get_or, drop}
use Rattle.std.proofs.lemmas.List.{ext_get_or, get_or-drop, get_or_append_left, get_or-append_right, length-append, length-drop}
use Rattle.below.specs.Below.{set_below}
use Rattle.below.proofs.Tests.{le_or}
use Rattle.below.proofs.Column.{set_length, set_at, set_past}

module _ {A : Type 0} (z : A) (l column : List A) (fits : length l ≤ length column) where
  size : length (l ++ drop (length l) column) ≡ length column
  size = omega (arith, length-append l (drop (length l) column), length-drop (length l) column)

  reads : (i : ℕ) → i < length column → get_or (l ++ drop (length l) column) i z ≡ get_or (set_below (length l) (λ k. get_or l k z) column) i z
  reads i h =
      ⊎_elim
      (λ past.
      get_or-append_right l _ (length l) i z refl past ∙ get_or-drop (length l) column (i - length l) z
      ∙ ap (λ (k : ℕ). get_or column k z) (let same : length l + (i - length l) ≡ i = omega arith in same)
      ∙ sym (set_past (λ k. get_or l k z) (length l) i column _ z refl past))
      (λ here. get_or_append_left l _ z i here ∙ sym (set_at (λ k. get_or l k z) (length l) i column z here h))
      (le_or (length l) i)

  laid_over : l ++ drop (length l) column ≡ set_below (length l) (λ k. get_or l k z) column
  laid_over =
      ext_get_or z _ _ (size ∙ sym (set_length (λ k. get_or l k z) (length l) column))
      (λ i h. reads i (omega (arith, size)))

  pub laid : (n : ℕ) → length l ≡ n → l ++ drop n column ≡ set_below n (λ k. get_or l k z) column
  laid n e = subst (λ (m : ℕ). l ++ drop m column ≡ set_below m (λ k. get_or l k z) column) e laid_over

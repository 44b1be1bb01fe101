-- The laws of a loop that puts the bits of a column's entries together, to see whether all of them are zero.
use Prim.Native.Nat.{ℕ, suc, ◌+◌, ◌-◌, ◌<◌, ◌^◌}
use mathlib.Core.Bool.{Bool, true, ◌&&◌}
use mathlib.Core.List.{List}
use mathlib.Core.Path.{◌≡◌, refl, sym, subst, ap, ap₂, ◌∙◌}
use mathlib.Core.Logic.{⊎_elim}
use native.Mathlib.Omega.{arith}
use lib.IntN.{ℤ, pos, negsuc}
use lib.Dec.{eqb}
use lib.ListN.{length, get_or, take, drop, length-take, length-drop}
use lib.Bits.{bit_or, or_add_and, and_le_r}
use mir.Syntax.{w64}
use mir.Val.{Fits, SFits, of_z, to_z}
use mir.Facts.{of_z-to_z, sfits_to_z, Fits-of_z}
use borrow.Author.Tests.{ne_eqb}
use Rattle.std.proofs.Common.{add-zero}
use Rattle.std.proofs.lemmas.Nat.{or_lt}
use Rattle.std.proofs.lemmas.List.{get_or-take, get_or-drop, get_or_default}
use Rattle.below.specs.Below.{all_from}
use Rattle.below.proofs.Tests.{same_or}
use Rattle.below.proofs.From.{from_start, from_turn, from_and}
use Rattle.form.specs.Form.{is_zero}

pub or_zero : (a b : ℕ) → eqb (bit_or a b) 0 ≡ (eqb a 0 && eqb b 0)
or_zero a b =
    ⊎_elim (λ z. subst (λ x. eqb (bit_or x b) 0 ≡ (eqb x 0 && eqb b 0)) (sym z) refl)
    (λ n. rw (ne_eqb a 0 n) (ne_eqb (bit_or a b) 0 (λ e. omega (arith, or_add_and a b, and_le_r a b)))) (same_or a 0)

-- no bits are those of zero alone
pub bits_zero : (x : ℤ) → SFits w64 x → eqb (of_z w64 x) 0 ≡ is_zero x
bits_zero (pos n) f = refl
bits_zero (negsuc n) f = ne_eqb (2 ^ 64 - suc n) 0 (λ e. let s : n < 2 ^ 63 = f.sfits in omega arith)

pub or_zero_signed : (a b : ℤ) → SFits w64 a → SFits w64 b → is_zero (to_z w64 (bit_or (of_z w64 a) (of_z w64 b))) ≡ (is_zero a && is_zero b)
or_zero_signed a b f g =
    let both : Fits w64 (bit_or (of_z w64 a) (of_z w64 b)) = record { fits = or_lt 64 _ _ (Fits-of_z f).fits (Fits-of_z g).fits } in
    rw (← bits_zero _ (sfits_to_z both), of_z-to_z both, ← bits_zero a f, ← bits_zero b g) (or_zero (of_z w64 a) (of_z w64 b))

module _ {T : Type 0} (no_bit : T → Bool) (zero : T) (column : List T) (m : ℕ) where
  abbrev none_at : ℕ → Bool
  none_at k = no_bit (get_or column k zero)

  -- before the first
  pub zero_start : (any : T) → no_bit any ≡ true → no_bit any ≡ all_from m (m + 0) none_at
  zero_start any e = rw add-zero (e ∙ from_start none_at m)

  -- a turn: the bits so far, with those of the entry x
  pub zero_turn : (i : ℕ) (any both x : T) → no_bit any ≡ all_from m (m + i) none_at → i < length (take (length column - m) (drop m column))
      → x ≡ get_or (take (length column - m) (drop m column)) i x → no_bit both ≡ (no_bit any && no_bit x) → no_bit both ≡ all_from m (m + (i + 1)) none_at
  zero_turn i any both x e h is q =
      let within : i < length column - m = omega (arith, simp (length-take, length-drop) at h) in
      let at : x ≡ get_or column (m + i) zero =
      is ∙ get_or-take (length column - m) (drop m column) i x within ∙ get_or-drop m column i x ∙ get_or_default column (m + i) x zero (omega arith) in
      let turn = from_turn none_at m (m + i) (omega arith) in
      let next : m + (i + 1) ≡ m + i + 1 = omega arith in
      rw (next, turn) (q ∙ ap₂ ◌&&◌ e (ap no_bit at))

-- columns together, each as long as it is
module _ (p q : ℕ → Bool) (m n : ℕ) (r s : Bool) where
  pub zeros_and : (len : ℕ) → r ≡ all_from m len p → len ≡ n → s ≡ all_from m n q → (r && s) ≡ all_from m n (λ k. p k && q k)
  zeros_and len e is f = ap₂ ◌&&◌ (rw (← is) e) f ∙ sym (from_and p q m n)

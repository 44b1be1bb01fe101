-- What f makes of a number that is tested against a range, and what holds of it.
use mathlib.Core.Path.{◌≡◌, refl, ap, ◌∙◌}
use mathlib.Core.Bool.{Bool, true, false, cond, ◌&&◌, and-eq-true_iff}
use mathlib.Core.Logic.{⊎_elim}
use Prim.Native.Nat.{ℕ, ◌≤◌}
use native.Mathlib.Omega.{arith}
use lib.IntN.{ℤ, pos, negsuc, nat_abs}
use lib.Signed.{le_z, lt_z}
use mir.Syntax.{w64}
use mir.Val.{SFits, to_z, of_z}
use mir.Facts.{to_z-of_z}
use borrow.Author.Tests.{leb-true, ltb-false, le-leb}
use Rattle.below.proofs.Tests.{bool_or}
use Rattle.kinds.specs.Range.{in_range, in_signed}

pub not_below_le : (a b : ℤ) → lt_z a b ≡ false → le_z b a ≡ true
not_below_le (pos m) (pos n) e = le-leb n m (ltb-false m n e)
not_below_le (pos m) (negsuc n) e = refl
not_below_le (negsuc m) (pos n) e = absurd (let z : ◌≡◌ {A = ℕ} 0 1 = cc in omega arith)
not_below_le (negsuc m) (negsuc n) e = le-leb m n (ltb-false n m e)

-- where neither test of a range fails
pub in_range_lem : {A : Type 0} (f : ℤ → A) (other : A) (x low high : ℤ) → lt_z x low ≡ false → lt_z high x ≡ false → f x ≡ in_signed x low high f other
in_range_lem f other x low high e g = rw (not_below_le x low e, not_below_le high x g)

-- what the machine's 64 bits of a number are told, the number is
pub at_z_lem : {Told : Type 0} (f : ℤ → Told) (out : Told) (low high : ℤ) {r : Told} {z : ℤ}
    → r ≡ in_signed (to_z w64 (of_z w64 z)) low high f out → SFits w64 z → r ≡ in_signed z low high f out
at_z_lem f out low high told fits = told ∙ ap (λ (y : ℤ). in_signed y low high f out) (to_z-of_z fits)

-- what holds of f at each number in the range, and of the other, holds of what f makes of the number tested
module _ {A : Type 0} (P : A → Type 0) where
  pub ranged_signed : (f : ℤ → A) (other : A) (x low high : ℤ) → (le_z low x ≡ true → le_z x high ≡ true → P (f x)) → P other → P (in_signed x low high f other)
  ranged_signed f other x low high h out =
      ⊎_elim (λ e. let b = (and-eq-true_iff (le_z low x) (le_z x high)).0 e in rw e (h b.0 b.1)) (λ e. rw e out) (bool_or (le_z low x && le_z x high))

  pub ranged : (f : ℕ → A) (other : A) (x : ℤ) (low high : ℕ) → ((n : ℕ) → low ≤ n → n ≤ high → P (f n)) → P other → P (in_range x low high f other)
  ranged f other (pos n) low high h out =
      ranged_signed (λ z. f (nat_abs z)) other (pos n) (pos low) (pos high) (λ l r. h n (leb-true low n l) (leb-true n high r)) out
  ranged f other (negsuc n) low high h out = out

-- and of the two sides of a test
pub either : {A : Type 0} (P : A → Type 0) (b : Bool) (d e : A) → P d → P e → P (cond b d e)
either P true d e p q = p
either P false d e p q = q

-- Laws of the printed text, and of a buffer that texts are put into.
use Prim.Native.Nat.{ℕ, zero, suc, zero-le, ◌+◌, ◌/◌, ◌%◌, ◌^◌, ◌≤◌, ◌<◌}
use mathlib.Core.Path.{◌≡◌, refl, sym, ◌∙◌, ap}
use mathlib.Core.List.{List, [], ◌∷◌, ◌++◌}
use native.Mathlib.Nat.{add-suc, add-zero, suc-add, pow-suc}
use native.Mathlib.Omega.{arith}
use borrow.Author.Tests.{lt-ltb, le-ltb}
use lib.ListN.{length, set, length-append}
use lib.Seq.{sets}
use lib.IntN.{ℤ, pos, negsuc}
use mir.Val.{SFits}
use mir.Syntax.{w64}
use Rattle.promise.proofs.Sole.{whole}
use Rattle.below.proofs.Tests.{le_or, cases}
use Rattle.text.specs.Puts.{Puts, Adds}
use Rattle.text.specs.declared.print.Line.{Line}
use Rattle.text.specs.Text.{digits, decimal, signed_text, answer_text, answer_most, codes_below}

-- writing two texts joined is writing one and then the other
sets_append : {A : Type 0} (l : List A) (i : ℕ) (s t : List A) → sets l i (s ++ t) ≡ sets (sets l i s) (i + length s) t
sets_append l i [] t = rw add-zero
sets_append l i (a ∷ s) t = sets_append (set l i a) (suc i) s t ∙ rw (suc-add, ← add-suc)

pub put_then : {x y z s t : List ℕ} {i j k : ℕ} → Puts x i s j y → Puts y j t k z → Puts x i (s ++ t) k z
put_then {x} {y} {z} {s} {t} {i} {j} {k} p q =
    record {
      next = omega (arith, p.next, q.next, length-append s t);
      bytes = q.bytes ∙ rw (p.next, p.bytes) (sym (sets_append x i s t));
      room = q.room;
    }

pub adds_then : {x y z : Line} {s t : List ℕ} → Adds x s y → Adds y t z → Adds x (s ++ t) z
adds_then p q = record { same_buffer = q.same_buffer ∙ p.same_buffer; puts = put_then p.puts q.puts; kept = q.kept ∙ p.kept }

-- no text at all
pub put_none : (x : List ℕ) (i : ℕ) → i ≤ length x → Puts x i [] i x
put_none x i h = record { next = sym (add-zero i); bytes = refl; room = h }

-- a text that is put leaves one place and one content
pub puts_one : {x y z s : List ℕ} {i j k : ℕ} → Puts x i s j y → Puts x i s k z → (j ≡ k) × (y ≡ z)
puts_one p q = whole (p.next, p.bytes) (q.next, q.bytes)

-- the digits do not depend on the bound on their number
digits_enough : (f g n : ℕ) → n < f → n < g → digits f n ≡ digits g n
unfolding digits
digits_enough zero g n p q = absurd (omega arith)
digits_enough (suc f) zero n p q = absurd (omega arith)
digits_enough (suc f) (suc g) n p q =
    cases (le_or 10 n)
    (λ h. simp (le-ltb n 10 h) (ap (λ (l : List ℕ). l ++ ((48 + n % 10) ∷ [])) (digits_enough f g (n / 10) (omega arith) (omega arith))))
    (λ h. simp (lt-ltb n 10 h))

pub decimal_small : (n : ℕ) → n < 10 → decimal n ≡ (48 + n) ∷ []
unfolding decimal digits
decimal_small n h = simp (lt-ltb n 10 h)

pub decimal_more : (n : ℕ) → 10 ≤ n → decimal n ≡ decimal (n / 10) ++ ((48 + n % 10) ∷ [])
unfolding decimal digits
decimal_more n h =
    simp (le-ltb n 10 h) (ap (λ (l : List ℕ). l ++ ((48 + n % 10) ∷ [])) (digits_enough n (suc (n / 10)) (n / 10) (omega arith) (omega arith)))

-- a number below 10 ^ (k + 1) has at most k + 1 digits
digits_short : (f k n : ℕ) → n < 10 ^ suc k → length (digits f n) ≤ suc k
unfolding digits
digits_short zero k n p = zero-le
digits_short (suc f) zero n p = simp (lt-ltb n 10 p) (omega arith)
digits_short (suc f) (suc k) n p =
    cases (le_or 10 n)
    (λ h. simp (le-ltb n 10 h)
    (omega (arith, length-append (digits f (n / 10)) ((48 + n % 10) ∷ []), digits_short f k (n / 10) (omega (arith, pow-suc 10 (suc k))))))
    (λ h. simp (lt-ltb n 10 h) (omega arith))

decimal_length : (k n : ℕ) → n < 10 ^ suc k → length (decimal n) ≤ suc k
unfolding decimal
decimal_length k n p = digits_short (suc n) k n p

signed_length : (z : ℤ) → SFits w64 z → length (signed_text z) ≤ 20
signed_length (pos n) f = omega (arith, decimal_length 18 n (omega (arith, f.sfits)))
signed_length (negsuc n) f = omega (arith, decimal_length 18 (suc n) (omega (arith, f.sfits)))

pub answer_room : (code a : ℕ) (b : ℤ) → code < codes_below → a < 2 ^ 32 → SFits w64 b → length (decimal code) + 1 + length (decimal a) + 1 + length (signed_text b) + 1 ≤ answer_most
answer_room code a b h k f =
    omega (arith, decimal_length 2 code (omega arith), decimal_length 9 a (omega arith), signed_length b f)

pub answer_most_lem : (code a : ℕ) (b : ℤ) → code < codes_below → a < 2 ^ 32 → SFits w64 b → length (answer_text code a b) ≤ answer_most
answer_most_lem code a b h k f = simp length-append (answer_room code a b h k f)

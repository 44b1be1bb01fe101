-- A bin's binary digits, digit by digit: a part's digit is that of the part before in half the number (`half`). omega follows a halving, and no power of 2 that
-- is not a number.
use mathlib.Core.Path.{◌≡◌, refl, sym, ap, subst, ◌∙◌}
use mathlib.Core.Bool.{true, false}
use mathlib.Core.Logic.{⊎_elim}
use Prim.Native.Nat.{ℕ, zero, suc, ◌+◌, ◌-◌, ◌*◌, ◌/◌, ◌%◌, ◌^◌, ◌<◌, ◌≤◌}
use native.Mathlib.Nat.{zero-add, pow-suc}
use native.Mathlib.Omega.{arith}
use lib.Pow.{pow_mono, shr-shr}
use lib.Dec.{eqb}
use borrow.Author.Tests.{eqb-true, eqb-false, eq-eqb, ne_eqb}
use Rattle.below.proofs.Tests.{bool_or}
use Rattle.kinds.specs.Bin.{opening_most, part_most, is_in}

-- in, or out
pub by_part : {P : Type 0} (n i : ℕ) → (is_in n i ≡ true → P) → (is_in n i ≡ false → P) → P
by_part n i f g = ⊎_elim f g (bool_or (is_in n i))

-- part 0 is in where the number is odd
odd_in : (n : ℕ) → n % 2 ≡ 1 → is_in n 0 ≡ true
odd_in n e = eq-eqb (n / 2 ^ 0 % 2) 1 (omega arith)

even_out : (n : ℕ) → n % 2 ≡ 0 → is_in n 0 ≡ false
even_out n e = ne_eqb (n / 2 ^ 0 % 2) 1 (λ f. omega arith)

in_odd : (n : ℕ) → is_in n 0 ≡ true → n % 2 ≡ 1
in_odd n e = let f : n / 2 ^ 0 % 2 ≡ 1 = eqb-true (n / 2 ^ 0 % 2) 1 e in omega arith

out_even : (n : ℕ) → is_in n 0 ≡ false → n % 2 ≡ 0
out_even n e = let f : (n / 2 ^ 0 % 2 ≡ 1) → ⊥ = eqb-false (n / 2 ^ 0 % 2) 1 e in omega arith

same_remainder : (n m : ℕ) → is_in n 0 ≡ is_in m 0 → n % 2 ≡ m % 2
same_remainder n m e = by_part m 0 (λ t. in_odd n (e ∙ t) ∙ sym (in_odd m t)) (λ f. out_even n (e ∙ f) ∙ sym (out_even m f))

-- and the others as in half the number
half : (n i : ℕ) → is_in n (suc i) ≡ is_in (n / 2) i
half n i =
    let e : n / 2 ^ suc i ≡ n / 2 / 2 ^ i = sym (shr-shr n 1 i ∙ ap (λ (k : ℕ). n / 2 ^ k) (omega arith)) in
    ap (λ (q : ℕ). eqb (q % 2) 1) e

doubled : (i : ℕ) → 2 ^ suc i ≡ 2 ^ i * 2
doubled i = pow-suc 2 i

half_sum : (n i : ℕ) → (n + 2 ^ suc i) / 2 ≡ n / 2 + 2 ^ i
half_sum n i = omega (arith, doubled i)

half_difference : (n i : ℕ) → (n - 2 ^ suc i) / 2 ≡ n / 2 - 2 ^ i
half_difference n i = omega (arith, doubled i)

-- A part that is put in is in, one that is taken out is out, and every other part is where it was.
pub put_in : (n i : ℕ) → is_in n i ≡ false → is_in (n + 2 ^ i) i ≡ true
put_in n zero h = odd_in (n + 2 ^ 0) (omega (arith, out_even n h))
put_in n (suc i) h = half (n + 2 ^ suc i) i ∙ ap (λ (m : ℕ). is_in m i) (half_sum n i) ∙ put_in (n / 2) i (sym (half n i) ∙ h)

pub put_others : (n i j : ℕ) → is_in n i ≡ false → (i ≡ j → ⊥) → is_in (n + 2 ^ i) j ≡ is_in n j
put_others n zero zero h other = absurd (other refl)
put_others n zero (suc j) h other =
    let e : (n + 2 ^ 0) / 2 ≡ n / 2 = omega (arith, out_even n h) in
    half (n + 2 ^ 0) j ∙ ap (λ (m : ℕ). is_in m j) e ∙ sym (half n j)
put_others n (suc i) zero h other =
    let e : (n + 2 ^ suc i) / 2 ^ 0 % 2 ≡ n / 2 ^ 0 % 2 = omega (arith, doubled i) in
    ap (λ (d : ℕ). eqb d 1) e
put_others n (suc i) (suc j) h other =
    half (n + 2 ^ suc i) j ∙ ap (λ (m : ℕ). is_in m j) (half_sum n i) ∙ put_others (n / 2) i j (sym (half n i) ∙ h) (λ e. other (ap suc e)) ∙ sym (half n j)

pub in_least : (n i : ℕ) → is_in n i ≡ true → 2 ^ i ≤ n
in_least n zero h = omega (arith, in_odd n h)
in_least n (suc i) h = omega (arith, doubled i, in_least (n / 2) i (sym (half n i) ∙ h))

pub take_out : (n i : ℕ) → is_in n i ≡ true → is_in (n - 2 ^ i) i ≡ false
take_out n zero h = even_out (n - 2 ^ 0) (omega (arith, in_odd n h))
take_out n (suc i) h = half (n - 2 ^ suc i) i ∙ ap (λ (m : ℕ). is_in m i) (half_difference n i) ∙ take_out (n / 2) i (sym (half n i) ∙ h)

pub take_others : (n i j : ℕ) → is_in n i ≡ true → (i ≡ j → ⊥) → is_in (n - 2 ^ i) j ≡ is_in n j
take_others n i j h other =
    let e : n - 2 ^ i + 2 ^ i ≡ n = omega (arith, in_least n i h) in
    sym (put_others (n - 2 ^ i) i j (take_out n i h) other) ∙ ap (λ (m : ℕ). is_in m j) e

-- With one of k parts put in, a bin of k parts is still such a bin; it has no other part, and no other bin has the same parts.
pub put_fits : (n i k : ℕ) → is_in n i ≡ false → i < k → n < 2 ^ k → n + 2 ^ i < 2 ^ k
put_fits n i zero h l f = absurd (omega arith)
put_fits n zero (suc k) h l f = omega (arith, doubled k, out_even n h)
put_fits n (suc i) (suc k) h l f =
    let rest : n / 2 < 2 ^ k = omega (arith, doubled k) in
    omega (arith, doubled i, doubled k, put_fits (n / 2) i k (sym (half n i) ∙ h) (omega arith) rest)

pub none_beyond : (n i k : ℕ) → n < 2 ^ k → k ≤ i → is_in n i ≡ false
none_beyond n i k f l = by_part n i (λ e. absurd (omega (arith, in_least n i e, pow_mono {i = k} {j = i} l))) (λ e. e)

pub same_parts : (k n m : ℕ) → n < 2 ^ k → m < 2 ^ k → ((i : ℕ) → i < k → is_in n i ≡ is_in m i) → n ≡ m
same_parts zero n m hn hm same = omega arith
same_parts (suc k) n m hn hm same =
    let rest : n / 2 ≡ m / 2 =
    same_parts k (n / 2) (m / 2) (omega (arith, doubled k)) (omega (arith, doubled k)) (λ i l. sym (half n i) ∙ same (suc i) (omega arith) ∙ half m i) in
    omega (arith, same_remainder n m (same 0 (omega arith)))

pub below_power : (k : ℕ) → k < 2 ^ k
below_power zero = omega arith
below_power (suc k) = omega (arith, doubled k, below_power k)

-- nothing is in at 0, and a part alone at its power of 2
pub none_in : (i : ℕ) → is_in 0 i ≡ false
none_in i = none_beyond 0 i 0 (omega arith) (omega arith)

pub one_in : (i : ℕ) → is_in (2 ^ i) i ≡ true
one_in i = subst (λ (n : ℕ). is_in n i ≡ true) (zero-add (2 ^ i)) (put_in 0 i (none_in i))

pub power_most : (i : ℕ) → i ≤ part_most → 2 ^ i ≤ opening_most
power_most i h = omega (arith, pow_mono {i = i} {j = part_most} h)

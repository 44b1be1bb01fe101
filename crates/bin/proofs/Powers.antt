-- The machine's power of 2 for a part, which `1 << part` is.
use Rattle.std.proofs.Common.{◌≡◌, ℕ, ◌+◌, ◌*◌, ◌%◌, ◌^◌, ◌≤◌, ◌∙◌, false, arith, Fits, w32}
use native.Mathlib.Nat.{one-mul}
use lib.Pow.{shl_exact}
use Rattle.kinds.specs.Bin.{is_in, part_most}
use Rattle.kinds.proofs.Digits.{put_fits}

pub power : (i : ℕ) → i ≤ part_most → (1 * 2 ^ i) % 2 ^ 32 ≡ 2 ^ i
power i h = shl_exact {a = 1} 1 i 32 (omega arith) (omega arith) ∙ one-mul (2 ^ i)

-- a part that is out can be put in: 32 digits hold the sum
pub put_in_fits : (n i : ℕ) → is_in n i ≡ false → i ≤ part_most → Fits w32 n → Fits w32 (n + (1 * 2 ^ i) % 2 ^ 32)
put_in_fits n i out h f = record { fits = omega (arith, power i h, put_fits n i 32 out (omega arith) f.fits) }

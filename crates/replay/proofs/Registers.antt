-- What an operation does to a register, and that what a write puts is what the register could have opened with.
use Rattle.std.specs.Prelude.{Option, Some, None}
use Prim.Native.Nat.{ℕ}
use mathlib.Core.Path.{◌≡◌, refl, subst}
use mathlib.Core.Bool.{Bool, true, false, cond, ◌&&◌, false≢true}
use mathlib.Core.Logic.{⊎_elim}
use native.Mathlib.Omega.{arith}
use lib.IntN.{ℤ, pos, nat_abs}
use lib.Signed.{le_z}
use lib.Dec.{eqb}
use Rattle.below.proofs.Tests.{bool_or}
use Rattle.kinds.specs.declared.Kind.TheVariants.{Register}
use Rattle.kinds.specs.declared.State.{State}
use Rattle.kinds.specs.declared.Operation.TheVariants as O
use Rattle.kinds.specs.declared.register.RegisterOperation.TheVariants.{Read, Write}
use Rattle.kinds.specs.Register.{register_of, value_most}
use Rattle.kinds.specs.Kinds.{opened_of, start_of, opens, decode_of}
use Rattle.kinds.specs.Object.{Grown}
use Rattle.replay.specs.View.{after_one}
use Rattle.replay.specs.Write.{is_write}
use Rattle.replay.proofs.After.{left_start}
use Rattle.kinds.specs.declared.Operation.{Operation}

-- a write puts its number, whatever the register was; nothing else changes it
abbrev Does : Option Operation → Bool → Type 0
Does d true = (v : ℕ) × ((n : ℕ) → after_one d (register_of n) ≡ register_of v)
Does d false = (n : ℕ) → after_one d (register_of n) ≡ register_of n

does : (d : Option Operation) → Does d (is_write d)
does (Some (O.Account o)) = λ n. refl
does (Some (O.Register Read)) = λ n. refl
does (Some (O.Register (Write v))) = (v, λ n. refl)
does (Some (O.Counter o)) = λ n. refl
does (Some (O.Bin o)) = λ n. refl
does None = λ n. refl

pub write_puts : (d : Option Operation) → is_write d ≡ true → Does d true
write_puts d e = subst (Does d) e (does d)

pub others_keep : (d : Option Operation) → is_write d ≡ false → Does d false
others_keep d e = subst (Does d) e (does d)

pub stays : (d : Option Operation) (n : ℕ) → (k : ℕ) × (after_one d (register_of n) ≡ register_of k)
stays d n = ⊎_elim (λ w. let p = write_puts d w in (p.0, p.1 n)) (λ w. (n, others_keep d w n)) (bool_or (is_write d))

-- what decodes to a write has operation 5 and an argument in the range of an opening
opens_so : (read write none fits : Bool) (v n : ℕ) → let d = cond read (cond none (Some (O.Register Read)) None) (cond write (cond fits (Some (O.Register (Write v))) None) None) in
    is_write d ≡ true → start_of (cond fits (Some (register_of v)) None) ≡ after_one d (register_of n)
opens_so true write true fits v n e = absurd (false≢true e)
opens_so true write false fits v n e = absurd (false≢true e)
opens_so false true none true v n e = refl
opens_so false true none false v n e = absurd (false≢true e)
opens_so false false none fits v n e = absurd (false≢true e)

pub write_opens : (k : ℕ) (z : ℤ) (n : ℕ) → is_write (decode_of Register k z) ≡ true → start_of (opened_of Register z) ≡ after_one (decode_of Register k z) (register_of n)
write_opens k z n e = opens_so (eqb k 4) (eqb k 5) (le_z (pos 0) z && le_z z (pos 0)) (le_z (pos 0) z && le_z z (pos value_most)) (nat_abs z) n e

is_register : {k : ℕ} {s : State} → Grown Register k s → (n : ℕ) × (s ≡ register_of n)
is_register (Grown.kept n k b) = (n, refl)

pub opens_register : (opening : ℤ) → opens (opened_of Register opening) ≡ true → (n : ℕ) × (start_of (opened_of Register opening) ≡ register_of n)
opens_register opening h = is_register (left_start Register opening 0 h (omega arith)).grown

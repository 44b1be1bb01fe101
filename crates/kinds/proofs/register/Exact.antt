-- The register's table is exact, as the account's.
use mathlib.Core.Path.{◌≡◌, refl, sym, ap}
use mathlib.Core.Logic.{inl, inr}
use Prim.Native.Nat.{ℕ}
use native.Mathlib.Omega.{arith}
use lib.IntN.{ℤ, pos, nat_abs}
use borrow.Author.Tests.{le-leb}
use Rattle.theory.specs.Serial.{Alike}
use Rattle.theory.proofs.Alike.{alike_answers}
use Rattle.theory.proofs.Forms.{Form}
use Rattle.kinds.specs.Register.{register_of}
use Rattle.kinds.specs.Table.{entry}
use Rattle.kinds.specs.Object.{StateOf, register, object_of}
use Rattle.kinds.specs.Witness.{value_for}
use Rattle.kinds.specs.declared.register.RegisterOperation.{RegisterOperation}
use Rattle.kinds.specs.declared.register.RegisterOperation.TheVariants.{Read, Write}
use Rattle.kinds.specs.declared.Kind.TheVariants.{Register}
use Rattle.kinds.specs.declared.State.{State}
use Rattle.kinds.specs.declared.State.TheVariants as S
use Rattle.kinds.specs.declared.Operation.{Operation}
use Rattle.kinds.specs.declared.Operation.TheVariants as O
use Rattle.kinds.specs.declared.outcome.Outcome.{Outcome}
use Rattle.kinds.specs.declared.outcome.Outcome.TheVariants.{Ok, Fail, Value}
use Rattle.kinds.proofs.Outcomes.{value_is, size_is}
use Rattle.kinds.proofs.Keys.{equal_keys, unequal_keys}
use Rattle.kinds.proofs.Takes.{Takes}
use Rattle.kinds.proofs.Takes as takes
use Rattle.kinds.proofs.Exactly as exactly

data Seen : ℕ → ℤ → RegisterOperation → Outcome → Type 0 where
  read : {v : ℤ} → Seen 0 v Read (Value v)
  write : {n : ℕ} → Seen 1 (pos n) (Write n) Ok

abbrev form : {a : ℕ} {k : ℤ} {o : RegisterOperation} {r : Outcome} → Seen a k o r → Form (object_of Register) register_of (record { ask = O.Register o; reply = r })
form (read {v}) = record { Need = λ n. pos n ≡ v; end = λ n. n; tells = λ n e. value_is e; right = λ n h. ap Value h; ends = λ n h. refl }
form (write {n = m}) = record { Need = λ n. Unit; end = λ n. m; tells = λ n e. tt; right = λ n h. refl; ends = λ n h. refl }

abbrev terms : exactly.Terms Register
terms = record {
  N = ℕ;
  O = RegisterOperation;
  make = register_of;
  ask = O.Register;
  Seen = Seen;
  form = form;
  witness = value_for;
}

sorted : (o : RegisterOperation) (r : Outcome) → exactly.Sorted terms o r
sorted Read (Value v) = inl (0, v, refl, read)
sorted Read Ok = inr (refl, λ n e. cc)
sorted Read Fail = inr (refl, λ n e. cc)
sorted (Write n) Ok = inl (1, pos n, refl, write)
sorted (Write n) Fail = inr (refl, λ b e. cc)
sorted (Write n) (Value v) = inr (refl, λ b e. cc)

read_write : (v : ℤ) (m : ℕ) → exactly.Stands terms (read {v = v}) (write {n = m})
unfolding entry
read_write v m =
    exactly.tested terms (read {v = v}) (write {n = m}) (
      (λ f n e h. (tt, sym (equal_keys v (pos m) f), refl)),
      (λ t p q. exactly.at_one terms read write (λ n e. ap nat_abs (sym e)) (λ n e. tt) (λ n e both. unequal_keys v (pos m) t (sym both.1)) p),
    )

write_write : (n m : ℕ) → exactly.Stands terms (write {n = n}) (write {n = m})
unfolding entry
write_write n m =
    exactly.tested terms (write {n = n}) (write {n = m}) (
      (λ f b h k. (tt, tt, ap nat_abs (sym (equal_keys (pos n) (pos m) f)))),
      (λ t p q. record {
        has = register (omega arith);
        first = tt;
        second = tt;
        differ = λ both. unequal_keys (pos n) (pos m) t (ap pos (sym both.2));
        least = λ b h k d. le-leb 0 b (omega arith);
      }),
    )

stands : {a a' : ℕ} {k k' : ℤ} {o o' : RegisterOperation} {r r' : Outcome} (p : Seen a k o r) (q : Seen a' k' o' r') → exactly.Stands terms p q
unfolding entry
stands read read = exactly.passing terms read read refl (λ n p q. (q, p, refl))
stands (read {v}) (write {n}) = read_write v n
stands (write {n}) (read {v}) = exactly.mirrored terms (read {v = v}) (write {n = n}) refl (read_write v n)
stands (write {n}) (write {n = m}) = write_write n m

-- states that nothing tells apart are made of the same
pub same : (n m : ℕ) → Alike (object_of Register) (register_of n) (register_of m) → n ≡ m
same n m alike = sym (size_is (alike_answers (object_of Register) (register_of n) (register_of m) (O.Register Read) alike))

made : (t : State) → StateOf Register t → exactly.Made terms t
made t (register {n} h) = (n, refl)

placed : (t : State) → exactly.Placed terms t
placed (S.Account a) = inr (λ o. refl)
placed (S.Register v) = inl (v.value, refl)
placed (S.Counter c) = inr (λ o. refl)
placed (S.Bin b) = inr (λ o. refl)

taken : (o : Operation) → Takes Register o → exactly.Own terms o
taken o takes.read = (Read, refl)
taken o (takes.write {n} h) = (Write n, refl)

asked : (o : Operation) → exactly.Asked terms o
asked (O.Account o) = inr (λ r. refl)
asked (O.Register o) = inl (o, refl)
asked (O.Counter o) = inr (λ r. refl)
asked (O.Bin o) = inr (λ r. refl)

pub exact : exactly.Exact Register
exact = exactly.exactly terms same made placed taken asked sorted (λ o r o' r'. refl) (λ a a' k k' o o' r r' p q. stands p q)

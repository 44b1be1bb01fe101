-- The account's table is exact. In terms of what each class of answer needs of the balance and does to it, every entry is linear arithmetic.
use mathlib.Core.Path.{◌≡◌, refl, sym, ap, ◌∙◌}
use mathlib.Core.Bool.{Bool, true, false}
use mathlib.Core.Logic.{inl, inr, ⊎_elim}
use Prim.Native.Nat.{ℕ, ◌+◌, ◌-◌, ◌<◌, ◌≤◌}
use native.Mathlib.Omega.{arith}
use lib.IntN.{ℤ, pos, nat_abs}
use lib.Signed.{le_z}
use lib.Dec.{leb}
use borrow.Author.Tests.{leb-true, leb-false, le-leb, lt-leb}
use Rattle.below.proofs.Tests.{le_or}
use Rattle.theory.specs.Serial.{Alike}
use Rattle.theory.proofs.Alike.{alike_answers}
use Rattle.theory.proofs.Forms.{Form}
use Rattle.kinds.specs.Account.{account_of, amount_least, step_of}
use Rattle.kinds.specs.Table.{entry}
use Rattle.kinds.specs.Object.{StateOf, account, object_of}
use Rattle.kinds.specs.Witness.{balance_for}
use Rattle.kinds.specs.declared.account.AccountOperation.{AccountOperation}
use Rattle.kinds.specs.declared.account.AccountOperation.TheVariants.{Balance, Deposit, Withdraw}
use Rattle.kinds.specs.declared.Kind.TheVariants.{Account}
use Rattle.kinds.specs.declared.State.{State}
use Rattle.kinds.specs.declared.State.TheVariants as S
use Rattle.kinds.specs.declared.Operation.{Operation}
use Rattle.kinds.specs.declared.Operation.TheVariants as O
use Rattle.kinds.specs.declared.outcome.Outcome.{Outcome}
use Rattle.kinds.specs.declared.outcome.Outcome.TheVariants.{Ok, Fail, Value}
use Rattle.kinds.proofs.Outcomes.{value_is, size_is, ok_not_fail}
use Rattle.kinds.proofs.Takes.{Takes}
use Rattle.kinds.proofs.Takes as takes
use Rattle.kinds.proofs.Exactly as exactly

covered : (n b : ℕ) → n ≤ b → step_of (record { balance = b }) (Withdraw n) ≡ record { state = account_of (b - n); outcome = Ok }
covered n b h = rw (le-leb n b h)

lacking : (n b : ℕ) → b < n → step_of (record { balance = b }) (Withdraw n) ≡ record { state = account_of b; outcome = Fail }
lacking n b h = rw (lt-leb n b h)

data Seen : ℕ → ℤ → AccountOperation → Outcome → Type 0 where
  balance : {v : ℤ} → Seen 0 v Balance (Value v)
  deposit : {n : ℕ} → Seen 1 (pos n) (Deposit n) Ok
  drawn : {n : ℕ} → Seen 2 (pos n) (Withdraw n) Ok
  short : {n : ℕ} → Seen 3 (pos n) (Withdraw n) Fail

abbrev form : {a : ℕ} {k : ℤ} {o : AccountOperation} {r : Outcome} → Seen a k o r → Form (object_of Account) account_of (record { ask = O.Account o; reply = r })
form (balance {v}) = record { Need = λ b. pos b ≡ v; end = λ b. b; tells = λ b e. value_is e; right = λ b h. ap Value h; ends = λ b h. refl }
form (deposit {n}) = record { Need = λ b. Unit; end = λ b. b + n; tells = λ b e. tt; right = λ b h. refl; ends = λ b h. refl }
form (drawn {n}) = record {
  Need = λ b. n ≤ b;
  end = λ b. b - n;
  tells = λ b h. ⊎_elim (λ l. l) (λ l. absurd (ok_not_fail (sym h ∙ ap (λ s. s.outcome) (lacking n b l)))) (le_or n b);
  right = λ b h. ap (λ s. s.outcome) (covered n b h);
  ends = λ b h. ap (λ s. s.state) (covered n b h);
}
form (short {n}) = record {
  Need = λ b. b < n;
  end = λ b. b;
  tells = λ b h. ⊎_elim (λ l. absurd (ok_not_fail (sym (ap (λ s. s.outcome) (covered n b l)) ∙ h))) (λ l. l) (le_or n b);
  right = λ b h. ap (λ s. s.outcome) (lacking n b h);
  ends = λ b h. ap (λ s. s.state) (lacking n b h);
}

abbrev terms : exactly.Terms Account
terms = record {
  N = ℕ;
  O = AccountOperation;
  make = account_of;
  ask = O.Account;
  Seen = Seen;
  form = form;
  witness = balance_for;
}

-- a withdrawal shows no value
silent : (n b : ℕ) (v : ℤ) → (step_of (record { balance = b }) (Withdraw n)).outcome ≡ Value v → ⊥
silent n b v e =
    ⊎_elim
    (λ h. let ok = ap (λ s. s.outcome) (covered n b h) in cc)
    (λ h. let fails = ap (λ s. s.outcome) (lacking n b h) in cc)
    (le_or n b)

sorted : (o : AccountOperation) (r : Outcome) → exactly.Sorted terms o r
sorted Balance (Value v) = inl (0, v, refl, balance)
sorted Balance Ok = inr (refl, λ b e. cc)
sorted Balance Fail = inr (refl, λ b e. cc)
sorted (Deposit n) Ok = inl (1, pos n, refl, deposit)
sorted (Deposit n) Fail = inr (refl, λ b e. cc)
sorted (Deposit n) (Value v) = inr (refl, λ b e. cc)
sorted (Withdraw n) Ok = inl (2, pos n, refl, drawn)
sorted (Withdraw n) Fail = inl (3, pos n, refl, short)
sorted (Withdraw n) (Value v) = inr (refl, λ b e. silent n b v e)

deposited : {n : ℕ} → Takes Account (O.Account (Deposit n)) → amount_least ≤ n
deposited (takes.deposit l h) = l

withdrawn : {n : ℕ} → Takes Account (O.Account (Withdraw n)) → amount_least ≤ n
withdrawn (takes.withdraw l h) = l

-- a balance is right at what it shows alone
one : {v : ℤ} (b : ℕ) → pos b ≡ v → nat_abs v ≡ b
one b e = ap nat_abs (sym e)

compared : (n b : ℕ) {v : ℤ} (t : Bool) → pos b ≡ v → le_z (pos n) v ≡ t → leb n b ≡ t
compared n b t e h = ap (le_z (pos n)) e ∙ h

balance_deposit : (v : ℤ) (n : ℕ) → exactly.Stands terms (balance {v = v}) (deposit {n = n})
unfolding entry
balance_deposit v n =
    exactly.conflicting terms balance deposit refl
    (λ p q. let l = deposited q.takes in
    exactly.at_one terms balance deposit one (λ b e. tt) (λ b e both. let h : nat_abs v ≡ b + n = one (b + n) both.1 in let k : nat_abs v ≡ b = one b e in omega arith) p)

balance_drawn : (v : ℤ) (n : ℕ) → exactly.Stands terms (balance {v = v}) (drawn {n = n})
unfolding entry
balance_drawn v n =
    exactly.tested terms (balance {v = v}) (drawn {n = n}) (
      (λ f b e h. absurd (omega (arith, leb-false n b (compared n b false e f)))),
      (λ t p q. let l = withdrawn q.takes in
          exactly.at_one terms balance drawn one (λ b e. leb-true n b (compared n b true e t))
          (λ b e both. let h : nat_abs v ≡ b - n = one (b - n) both.1 in let k : nat_abs v ≡ b = one b e in omega (arith, leb-true n b (compared n b true e t))) p),
    )

deposit_short : (n m : ℕ) → exactly.Stands terms (deposit {n = n}) (short {n = m})
unfolding entry
deposit_short n m =
    exactly.conflicting terms deposit short refl
    (λ p q. let i = deposited p.takes in
    let j = withdrawn q.takes in
    record {
      has = account;
      first = tt;
      second = omega arith;
      differ = λ both. omega arith;
      least = λ b h k d. let w = terms.witness (Deposit n) Ok (Withdraw m) Fail in ⊎_elim (λ l. le-leb w b l) (λ l. absurd (d (omega arith))) (le_or w b);
    })

drawn_drawn : (n m : ℕ) → exactly.Stands terms (drawn {n = n}) (drawn {n = m})
unfolding entry
drawn_drawn n m =
    exactly.conflicting terms drawn drawn refl
    (λ p q. let i = withdrawn p.takes in
    let j = withdrawn q.takes in
    record {
      has = account;
      first = omega arith;
      second = omega arith;
      differ = λ both. omega arith;
      least = λ b h k d. le-leb (terms.witness (Withdraw n) Ok (Withdraw m) Ok) b (omega arith);
    })

stands : {a a' : ℕ} {k k' : ℤ} {o o' : AccountOperation} {r r' : Outcome} (p : Seen a k o r) (q : Seen a' k' o' r') → exactly.Stands terms p q
unfolding entry
stands balance balance = exactly.passing terms balance balance refl (λ b p q. (q, p, refl))
stands (balance {v}) (deposit {n}) = balance_deposit v n
stands (balance {v}) (drawn {n}) = balance_drawn v n
stands balance short = exactly.passing terms balance short refl (λ b p q. (q, p, refl))
stands (deposit {n}) (balance {v}) = exactly.mirrored terms balance deposit refl (balance_deposit v n)
stands deposit deposit = exactly.passing terms deposit deposit refl (λ b. omega arith)
stands deposit drawn = exactly.passing terms deposit drawn refl (λ b. omega arith)
stands (deposit {n}) (short {n = m}) = deposit_short n m
stands (drawn {n}) (balance {v}) = exactly.mirrored terms (balance {v = v}) (drawn {n = n}) refl (balance_drawn v n)
stands drawn deposit = exactly.passing terms drawn deposit refl (λ b. omega arith)
stands (drawn {n}) (drawn {n = m}) = drawn_drawn n m
stands drawn short = exactly.passing terms drawn short refl (λ b. omega arith)
stands short balance = exactly.passing terms short balance refl (λ b p q. (q, p, refl))
stands (short {n}) (deposit {n = m}) = exactly.mirrored terms deposit short refl (deposit_short m n)
stands short drawn = exactly.passing terms short drawn refl (λ b. omega arith)
stands short short = exactly.passing terms short short refl (λ b. omega arith)

-- states that nothing tells apart are made of the same
pub same : (b c : ℕ) → Alike (object_of Account) (account_of b) (account_of c) → b ≡ c
same b c alike = sym (size_is (alike_answers (object_of Account) (account_of b) (account_of c) (O.Account Balance) alike))

made : (t : State) → StateOf Account t → exactly.Made terms t
made t (account {n}) = (n, refl)

placed : (t : State) → exactly.Placed terms t
placed (S.Account a) = inl (a.balance, refl)
placed (S.Register v) = inr (λ o. refl)
placed (S.Counter c) = inr (λ o. refl)
placed (S.Bin b) = inr (λ o. refl)

taken : (o : Operation) → Takes Account o → exactly.Own terms o
taken o takes.balance = (Balance, refl)
taken o (takes.deposit {n} l h) = (Deposit n, refl)
taken o (takes.withdraw {n} l h) = (Withdraw n, refl)

asked : (o : Operation) → exactly.Asked terms o
asked (O.Account o) = inl (o, refl)
asked (O.Register o) = inr (λ r. refl)
asked (O.Counter o) = inr (λ r. refl)
asked (O.Bin o) = inr (λ r. refl)

pub exact : exactly.Exact Account
exact = exactly.exactly terms same made placed taken asked sorted (λ o r o' r'. refl) (λ a a' k k' o o' r r' p q. stands p q)

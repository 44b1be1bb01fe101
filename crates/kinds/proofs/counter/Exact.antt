-- The counter's table is exact, as the account's; its states are whole numbers on both sides of zero.
use mathlib.Core.Path.{◌≡◌, refl, sym, ap, ◌∙◌}
use mathlib.Core.Logic.{inl, inr}
use Prim.Native.Nat.{ℕ}
use lib.IntN.{ℤ, pos, ◌+ℤ◌, ◌-ℤ◌, +ℤ_assoc, +ℤ_comm, +ℤ_idr, +ℤ_invr, +ℤ-neg_ℤ_cancel}
use Rattle.theory.specs.Serial.{Alike}
use Rattle.theory.proofs.Alike.{alike_answers}
use Rattle.theory.proofs.Forms.{Form}
use Rattle.kinds.specs.Counter.{counter_of}
use Rattle.kinds.specs.Table.{entry}
use Rattle.kinds.specs.Object.{StateOf, counter, object_of}
use Rattle.kinds.specs.Witness.{count_for}
use Rattle.kinds.specs.declared.counter.CounterOperation.{CounterOperation}
use Rattle.kinds.specs.declared.counter.CounterOperation.TheVariants.{Adjust, Count}
use Rattle.kinds.specs.declared.Kind.TheVariants.{Counter}
use Rattle.kinds.specs.declared.State.{State}
use Rattle.kinds.specs.declared.State.TheVariants as S
use Rattle.kinds.specs.declared.Operation.{Operation}
use Rattle.kinds.specs.declared.Operation.TheVariants as O
use Rattle.kinds.specs.declared.outcome.Outcome.{Outcome}
use Rattle.kinds.specs.declared.outcome.Outcome.TheVariants.{Ok, Fail, Value}
use Rattle.kinds.proofs.Outcomes.{value_is}
use Rattle.kinds.proofs.Keys.{equal_keys, unequal_keys}
use Rattle.kinds.proofs.Takes.{Takes}
use Rattle.kinds.proofs.Takes as takes
use Rattle.kinds.proofs.Exactly as exactly

data Seen : ℕ → ℤ → CounterOperation → Outcome → Type 0 where
  adjust : {z : ℤ} → Seen 0 z (Adjust z) Ok
  count : {v : ℤ} → Seen 1 (pos 0) Count (Value v)

abbrev form : {a : ℕ} {k : ℤ} {o : CounterOperation} {r : Outcome} → Seen a k o r → Form (object_of Counter) counter_of (record { ask = O.Counter o; reply = r })
form (adjust {z}) = record { Need = λ s. Unit; end = λ s. s +ℤ z; tells = λ s e. tt; right = λ s h. refl; ends = λ s h. refl }
form (count {v}) = record { Need = λ s. s ≡ v; end = λ s. s; tells = λ s e. value_is e; right = λ s h. ap Value h; ends = λ s h. refl }

abbrev terms : exactly.Terms Counter
terms = record {
  N = ℤ;
  O = CounterOperation;
  make = counter_of;
  ask = O.Counter;
  Seen = Seen;
  form = form;
  witness = count_for;
}

sorted : (o : CounterOperation) (r : Outcome) → exactly.Sorted terms o r
sorted (Adjust z) Ok = inl (0, z, refl, adjust)
sorted (Adjust z) Fail = inr (refl, λ s e. cc)
sorted (Adjust z) (Value v) = inr (refl, λ s e. cc)
sorted Count (Value v) = inl (1, pos 0, refl, count)
sorted Count Ok = inr (refl, λ s e. cc)
sorted Count Fail = inr (refl, λ s e. cc)

-- 0 adds nothing, and what adds nothing is 0
adds_nothing : (z s : ℤ) → z ≡ pos 0 → s +ℤ z ≡ s
adds_nothing z s e = ap (λ (y : ℤ). s +ℤ y) e ∙ +ℤ_idr s

unmoved : (s z : ℤ) → s +ℤ z ≡ s → z ≡ pos 0
unmoved s z e = sym (+ℤ-neg_ℤ_cancel z s) ∙ ap (λ (y : ℤ). y -ℤ s) (+ℤ_comm z s ∙ e) ∙ +ℤ_invr s

-- two adjustments in either order
either_order : (s n m : ℤ) → s +ℤ n +ℤ m ≡ s +ℤ m +ℤ n
either_order s n m = +ℤ_assoc s n m ∙ ap (λ (k : ℤ). s +ℤ k) (+ℤ_comm n m) ∙ sym (+ℤ_assoc s m n)

count_adjust : (v z : ℤ) → exactly.Stands terms (count {v = v}) (adjust {z = z})
unfolding entry
count_adjust v z =
    exactly.tested terms (count {v = v}) (adjust {z = z}) (
      (λ f s e h. (tt, adds_nothing z s (sym (equal_keys (pos 0) z f)) ∙ e, refl)),
      (λ t p q. exactly.at_one terms (count {v = v}) (adjust {z = z}) (λ s e. sym e) (λ s e. tt)
          (λ s e both. unequal_keys (pos 0) z t (sym (unmoved s z (both.1 ∙ sym e)))) p),
    )

stands : {a a' : ℕ} {k k' : ℤ} {o o' : CounterOperation} {r r' : Outcome} (p : Seen a k o r) (q : Seen a' k' o' r') → exactly.Stands terms p q
unfolding entry
stands (adjust {z}) (adjust {z = y}) = exactly.passing terms (adjust {z = z}) (adjust {z = y}) refl (λ s p q. (tt, tt, either_order s z y))
stands (adjust {z}) (count {v}) = exactly.mirrored terms (count {v = v}) (adjust {z = z}) refl (count_adjust v z)
stands (count {v}) (adjust {z}) = count_adjust v z
stands (count {v}) (count {v = w}) = exactly.passing terms (count {v = v}) (count {v = w}) refl (λ s p q. (q, p, refl))

-- states that nothing tells apart are made of the same
pub same : (z y : ℤ) → Alike (object_of Counter) (counter_of z) (counter_of y) → z ≡ y
same z y alike = sym (value_is (alike_answers (object_of Counter) (counter_of z) (counter_of y) (O.Counter Count) alike))

made : (t : State) → StateOf Counter t → exactly.Made terms t
made t (counter {z}) = (z, refl)

placed : (t : State) → exactly.Placed terms t
placed (S.Account a) = inr (λ o. refl)
placed (S.Register v) = inr (λ o. refl)
placed (S.Counter c) = inl (c.count, refl)
placed (S.Bin b) = inr (λ o. refl)

taken : (o : Operation) → Takes Counter o → exactly.Own terms o
taken o (takes.adjust {z} h) = (Adjust z, refl)
taken o takes.count = (Count, refl)

asked : (o : Operation) → exactly.Asked terms o
asked (O.Account o) = inr (λ r. refl)
asked (O.Register o) = inr (λ r. refl)
asked (O.Counter o) = inl (o, refl)
asked (O.Bin o) = inr (λ r. refl)

pub exact : exactly.Exact Counter
exact = exactly.exactly terms same made placed taken asked sorted (λ o r o' r'. refl) (λ a a' k k' o o' r r' p q. stands p q)

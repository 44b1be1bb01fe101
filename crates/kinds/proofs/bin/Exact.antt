-- The bin's table is exact, as the account's: it has the rule of request Q-3, and that rule says where two answers do not agree.
use mathlib.Core.Path.{◌≡◌, refl, sym, ap, ◌∙◌}
use mathlib.Core.Bool.{Bool, true, false, not, cond, ◌&&◌, ◌||◌, beq, not-not, and-eq-true_iff, true≢false}
use mathlib.Core.Logic.{◌↔◌, inl, inr, ⊎_elim}
use Prim.Native.Nat.{ℕ, zero, suc, ◌+◌}
use native.Mathlib.Omega.{arith}
use lib.IntN.{ℤ, pos, negsuc, nat_abs}
use lib.Signed.{lt_z}
use borrow.Author.Tests.{le-leb}
use Rattle.below.proofs.Tests.{same_or, bool_or, cases}
use Rattle.theory.specs.Serial.{Right, Alike}
use Rattle.theory.proofs.Alike.{alike_answers}
use Rattle.theory.proofs.Forms.{Form}
use Rattle.kinds.specs.Bin.{bin_of, is_in, part_of, class_of, table}
use Rattle.kinds.specs.Kinds.{step_of, conflict_of}
use Rattle.kinds.specs.Table.{entry, judge, in_row}
use Rattle.kinds.specs.Object.{StateOf, bin, object_of}
use Rattle.kinds.specs.Witness.{is_ok, was_in, parts_for}
use Rattle.kinds.specs.declared.bin.BinOperation.{BinOperation}
use Rattle.kinds.specs.declared.bin.BinOperation.TheVariants.{Put, Take, Look}
use Rattle.kinds.specs.declared.Kind.TheVariants.{Bin}
use Rattle.kinds.specs.declared.State.{State}
use Rattle.kinds.specs.declared.State.TheVariants as S
use Rattle.kinds.specs.declared.Operation.{Operation}
use Rattle.kinds.specs.declared.Operation.TheVariants as O
use Rattle.kinds.specs.declared.outcome.Outcome.{Outcome}
use Rattle.kinds.specs.declared.outcome.Outcome.TheVariants.{Ok, Fail, Value}
use Rattle.kinds.specs.declared.table.Rule.TheVariants.{Pass, IfEqual}
use Rattle.kinds.proofs.Outcomes.{size_is, ok_not_fail}
use Rattle.kinds.proofs.Keys.{equal_keys, not_below_itself}
use Rattle.kinds.proofs.Digits.{by_part, same_parts, below_power}
use Rattle.kinds.proofs.Takes.{Takes, part_most_lem}
use Rattle.kinds.proofs.Takes as takes
use Rattle.kinds.proofs.Exactly as exactly
use Rattle.kinds.proofs.bin.Acts.{Act, act, inside, moves, Needs, ended, apart_settled, still_settled, unsettled, smallest, smallest_needed, smallest_has, smallest_least}

-- the answers that an operation can have
pub data Says : BinOperation → Outcome → Type 0 where
  put : {i : ℕ} → Says (Put i) Ok
  put_failed : {i : ℕ} → Says (Put i) Fail
  taken : {i : ℕ} → Says (Take i) Ok
  take_failed : {i : ℕ} → Says (Take i) Fail
  seen_in : {i : ℕ} → Says (Look i) (Value (pos 1))
  seen_out : {i : ℕ} → Says (Look i) (Value (pos 0))

abbrev pub changes : BinOperation → Outcome → Bool
changes (Put i) r = is_ok r
changes (Take i) r = is_ok r
changes (Look i) r = false

abbrev pub act_of : BinOperation → Outcome → Act
act_of o r = act (part_of o) (was_in o r) (changes o r)

-- what an outcome tells of the part
abbrev shown_as : Bool → Outcome
shown_as t = Value (cond t (pos 1) (pos 0))

look_tells : (t u : Bool) → shown_as t ≡ shown_as u → u ≡ t
look_tells true true e = refl
look_tells true false e = cc
look_tells false true e = cc
look_tells false false e = refl

nothing_else : (t : Bool) (v : ℕ) → shown_as t ≡ Value (pos (suc (suc v))) → ⊥
nothing_else true v e = let z : 1 ≡ suc (suc v) = size_is e in omega arith
nothing_else false v e = let z : 0 ≡ suc (suc v) = size_is e in omega arith

nothing_below : (t : Bool) (v : ℕ) → shown_as t ≡ Value (negsuc v) → ⊥
nothing_below true v e = cc
nothing_below false v e = cc

pub tells : {o : BinOperation} {r : Outcome} → Says o r → (n : ℕ) → Right (object_of Bin) (bin_of n) (record { ask = O.Bin o; reply = r }) → Needs (act_of o r) n
tells (put {i}) n h = by_part n i (λ e. absurd (ok_not_fail (sym (rw e at h)))) (λ e. e)
tells (put_failed {i}) n h = by_part n i (λ e. e) (λ e. absurd (ok_not_fail (rw e at h)))
tells (taken {i}) n h = by_part n i (λ e. e) (λ e. absurd (ok_not_fail (sym (rw e at h))))
tells (take_failed {i}) n h = by_part n i (λ e. absurd (ok_not_fail (rw e at h))) (λ e. e)
tells (seen_in {i}) n h = sym (look_tells (is_in n i) true h)
tells (seen_out {i}) n h = sym (look_tells (is_in n i) false h)

right : {o : BinOperation} {r : Outcome} → Says o r → (n : ℕ) → Needs (act_of o r) n → Right (object_of Bin) (bin_of n) (record { ask = O.Bin o; reply = r })
right put n e = rw e
right put_failed n e = rw e
right taken n e = rw e
right take_failed n e = rw e
right seen_in n e = rw e
right seen_out n e = rw e

pub ends : {o : BinOperation} {r : Outcome} → Says o r → (n : ℕ) → Needs (act_of o r) n → (step_of (bin_of n) (O.Bin o)).state ≡ bin_of (ended (act_of o r) n)
ends put n e = rw e
ends put_failed n e = rw e
ends taken n e = rw e
ends take_failed n e = rw e
ends seen_in n e = refl
ends seen_out n e = refl

-- its row, by what it needs and changes
abbrev row : Bool → Bool → ℕ
row false true = 0
row true true = 1
row true false = 2
row false false = 3

abbrev row_of : Act → ℕ
row_of x = row (inside x) (moves x)

record Seen (a : ℕ) (k : ℤ) (o : BinOperation) (r : Outcome) : Type 0 where
  at_row : a ≡ row_of (act_of o r)
  keyed : k ≡ pos (part_of o)
  says : Says o r

abbrev form : {a : ℕ} {k : ℤ} {o : BinOperation} {r : Outcome} → Seen a k o r → Form (object_of Bin) bin_of (record { ask = O.Bin o; reply = r })
form {o} {r} p = record { Need = Needs (act_of o r); end = ended (act_of o r); tells = tells p.says; right = right p.says; ends = ends p.says }

abbrev terms : exactly.Terms Bin
terms = record {
  N = ℕ;
  O = BinOperation;
  make = bin_of;
  ask = O.Bin;
  Seen = Seen;
  form = form;
  witness = parts_for;
}

classed : {o : BinOperation} {r : Outcome} → Says o r → class_of o r ≡ in_row (row_of (act_of o r)) (pos (part_of o))
classed put = refl
classed put_failed = refl
classed taken = refl
classed take_failed = refl
classed seen_in = refl
classed seen_out = refl

seen : {o : BinOperation} {r : Outcome} → Says o r → Seen (row_of (act_of o r)) (pos (part_of o)) o r
seen says = record { at_row = refl; keyed = refl; says = says }

sort : {o : BinOperation} {r : Outcome} → Says o r → exactly.Sorted terms o r
sort {o} {r} says = inl (row_of (act_of o r), pos (part_of o), classed says, seen says)

sorted : (o : BinOperation) (r : Outcome) → exactly.Sorted terms o r
sorted (Put i) Ok = sort put
sorted (Put i) Fail = sort put_failed
sorted (Put i) (Value v) = inr (refl, λ n h. by_part n i (λ e. let fails = rw e at h in cc) (λ e. let ok = rw e at h in cc))
sorted (Take i) Ok = sort taken
sorted (Take i) Fail = sort take_failed
sorted (Take i) (Value v) = inr (refl, λ n h. by_part n i (λ e. let ok = rw e at h in cc) (λ e. let fails = rw e at h in cc))
sorted (Look i) (Value (pos zero)) = sort seen_out
sorted (Look i) (Value (pos (suc zero))) = sort seen_in
sorted (Look i) (Value (pos (suc (suc v)))) = inr (refl, λ n h. nothing_else (is_in n i) v h)
sorted (Look i) (Value (negsuc v)) = inr (refl, λ n h. nothing_below (is_in n i) v h)
sorted (Look i) Ok = inr (refl, λ n h. cc)
sorted (Look i) Fail = inr (refl, λ n h. cc)

-- The table has the request's rule: what needs the same of its part and changes it, on one side or on both, conflicts on the same part.
abbrev ruled : Bool → Bool → Bool → Bool → Bool
ruled b m d l = beq b d && (m || l)

entry_is : (b m d l : Bool) → entry table (row b m) (row d l) ≡ cond (ruled b m d l) IfEqual Pass
unfolding entry
entry_is true true true true = refl
entry_is true true true false = refl
entry_is true true false true = refl
entry_is true true false false = refl
entry_is true false true true = refl
entry_is true false true false = refl
entry_is true false false true = refl
entry_is true false false false = refl
entry_is false true true true = refl
entry_is false true true false = refl
entry_is false true false true = refl
entry_is false true false false = refl
entry_is false false true true = refl
entry_is false false true false = refl
entry_is false false false true = refl
entry_is false false false false = refl

judged_if : (u : Bool) (k l : ℤ) → judge (cond u IfEqual Pass) k l ≡ (u && not (lt_z k l || lt_z l k))
judged_if true k l = refl
judged_if false k l = refl

beq_same : (b d : Bool) → beq b d ≡ true → b ≡ d
beq_same true true e = refl
beq_same true false e = cc
beq_same false true e = cc
beq_same false false e = refl

beq_self : (b : Bool) → beq b b ≡ true
beq_self true = refl
beq_self false = refl

module _ {a a' : ℕ} {k k' : ℤ} {o o' : BinOperation} {r r' : Outcome} (p : Seen a k o r) (q : Seen a' k' o' r') where
  abbrev Ruled : Type 0
  Ruled = (part_of o ≡ part_of o') × (was_in o r ≡ was_in o' r') × ((changes o r || changes o' r') ≡ true)

  judged_is : exactly.judged terms p q
      ≡ (ruled (was_in o r) (changes o r) (was_in o' r') (changes o' r') && not (lt_z (pos (part_of o)) (pos (part_of o')) || lt_z (pos (part_of o')) (pos (part_of o))))
  judged_is =
      rw (p.at_row, p.keyed, q.at_row, q.keyed)
      (ap (λ e. judge e (pos (part_of o)) (pos (part_of o'))) (entry_is (was_in o r) (changes o r) (was_in o' r') (changes o' r'))
      ∙ judged_if (ruled (was_in o r) (changes o r) (was_in o' r') (changes o' r')) (pos (part_of o)) (pos (part_of o')))

  rule_judged : exactly.judged terms p q ≡ true ↔ Ruled
  rule_judged = (
    λ t.
        let both = (and-eq-true_iff _ _).0 (sym judged_is ∙ t) in
        let rule = (and-eq-true_iff _ _).0 both.0 in
        (ap nat_abs (equal_keys (pos (part_of o)) (pos (part_of o')) (sym (not-not _) ∙ ap not both.1)), beq_same (was_in o r) (was_in o' r') rule.0, rule.1),
    λ h. judged_is ∙ rw (h.0, h.1, h.2, beq_self (was_in o' r'), not_below_itself (pos (part_of o'))),
  )

  stands : exactly.Stands terms p q
  stands =
      exactly.tested terms p q (
        λ f n h g.
            cases (same_or (part_of o) (part_of o'))
            (λ e. still_settled (act_of o r) (act_of o' r') n (⊎_elim (λ t. absurd (true≢false (sym (rule_judged.1 (e, sym h ∙ ap (is_in n) e ∙ g, t)) ∙ f))) (λ f. f) (bool_or (changes o r || changes o' r'))) h g)
            (λ other. apart_settled (act_of o r) (act_of o' r') n other h g),
        λ t x y.
            let rule = rule_judged.0 t in
            let first = smallest_needed (act_of o r) in
            let second : Needs (act_of o' r') (smallest (act_of o r)) = rw (← rule.0, ← rule.1) first in
            record {
              has = smallest_has (act_of o r) (part_most_lem x.takes);
              first = first;
              second = second;
              differ = unsettled (act_of o r) (act_of o' r') (smallest (act_of o r)) rule.0 rule.1 rule.2 first second;
              least = λ n e f d. le-leb (smallest (act_of o r)) n (smallest_least (act_of o r) n e);
            },
      )

-- states that nothing tells apart are made of the same: a look at each part says so
pub same : (n m : ℕ) → Alike (object_of Bin) (bin_of n) (bin_of m) → n ≡ m
same n m alike =
    same_parts (n + m) n m (omega (arith, below_power (n + m))) (omega (arith, below_power (n + m)))
    (λ i l. look_tells (is_in m i) (is_in n i) (alike_answers (object_of Bin) (bin_of n) (bin_of m) (O.Bin (Look i)) alike))

made : (t : State) → StateOf Bin t → exactly.Made terms t
made t (bin {n} h) = (n, refl)

placed : (t : State) → exactly.Placed terms t
placed (S.Account a) = inr (λ o. refl)
placed (S.Register v) = inr (λ o. refl)
placed (S.Counter c) = inr (λ o. refl)
placed (S.Bin b) = inl (b.parts, refl)

owned : (o : Operation) → Takes Bin o → exactly.Own terms o
owned o (takes.put {i} h) = (Put i, refl)
owned o (takes.take {i} h) = (Take i, refl)
owned o (takes.look {i} h) = (Look i, refl)

asked : (o : Operation) → exactly.Asked terms o
asked (O.Account o) = inr (λ r. refl)
asked (O.Register o) = inr (λ r. refl)
asked (O.Counter o) = inr (λ r. refl)
asked (O.Bin o) = inl (o, refl)

pub exact : exactly.Exact Bin
exact = exactly.exactly terms same made placed owned asked sorted (λ o r o' r'. refl) (λ a a' k k' o o' r r' p q. stands p q)

-- the rule, of all answers that a bin can give
pub rule : {o o' : BinOperation} {r r' : Outcome} → Says o r → Says o' r'
    → conflict_of Bin (record { operation = O.Bin o; outcome = r }) (record { operation = O.Bin o'; outcome = r' }) ≡ true
    ↔ (part_of o ≡ part_of o') × (was_in o r ≡ was_in o' r') × ((changes o r || changes o' r') ≡ true)
rule x y = rw (classed x, classed y) (rule_judged (seen x) (seen y))

-- What request Q-3 says of bins, of every bin and every part.
use mathlib.Core.Path.{◌≡◌, refl, sym, ap, ◌∙◌}
use mathlib.Core.Bool.{Bool, true, false, ◌||◌}
use mathlib.Core.Logic.{◌↔◌, ◌⊎◌, inl, inr, ⊎_elim}
use Prim.Native.Nat.{ℕ, ◌≤◌, ◌<◌}
use native.Mathlib.Omega.{arith}
use lib.IntN.{nat_abs}
use Rattle.below.proofs.Tests.{bool_or}
use Rattle.kinds.specs.Bin.{opening_most, part_most, bin_of, is_in, part_of}
use Rattle.kinds.specs.Kinds.{step_of, conflict_of}
use Rattle.kinds.specs.Cause.{value_of}
use Rattle.kinds.specs.Witness.{was_in}
use Rattle.kinds.specs.declared.bin.BinOperation.{BinOperation}
use Rattle.kinds.specs.declared.bin.BinOperation.TheVariants.{Put, Take, Look}
use Rattle.kinds.specs.declared.Kind.TheVariants.{Bin}
use Rattle.kinds.specs.declared.Operation.TheVariants as O
use Rattle.kinds.specs.declared.outcome.Outcome.{Outcome}
use Rattle.kinds.specs.declared.Answered.{Answered}
use Rattle.kinds.proofs.Digits.{by_part, put_in, put_others, take_out, take_others, none_beyond, same_parts}
use Rattle.kinds.proofs.bin.Acts.{ended, stays, moves_on}
use Rattle.kinds.proofs.bin.Exact.{Says, put, put_failed, taken, take_failed, seen_in, seen_out, changes, act_of, tells, ends, rule}

-- what an operation on the bin of number n answers, and the number of the bin after it
abbrev pub outcome_at : ℕ → BinOperation → Outcome
outcome_at n o = (step_of (bin_of n) (O.Bin o)).outcome

abbrev pub answer_at : ℕ → BinOperation → Answered
answer_at n o = record { operation = O.Bin o; outcome = outcome_at n o }

abbrev pub after : ℕ → BinOperation → ℕ
after n o = nat_abs (value_of (step_of (bin_of n) (O.Bin o)).state)

-- After a put its part is in, after a take it is out, and after a look it is where it was.
abbrev pub leaves : BinOperation → Bool → Bool
leaves (Put i) b = true
leaves (Take i) b = false
leaves (Look i) b = b

pub part_left : (n : ℕ) (o : BinOperation) → is_in (after n o) (part_of o) ≡ leaves o (is_in n (part_of o))
part_left n (Put i) = by_part n i (λ e. rw e e) (λ e. rw e (put_in n i e))
part_left n (Take i) = by_part n i (λ e. rw e (take_out n i e)) (λ e. rw e e)
part_left n (Look i) = refl

-- Every other part is where it was.
pub others_left : (n : ℕ) (o : BinOperation) (j : ℕ) → (part_of o ≡ j → ⊥) → is_in (after n o) j ≡ is_in n j
others_left n (Put i) j other = by_part n i (λ e. rw e) (λ e. rw e (put_others n i j e other))
others_left n (Take i) j other = by_part n i (λ e. rw e (take_others n i j e other)) (λ e. rw e)
others_left n (Look i) j other = refl

-- A bin has parts 0 to 31 and no other; and bins that have the same of these are the same.
pub no_other_parts : (n i : ℕ) → n ≤ opening_most → part_most < i → is_in n i ≡ false
no_other_parts n i h l = none_beyond n i 32 (omega arith) (omega arith)

pub same_parts_same_bin : (n m : ℕ) → n ≤ opening_most → m ≤ opening_most → ((i : ℕ) → i ≤ part_most → is_in n i ≡ is_in m i) → bin_of n ≡ bin_of m
same_parts_same_bin n m hn hm same = ap bin_of (same_parts 32 n m (omega arith) (omega arith) (λ i l. same i (omega arith)))

-- Two answers conflict exactly when they are on the same part, need the same earlier presence, and at least one changes it.
says_at : (n : ℕ) (o : BinOperation) → Says o (outcome_at n o)
says_at n (Put i) = by_part n i (λ e. rw (e, outcome_at) put_failed) (λ e. rw (e, outcome_at) put)
says_at n (Take i) = by_part n i (λ e. rw (e, outcome_at) taken) (λ e. rw (e, outcome_at) take_failed)
says_at n (Look i) = by_part n i (λ e. rw (e, outcome_at) seen_in) (λ e. rw (e, outcome_at) seen_out)

needed_at : (n : ℕ) (o : BinOperation) → is_in n (part_of o) ≡ was_in o (outcome_at n o)
needed_at n o = tells (says_at n o) n refl

after_is : (n : ℕ) (o : BinOperation) → after n o ≡ ended (act_of o (outcome_at n o)) n
after_is n o = ap (λ s. nat_abs (value_of s)) (ends (says_at n o) n (needed_at n o))

changes_so : (n : ℕ) (o : BinOperation) → changes o (outcome_at n o) ≡ true ↔ (after n o ≡ n → ⊥)
changes_so n o = (
  λ t e. moves_on (act_of o (outcome_at n o)) n (needed_at n o) t (sym (after_is n o) ∙ e),
  λ other. ⊎_elim (λ t. t) (λ f. absurd (other (after_is n o ∙ stays (act_of o (outcome_at n o)) n f))) (bool_or (changes o (outcome_at n o))),
)

either_true : (a b : Bool) → (a || b) ≡ true → (a ≡ true) ⊎ (b ≡ true)
either_true true b t = inl refl
either_true false b t = inr t

true_either : (a b : Bool) → (a ≡ true) ⊎ (b ≡ true) → (a || b) ≡ true
true_either true b t = refl
true_either false true t = refl
true_either false false t = ⊎_elim (λ e. e) (λ e. e) t

pub bins_conflict : (n m : ℕ) (o p : BinOperation) → conflict_of Bin (answer_at n o) (answer_at m p) ≡ true
    ↔ (part_of o ≡ part_of p) × (is_in n (part_of o) ≡ is_in m (part_of p)) × ((after n o ≡ n → ⊥) ⊎ (after m p ≡ m → ⊥))
bins_conflict n m o p =
    let is = rule (says_at n o) (says_at m p) in (
      λ t.
          let h = is.0 t in
          (h.0, needed_at n o ∙ h.1 ∙ sym (needed_at m p), ⊎_elim (λ t. inl ((changes_so n o).0 t)) (λ t. inr ((changes_so m p).0 t)) (either_true _ _ h.2)),
      λ h. is.1 (
        h.0,
        sym (needed_at n o) ∙ h.1 ∙ needed_at m p,
        true_either _ _ (⊎_elim (λ d. inl ((changes_so n o).1 d)) (λ d. inr ((changes_so m p).1 d)) h.2),
      ),
    )

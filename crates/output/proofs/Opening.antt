-- The opening of a file's objects: it is done exactly if they open, and prints only its line where it is refused.
use Prim.Native.Nat.{ℕ, zero, suc, ◌≤◌, ◌<◌}
use mathlib.Core.Path.{◌≡◌, refl, sym, ◌∙◌}
use mathlib.Core.Logic.Iff
use mathlib.Core.Logic.{◌↔◌, ⊎_elim}
use mathlib.Core.Bool.{true, false≢true}
use mathlib.Core.List.{List, [], ◌∷◌, ◌++◌, map}
use native.Mathlib.Omega.{arith}
use lib.ListN.{length, get_or, length-map, get_or-map}
use lib.IntN.{ℤ, pos}
use Rattle.below.proofs.Tests.{le_or, not_so}
use Rattle.below.proofs.Search.{all_at, all_of}
use Rattle.text.specs.Text.{answer_text}
use Rattle.written.specs.Written.{objects_most, joined, Each}
use Rattle.written.specs.declared.Object.{Object}
use Rattle.written.specs.declared.Call.{Call}
use Rattle.refusal.specs.Open.{opens_at, openable}
use Rattle.store.specs.Open.{empty_store, open_of}
use Rattle.refusal.specs.Refusal.{answer_of}
use Rattle.store.specs.Refusal.{reply_of}
use Rattle.store.specs.Calls.{answers_to}
use Rattle.refusal.proofs.Opens.{none, each}
use Rattle.store.proofs.Opens.{open_refused}
use Rattle.output.specs.Output.{call_of, opened_with, answers_from, line_of, Opens}
use Rattle.output.proofs.Lines.{opened_only, opened_run}

-- what holds of each member holds at each place, and the other way round
module _ {A : Type 0} (P : A → Type 0) (past : A) where
  each_at : (xs : List A) → Each P xs → (k : ℕ) → k < length xs → P (get_or xs k past)
  each_at [] e k h = absurd (omega arith)
  each_at (x ∷ xs) e zero h = e.0
  each_at (x ∷ xs) e (suc k) h = each_at xs e.1 k (omega arith)

  each_of : (xs : List A) → ((k : ℕ) → k < length xs → P (get_or xs k past)) → Each P xs
  each_of [] h = tt
  each_of (x ∷ xs) h = (h 0 (omega arith), each_of xs (λ k b. h (suc k) (omega arith)))

with_fact : {A B C : Type 0} → B → A ↔ C → A ↔ (B × C)
with_fact b same = (λ a. (b, same.0 a), λ w. same.1 w.1)

-- what a column has past its end
abbrev zeros : Object
zeros = record { letter = 0; opening = pos 0 }

abbrev pub letters : List Object → List ℕ
letters = map (λ o. o.letter)

abbrev pub openings : List Object → List ℤ
openings = map (λ o. o.opening)

module _ (objects : List Object) where
  count : length (letters objects) ≡ length objects
  count = length-map objects (λ o. o.letter)

  even : length (letters objects) ≡ length (openings objects)
  even = count ∙ sym (length-map objects (λ o. o.opening))

  module _ (few : length objects ≤ objects_most) where
    opens_each : 1 ≤ length objects → (P : Object → Type 0) → ((k : ℕ) → (opens_at (letters objects) (openings objects) k ≡ true) ↔ P (get_or objects k zeros))
        → (openable (letters objects) (openings objects) ≡ true) ↔ Each P objects
    opens_each some P at =
        let same = each (letters objects) (openings objects) even (λ z. omega (arith, count)) (omega (arith, count)) _ refl in (
          λ e. each_of P zeros objects (λ k h. (at k).0 (all_at _ (length (letters objects)) k (same ∙ e) (omega (arith, count)))),
          λ all. sym same ∙ all_of _ (length (letters objects)) (λ k h. (at k).1 (each_at P zeros objects all k (omega (arith, count)))),
        )

    pub opens_exactly : (openable (letters objects) (openings objects) ≡ true) ↔ Opens objects
    opens_exactly =
        ⊎_elim
        (λ some. with_fact (omega arith)
        (opens_each some _
        (λ k. rw (get_or-map (λ (o : Object). o.letter) objects k zeros, get_or-map (λ (o : Object). o.opening) objects k zeros) Iff.rfl)))
        (λ empty. (λ e. absurd (false≢true (none (letters objects) (openings objects) even (omega (arith, count)) ∙ e)), λ o. absurd (omega arith)))
        (le_or 1 (length objects))

    opened_done : Opens objects → reply_of (opened_with objects).store (answer_of 0 (length objects) (pos 0)) ≡ opened_with objects
    unfolding open_of
    opened_done o = rw (opens_exactly.1 o, count)

    module _ (calls : List Call) where
      pub opening_done : Opens objects
          → joined line_of (answers_from (opened_with objects) calls)
          ≡ answer_text 0 (length objects) (pos 0) ++ joined line_of (answers_to (opened_with objects).store (map call_of calls))
      opening_done o =
          opened_run (opened_with objects) (reply_of (opened_with objects).store (answer_of 0 (length objects) (pos 0))) calls (opened_done o) refl

      pub opening_refused : (Opens objects → ⊥) → joined line_of (answers_from (opened_with objects) calls) ≡ answer_text 14 0 (pos 0)
      opening_refused shut =
          opened_only (opened_with objects) (reply_of empty_store (answer_of 14 0 (pos 0))) calls
          (open_refused (letters objects) (openings objects) (not_so (openable (letters objects) (openings objects)) (λ e. shut (opens_exactly.0 e))))
          (λ z. omega arith)

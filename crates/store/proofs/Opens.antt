-- The ways of `open`.
use Prim.Native.Nat.{ℕ}
use mathlib.Core.Path.{◌≡◌, refl, sym}
use mathlib.Core.Bool.{Bool, true, false, true≢false, cond}
use mathlib.Core.Logic.{◌↔◌, ⊎_elim}
use mathlib.Core.List.{List, []}
use native.Mathlib.Omega.{arith}
use lib.IntN.{ℤ, pos}
use lib.ListN.{length, replicate}
use Rattle.below.proofs.Tests.{bool_or}
use Rattle.columns.specs.Column.{rows_most, places_most}
use Rattle.columns.specs.Work.{work, list_in}
use Rattle.columns.proofs.Work.{work_none, only_nil}
use Rattle.store.specs.declared.Store.{Store}
use Rattle.store.specs.Lists.{list_of}
use Rattle.refusal.specs.Open.{openable}
use Rattle.store.specs.Open.{empty_store, opened_store, open_of}
use Rattle.refusal.specs.Refusal.{answer_of}
use Rattle.store.specs.Refusal.{reply_of}

module _ (kinds : List ℕ) (openings : List ℤ) where
  -- the two ways of `open`
  pub open_refused : openable kinds openings ≡ false → reply_of empty_store (answer_of 14 0 (pos 0)) ≡ open_of kinds openings
  unfolding open_of
  open_refused e = rw e

  pub open_done : openable kinds openings ≡ true → reply_of (opened_store kinds openings) (answer_of 0 (length kinds) (pos 0)) ≡ open_of kinds openings
  unfolding open_of
  open_done e = rw e

-- 14 is given exactly when something does not fit, and 0 exactly when all does
pub open_code : (kinds : List ℕ) (openings : List ℤ)
    → (((open_of kinds openings).answer.code ≡ 14) ↔ (openable kinds openings ≡ false)) × (((open_of kinds openings).answer.code ≡ 0) ↔ (openable kinds openings ≡ true))
unfolding open_of
open_code kinds openings = given (openable kinds openings)
  where
    given : (b : Bool)
        → (((cond b (reply_of (opened_store kinds openings) (answer_of 0 (length kinds) (pos 0))) (reply_of empty_store (answer_of 14 0 (pos 0)))).answer.code ≡ 14) ↔ (b ≡ false))
        × (((cond b (reply_of (opened_store kinds openings) (answer_of 0 (length kinds) (pos 0))) (reply_of empty_store (answer_of 14 0 (pos 0)))).answer.code ≡ 0) ↔ (b ≡ true))
    given true = ((λ e. absurd (omega arith), λ e. absurd (true≢false e)), (λ e. refl, λ e. refl))
    given false = ((λ e. refl, λ e. refl), (λ e. absurd (omega arith), λ e. absurd (true≢false (sym e))))

-- what holds of the store that an opening hands back, accepted or not
pub opened_or_empty : (P : Store → Type 0) (kinds : List ℕ) (openings : List ℤ) → (openable kinds openings ≡ true → P (opened_store kinds openings)) → P empty_store
    → P (open_of kinds openings).store
unfolding open_of
opened_or_empty P kinds openings opened empty = ⊎_elim (λ t. rw t (opened t)) (λ f. rw f empty) (bool_or (openable kinds openings))

-- every list is empty at first
pub open_lists : (kinds : List ℕ) (openings : List ℤ) (o u : ℕ) → list_of (open_of kinds openings).store o u ≡ []
open_lists kinds openings o u = opened_or_empty (λ z. list_of z o u ≡ []) kinds openings (λ e. none_listed (replicate places_most 0) (replicate rows_most 0) (replicate rows_most 0) o u)
    (none_listed (replicate places_most 0) (replicate rows_most 0) (replicate rows_most 0) o u)
  where
    none_listed : (order holder object : List ℕ) (o u : ℕ) → list_in (work 0 order) holder object o u ≡ []
    none_listed order holder object o u = rw work_none (only_nil _)

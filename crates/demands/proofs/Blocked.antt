-- A response waits exactly when no refusal comes first and some held step conflicts. Source: document 00, 2.
use Prim.Native.Nat.{ℕ, ◌<◌}
use mathlib.Core.Path.{◌≡◌, sym, ap, ◌∙◌}
use mathlib.Core.Bool.{false}
use mathlib.Core.Logic.{◌↔◌}
use mathlib.Core.List.{[], ◌∷◌}
use native.Mathlib.Omega.{arith}
use lib.ListN.{get_or-append}
use borrow.Author.Tests.{not-false}
use Rattle.store.specs.declared.Store.{Store}
use Rattle.refusal.specs.Refusal.{refuse}
use Rattle.refusal.specs.Exact.{nth, FirstToHold, NoneHolds}
use Rattle.store.specs.Claims.{Blocked, Waits}
use Rattle.store.specs.Respond.{asking_of, wait_for, must_wait, ask_refusals, respond_refusals, respond_of}
use Rattle.store.proofs.Answers.{respond_decided}
use Rattle.store.proofs.Waits.{waits_when, respond_waits}

module _ (s : Store) (t : ℕ) where
  -- what comes before the wait is what asks no object
  asked_first : (i : ℕ) → i < 7 → (nth (respond_refusals s t) i).when ≡ (nth (ask_refusals s t) i).when
  asked_first i h = ap (λ r. r.when) (get_or-append (ask_refusals s t) (must_wait s t (wait_for s t (asking_of s t)) ∷ []) (refuse 0 false) i h)

  waits_blocked : (respond_of s t).answer.code ≡ 13 → NoneHolds (ask_refusals s t) × Blocked s t
  waits_blocked e =
      let first : FirstToHold (respond_refusals s t) 7 = ((respond_decided s t).exactly 7 (omega arith)).0 e in
      let w : Waits s t (respond_of s t).answer = respond_waits s t e in (
        (λ i h. sym (asked_first i (omega (arith, h))) ∙ first.none_earlier i (omega (arith, h))),
        w.blocked,
      )

  pub waits_exactly : ((respond_of s t).answer.code ≡ 13) ↔ (NoneHolds (ask_refusals s t) × Blocked s t)
  waits_exactly = (waits_blocked, blocked_waits)
    where
      blocked_waits : NoneHolds (ask_refusals s t) × Blocked s t → (respond_of s t).answer.code ≡ 13
      blocked_waits (none, b) =
          ((respond_decided s t).exactly 7 (omega arith)).1 (record {
            holds = (waits_when s t b.asking (not-false _ (none 0 (omega arith))) b.asked).1 (b.holder, b.access, b.conflicting);
            none_earlier = λ i h. asked_first i h ∙ none i (omega (arith, h));
          })

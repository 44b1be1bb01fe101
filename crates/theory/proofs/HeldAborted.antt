-- An abort drops what is held at or beneath the aborted, and nothing else.
use Prim.Native.Nat.{ℕ}
use mathlib.Core.Path.{◌≡◌, refl, sym, subst}
use mathlib.Core.List.Memᴰ
use mathlib.Core.List.{List, [], ◌∷◌}
use mathlib.Core.Logic.{◌⊎◌, inl, inr, ◌↔◌}
use native.Mathlib.Omega.{arith}
use Rattle.theory.specs.Serial.{Serial}
use Rattle.theory.specs.History.{◌∈◌, Event, aborted, History, Step, Ordered, AtOrAbove, Aborted}
use Rattle.theory.specs.Accepted.{MayFinish, Accepted}
use Rattle.theory.proofs.Moments.{skip}
use Rattle.theory.proofs.Tree.{above_trans}
use Rattle.theory.proofs.Decide.{dec_above}
use Rattle.theory.proofs.Grow.{above_more, above_less, First, answered_old}
use Rattle.theory.proofs.Held.{Held, Faithful, stays, stays_sorted, held_more, held_back}

module _ {S : Serial} (h : History S) (ok : Accepted h) (t : ℕ) (may : MayFinish h t) where
  to : (u : ℕ) (e : Step S) → ¬ AtOrAbove h t u → Held h u e → Held (aborted t ∷ h) u e
  to u e out i =
      held_more h ok (aborted t) may u e i (λ m. i.uncommitted (skip (λ q. omega arith) m))
      (λ d. go d.0 (above_less (λ q. omega arith) d.1) (Memᴰ.cases_cons d.2))
    where
      go : (w : ℕ) → AtOrAbove h w e.who → (◌≡◌ {A = Event S} (aborted w) (aborted t)) ⊎ Aborted h w → ⊥
      go w a (inl q) = let r : w ≡ t = cc in may.unfinished (inl (i.visible t (subst (λ c. AtOrAbove h c e.who) r a) out))
      go w a (inr m) = i.alive (w, a, m)

  fro : (u : ℕ) (e : Step S) → Held (aborted t ∷ h) u e → Held h u e
  fro u e j = held_back h ok (aborted t) may (λ q. omega arith) u e j (answered_old h ok (aborted t) may (λ q. omega arith) e j.answered)

  gone : (u : ℕ) (e : Step S) → AtOrAbove h t u → Held (aborted t ∷ h) u e → ⊥
  gone u e a j = j.alive (t, above_more (above_trans a (above_less (λ q. omega arith) j.above)), Memᴰ.head refl)

  pub faithful_aborted : (L K : ℕ → List (Step S)) → Faithful h L → ((u : ℕ) → AtOrAbove h t u → K u ≡ []) → ((u : ℕ) → ¬ AtOrAbove h t u → K u ≡ L u)
      → Faithful (aborted t ∷ h) K
  faithful_aborted L K faithful emptied others = record { holds = λ u. hold u (dec_above h ok t u); sorted = λ u. sort u (dec_above h ok t u) }
    where
      hold : (u : ℕ) → Dec (AtOrAbove h t u) → (e : Step S) → (e ∈ K u) ↔ Held (aborted t ∷ h) u e
      hold u (yes a) = λ e. (λ m. absurd (Memᴰ.not-nil (subst (λ c. e ∈ c) (emptied u a) m)), λ j. absurd (gone u e a j))
      hold u (no out) = stays (others u out) (λ e. to u e out) (fro u) (faithful.holds u)

      sort : (u : ℕ) → Dec (AtOrAbove h t u) → Ordered (First (aborted t ∷ h)) (K u)
      sort u (yes a) = subst (λ c. Ordered (First (aborted t ∷ h)) c) (sym (emptied u a)) tt
      sort u (no out) = stays_sorted h (aborted t) (others u out) (faithful.sorted u)

-- A climb by the parents finds what the history says is at or above.
use Prim.Native.Nat.{ℕ, suc, ◌+◌, ◌<◌}
use mathlib.Core.Path.{◌≡◌, refl, sym, ap, subst, ◌∙◌}
use mathlib.Core.Bool.{Bool, true, false, ◌||◌, or-true, false≢true}
use mathlib.Core.Logic.{inl, inr, ⊎_elim, ◌↔◌}
use native.Mathlib.Omega.{arith}
use lib.Dec.{eqb}
use borrow.Author.Tests.{eqb-true, eq-eqb}
use Rattle.below.specs.Climb.{Lower, up_any}
use Rattle.below.proofs.Climb.{climb_ind, up_here, up_stop, up_step, up_next}
use Rattle.below.proofs.Tests.{bool_or, not_so}
use Rattle.theory.specs.Serial.{Serial}
use Rattle.theory.specs.History.{History, AtOrAbove, self, up}
use Rattle.theory.specs.Accepted.{Known, Accepted}
use Rattle.theory.specs.Locking.{ancestor, Tree}
use Rattle.theory.proofs.Tree.{lower, parent_known}

pub tree_lower : {S : Serial} {h : History S} {parent : ℕ → ℕ} → Tree h parent → (n : ℕ) → Lower n parent
tree_lower tree n = record { lower = λ k pos l. tree.lower k pos }

module _ {S : Serial} (h : History S) (ok : Accepted h) (parent : ℕ → ℕ) (tree : Tree h parent) where
  module _ (p : ℕ → Bool) where
    pub up_finds : {u n : ℕ} → AtOrAbove h u n → p u ≡ true → up_any parent p n ≡ true
    up_finds {u} {n} (self q) e = up_here parent p n (subst (λ w. p w ≡ true) q e)
    up_finds {u} {n} (up {p = above} m a) e =
        up_step parent p n (tree_lower tree (n + 1)) (omega (arith, lower h ok m))
        ∙ ap (λ w. p n || up_any parent p w) (tree.created above n m) ∙ ap (λ b. p n || b) (up_finds a e) ∙ or-true (p n)

    abbrev Found : ℕ → Type 0
    Found n = Known h n → up_any parent p n ≡ true → (u : ℕ) × AtOrAbove h u n × (p u ≡ true)

    up_found : (n : ℕ) → Found n
    up_found n = climb_ind parent (suc n) (tree_lower tree (suc n)) Found root step n (omega arith)
      where
        root : Found 0
        root k e = ⊎_elim (λ q. (0, self refl, q)) (λ q. absurd (false≢true (sym (up_stop parent p 0 refl q) ∙ e))) (bool_or (p 0))

        step : (x : ℕ) → 0 < x → x < suc n → Found (parent x) → Found x
        step x pos l above (inl z) e = absurd (let f : ⊥ = omega arith in f)
        step x pos l above (inr (q, m)) e =
            ⊎_elim
            (λ here. (x, self refl, here))
            (λ off.
            let is = tree.created q x m in
            let next = up_next parent p x (tree_lower tree (x + 1)) (λ z. omega arith) off in
            let r = above (subst (λ w. Known h w) (sym is) (parent_known h ok m)) (sym next ∙ e) in
            (r.0, up m (subst (λ w. AtOrAbove h r.0 w) is r.1), r.2))
            (bool_or (p x))

  pub ancestor_above : (n u : ℕ) → Known h n → (ancestor parent n u ≡ true) ↔ AtOrAbove h u n
  ancestor_above n u known = (
    (λ e. let r = up_found (λ y. eqb y u) n known e in subst (λ w. AtOrAbove h w n) (eqb-true r.0 u r.2) r.1),
    (λ a. up_finds (λ y. eqb y u) a (eq-eqb u u refl)),
  )

  pub not_ancestor : (n u : ℕ) → Known h n → ¬ AtOrAbove h u n → ancestor parent n u ≡ false
  not_ancestor n u known out = not_so (ancestor parent n u) (λ e. out ((ancestor_above n u known).0 e))

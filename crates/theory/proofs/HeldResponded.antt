-- A response puts the access on its own list, alone.
use Prim.Native.Nat.{ℕ}
use mathlib.Core.Path.{◌≡◌, refl, sym, ap, subst, ◌∙◌}
use mathlib.Core.List.Memᴰ
use mathlib.Core.List.{List, [], ◌∷◌, ◌++◌}
use mathlib.Core.Logic.{inl, ⊎_elim, ◌↔◌}
use native.Mathlib.Omega.{arith}
use native.Mathlib.Decide.{ℕ_discrete}
use Rattle.theory.specs.Serial.{Serial}
use Rattle.theory.specs.History.{◌∈◌, Event, responded, History, Step, Ordered, AtOrAbove, self}
use Rattle.theory.specs.Accepted.{MayRespond, Accepted}
use Rattle.theory.proofs.Moments.{skip}
use Rattle.theory.proofs.Tree.{above_same, leaf}
use Rattle.theory.proofs.Grow.{above_less, new_step, new_answered, new_or_old, old_apart, First}
use Rattle.theory.proofs.Held.{Held, Faithful, stays, stays_sorted, held_on, held_back}

memberless : {A : Type 0} (l : List A) → ((x : A) → ¬ (x ∈ l)) → l ≡ []
memberless [] none = refl
memberless (x ∷ l) none = absurd (none x (Memᴰ.head refl))

module _ {S : Serial} (h : History S) (ok : Accepted h) (y : ℕ) (v : S.Reply) (may : MayRespond h y) where
  abbrev now : Event S
  now = responded y v

  abbrev new : Step S
  new = new_step v may

  -- an access that is not answered holds nothing
  nothing_held : (e : Step S) → ¬ Held h y e
  nothing_held e i = leaf h ok may.asked.1 (λ q. old_apart may e i.answered (sym q)) i.above

  fro : (u : ℕ) (e : Step S) → ¬ (u ≡ y) → Held (now ∷ h) u e → Held h u e
  fro u e ne i =
      ⊎_elim
      (λ q. absurd (own (ap (λ (s : Step S). s.who) q)))
      (held_back h ok now may (λ q. omega arith) u e i)
      (new_or_old h ok y v may e i.answered)
    where
      -- the new step is on no list but its own
      own : e.who ≡ y → ⊥
      own q =
          let over : AtOrAbove h u y = subst (λ c. AtOrAbove h u c) q (above_less (λ z. omega arith) i.above) in
          may.unfinished (inl (skip (λ z. omega arith) (i.visible y (self (sym q)) (λ a. ne (above_same h ok over (above_less (λ z. omega arith) a))))))

  alone : (e : Step S) → Held (now ∷ h) y e → e ≡ new
  alone e i =
      ⊎_elim
      (λ q. q)
      (λ a. absurd (nothing_held e (held_back h ok now may (λ q. omega arith) y e i a)))
      (new_or_old h ok y v may e i.answered)

  held : Held (now ∷ h) y new
  held =
      record {
        answered = new_answered v may;
        above = self refl;
        visible = λ w b c. absurd (c b);
        uncommitted = λ m. may.unfinished (inl (skip (λ t. omega arith) m));
        alive = λ d. may.alive (d.0, above_less (λ t. omega arith) d.1, skip (λ t. omega arith) d.2);
      }

  pub faithful_responded : (L K : ℕ → List (Step S)) → Faithful h L → K y ≡ L y ++ (new ∷ []) → ((u : ℕ) → ¬ (u ≡ y) → K u ≡ L u) → Faithful (now ∷ h) K
  faithful_responded L K faithful appended others = record { holds = λ u. hold u (ℕ_discrete u y); sorted = λ u. sort u (ℕ_discrete u y) }
    where
      own : K y ≡ new ∷ []
      own = appended ∙ ap (λ l. l ++ (new ∷ [])) (memberless (L y) (λ e m. nothing_held e ((faithful.holds y e).0 m)))

      at_y : (e : Step S) → (e ∈ K y) ↔ Held (now ∷ h) y e
      at_y e = (
        (λ m. subst (λ d. Held (now ∷ h) y d) (sym (Memᴰ.eq_of_singleton (subst (λ c. e ∈ c) own m))) held),
        (λ j. subst (λ c. e ∈ c) (sym own) (Memᴰ.head (alone e j))),
      )

      hold : (u : ℕ) → Dec (u ≡ y) → (e : Step S) → (e ∈ K u) ↔ Held (now ∷ h) u e
      hold u (yes q) = subst (λ c. (e : Step S) → (e ∈ K c) ↔ Held (now ∷ h) c e) (sym q) at_y
      hold u (no ne) = stays (others u ne) (held_on h ok now may (λ q. omega arith) (λ q. omega arith) u) (λ e j. fro u e ne j) (faithful.holds u)

      sort : (u : ℕ) → Dec (u ≡ y) → Ordered (First (now ∷ h)) (K u)
      sort u (yes q) = subst (λ c. Ordered (First (now ∷ h)) c) (sym (ap K q ∙ own)) ((λ z m. absurd (Memᴰ.not-nil m)), tt)
      sort u (no ne) = stays_sorted h now (others u ne) (faithful.sorted u)

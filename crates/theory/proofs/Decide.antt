-- What a history says of one number can be decided, and so there is a function that gives the parent of each.
use Prim.Native.Nat.{ℕ, zero, suc, ◌<◌}
use mathlib.Core.Path.{◌≡◌, refl, sym, ap}
use mathlib.Core.List.Memᴰ
use mathlib.Core.List.{List, [], ◌∷◌}
use mathlib.Core.Logic.{inl, inr, ⊎_elim, dite}
use native.Mathlib.Omega.{arith}
use native.Mathlib.Decide.{ℕ_discrete}
use Rattle.theory.specs.Serial.{Serial}
use Rattle.theory.specs.History.{◌∈◌, Role, Event, created, responded, committed, aborted, History}
use Rattle.theory.specs.History.{Parent, AtOrAbove, self, up, Committed, Aborted, Finished}
use Rattle.theory.specs.Accepted.{Known, Accepted}
use Rattle.theory.specs.Locking.{Tree}
use Rattle.theory.proofs.Moments.{differ, older}
use Rattle.theory.proofs.Tree.{lower, parent_known, one_parent, one_step}

-- membership, where equality with each member can be decided
pub dec_in : {A : Type 0} (x : A) (l : List A) → ((y : A) → y ∈ l → Dec (x ≡ y)) → Dec (x ∈ l)
dec_in x [] same = no (λ m. Memᴰ.not-nil m)
dec_in x (y ∷ l) same = go (same y (Memᴰ.head refl)) (dec_in x l (λ z m. same z (Memᴰ.tail m)))
  where
    go : Dec (x ≡ y) → Dec (x ∈ l) → Dec (x ∈ (y ∷ l))
    go (yes q) d = yes (Memᴰ.head q)
    go (no ne) (yes m) = yes (Memᴰ.tail m)
    go (no ne) (no n) = no (λ m. ⊎_elim ne n (Memᴰ.cases_cons m))

module _ {S : Serial} where
  same_commit : (t : ℕ) (e : Event S) → Dec (committed t ≡ e)
  same_commit t (created n p r) = no (differ (λ q. omega arith))
  same_commit t (responded x v) = no (differ (λ q. omega arith))
  same_commit t (committed u) = dite (ℕ_discrete t u) (λ q. yes (ap committed q)) (λ ne. no (λ q. ne (cc)))
  same_commit t (aborted u) = no (differ (λ q. omega arith))

  same_abort : (t : ℕ) (e : Event S) → Dec (aborted t ≡ e)
  same_abort t (created n p r) = no (differ (λ q. omega arith))
  same_abort t (responded x v) = no (differ (λ q. omega arith))
  same_abort t (committed u) = no (differ (λ q. omega arith))
  same_abort t (aborted u) = dite (ℕ_discrete t u) (λ q. yes (ap aborted q)) (λ ne. no (λ q. ne (cc)))

  pub dec_committed : (h : History S) (t : ℕ) → Dec (Committed h t)
  dec_committed h t = dec_in (committed t) h (λ e m. same_commit t e)

  dec_aborted : (h : History S) (t : ℕ) → Dec (Aborted h t)
  dec_aborted h t = dec_in (aborted t) h (λ e m. same_abort t e)

  pub dec_finished : (h : History S) (t : ℕ) → Dec (Finished h t)
  dec_finished h t = go (dec_committed h t) (dec_aborted h t)
    where
      go : Dec (Committed h t) → Dec (Aborted h t) → Dec (Finished h t)
      go (yes c) d = yes (inl c)
      go (no n) (yes a) = yes (inr a)
      go (no n) (no m) = no (λ f. ⊎_elim n m f)

  abbrev pub HasParent : History S → ℕ → Type 0
  HasParent h n = (p : ℕ) × Parent h p n

  pub dec_parent : (h : History S) (n : ℕ) → Dec (HasParent h n)
  dec_parent [] n = no (λ m. Memᴰ.not-nil m.1.1)
  dec_parent (e ∷ h) n = go e (dec_parent h n)
    where
      more : (e : Event S) → ((p : ℕ) (r : Role S) → ¬ (created n p r ≡ e)) → Dec (HasParent h n) → Dec (HasParent (e ∷ h) n)
      more e ne (yes m) = yes (m.0, (m.1.0, Memᴰ.tail m.1.1))
      more e ne (no m) = no (λ k. m (k.0, (k.1.0, older (ne k.0 k.1.0) k.1.1)))

      go : (e : Event S) → Dec (HasParent h n) → Dec (HasParent (e ∷ h) n)
      go (created m p r) d =
          dite (ℕ_discrete n m)
          (λ q. yes (p, (r, Memᴰ.head (ap (λ k. created k p r) q))))
          (λ ne. more (created m p r) (λ q s i. ne (cc)) d)
      go (responded x v) d = more (responded x v) (λ p r. differ (λ q. omega arith)) d
      go (committed t) d = more (committed t) (λ p r. differ (λ q. omega arith)) d
      go (aborted t) d = more (aborted t) (λ p r. differ (λ q. omega arith)) d

  parent_or0 : (h : History S) (n : ℕ) → Dec (HasParent h n) → ℕ
  parent_or0 h n (yes m) = m.0
  parent_or0 h n (no none) = 0

  -- 0 for a number that was not given
  pub parent_in : History S → ℕ → ℕ
  parent_in h n = parent_or0 h n (dec_parent h n)

  module _ (h : History S) (ok : Accepted h) where
    pub tree_of : Tree h (parent_in h)
    unfolding parent_in parent_or0
    tree_of = record { lower = λ n pos. low n pos (dec_parent h n); created = λ p n m. one p n m (dec_parent h n) }
      where
        low : (n : ℕ) → 0 < n → (d : Dec (HasParent h n)) → parent_or0 h n d < n
        low n pos (yes m) = lower h ok m.1
        low n pos (no none) = pos

        one : (p n : ℕ) → Parent h p n → (d : Dec (HasParent h n)) → parent_or0 h n d ≡ p
        one p n m (yes k) = one_parent h ok k.1 m
        one p n m (no none) = absurd (none (p, m))

    above_within : (f u n : ℕ) → n < f → Dec (AtOrAbove h u n)
    above_within zero u n l = absurd (let z : ⊥ = omega arith in z)
    above_within (suc f) u n l = go (λ p m. above_within f u p (omega (arith, lower h ok m))) (ℕ_discrete u n) (dec_parent h n)
      where
        top : ¬ (u ≡ n) → ¬ HasParent h n → ¬ AtOrAbove h u n
        top ne none (self q) = ne q
        top ne none (up {p = p} m a) = none (p, m)

        over : (p : ℕ) → Parent h p n → ¬ (u ≡ n) → Dec (AtOrAbove h u p) → Dec (AtOrAbove h u n)
        over p m ne (yes a) = yes (up m a)
        over p m ne (no b) = no (λ a. b (one_step h ok m a ne))

        go : ((p : ℕ) → Parent h p n → Dec (AtOrAbove h u p)) → Dec (u ≡ n) → Dec (HasParent h n) → Dec (AtOrAbove h u n)
        go rec (yes q) d = yes (self q)
        go rec (no ne) (yes m) = over m.0 m.1 ne (rec m.0 m.1)
        go rec (no ne) (no none) = no (top ne none)

    pub dec_above : (u n : ℕ) → Dec (AtOrAbove h u n)
    dec_above u n = above_within (suc n) u n (omega arith)

    root_within : (f n : ℕ) → n < f → Known h n → AtOrAbove h 0 n
    root_within zero n l k = absurd (let z : ⊥ = omega arith in z)
    root_within (suc f) n l (inl q) = self (sym q)
    root_within (suc f) n l (inr m) = up m.1 (root_within f m.0 (omega (arith, lower h ok m.1)) (parent_known h ok m.1))

    pub root_above : (n : ℕ) → Known h n → AtOrAbove h 0 n
    root_above n k = root_within (suc n) n (omega arith) k

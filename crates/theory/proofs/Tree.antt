-- The tree that an accepted history grows: each number has one parent, a lower one, and one role; an access has no children and one answer; beneath what
-- has committed all is finished.
use Prim.Native.Nat.{ℕ, ◌<◌, ◌≤◌}
use mathlib.Core.Path.{◌≡◌, refl, sym, subst}
use mathlib.Core.Logic.{◌⊎◌, inl, inr, ⊎_elim, dite}
use native.Mathlib.Omega.{arith}
use native.Mathlib.Decide.{ℕ_discrete}
use Rattle.theory.specs.Serial.{Serial}
use Rattle.theory.specs.History.{◌∈◌, Role, other, access, created, responded, committed, aborted, History}
use Rattle.theory.specs.History.{Parent, AtOrAbove, self, up, Committed, Aborted, Finished, Orphan, Asked}
use Rattle.theory.specs.Accepted.{Known, Accepted}
use Rattle.theory.proofs.Moments.{differ, Within, After, moment, two}

module _ {S : Serial} where
  known_later : {g h : History S} → Within g h → {n : ℕ} → Known g n → Known h n
  known_later s k = ⊎_elim (λ q. inl q) (λ p. inr (p.0, (p.1.0, s _ p.1.1))) k

  pub finished_later : {g h : History S} → Within g h → {t : ℕ} → Finished g t → Finished h t
  finished_later s f = ⊎_elim (λ m. inl (s _ m)) (λ m. inr (s _ m)) f

  pub asked_known : {h : History S} {x : ℕ} {a : S.Ask} → Asked h x a → Known h x
  asked_known {a = a} m = inr (m.0, (access a, m.1))

  pub access_other : (a : S.Ask) → ¬ (◌≡◌ {A = Role S} other (access a))
  access_other a e = let z : ◌≡◌ {A = ℕ} 0 1 = cc in omega arith

  pub above_trans : {h : History S} {u n m : ℕ} → AtOrAbove h u n → AtOrAbove h n m → AtOrAbove h u m
  above_trans {h} {u} a (self q) = subst (λ k. AtOrAbove h u k) q a
  above_trans a (up m b) = up m (above_trans a b)

  -- on the way up from x to p stands a child of p
  pub child : {h : History S} {p x : ℕ} → AtOrAbove h p x → ¬ (p ≡ x) → (c : ℕ) × Parent h p c × AtOrAbove h c x
  child {h} {p} {x} (self q) ne = absurd (ne q)
  child {h} {p} {x} (up {p = q} m a) ne = go (ℕ_discrete p q) (λ z. child a z)
    where
      go : Dec (p ≡ q) → (¬ (p ≡ q) → (c : ℕ) × Parent h p c × AtOrAbove h c q) → (c : ℕ) × Parent h p c × AtOrAbove h c x
      go (yes e) rec = (x, subst (λ w. Parent h w x) (sym e) m, self refl)
      go (no ne) rec = let r = rec ne in (r.0, r.1, up m r.2)

  module _ (h : History S) (ok : Accepted h) where
    pub lower : {n p : ℕ} → Parent h p n → p < n
    lower {n} {p} m = let r = moment h ok (created n p m.0) m.1 in r.allowed.newest p r.allowed.known

    pub parent_known : {n p : ℕ} → Parent h p n → Known h p
    parent_known {n} {p} m = let r = moment h ok (created n p m.0) m.1 in known_later r.within r.allowed.known

    twice : (n p q : ℕ) (r s : Role S) → After h (created n p r) (created n q s) → ⊥
    twice n p q r s (m, k) = let z : n < n = m.allowed.newest n (inr (q, (s, k))) in omega arith

    same_creation : {n p q : ℕ} {r s : Role S} → created n p r ∈ h → created n q s ∈ h → created n p r ≡ created n q s
    same_creation {n} {p} {q} {r} {s} m k =
        ⊎_elim (λ e. e) (⊎_elim (λ a. absurd (twice n p q r s a)) (λ a. absurd (twice n q p s r a))) (two h ok (created n p r) (created n q s) m k)

    pub one_parent : {n p q : ℕ} → Parent h p n → Parent h q n → p ≡ q
    one_parent m k = let e = same_creation m.1 k.1 in cc

    pub one_role : {n p q : ℕ} {r s : Role S} → created n p r ∈ h → created n q s ∈ h → r ≡ s
    one_role m k = let e = same_creation m k in cc

    pub not_both : {t : ℕ} → Committed h t → Aborted h t → ⊥
    not_both {t} m k =
        ⊎_elim
        (differ (λ q. omega arith))
        (⊎_elim (λ a. a.0.allowed.finish.unfinished (inr a.1)) (λ a. a.0.allowed.unfinished (inl a.1)))
        (two h ok (committed t) (aborted t) m k)

    -- beneath a committed transaction all is finished
    pub children_finished : {p c : ℕ} → Committed h p → Parent h p c → Finished h c
    children_finished {p} {c} m k =
        ⊎_elim
        (λ e. absurd (differ (λ q. omega arith) e))
        (⊎_elim
        (λ a. finished_later a.0.within (a.0.allowed.children c (k.0, a.1)))
        (λ a. absurd (a.0.allowed.unfinished (inl a.1))))
        (two h ok (committed p) (created c p k.0) m k.1)

    -- so what is open, with nothing aborted above it, is open all the way up
    pub open_above : {w x : ℕ} → ¬ Orphan h x → ¬ Finished h x → AtOrAbove h w x → ¬ Finished h w
    open_above n f (self q) g = f (subst (λ c. Finished h c) q g)
    open_above n f (up {p = p} m a) g =
        open_above (λ d. n (d.0, up m d.1, d.2)) (⊎_elim (λ c. f (children_finished c m)) (λ b. n (p, up m (self refl), b))) a g

    -- an access has no children
    pub childless : {x c : ℕ} {a : S.Ask} → Asked h x a → Parent h x c → ⊥
    childless {x} {c} {a} m k =
        ⊎_elim
        (λ e. let q : m.0 ≡ x = cc in let z : m.0 < x = lower (access a, m.1) in omega arith)
        (⊎_elim
        (λ i.
        let j = moment i.0.past i.0.accepted (created c x k.0) i.1 in
        let z : x < x = i.0.allowed.newest x (known_later j.within j.allowed.known) in
        omega arith)
        (λ i. i.0.allowed.no_access a (m.0, i.1)))
        (two h ok (created x m.0 (access a)) (created c x k.0) m.1 k.1)

    pub responded_asked : {x : ℕ} {v : S.Reply} → responded x v ∈ h → (a : S.Ask) × Asked h x a
    responded_asked {x} {v} m =
        let r = moment h ok (responded x v) m in
        (r.allowed.asked.0, (r.allowed.asked.1.0, r.within _ r.allowed.asked.1.1))

    -- an access is answered once
    pub one_answer : {x : ℕ} {v w : S.Reply} → responded x v ∈ h → responded x w ∈ h → v ≡ w
    one_answer {x} {v} {w} m k =
        ⊎_elim
        (λ e. cc)
        (⊎_elim (λ a. absurd (a.0.allowed.unanswered w a.1)) (λ a. absurd (a.0.allowed.unanswered v a.1)))
        (two h ok (responded x v) (responded x w) m k)

    no_root : {g : History S} → Within g h → ¬ ((p : ℕ) × Parent g p 0)
    no_root within p = let z : p.0 < 0 = lower (p.1.0, within _ p.1.1) in omega arith

    pub root_open : ¬ Committed h 0
    root_open m = let r = moment h ok (committed 0) m in no_root r.within r.allowed.finish.known

    pub above_le : {u n : ℕ} → AtOrAbove h u n → u ≤ n
    above_le (self q) = omega arith
    above_le (up m a) = omega (arith, lower m, above_le a)

    -- the root is never dropped
    pub root_alive : ¬ Orphan h 0
    root_alive (u, above, dropped) =
        let top : u ≡ 0 = omega (arith, above_le above) in
        let r = moment h ok (aborted 0) (subst (λ t. Aborted h t) top dropped) in
        no_root r.within r.allowed.known

    pub above_same : {u n : ℕ} → AtOrAbove h u n → AtOrAbove h n u → u ≡ n
    above_same a b = omega (arith, above_le a, above_le b)

    pub above_known : {u n : ℕ} → Known h n → AtOrAbove h u n → Known h u
    above_known k (self q) = subst (λ w. Known h w) (sym q) k
    above_known k (up m a) = above_known (parent_known m) a

    pub child_below : {p c : ℕ} → Parent h p c → ¬ AtOrAbove h c p
    child_below m a = let z = lower m in let y = above_le a in omega arith

    -- an access stands above no other
    pub leaf : {x y : ℕ} {a : S.Ask} → Asked h x a → ¬ (x ≡ y) → ¬ AtOrAbove h x y
    leaf s ne i = childless s (child i ne).1

    pub one_step : {u p n : ℕ} → Parent h p n → AtOrAbove h u n → ¬ (u ≡ n) → AtOrAbove h u p
    one_step {u} m (self q) ne = absurd (ne q)
    one_step {u} m (up k a) ne = subst (λ w. AtOrAbove h u w) (one_parent k m) a

    pub comparable : {a b x : ℕ} → AtOrAbove h a x → AtOrAbove h b x → AtOrAbove h a b ⊎ AtOrAbove h b a
    comparable {a} {b} (self q) j = inr (subst (λ w. AtOrAbove h b w) (sym q) j)
    comparable {a} {b} (up m i) (self r) = inl (subst (λ w. AtOrAbove h a w) (sym r) (up m i))
    comparable {a} {b} (up m i) (up k j) = comparable i (subst (λ w. AtOrAbove h b w) (one_parent k m) j)

    sibling_above : {p a b : ℕ} → Parent h p a → Parent h p b → AtOrAbove h a b → a ≡ b
    sibling_above {p} {a} {b} m k i = dite (ℕ_discrete a b) (λ q. q) (λ ne. absurd (child_below m (one_step k i ne)))

    -- of siblings one alone is at or above z
    pub siblings : {p a b z : ℕ} → Parent h p a → Parent h p b → AtOrAbove h a z → AtOrAbove h b z → a ≡ b
    siblings m k i j = ⊎_elim (λ r. sibling_above m k r) (λ r. sym (sibling_above k m r)) (comparable i j)

-- total(s, t) is the work visible to t in finishing order, where nothing at or above t is aborted.
use Prim.Native.Nat.{ℕ, ◌+◌}
use mathlib.Core.Path.{◌≡◌, refl, sym, ap, subst, ◌∙◌}
use mathlib.Core.List.Memᴰ
use mathlib.Core.List.{◌++◌}
use mathlib.Core.Logic.{⊎_elim, dite}
use native.Mathlib.Omega.{arith}
use native.Mathlib.Decide.{ℕ_discrete}
use Rattle.below.proofs.Climb.{climb_root, climb_step}
use Rattle.theory.specs.Serial.{Serial}
use Rattle.theory.specs.History.{◌∈◌, History, Step, Ordered, Parent, AtOrAbove, self, up, Orphan, Answered, Visible, Work}
use Rattle.theory.specs.Accepted.{Known, Accepted}
use Rattle.theory.specs.Locking.{Locking, total, Tree}
use Rattle.theory.proofs.Tree.{lower, open_above, above_le, above_trans, child, one_step}
use Rattle.theory.proofs.Ancestor.{tree_lower}
use Rattle.theory.proofs.Decide.{dec_above, root_above}
use Rattle.theory.proofs.Grow.{answered_known, First}
use Rattle.theory.proofs.Ordered.{ordered_append}
use Rattle.theory.proofs.Visible.{Reaches, reaches, alive_visible, stands_before}
use Rattle.theory.proofs.Held.{Held, Faithful}

module _ {S : Serial} (h : History S) (ok : Accepted h) where
  -- what is held above t stands before what t holds: t is open, and so is all above it
  crossing : (d e : Step S) (u p t : ℕ) → ¬ Orphan h t → Parent h p t → AtOrAbove h u p → Held h u d → Held h t e → First h d e
  crossing d e u p t alive m above j k =
      let b = child (up m above) (λ q. let z = above_le h ok above in let w = lower h ok m in omega arith) in
      let unfinished = open_above h ok alive (⊎_elim k.uncommitted (λ d. alive (t, self refl, d))) b.2 in
      stands_before h ok j.answered.0 j.above j.visible b.1 (above_trans b.2 k.above) unfinished

  module _ (s : Locking S) (lists : Faithful h s.intentions) where
    -- answered work that is not dropped is on the list of the lowest uncommitted at or above it
    pub on_some : (e : Step S) → Answered h e → ¬ Orphan h e.who → (u : ℕ) × Held h u e × (e ∈ s.intentions u)
    on_some e a n =
        let r : Reaches h ok e.who = reaches h ok (root_above h ok e.who (answered_known a)) in
        let j : Held h r.holder e = record { answered = a; above = r.above; visible = r.visible; uncommitted = r.uncommitted; alive = n } in
        (r.holder, j, (lists.holds r.holder e).1 j)

    module _ (parent : ℕ → ℕ) (tree : Tree h parent) where
      total_root : total parent s 0 ≡ s.intentions 0
      total_root = climb_root parent (s.intentions 0) _

      total_child : (p t : ℕ) → Parent h p t → total parent s t ≡ total parent s p ++ s.intentions t
      total_child p t m =
          climb_step parent (s.intentions 0) _ t (tree_lower tree (t + 1)) (omega (arith, lower h ok m))
          ∙ ap (λ w. total parent s w ++ s.intentions t) (tree.created p t m)

      on_list : (e : Step S) (t : ℕ) → AtOrAbove h 0 t → e ∈ total parent s t → (u : ℕ) × AtOrAbove h u t × (e ∈ s.intentions u)
      on_list e t (self q) m = (0, self q, subst (λ c. e ∈ c) (ap (total parent s) (sym q) ∙ total_root) m)
      on_list e t (up {p = p} k a) m =
          ⊎_elim
          (λ j. let r = on_list e p a j in (r.0, up k r.1, r.2))
          (λ j. (t, self refl, j))
          (Memᴰ.append_cases (total parent s p) (subst (λ c. e ∈ c) (total_child p t k) m))

      in_total : (e : Step S) (t u : ℕ) → AtOrAbove h 0 t → AtOrAbove h u t → e ∈ s.intentions u → e ∈ total parent s t
      in_total e t u (self q) b m =
          let z : u ≡ 0 = omega (arith, above_le h ok b) in
          subst (λ c. e ∈ c) (sym (ap (total parent s) (sym q) ∙ total_root)) (subst (λ c. e ∈ s.intentions c) z m)
      in_total e t u (up {p = p} k a) b m = subst (λ c. e ∈ c) (sym (total_child p t k)) (go (λ c. in_total e p u a c m) (ℕ_discrete u t))
        where
          go : (AtOrAbove h u p → e ∈ total parent s p) → Dec (u ≡ t) → e ∈ (total parent s p ++ s.intentions t)
          go rec (yes q) = Memᴰ.append_right (total parent s p) (subst (λ c. e ∈ s.intentions c) q m)
          go rec (no ne) = Memᴰ.append_left (s.intentions t) (rec (one_step h ok k b ne))

      total_ordered : (t : ℕ) → AtOrAbove h 0 t → ¬ Orphan h t → Ordered (First h) (total parent s t)
      total_ordered t (self q) alive = subst (λ c. Ordered (First h) c) (sym (ap (total parent s) (sym q) ∙ total_root)) (lists.sorted 0)
      total_ordered t (up {p = p} k a) alive =
          subst (λ c. Ordered (First h) c) (sym (total_child p t k))
          (ordered_append (total parent s p) (s.intentions t)
          (total_ordered p a (λ d. alive (d.0, up k d.1, d.2)))
          (lists.sorted t)
          (λ d e m j.
          let r = on_list d p a m in
          crossing d e r.0 p t alive k r.1 ((lists.holds r.0 d).0 r.2) ((lists.holds t e).0 j)))

      module _ (t : ℕ) (known : Known h t) (alive : ¬ Orphan h t) where
        seen : (e : Step S) → e ∈ total parent s t → Answered h e × Visible h e.who t
        seen e m =
            let r = on_list e t (root_above h ok t known) m in
            let j = (lists.holds r.0 e).0 r.2 in
            (j.answered, λ w a b. j.visible w a (λ c. b (above_trans c r.1)))

        taken : (e : Step S) → Answered h e → Visible h e.who t → e ∈ total parent s t
        taken e a v =
            let r = on_some e a (alive_visible h ok v alive) in
            dite (dec_above h ok r.0 t)
            (λ above. in_total e t r.0 (root_above h ok t known) above r.2)
            (λ n. absurd (r.1.uncommitted (v r.0 r.1.above n)))

        pub total_work : Work h t (total parent s t)
        total_work = record { has = λ e. (seen e, λ r. taken e r.0 r.1); ordered = total_ordered t (root_above h ok t known) alive }

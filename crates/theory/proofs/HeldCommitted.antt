-- A commit makes what the committed holds its parent's, after what the parent holds.
use Prim.Native.Nat.{ℕ}
use mathlib.Core.Path.{◌≡◌, refl, sym, ap, subst, ◌∙◌}
use mathlib.Core.List.Memᴰ
use mathlib.Core.List.{List, [], ◌∷◌, ◌++◌}
use mathlib.Core.Logic.{◌⊎◌, inl, inr, ⊎_elim, ◌↔◌}
use native.Mathlib.Omega.{arith}
use native.Mathlib.Decide.{ℕ_discrete}
use Rattle.theory.specs.Serial.{Serial}
use Rattle.theory.specs.History.{◌∈◌, committed, History, Step, Ordered, Parent, AtOrAbove, self, up, Committed, Orphan, Answered}
use Rattle.theory.specs.Accepted.{MayCommit, Accepted}
use Rattle.theory.proofs.Moments.{skip}
use Rattle.theory.proofs.Tree.{lower, children_finished, above_trans, above_same, one_step, comparable}
use Rattle.theory.proofs.Decide.{dec_above}
use Rattle.theory.proofs.Grow.{above_more, above_less, alive_less, before_more, First, first_more, answered_more, answered_old}
use Rattle.theory.proofs.Visible.{stands_before}
use Rattle.theory.proofs.Held.{Held, Faithful, stays, stays_sorted, held_more, held_less}
use Rattle.theory.proofs.Ordered.{ordered_append}

module _ {S : Serial} (h : History S) (ok : Accepted h) (t : ℕ) (may : MayCommit h t) (top : ℕ) (under : Parent h top t) where
  abbrev after : History S
  after = committed t ∷ h

  top_open : ¬ Committed h top
  top_open c = may.finish.unfinished (children_finished h ok c under)

  -- committed now, or before
  newly : {w : ℕ} → Committed after w → (w ≡ t) ⊎ Committed h w
  newly {w} m = ⊎_elim (λ e. inl (cc)) (λ k. inr k) (Memᴰ.cases_cons m)

  kept : {x : ℕ} → ¬ Orphan h x → ¬ Orphan after x
  kept n d = n (d.0, above_less (λ q. omega arith) d.1, skip (λ q. omega arith) d.2)

  answered_less : (e : Step S) → Answered after e → Answered h e
  answered_less e a = answered_old h ok (committed t) may (λ q. omega arith) e a

  to : (u : ℕ) (e : Step S) → ¬ (u ≡ t) → Held h u e → Held after u e
  to u e ne i = held_more h ok (committed t) may u e i (λ m. ⊎_elim (λ q. ne q) (λ k. i.uncommitted k) (newly m)) (kept i.alive)

  -- t's work becomes its parent's
  passed_up : (e : Step S) → Held h t e → Held after top e
  passed_up e i =
      record {
        answered = answered_more i.answered;
        above = above_more (above_trans (up under (self refl)) i.above);
        visible = λ w a b. go w (above_less (λ q. omega arith) a) (λ c. b (above_more c)) (ℕ_discrete w t);
        uncommitted = λ m. ⊎_elim (λ q. let l = lower h ok under in omega arith) (λ k. top_open k) (newly m);
        alive = kept i.alive;
      }
    where
      go : (w : ℕ) → AtOrAbove h w e.who → ¬ AtOrAbove h w top → Dec (w ≡ t) → Committed after w
      go w a n (yes q) = Memᴰ.head (ap committed q)
      go w a n (no ne) = Memᴰ.tail (i.visible w a (λ b. n (one_step h ok under b ne)))

  -- a list that t's commit does not reach
  fro : (u : ℕ) (e : Step S) → (AtOrAbove h t e.who → ¬ AtOrAbove h t u → ⊥) → Held after u e → Held h u e
  fro u e out i =
      held_less h ok (committed t) may u e i (answered_less e i.answered)
      (λ w a b m.
      ⊎_elim (λ q. absurd (out (subst (λ c. AtOrAbove h c e.who) q a) (λ d. b (subst (λ c. AtOrAbove h c u) (sym q) d)))) (λ k. k) (newly m))

  came_up : (e : Step S) → AtOrAbove h t e.who → Held after top e → Held h t e
  came_up e a i =
      record {
        answered = answered_less e i.answered;
        above = a;
        visible = λ w b n.
            ⊎_elim (λ q. absurd (n (self q))) (λ k. k) (newly (i.visible w (above_more b) (λ c. n (up under (above_less (λ q. omega arith) c)))));
        uncommitted = λ m. may.finish.unfinished (inl m);
        alive = alive_less i.alive;
      }

  -- t is not on the way from another list's work up to its holder
  elsewhere : (u : ℕ) (e : Step S) → ¬ (u ≡ t) → ¬ (u ≡ top) → Held after u e → AtOrAbove h t e.who → ¬ AtOrAbove h t u → ⊥
  elsewhere u e ne np i a n = ⊎_elim n over (comparable h ok a (above_less (λ q. omega arith) i.above))
    where
      over : AtOrAbove h u t → ⊥
      over b =
          let c : AtOrAbove h u top = one_step h ok under b ne in
          let top_above : AtOrAbove after top e.who = above_more (above_trans (up under (self refl)) a) in
          ⊎_elim
          (λ q. let l = lower h ok under in omega arith)
          (λ k. top_open k)
          (newly (i.visible top top_above (λ d. np (above_same h ok c (above_less (λ q. omega arith) d)))))

  -- the parent's earlier work stands before t's
  crossing : (d e : Step S) → Held h top d → Held h t e → First after d e
  crossing d e i j = before_more d.who e.who (stands_before h ok i.answered.0 i.above i.visible under j.above may.finish.unfinished)

  module _ (L K : ℕ → List (Step S)) (faithful : Faithful h L) (emptied : K t ≡ []) (appended : K top ≡ L top ++ L t)
      (others : (u : ℕ) → ¬ (u ≡ t) → ¬ (u ≡ top) → K u ≡ L u) where
    at_top : (e : Step S) → (e ∈ K top) ↔ Held after top e
    at_top e = (
      (λ m. to_top (Memᴰ.append_cases (L top) (subst (λ c. e ∈ c) appended m))),
      (λ j. subst (λ c. e ∈ c) (sym appended) (from_top j (dec_above h ok t e.who))),
    )
      where
        to_top : (e ∈ L top) ⊎ (e ∈ L t) → Held after top e
        to_top (inl m) = to top e (λ q. let l = lower h ok under in omega arith) ((faithful.holds top e).0 m)
        to_top (inr m) = passed_up e ((faithful.holds t e).0 m)

        from_top : Held after top e → Dec (AtOrAbove h t e.who) → e ∈ (L top ++ L t)
        from_top j (yes a) = Memᴰ.append_right (L top) ((faithful.holds t e).1 (came_up e a j))
        from_top j (no n) = Memᴰ.append_left (L t) ((faithful.holds top e).1 (fro top e (λ a. absurd (n a)) j))

    hold : (u : ℕ) → Dec (u ≡ t) → Dec (u ≡ top) → (e : Step S) → (e ∈ K u) ↔ Held after u e
    hold u (yes q) d = λ e. (
      (λ m. absurd (Memᴰ.not-nil (subst (λ c. e ∈ c) (ap K q ∙ emptied) m))),
      (λ j. absurd (j.uncommitted (Memᴰ.head (ap committed q)))),
    )
    hold u (no ne) (yes q) = subst (λ c. (e : Step S) → (e ∈ K c) ↔ Held after c e) (sym q) at_top
    hold u (no ne) (no np) = stays (others u ne np) (λ e. to u e ne) (λ e j. fro u e (elsewhere u e ne np j) j) (faithful.holds u)

    sort : (u : ℕ) → Dec (u ≡ t) → Dec (u ≡ top) → Ordered (First after) (K u)
    sort u (yes q) d = subst (λ c. Ordered (First after) c) (sym (ap K q ∙ emptied)) tt
    sort u (no ne) (yes q) =
        subst (λ c. Ordered (First after) c) (sym (ap K q ∙ appended))
        (ordered_append (L top) (L t)
        (first_more h (committed t) (L top) (faithful.sorted top))
        (first_more h (committed t) (L t) (faithful.sorted t))
        (λ d e m k. crossing d e ((faithful.holds top d).0 m) ((faithful.holds t e).0 k)))
    sort u (no ne) (no np) = stays_sorted h (committed t) (others u ne np) (faithful.sorted u)

    pub faithful_committed : Faithful after K
    faithful_committed = record { holds = λ u. hold u (ℕ_discrete u t) (ℕ_discrete u top); sorted = λ u. sort u (ℕ_discrete u t) (ℕ_discrete u top) }

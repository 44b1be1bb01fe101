-- What each answered access saw: the work that was visible to it when it was answered. Kept as the history grows.
use Prim.Native.Nat.{ℕ}
use mathlib.Core.Path.{◌≡◌, refl, sym, ap, subst, ◌∙◌}
use mathlib.Core.List.Memᴰ
use mathlib.Core.List.{List, [], ◌∷◌}
use mathlib.Core.Logic.{◌⊎◌, inl, inr, ⊎_elim, ite, if_pos, if_neg}
use native.Mathlib.Decide.{ℕ_discrete}
use Rattle.theory.specs.Serial.{Serial, Op, Right, run}
use Rattle.theory.specs.History.{◌∈◌, Event, responded, History, Step, ops, Ordered, Orphan, Answered, Visible, Before, Work}
use Rattle.theory.specs.Accepted.{MayRespond, Allowed, Accepted}
use Rattle.theory.proofs.Moments.{tag}
use Rattle.theory.proofs.Grow.{alive_less, before_more, First, first_more, answered_known, answered_more, answered_old, visible_more, visible_trans}
use Rattle.theory.proofs.Grow.{new_step, new_or_old, old_apart}
use Rattle.theory.proofs.Tree.{open_above}
use Rattle.theory.proofs.Visible.{visible_before}

module _ (S : Serial) (opening : S.State) (Pass : Op S → Op S → Type 0) where
  -- the reply v to x is right after the work visible to x, and passes all other that is not dropped
  pub record Fair (h : History S) (x : ℕ) (v : S.Reply) (may : MayRespond h x) : Type 0 where
    pub work : List (Step S)
    pub exact : Work h x work
    pub right : Right S (run S opening (ops work)) (new_step v may).did
    pub passes : (e : Step S) → Answered h e → ¬ Orphan h e.who → (e ∈ work) ⊎ Pass e.did (new_step v may).did

  pub record Seen (h : History S) : Type 0 where
    -- what each saw
    pub by : ℕ → List (Step S)
    pub earlier : (e f : Step S) → Answered h f → e ∈ by f.who → Answered h e × Visible h e.who f.who × Before h e.who f.who
    pub closed : (d e f : Step S) → Answered h f → e ∈ by f.who → d ∈ by e.who → d ∈ by f.who
    pub sorted : (f : Step S) → Answered h f → Ordered (First h) (by f.who)
    pub right : (f : Step S) → Answered h f → Right S (run S opening (ops (by f.who))) f.did
    -- of any two that are not dropped one saw the other, or they pass
    pub either : (e f : Step S) → Answered h e → Answered h f → ¬ Orphan h e.who → ¬ Orphan h f.who → ¬ (e.who ≡ f.who)
        → (e ∈ by f.who) ⊎ (f ∈ by e.who) ⊎ Pass e.did f.did

  pub seen_start : Seen []
  seen_start =
      record {
        by = λ x. [];
        earlier = λ e f a. absurd (Memᴰ.not-nil a.1);
        closed = λ d e f a. absurd (Memᴰ.not-nil a.1);
        sorted = λ f a. absurd (Memᴰ.not-nil a.1);
        right = λ f a. absurd (Memᴰ.not-nil a.1);
        either = λ e f a. absurd (Memᴰ.not-nil a.1);
      }

  module _ (h : History S) (ok : Accepted h) (c : Event S) (may : Allowed h c) (seen : Seen h) where
    earlier_more : (e f : Step S) → Answered h f → e ∈ seen.by f.who
        → Answered (c ∷ h) e × Visible (c ∷ h) e.who f.who × Before (c ∷ h) e.who f.who
    earlier_more e f a m =
        let r = seen.earlier e f a m in
        (answered_more r.0, visible_more h ok c may (answered_known r.0) r.1, before_more e.who f.who r.2)

    -- a call that answers nothing
    pub seen_more : ¬ (1 ≡ tag c) → Seen (c ∷ h)
    seen_more ne =
        record {
          by = seen.by;
          earlier = λ e f a. earlier_more e f (old f a);
          closed = λ d e f a. seen.closed d e f (old f a);
          sorted = λ f a. first_more h c (seen.by f.who) (seen.sorted f (old f a));
          right = λ f a. seen.right f (old f a);
          either = λ e f a b m n. seen.either e f (old e a) (old f b) (alive_less m) (alive_less n);
        }
      where
        old : (e : Step S) → Answered (c ∷ h) e → Answered h e
        old e a = answered_old h ok c may ne e a

  module _ (turned : (p q : Op S) → Pass p q → Pass q p)
      (h : History S) (ok : Accepted h) (x : ℕ) (v : S.Reply) (may : MayRespond h x) (fair : Fair h x v may) (seen : Seen h) where
    abbrev new : Step S
    new = new_step v may

    abbrev after : History S
    after = responded x v ∷ h

    next : ℕ → List (Step S)
    next z = ite (ℕ_discrete z x) fair.work (seen.by z)

    at_new : next x ≡ fair.work
    unfolding next
    at_new = if_pos (ℕ_discrete x x) refl fair.work (seen.by x)

    at_old : (e : Step S) → Answered h e → next e.who ≡ seen.by e.who
    unfolding next
    at_old e a = if_neg (ℕ_discrete e.who x) (old_apart may e a) fair.work (seen.by e.who)

    -- what holds of the new step and what it saw, and of each old one, holds of all
    by_cases : (P : Step S → List (Step S) → Type 0) → P new fair.work → ((f : Step S) → Answered h f → P f (seen.by f.who))
        → (f : Step S) → Answered after f → P f (next f.who)
    by_cases P here old f a =
        ⊎_elim
        (λ q. subst (λ (s : Step S). P s (next s.who)) (sym q) (subst (λ l. P new l) (sym at_new) here))
        (λ b. subst (λ l. P f l) (sym (at_old f b)) (old f b))
        (new_or_old h ok x v may f a)

    to_old : {d : Step S} (e : Step S) → Answered h e → d ∈ next e.who → d ∈ seen.by e.who
    to_old {d} e a m = subst (λ l. d ∈ l) (at_old e a) m

    from_old : {d : Step S} (e : Step S) → Answered h e → d ∈ seen.by e.who → d ∈ next e.who
    from_old {d} e a m = subst (λ l. d ∈ l) (sym (at_old e a)) m

    before : (e : Step S) → Answered h e → Visible h e.who x → Before h e.who x
    before e a w =
        visible_before h ok e x may.asked.0 a may.asked.1 (old_apart may e a) (λ u. open_above h ok may.alive may.unfinished) w

    earlier_new : (e : Step S) → e ∈ fair.work → Answered after e × Visible after e.who x × Before after e.who x
    earlier_new e m =
        let r = (fair.exact.has e).0 m in (
          answered_more r.0,
          visible_more h ok (responded x v) may (answered_known r.0) r.1,
          before_more e.who x (before e r.0 r.1),
        )

    -- e was answered before, and so was what it saw
    through : (d e : Step S) (z : ℕ) → Answered h e → Visible h e.who z → d ∈ seen.by e.who → Answered h d × Visible h d.who z
    through d e z b w k = let r = seen.earlier d e b k in (r.0, visible_trans h ok r.1 w)

    beside : (e : Step S) → Answered h e → ¬ Orphan after e.who → (e ∈ next x) ⊎ Pass e.did new.did
    beside e a n = ⊎_elim (λ m. inl (subst (λ l. e ∈ l) (sym at_new) m)) (λ p. inr p) (fair.passes e a (alive_less n))

    either_next : (e f : Step S) → Answered after e → Answered after f → ¬ Orphan after e.who → ¬ Orphan after f.who → ¬ (e.who ≡ f.who)
        → (e ∈ next f.who) ⊎ (f ∈ next e.who) ⊎ Pass e.did f.did
    either_next e f a b m n ne = go (new_or_old h ok x v may e a) (new_or_old h ok x v may f b)
      where
        go : (e ≡ new) ⊎ Answered h e → (f ≡ new) ⊎ Answered h f → (e ∈ next f.who) ⊎ (f ∈ next e.who) ⊎ Pass e.did f.did
        go (inl q) (inl r) = absurd (ne (ap (λ (s : Step S). s.who) (q ∙ sym r)))
        go (inl q) (inr s) =
            ⊎_elim
            (λ k. inr (inl (subst (λ (z : Step S). f ∈ next z.who) (sym q) k)))
            (λ k. inr (inr (subst (λ (z : Step S). Pass z.did f.did) (sym q) (turned f.did new.did k))))
            (beside f s n)
        go (inr s) (inl r) =
            ⊎_elim
            (λ k. inl (subst (λ (z : Step S). e ∈ next z.who) (sym r) k))
            (λ k. inr (inr (subst (λ (z : Step S). Pass e.did z.did) (sym r) k)))
            (beside e s m)
        go (inr s) (inr r) =
            ⊎_elim
            (λ k. inl (from_old f r k))
            (λ k. inr (⊎_elim (λ j. inl (from_old e s j)) (λ j. inr j) k))
            (seen.either e f s r (alive_less m) (alive_less n) ne)

    -- a response
    pub seen_next : Seen after
    seen_next =
        record {
          by = next;
          earlier = λ e.
              by_cases (λ f l. e ∈ l → Answered after e × Visible after e.who f.who × Before after e.who f.who)
              (earlier_new e)
              (λ f b. earlier_more h ok (responded x v) may seen e f b);
          closed = λ d e.
              by_cases (λ f l. e ∈ l → d ∈ next e.who → d ∈ l)
              (λ m k. let r = (fair.exact.has e).0 m in (fair.exact.has d).1 (through d e x r.0 r.1 (to_old e r.0 k)))
              (λ f b m k. seen.closed d e f b m (to_old e (seen.earlier e f b m).0 k));
          sorted =
              by_cases (λ f l. Ordered (First after) l)
              (first_more h (responded x v) fair.work fair.exact.ordered)
              (λ f b. first_more h (responded x v) (seen.by f.who) (seen.sorted f b));
          right = by_cases (λ f l. Right S (run S opening (ops l)) f.did) fair.right seen.right;
          either = either_next;
        }

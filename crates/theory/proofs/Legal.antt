-- The work visible to t, in finishing order, is a behaviour: each of it comes after what it saw, and swaps with the rest.
use Prim.Native.Nat.{ℕ}
use mathlib.Core.Path.{◌≡◌, sym, ap, subst}
use mathlib.Core.List.Memᴰ
use mathlib.Core.List.{List, []}
use mathlib.Core.Logic.{inl, inr, ⊎_elim, dite}
use native.Mathlib.Decide.{ℕ_discrete}
use Rattle.theory.specs.Serial.{Serial, Op, Right, Legal}
use Rattle.theory.specs.History.{◌∈◌, History, Step, ops, Ordered, Orphan, Answered, Work}
use Rattle.theory.specs.Accepted.{Accepted}
use Rattle.theory.proofs.Behaviour.{SwapAlways, onto, onto_in, in_onto, onto_run, onto_legal}
use Rattle.theory.proofs.Good.{Good, good_onto}
use Rattle.theory.proofs.Arrange.{Seeing, arranged}
use Rattle.theory.proofs.Decide.{dec_in}
use Rattle.theory.proofs.Grow.{First, same_step, visible_trans}
use Rattle.theory.proofs.Before.{before_asym}
use Rattle.theory.proofs.Visible.{alive_visible}
use Rattle.theory.proofs.Seen.{Seen}

module _ (S : Serial) (opening : S.State) (Pass : Op S → Op S → Type 0) (swaps : (p q : Op S) → Pass p q → SwapAlways S p q)
    (h : History S) (ok : Accepted h) (seen : Seen S opening Pass h) where
  abbrev Ok : Step S → Type 0
  Ok e = Answered h e × (¬ Orphan h e.who)

  abbrev did : Step S → Op S
  did e = e.did

  -- what z saw, the latest first
  abbrev saw : Step S → List (Step S)
  saw z = onto (seen.by z.who) []

  in_saw : {x : Step S} (z : Step S) → x ∈ saw z → x ∈ seen.by z.who
  in_saw {x} z m = ⊎_elim (λ k. k) (λ k. absurd (Memᴰ.not-nil k)) (onto_in (seen.by z.who) [] x m)

  saw_in : {x : Step S} (z : Step S) → x ∈ seen.by z.who → x ∈ saw z
  saw_in {x} z m = in_onto (seen.by z.who) [] x (inl m)

  -- a list in finishing order that has all that its members saw
  good : (l : List (Step S)) → Ordered (First h) l → ((e : Step S) → e ∈ l → Ok e)
      → ((e f : Step S) → f ∈ l → e ∈ seen.by f.who → e ∈ l) → Good Ok saw (onto l [])
  good l o k c =
      good_onto Ok saw (First h) (λ d e. before_asym h ok d.who e.who) l [] tt k o
      (λ x y m. absurd (Memᴰ.not-nil m))
      (λ z x m n. let j = in_saw z n in ((seen.earlier x z (k z m).0 j).2, inr (c x z m j)))

  same_or_not : (e f : Step S) → Answered h e → Answered h f → Dec (e ≡ f)
  same_or_not e f a b = dite (ℕ_discrete e.who f.who) (λ q. yes (same_step h ok e f a b q)) (λ ne. no (λ q. ne (ap (λ d. d.who) q)))

  seeing : Seeing S opening did Ok saw
  seeing =
      record {
        right = λ z k. subst (λ s. Right S s z.did) (sym (onto_run S did opening (seen.by z.who) [])) (seen.right z k.0);
        good = λ z k.
            good (seen.by z.who) (seen.sorted z k.0)
            (λ e m. let r = seen.earlier e z k.0 m in (r.0, alive_visible h ok r.1 k.1))
            (λ e f m n. seen.closed e f z k.0 m n);
        either = λ x y a b ne.
            ⊎_elim
            (λ m. inl (saw_in y m))
            (λ r. inr (⊎_elim (λ m. inl (saw_in x m)) (λ p. inr (swaps x.did y.did p)) r))
            (seen.either x y a.0 b.0 a.1 b.1 (λ q. ne (same_step h ok x y a.0 b.0 q)));
        has = λ x z a b. dec_in x (saw z) (λ f m. same_or_not x f a.0 (seen.earlier f z b.0 (in_saw z m)).0);
      }

  pub work_legal : (t : ℕ) → ¬ Orphan h t → (l : List (Step S)) → Work h t l → Legal S opening (ops l)
  work_legal t alive l w =
      (onto_legal S did opening l []
      (arranged S opening did Ok saw seeing (onto l [])
      (good l w.ordered
      (λ e m. let r = (w.has e).0 m in (r.0, alive_visible h ok r.1 alive))
      (λ e f m n.
      let r = (w.has f).0 m in
      let q = seen.earlier e f r.0 n in
      (w.has e).1 (q.0, visible_trans h ok q.1 r.1))))
      ).0

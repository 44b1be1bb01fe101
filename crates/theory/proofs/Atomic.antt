-- The locking object is dynamic atomic: the paper's Theorem 5, with what goes with it. Its total is the visible work, and is a behaviour.
use Prim.Native.Nat.{ℕ}
use mathlib.Core.Path.{sym, subst}
use mathlib.Core.List.Memᴰ
use mathlib.Core.List.{List, [], ◌∷◌, ◌++◌}
use mathlib.Core.Logic.{inl, inr, ⊎_elim, dite}
use native.Mathlib.Decide.{ℕ_discrete}
use Rattle.theory.specs.Serial.{Serial, Op, Right, Legal, run, Swaps, Commute}
use Rattle.theory.specs.History.{History, Step, ops, AtOrAbove, self, up, Orphan, Work}
use Rattle.theory.specs.Accepted.{Known, Accepted}
use Rattle.theory.specs.Locking.{Locking, total, Tree, Runs}
use Rattle.theory.specs.Atomic.{Serializes}
use Rattle.theory.proofs.Alike.{alike_sym}
use Rattle.theory.proofs.Tree.{root_open}
use Rattle.theory.proofs.Decide.{dec_parent, parent_in, tree_of, root_above}
use Rattle.theory.proofs.Grow.{answered_known}
use Rattle.theory.proofs.Behaviour.{legal_more}
use Rattle.theory.proofs.Before.{work_unique}
use Rattle.theory.proofs.Legal.{work_legal}
use Rattle.theory.proofs.Total.{total_work}
use Rattle.theory.proofs.Invariant.{invariant}

-- to a number that was not given nothing is visible
unknown_work : {S : Serial} (h : History S) → Accepted h → (t : ℕ) → ¬ Known h t → Work h t []
unknown_work h ok t unknown =
    record {
      has = λ e. (
        (λ m. absurd (Memᴰ.not-nil m)),
        (λ r. absurd (root_open h ok (r.1 0 (root_above h ok e.who (answered_known r.0)) apart))),
      );
      ordered = tt;
    }
  where
    apart : ¬ AtOrAbove h 0 t
    apart (self q) = unknown (inl (sym q))
    apart (up {p = p} m a) = unknown (inr (p, m))

-- `Pass`: what the grants ask, a relation that is symmetric
module _ (S : Serial) (opening : S.State) (Pass : Op S → Op S → Type 0) (turned : (p q : Op S) → Pass p q → Pass q p) where
  pub total_is_work : (h : History S) (s : Locking S) → Accepted h → Runs S opening Pass h s → (parent : ℕ → ℕ) → Tree h parent
      → (t : ℕ) → Known h t → ¬ Orphan h t → Work h t (total parent s t)
  total_is_work h s ok runs parent tree t known alive = total_work h ok s (invariant S opening Pass turned h s ok runs).lists parent tree t known alive

-- and whose pairs swap wherever both are right
module _ (S : Serial) (opening : S.State) (Pass : Op S → Op S → Type 0) (turned : (p q : Op S) → Pass p q → Pass q p)
    (swaps : (p q : Op S) → Pass p q → (s : S.State) → Right S s p → Right S s q → Swaps S p q s) where
  pub dynamic_atomic : (h : History S) (s : Locking S) → Accepted h → Runs S opening Pass h s → (t : ℕ) → ¬ Orphan h t → Serializes S opening h t
  dynamic_atomic h s ok runs t alive =
      dite (ℕ_discrete t 0) (λ q. of_known (inl q))
      (λ ne. dite (dec_parent h t) (λ m. of_known (inr m)) (λ none. of_work [] (unknown_work h ok t (λ k. ⊎_elim ne none k))))
    where
      of_work : (l : List (Step S)) → Work h t l → Serializes S opening h t
      of_work l w =
          record {
            work = l;
            exact = w;
            only = λ k v. work_unique h ok t k l v w;
            legal = work_legal S opening Pass swaps h ok (invariant S opening Pass turned h s ok runs).seen t alive l w;
          }

      of_known : Known h t → Serializes S opening h t
      of_known known = of_work (total (parent_in h) s t) (total_is_work S opening Pass turned h s ok runs (parent_in h) (tree_of h ok) t known alive)

  -- recorded and replayed results agree: the total, as recorded, is a behaviour
  pub total_legal : (h : History S) (s : Locking S) → Accepted h → Runs S opening Pass h s → (parent : ℕ → ℕ) → Tree h parent
      → (t : ℕ) → Known h t → ¬ Orphan h t → Legal S opening (ops (total parent s t))
  total_legal h s ok runs parent tree t known alive =
      let all = dynamic_atomic h s ok runs t alive in
      let is = all.only (total parent s t) (total_is_work S opening Pass turned h s ok runs parent tree t known alive) in
      subst (λ l. Legal S opening (ops l)) (sym is) all.legal

  -- a reply that is right after the total may be handed out: the total with it is a behaviour
  pub behaves : (h : History S) (s : Locking S) → Accepted h → Runs S opening Pass h s → (parent : ℕ → ℕ) → Tree h parent
      → (t : ℕ) → Known h t → ¬ Orphan h t → (p : Op S) → Right S (run S opening (ops (total parent s t))) p
      → Legal S opening (ops (total parent s t) ++ (p ∷ []))
  behaves h s ok runs parent tree t known alive p right =
      legal_more S opening (ops (total parent s t)) p (total_legal h s ok runs parent tree t known alive) right

-- Theorem 5 with 6.2's own relation, over an object all of whose states are among those that 6.2 ranges over
module _ (S : Serial) (opening : S.State) (all : (s : S.State) → S.Has s) where
  commute_turned : (p q : Op S) → Commute S p q → Commute S q p
  commute_turned p q commute s has hq hp =
      let w = commute s has hp hq in
      record { q_second = w.p_second; p_second = w.q_second; ends = alike_sym S w.ends }

  pub theorem_5 : (h : History S) (s : Locking S) → Accepted h → Runs S opening (Commute S) h s → (t : ℕ) → ¬ Orphan h t → Serializes S opening h t
  theorem_5 = dynamic_atomic S opening (Commute S) commute_turned (λ p q commute s. commute s (all s))

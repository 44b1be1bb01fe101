-- What every step of the locking object keeps: it has only what was created, its lists are faithful, and each access was answered fairly.
use Prim.Native.Nat.{ℕ}
use mathlib.Core.Path.{◌≡◌, refl, sym, ap, subst, ◌∙◌}
use mathlib.Core.Bool.{true}
use mathlib.Core.List.Memᴰ
use mathlib.Core.List.{List, [], ◌∷◌, ◌++◌}
use mathlib.Core.Logic.{◌⊎◌, inl, inr, ⊎_elim, dite}
use native.Mathlib.Omega.{arith}
use native.Mathlib.Decide.{ℕ_discrete}
use lib.Dec.{eqb}
use borrow.Author.Tests.{eq-eqb}
use Rattle.below.proofs.Tests.{bool_or}
use Rattle.theory.specs.Serial.{Serial, Op, Right, run}
use Rattle.theory.specs.History.{◌∈◌, Role, other, access, Event, created, responded, committed, aborted, History, Step, ops}
use Rattle.theory.specs.History.{Parent, AtOrAbove, Orphan, Asked, Answered, Work}
use Rattle.theory.specs.Accepted.{Known, MayRespond, MayFinish, MayCommit, Allowed, Accepted}
use Rattle.theory.specs.Locking.{Locking, SameCreated, ancestor, total, INFORM_COMMIT, INFORM_ABORT, REQUEST_COMMIT, Takes, Tree, Runs, start, next}
use Rattle.theory.proofs.Tree.{asked_known, access_other, one_role, above_trans, above_known}
use Rattle.theory.proofs.Ancestor.{up_finds, ancestor_above, not_ancestor}
use Rattle.theory.proofs.Decide.{dec_above}
use Rattle.theory.proofs.Grow.{answered_known, new_step}
use Rattle.theory.proofs.Behaviour.{legal_last}
use Rattle.theory.proofs.Seen.{Fair, Seen, seen_start, seen_more, seen_next}
use Rattle.theory.proofs.Held.{Faithful, faithful_empty, faithful_created}
use Rattle.theory.proofs.HeldResponded.{faithful_responded}
use Rattle.theory.proofs.HeldAborted.{faithful_aborted}
use Rattle.theory.proofs.HeldCommitted.{faithful_committed}
use Rattle.theory.proofs.Total.{on_some, total_work}

module _ {S : Serial} where
  -- the set created has only what was created
  abbrev pub Created : History S → Locking S → Type 0
  Created h s = (x : ℕ) (a : S.Ask) → s.created x ≡ access a → Asked h x a

  created_more : (h : History S) (e : Event S) (s z : Locking S) → Created h s → SameCreated s z → Created (e ∷ h) z
  created_more h e s z c same x a q = let r = c x a (sym (same x) ∙ q) in (r.0, Memᴰ.tail r.1)

  created_access : (h : History S) (n p : ℕ) (b : S.Ask) (s z : Locking S) → Created h s → z.created n ≡ access b
      → ((x : ℕ) → ¬ (x ≡ n) → z.created x ≡ s.created x) → Created (created n p (access b) ∷ h) z
  created_access h n p b s z c added others x a q =
      dite (ℕ_discrete x n)
      (λ e. (p, Memᴰ.head (joined e (sym added ∙ ap z.created (sym e) ∙ q))))
      (λ ne. let r = c x a (sym (others x ne) ∙ q) in (r.0, Memᴰ.tail r.1))
    where
      joined : x ≡ n → ◌≡◌ {A = Role S} (access b) (access a) → ◌≡◌ {A = Event S} (created x p (access a)) (created n p (access b))
      joined e f = cc

  module _ (h : History S) (ok : Accepted h) (parent : ℕ → ℕ) (tree : Tree h parent) (s z : Locking S) (lists : Faithful h s.intentions) where
    lists_aborted : (t : ℕ) → MayFinish h t → INFORM_ABORT parent t s z → Faithful (aborted t ∷ h) z.intentions
    lists_aborted t may m =
        faithful_aborted h ok t may s.intentions z.intentions lists
        (λ u above. m.emptied u (up_finds h ok parent tree (λ y. eqb y t) above (eq-eqb t t refl)))
        (λ u out. ⊎_elim (λ e. empty u out e (s.intentions u) refl) (λ e. m.others u e) (bool_or (ancestor parent u t)))
      where
        -- of a number that was not given the parents say nothing; but it holds nothing
        empty : (u : ℕ) → ¬ AtOrAbove h t u → ancestor parent u t ≡ true → (l : List (Step S)) → s.intentions u ≡ l → z.intentions u ≡ s.intentions u
        empty u out e [] q = m.emptied u e ∙ sym q
        empty u out e (d ∷ l) q =
            let j = (lists.holds u d).0 (subst (λ k. d ∈ k) (sym q) (Memᴰ.head refl)) in
            absurd (out ((ancestor_above h ok parent tree u t (above_known h ok (answered_known j.answered) j.above)).0 e))

    lists_committed : (t : ℕ) → MayCommit h t → INFORM_COMMIT parent t s z → Faithful (committed t ∷ h) z.intentions
    lists_committed t may m =
        faithful_committed h ok t may (parent t) under s.intentions z.intentions lists m.emptied m.appended m.others
      where
        under : Parent h (parent t) t
        under = let p = may.finish.known in subst (λ w. Parent h w t) (sym (tree.created p.0 t p.1)) p.1

module _ (S : Serial) (opening : S.State) (Pass : Op S → Op S → Type 0) where
  pub record Invariant (h : History S) (s : Locking S) : Type 0 where
    pub created : Created h s
    pub lists : Faithful h s.intentions
    pub seen : Seen S opening Pass h

  module _ (turned : (p q : Op S) → Pass p q → Pass q p) where
    module _ (h : History S) (ok : Accepted h) (parent : ℕ → ℕ) (tree : Tree h parent) (s z : Locking S) (before : Invariant h s) where
      -- a response
      module _ (x : ℕ) (v : S.Reply) (may : MayRespond h x) (m : REQUEST_COMMIT S opening Pass parent x v s z) where
        known : Known h x
        known = asked_known may.asked.1

        -- what it asks is what it was created to ask
        same : m.ask ≡ may.asked.0
        same = let r = one_role h ok (before.created x m.ask m.was_created).1 may.asked.1.1 in cc

        did : record { ask = m.ask; reply = v } ≡ (new_step v may).did
        did = ap (λ a. record { ask = a; reply = v }) same

        fair : Fair S opening Pass h x v may
        fair =
            record {
              work = total parent s x;
              exact = exact;
              right =
                  subst (λ p. Right S (run S opening (ops (total parent s x))) p) did
                  (legal_last S opening (ops (total parent s x)) (record { ask = m.ask; reply = v }) m.behaviour);
              passes = passes;
            }
          where
            exact : Work h x (total parent s x)
            exact = total_work h ok s before.lists parent tree x known may.alive

            passes : (e : Step S) → Answered h e → ¬ Orphan h e.who → (e ∈ total parent s x) ⊎ Pass e.did (new_step v may).did
            passes e a alive =
                let r = on_some h ok s before.lists e a alive in
                let u = r.0 in
                dite (dec_above h ok u x)
                (λ above. inl ((exact.has e).1 (a, λ w b c. r.1.visible w b (λ d. c (above_trans d above)))))
                (λ out. inr (subst (λ p. Pass e.did p) did (m.commutes u (not_ancestor h ok parent tree x u known out) e r.2)))

        kept_responded : Invariant (responded x v ∷ h) z
        kept_responded =
            record {
              created = created_more h (responded x v) s z before.created m.created;
              lists =
                  faithful_responded h ok x v may s.intentions z.intentions before.lists
                  (m.appended ∙ ap (λ p. s.intentions x ++ (record { who = x; did = p } ∷ [])) did)
                  m.others;
              seen = seen_next S opening Pass turned h ok x v may fair before.seen;
            }

      kept : (e : Event S) → Allowed h e → Takes S opening Pass parent e s z → Invariant (e ∷ h) z
      kept (created n p other) may m =
          record {
            created = created_more h (created n p other) s z before.created m.created;
            lists = faithful_created h ok n p other may s.intentions z.intentions before.lists m.intentions;
            seen = seen_more S opening Pass h ok (created n p other) may before.seen (λ q. omega arith);
          }
      kept (created n p (access a)) may m =
          record {
            created = created_access h n p a s z before.created m.added m.created;
            lists = faithful_created h ok n p (access a) may s.intentions z.intentions before.lists m.intentions;
            seen = seen_more S opening Pass h ok (created n p (access a)) may before.seen (λ q. omega arith);
          }
      kept (responded x v) may m = kept_responded x v may m
      kept (committed t) may m =
          record {
            created = created_more h (committed t) s z before.created m.created;
            lists = lists_committed h ok parent tree s z before.lists t may m;
            seen = seen_more S opening Pass h ok (committed t) may before.seen (λ q. omega arith);
          }
      kept (aborted t) may m =
          record {
            created = created_more h (aborted t) s z before.created m.created;
            lists = lists_aborted h ok parent tree s z before.lists t may m;
            seen = seen_more S opening Pass h ok (aborted t) may before.seen (λ q. omega arith);
          }

    pub invariant : (h : History S) (s : Locking S) → Accepted h → Runs S opening Pass h s → Invariant h s
    invariant h s ok (start i) =
        record {
          created = λ x a q. absurd (access_other a (sym (i.created x) ∙ q));
          lists = faithful_empty s.intentions i.intentions;
          seen = seen_start S opening Pass;
        }
    invariant h s ok (next {h = before} {s = from} e parent tree runs takes) =
        kept before ok.0 parent tree from s (invariant before from ok.0 runs) e ok.1 takes

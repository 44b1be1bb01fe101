-- The rows go on saying what the history says, and what the refusals leave there is what an accepted call needs.
use Prim.Native.Nat.{ℕ, ◌<◌, ◌≤◌}
use mathlib.Core.Path.{◌≡◌, refl, sym, ap, ◌∙◌}
use mathlib.Core.Bool.{false, false≢true}
use mathlib.Core.List.Memᴰ
use mathlib.Core.List.{[], ◌∷◌}
use mathlib.Core.Logic.Iff
use mathlib.Core.Logic.{inl, inr, ⊎_elim, ◌↔◌, dite}
use native.Mathlib.Omega.{arith}
use native.Mathlib.Decide.{ℕ_discrete}
use lib.Dec.{eqb}
use borrow.Author.Tests.{eq-eqb}
use Rattle.below.specs.Climb.{up_any}
use Rattle.theory.specs.Serial.{Serial}
use Rattle.theory.specs.History.{◌∈◌, Role, access, Event, created, responded, committed, aborted, History, Parent, Finished, Orphan, Asked}
use Rattle.theory.specs.Accepted.{Known, MayFinish, Allowed, Accepted}
use Rattle.theory.specs.Locking.{Tree}
use Rattle.theory.proofs.Rows.{Got, nothing, got, Rows, Row, Agrees, Unwritten, Adds, SameRows, Says, Ends, Idles, Writes, FinishTests, Tests}
use Rattle.theory.proofs.Moments.{tag, skip}
use Rattle.theory.proofs.Ancestor.{up_finds}

same_value : {A : Type 0} {a b c : A} → b ≡ a → (a ≡ c) ↔ (b ≡ c)
same_value q = (λ e. q ∙ e, λ e. sym q ∙ e)

module _ {S : Serial} where
  pub blank : {v : S.Reply} → ◌≡◌ {A = Got S} nothing (got v) → ⊥
  blank e = let z : ◌≡◌ {A = ℕ} 0 1 = cc in omega arith

  -- a call of another sort leaves what the history says of e
  carried : {h : History S} {e c : Event S} {A B : Type 0} → ¬ (tag e ≡ tag c) → A ↔ B → (e ∈ h) ↔ A → (e ∈ (c ∷ h)) ↔ B
  carried ne f says = Iff.trans (skip ne, λ m. Memᴰ.tail m) (Iff.trans says f)

  same_row : {T U : Rows S} → SameRows T U → {n p : ℕ} {r : Role S} → Row T n p r ↔ Row U n p r
  same_row s {n} = (
    (λ r. record { pos = r.pos; within = omega (arith, r.within, s.count); parent = s.parents n ∙ r.parent; role = s.roles n ∙ r.role }),
    (λ r. record { pos = r.pos; within = omega (arith, r.within, s.count); parent = sym (s.parents n) ∙ r.parent; role = sym (s.roles n) ∙ r.role }),
  )

  module _ (h : History S) (T U : Rows S) (agrees : Agrees h T) where
    agrees_created : (n p : ℕ) (r : Role S) → Adds T U n p r → Agrees (created n p r ∷ h) U
    agrees_created n p r adds =
        record {
          rows = λ m q s. (
            (λ k. ⊎_elim (λ e. newest m q s (cc) (cc) (cc)) (λ j. earlier m q s ((agrees.rows m q s).0 j)) (Memᴰ.cases_cons k)),
            (λ k. told m q s k (ℕ_discrete m n)),
          );
          replies = λ x v. carried (λ q. omega arith) (same_value (adds.replies x)) (agrees.replies x v);
          commits = λ t. carried (λ q. omega arith) (same_value (adds.states t)) (agrees.commits t);
          aborts = λ t. carried (λ q. omega arith) (same_value (adds.states t)) (agrees.aborts t);
        }
      where
        newest : (m q : ℕ) (s : Role S) → m ≡ n → q ≡ p → s ≡ r → Row U m q s
        newest m q s a b c =
            record {
              pos = omega (arith, adds.next);
              within = omega (arith, adds.count);
              parent = ap U.parent a ∙ adds.parent ∙ sym b;
              role = ap U.role a ∙ adds.role ∙ sym c;
            }

        earlier : (m q : ℕ) (s : Role S) → Row T m q s → Row U m q s
        earlier m q s k =
            record {
              pos = k.pos;
              within = omega (arith, k.within, adds.count, adds.next);
              parent = adds.parents m k.within ∙ k.parent;
              role = adds.roles m k.within ∙ k.role;
            }

        told : (m q : ℕ) (s : Role S) → Row U m q s → Dec (m ≡ n) → created m q s ∈ (created n p r ∷ h)
        told m q s k (yes a) = Memᴰ.head (joined (sym k.parent ∙ ap U.parent a ∙ adds.parent) (sym k.role ∙ ap U.role a ∙ adds.role))
          where
            joined : q ≡ p → s ≡ r → ◌≡◌ {A = Event S} (created m q s) (created n p r)
            joined b c = cc
        told m q s k (no ne) =
            let l : m ≤ T.count = omega (arith, k.within, adds.count, adds.next) in
            Memᴰ.tail
            ((agrees.rows m q s).1 (record { pos = k.pos; within = l; parent = sym (adds.parents m l) ∙ k.parent; role = sym (adds.roles m l) ∙ k.role }))

    agrees_responded : (x : ℕ) (v : S.Reply) → Says T U x v → Agrees (responded x v ∷ h) U
    agrees_responded x v says =
        record {
          rows = λ n p r. carried (λ q. omega arith) (same_row says.rows) (agrees.rows n p r);
          replies = λ y u. (
            (λ k. ⊎_elim (λ e. newest y u (cc) (cc)) (λ j. earlier y u ((agrees.replies y u).0 j) (ℕ_discrete y x)) (Memᴰ.cases_cons k)),
            (λ e. told y u e (ℕ_discrete y x)),
          );
          commits = λ t. carried (λ q. omega arith) (same_value (says.states t)) (agrees.commits t);
          aborts = λ t. carried (λ q. omega arith) (same_value (says.states t)) (agrees.aborts t);
        }
      where
        newest : (y : ℕ) (u : S.Reply) → y ≡ x → u ≡ v → U.reply y ≡ got u
        newest y u a b = ap U.reply a ∙ says.own ∙ ap got (sym b)

        earlier : (y : ℕ) (u : S.Reply) → T.reply y ≡ got u → Dec (y ≡ x) → U.reply y ≡ got u
        earlier y u e (yes a) = absurd (blank (sym says.before ∙ ap T.reply (sym a) ∙ e))
        earlier y u e (no ne) = says.replies y ne ∙ e

        told : (y : ℕ) (u : S.Reply) → U.reply y ≡ got u → Dec (y ≡ x) → responded y u ∈ (responded x v ∷ h)
        told y u e (yes a) = Memᴰ.head (joined (sym says.own ∙ ap U.reply (sym a) ∙ e))
          where
            joined : ◌≡◌ {A = Got S} (got v) (got u) → ◌≡◌ {A = Event S} (responded y u) (responded x v)
            joined b = cc
        told y u e (no ne) = Memᴰ.tail ((agrees.replies y u).1 (sym (says.replies y ne) ∙ e))

    -- of a state that this end does not give
    other_state : (t k j : ℕ) → ¬ (j ≡ k) → ¬ (j ≡ 0) → Ends T U t k → (s : ℕ) → (T.state s ≡ j) ↔ (U.state s ≡ j)
    other_state t k j nk nz ends s =
        dite (ℕ_discrete s t)
        (λ a. (λ e. absurd (nz (sym e ∙ ap T.state a ∙ ends.before)), λ e. absurd (nk (sym e ∙ ap U.state a ∙ ends.own))))
        (λ ne. same_value (ends.states s ne))

    -- and of the one that it gives
    own_state : (end : ℕ → Event S) (t k : ℕ) → ((s u : ℕ) → end s ≡ end u → s ≡ u) → Ends T U t k → ((s : ℕ) → (end s ∈ h) ↔ (T.state s ≡ k))
        → (s : ℕ) → (end s ∈ (end t ∷ h)) ↔ (U.state s ≡ k)
    own_state end t k one ends f s = (
      (λ m. ⊎_elim (λ e. ap U.state (one s t e) ∙ ends.own) (λ j. earlier ((f s).0 j) (ℕ_discrete s t)) (Memᴰ.cases_cons m)),
      (λ e. told e (ℕ_discrete s t)),
    )
      where
        earlier : T.state s ≡ k → Dec (s ≡ t) → U.state s ≡ k
        earlier e (yes a) = ap U.state a ∙ ends.own
        earlier e (no ne) = ends.states s ne ∙ e

        told : U.state s ≡ k → Dec (s ≡ t) → end s ∈ (end t ∷ h)
        told e (yes a) = Memᴰ.head (ap end a)
        told e (no ne) = Memᴰ.tail ((f s).1 (sym (ends.states s ne) ∙ e))

    agrees_committed : (t : ℕ) → Ends T U t 1 → Agrees (committed t ∷ h) U
    agrees_committed t ends =
        record {
          rows = λ n p r. carried (λ q. omega arith) (same_row ends.rows) (agrees.rows n p r);
          replies = λ x v. carried (λ q. omega arith) (same_value (ends.replies x)) (agrees.replies x v);
          commits = own_state committed t 1 (λ s u e. cc) ends agrees.commits;
          aborts = λ s. carried (λ q. omega arith) (other_state t 1 2 (λ e. omega arith) (λ e. omega arith) ends s) (agrees.aborts s);
        }

    agrees_aborted : (t : ℕ) → Ends T U t 2 → Agrees (aborted t ∷ h) U
    agrees_aborted t ends =
        record {
          rows = λ n p r. carried (λ q. omega arith) (same_row ends.rows) (agrees.rows n p r);
          replies = λ x v. carried (λ q. omega arith) (same_value (ends.replies x)) (agrees.replies x v);
          commits = λ s. carried (λ q. omega arith) (other_state t 2 1 (λ e. omega arith) (λ e. omega arith) ends s) (agrees.commits s);
          aborts = own_state aborted t 2 (λ s u e. cc) ends agrees.aborts;
        }

  pub agrees_start : (T : Rows S) → Unwritten T → Agrees [] T
  agrees_start T unwritten =
      record {
        rows = λ n p r. (λ m. absurd (Memᴰ.not-nil m), λ k. absurd (let f : ⊥ = omega (arith, k.pos, k.within, unwritten.count) in f));
        replies = λ x v. (λ m. absurd (Memᴰ.not-nil m), λ e. absurd (blank (sym (unwritten.replies x) ∙ e)));
        commits = λ t. (λ m. absurd (Memᴰ.not-nil m), λ e. absurd (let f : ⊥ = omega (arith, unwritten.states t) in f));
        aborts = λ t. (λ m. absurd (Memᴰ.not-nil m), λ e. absurd (let f : ⊥ = omega (arith, unwritten.states t) in f));
      }

  pub agrees_next : (h : History S) (e : Event S) (T U : Rows S) → Agrees h T → Writes T e U → Agrees (e ∷ h) U
  agrees_next h (created n p r) T U agrees writes = agrees_created h T U agrees n p r writes
  agrees_next h (responded x v) T U agrees writes = agrees_responded h T U agrees x v writes
  agrees_next h (committed t) T U agrees writes = agrees_committed h T U agrees t writes
  agrees_next h (aborted t) T U agrees writes = agrees_aborted h T U agrees t writes

  pub agrees_idle : (h : History S) (T U : Rows S) → Agrees h T → Idles T U → Agrees h U
  agrees_idle h T U agrees idles =
      record {
        rows = λ n p r. Iff.trans (agrees.rows n p r) (same_row idles.rows);
        replies = λ x v. Iff.trans (agrees.replies x v) (same_value (idles.replies x));
        commits = λ t. Iff.trans (agrees.commits t) (same_value (idles.states t));
        aborts = λ t. Iff.trans (agrees.aborts t) (same_value (idles.states t));
      }

  module _ (h : History S) (T : Rows S) where
    pub tree : Agrees h T → ((n : ℕ) → 0 < n → T.parent n < n) → Tree h T.parent
    tree agrees low = record { lower = low; created = λ p n m. ((agrees.rows n p m.0).0 m.1).parent }

    row_parent : Agrees h T → (n : ℕ) → 0 < n → n ≤ T.count → Parent h (T.parent n) n
    row_parent agrees n a b = (T.role n, (agrees.rows n (T.parent n) (T.role n)).1 (record { pos = a; within = b; parent = refl; role = refl }))

    pub known_within : Agrees h T → (n : ℕ) → Known h n → n ≤ T.count
    known_within agrees n k = ⊎_elim (λ q. omega arith) (λ m. ((agrees.rows n m.0 m.1.0).0 m.1.1).within) k

    pub within_known : Agrees h T → (n : ℕ) → n ≤ T.count → Known h n
    within_known agrees n l = dite (ℕ_discrete n 0) (λ q. inl q) (λ ne. inr (T.parent n, row_parent agrees n (omega arith) l))

    pub asked_row : Agrees h T → (x : ℕ) (a : S.Ask) → Asked h x a → (0 < x) × (x ≤ T.count) × (T.role x ≡ access a)
    asked_row agrees x a s = let r = (agrees.rows x s.0 (access a)).0 s.1 in (r.pos, r.within, r.role)

    pub row_asked : Agrees h T → (x : ℕ) (a : S.Ask) → 0 < x → x ≤ T.count → T.role x ≡ access a → Asked h x a
    row_asked agrees x a pos l e = (T.parent x, (agrees.rows x (T.parent x) (access a)).1 (record { pos = pos; within = l; parent = refl; role = e }))

    open_row : Agrees h T → (t : ℕ) → T.state t ≡ 0 → ¬ Finished h t
    open_row agrees t e f = ⊎_elim (λ m. let x : ⊥ = omega (arith, (agrees.commits t).0 m) in x) (λ m. let x : ⊥ = omega (arith, (agrees.aborts t).0 m) in x) f

  module _ (h : History S) (T : Rows S) (ok : Accepted h) (agrees : Agrees h T) (low : (n : ℕ) → 0 < n → T.parent n < n) where
    pub alive_row : (t : ℕ) → up_any T.parent (λ w. eqb (T.state w) 2) t ≡ false → ¬ Orphan h t
    alive_row t e (u, above, dropped) =
        let found = eq-eqb (T.state u) 2 ((agrees.aborts u).0 dropped) in
        false≢true (sym e ∙ up_finds h ok T.parent (tree h T agrees low) (λ w. eqb (T.state w) 2) above found)

    may_finish : (t : ℕ) → FinishTests T t → MayFinish h t
    may_finish t tests =
        record {
          known = (T.parent t, row_parent h T agrees t tests.pos tests.known);
          unfinished = open_row h T agrees t tests.unfinished;
          alive = alive_row t tests.alive;
        }

    pub allowed : (e : Event S) (U : Rows S) → Writes T e U → Tests T e → Allowed h e
    allowed (created n p r) U writes tests =
        record {
          newest = λ m j. omega (arith, known_within h T agrees m j, writes.next);
          known = within_known h T agrees p tests.known;
          no_access = λ a s. tests.no_access a (asked_row h T agrees p a s).2;
          unfinished = open_row h T agrees p tests.unfinished;
          alive = alive_row p tests.alive;
        }
    allowed (responded x v) U writes tests =
        let f = may_finish x tests.finish in
        record {
          asked = (tests.ask, row_asked h T agrees x tests.ask tests.finish.pos tests.finish.known tests.asked);
          unfinished = f.unfinished;
          alive = f.alive;
          unanswered = λ u m. blank (sym tests.unanswered ∙ (agrees.replies x u).0 m);
        }
    allowed (committed t) U writes tests =
        record {
          finish = may_finish t tests.finish;
          children = λ c m.
              let r = (agrees.rows c t m.0).0 m.1 in
              ⊎_elim (λ e. inl ((agrees.commits c).1 e)) (λ e. inr ((agrees.aborts c).1 e)) (tests.children c r.pos r.within r.parent);
          answered = λ a s. let q = tests.answered a (asked_row h T agrees t a s).2 in (q.0, (agrees.replies t q.0).1 q.1);
        }
    allowed (aborted t) U writes tests = may_finish t tests

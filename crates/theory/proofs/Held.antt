-- What each holder's list has, and in what order, and what every call keeps of it.
use Prim.Native.Nat.{ℕ}
use mathlib.Core.Path.{◌≡◌, sym, subst}
use mathlib.Core.List.Memᴰ
use mathlib.Core.List.{List, [], ◌∷◌}
use mathlib.Core.Logic.{◌↔◌}
use native.Mathlib.Omega.{arith}
use Rattle.theory.specs.Serial.{Serial}
use Rattle.theory.specs.History.{◌∈◌, Role, Event, created, History, Step, Ordered, AtOrAbove, Committed, Orphan, Answered, Visible}
use Rattle.theory.specs.Accepted.{MayCreate, Allowed, Accepted}
use Rattle.theory.proofs.Moments.{tag, skip}
use Rattle.theory.proofs.Tree.{above_known}
use Rattle.theory.proofs.Grow.{above_more, alive_less, First, first_more, answered_known, answered_more, answered_old, above_old, visible_more}

module _ {S : Serial} where
  -- e's work has come as far as u
  pub record Held (h : History S) (u : ℕ) (e : Step S) : Type 0 where
    pub answered : Answered h e
    pub above : AtOrAbove h u e.who
    pub visible : Visible h e.who u
    pub uncommitted : ¬ Committed h u
    pub alive : ¬ Orphan h e.who

  -- the list of each holder has what it holds, in finishing order
  pub record Faithful (h : History S) (L : ℕ → List (Step S)) : Type 0 where
    pub holds : (u : ℕ) (e : Step S) → (e ∈ L u) ↔ Held h u e
    pub sorted : (u : ℕ) → Ordered (First h) (L u)

  pub faithful_empty : (L : ℕ → List (Step S)) → ((u : ℕ) → L u ≡ []) → Faithful [] L
  faithful_empty L empty =
      record {
        holds = λ u e. (λ m. absurd (Memᴰ.not-nil (subst (λ c. e ∈ c) (empty u) m)), λ j. absurd (Memᴰ.not-nil j.answered.1));
        sorted = λ u. subst (λ c. Ordered (First []) c) (sym (empty u)) tt;
      }

  -- a list that does not change
  pub stays : {h g : History S} {u : ℕ} {l k : List (Step S)} → k ≡ l
      → ((e : Step S) → Held h u e → Held g u e) → ((e : Step S) → Held g u e → Held h u e)
      → ((e : Step S) → (e ∈ l) ↔ Held h u e) → (e : Step S) → (e ∈ k) ↔ Held g u e
  stays {h} {g} {u} {l} {k} q f b i e = (λ m. f e ((i e).0 (subst (λ c. e ∈ c) q m)), λ j. subst (λ c. e ∈ c) (sym q) ((i e).1 (b e j)))

  pub stays_sorted : (h : History S) (c : Event S) {l k : List (Step S)} → k ≡ l → Ordered (First h) l → Ordered (First (c ∷ h)) k
  stays_sorted h c {l} {k} q s = subst (λ m. Ordered (First (c ∷ h)) m) (sym q) (first_more h c l s)

  module _ (h : History S) (ok : Accepted h) where
    module _ (c : Event S) (may : Allowed h c) where
      pub held_more : (u : ℕ) (e : Step S) → Held h u e → ¬ Committed (c ∷ h) u → ¬ Orphan (c ∷ h) e.who → Held (c ∷ h) u e
      held_more u e i n m =
          record {
            answered = answered_more i.answered;
            above = above_more i.above;
            visible = visible_more h ok c may (answered_known i.answered) i.visible;
            uncommitted = n;
            alive = m;
          }

      pub held_less : (u : ℕ) (e : Step S) → Held (c ∷ h) u e → Answered h e
          → ((w : ℕ) → AtOrAbove h w e.who → ¬ AtOrAbove h w u → Committed (c ∷ h) w → Committed h w) → Held h u e
      held_less u e i a f =
          let k = answered_known a in
          let b = above_old h ok c may k i.above in
          record {
            answered = a;
            above = b;
            visible = λ w j n. f w j n (i.visible w (above_more j) (λ d. n (above_old h ok c may (above_known h ok k b) d)));
            uncommitted = λ m. i.uncommitted (Memᴰ.tail m);
            alive = alive_less i.alive;
          }

      -- one that neither commits nor aborts
      pub held_on : ¬ (2 ≡ tag c) → ¬ (3 ≡ tag c) → (u : ℕ) (e : Step S) → Held h u e → Held (c ∷ h) u e
      held_on nc na u e i =
          held_more u e i (λ m. i.uncommitted (skip nc m)) (λ d. i.alive (d.0, above_old h ok c may (answered_known i.answered) d.1, skip na d.2))

      -- one that commits nothing
      pub held_back : ¬ (2 ≡ tag c) → (u : ℕ) (e : Step S) → Held (c ∷ h) u e → Answered h e → Held h u e
      held_back nc u e i a = held_less u e i a (λ w b n m. skip nc m)

    pub faithful_created : (n p : ℕ) (r : Role S) → MayCreate h n p → (L K : ℕ → List (Step S)) → Faithful h L → ((u : ℕ) → K u ≡ L u)
        → Faithful (created n p r ∷ h) K
    faithful_created n p r may L K faithful same =
        record {
          holds = λ u.
              stays (same u)
              (held_on (created n p r) may (λ q. omega arith) (λ q. omega arith) u)
              (λ e j. held_back (created n p r) may (λ q. omega arith) u e j (answered_old h ok (created n p r) may (λ q. omega arith) e j.answered))
              (faithful.holds u);
          sorted = λ u. stays_sorted h (created n p r) (same u) (faithful.sorted u);
        }

-- A walk on one chain, and the climb that goes through the chains of a view.
use Rattle.std.specs.Prelude.{Option}
use Prim.Native.Nat.{ℕ, suc, ◌+◌, ◌<◌, ◌≤◌}
use mathlib.Core.Path.{◌≡◌, sym, ap, ◌∙◌, subst}
use mathlib.Core.Bool.{true}
use mathlib.Core.List.{List, ◌++◌}
use native.Mathlib.Omega.{arith}
use lib.IntN.{ℤ}
use lib.ListN.{length, length-append}
use borrow.Author.Tests.{ne_eqb}
use Rattle.below.specs.Climb.{Lower}
use Rattle.kinds.specs.declared.Kind.{Kind}
use Rattle.kinds.specs.declared.State.{State}
use Rattle.kinds.specs.Kinds.{opened_of, start_of, opens, Bounded}
use Rattle.columns.specs.Column.{at, rows_most, places_most}
use Rattle.columns.specs.Work.{work, on_list, list_in}
use Rattle.columns.proofs.Work.{only_le, length_work}
use Rattle.replay.specs.Access.{asked_of}
use Rattle.replay.specs.View.{view_in, after_one, after_all}
use Rattle.replay.specs.Chain.{Chain, chain_of, chain_at, Linked, Left}
use Rattle.replay.proofs.After.{after_none, after_cons, after_append, left_room, left_less, left_one, left_all, left_start}
use Rattle.replay.proofs.Views.{view_step, before, view_parts, view_same, view_short}
use Rattle.replay.proofs.Links.{Next, chain_in_lem, chain_next, chain_done}
use Rattle.kinds.specs.declared.Operation.{Operation}

module _ (kind : Kind) (operation : List ℕ) (argument : List ℤ) where
  abbrev after : List ℕ → State → State
  after = after_all (asked_of kind operation argument)

  -- at x with the state s: the rest of the chain leads to the same end, and there is room for it
  pub record Walk (next : List ℕ) (end : State) (x : ℕ) (s : State) : Type 0 where
    pub ends : Chain next x (chain_of next x)
    pub same : after (chain_of next x) s ≡ end
    pub room : Left kind (length (chain_of next x)) s

  module _ (next : List ℕ) (end s : State) (x : ℕ) (w : Walk next end x s) where
    pub walk_end : x ≡ 0 → s ≡ end
    walk_end z = sym (after_none (asked_of kind operation argument) s) ∙ sym (ap (λ l. after l s) (chain_done 1023 next x z)) ∙ w.same

    module _ (n : x ≡ 0 → ⊥) where
      pub walk_next : Next 1023 next x
      walk_next = chain_next 1023 next x n w.ends

      here : Left kind (suc (length (chain_of next (at next x)))) s
      here = subst (λ (l : List ℕ). Left kind (length l) s) walk_next.here w.room

      pub walk_room : Bounded s
      walk_room = left_room kind (length (chain_of next (at next x))) s here

      pub walk_less : (y : ℕ) → y ≡ at next x → length (chain_of next y) < length (chain_of next x)
      walk_less y q = rw q (omega (arith, ap length walk_next.here))

      pub walk_turn : (y : ℕ) (r : State) → y ≡ at next x → r ≡ after_one (asked_of kind operation argument x) s → Walk next end y r
      walk_turn y r q e = rw (q, e) (record {
        ends = walk_next.ends;
        same = sym (ap (λ l. after l s) walk_next.here ∙ after_cons (asked_of kind operation argument) x (chain_of next (at next x)) s) ∙ w.same;
        room = left_one kind operation argument (length (chain_of next (at next x))) x s here;
      })

-- one level of a climb, for any lists
module _ (parent : List ℕ) (own : ℕ → List ℕ) (t : ℕ) (low : Lower (t + 1) (at parent)) where
  module _ (n : t ≡ 0 → ⊥) (p : ℕ) (q : p ≡ at parent t) where
    pub up_lower : p < t
    up_lower = rw q (low.lower t (omega arith) (omega arith))

    pub up_room : (kind : Kind) (start : State) → Left kind (length (view_in parent own t)) start → Left kind (length (view_in parent own p)) start
    up_room kind start b =
        let step : view_in parent own t ≡ view_in parent own p ++ own t = rw q (view_step parent own t low (omega arith)) in
        left_less kind _ _ start (omega arith) (rw (step, length-append (view_in parent own p) (own t)) at b)

  -- what is before the own list: nothing for the root, and else the parent's view
  module _ (asked : ℕ → Option Operation) (start above : State) where
    pub before_root : t ≡ 0 → above ≡ start → above ≡ after_all asked (before parent own t) start
    before_root z e = e ∙ rw z (sym (after_none asked start))

    pub before_next : (t ≡ 0 → ⊥) → (p : ℕ) → p ≡ at parent t → (s : State) → s ≡ after_all asked (view_in parent own p) start → above ≡ s
        → above ≡ after_all asked (before parent own t) start
    before_next n p q s h e = e ∙ h ∙ rw (q, ne_eqb t 0 n)

  -- the own list comes after what is before it
  module _ (kind : Kind) (operation : List ℕ) (argument : List ℤ) (start above : State) (e : above ≡ after_all (asked_of kind operation argument) (before parent own t) start) where
    pub own_room : Left kind (length (view_in parent own t)) start → Left kind (length (own t)) above
    own_room b = rw e (left_all kind operation argument (before parent own t) (length (own t)) start (rw (view_parts parent own t low, length-append (before parent own t) (own t)) at b))

    pub own_done : (r : State) → r ≡ after_all (asked_of kind operation argument) (own t) above → r ≡ after_all (asked_of kind operation argument) (view_in parent own t) start
    own_done r h = h ∙ rw (e, view_parts parent own t low) (sym (after_append (asked_of kind operation argument) (before parent own t) (own t) start))

-- the chains of an object are its lists
module _ (listed : ℕ) (order holder object : List ℕ) (o : ℕ) (fit : listed ≤ places_most) (head next : List ℕ) (links : Linked (list_in (work listed order) holder object o) head next) where
  abbrev own : ℕ → List ℕ
  own = list_in (work listed order) holder object o

  chain_own : (u : ℕ) → u < rows_most → chain_at head next u ≡ own u
  chain_own u h = chain_in_lem places_most next (at head u) _ (links.chains u h) (omega (arith, only_le (on_list holder object o u) (work listed order), length_work order listed))

  pub self_linked : Linked (chain_at head next) head next
  self_linked = record { chains = λ u h. subst (Chain next (at head u)) (sym (chain_own u h)) (links.chains u h) }

  module _ (parent : List ℕ) (n : ℕ) (low : Lower n (at parent)) (b : n ≤ rows_most) (t : ℕ) (h : t < n) (kind : Kind) (opening : ℤ) (start : State) (e : start ≡ start_of (opened_of kind opening)) where
    pub chain_view : view_in parent (chain_at head next) t ≡ view_in parent own t
    chain_view = view_same parent (chain_at head next) own n low (λ u l. chain_own u (omega arith)) t h

    pub chain_room : opens (opened_of kind opening) ≡ true → Left kind (length (view_in parent (chain_at head next) t)) start
    chain_room k =
        rw (e, chain_view)
        (left_start kind opening _ k (omega (arith, view_short (work listed order) holder object o parent n low t h, length_work order listed)))

    pub chain_after : (asked : ℕ → Option Operation) (r : State) → r ≡ after_all asked (view_in parent (chain_at head next) t) start
        → r ≡ after_all asked (view_in parent own t) (start_of (opened_of kind opening))
    chain_after asked r q = q ∙ rw (e, chain_view)

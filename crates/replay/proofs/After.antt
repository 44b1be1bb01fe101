-- The state after a list of work: after two lists, and how far it can have grown.
use Rattle.std.specs.Prelude.{Option, Some, None}
use Prim.Native.Nat.{ℕ, suc, ◌+◌, ◌≤◌}
use mathlib.Core.Path.{◌≡◌, refl}
use mathlib.Core.Bool.{true, false≢true}
use mathlib.Core.List.{List, [], ◌∷◌, ◌++◌}
use native.Mathlib.Omega.{arith}
use lib.IntN.{ℤ}
use lib.ListN.{length}
use Rattle.kinds.specs.declared.Kind.{Kind}
use Rattle.kinds.specs.declared.State.{State}
use Rattle.kinds.specs.Kinds.{opened_of, start_of, opens, decode_of, Bounded}
use Rattle.kinds.specs.Object.{Grown}
use Rattle.kinds.proofs.Takes.{decoded_takes, takes_grown, grown_more, grown_has, opened_grown}
use Rattle.columns.specs.Column.{at, at_z}
use Rattle.replay.specs.Access.{asked_of}
use Rattle.replay.specs.View.{after_one, after_all}
use Rattle.replay.specs.Chain.{Left}
use Rattle.kinds.specs.declared.Operation.{Operation}

pub after_none : (asked : ℕ → Option Operation) (s : State) → after_all asked [] s ≡ s
unfolding after_all
after_none asked s = refl

pub after_cons : (asked : ℕ → Option Operation) (x : ℕ) (l : List ℕ) (s : State) → after_all asked (x ∷ l) s ≡ after_all asked l (after_one (asked x) s)
unfolding after_all
after_cons asked x l s = refl

pub after_append : (asked : ℕ → Option Operation) (l m : List ℕ) (s : State) → after_all asked (l ++ m) s ≡ after_all asked m (after_all asked l s)
unfolding after_all
after_append asked [] m s = refl
after_append asked (x ∷ l) m s = after_append asked l m (after_one (asked x) s)

one_grown : (kind : Kind) (w : ℕ) (z : ℤ) (d : Option Operation) (k : ℕ) (s : State) → decode_of kind w z ≡ d → Grown kind k s → Grown kind (suc k) (after_one d s)
one_grown kind w z (Some o) k s e g = takes_grown kind o s k g (decoded_takes kind w z o e)
one_grown kind w z None k s e g = grown_more kind k s g

-- there is room for each operation, and one less after it
pub left_room : (kind : Kind) (n : ℕ) (s : State) → Left kind (suc n) s → Bounded s
left_room kind n s h = (grown_has kind h.steps s h.grown (omega (arith, h.left))).1

pub left_less : (kind : Kind) (m n : ℕ) (s : State) → m ≤ n → Left kind n s → Left kind m s
left_less kind m n s l h = record { steps = h.steps; grown = h.grown; left = omega (arith, h.left) }

module _ (kind : Kind) (operation : List ℕ) (argument : List ℤ) where
  abbrev asked : ℕ → Option Operation
  asked = asked_of kind operation argument

  pub left_one : (n x : ℕ) (s : State) → Left kind (suc n) s → Left kind n (after_one (asked x) s)
  left_one n x s h = record {
    steps = suc h.steps;
    grown = one_grown kind (at operation x) (at_z argument x) (asked x) h.steps s refl h.grown;
    left = omega (arith, h.left);
  }

  pub left_all : (l : List ℕ) (m : ℕ) (s : State) → Left kind (length l + m) s → Left kind m (after_all asked l s)
  unfolding after_all
  left_all [] m s h = left_less kind m _ s (omega arith) h
  left_all (x ∷ l) m s h = left_all l m (after_one (asked x) s) (left_one (length l + m) x s (left_less kind _ _ s (omega arith) h))

opened_at : (kind : Kind) (opening : ℤ) (d : Option State) → opened_of kind opening ≡ d → opens d ≡ true → Grown kind 0 (start_of d)
opened_at kind opening (Some s) e h = opened_grown kind opening s e
opened_at kind opening None e h = absurd (false≢true h)

pub left_start : (kind : Kind) (opening : ℤ) (n : ℕ) → opens (opened_of kind opening) ≡ true → n ≤ 1024 → Left kind n (start_of (opened_of kind opening))
left_start kind opening n h l = record { steps = 0; grown = opened_at kind opening (opened_of kind opening) refl h; left = omega arith }

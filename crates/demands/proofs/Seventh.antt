-- Demand 3 has something to say: after the writes of case 7 the work visible to the root is that of access 2 and then that of access 1, in the order in which
-- they committed, each with the answer that was handed out.
use Prim.Native.Nat.{ℕ}
use mathlib.Core.Path.{◌≡◌, refl, ap, subst, ◌∙◌}
use mathlib.Core.List.{List, [], ◌∷◌}
use mathlib.Core.Logic.{inl}
use native.Mathlib.Omega.{arith}
use lib.IntN.{pos}
use Rattle.below.specs.Below.{any_below, all_below, first_below, set_below}
use Rattle.below.specs.Climb.{climb, climb_in, up_any}
use Rattle.theory.specs.History.{Step, Work}
use Rattle.theory.specs.Locking.{total}
use Rattle.theory.proofs.Tree.{root_alive}
use Rattle.kinds.specs.declared.Operation.TheVariants as O
use Rattle.kinds.specs.declared.register.RegisterOperation.TheVariants.{Write}
use Rattle.kinds.specs.declared.outcome.Outcome.TheVariants.{Ok}
use Rattle.kinds.specs.Kinds.{kind_of}
use Rattle.kinds.specs.Table.{entry}
use Rattle.kinds.specs.Object.{object_of}
use Rattle.columns.specs.Column.{at}
use Rattle.columns.specs.Work.{work, only, laid, numbered}
use Rattle.replay.specs.View.{after_all}
use Rattle.store.specs.Refusal.{decide}
use Rattle.store.specs.Open.{open_of}
use Rattle.store.proofs.Kept.{open_kept}
use Rattle.store.proofs.Sizes.{open_sized}
use Rattle.store.specs.Calls.{Call, respond, commit}
use Rattle.demands.specs.Run.{Run, kind_in, history_in, locking_in}
use Rattle.demands.specs.Cases.{start, root, under, write}
use Rattle.demands.proofs.Reached.{reached}
use Rattle.demands.proofs.Demands.{demand_3}
use Rattle.demands.proofs.Cases.{quick_after, quick_after_lem}

abbrev pub calls : List Call
calls = under root (write 3) ∷ under root (write 9) ∷ respond 2 ∷ commit 2 ∷ respond 1 ∷ commit 1 ∷ []

pub two_objects : start.objects.count ≡ 2
unfolding open_of kind_of all_below
two_objects = refl

abbrev pub seventh : Run
seventh = record { kinds = 65 ∷ 82 ∷ []; openings = pos 10 ∷ pos 7 ∷ []; calls = calls; object = 1; has = omega (arith, two_objects) }

abbrev pub wrote : ℕ → ℕ → Step (object_of (kind_in seventh))
wrote x n = record { who = x; did = record { ask = O.Register (Write n); reply = Ok } }

-- what document 01 has of it: the write of 9 committed first
abbrev pub expected : List (Step (object_of (kind_in seventh)))
expected = wrote 2 9 ∷ wrote 1 3 ∷ []

pub seventh_work : Work (history_in seventh) root expected
unfolding quick_after open_of decide kind_of entry after_all work only laid numbered any_below all_below first_below set_below up_any climb climb_in
seventh_work =
    let computed : total (at (quick_after start calls).tree.parent) (locking_in seventh (quick_after start calls)) root ≡ expected = refl in
    subst (λ l. Work (history_in seventh) root l)
    (ap (λ s. total (at s.tree.parent) (locking_in seventh s) root) (quick_after_lem start calls (open_sized seventh.kinds seventh.openings) (open_kept seventh.kinds seventh.openings)) ∙ computed)
    (demand_3.views seventh root (inl refl) (root_alive (history_in seventh) (reached seventh).accepted))

-- Every store that a call hands back has columns of the lengths that the types of the code fix.
use Prim.Native.Nat.{ℕ, ◌+◌}
use mathlib.Core.Path.{◌≡◌, ◌∙◌}
use mathlib.Core.List.{List}
use lib.IntN.{ℤ, pos}
use lib.ListN.{length, replicate, length-set, length-replicate}
use Rattle.below.proofs.Column as column
use Rattle.columns.specs.Column.{at, at_z, rows_most, places_most}
use Rattle.columns.specs.Work.{work_of}
use Rattle.columns.proofs.Work.{length_laid, length_numbered}
use Rattle.form.specs.Form.{objects_most}
use Rattle.store.specs.declared.Store.{Store}
use Rattle.refusal.specs.declared.Child.{Child}
use Rattle.refusal.specs.declared.Request.{Request}
use Rattle.kinds.specs.declared.outcome.Numbers.{Numbers}
use Rattle.store.specs.Create.{request_of, created, create_of}
use Rattle.store.specs.Respond.{responded, respond_of, result_of, asking_of}
use Rattle.store.specs.Finish.{finished_as, commit_of, abort_of}
use Rattle.store.specs.Open.{store_of, open_of}
use Rattle.store.specs.Effects.{Sized}
use Rattle.store.proofs.Refusals.{handed_back}
use Rattle.store.proofs.Opens.{opened_or_empty}

zeros : (n : ℕ) → length (replicate {A = ℕ} n 0) ≡ n
zeros n = length-replicate {A = ℕ} n 0

store_sized : (objects : ℕ) (kind : List ℕ) (opening : List ℤ) → length kind ≡ objects_most → length opening ≡ objects_most → Sized (store_of objects kind opening)
store_sized objects kind opening k o = record {
  kind = k;
  opening = o;
  parent = zeros rows_most;
  state = zeros rows_most;
  object = zeros rows_most;
  operation = zeros rows_most;
  argument = length-replicate rows_most (pos 0);
  outcome = zeros rows_most;
  value = length-replicate rows_most (pos 0);
  order = zeros places_most;
  holder = zeros rows_most;
  place = zeros rows_most;
}

pub open_sized : (kinds : List ℕ) (openings : List ℤ) → Sized (open_of kinds openings).store
open_sized kinds openings =
    opened_or_empty Sized kinds openings
    (λ e. store_sized (length kinds) _ _ (column.set_length (at kinds) (length kinds) _ ∙ zeros objects_most)
    (column.set_length (at_z openings) (length kinds) _ ∙ length-replicate objects_most (pos 0)))
    (store_sized 0 _ _ (zeros objects_most) (length-replicate objects_most (pos 0)))

module _ (s : Store) (z : Sized s) where
  created_sized : (p : ℕ) (r : Request) → Sized (created s p r)
  created_sized p r = record {
    kind = z.kind;
    opening = z.opening;
    parent = length-set s.tree.parent (s.tree.count + 1) p ∙ z.parent;
    state = z.state;
    object = length-set s.accesses.object (s.tree.count + 1) r.object ∙ z.object;
    operation = length-set s.accesses.operation (s.tree.count + 1) r.operation ∙ z.operation;
    argument = length-set s.accesses.argument (s.tree.count + 1) r.argument ∙ z.argument;
    outcome = z.outcome;
    value = z.value;
    order = z.order;
    holder = z.holder;
    place = z.place;
  }

  responded_sized : (t : ℕ) (result : Numbers) → Sized (responded s t result)
  responded_sized t result = record {
    kind = z.kind;
    opening = z.opening;
    parent = z.parent;
    state = z.state;
    object = z.object;
    operation = z.operation;
    argument = z.argument;
    outcome = length-set s.accesses.outcome t (result.a + 1) ∙ z.outcome;
    value = length-set s.accesses.value t result.b ∙ z.value;
    order = length-set s.lists.order s.lists.listed t ∙ z.order;
    holder = length-set s.lists.holder t t ∙ z.holder;
    place = length-set s.lists.place t (s.lists.listed + 1) ∙ z.place;
  }

  finished_sized : (t state : ℕ) (l holder : List ℕ) → length holder ≡ length s.lists.holder → Sized (finished_as s t state (work_of l holder))
  finished_sized t state l holder h = record {
    kind = z.kind;
    opening = z.opening;
    parent = z.parent;
    state = length-set s.tree.state t state ∙ z.state;
    object = z.object;
    operation = z.operation;
    argument = z.argument;
    outcome = z.outcome;
    value = z.value;
    order = length_laid (replicate places_most 0) 0 l ∙ zeros places_most;
    holder = h ∙ z.holder;
    place = length_numbered (replicate rows_most 0) 0 l ∙ zeros rows_most;
  }

  pub create_sized : (p : ℕ) (child : Child) → Sized (create_of s p child).store
  unfolding create_of
  create_sized p child = handed_back Sized s _ _ z (λ n. created_sized p (request_of child))

  pub respond_sized : (t : ℕ) → Sized (respond_of s t).store
  unfolding respond_of
  respond_sized t = handed_back Sized s _ _ z (λ n. responded_sized t (result_of (asking_of s t)))

  pub commit_sized : (t : ℕ) → Sized (commit_of s t).store
  unfolding commit_of
  commit_sized t = handed_back Sized s _ _ z (λ n. finished_sized t _ _ _ (column.set_length _ _ _))

  pub abort_sized : (t : ℕ) → Sized (abort_of s t).store
  unfolding abort_of
  abort_sized t = handed_back Sized s _ _ z (λ n. finished_sized t _ _ _ (column.set_length _ _ _))

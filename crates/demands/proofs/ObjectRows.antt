-- The rows of a store, as object o of this kind sees them: first one row, then all; and what a call leaves of every row where it writes one.
use Rattle.std.specs.Prelude.{Option, Some, None}
use Prim.Native.Nat.{ℕ, ◌<◌}
use mathlib.Core.Path.{◌≡◌, refl, ap}
use mathlib.Core.Bool.{Bool, true, false, cond, ◌&&◌, not, and-false}
use mathlib.Core.Logic.{⊎_elim}
use mathlib.Core.List.{List}
use native.Mathlib.Omega.{arith}
use lib.IntN.{ℤ}
use lib.ListN.{replicate, get_or-eq_default}
use lib.Dec.{eqb}
use borrow.Author.Tests.{eq-eqb, ne_eqb}
use Rattle.below.proofs.Tests.{same_or, le_or, cond_same}
use Rattle.below.proofs.Column.{filled_at}
use Rattle.theory.specs.History.{Role, other}
use Rattle.theory.proofs.Rows.{Got, nothing, got, Rows, Unwritten}
use Rattle.kinds.specs.declared.Kind.{Kind}
use Rattle.kinds.proofs.Fits.{fit_number}
use Rattle.kinds.specs.declared.Answered.{Answered}
use Rattle.kinds.specs.Kinds.{decode_of}
use Rattle.kinds.specs.Object.{object_of}
use Rattle.columns.specs.Column.{at, rows_most}
use Rattle.replay.specs.Access.{recorded_of, record_in}
use Rattle.store.specs.declared.Store.{Store}
use Rattle.refusal.specs.declared.Child.{Child}
use Rattle.refusal.specs.declared.Child.TheVariants.{Plain, Access}
use Rattle.store.specs.Form.{in_form}
use Rattle.store.specs.Create.{request_of}
use Rattle.store.specs.Effects.{Row, row_of, new_row, Sized}
use Rattle.store.specs.Open.{empty_store, opened_store, open_of}
use Rattle.store.proofs.Facts.{form_facts, lower}
use Rattle.store.proofs.Opens.{opened_or_empty}
use Rattle.demands.specs.History.{asking, role_of}
use Rattle.demands.specs.Locking.{locking_of}
use Rattle.kinds.specs.declared.Operation.{Operation}

-- 0 is no operation of any kind
unfit_zero : (kind : Kind) (argument : ℤ) → decode_of kind 0 argument ≡ None
unfit_zero kind argument = go (decode_of kind 0 argument) refl
  where
    go : (d : Option Operation) → decode_of kind 0 argument ≡ d → d ≡ None
    go (Some o) e = absurd (omega (arith, (fit_number kind 0 argument o e).0))
    go None e = refl

unanswered_nothing : (d : Option Operation) (outcome : ℕ) (value : ℤ) → outcome ≡ 0 → recorded_of d outcome value ≡ None
unanswered_nothing (Some a) outcome value e = rw (eq-eqb outcome 0 e)
unanswered_nothing None outcome value e = refl

-- where only row t was written, what is read of a row stays if it does of that one
pub row_by_row : {A : Type 0} (read : Row → A) (s z : Store) (t : ℕ) → ((k : ℕ) → ¬ (k ≡ t) → row_of z k ≡ row_of s k)
    → read (row_of z t) ≡ read (row_of s t) → (x : ℕ) → read (row_of z x) ≡ read (row_of s x)
row_by_row read s z t rows own x = ⊎_elim (λ e. rw e own) (λ n. ap read (rows x n)) (same_or x t)

-- a response of the row's access was accepted, at object o
abbrev pub requested_in : ℕ → Row → Bool
requested_in o r = eqb r.object o && not (eqb r.outcome 0)

pub no_request : (o : ℕ) (r : Row) → r.outcome ≡ 0 → requested_in o r ≡ false
no_request o r e = rw (eq-eqb r.outcome 0 e) (and-false (eqb r.object o))

module _ (kind : Kind) where
  -- the answer that the row has on record
  abbrev pub record_on : Row → Option Answered
  record_on r = recorded_of (decode_of kind r.operation r.argument) r.outcome r.value

  pub no_record : (r : Row) → r.outcome ≡ 0 → record_on r ≡ None
  no_record r e = unanswered_nothing (decode_of kind r.operation r.argument) r.outcome r.value e

  -- and that of x has in a store
  abbrev pub record_at : Store → ℕ → Option Answered
  record_at s x = record_in kind s.accesses.operation s.accesses.argument s.accesses.outcome s.accesses.value x

  abbrev got_in : Option Answered → Got (object_of kind)
  got_in (Some p) = got p.outcome
  got_in None = nothing

  module _ (o : ℕ) where
    -- what one row's transaction is to the object, and its reply
    abbrev pub role_in : Row → Role (object_of kind)
    role_in r = cond (eqb r.object o) (asking kind (decode_of kind r.operation r.argument)) other

    pub no_role : (r : Row) → r.operation ≡ 0 → role_in r ≡ other
    no_role r e = rw (e, unfit_zero kind r.argument) (cond_same (eqb r.object o) other)

    pub away_role : (r : Row) → ¬ (r.object ≡ o) → role_in r ≡ other
    away_role r away = rw (ne_eqb r.object o away)

    pub new_role : (p : ℕ) (child : Child) → role_in (new_row p (request_of child)) ≡ role_of kind o child
    new_role p Plain = no_role (new_row p (request_of Plain)) refl
    new_role p (Access r) = refl

    abbrev pub reply_in : Row → Got (object_of kind)
    reply_in r = cond (eqb r.object o) (got_in (record_on r)) nothing

    pub no_reply : (r : Row) → r.outcome ≡ 0 → reply_in r ≡ nothing
    no_reply r e = rw (no_record r e) (cond_same (eqb r.object o) nothing)

    pub on_reply : (r : Row) (held : Answered) → r.object ≡ o → record_on r ≡ Some held → reply_in r ≡ got held.outcome
    on_reply r held on e = rw (eq-eqb r.object o on) (ap got_in e)

    pub away_reply : (r : Row) → ¬ (r.object ≡ o) → reply_in r ≡ nothing
    away_reply r away = rw (ne_eqb r.object o away)

    abbrev pub seen_by : Store → Rows (object_of kind)
    seen_by s = record {
      count = s.tree.count;
      parent = at s.tree.parent;
      role = (locking_of kind o s).created;
      state = at s.tree.state;
      reply = λ x. reply_in (row_of s x);
    }

    -- a newly opened store has no rows
    pub opened_unwritten : (kinds : List ℕ) (openings : List ℤ) → Unwritten (seen_by (open_of kinds openings).store)
    opened_unwritten kinds openings =
        opened_or_empty (λ z. Unwritten (seen_by z)) kinds openings
        (λ e. zeros (opened_store kinds openings) refl refl refl)
        (zeros empty_store refl refl refl)
      where
        zeros : (z : Store) → z.tree.count ≡ 0 → z.tree.state ≡ replicate rows_most 0 → z.accesses.outcome ≡ replicate rows_most 0 → Unwritten (seen_by z)
        zeros z count states outcomes = record {
          count = count;
          states = λ n. rw states (filled_at 0 rows_most n);
          replies = λ n. no_reply (row_of z n) (rw outcomes (filled_at 0 rows_most n));
        }

-- each transaction stands beneath a lower number
pub parents_lower : (s : Store) → Sized s → in_form s ≡ true → (n : ℕ) → 0 < n → at s.tree.parent n < n
parents_lower s sized fine n some =
    ⊎_elim (λ past. let none : at s.tree.parent n ≡ 0 = get_or-eq_default s.tree.parent 0 (omega (arith, sized.parent)) in omega arith)
    (λ row. (lower s (form_facts s fine)).lower n some row) (le_or rows_most n)

-- The accesses keep their form: when one is answered, when a transaction is created, and at an opening. And objects, where there are none.
use Rattle.std.specs.Prelude.{Some}
use Prim.Native.Nat.{ℕ, ◌+◌, ◌-◌, ◌<◌}
use mathlib.Core.Path.{◌≡◌, sym, ap, ◌∙◌}
use mathlib.Core.Logic.{⊎_elim}
use mathlib.Core.List.{List}
use native.Mathlib.Omega.{arith}
use lib.IntN.{ℤ, pos}
use lib.ListN.{length, set, replicate}
use lib.Seq.{get_or-set_same, get_or-set_other}
use Rattle.below.proofs.Tests.{same_or}
use Rattle.below.proofs.Column.{filled_at}
use Rattle.kinds.specs.declared.Operation.{Operation}
use Rattle.kinds.specs.declared.outcome.Outcome.{Outcome}
use Rattle.kinds.specs.Kinds.{kind_of, decode_of, recall_of}
use Rattle.columns.specs.Column.{at, at_z, rows_most}
use Rattle.form.specs.Form.{count_most, objects_most}
use Rattle.form.proofs.Facts.{Objects, Used, Access, Fits, Blank, Accesses, asked_access}

module _ (objects : ℕ) (kind : List ℕ) (count : ℕ) (object operation : List ℕ) (argument : List ℤ) (outcome : List ℕ) (value : List ℤ)
    (accesses : Accesses objects kind count object operation argument outcome value) where
  unused_blank : (k : ℕ) → k < rows_most → (Used count k → ⊥) → Blank (at object k) (at operation k) (at_z argument k) (at outcome k) (at_z value k)
  unused_blank k h n = accesses.blank k h (λ a. n a.0)

  -- the root asks nothing
  pub root_plain : at operation 0 ≡ 0
  root_plain = (unused_blank 0 (omega arith) (λ u. omega arith)).no_operation

  -- t is answered, with a result of a shape that its operation allows
  module _ (t a : ℕ) (b : ℤ) (o : Operation) (r : Outcome) (access : Access count operation t)
      (fit : decode_of (kind_of (at kind (at object t))) (at operation t) (at_z argument t) ≡ Some o) (shape : recall_of o a b ≡ Some r)
      (outcomes : t < length outcome) (values : t < length value) where
    abbrev asked : ℕ → Type 0
    asked k = Fits (decode_of (kind_of (at kind (at object k))) (at operation k) (at_z argument k)) (at (set outcome t (a + 1)) k) (at_z (set value t b) k)

    own : asked t
    own =
        let e : at (set outcome t (a + 1)) t ≡ a + 1 = get_or-set_same outcome t (a + 1) 0 outcomes in
        let q : a + 1 - 1 ≡ a = omega arith in
        rw (e, get_or-set_same value t b (pos 0) values)
        (record { ask = o; fit = fit; unanswered = λ z. absurd (omega arith); answered = λ n. record { outcome = r; recalled = rw q shape } })

    pub answer_kept : Accesses objects kind count object operation argument (set outcome t (a + 1)) (set value t b)
    answer_kept = record {
      known = accesses.known;
      fit = λ k h c. ⊎_elim (λ e. rw e own) (λ n. rw (get_or-set_other outcome t k (a + 1) 0 n, get_or-set_other value t k b (pos 0) n) (accesses.fit k h c)) (same_or k t);
      blank = λ k h n.
          let d : k ≡ t → ⊥ = λ e. n (rw e access) in
          rw (get_or-set_other outcome t k (a + 1) 0 d, get_or-set_other value t k b (pos 0) d) (accesses.blank k h n);
    }

  -- a row that asks nothing is created
  pub plain_created : Accesses objects kind (count + 1) object operation argument outcome value
  plain_created = record {
    known = λ k h a. accesses.known k h (old k h a);
    fit = λ k h a. accesses.fit k h (old k h a);
    blank = λ k h n. accesses.blank k h (λ a. n ((a.0.0, omega (arith, a.0.1)), a.1));
  }
    where
      old : (k : ℕ) → k < rows_most → Access (count + 1) operation k → Access count operation k
      old k h a = asked_access objects kind count object operation argument outcome value accesses k h a.1

  -- an access is created: object, operation and argument fit
  module _ (ob op : ℕ) (ar : ℤ) (o : Operation) (room : count < count_most) (known : ob < objects) (some : op ≡ 0 → ⊥)
      (fit : decode_of (kind_of (at kind ob)) op ar ≡ Some o)
      (object-row : count + 1 < length object) (operation-row : count + 1 < length operation) (argument-row : count + 1 < length argument) where
    abbrev t : ℕ
    t = count + 1

    abbrev object₁ : List ℕ
    object₁ = set object t ob

    abbrev operation₁ : List ℕ
    operation₁ = set operation t op

    abbrev argument₁ : List ℤ
    argument₁ = set argument t ar

    object_own : at object₁ t ≡ ob
    object_own = get_or-set_same object t ob 0 object-row

    operation_own : at operation₁ t ≡ op
    operation_own = get_or-set_same operation t op 0 operation-row

    argument_own : at_z argument₁ t ≡ ar
    argument_own = get_or-set_same argument t ar (pos 0) argument-row

    module _ (k : ℕ) (n : k ≡ t → ⊥) where
      object_other : at object₁ k ≡ at object k
      object_other = get_or-set_other object t k ob 0 n

      operation_other : at operation₁ k ≡ at operation k
      operation_other = get_or-set_other operation t k op 0 n

      argument_other : at_z argument₁ k ≡ at_z argument k
      argument_other = get_or-set_other argument t k ar (pos 0) n

      old : Access (count + 1) operation₁ k → Access count operation k
      old a = ((a.0.0, omega (arith, a.0.1)), rw operation_other at a.1)

      new : Access count operation k → Access (count + 1) operation₁ k
      new a = ((a.0.0, omega (arith, a.0.1)), rw operation_other a.1)

    own_fits : Fits (decode_of (kind_of (at kind (at object₁ t))) (at operation₁ t) (at_z argument₁ t)) (at outcome t) (at_z value t)
    own_fits =
        let blank = unused_blank t (omega arith) (λ u. omega (arith, u.1)) in
        rw (object_own, operation_own, argument_own)
        (record { ask = o; fit = fit; unanswered = λ z. blank.no_value; answered = λ n. absurd (n blank.no_outcome) })

    pub access_created : Accesses objects kind (count + 1) (set object (count + 1) ob) (set operation (count + 1) op) (set argument (count + 1) ar) outcome value
    access_created = record {
      known = λ k h a. ⊎_elim (λ e. let z : at object₁ k ≡ ob = ap (at object₁) e ∙ object_own in rw z known) (λ n. rw (object_other k n) (accesses.known k h (old k n a))) (same_or k t);
      fit = λ k h a. ⊎_elim (λ e. rw e own_fits) (λ n. rw (object_other k n, operation_other k n, argument_other k n) (accesses.fit k h (old k n a))) (same_or k t);
      blank = λ k h a.
          let n : k ≡ t → ⊥ = λ e. a (omega arith, λ z. some (sym operation_own ∙ ap (at operation₁) (sym e) ∙ z)) in
          rw (object_other k n, operation_other k n, argument_other k n) (accesses.blank k h (λ c. a (new k n c)));
    }

pub accesses_opened : (objects : ℕ) (kind : List ℕ)
    → Accesses objects kind 0 (replicate rows_most 0) (replicate rows_most 0) (replicate rows_most (pos 0)) (replicate rows_most 0) (replicate rows_most (pos 0))
accesses_opened objects kind = record {
  known = λ k h a. absurd (omega (arith, a.0));
  fit = λ k h a. absurd (omega (arith, a.0));
  blank = λ k h n. record {
    no_object_lem = filled_at 0 rows_most k;
    no_operation = filled_at 0 rows_most k;
    no_argument = filled_at (pos 0) rows_most k;
    no_outcome = filled_at 0 rows_most k;
    no_value = filled_at (pos 0) rows_most k;
  };
}

pub objects_none : Objects 0 (replicate objects_most 0) (replicate objects_most (pos 0))
objects_none = record {
  few = omega arith;
  opened = λ o h. absurd (omega arith);
  unused_kind = λ o l h. filled_at 0 objects_most o;
  unused_opening = λ o l h. filled_at (pos 0) objects_most o;
}

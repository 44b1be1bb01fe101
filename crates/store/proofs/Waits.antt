-- When a response must wait, and what it names. Source: document 01, "Lists of work", its last paragraph, and code 13.
use Rattle.std.specs.Prelude.{Option, Some}
use Prim.Native.Nat.{ℕ, ◌<◌, ◌≤◌}
use mathlib.Core.Path.{◌≡◌, refl, sym, ap, ◌∙◌, subst}
use mathlib.Core.Bool.{Bool, true, false, not, true≢false}
use mathlib.Core.Logic.{◌↔◌, ⊎_elim}
use mathlib.Core.List.{List}
use native.Mathlib.Omega.{arith}
use lib.Dec.{eqb, ltb}
use borrow.Author.Tests.{eqb-true, eqb-false, eq-eqb, ne_eqb, ltb-false, not-true, not-false}
use Rattle.below.specs.Below.{any_below, first_below, Lowest}
use Rattle.below.proofs.Tests.{le_or, and_fst, and_snd}
use Rattle.below.proofs.Search.{any_found, first_lowest, first_any}
use Rattle.kinds.specs.declared.Answered.{Answered}
use Rattle.kinds.specs.Kinds.{step_of}
use Rattle.columns.specs.Column.{at, at_z, rows_most}
use Rattle.columns.specs.Tree.{at_or_above}
use Rattle.columns.specs.Work.{work, Found}
use Rattle.columns.proofs.Once.{found_each}
use Rattle.columns.proofs.ListLaws.{list_entries, list_has}
use Rattle.form.proofs.Facts.{Used, Fits, asked_access, answered_access}
use Rattle.form.proofs.KeptLists.{known, placed_found, found_placed}
use Rattle.replay.specs.Access.{recorded_of, answered_as}
use Rattle.wait.specs.Wait.{clashes}
use Rattle.store.specs.declared.Store.{Store}
use Rattle.refusal.specs.Exact.{FirstToHold}
use Rattle.store.specs.Form.{in_form}
use Rattle.store.specs.Lists.{rows_of, list_of, kind_at, asked_at, recorded_at, state_for}
use Rattle.refusal.specs.Refusal.{answer_of}
use Rattle.store.specs.Claims.{Asking, Conflicting, Waits, Granted}
use Rattle.store.specs.Respond.{answer_in, asking_of, blocks_for, wait_for, result_of, must_wait, respond_refusals, respond_of}
use Rattle.store.proofs.Facts.{Form, form_facts}
use Rattle.store.proofs.Answers.{respond_decided}
use Rattle.kinds.specs.declared.Operation.{Operation}

-- an answered access of a store in form has an answer on record
module _ (s : Store) (fine : in_form s ≡ true) (o x : ℕ) (row : x < rows_most) (on : at s.accesses.object x ≡ o) (answered : at s.accesses.outcome x ≡ 0 → ⊥) where
  asked_fits : Fits (asked_at s o x) (at s.accesses.outcome x) (at_z s.accesses.value x)
  asked_fits =
      subst (λ (y : ℕ). Fits (asked_at s y x) (at s.accesses.outcome x) (at_z s.accesses.value x)) on
      (let form = form_facts s fine in form.accesses.fit x row (answered_access _ _ _ _ _ _ _ _ form.accesses x row answered))

  pub on_record : (held : Answered) × (recorded_at s o x ≡ Some held)
  on_record =
      let answer = asked_fits.answered answered in (
        record { operation = asked_fits.ask; outcome = answer.outcome },
        ap (λ (d : Option Operation). recorded_of d (at s.accesses.outcome x) (at_z s.accesses.value x)) asked_fits.fit
            ∙ rw (ne_eqb (at s.accesses.outcome x) 0 answered) (ap (answered_as asked_fits.ask) answer.recalled),
      )

module _ (s : Store) (t : ℕ) (asking : Answered) where
  -- x blocks the response
  abbrev blocked : ℕ → Bool
  blocked = blocks_for s t asking

  pub asking_as : Asking s t asking → asking_of s t ≡ Some asking
  asking_as a =
      ap (answer_in (state_for s (at s.accesses.object t) t)) a.asked
      ∙ ap (λ r. Some (record { operation = asking.operation; outcome = r })) (sym a.result)

  module _ (a : Asking s t asking) where
    named : wait_for s t (asking_of s t) ≡ first_below (rows_of s) blocked
    named = ap (wait_for s t) (asking_as a)

    searched : (must_wait s t (wait_for s t (asking_of s t))).when ≡ any_below (rows_of s) blocked
    searched = ap (λ x. ltb x (rows_of s)) named ∙ first_any blocked (rows_of s)

    -- the one that it names blocks it, and none lower does
    waits_lowest : (must_wait s t (wait_for s t (asking_of s t))).when ≡ true → Lowest (rows_of s) blocked (wait_for s t (asking_of s t))
    waits_lowest e = subst (Lowest (rows_of s) blocked) (sym named) (first_lowest blocked (rows_of s) (sym searched ∙ e))

    -- a response waits exactly when some access blocks it
    waits_exactly : ((must_wait s t (wait_for s t (asking_of s t))).when ≡ true) ↔ ((x : ℕ) × (x < rows_of s) × (blocked x ≡ true))
    waits_exactly = (
      (λ e. let l = waits_lowest e in (wait_for s t (asking_of s t), l.small, l.passes)),
      (λ b. searched ∙ any_found blocked (rows_of s) b.0 b.1 b.2),
    )

  module _ (fine : in_form s ≡ true) where
    form : Form s
    form = form_facts s fine

    abbrev all : List ℕ
    all = work s.lists.listed s.lists.order

    abbrev o : ℕ
    o = at s.accesses.object t

    -- what blocks the response is what the document says it waits for
    blocks_conflicts : (x : ℕ) → x < rows_of s → blocked x ≡ true → Conflicting s t asking (at s.lists.holder x) x
    blocks_conflicts x h e =
        let row : x < rows_most = omega (arith, form.tree.few) in
        let here = and_snd (not (eqb (at s.lists.place x) 0)) _ e in
        let other = and_snd (eqb (at s.accesses.object x) o) _ here in
        let place : at s.lists.place x ≡ 0 → ⊥ = eqb-false _ _ (not-true _ (and_fst (not (eqb (at s.lists.place x) 0)) _ e)) in
        let on : at s.accesses.object x ≡ o = eqb-true _ _ (and_fst (eqb (at s.accesses.object x) o) _ here) in
        let found = placed_found _ _ _ _ _ _ _ _ _ form.tree form.lists x row place in
        let r = on_record s fine o x row on (form.lists.rows x row place).answered in
        record {
          listed = list_has all s.lists.holder s.accesses.object o (at s.lists.holder x) x found refl on;
          outside = not-true _ (and_fst (not (at_or_above s.tree.parent t (at s.lists.holder x))) _ other);
          held = r.0;
          recorded = r.1;
          conflicts = sym (ap (clashes (kind_at s o) asking) r.1) ∙ and_snd (not (at_or_above s.tree.parent t (at s.lists.holder x))) _ other;
        }

    conflicts_blocks : (h x : ℕ) → Conflicting s t asking h x → (x < rows_of s) × (at s.lists.holder x ≡ h) × (blocked x ≡ true)
    conflicts_blocks h x c =
        let on = found_each (λ x. (at s.lists.holder x ≡ h) × (at s.accesses.object x ≡ o) × Found x all) (list_of s o h) (list_entries all s.lists.holder s.accesses.object o h) x c.listed in
        let u = found_each (Used s.tree.count) all (known _ _ _ _ _ _ _ _ _ form.tree form.lists) x on.2 in
        let placed = found_placed _ _ _ _ _ _ _ _ _ form.tree form.lists x on.2 in
        let outside : at_or_above s.tree.parent t (at s.lists.holder x) ≡ false = rw on.0 c.outside in (
          omega (arith, u.1),
          on.0,
          rw (ne_eqb (at s.lists.place x) 0 placed) (rw (eq-eqb (at s.accesses.object x) o on.1) (rw outside (ap (clashes (kind_at s o) asking) c.recorded ∙ c.conflicts))),
        )

    module _ (a : Asking s t asking) where
      -- a response waits exactly when some access on the same object, on the list of a holder not at or above the asking one, conflicts
      pub waits_when : ((must_wait s t (wait_for s t (asking_of s t))).when ≡ true) ↔ ((h : ℕ) × (x : ℕ) × Conflicting s t asking h x)
      waits_when = (
        (λ e. let b = (waits_exactly a).0 e in (at s.lists.holder b.0, b.0, blocks_conflicts b.0 b.1 b.2)),
        (λ c. let b = conflicts_blocks c.0 c.1 c.2 in (waits_exactly a).1 (c.1, b.0, b.2)),
      )

      -- 13 names the lowest-numbered such access as b and the holder of its list as a
      pub waits_names : (must_wait s t (wait_for s t (asking_of s t))).when ≡ true
          → Conflicting s t asking (at s.lists.holder (wait_for s t (asking_of s t))) (wait_for s t (asking_of s t))
          × ((h x : ℕ) → Conflicting s t asking h x → wait_for s t (asking_of s t) ≤ x)
      waits_names e =
          let l = waits_lowest a e in (
            blocks_conflicts (wait_for s t (asking_of s t)) l.small l.passes,
            (λ h x c. ⊎_elim (λ g. g) (λ g. absurd (true≢false (sym (conflicts_blocks h x c).2 ∙ l.none_lower x g))) (le_or (wait_for s t (asking_of s t)) x)),
          )

module _ (s : Store) (t : ℕ) where
  -- an access of a store in form asks something
  pub asking_known : in_form s ≡ true → t ≤ s.tree.count → (at s.accesses.operation t ≡ 0 → ⊥) → (asking : Answered) × Asking s t asking
  asking_known fine known access =
      let form : Form s = form_facts s fine in
      let row : t < rows_most = omega (arith, form.tree.few) in
      let fits = form.accesses.fit t row (asked_access _ _ _ _ _ _ _ _ form.accesses t row access) in
      (record { operation = fits.ask; outcome = (step_of (state_for s (at s.accesses.object t) t) fits.ask).outcome }, record { asked = fits.fit; result = refl })

  pub respond_waits : (respond_of s t).answer.code ≡ 13 → Waits s t (respond_of s t).answer
  respond_waits e =
      let first : FirstToHold (respond_refusals s t) 7 = ((respond_decided s t).exactly 7 (omega arith)).0 e in
      let fine : in_form s ≡ true = not-false _ (first.none_earlier 0 (omega arith)) in
      let asks = asking_known fine (ltb-false _ _ (first.none_earlier 1 (omega arith))) (eqb-false _ _ (first.none_earlier 3 (omega arith))) in
      let names = waits_names s t asks.0 fine asks.1 first.holds in
      record {
        blocked =
            record {
              asking = asks.0;
              asked = asks.1;
              holder = at s.lists.holder (wait_for s t (asking_of s t));
              access = wait_for s t (asking_of s t);
              conflicting = names.0;
            };
        answered = ap (λ r. r.answer) ((respond_decided s t).whole 7 (omega arith) first);
        lowest = names.1;
      }

  pub respond_granted : (respond_of s t).answer.code ≡ 0 → Granted s t (respond_of s t).answer
  respond_granted e =
      let passed = (respond_decided s t).passed.0 e in
      let fine : in_form s ≡ true = not-false _ (passed 0 (omega arith)) in
      let asks = asking_known fine (ltb-false _ _ (passed 1 (omega arith))) (eqb-false _ _ (passed 3 (omega arith))) in
      record {
        asking = asks.0;
        asked = asks.1;
        answered =
            ap (λ r. r.answer) ((respond_decided s t).does e)
            ∙ ap (λ r. answer_of 0 (result_of r).a (result_of r).b) (asking_as s t asks.0 asks.1);
        free = λ h x c. true≢false (sym ((waits_when s t asks.0 fine asks.1).1 (h, x, c)) ∙ passed 7 (omega arith));
      }

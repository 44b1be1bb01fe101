-- The store that a call hands back is in form, whatever the answer. Source: document 01, "Form rules of a store".
use Rattle.std.specs.Prelude.{Some}
use Prim.Native.Nat.{ℕ, ◌+◌, ◌<◌, ◌≤◌}
use mathlib.Core.Path.{◌≡◌, refl, sym, ap, ◌∙◌}
use mathlib.Core.Bool.{true, false, true≢false}
use mathlib.Core.List.{List, ◌∷◌}
use native.Mathlib.Omega.{arith}
use lib.IntN.{ℤ, pos}
use lib.Dec.{eqb, leb, ltb}
use lib.ListN.{length, get_or, set, replicate, length-replicate}
use lib.Seq.{set-get_or}
use borrow.Author.Tests.{ltb-false, leb-false, eqb-true, eqb-false, not-false}
use Rattle.below.proofs.Tests.{and_snd}
use Rattle.below.proofs.Search.{all_at}
use Rattle.below.proofs.Column.{set_at, set_past, filled_at}
use Rattle.kinds.specs.declared.Operation.{Operation}
use Rattle.kinds.specs.Kinds.{decode_of, step_of}
use Rattle.kinds.specs.Outcome.{numbers_of}
use Rattle.kinds.proofs.Claims.{answers_recalled}
use Rattle.kinds.proofs.Fits.{fit_number}
use Rattle.columns.specs.Column.{at, at_z, rows_most}
use Rattle.columns.specs.Tree.{has_committed, has_aborted, at_or_above}
use Rattle.columns.specs.declared.lists.Lists as work
use Rattle.form.specs.Form.{objects_most, count_most}
use Rattle.form.proofs.Facts.{Objects, Used, Blank, Accesses, Lists, unanswered_unlisted}
use Rattle.form.proofs.KeptTree.{set_next, state_kept, tree_created, tree_opened}
use Rattle.form.proofs.KeptAccesses.{root_plain, answer_kept, plain_created, access_created, accesses_opened, objects_none}
use Rattle.form.proofs.KeptLists.{dropped_kept, moved_kept, answered_kept, lists_created, lists_opened}
use Rattle.store.specs.declared.Store.{Store}
use Rattle.refusal.specs.declared.Request.{Request}
use Rattle.refusal.specs.declared.Child.{Child}
use Rattle.refusal.specs.declared.Child.TheVariants as C
use Rattle.store.specs.Form.{in_form}
use Rattle.refusal.specs.Refusal.{Refusal}
use Rattle.store.specs.Refusal.{malformed}
use Rattle.refusal.specs.Exact.{FirstToHold}
use Rattle.store.specs.Lists.{kind_at, asked_at, state_for}
use Rattle.store.specs.Create.{no_object, unfit, request_of, created, create_refusals, create_of}
use Rattle.store.specs.Respond.{asking_of, result_of, responded, respond_refusals, respond_of}
use Rattle.store.specs.Finish.{finished_as, committed, commit_refusals, commit_of, aborted, abort_refusals, abort_of}
use Rattle.refusal.specs.Open.{opens_at, openable}
use Rattle.store.specs.Open.{store_of, opened_store, open_of}
use Rattle.store.specs.Effects.{Sized}
use Rattle.store.proofs.Facts.{Form, form_facts, facts_form}
use Rattle.store.proofs.Refusals.{handed_back}
use Rattle.store.proofs.Answers.{create_codes, respond_codes, commit_codes, abort_codes}
use Rattle.refusal.proofs.Opens.{few}
use Rattle.store.proofs.Opens.{opened_or_empty}
use Rattle.store.proofs.Creating.{fitting}
use Rattle.store.proofs.Responding.{Askable, has_place}
use Rattle.store.proofs.Effects.{accepted_asks}
use Rattle.store.proofs.Views.{state_bounded}

-- a number that is given, and not the root's
given : (s : Store) (t : ℕ) → ltb s.tree.count t ≡ false → eqb t 0 ≡ false → Used s.tree.count t
given s t m r = (omega (arith, eqb-false t 0 r), ltb-false s.tree.count t m)

-- what is written stands there already
same_at : {A : Type 0} (z : A) (column : List A) (k : ℕ) → get_or column k z ≡ z → set column k z ≡ column
same_at z column k e = ap (set column k) (sym e) ∙ set-get_or column k z

module _ (s : Store) (e : in_form s ≡ true) where
  form : Form s
  form = form_facts s e

  -- t commits or aborts, and the lists change so that they keep their form
  finished_kept : (t state : ℕ) (w : work.Lists) → Used s.tree.count t → state ≤ has_aborted
      → Lists s.tree.count s.tree.parent s.accesses.outcome w.listed w.order w.holder w.place → Form (finished_as s t state w)
  finished_kept t state w u b l = record {
    objects = form.objects;
    tree = state_kept s.tree.count s.tree.parent s.tree.state s.accesses.operation form.tree t state u b;
    accesses = form.accesses;
    lists = l;
  }

  committed_kept : (t : ℕ) → Used s.tree.count t → Form (committed s t)
  committed_kept t u = finished_kept t has_committed _ u (omega arith)
      (moved_kept s.tree.count s.tree.parent s.tree.state s.accesses.operation s.accesses.outcome s.lists.listed s.lists.order s.lists.holder s.lists.place form.tree form.lists t u)

  aborted_kept : (t : ℕ) → Used s.tree.count t → Form (aborted s t)
  aborted_kept t u = finished_kept t has_aborted _ u (omega arith)
      (dropped_kept s.tree.count s.tree.parent s.tree.state s.accesses.operation s.accesses.outcome s.lists.listed s.lists.order s.lists.holder s.lists.place form.tree form.lists
      (λ x. at_or_above s.tree.parent (at s.lists.holder x) t))

  -- the asking access, of which nothing is on record yet
  module _ (sized : Sized s) (t : ℕ) (asking : Askable s t) where
    used : Used s.tree.count t
    used = (asking.some, asking.known)

    row : t < rows_most
    row = omega (arith, asking.known, form.tree.few)

    unlisted : at s.lists.place t ≡ 0
    unlisted = unanswered_unlisted _ _ _ _ _ _ _ form.lists t row asking.blank

    -- the result has a shape that the operation allows
    result_kept : (o : Operation) → asked_at s (at s.accesses.object t) t ≡ Some o → Form (responded s t (result_of (asking_of s t)))
    result_kept o fit =
        let state = state_for s (at s.accesses.object t) t in
        let has = state_bounded s e (at s.accesses.object t) t (form.accesses.known t row (used, asking.asks)) asking.known in
        let shape = answers_recalled (kind_at s (at s.accesses.object t)) (at s.accesses.operation t) (at_z s.accesses.argument t) o state fit has.0 has.1 in
        let r = numbers_of (step_of state o).outcome in
        rw fit
        (record {
          objects = form.objects;
          tree = form.tree;
          accesses = answer_kept s.objects.count s.objects.kind s.tree.count s.accesses.object s.accesses.operation s.accesses.argument s.accesses.outcome s.accesses.value form.accesses
              t r.a r.b o (step_of state o).outcome (used, asking.asks) fit shape (omega (arith, row, sized.outcome)) (omega (arith, row, sized.value));
          lists = answered_kept s.tree.count s.tree.parent s.tree.state s.accesses.operation s.accesses.outcome s.lists.listed s.lists.order s.lists.holder s.lists.place form.tree form.lists
              t (r.a + 1) used unlisted (λ z. omega arith) (omega (arith, row, sized.outcome))
              (omega (arith, sized.order, has_place s t asking)) (omega (arith, row, sized.holder)) (omega (arith, row, sized.place));
        })

    responded_kept : Form (responded s t (result_of (asking_of s t)))
    responded_kept = let f = form.accesses.fit t row (used, asking.asks) in result_kept f.ask f.fit

  -- the next number is free
  module _ (sized : Sized s) (free : s.tree.count < count_most) where
    abbrev next : ℕ
    next = s.tree.count + 1

    -- its row has zeros
    next_blank : Blank (at s.accesses.object next) (at s.accesses.operation next) (at_z s.accesses.argument next) (at s.accesses.outcome next) (at_z s.accesses.value next)
    next_blank = form.accesses.blank next (omega arith) (λ a. omega (arith, a.0.1))

    abbrev Asks : Request → Type 0
    Asks r =
        Accesses s.objects.count s.objects.kind next (set s.accesses.object next r.object) (set s.accesses.operation next r.operation) (set s.accesses.argument next r.argument)
        s.accesses.outcome s.accesses.value

    asks_fine : (child : Child) → (no_object s child).when ≡ false → (unfit s child).when ≡ false → Asks (request_of child)
    asks_fine C.Plain known fit =
        rw (
          same_at 0 s.accesses.object next next_blank.no_object_lem,
          same_at 0 s.accesses.operation next next_blank.no_operation,
          same_at (pos 0) s.accesses.argument next next_blank.no_argument,
        )
        (plain_created s.objects.count s.objects.kind s.tree.count s.accesses.object s.accesses.operation s.accesses.argument s.accesses.outcome s.accesses.value form.accesses)
    asks_fine (C.Access r) known fit =
        let f = fitting (decode_of (kind_at s r.object) r.operation r.argument) fit in
        let number = fit_number (kind_at s r.object) r.operation r.argument f.0 f.1 in
        access_created s.objects.count s.objects.kind s.tree.count s.accesses.object s.accesses.operation s.accesses.argument s.accesses.outcome s.accesses.value form.accesses
        r.object r.operation r.argument f.0 free (leb-false s.objects.count r.object known) (λ z. omega (arith, number.0)) f.1
        (omega (arith, sized.object)) (omega (arith, sized.operation)) (omega (arith, sized.argument))

    -- p's new child
    created_kept : (p : ℕ) (r : Request) → p ≤ s.tree.count → at s.accesses.operation p ≡ 0 → Asks r → Form (created s p r)
    created_kept p r known plain a = record {
      objects = form.objects;
      tree = tree_created s.tree.count s.tree.parent s.tree.state s.accesses.operation form.tree p (set s.accesses.operation next r.operation) free known plain
          (root_plain s.objects.count s.objects.kind s.tree.count s.accesses.object s.accesses.operation s.accesses.argument s.accesses.outcome s.accesses.value form.accesses)
          (set_next s.accesses.operation s.tree.count r.operation);
      accesses = a;
      lists = lists_created s.tree.count s.tree.parent s.tree.state s.accesses.operation s.accesses.outcome s.lists.listed s.lists.order s.lists.holder s.lists.place form.tree form.lists p;
    }

-- What a call tested is what its change of the store needs: `n i` says that the i-th of its refusals does not hold.
module _ (s : Store) (t : ℕ) (e : in_form s ≡ true) where
  pub commit_kept : in_form (commit_of s t).store ≡ true
  unfolding commit_of
  commit_kept = handed_back (λ z. in_form z ≡ true) s (commit_refusals s t) _ e (λ n. facts_form _ (committed_kept s e t (given s t (n 1 (omega arith)) (n 2 (omega arith)))))

  pub abort_kept : in_form (abort_of s t).store ≡ true
  unfolding abort_of
  abort_kept = handed_back (λ z. in_form z ≡ true) s (abort_refusals s t) _ e (λ n. facts_form _ (aborted_kept s e t (given s t (n 1 (omega arith)) (n 2 (omega arith)))))

  pub respond_kept : Sized s → in_form (respond_of s t).store ≡ true
  unfolding respond_of
  respond_kept sized = handed_back (λ z. in_form z ≡ true) s (respond_refusals s t) _ e
      (λ n. facts_form _ (responded_kept s e sized t (accepted_asks s t n)))

pub create_kept : (s : Store) (p : ℕ) (child : Child) → in_form s ≡ true → Sized s → in_form (create_of s p child).store ≡ true
unfolding create_of
create_kept s p child e sized = handed_back (λ z. in_form z ≡ true) s (create_refusals s p child) _ e
    (λ n. let free = leb-false count_most s.tree.count (n 7 (omega arith)) in
    facts_form _ (created_kept s e sized free p (request_of child) (ltb-false s.tree.count p (n 1 (omega arith))) (eqb-true (at s.accesses.operation p) 0 (not-false _ (n 2 (omega arith))))
    (asks_fine s e sized free child (n 5 (omega arith)) (n 6 (omega arith)))))

-- each object of an opening opens
opens_each : (kinds : List ℕ) (openings : List ℤ) → openable kinds openings ≡ true → (o : ℕ) → o < length kinds → opens_at kinds openings o ≡ true
opens_each kinds openings e o h =
    let some = and_snd (eqb (length kinds) (length openings)) _ e in
    all_at (opens_at kinds openings) (length kinds) o (and_snd (leb (length kinds) objects_most) _ (and_snd (ltb 0 (length kinds)) _ some)) h

-- the store with these objects and no transactions
store_kept : (objects : ℕ) (kind : List ℕ) (opening : List ℤ) → Objects objects kind opening → in_form (store_of objects kind opening) ≡ true
store_kept objects kind opening f =
    facts_form (store_of objects kind opening) (record { objects = f; tree = tree_opened; accesses = accesses_opened objects kind; lists = lists_opened })

-- the objects of an opened store: each as it was given, and zeros past them
module _ (kinds : List ℕ) (openings : List ℤ) where
  pub kind_at_lem : (o : ℕ) → o < length kinds → o < objects_most → at (opened_store kinds openings).objects.kind o ≡ at kinds o
  kind_at_lem o h b = set_at (at kinds) (length kinds) o (replicate objects_most 0) 0 h (rw length-replicate b)

  pub opening_at : (o : ℕ) → o < length kinds → o < objects_most → at_z (opened_store kinds openings).objects.opening o ≡ at_z openings o
  opening_at o h b = set_at (at_z openings) (length kinds) o (replicate objects_most (pos 0)) (pos 0) h (rw length-replicate b)

  opened_objects : openable kinds openings ≡ true → Objects (length kinds) (opened_store kinds openings).objects.kind (opened_store kinds openings).objects.opening
  opened_objects e =
      let most = few kinds openings e in
      record {
        few = most;
        opened = λ o h. rw (kind_at_lem o h (omega arith), opening_at o h (omega arith)) (opens_each kinds openings e o h);
        unused_kind = λ o h b. set_past (at kinds) (length kinds) o (replicate objects_most 0) _ 0 refl h ∙ filled_at 0 objects_most o;
        unused_opening = λ o h b. set_past (at_z openings) (length kinds) o (replicate objects_most (pos 0)) _ (pos 0) refl h ∙ filled_at (pos 0) objects_most o;
      }

  pub open_kept : in_form (open_of kinds openings).store ≡ true
  open_kept = opened_or_empty (λ z. in_form z ≡ true) kinds openings
      (λ e. store_kept _ _ _ (opened_objects e)) (store_kept _ _ _ objects_none)

-- Of a store in form no call answers 15. Since every opening and every call hands back a store in form, none ever does.
module _ (s : Store) (e : in_form s ≡ true) where
  well_formed : (rest : List Refusal) → FirstToHold (malformed s ∷ rest) 0 → ⊥
  well_formed rest f = true≢false (sym f.holds ∙ rw e)

  pub code_15_never : ((p : ℕ) (child : Child) → (create_of s p child).answer.code ≡ 15 → ⊥) × ((t : ℕ) → (respond_of s t).answer.code ≡ 15 → ⊥)
      × ((t : ℕ) → (commit_of s t).answer.code ≡ 15 → ⊥) × ((t : ℕ) → (abort_of s t).answer.code ≡ 15 → ⊥)
  code_15_never = (
    (λ p child q. well_formed _ ((create_codes s p child 0 (omega arith)).0 q)),
    (λ t q. well_formed _ ((respond_codes s t 0 (omega arith)).0 q)),
    (λ t q. well_formed _ ((commit_codes s t 0 (omega arith)).0 q)),
    (λ t q. well_formed _ ((abort_codes s t 0 (omega arith)).0 q)),
  )

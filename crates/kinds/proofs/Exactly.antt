-- Why a table says conflict exactly where 6.2 does, for any kind. Each class of answer is what it needs of the state and what it does to it (its form). At
-- every entry these decide: either the two swap in every state, or there is a smallest state at which each alone is right and they do not.
use Rattle.std.specs.Prelude.{None}
use mathlib.Core.Path.{◌≡◌, refl, sym, subst, ◌∙◌}
use mathlib.Core.Bool.{Bool, true, false, true≢false}
use mathlib.Core.Logic.{◌⊎◌, ⊎_elim}
use Prim.Native.Nat.{ℕ}
use lib.IntN.{ℤ}
use lib.Signed.{le_z}
use Rattle.theory.specs.Serial.{Right, Alike, Swaps}
use Rattle.theory.proofs.Forms as forms
use Rattle.kinds.specs.Table.{entry, judge, in_row}
use Rattle.kinds.specs.Kinds.{step_of, class_of, table_of, conflict_of}
use Rattle.kinds.specs.Object.{StateOf, object_of, op_of, Fits}
use Rattle.kinds.specs.Cause.{Possible, Cause, SmallestCause, value_of}
use Rattle.kinds.specs.Witness.{witness_of}
use Rattle.kinds.specs.declared.Kind.{Kind}
use Rattle.kinds.specs.declared.State.{State}
use Rattle.kinds.specs.declared.Operation.{Operation}
use Rattle.kinds.specs.declared.outcome.Outcome.{Outcome}
use Rattle.kinds.specs.declared.Answered.{Answered}
use Rattle.kinds.proofs.Keys.{not_above_itself}
use Rattle.kinds.proofs.Entries.{size, sized, mirror, verdict_sym, no_column}
use Rattle.kinds.proofs.Takes.{Takes, decoded_takes}

-- A kind in these terms: what its states are made of, its own operations, an answer of each class by its row and its key, the answer's form, and for two
-- answers the state at which they differ, if they conflict.
pub record Terms (kind : Kind) : Type 1 where
  pub N : Type 0
  pub O : Type 0
  pub make : N → State
  pub ask : O → Operation
  pub Seen : ℕ → ℤ → O → Outcome → Type 0
  pub form : {a : ℕ} {k : ℤ} {o : O} {r : Outcome} → Seen a k o r → forms.Form (object_of kind) make (record { ask = ask o; reply = r })
  pub witness : O → Outcome → O → Outcome → N

module _ {kind : Kind} (s : Terms kind) where
  abbrev answered : s.O → Outcome → Answered
  answered o r = record { operation = s.ask o; outcome = r }

  -- the operation's argument is in range, and some state of the kind gives the answer
  pub record Met {a : ℕ} {k : ℤ} {o : s.O} {r : Outcome} (p : s.Seen a k o r) : Type 0 where
    pub takes : Takes kind (s.ask o)
    pub at : s.N
    pub has : StateOf kind (s.make at)
    pub needed : (s.form p).Need at

  module _ {a a' : ℕ} {k k' : ℤ} {o o' : s.O} {r r' : Outcome} (p : s.Seen a k o r) (q : s.Seen a' k' o' r') where
    abbrev pub Agree : s.N → Type 0
    Agree n = forms.Agree (object_of kind) s.make (s.form p) (s.form q) n

    -- the smallest state at which each alone is right, and the two orders are not
    pub record Smallest (w : s.N) : Type 0 where
      pub has : StateOf kind (s.make w)
      pub first : (s.form p).Need w
      pub second : (s.form q).Need w
      pub differ : ¬ Agree w
      pub least : (n : s.N) → (s.form p).Need n → (s.form q).Need n → ¬ Agree n → le_z (value_of (s.make w)) (value_of (s.make n)) ≡ true

    -- they agree wherever each alone is right; or there is a state where they do not
    abbrev pub Everywhere : Type 0
    Everywhere = (n : s.N) → forms.Orders (object_of kind) s.make (s.form p) (s.form q) n

    abbrev pub Somewhere : Type 0
    Somewhere = Met p → Met q → Smallest (s.witness o r o' r')

    -- what a verdict has to mean
    abbrev pub Means : Bool → Type 0
    Means false = Everywhere
    Means true = Somewhere

    abbrev pub judged : Bool
    judged = judge (entry (table_of kind) a a') k k'

    abbrev pub Stands : Type 0
    Stands = Means judged

    by_test : (b : Bool) → (b ≡ false → Everywhere) × (b ≡ true → Somewhere) → Means b
    by_test false h = h.0 refl
    by_test true h = h.1 refl

    pub tested : (judged ≡ false → Everywhere) × (judged ≡ true → Somewhere) → Stands
    tested h = by_test judged h

    pub passing : judged ≡ false → Everywhere → Stands
    passing e h = tested (λ f. h, λ t. cc)

    pub conflicting : judged ≡ true → Somewhere → Stands
    conflicting e h = tested (λ f. cc, λ t. h)

    -- a cause where the first is right in one state alone
    pub at_one : ((n : s.N) → (s.form p).Need n → s.witness o r o' r' ≡ n) → ((n : s.N) → (s.form p).Need n → (s.form q).Need n)
        → ((n : s.N) → (s.form p).Need n → ¬ Agree n) → Met p → Smallest (s.witness o r o' r')
    at_one one second differ m =
        let e = one m.at m.needed in
        record {
          has = rw e m.has;
          first = rw e m.needed;
          second = rw e (second m.at m.needed);
          differ = rw e (differ m.at m.needed);
          least = λ n h k d. rw (one n h) (not_above_itself (value_of (s.make n)));
        }

  turned : {a a' : ℕ} {k k' : ℤ} {o o' : s.O} {r r' : Outcome} (p : s.Seen a k o r) (q : s.Seen a' k' o' r') {n : s.N} → Agree p q n → Agree q p n
  turned p q e = (e.1, e.0, sym e.2)

  -- an entry and its mirror image
  module _ {a a' : ℕ} {k k' : ℤ} {o o' : s.O} {r r' : Outcome} (p : s.Seen a k o r) (q : s.Seen a' k' o' r') where
    other_way : s.witness o r o' r' ≡ s.witness o' r' o r → (b : Bool) → Means p q b → Means q p b
    other_way e false h = λ n hq hp. turned p q (h n hp hq)
    other_way e true h = λ mq mp.
        let c = h mp mq in
        subst (Smallest q p) e
        (record {
          has = c.has;
          first = c.second;
          second = c.first;
          differ = λ both. c.differ (turned q p both);
          least = λ n hq hp d. c.least n hp hq (λ both. d (turned p q both));
        })

    same_verdict : judged p q ≡ judged q p
    same_verdict = verdict_sym (table_of kind) (size kind) (sized kind) (mirror kind) (in_row a k) (in_row a' k')

    pub mirrored : s.witness o r o' r' ≡ s.witness o' r' o r → Stands p q → Stands q p
    mirrored e h = subst (Means q p) same_verdict (other_way e (judged p q) h)

  -- a state is made of the kind's numbers, in range or not, or its operations change nothing there
  abbrev pub Made : State → Type 0
  Made t = (n : s.N) × (s.make n ≡ t)

  abbrev pub Placed : State → Type 0
  Placed t = Made t ⊎ ((o : s.O) → (step_of t (s.ask o)).state ≡ t)

  -- an operation is the kind's, or it has no class
  abbrev pub Own : Operation → Type 0
  Own o = (p : s.O) × (s.ask p ≡ o)

  abbrev pub Asked : Operation → Type 0
  Asked o = Own o ⊎ ((r : Outcome) → class_of kind o r ≡ None)

  -- an answer has a class, or no state gives it
  abbrev pub Sorted : s.O → Outcome → Type 0
  Sorted o r =
      ((a : ℕ) × (k : ℤ) × (class_of kind (s.ask o) r ≡ in_row a k) × s.Seen a k o r)
      ⊎ ((class_of kind (s.ask o) r ≡ None) × ((n : s.N) → ¬ Right (object_of kind) (s.make n) (op_of kind (answered o r))))

abbrev Passes : Kind → Answered → Answered → Type 0
Passes kind p q =
    conflict_of kind p q ≡ false → (t : State) → Right (object_of kind) t (op_of kind p) → Right (object_of kind) t (op_of kind q)
    → Swaps (object_of kind) (op_of kind p) (op_of kind q) t

abbrev Caused : Kind → Answered → Answered → Type 0
Caused kind p q = conflict_of kind p q ≡ true → Possible kind p → Possible kind q → SmallestCause kind p q (witness_of kind p q)

-- What follows of the kind.
pub record Exact (kind : Kind) : Type 0 where
  pub passes : (p q : Answered) → Passes kind p q
  pub caused : (p q : Answered) → Caused kind p q

-- What is asked of it; at every entry the table stands for what the forms say.
module _ {kind : Kind} (s : Terms kind)
    (same : (n m : s.N) → Alike (object_of kind) (s.make n) (s.make m) → n ≡ m)
    (made : (t : State) → StateOf kind t → Made s t)
    (placed : (t : State) → Placed s t)
    (taken : (o : Operation) → Takes kind o → Own s o)
    (asked : (o : Operation) → Asked s o)
    (sorted : (o : s.O) (r : Outcome) → Sorted s o r)
    (is-witness : (o : s.O) (r : Outcome) (o' : s.O) (r' : Outcome) → s.make (s.witness o r o' r') ≡ witness_of kind (answered s o r) (answered s o' r'))
    (stands : (a a' : ℕ) (k k' : ℤ) (o o' : s.O) (r r' : Outcome) (p : s.Seen a k o r) (q : s.Seen a' k' o' r') → Stands s p q) where
  -- two answers at their row and column
  module _ {a a' : ℕ} {k k' : ℤ} {o o' : s.O} {r r' : Outcome} (p : s.Seen a k o r) (q : s.Seen a' k' o' r') where
    abbrev SwapsAt : State → Type 0
    SwapsAt t =
        Right (object_of kind) t (op_of kind (answered s o r)) → Right (object_of kind) t (op_of kind (answered s o' r'))
        → Swaps (object_of kind) (op_of kind (answered s o r)) (op_of kind (answered s o' r')) t

    entry_swaps : Everywhere s p q → (t : State) → SwapsAt t
    entry_swaps h t =
        ⊎_elim
        (λ m. subst SwapsAt m.1 (forms.swaps (object_of kind) s.make (s.form p) (s.form q) m.0 (h m.0)))
        (λ idle. forms.idle_swaps (object_of kind) _ _ t (idle o) (idle o'))
        (placed t)

    abbrev CauseAt : State → Type 0
    CauseAt t = Cause kind (answered s o r) (answered s o' r') t

    entry_caused : (w : s.N) → Smallest s p q w → SmallestCause kind (answered s o r) (answered s o' r') (s.make w)
    entry_caused w c =
        record {
          cause = record {
            has = c.has;
            p_right = (s.form p).right w c.first;
            q_right = (s.form q).right w c.second;
            differ = λ swap. c.differ (forms.orders (object_of kind) s.make (s.form p) (s.form q) (same) w swap c.first c.second);
          };
          least = λ t h.
              let m = made t h.has in
              let at : CauseAt (s.make m.0) = subst CauseAt (sym m.1) h in
              subst (λ t. le_z (value_of (s.make w)) (value_of t) ≡ true) m.1
              (c.least m.0 ((s.form p).tells m.0 at.p_right) ((s.form q).tells m.0 at.q_right)
              (λ both. at.differ (forms.swaps (object_of kind) s.make (s.form p) (s.form q) m.0 (λ hp hq. both) at.p_right at.q_right)));
        }

  own_swaps : (o o' : s.O) (r r' : Outcome) → Passes kind (answered s o r) (answered s o' r')
  own_swaps o o' r r' e =
      ⊎_elim
      (λ x. ⊎_elim
      (λ y. let f : judged s x.3 y.3 ≡ false = rw (x.2, y.2) at e in entry_swaps x.3 y.3 (rw f at (stands x.0 y.0 x.1 y.1 o o' r r' x.3 y.3)))
      (λ none. absurd (true≢false (rw (x.2, none.0) at e)))
      (sorted o' r'))
      (λ none. absurd (true≢false (rw none.0 at e)))
      (sorted o r)

  -- the state that gives a possible answer, in the kind's own terms
  module _ {o : s.O} {r : Outcome} (h : Possible kind (answered s o r)) where
    abbrev given : Made s h.state
    given = made h.state h.has

    gives : Right (object_of kind) (s.make given.0) (op_of kind (answered s o r))
    gives = subst (λ t. Right (object_of kind) t (op_of kind (answered s o r))) (sym given.1) h.gives

    met : {a : ℕ} {k : ℤ} (p : s.Seen a k o r) → Met s p
    met p =
        record {
          takes = decoded_takes kind h.fits.0 h.fits.1 (s.ask o) h.fits.2;
          at = given.0;
          has = subst (StateOf kind) (sym given.1) h.has;
          needed = (s.form p).tells given.0 gives;
        }

  own_caused : (o o' : s.O) (r r' : Outcome) → Caused kind (answered s o r) (answered s o' r')
  own_caused o o' r r' e hp hq =
      subst (SmallestCause kind (answered s o r) (answered s o' r')) (is-witness o r o' r')
      (⊎_elim
      (λ x. ⊎_elim
      (λ y. let t : judged s x.3 y.3 ≡ true = rw (x.2, y.2) at e in
      entry_caused x.3 y.3 (s.witness o r o' r') ((rw t at (stands x.0 y.0 x.1 y.1 o o' r r' x.3 y.3)) (met hp x.3) (met hq y.3)))
      (λ none. absurd (none.1 (given hq).0 (gives hq)))
      (sorted o' r'))
      (λ none. absurd (none.1 (given hp).0 (gives hp)))
      (sorted o r))

  -- what holds of the kind's own operations holds of those that are such
  lifted : (P : Answered → Answered → Type 0) (p q : Answered) → ((o o' : s.O) → P (answered s o p.outcome) (answered s o' q.outcome))
      → Own s p.operation → Own s q.operation → P p q
  lifted P p q own x y =
      subst (λ b. P p (record { operation = b; outcome = q.outcome })) y.1
      (subst (λ a. P (record { operation = a; outcome = p.outcome }) (answered s y.0 q.outcome)) x.1 (own x.0 y.0))

  passes_swap : (p q : Answered) → Passes kind p q
  passes_swap p q =
      ⊎_elim
      (λ x. ⊎_elim
      (λ y. lifted (Passes kind) p q (λ o o'. own_swaps o o' p.outcome q.outcome) x y)
      (λ none e. absurd (true≢false (sym (no_column (table_of kind) (class_of kind p.operation p.outcome)) ∙ rw (none q.outcome) at e)))
      (asked q.operation))
      (λ none e. absurd (true≢false (rw (none p.outcome) at e)))
      (asked p.operation)

  conflict_caused : (p q : Answered) → Caused kind p q
  conflict_caused p q e hp hq =
      let own : (o : Operation) → Fits kind o → Own s o = λ o h. taken o (decoded_takes kind h.0 h.1 o h.2) in
      lifted (Caused kind) p q (λ o o'. own_caused o o' p.outcome q.outcome) (own p.operation hp.fits) (own q.operation hq.fits) e hp hq

  pub exactly : Exact kind
  exactly = record { passes = passes_swap; caused = conflict_caused }

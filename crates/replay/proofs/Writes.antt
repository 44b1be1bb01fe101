-- The laws of last writes: that of two lists in a row, and so of a view; what a register is after it; the pass from the end that notes each list's.
use Rattle.std.specs.Prelude.{Option, Some, None}
use Prim.Native.Nat.{ℕ, suc, ◌+◌, ◌-◌, ◌<◌, ◌≤◌}
use mathlib.Core.Path.{◌≡◌, refl, sym, ap, ap₂, ◌∙◌}
use mathlib.Core.Bool.{Bool, true, false, cond}
use mathlib.Core.Logic.{◌⊎◌, inl, inr, ⊎_elim}
use mathlib.Core.List.{List, [], ◌∷◌, ◌++◌}
use native.Mathlib.Omega.{arith}
use lib.IntN.{ℤ}
use lib.ListN.{length, set, length-set}
use lib.Seq.{get_or-set_same, get_or-set_other}
use borrow.Author.Tests.{eq-eqb, ne_eqb}
use Rattle.below.specs.Climb.{Lower}
use Rattle.below.proofs.Climb.{lower_to, climb_root, climb_step, climb_ind}
use Rattle.below.proofs.Tests.{bool_or, same_or}
use Rattle.kinds.specs.declared.Kind.TheVariants.{Register}
use Rattle.kinds.specs.Register.{register_of}
use Rattle.kinds.specs.Kinds.{opened_of, start_of, opens}
use Rattle.columns.specs.Column.{at, at_z, rows_most}
use Rattle.columns.specs.Work.{work, on_list, list_in}
use Rattle.columns.proofs.Work.{Each, only_each, work_each}
use Rattle.replay.specs.Access.{asked_of}
use Rattle.replay.specs.View.{view_in, after_one, after_all}
use Rattle.replay.specs.Chain.{Linkable}
use Rattle.replay.specs.Write.{is_write, or_else, last_write, nearest_in, noted}
use Rattle.replay.proofs.After.{after_none, after_cons}
use Rattle.replay.proofs.Views.{view_root, view_step, view_each}
use Rattle.replay.proofs.Past.{past_of, past_none, past_other, past_off, past_on, holder_row}
use Rattle.replay.proofs.Registers.{write_puts, others_keep, stays, write_opens, opens_register}
use Rattle.kinds.specs.declared.Operation.{Operation}

-- an access with a row
abbrev Row : ℕ → Type 0
Row x = (0 < x) × (x < rows_most)

noted_some : (x m : ℕ) → Some x ≡ noted m → (x ≡ m) × (m ≡ 0 → ⊥)
noted_some x m h =
    ⊎_elim (λ e. let q : Some x ≡ None = rw e at h in absurd (cc)) (λ n. let q : Some x ≡ Some m = rw (ne_eqb m 0 n) at h in (cc, n)) (same_or m 0)

noted_none : (m : ℕ) → None ≡ noted m → m ≡ 0
noted_none m h = ⊎_elim (λ e. e) (λ n. let q : None ≡ Some m = rw (ne_eqb m 0 n) at h in absurd (cc)) (same_or m 0)

or_none : (m : ℕ) → or_else m 0 ≡ m
or_none m = ⊎_elim (λ e. rw e) (λ n. rw (ne_eqb m 0 n)) (same_or m 0)

or_or : (a b c : ℕ) → or_else (or_else a b) c ≡ or_else a (or_else b c)
or_or a b c = ⊎_elim (λ e. rw (eq-eqb a 0 e)) (λ n. rw (ne_eqb a 0 n, ne_eqb a 0 n)) (same_or a 0)

module _ (asked : ℕ → Option Operation) where
  last_none : last_write asked [] ≡ 0
  unfolding last_write
  last_none = refl

  last_cons : (x : ℕ) (l : List ℕ) → last_write asked (x ∷ l) ≡ or_else (last_write asked l) (cond (is_write (asked x)) x 0)
  unfolding last_write
  last_cons x l = refl

  last_append : (l k : List ℕ) → last_write asked (l ++ k) ≡ or_else (last_write asked k) (last_write asked l)
  last_append [] k = rw last_none (sym (or_none (last_write asked k)))
  last_append (x ∷ l) k = rw (last_cons x (l ++ k), last_cons x l, last_append l k) (or_or (last_write asked k) (last_write asked l) _)

  -- without a write a list leaves every register as it is; with one it does what its last write does
  abbrev Settled : List ℕ → ℕ → Type 0
  Settled l m = ((m ≡ 0) × ((n : ℕ) → after_all asked l (register_of n) ≡ register_of n))
      ⊎ (Row m × (is_write (asked m) ≡ true) × ((n : ℕ) → after_all asked l (register_of n) ≡ after_one (asked m) (register_of n)))

  settled_cons : (x : ℕ) (l : List ℕ) (m : ℕ) → Row x → Settled l m → Settled (x ∷ l) (or_else m (cond (is_write (asked x)) x 0))
  settled_cons x l m r s = ⊎_elim
      (λ idle. rw (eq-eqb m 0 idle.0) (⊎_elim
      (λ w. rw w (let p = write_puts (asked x) w in inr (r, w, λ n. after_cons asked x l (register_of n) ∙ ap (after_all asked l) (p.1 n) ∙ idle.1 p.0 ∙ sym (p.1 n))))
      (λ w. rw w (inl (refl, λ n. after_cons asked x l (register_of n) ∙ ap (after_all asked l) (others_keep (asked x) w n) ∙ idle.1 n)))
      (bool_or (is_write (asked x)))))
      (λ done. rw (ne_eqb m 0 (λ z. omega (arith, done.0.0))) (inr (
        done.0,
        done.1,
        λ n.
            let y = stays (asked x) n in
            let p = write_puts (asked m) done.1 in
            after_cons asked x l (register_of n) ∙ ap (after_all asked l) y.1 ∙ done.2 y.0 ∙ p.1 y.0 ∙ sym (p.1 n),
      )))
      s

  settled : (l : List ℕ) → Each Row l → Settled l (last_write asked l)
  settled [] h = inl (last_none, λ n. after_none asked (register_of n))
  settled (x ∷ l) h = rw (last_cons x l) (settled_cons x l (last_write asked l) (h 0 (omega arith)) (settled l (λ k b. h (suc k) (omega arith))))

-- the nearest, one level at a time
module _ (parent last : List ℕ) (t : ℕ) where
  pub nearest_root : t ≡ 0 → nearest_in parent last t ≡ at last t
  nearest_root z = rw z (climb_root (at parent) (at last 0) _)

  nearest_step : Lower (t + 1) (at parent) → (t ≡ 0 → ⊥) → nearest_in parent last t ≡ or_else (at last t) (nearest_in parent last (at parent t))
  nearest_step low n = climb_step (at parent) (at last 0) _ t low (omega arith)

  -- t has a last write, or is the root and has none, or what is above it decides
  module _ (own : ℕ) (e : own ≡ at last t) where
    pub nearest_own : Lower (t + 1) (at parent) → (own ≡ 0 → ⊥) → own ≡ nearest_in parent last t
    nearest_own low n = sym (⊎_elim (λ z. nearest_root z ∙ sym e) (λ z. nearest_step low z ∙ rw (← e, ne_eqb own 0 n)) (same_or t 0))

    pub nearest_none : own ≡ 0 → t ≡ 0 → 0 ≡ nearest_in parent last t
    nearest_none n z = sym (nearest_root z ∙ sym e ∙ n)

    pub nearest_above : Lower (t + 1) (at parent) → own ≡ 0 → (t ≡ 0 → ⊥) → (p : ℕ) → p ≡ at parent t → (r : ℕ) → r ≡ nearest_in parent last p
        → r ≡ nearest_in parent last t
    nearest_above low n z p q r h = h ∙ rw (q, nearest_step low z, ← e, n)

-- a register after the view of t
module _ (parent order holder object : List ℕ) (listed o t : ℕ) (k : Linkable listed order holder) (b : t < rows_most) (low : Lower (t + 1) (at parent)) where
  abbrev own : ℕ → List ℕ
  own = list_in (work listed order) holder object o

  rows : Each Row (view_in parent own t)
  rows =
      view_each parent own Row (t + 1) low
      (λ u. only_each (on_list holder object o u) Row (work listed order) (work_each order Row listed (λ i h. (k.distinct.some i h, k.entries i h)))) t (omega arith)

  module _ (operation : List ℕ) (argument : List ℤ) (last : List ℕ) (w : (u : ℕ) → u < rows_most → at last u ≡ last_write (asked_of Register operation argument) (own u)) where
    abbrev asks : ℕ → Option Operation
    asks = asked_of Register operation argument

    -- the nearest last write is the view's
    nearest_last : nearest_in parent last t ≡ last_write asks (view_in parent own t)
    nearest_last =
        climb_ind (at parent) (t + 1) low (λ u. nearest_in parent last u ≡ last_write asks (view_in parent own u))
        (rw (view_root parent own) (nearest_root parent last 0 refl ∙ w 0 (omega arith)))
        (λ u z h up.
        let v = lower_to (at parent) (t + 1) (u + 1) low (omega arith) in
        rw (view_step parent own u v z) (nearest_step parent last u v (λ q. omega arith) ∙ ap₂ or_else (w u (omega arith)) up ∙ sym (last_append asks (view_in parent own (at parent u)) (own u))))
        t (omega arith)

    view_settled : Settled asks (view_in parent own t) (nearest_in parent last t)
    view_settled = rw nearest_last (settled asks (view_in parent own t) rows)

    -- a write that is found is the one that settles the view
    found : (x : ℕ) → Some x ≡ noted (nearest_in parent last t)
        → Row x × (is_write (asks x) ≡ true) × ((n : ℕ) → after_all asks (view_in parent own t) (register_of n) ≡ after_one (asks x) (register_of n))
    found x e =
        let m = noted_some x (nearest_in parent last t) e in
        rw m.0 (⊎_elim (λ s. absurd (m.1 s.0)) (λ s. s) view_settled)

    pub written_row : (x : ℕ) → Some x ≡ noted (nearest_in parent last t) → x < rows_most
    written_row x e = (found x e).0.1

    module _ (opening : ℤ) (h : opens (opened_of Register opening) ≡ true) where
      pub unwritten : None ≡ noted (nearest_in parent last t) → start_of (opened_of Register opening) ≡ after_all asks (view_in parent own t) (start_of (opened_of Register opening))
      unwritten e =
          let o = opens_register opening h in
          rw o.1 (⊎_elim (λ s. sym (s.1 o.0)) (λ s. absurd (omega (arith, noted_none (nearest_in parent last t) e, s.0.0))) view_settled)

      pub written : (x : ℕ) → Some x ≡ noted (nearest_in parent last t)
          → start_of (opened_of Register (at_z argument x)) ≡ after_all asks (view_in parent own t) (start_of (opened_of Register opening))
      written x e =
          let o = opens_register opening h in
          let s = found x e in
          rw o.1 (write_opens (at operation x) (at_z argument x) o.0 s.1 ∙ sym (s.2 o.0))

module _ (asked : ℕ → Option Operation) (order holder object : List ℕ) (listed o : ℕ) where
  abbrev rest : ℕ → ℕ → List ℕ
  rest = past_of order holder object listed o

  -- from the place i on, each holder's last write is noted
  pub record Noted (i : ℕ) (last : List ℕ) : Type 0 where
    pub size : length last ≡ rows_most
    pub lasts : (u : ℕ) → u < rows_most → at last u ≡ last_write asked (rest i u)

  pub noted_start : (last : List ℕ) → length last ≡ rows_most → ((u : ℕ) → u < rows_most → at last u ≡ 0) → Noted listed last
  noted_start last a z = record { size = a; lasts = λ u h. z u h ∙ sym (ap (last_write asked) (past_none order holder object listed o u) ∙ last_none asked) }

  module _ (i x : ℕ) (z : 0 < i) (b : i ≤ listed) (e : x ≡ at order (i - 1)) (last : List ℕ) (c : Noted i last) where
    pub noted_skip : (at object x ≡ o → ⊥) → Noted (i - 1) last
    noted_skip n = record { size = c.size; lasts = λ u h. c.lasts u h ∙ sym (ap (last_write asked) (past_other order holder object listed o i x z b e n u)) }

    module _ (h : ℕ) (q : at object x ≡ o) (w : h ≡ at holder x) where
      pub noted_turn : (out : List ℕ) → length out ≡ rows_most
          → at out h ≡ or_else (at last h) (cond (is_write (asked x)) x 0) → ((u : ℕ) → (u ≡ h → ⊥) → at out u ≡ at last u) → Noted (i - 1) out
      noted_turn out size here there = record {
        size = size;
        lasts = λ u l. ⊎_elim
            (λ s. ap (at out) s ∙ here ∙ ap (λ v. or_else (at last v) (cond (is_write (asked x)) x 0)) (sym s) ∙ ap (λ m. or_else m (cond (is_write (asked x)) x 0)) (c.lasts u l)
            ∙ sym (ap (last_write asked) (past_on order holder object listed o i x z b e h w q u s) ∙ last_cons asked x (rest i u)))
            (λ n. there u n ∙ c.lasts u l ∙ sym (ap (last_write asked) (past_off order holder object listed o i x z b e h w u n)))
            (same_or u h);
      }

      pub noted_later : (at last h ≡ 0 → ⊥) → Noted (i - 1) last
      noted_later n = noted_turn last c.size (rw (ne_eqb (at last h) 0 n)) (λ u n. refl)

      -- an entry is its holder's last write if it is a write and none is noted yet
      module _ (m : at last h ≡ 0) (d : Option Operation) (g : d ≡ asked x) (k : Bool) (v : k ≡ is_write d) where
        pub noted_write : k ≡ true → Linkable listed order holder → Noted (i - 1) (set last h (at order (i - 1)))
        noted_write y r =
            let l = holder_row order holder listed r i x z b e h w in
            let t : is_write (asked x) ≡ true = rw (← g) (sym v ∙ y) in
            noted_turn _ (length-set last h _ ∙ c.size) (get_or-set_same last h _ 0 (omega (arith, c.size)) ∙ sym e ∙ sym (rw (m, t))) (λ u n. get_or-set_other last h u _ 0 n)

        pub noted_read : k ≡ false → Noted (i - 1) last
        noted_read y =
            let t : is_write (asked x) ≡ false = rw (← g) (sym v ∙ y) in
            noted_turn last c.size (m ∙ sym (rw (m, t))) (λ u n. refl)

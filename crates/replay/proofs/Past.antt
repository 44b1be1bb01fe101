-- A pass over the order from its end to its first entry: what each list has from a place on, and one entry more.
use Prim.Native.Nat.{ℕ, zero, suc, ◌-◌, ◌<◌, ◌≤◌}
use mathlib.Core.Path.{◌≡◌, sym, ap, ◌∙◌}
use mathlib.Core.Bool.{true, false, and-false}
use mathlib.Core.List.{List, [], ◌∷◌}
use native.Mathlib.Omega.{arith}
use lib.Dec.{eqb}
use lib.ListN.{drop, drop_of_length-le}
use lib.Seq.{drop-cons}
use borrow.Author.Tests.{eq-eqb, ne_eqb}
use Rattle.columns.specs.Column.{at, rows_most}
use Rattle.columns.specs.Work.{work, only, on_list}
use Rattle.columns.proofs.Work.{cons_hit, cons_miss, only_nil, length_work, work_at}
use Rattle.replay.specs.Chain.{Linkable}

module _ (order : List ℕ) (listed : ℕ) where
  abbrev pub past : ℕ → List ℕ
  past i = drop i (work listed order)

  past_here : (i : ℕ) → 0 < i → i ≤ listed → past (i - 1) ≡ at order (i - 1) ∷ past i
  past_here zero z b = absurd (omega arith)
  past_here (suc i) z b =
      let q : suc i - 1 ≡ i = omega arith in
      rw q (drop-cons (work listed order) i 0 (rw length_work b) ∙ ap (λ x. x ∷ past (suc i)) (work_at order listed i (omega arith)))

module _ (order holder object : List ℕ) (listed o : ℕ) where
  -- what the list of u has from the place i on
  abbrev pub past_of : ℕ → ℕ → List ℕ
  past_of i u = only (on_list holder object o u) (past order listed i)

  pub past_none : (u : ℕ) → past_of listed u ≡ []
  past_none u =
      ap (only (on_list holder object o u)) (drop_of_length-le (work listed order) {i = listed} (omega (arith, length_work order listed)))
      ∙ only_nil (on_list holder object o u)

  -- the entry x before the place i
  module _ (i x : ℕ) (z : 0 < i) (b : i ≤ listed) (e : x ≡ at order (i - 1)) where
    past_miss : (u : ℕ) → on_list holder object o u x ≡ false → past_of (i - 1) u ≡ past_of i u
    past_miss u n = ap (only (on_list holder object o u)) (past_here order listed i z b) ∙ cons_miss (on_list holder object o u) _ (past order listed i) (rw (← e) n)

    -- if it is on another object, it is on no list of o
    pub past_other : (at object x ≡ o → ⊥) → (u : ℕ) → past_of (i - 1) u ≡ past_of i u
    past_other n u = past_miss u (rw (ne_eqb (at object x) o n) (and-false (eqb (at holder x) u)))

    -- it is on no list but its holder's, and on that one if it is on this object
    module _ (h : ℕ) (w : h ≡ at holder x) where
      pub past_off : (u : ℕ) → (u ≡ h → ⊥) → past_of (i - 1) u ≡ past_of i u
      past_off u n = past_miss u (rw (← w, ne_eqb h u (λ q. n (sym q))))

      pub past_on : at object x ≡ o → (u : ℕ) → u ≡ h → past_of (i - 1) u ≡ x ∷ past_of i u
      past_on q u s =
          let hit : on_list holder object o u x ≡ true = rw (eq-eqb (at holder x) u (sym w ∙ sym s)) (eq-eqb (at object x) o q) in
          ap (only (on_list holder object o u)) (past_here order listed i z b)
          ∙ ap (λ y. only (on_list holder object o u) (y ∷ past order listed i)) (sym e) ∙ cons_hit (on_list holder object o u) x (past order listed i) hit

-- an entry has a row, its own and not the root's, and so has its holder
module _ (order holder : List ℕ) (listed : ℕ) (k : Linkable listed order holder) (i x : ℕ) (z : 0 < i) (b : i ≤ listed) (e : x ≡ at order (i - 1)) where
  pub entry_some : 0 < x
  entry_some = rw e (k.distinct.some (i - 1) (omega arith))

  pub entry_row : x < rows_most
  entry_row = rw e (k.entries (i - 1) (omega arith))

  pub holder_row : (h : ℕ) → h ≡ at holder x → h < rows_most
  holder_row h w = rw (w, e) (k.holders (i - 1) (omega arith))

-- The laws of chains: a step on one, what a changed link does to each, and the pass that makes them.
use Prim.Native.Nat.{ℕ, zero, suc, ◌+◌, ◌-◌, ◌<◌, ◌≤◌}
use mathlib.Core.Path.{◌≡◌, refl, sym, ap, ◌∙◌, subst, subst₂}
use mathlib.Core.Logic.{⊎_elim}
use mathlib.Core.List.{List, [], ◌∷◌}
use native.Mathlib.Omega.{arith}
use lib.Dec.{eqb}
use lib.ListN.{length, set, length-set, length-drop}
use lib.Seq.{get_or-set_same, get_or-set_other, get_or-drop}
use borrow.Author.Tests.{eq-eqb, ne_eqb}
use Rattle.below.proofs.Tests.{bool_or, same_or}
use Rattle.columns.specs.Column.{at, rows_most}
use Rattle.columns.specs.Work.{work, on_list}
use Rattle.columns.proofs.Once.{Misses}
use Rattle.columns.proofs.Work.{only_each, length_work, work_at}
use Rattle.replay.specs.Chain.{Chain, chain_in, Linkable}
use Rattle.replay.proofs.Past.{past, past_of, past_none, past_other, past_off, past_on, entry_some, entry_row}

-- the chain says which list it is
pub chain_in_lem : (steps : ℕ) (next : List ℕ) (x : ℕ) (l : List ℕ) → Chain next x l → length l ≤ steps → chain_in steps next x ≡ l
unfolding Chain chain_in
chain_in_lem zero next x [] c h = refl
chain_in_lem zero next x (y ∷ l) c h = absurd (omega arith)
chain_in_lem (suc steps) next x [] c h = rw (eq-eqb x 0 c)
chain_in_lem (suc steps) next x (y ∷ l) c h =
    rw (c.0, ne_eqb y 0 (λ e. omega (arith, c.1))) (ap (λ r. y ∷ r) (chain_in_lem steps next (at next y) l c.3 (omega arith)))

chain_short : (steps : ℕ) (next : List ℕ) (x : ℕ) → length (chain_in steps next x) ≤ steps
unfolding chain_in
chain_short zero next x = omega arith
chain_short (suc steps) next x =
    let h = chain_short steps next (at next x) in
    ⊎_elim (λ e. rw e (omega arith)) (λ e. rw e (omega arith)) (bool_or (eqb x 0))

pub record Next (steps : ℕ) (next : List ℕ) (x : ℕ) : Type 0 where
  pub small : x < rows_most
  pub here : chain_in (suc steps) next x ≡ x ∷ chain_in (suc steps) next (at next x)
  pub ends : Chain next (at next x) (chain_in (suc steps) next (at next x))

-- one step on a chain
pub chain_next : (steps : ℕ) (next : List ℕ) (x : ℕ) → (x ≡ 0 → ⊥) → Chain next x (chain_in (suc steps) next x) → Next steps next x
unfolding Chain chain_in
chain_next steps next x n c =
    let d : Chain next x (x ∷ chain_in steps next (at next x)) = rw (ne_eqb x 0 n) at c in
    let e : chain_in (suc steps) next (at next x) ≡ chain_in steps next (at next x) =
    let h = chain_short steps next (at next x) in chain_in_lem (suc steps) next (at next x) (chain_in steps next (at next x)) d.3 (omega arith) in
    record { small = d.2; here = rw (ne_eqb x 0 n) (ap (λ r. x ∷ r) (sym e)); ends = subst (Chain next (at next x)) (sym e) d.3 }

pub chain_done : (steps : ℕ) (next : List ℕ) (x : ℕ) → x ≡ 0 → chain_in (suc steps) next x ≡ []
unfolding chain_in
chain_done steps next x e = rw (eq-eqb x 0 e)

-- a link changed off the list changes nothing on it
chain_set : (next : List ℕ) (x v y : ℕ) (l : List ℕ) → Misses x l → Chain next y l → Chain (set next x v) y l
unfolding Chain
chain_set next x v y [] n c = c
chain_set next x v y (z ∷ l) n c =
    (c.0, c.1, c.2, rw (get_or-set_other next x z v 0 (n 0 (omega arith))) (chain_set next x v (at next z) l (λ k b. n (suc k) (omega arith)) c.3))

chain_cons : (next : List ℕ) (x h : ℕ) (l : List ℕ) → 0 < x → x < rows_most → x < length next → Misses x l → Chain next h l → Chain (set next x h) x (x ∷ l)
unfolding Chain
chain_cons next x h l a b s n c = (refl, a, b, rw (get_or-set_same next x h 0 s) (chain_set next x h h l n c))

chain_none : (next : List ℕ) → Chain next 0 []
unfolding Chain
chain_none next = refl

module _ (order holder object : List ℕ) (listed o : ℕ) where
  abbrev rest : ℕ → ℕ → List ℕ
  rest = past_of order holder object listed o

  -- from the place i on, each holder's entries are chained
  pub record Chained (i : ℕ) (head next : List ℕ) : Type 0 where
    pub heads : length head ≡ rows_most
    pub nexts : length next ≡ rows_most
    pub chains : (u : ℕ) → u < rows_most → Chain next (at head u) (rest i u)

  pub chained_start : (head next : List ℕ) → length head ≡ rows_most → length next ≡ rows_most → ((u : ℕ) → u < rows_most → at head u ≡ 0) → Chained listed head next
  chained_start head next a b z = record {
    heads = a;
    nexts = b;
    chains = λ u h. subst₂ (Chain next) (sym (z u h)) (sym (past_none order holder object listed o u)) (chain_none next);
  }

  module _ (i x : ℕ) (z : 0 < i) (b : i ≤ listed) (e : x ≡ at order (i - 1)) (head next : List ℕ) (c : Chained i head next) where
    pub chained_skip : (at object x ≡ o → ⊥) → Chained (i - 1) head next
    chained_skip n = record {
      heads = c.heads;
      nexts = c.nexts;
      chains = λ u l. subst (Chain next (at head u)) (sym (past_other order holder object listed o i x z b e n u)) (c.chains u l);
    }

    module _ (k : Linkable listed order holder) where
      -- an entry does not stand twice
      once : Misses x (past order listed i)
      once j s q =
          let l : i + j < listed = omega (arith, rw (length-drop i (work listed order), length_work) at s) in
          let y = k.distinct.once (i + j) (i - 1) l (omega arith) (sym (get_or-drop i (work listed order) j 0 ∙ work_at order listed (i + j) l) ∙ q ∙ e) in
          omega arith

      pub chained_put : (h : ℕ) → at object x ≡ o → h ≡ at holder x → Chained (i - 1) (set head h (at order (i - 1))) (set next x (at head h))
      chained_put h q w = record {
        heads = length-set head h _ ∙ c.heads;
        nexts = length-set next _ _ ∙ c.nexts;
        chains = λ u l.
            let small : x < rows_most = entry_row order holder listed k i x z b e in
            let off : Misses x (rest i u) = only_each (on_list holder object o u) (λ y. y ≡ x → ⊥) (past order listed i) once in
            ⊎_elim
            (λ s. subst₂ (Chain (set next x (at head h)))
            (e ∙ sym (ap (λ v. at (set head h (at order (i - 1))) v) s ∙ get_or-set_same head h (at order (i - 1)) 0 (omega (arith, c.heads))))
            (sym (past_on order holder object listed o i x z b e h w q u s))
            (chain_cons next x (at head h) _ (entry_some order holder listed k i x z b e) small (omega (arith, c.nexts)) off
            (subst (λ v. Chain next (at head v) (rest i u)) s (c.chains u l))))
            (λ n. subst₂ (Chain (set next x (at head h)))
            (sym (get_or-set_other head h u (at order (i - 1)) 0 n))
            (sym (past_off order holder object listed o i x z b e h w u n))
            (chain_set next x (at head h) (at head u) _ off (c.chains u l)))
            (same_or u h);
      }

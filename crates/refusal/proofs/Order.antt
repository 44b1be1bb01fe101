-- The order of refusals: how a function goes through it, and what its code says.
use Prim.Native.Nat.{ℕ, zero, suc, ◌<◌, ◌≤◌}
use mathlib.Core.Path.{◌≡◌, refl, sym, ◌∙◌}
use mathlib.Core.Bool.{Bool, true, false, ◌&&◌, not, and-eq-true_iff}
use mathlib.Core.Logic.{◌⊎◌, inl, inr, ⊎_elim}
use mathlib.Core.List.{List, [], ◌∷◌}
use native.Mathlib.Omega.{arith}
use lib.IntN.{pos}
use lib.ListN.{length}
use lib.Dec.{eqb}
use borrow.Author.Tests.{eqb-false, ltb-false, not-true}
use Rattle.below.proofs.Tests.{bool_or}
use Rattle.refusal.specs.Refusal.{Refusal, answer_of}
use Rattle.columns.specs.Column.{rows_most}
use Rattle.form.specs.Form.{count_most}
use Rattle.refusal.specs.Order.{first_code, unknown}
use Rattle.refusal.specs.Exact.{codes_of, nth, FirstToHold, NoneHolds}

-- of codes, none stands twice and none is 0
abbrev pub apart : ℕ → List ℕ → Bool
apart c [] = true
apart c (d ∷ l) = not (eqb c d) && apart c l

abbrev pub distinct : List ℕ → Bool
distinct [] = true
distinct (c ∷ l) = not (eqb c 0) && (apart c l && distinct l)

pub none_more : (r : Refusal) (rest : List Refusal) → r.when ≡ false → NoneHolds rest → NoneHolds (r ∷ rest)
none_more r rest e n zero b = e
none_more r rest e n (suc i) b = n i (omega arith)

-- some refusal is the first to hold, or none holds
abbrev pub FirstOrNone : List Refusal → Type 0
FirstOrNone rs = ((i : ℕ) × (i < length rs) × FirstToHold rs i) ⊎ NoneHolds rs

pub first_or_none : (rs : List Refusal) → FirstOrNone rs
first_or_none [] = inr (λ i b. absurd (omega arith))
first_or_none (r ∷ rest) =
    ⊎_elim (λ t. inl (0, omega arith, record { holds = t; none_earlier = λ j b. absurd (omega arith) })) (λ f. later f (first_or_none rest)) (bool_or r.when)
  where
    earlier : r.when ≡ false → (i : ℕ) → FirstToHold rest i → (j : ℕ) → j < suc i → (nth (r ∷ rest) j).when ≡ false
    earlier e i f zero b = e
    earlier e i f (suc j) b = f.none_earlier j (omega arith)

    later : r.when ≡ false → FirstOrNone rest → FirstOrNone (r ∷ rest)
    later e (inl (i, b, f)) = inl (suc i, omega arith, record { holds = f.holds; none_earlier = earlier e i f })
    later e (inr n) = inr (none_more r rest e n)

-- what `distinct` says of the first code and the rest
pub first_code_lem : (c : ℕ) (l : List ℕ) → distinct (c ∷ l) ≡ true → (not (eqb c 0) ≡ true) × (apart c l ≡ true) × (distinct l ≡ true)
first_code_lem c l d =
    let b = (and-eq-true_iff (not (eqb c 0)) (apart c l && distinct l)).0 d in
    let g = (and-eq-true_iff (apart c l) (distinct l)).0 b.1 in
    (b.0, g.0, g.1)

-- the first code, as a function finds it
module _ (r : Refusal) (rest : List Refusal) where
  pub code_here : r.when ≡ true → r.answer.code ≡ first_code (r ∷ rest)
  unfolding first_code
  code_here e = rw e

  pub code_next : (c : ℕ) → r.when ≡ false → c ≡ first_code rest → c ≡ first_code (r ∷ rest)
  unfolding first_code
  code_next c e q = rw e q

-- where it is 0, none holds
pub none_first : (l : List Refusal) → distinct (codes_of l) ≡ true → first_code l ≡ 0 → NoneHolds l
unfolding first_code
none_first [] d e = λ i h. absurd (omega arith)
none_first (r ∷ rest) d e =
    let p = first_code_lem r.answer.code (codes_of rest) d in
    ⊎_elim (λ t. absurd (eqb-false r.answer.code 0 (not-true _ p.0) (code_here r rest t ∙ e)))
    (λ f. none_more r rest f (none_first rest p.2 (code_next r rest _ f refl ∙ e))) (bool_or r.when)

-- each has 0, 0 beside its code
abbrev pub Plainly : List Refusal → Type 0
Plainly [] = Unit {0}
Plainly (r ∷ rest) = (r.answer ≡ answer_of r.answer.code 0 (pos 0)) × Plainly rest

-- the number of a transaction that there is, is that of a row
pub known_row : (count t : ℕ) → 0 ≡ first_code (unknown count t) → count ≤ count_most → t < rows_most
known_row count t z l = omega (arith, ltb-false count t (none_first (unknown count t) refl (sym z) 0 (omega arith)))

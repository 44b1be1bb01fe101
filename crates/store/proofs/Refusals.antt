-- The order of refusals: how a call goes through it, and that each code is given exactly when its condition holds and none earlier does.
use Prim.Native.Nat.{ℕ, zero, suc, ◌<◌}
use mathlib.Core.Path.{◌≡◌, refl, sym, ap, ◌∙◌}
use mathlib.Core.Bool.{true, false, not, and-eq-true_iff}
use mathlib.Core.Logic.{◌↔◌, ⊎_elim}
use mathlib.Core.List.{List, [], ◌∷◌, ◌++◌}
use native.Mathlib.Omega.{arith}
use lib.IntN.{pos}
use lib.ListN.{length}
use lib.Dec.{eqb}
use borrow.Author.Tests.{eqb-false, not-true}
use Rattle.below.proofs.Tests.{bool_or}
use Rattle.store.specs.declared.Store.{Store}
use Rattle.store.specs.declared.Reply.{Reply}
use Rattle.refusal.specs.Refusal.{Refusal, answer_of}
use Rattle.refusal.specs.Order.{first_code}
use Rattle.store.specs.Refusal.{reply_of, decide}
use Rattle.refusal.proofs.Order.{apart, distinct, first_code_lem, none_more, Plainly, code_here, code_next}
use Rattle.refusal.specs.Exact.{codes_of, nth, FirstToHold, NoneHolds}

-- a call's way: past the refusals that do not hold, to the first that does or to what is done
module _ (s : Store) (done : Reply) where
  pub here : (r : Refusal) (rest : List Refusal) → r.when ≡ true → reply_of s r.answer ≡ decide s (r ∷ rest) done
  unfolding decide
  here r rest e = rw e

  pub next : (r : Refusal) (rest : List Refusal) (x : Reply) → r.when ≡ false → x ≡ decide s rest done → x ≡ decide s (r ∷ rest) done
  unfolding decide
  next r rest x e q = rw e q

  pub through : (x : Reply) → x ≡ done → x ≡ decide s [] done
  unfolding decide
  through x q = q

-- an order of refusals that is decided in parts
module _ (m : List Refusal) (s : Store) (done : Reply) where
  pub stops : (l : List Refusal) (c : ℕ) → Plainly l → c ≡ first_code l → (c ≡ 0 → ⊥) → reply_of s (answer_of c 0 (pos 0)) ≡ decide s (l ++ m) done
  unfolding first_code
  stops [] c p e n = absurd (n e)
  stops (r ∷ l) c p e n =
      ⊎_elim (λ t. ap (λ k. reply_of s (answer_of k 0 (pos 0))) (e ∙ sym (code_here r l t)) ∙ ap (reply_of s) (sym p.0) ∙ here s done r (l ++ m) t)
      (λ f. next s done r (l ++ m) _ f (stops l c p.1 (e ∙ sym (code_next r l _ f refl)) n)) (bool_or r.when)

  pub passes : (l : List Refusal) (x : Reply) → NoneHolds l → x ≡ decide s m done → x ≡ decide s (l ++ m) done
  passes [] x n e = e
  passes (r ∷ l) x n e = next s done r (l ++ m) x (n 0 (omega arith)) (passes l x (λ i h. n (suc i) (omega arith)) e)

module _ (s : Store) (done : Reply) (zero-code : done.answer.code ≡ 0) where
  abbrev code : List Refusal → ℕ
  code rs = (decide s rs done).answer.code

  taken : (r : Refusal) (rest : List Refusal) → r.when ≡ true → code (r ∷ rest) ≡ r.answer.code
  taken r rest e = ap (λ x. x.answer.code) (sym (here s done r rest e))

  passed : (r : Refusal) (rest : List Refusal) → r.when ≡ false → code (r ∷ rest) ≡ code rest
  passed r rest e = ap (λ x. x.answer.code) (sym (next s done r rest _ e refl))

  -- a code that is none of the list's, and not 0, is not given
  other : (c : ℕ) (rs : List Refusal) → not (eqb c 0) ≡ true → apart c (codes_of rs) ≡ true → code rs ≡ c → ⊥
  unfolding decide
  other c [] z a e = eqb-false c 0 (not-true _ z) (sym e ∙ zero-code)
  other c (r ∷ rest) z a e =
      let b = (and-eq-true_iff (not (eqb c r.answer.code)) (apart c (codes_of rest))).0 a in
      ⊎_elim (λ t. eqb-false c r.answer.code (not-true _ b.0) (sym e ∙ taken r rest t))
      (λ f. other c rest z b.1 (sym (passed r rest f) ∙ e)) (bool_or r.when)

  -- the code of the i-th is not another's
  apart_at : (c : ℕ) (rs : List Refusal) (i : ℕ) → i < length rs → apart c (codes_of rs) ≡ true → c ≡ (nth rs i).answer.code → ⊥
  apart_at c [] i h a e = absurd (omega arith)
  apart_at c (r ∷ rest) zero h a e = eqb-false c r.answer.code (not-true _ ((and-eq-true_iff (not (eqb c r.answer.code)) (apart c (codes_of rest))).0 a).0) e
  apart_at c (r ∷ rest) (suc i) h a e = apart_at c rest i (omega arith) ((and-eq-true_iff (not (eqb c r.answer.code)) (apart c (codes_of rest))).0 a).1 e

  first_given : (rs : List Refusal) (i : ℕ) → i < length rs → FirstToHold rs i → code rs ≡ (nth rs i).answer.code
  first_given [] i h f = absurd (omega arith)
  first_given (r ∷ rest) zero h f = taken r rest f.holds
  first_given (r ∷ rest) (suc i) h f =
      passed r rest (f.none_earlier 0 (omega arith))
      ∙ first_given rest i (omega arith) (record { holds = f.holds; none_earlier = λ j l. f.none_earlier (suc j) (omega arith) })

  later : (r : Refusal) (rest : List Refusal) (i : ℕ) → r.when ≡ false → FirstToHold rest i → FirstToHold (r ∷ rest) (suc i)
  later r rest i f g = record { holds = g.holds; none_earlier = earlier }
    where
      earlier : (j : ℕ) → j < suc i → (nth (r ∷ rest) j).when ≡ false
      earlier zero l = f
      earlier (suc j) l = g.none_earlier j (omega arith)

  given_first : (rs : List Refusal) (i : ℕ) → i < length rs → distinct (codes_of rs) ≡ true → code rs ≡ (nth rs i).answer.code → FirstToHold rs i
  given_first [] i h d e = absurd (omega arith)
  given_first (r ∷ rest) zero h d e =
      let p = first_code_lem r.answer.code (codes_of rest) d in
      ⊎_elim (λ t. record { holds = t; none_earlier = λ j l. absurd (omega arith) })
      (λ f. absurd (other r.answer.code rest p.0 p.1 (sym (passed r rest f) ∙ e))) (bool_or r.when)
  given_first (r ∷ rest) (suc i) h d e =
      let p = first_code_lem r.answer.code (codes_of rest) d in
      ⊎_elim (λ t. absurd (apart_at r.answer.code rest i (omega arith) p.1 (sym (taken r rest t) ∙ e)))
      (λ f. later r rest i f (given_first rest i (omega arith) p.2 (sym (passed r rest f) ∙ e))) (bool_or r.when)

  -- each code is given exactly when its condition holds and none earlier in its order does
  pub exactly : (rs : List Refusal) → distinct (codes_of rs) ≡ true → (i : ℕ) → i < length rs
      → ((decide s rs done).answer.code ≡ (nth rs i).answer.code) ↔ FirstToHold rs i
  exactly rs d i h = (given_first rs i h d, first_given rs i h)

  -- 0 is given exactly when none holds
  pub none_holds : (rs : List Refusal) → distinct (codes_of rs) ≡ true → code rs ≡ 0 → NoneHolds rs
  none_holds [] d e = λ i h. absurd (omega arith)
  none_holds (r ∷ rest) d e =
      let p = first_code_lem r.answer.code (codes_of rest) d in
      ⊎_elim (λ t. absurd (eqb-false r.answer.code 0 (not-true _ p.0) (sym (taken r rest t) ∙ e)))
      (λ f. none_more r rest f (none_holds rest p.2 (sym (passed r rest f) ∙ e))) (bool_or r.when)

-- where none holds, it is done
pub all_pass : (s : Store) (done : Reply) (rs : List Refusal) → NoneHolds rs → decide s rs done ≡ done
all_pass s done [] h = sym (through s done done refl)
all_pass s done (r ∷ rest) h = sym (next s done r rest _ (h 0 (omega arith)) (sym (all_pass s done rest (λ i l. h (suc i) (omega arith)))))

-- any answer but 0 hands the store back as it came
pub refused_same : (s : Store) (done : Reply) (rs : List Refusal) → ((decide s rs done).answer.code ≡ 0 → ⊥) → done.answer.code ≡ 0 → (decide s rs done).store ≡ s
unfolding decide
refused_same s done [] n z = absurd (n z)
refused_same s done (r ∷ rest) n z =
    ⊎_elim (λ t. ap (λ x. x.store) (sym (here s done r rest t)))
    (λ f. let e = sym (next s done r rest _ f refl) in ap (λ x. x.store) e ∙ refused_same s done rest (λ q. n (ap (λ x. x.answer.code) e ∙ q)) z) (bool_or r.when)

-- what holds of the store that a call hands back, whatever the answer: what holds of the one that came in, and of the one made where no refusal holds
pub handed_back : (P : Store → Type 0) (s : Store) (rs : List Refusal) (done : Reply) → P s → (NoneHolds rs → P done.store) → P (decide s rs done).store
unfolding decide
handed_back P s [] done same made = made (λ i b. absurd (omega arith))
handed_back P s (r ∷ rest) done same made =
    ⊎_elim (λ t. rw t same) (λ f. rw f (handed_back P s rest done same (λ n. made (none_more r rest f n)))) (bool_or r.when)

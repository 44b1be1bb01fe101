-- Laws of `Lines`: texts of whole lines, one after another.
use Prim.Native.Nat.{ℕ, zero, suc, ◌+◌, ◌-◌, ◌/◌, ◌%◌, ◌≤◌, ◌<◌}
use mathlib.Core.Path.{◌≡◌, refl, ◌∙◌, ap}
use mathlib.Core.List.{List, [], ◌∷◌, ◌++◌, append_assoc}
use mathlib.Core.Bool.{cond}
use native.Mathlib.Nat.{zero-add}
use native.Mathlib.Omega.{arith}
use lib.Dec.{ltb, eqb}
use borrow.Author.Tests.{ne_eqb}
use Rattle.text.specs.Text.{line_end, digits, decimal}
use Rattle.below.proofs.Tests.{either}
use Rattle.written.specs.Written.{Each, Lines}

pub each_append : {A : Type 0} (P : A → Type 0) (xs ys : List A) → Each P xs → Each P ys → Each P (xs ++ ys)
each_append P [] ys p q = q
each_append P (x ∷ xs) ys p q = (p.0, each_append P xs ys p.1 q)

-- no byte of the text ends a line
abbrev pub Inner : List ℕ → Type 0
Inner t = Each (λ b. line_end < b) t

inner_digits : (most v : ℕ) → Inner (digits most v)
unfolding digits
inner_digits zero v = tt
inner_digits (suc most) v =
    either (ltb v 10) (λ t. rw t (omega arith, tt))
    (λ f. rw f (each_append (λ b. line_end < b) (digits most (v / 10)) ((48 + v % 10) ∷ []) (inner_digits most (v / 10)) (omega arith, tt)))

pub inner_decimal : (v : ℕ) → Inner (decimal v)
unfolding decimal
inner_decimal v = inner_digits (suc v) v

pub one_line : (t : List ℕ) → Inner t → Lines 1 (t ++ (line_end ∷ []))
one_line [] p = (omega arith, refl)
one_line (b ∷ t) p = (omega arith, rw (ne_eqb b line_end (λ e. omega (arith, p.0))) (one_line t p.1))

pub lines_append : (n m : ℕ) (t u : List ℕ) → Lines n t → Lines m u → Lines (n + m) (t ++ u)
lines_append n m [] u p q = rw (p, zero-add m) q
lines_append n m (b ∷ t) u p q = (
  omega (arith, p.0),
  either (eqb b line_end)
      (λ e. let h : n + m - 1 ≡ n - 1 + m = omega (arith, p.0) in rw (e, h) (lines_append (n - 1) m t u (rw e at p).1 q))
      (λ f. rw f (lines_append n m t u (rw f at p).1 q)),
)

pub lines_as : (n : ℕ) {t u : List ℕ} → t ≡ u → Lines n u → Lines n t
lines_as n e p = rw e p

-- as many lines at the front of one text are the same
pub lines_same : (n : ℕ) (t u r r' : List ℕ) → Lines n t → Lines n u → t ++ r ≡ u ++ r' → t ≡ u
lines_same n [] [] r r' p q e = refl
lines_same n [] (c ∷ u) r r' p q e = absurd (omega (arith, p, q.0))
lines_same n (b ∷ t) [] r r' p q e = absurd (omega (arith, q, p.0))
lines_same n (b ∷ t) (c ∷ u) r r' p q e =
    let h : b ≡ c = cc in
    let k : t ++ r ≡ u ++ r' = cc in
    rw h (ap (λ (l : List ℕ). c ∷ l) (lines_same (cond (eqb c line_end) (n - 1) n) t u r r' (rw h at p).1 q.1 k))

-- a text's first n lines, and the m after them
pub record Split (n m : ℕ) (text : List ℕ) : Type 0 where
  pub first : List ℕ
  pub second : List ℕ
  pub parts : text ≡ first ++ second
  pub first_lines : Lines n first
  pub second_lines : Lines m second

pub split_then : {n m : ℕ} {text : List ℕ} (w : Split n m text) (rest : List ℕ) → text ++ rest ≡ w.first ++ (w.second ++ rest)
split_then w rest = ap (λ (l : List ℕ). l ++ rest) w.parts ∙ append_assoc w.first w.second rest

split_more : {n m k : ℕ} {t : List ℕ} (b : ℕ) → 1 ≤ n → cond (eqb b line_end) (n - 1) n ≡ k → Split k m t → Split n m (b ∷ t)
split_more b some is w =
    record {
      first = b ∷ w.first;
      second = w.second;
      parts = ap (λ (l : List ℕ). b ∷ l) w.parts;
      first_lines = (some, rw is w.first_lines);
      second_lines = w.second_lines;
    }

pub split : (n m k : ℕ) (t : List ℕ) → k ≡ n + m → Lines k t → Split n m t
split zero m k t e ls = record { first = []; second = t; parts = refl; first_lines = refl; second_lines = rw (e, zero-add m) at ls }
split (suc n) m k [] e ls = absurd (omega (arith, ls))
split (suc n) m k (b ∷ t) e ls =
    either (eqb b line_end)
    (λ y. let less : suc n - 1 ≡ n = omega arith in split_more b (omega arith) (rw (y, less)) (split n m (k - 1) t (omega arith) (rw y at ls).1))
    (λ f. split_more b (omega arith) (rw f) (split (suc n) m k t e (rw f at ls).1))

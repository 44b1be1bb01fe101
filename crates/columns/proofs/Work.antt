-- The laws of the listed work: of the entries at the first places, of those that pass a test, and of the columns in which a list is written.
use Prim.Native.Nat.{ℕ, zero, suc, ◌+◌, ◌-◌, ◌<◌, ◌≤◌}
use mathlib.Core.Bool.{Bool, true, false, cond, ◌&&◌}
use mathlib.Core.Path.{◌≡◌, refl, sym, ap, ◌∙◌}
use mathlib.Core.List.{List, [], ◌∷◌, ◌++◌, append-nil}
use mathlib.Core.Logic.{⊎_elim}
use native.Mathlib.Numerals.{add-one}
use native.Mathlib.Nat.{add-zero}
use native.Mathlib.Omega.{arith}
use lib.ListN.{length, get_or, set, take, replicate, length-append, length-set, length-replicate, get_or-append}
use lib.Seq.{take-suc, sets, sets-eq, length-sets, take_at, get_or_at}
use Rattle.below.proofs.Tests.{bool_or, below_or}
use Rattle.columns.specs.Column.{at, rows_most, places_most}
use Rattle.columns.specs.Work.{work, only, laid, numbered, Sound}

-- each entry has the property
abbrev pub Each : (ℕ → Type 0) → List ℕ → Type 0
Each P l = (k : ℕ) → k < length l → P (get_or l k 0)

pub each_cons : (P : ℕ → Type 0) (x : ℕ) (l : List ℕ) → P x → Each P l → Each P (x ∷ l)
each_cons P x l a r zero b = a
each_cons P x l a r (suc k) b = r k (omega arith)

pub each_append : (P : ℕ → Type 0) (l m : List ℕ) → Each P l → Each P m → Each P (l ++ m)
each_append P [] m a b k h = b k h
each_append P (x ∷ l) m a b zero h = a zero (omega arith)
each_append P (x ∷ l) m a b (suc k) h = each_append P l m (λ j g. a (suc j) (omega arith)) b k (omega arith)

module _ (p : ℕ → Bool) where
  pub cons_hit : (x : ℕ) (l : List ℕ) → p x ≡ true → only p (x ∷ l) ≡ x ∷ only p l
  unfolding only
  cons_hit x l e = rw e

  pub cons_miss : (x : ℕ) (l : List ℕ) → p x ≡ false → only p (x ∷ l) ≡ only p l
  unfolding only
  cons_miss x l e = rw e

  pub only_nil : only p [] ≡ []
  unfolding only
  only_nil = refl

  pub only_append : (l m : List ℕ) → only p (l ++ m) ≡ only p l ++ only p m
  only_append [] m = ap (λ r. r ++ only p m) (sym only_nil)
  only_append (x ∷ l) m =
      ⊎_elim (λ e. cons_hit x (l ++ m) e ∙ ap (λ r. x ∷ r) (only_append l m) ∙ ap (λ r. r ++ only p m) (sym (cons_hit x l e)))
      (λ e. cons_miss x (l ++ m) e ∙ only_append l m ∙ ap (λ r. r ++ only p m) (sym (cons_miss x l e))) (bool_or (p x))

  pub only_le : (l : List ℕ) → length (only p l) ≤ length l
  only_le [] = rw only_nil (omega arith)
  only_le (x ∷ l) = let h = only_le l in ⊎_elim (λ e. rw (cons_hit x l e) (omega arith)) (λ e. rw (cons_miss x l e) (omega arith)) (bool_or (p x))

  pub only_none : (l : List ℕ) → Each (λ x. p x ≡ false) l → only p l ≡ []
  only_none [] h = only_nil
  only_none (x ∷ l) h = cons_miss x l (h 0 (omega arith)) ∙ only_none l (λ k b. h (suc k) (omega arith))

  -- what holds of each entry holds of each that passes
  pub only_each : (P : ℕ → Type 0) (l : List ℕ) → Each P l → Each P (only p l)
  only_each P [] h = rw only_nil h
  only_each P (x ∷ l) h =
      let r = only_each P l (λ k b. h (suc k) (omega arith)) in
      ⊎_elim (λ e. rw (cons_hit x l e) (each_cons P x (only p l) (h 0 (omega arith)) r)) (λ e. rw (cons_miss x l e) r) (bool_or (p x))

  -- each that passes does pass
  pub only_pass : (l : List ℕ) → Each (λ x. p x ≡ true) (only p l)
  only_pass [] = rw only_nil (λ k h. absurd (omega arith))
  only_pass (x ∷ l) =
      let r = only_pass l in
      ⊎_elim (λ e. rw (cons_hit x l e) (each_cons (λ y. p y ≡ true) x (only p l) e r)) (λ e. rw (cons_miss x l e) r) (bool_or (p x))

pub only_same : (p q : ℕ → Bool) (l : List ℕ) → Each (λ x. p x ≡ q x) l → only p l ≡ only q l
unfolding only
only_same p q [] h = refl
only_same p q (x ∷ l) h = rw (h 0 (omega arith), only_same p q l (λ k b. h (suc k) (omega arith)))

pub only_only : (p q : ℕ → Bool) (l : List ℕ) → only p (only q l) ≡ only (λ x. q x && p x) l
unfolding only
only_only p q [] = refl
only_only p q (x ∷ l) =
    ⊎_elim
    (λ e. rw (cons_hit q x l e, e) (ap (λ r. cond (p x) (x ∷ r) r) (only_only p q l)))
    (λ e. rw (cons_miss q x l e, e) (only_only p q l)) (bool_or (q x))

-- two tests that exclude each other, within a third
pub only_within : (p q r : ℕ → Bool) (l : List ℕ) → ((x : ℕ) → p x ≡ true → (q x ≡ false) × (r x ≡ true)) → ((x : ℕ) → q x ≡ true → r x ≡ true)
    → length (only p l) + length (only q l) ≤ length (only r l)
only_within p q r [] a b = rw (only_nil p, only_nil q) (omega arith)
only_within p q r (x ∷ l) a b =
    let i = only_within p q r l a b in
    ⊎_elim (λ e. rw (cons_hit p x l e, cons_miss q x l (a x e).0, cons_hit r x l (a x e).1) (omega arith))
    (λ e. ⊎_elim (λ f. rw (cons_miss p x l e, cons_hit q x l f, cons_hit r x l (b x f)) (omega arith))
    (λ f. ⊎_elim (λ g. rw (cons_miss p x l e, cons_miss q x l f, cons_hit r x l g) (omega arith)) (λ g. rw (cons_miss p x l e, cons_miss q x l f, cons_miss r x l g) (omega arith)) (bool_or (r x)))
    (bool_or (q x))) (bool_or (p x))

-- the first places
module _ (order : List ℕ) where
  pub work_none : work 0 order ≡ []
  unfolding work
  work_none = refl

  pub work_more : (k : ℕ) → work (k + 1) order ≡ work k order ++ (at order k ∷ [])
  unfolding work
  work_more k = rw add-one

  pub length_work : (n : ℕ) → length (work n order) ≡ n
  unfolding work
  length_work zero = refl
  length_work (suc n) = length-append (work n order) _ ∙ rw (length_work n) (omega arith)

  work_take : (n : ℕ) → n ≤ length order → work n order ≡ take n order
  unfolding work
  work_take zero h = refl
  work_take (suc n) h = rw (work_take n (omega arith), take-suc order n 0 (omega arith))

  pub work_at : (n k : ℕ) → k < n → get_or (work n order) k 0 ≡ at order k
  unfolding work
  work_at zero k h = absurd (omega arith)
  work_at (suc n) k h =
      ⊎_elim (λ l. get_or-append (work n order) _ 0 k (rw length_work l) ∙ work_at n k l)
      (λ e. rw e (get_or_at (work n order) _ [] 0 n (length_work n))) (below_or k n h)

  pub work_each : (P : ℕ → Type 0) (n : ℕ) → ((k : ℕ) → k < n → P (at order k)) → Each P (work n order)
  work_each P n h k b = let l : k < n = rw length_work at b in rw (work_at n k l) (h k l)

-- a list written to a column
pub laid_snoc : (column : List ℕ) (k : ℕ) (l : List ℕ) (x : ℕ) → laid column k (l ++ (x ∷ [])) ≡ set (laid column k l) (k + length l) x
unfolding laid
laid_snoc column k [] x = rw add-zero
laid_snoc column k (y ∷ l) x = laid_snoc (set column k y) (suc k) l x ∙ ap (λ n. set (laid (set column k y) (suc k) l) n x) (omega arith)

pub laid_append : (column : List ℕ) (k : ℕ) (l m : List ℕ) → laid column k (l ++ m) ≡ laid (laid column k l) (k + length l) m
unfolding laid
laid_append column k [] m = rw add-zero
laid_append column k (y ∷ l) m = laid_append (set column k y) (suc k) l m ∙ ap (λ n. laid (laid (set column k y) (suc k) l) n m) (omega arith)

laid_sets : (column : List ℕ) (k : ℕ) (l : List ℕ) → laid column k l ≡ sets column k l
unfolding laid
laid_sets column k [] = refl
laid_sets column k (x ∷ l) = laid_sets (set column k x) (suc k) l

pub length_laid : (column : List ℕ) (k : ℕ) (l : List ℕ) → length (laid column k l) ≡ length column
length_laid column k l = rw laid_sets (length-sets column k l)

pub length_numbered : (column : List ℕ) (k : ℕ) (l : List ℕ) → length (numbered column k l) ≡ length column
unfolding numbered
length_numbered column k [] = refl
length_numbered column k (x ∷ l) = length_numbered (set column x (suc k)) (suc k) l ∙ length-set column x (suc k)

-- the list is what stands at the first places of its column
pub work_laid : (column l : List ℕ) → length l ≤ length column → work (length l) (laid column 0 l) ≡ l
work_laid column l h =
    work_take _ (length l) (rw length_laid h) ∙ rw (laid_sets, sets-eq l column 0 (omega arith)) (take_at l _ (length l) refl)

-- the number of each entry, written to a column
pub numbered_snoc : (column : List ℕ) (k : ℕ) (l : List ℕ) (x : ℕ) → numbered column k (l ++ (x ∷ [])) ≡ set (numbered column k l) x (k + length l + 1)
unfolding numbered
numbered_snoc column k [] x = ap (set column x) (omega arith)
numbered_snoc column k (y ∷ l) x = numbered_snoc (set column y (suc k)) (suc k) l x ∙ ap (set (numbered (set column y (suc k)) (suc k) l) x) (omega arith)

pub numbered_append : (column : List ℕ) (k : ℕ) (l m : List ℕ) → numbered column k (l ++ m) ≡ numbered (numbered column k l) (k + length l) m
unfolding numbered
numbered_append column k [] m = rw add-zero
numbered_append column k (y ∷ l) m = numbered_append (set column y (suc k)) (suc k) l m ∙ ap (λ n. numbered (numbered (set column y (suc k)) (suc k) l) n m) (omega arith)

-- one more place: its entry passes, or not
module _ (p : ℕ → Bool) (order : List ℕ) (k : ℕ) where
  pub more_hit : p (at order k) ≡ true → only p (work (k + 1) order) ≡ only p (work k order) ++ (at order k ∷ [])
  more_hit e = rw (work_more order k, only_append p (work k order)) (ap (λ m. only p (work k order) ++ m) (cons_hit p _ [] e ∙ ap (λ r. at order k ∷ r) (only_nil p)))

  pub more_miss : p (at order k) ≡ false → only p (work (k + 1) order) ≡ only p (work k order)
  more_miss e = rw (work_more order k, only_append p (work k order)) (ap (λ m. only p (work k order) ++ m) (cons_miss p _ [] e ∙ only_nil p) ∙ append-nil _)

  sift_long : (d : ℕ) → length (only p (work k order)) ≤ length (only p (work (k + d) order))
  sift_long zero = rw add-zero (omega arith)
  sift_long (suc d) =
      let e : k + suc d ≡ (k + d) + 1 = omega arith in
      rw (e, work_more order (k + d), only_append p (work (k + d) order), length-append) (omega (arith, sift_long d))

-- there is room for one that passes
pub sift_room : (p : ℕ → Bool) (order : List ℕ) (k m x : ℕ) → k < m → x ≡ at order k → p x ≡ true → length (only p (work k order)) < length (only p (work m order))
sift_room p order k m x h q e =
    let z : (k + 1) + (m - (k + 1)) ≡ m = omega arith in
    let g = rw z at (sift_long p order (k + 1) (m - (k + 1))) in
    omega (arith, g, simp length-append at (ap length (more_hit p order k (rw q at e))))

-- a list that fits its columns
pub record Fits (rows : ℕ) (l : List ℕ) : Type 0 where
  pub short : length l ≤ places_most
  pub known : Each (λ x. x < rows) l

pub work_fits : (rows listed : ℕ) (order holder : List ℕ) → Sound rows listed order holder → Fits rows (work listed order)
work_fits rows listed order holder s = record { short = rw length_work s.listed_fit; known = work_each order (λ x. x < rows) listed s.entries }

pub only_fits : (p : ℕ → Bool) (rows : ℕ) (l : List ℕ) → Fits rows l → Fits rows (only p l)
only_fits p rows l f = record { short = omega (arith, only_le p l, f.short); known = only_each p (λ x. x < rows) l f.known }

-- what passes one of two tests that exclude each other, and then what passes the other
pub apart_fits : (p q : ℕ → Bool) (rows : ℕ) (l : List ℕ) → ((x : ℕ) → p x ≡ true → q x ≡ false) → Fits rows l → Fits rows (only p l ++ only q l)
apart_fits p q rows l a f = record {
  short = rw length-append (omega (arith, only_within p q (λ x. true) l (λ x e. (a x e, refl)) (λ x e. refl), only_le (λ x. true) l, f.short));
  known = each_append (λ x. x < rows) (only p l) (only q l) (only_each p (λ x. x < rows) l f.known) (only_each q (λ x. x < rows) l f.known);
}

-- the columns of a list, as `work_of` makes them
abbrev pub order_of : List ℕ → List ℕ
order_of l = laid (replicate places_most 0) 0 l

abbrev pub place_of : List ℕ → List ℕ
place_of l = numbered (replicate rows_most 0) 0 l

-- the order's column has the list at its first places
module _ (l : List ℕ) (h : length l ≤ places_most) where
  pub order_work : work (length l) (order_of l) ≡ l
  order_work = work_laid _ l (rw length-replicate h)

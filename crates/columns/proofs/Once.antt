-- Lists in which nothing stands twice: which lists are such, where the columns of one have its entries, and how long one can be.
use Prim.Native.Nat.{ℕ, zero, suc, ◌+◌, ◌<◌, ◌≤◌}
use mathlib.Core.Bool.{Bool, true, false, not, true≢false}
use mathlib.Core.Path.{◌≡◌, refl, sym, ap, ◌∙◌}
use mathlib.Core.List.{List, [], ◌∷◌, ◌++◌}
use mathlib.Core.Logic.{◌⊎◌, inl, inr, ⊎_elim}
use native.Mathlib.Omega.{arith}
use lib.ListN.{length, get_or, set, replicate, length-set, length-replicate}
use lib.Seq.{get_or-set_same, get_or-set_other}
use lib.Dec.{eqb}
use borrow.Author.Tests.{eq-eqb, ne_eqb, eqb-false, not-true}
use Rattle.below.proofs.Tests.{bool_or, same_or}
use Rattle.below.proofs.Column.{filled_at}
use Rattle.columns.specs.Column.{at, rows_most, places_most}
use Rattle.columns.specs.Work.{only, Found, laid, numbered}
use Rattle.columns.proofs.Work.{Each, each_cons, each_append, only_nil, cons_hit, cons_miss, only_each, only_pass, work_at, order_of, place_of, order_work}

-- no entry is x
abbrev pub Misses : ℕ → List ℕ → Type 0
Misses x l = Each (λ y. y ≡ x → ⊥) l

-- nothing stands twice
unfoldable pub Once : List ℕ → Type 0
Once [] = Unit
Once (x ∷ l) = Misses x l × Once l

-- x is found, or is missing
pub find : (x : ℕ) (l : List ℕ) → (Found x l) ⊎ Misses x l
find x [] = inr (λ k h e. omega arith)
find x (y ∷ l) =
    ⊎_elim (λ e. inl (record { index = 0; small = omega arith; is = e }))
    (λ n. ⊎_elim (λ f. inl (record { index = suc f.index; small = omega (arith, f.small); is = f.is })) (λ r. inr (each_cons (λ z. z ≡ x → ⊥) y l n r)) (find x l))
    (same_or y x)

pub each_found : (l : List ℕ) → Each (λ x. Found x l) l
each_found l k b = record { index = k; small = b; is = refl }

-- what holds of each entry holds of one that is found
pub found_each : (P : ℕ → Type 0) (l : List ℕ) → Each P l → (x : ℕ) → Found x l → P x
found_each P l e x f = rw (← f.is) (e f.index f.small)

pub each_left : (P : ℕ → Type 0) (l m : List ℕ) → Each P (l ++ m) → Each P l
each_left P [] m h = λ k b. absurd (omega arith)
each_left P (x ∷ l) m h = each_cons P x l (h 0 (omega arith)) (each_left P l m (λ k b. h (suc k) (omega arith)))

pub each_right : (P : ℕ → Type 0) (l m : List ℕ) → Each P (l ++ m) → Each P m
each_right P [] m h = h
each_right P (x ∷ l) m h = each_right P l m (λ k b. h (suc k) (omega arith))

-- what holds of each that passes
pub only_out : (P : ℕ → Type 0) (p : ℕ → Bool) (l : List ℕ) → Each P (only p l) → Each (λ x. p x ≡ true → P x) l
only_out P p [] h = λ k b. absurd (omega arith)
only_out P p (x ∷ l) h =
    ⊎_elim
    (λ e. let g : Each P (x ∷ only p l) = rw (cons_hit p x l e) at h in
    each_cons (λ y. p y ≡ true → P y) x l (λ q. g 0 (omega arith)) (only_out P p l (λ k b. g (suc k) (omega arith))))
    (λ e. let g : Each P (only p l) = rw (cons_miss p x l e) at h in
    each_cons (λ y. p y ≡ true → P y) x l (λ q. absurd (true≢false (sym q ∙ e))) (only_out P p l g))
    (bool_or (p x))

pub found_only : (p : ℕ → Bool) (l : List ℕ) (x : ℕ) → Found x l → p x ≡ true → Found x (only p l)
found_only p l x f e = ⊎_elim (λ g. g) (λ n. absurd (only_out (λ y. y ≡ x → ⊥) p l n f.index f.small (rw f.is e) f.is)) (find x (only p l))

pub once_only : (p : ℕ → Bool) (l : List ℕ) → Once l → Once (only p l)
unfolding Once
once_only p [] h = rw only_nil tt
once_only p (x ∷ l) h =
    let r = once_only p l h.1 in
    ⊎_elim (λ e. rw (cons_hit p x l e) (only_each p (λ y. y ≡ x → ⊥) l h.0, r)) (λ e. rw (cons_miss p x l e) r) (bool_or (p x))

pub once_append : (l m : List ℕ) → Once l → Once m → Each (λ x. Misses x m) l → Once (l ++ m)
unfolding Once
once_append [] m a b c = b
once_append (x ∷ l) m a b c = (each_append (λ y. y ≡ x → ⊥) l m a.0 (c 0 (omega arith)), once_append l m a.1 b (λ k h. c (suc k) (omega arith)))

pub once_parted : (p : ℕ → Bool) (l : List ℕ) → Once l → Once (only (λ x. not (p x)) l ++ only p l)
once_parted p l h =
    once_append (only (λ x. not (p x)) l) (only p l) (once_only _ l h) (once_only p l h)
    (λ k a j b e.
    let f : p (get_or (only (λ x. not (p x)) l) k 0) ≡ false = not-true _ (only_pass (λ x. not (p x)) l k a) in
    let g : p (get_or (only p l) j 0) ≡ true = only_pass p l j b in
    true≢false (sym g ∙ ap p e ∙ f))

pub once_index : (l : List ℕ) → ((i j : ℕ) → i < length l → j < length l → get_or l i 0 ≡ get_or l j 0 → i ≡ j) → Once l
unfolding Once
once_index [] h = tt
once_index (x ∷ l) h = (
  (λ k b e. let z = h (suc k) 0 (omega arith) (omega arith) e in omega arith),
  once_index l (λ i j a b e. let z = h (suc i) (suc j) (omega arith) (omega arith) e in omega arith),
)

-- the columns of a list: each entry has its number, and nothing else has one; past the list the order is as it was
pub numbered_other : (column : List ℕ) (n : ℕ) (l : List ℕ) (x : ℕ) → Misses x l → at (numbered column n l) x ≡ at column x
unfolding numbered
numbered_other column n [] x h = refl
numbered_other column n (y ∷ l) x h =
    numbered_other (set column y (suc n)) (suc n) l x (λ k b. h (suc k) (omega arith)) ∙ get_or-set_other column y x (suc n) 0 (λ e. h 0 (omega arith) (sym e))

pub numbered_at : (column : List ℕ) (n : ℕ) (l : List ℕ) → Once l → Each (λ x. x < length column) l → (k : ℕ) → k < length l → at (numbered column n l) (get_or l k 0) ≡ n + k + 1
unfolding numbered Once
numbered_at column n [] o e k b = absurd (omega arith)
numbered_at column n (y ∷ l) o e zero b = numbered_other (set column y (suc n)) (suc n) l y o.0 ∙ get_or-set_same column y (suc n) 0 (e 0 (omega arith)) ∙ omega arith
numbered_at column n (y ∷ l) o e (suc k) b =
    numbered_at (set column y (suc n)) (suc n) l o.1 (λ j c. rw length-set (e (suc j) (omega arith))) k (omega arith) ∙ omega arith

pub laid_past : (column : List ℕ) (j : ℕ) (l : List ℕ) (k : ℕ) → j + length l ≤ k → at (laid column j l) k ≡ at column k
unfolding laid
laid_past column j [] k h = refl
laid_past column j (x ∷ l) k h = laid_past (set column j x) (suc j) l k (omega arith) ∙ get_or-set_other column j k x 0 (λ e. omega arith)

-- the same of the columns that `work_of` makes
module _ (l : List ℕ) where
  pub order_stands : length l ≤ places_most → (k : ℕ) → k < length l → at (order_of l) k ≡ get_or l k 0
  order_stands s k b = sym (work_at (order_of l) (length l) k b) ∙ ap (λ m. get_or m k 0) (order_work l s)

  pub order_past : (k : ℕ) → length l ≤ k → at (order_of l) k ≡ 0
  order_past k h = laid_past (replicate places_most 0) 0 l k (omega arith) ∙ filled_at 0 places_most k

  pub placed : Once l → Each (λ x. x < rows_most) l → (k : ℕ) → k < length l → at (place_of l) (get_or l k 0) ≡ k + 1
  placed o e k b = numbered_at (replicate rows_most 0) 0 l o (λ j h. rw length-replicate (e j h)) k b ∙ omega arith

  pub unplaced : (x : ℕ) → Misses x l → at (place_of l) x ≡ 0
  unplaced x n = numbered_other (replicate rows_most 0) 0 l x n ∙ filled_at 0 rows_most x

-- how long such a list can be
only_all : (p : ℕ → Bool) (l : List ℕ) → Each (λ x. p x ≡ true) l → only p l ≡ l
only_all p [] h = only_nil p
only_all p (x ∷ l) h = cons_hit p x l (h 0 (omega arith)) ∙ ap (λ r. x ∷ r) (only_all p l (λ k b. h (suc k) (omega arith)))

-- but for one value, all entries are left without it
abbrev without : ℕ → ℕ → Bool
without v x = not (eqb x v)

without_le : (v : ℕ) (l : List ℕ) → Once l → length l ≤ suc (length (only (without v) l))
unfolding Once
without_le v [] o = omega arith
without_le v (x ∷ l) o =
    ⊎_elim
    (λ e. rw (cons_miss (without v) x l (rw (eq-eqb x v e)), only_all (without v) l (λ k b. rw (ne_eqb (get_or l k 0) v (λ q. o.0 k b (q ∙ sym e)))))
    (omega arith))
    (λ n. rw (cons_hit (without v) x l (rw (ne_eqb x v n))) (omega (arith, without_le v l o.1)))
    (same_or x v)

-- n numbers give room for n entries
pub once_short : (n : ℕ) (l : List ℕ) → Once l → Each (λ x. (0 < x) × (x ≤ n)) l → length l ≤ n
once_short zero [] o e = omega arith
once_short zero (x ∷ l) o e = absurd (omega (arith, e 0 (omega arith)))
once_short (suc n) l o e =
    let r = once_short n (only (without (suc n)) l) (once_only _ l o) (λ k b.
    let q = only_each (without (suc n)) (λ x. (0 < x) × (x ≤ suc n)) l e k b in
    let d : get_or (only (without (suc n)) l) k 0 ≡ suc n → ⊥ = eqb-false _ _ (not-true _ (only_pass (without (suc n)) l k b)) in
    (q.0, omega (arith, q.1))) in
    omega (arith, r, without_le (suc n) l o)

-- and where one is missing, there is room for it
pub once_room : (n : ℕ) (l : List ℕ) (x : ℕ) → Once l → Each (λ x. (0 < x) × (x ≤ n)) l → Misses x l → 0 < x → x ≤ n → length l < n
unfolding Once
once_room n l x o e m a b = omega (arith, once_short n (x ∷ l) (m, o) (each_cons (λ x. (0 < x) × (x ≤ n)) x l (a, b) e))

-- What the changes of the listed work do to every list, and what a list's entries are. Source: document 01, "Lists of work".
use Prim.Native.Nat.{ℕ, zero, suc, ◌+◌, ◌<◌, ◌≤◌}
use mathlib.Core.Bool.{Bool, true, false, not, cond, ◌&&◌, and-false}
use mathlib.Core.Path.{◌≡◌, refl, sym, ap, ◌∙◌}
use mathlib.Core.List.{List, [], ◌∷◌, ◌++◌, append-nil}
use mathlib.Core.Logic.{⊎_elim}
use native.Mathlib.Omega.{arith}
use lib.ListN.{length, get_or, set, get_or-eq_default}
use lib.Seq.{get_or-set_same, get_or-set_other}
use lib.Dec.{eqb}
use borrow.Author.Tests.{eq-eqb, ne_eqb, eqb-true, not-true}
use Rattle.below.specs.Below.{set_below}
use Rattle.below.proofs.Tests.{bool_or, le_or, same_or, and_fst, and_snd}
use Rattle.below.proofs.Column as column
use Rattle.columns.specs.Column.{at}
use Rattle.columns.specs.Work.{work, only, on_list, list_in, Found, held_by, dropped_of, moved_of, Sound}
use Rattle.columns.specs.declared.lists.Lists.{Lists}
use Rattle.columns.proofs.Work.{Each, only_nil, only_append, only_same, only_none, only_only, only_each, only_pass, cons_hit, cons_miss, work_more, work_each, order_work, work_fits, only_fits, apart_fits}
use Rattle.columns.proofs.Once.{Misses, each_found, found_only}

-- the holders after a change; a column that is shorter than its rows reads 0 past its end, before and after
module _ (hit : ℕ → Bool) (h rows : ℕ) (holder : List ℕ) where
  abbrev holds : ℕ → ℕ
  holds x = cond (hit x) h (at holder x)

  pub held_past : (x : ℕ) → rows ≤ x → at (held_by rows hit h holder) x ≡ at holder x
  held_past x b = column.set_past holds rows x holder (set_below rows holds holder) 0 refl b

  pub held_miss : (x : ℕ) → hit x ≡ false → at (held_by rows hit h holder) x ≡ at holder x
  held_miss x e =
      ⊎_elim (λ b. held_past x b)
      (λ b. ⊎_elim
      (λ s. get_or-eq_default (set_below rows holds holder) 0 (rw column.set_length s) ∙ sym (get_or-eq_default holder 0 s))
      (λ s. column.set_at holds rows x holder 0 b s ∙ rw e) (le_or (length holder) x))
      (le_or rows x)

  pub held_hit : (x : ℕ) → x < rows → (length holder ≤ x → h ≡ 0) → hit x ≡ true → at (held_by rows hit h holder) x ≡ h
  held_hit x b z e =
      ⊎_elim (λ s. get_or-eq_default (set_below rows holds holder) 0 (rw column.set_length s) ∙ sym (z s))
      (λ s. column.set_at holds rows x holder 0 b s ∙ rw e) (le_or (length holder) x)

-- those that are hit leave, the others keep their holder
module _ (all holder after object : List ℕ) (hit : ℕ → Bool) (keeps : (x : ℕ) → hit x ≡ false → at after x ≡ at holder x) (o u : ℕ) where
  abbrev stay : List ℕ
  stay = only (λ x. not (hit x)) all

  stay_list : list_in stay after object o u ≡ only (λ x. not (hit x) && on_list holder object o u x) all
  stay_list =
      only_only (on_list after object o u) (λ x. not (hit x)) all
      ∙ only_same (λ x. not (hit x) && on_list after object o u x) (λ x. not (hit x) && on_list holder object o u x) all (λ k b.
      ⊎_elim (λ e. rw e) (λ e. rw (e, keeps _ e)) (bool_or (hit (get_or all k 0))))

  -- a list of which none is hit stays as it was
  stay_other : ((x : ℕ) → at holder x ≡ u → hit x ≡ false) → list_in stay after object o u ≡ list_in all holder object o u
  stay_other n = stay_list ∙ only_same (λ x. not (hit x) && on_list holder object o u x) (on_list holder object o u) all (λ k b.
      ⊎_elim (λ e. rw (n _ (eqb-true _ _ e))) (λ e. rw e (and-false (not (hit (get_or all k 0))))) (bool_or (eqb (at holder (get_or all k 0)) u)))

  -- a list of which each is hit is empty
  stay_none : ((x : ℕ) → at holder x ≡ u → hit x ≡ true) → list_in stay after object o u ≡ []
  stay_none n = stay_list ∙ only_none _ all (λ k b.
      ⊎_elim (λ e. rw (n _ (eqb-true _ _ e))) (λ e. rw e (and-false (not (hit (get_or all k 0))))) (bool_or (eqb (at holder (get_or all k 0)) u)))

-- those that t holds come to h
module _ (all holder after object : List ℕ) (t h : ℕ) (moves : Each (λ x. eqb (at holder x) t ≡ true → at after x ≡ h) all) (o : ℕ) where
  abbrev own : List ℕ
  own = only (λ x. eqb (at holder x) t) all

  own_list : (u : ℕ) → list_in own after object o u ≡ only (λ x. eqb (at holder x) t && (eqb h u && eqb (at object x) o)) all
  own_list u =
      only_only (on_list after object o u) (λ x. eqb (at holder x) t) all
      ∙ only_same (λ x. eqb (at holder x) t && on_list after object o u x) (λ x. eqb (at holder x) t && (eqb h u && eqb (at object x) o)) all (λ k b.
      ⊎_elim (λ e. rw (e, moves k b e)) (λ e. rw e) (bool_or (eqb (at holder (get_or all k 0)) t)))

  own_none : (u : ℕ) → (u ≡ h → ⊥) → list_in own after object o u ≡ []
  own_none u n = own_list u ∙ only_none _ all (λ k b. rw (ne_eqb h u (λ e. n (sym e))) (and-false (eqb (at holder (get_or all k 0)) t)))

  own_all : list_in own after object o h ≡ list_in all holder object o t
  own_all = own_list h ∙ only_same _ _ all (λ k b. rw (eq-eqb h h refl))

-- the list of u for object o in these columns
abbrev pub list_on : Lists → List ℕ → ℕ → ℕ → List ℕ
list_on w object o u = list_in (work w.listed w.order) w.holder object o u

module _ (rows listed : ℕ) (order holder object : List ℕ) (s : Sound rows listed order holder) where
  abbrev all : List ℕ
  all = work listed order

  -- a holder that is lost loses its lists, and the others keep theirs
  module _ (lost : ℕ → Bool) (o u : ℕ) where
    abbrev hit : ℕ → Bool
    hit x = lost (at holder x)

    dropped_list : list_on (dropped_of hit rows listed order holder) object o u ≡ list_in (only (λ x. not (hit x)) all) (held_by rows hit 0 holder) object o u
    dropped_list =
        ap (λ l. list_in l (held_by rows hit 0 holder) object o u)
        (order_work (only (λ x. not (hit x)) all) (only_fits (λ x. not (hit x)) rows all (work_fits rows listed order holder s)).short)

    pub dropped_lost : lost u ≡ true → list_on (dropped_of (λ x. lost (at holder x)) rows listed order holder) object o u ≡ []
    dropped_lost e = dropped_list ∙ stay_none all holder (held_by rows hit 0 holder) object hit (held_miss hit 0 rows holder) o u (λ x q. rw q e)

    pub dropped_other : lost u ≡ false → list_on (dropped_of (λ x. lost (at holder x)) rows listed order holder) object o u ≡ list_in (work listed order) holder object o u
    dropped_other e = dropped_list ∙ stay_other all holder (held_by rows hit 0 holder) object hit (held_miss hit 0 rows holder) o u (λ x q. rw q e)

  -- the lists of t come to the end of those of h
  module _ (t h : ℕ) (inner : 0 < t) (apart : h ≡ t → ⊥) (o : ℕ) where
    abbrev of : ℕ → Bool
    of x = eqb (at holder x) t

    moves : Each (λ x. of x ≡ true → at (held_by rows of h holder) x ≡ h) all
    moves = work_each order (λ x. of x ≡ true → at (held_by rows of h holder) x ≡ h) listed (λ k b e.
        held_hit of h rows holder (at order k) (s.entries k b) (λ l. absurd (omega (arith, inner, eqb-true (at holder (at order k)) t e, get_or-eq_default holder 0 {n = at order k} l))) e)

    parts : (u : ℕ) → list_on (moved_of of h rows listed order holder) object o u
        ≡ list_in (only (λ x. not (of x)) all) (held_by rows of h holder) object o u ++ list_in (only of all) (held_by rows of h holder) object o u
    parts u =
        ap (λ l. list_in l (held_by rows of h holder) object o u)
        (order_work (only (λ x. not (of x)) all ++ only of all) (apart_fits (λ x. not (of x)) of rows all (λ x. not-true (of x)) (work_fits rows listed order holder s)).short)
        ∙ only_append _ (only (λ x. not (of x)) all) (only of all)

    pub moved_above : list_on (moved_of (λ x. eqb (at holder x) t) h rows listed order holder) object o h
        ≡ list_in (work listed order) holder object o h ++ list_in (work listed order) holder object o t
    moved_above =
        parts h
        ∙ rw (
          own_all all holder (held_by rows of h holder) object t h moves o,
          stay_other all holder (held_by rows of h holder) object of (held_miss of h rows holder) o h (λ x q. rw q (ne_eqb h t apart)),
        )

    pub moved_own : list_on (moved_of (λ x. eqb (at holder x) t) h rows listed order holder) object o t ≡ []
    moved_own =
        parts t
        ∙ rw (
          own_none all holder (held_by rows of h holder) object t h moves o t (λ e. apart (sym e)),
          stay_none all holder (held_by rows of h holder) object of (held_miss of h rows holder) o t (λ x q. rw q (eq-eqb t t refl)),
        )

    pub moved_other : (u : ℕ) → (u ≡ t → ⊥) → (u ≡ h → ⊥)
        → list_on (moved_of (λ x. eqb (at holder x) t) h rows listed order holder) object o u ≡ list_in (work listed order) holder object o u
    moved_other u n m =
        parts u
        ∙ rw (
          own_none all holder (held_by rows of h holder) object t h moves o u m,
          stay_other all holder (held_by rows of h holder) object of (held_miss of h rows holder) o u (λ x q. rw q (ne_eqb u t n)),
        ) (append-nil _)

-- a place past the first n says nothing of them
pub work_set : (order : List ℕ) (n k x : ℕ) → n ≤ k → work n (set order k x) ≡ work n order
unfolding work
work_set order zero k x h = refl
work_set order (suc n) k x h = rw (work_set order n k x (omega arith), get_or-set_other order k n x 0 (λ e. omega arith))

-- x, on no list before, comes last of all, on its own list
module _ (listed x : ℕ) (order : List ℕ) (room : listed < length order) where
  pub appended_work : work (listed + 1) (set order listed x) ≡ work listed order ++ (x ∷ [])
  appended_work = work_more (set order listed x) listed ∙ rw (work_set order listed listed x (omega arith), get_or-set_same order listed x 0 room)

  module _ (holder object : List ℕ) (row : x < length holder) (absent : Misses x (work listed order)) (o u : ℕ) where
    appended_list : list_in (work (listed + 1) (set order listed x)) (set holder x x) object o u
        ≡ list_in (work listed order) holder object o u ++ list_in (x ∷ []) (set holder x x) object o u
    appended_list =
        ap (λ l. list_in l (set holder x x) object o u) appended_work
        ∙ only_append _ (work listed order) (x ∷ [])
        ∙ ap (λ l. l ++ list_in (x ∷ []) (set holder x x) object o u)
        (only_same _ _ (work listed order) (λ k b. rw (get_or-set_other holder x (get_or (work listed order) k 0) x 0 (absent k b))))

    pub appended_own : u ≡ x → at object x ≡ o
        → list_in (work (listed + 1) (set order listed x)) (set holder x x) object o u ≡ list_in (work listed order) holder object o u ++ (x ∷ [])
    appended_own e q =
        appended_list
        ∙ ap (λ l. list_in (work listed order) holder object o u ++ l)
        (cons_hit _ x [] (rw (get_or-set_same holder x x 0 row, eq-eqb x u (sym e)) (eq-eqb _ _ q)) ∙ ap (λ r. x ∷ r) (only_nil _))

    pub appended_other : (u ≡ x → at object x ≡ o → ⊥)
        → list_in (work (listed + 1) (set order listed x)) (set holder x x) object o u ≡ list_in (work listed order) holder object o u
    appended_other n =
        appended_list
        ∙ ap (λ l. list_in (work listed order) holder object o u ++ l) (cons_miss _ x [] miss ∙ only_nil _)
        ∙ append-nil _
      where
        miss : on_list (set holder x x) object o u x ≡ false
        miss = rw (get_or-set_same holder x x 0 row)
            (⊎_elim (λ e. rw (eq-eqb x u e) (ne_eqb _ _ (n (sym e)))) (λ d. rw (ne_eqb x u d)) (same_or x u))

-- the entries of a list are the listed accesses on the object that its holder holds
module _ (all holder object : List ℕ) (o u : ℕ) where
  pub list_entries : Each (λ x. (at holder x ≡ u) × (at object x ≡ o) × Found x all) (list_in all holder object o u)
  list_entries k b =
      let x = get_or (list_in all holder object o u) k 0 in
      let e = only_pass (on_list holder object o u) all k b in
      (eqb-true _ _ (and_fst (eqb (at holder x) u) _ e), eqb-true _ _ (and_snd (eqb (at holder x) u) _ e), only_each (on_list holder object o u) (λ x. Found x all) all (each_found all) k b)

  pub list_has : (x : ℕ) → Found x all → at holder x ≡ u → at object x ≡ o → Found x (list_in all holder object o u)
  list_has x f a b = found_only (on_list holder object o u) all x f (rw (eq-eqb _ _ a) (eq-eqb _ _ b))

-- The lists keep their form: when accesses leave their lists or go to another, when one is answered, when a transaction is created, and at an opening.
use Prim.Native.Nat.{ℕ, ◌+◌, ◌-◌, ◌<◌, ◌≤◌}
use mathlib.Core.Bool.{Bool, true, not}
use mathlib.Core.Path.{◌≡◌, refl, sym, ap, ◌∙◌}
use mathlib.Core.Logic.{⊎_elim}
use mathlib.Core.List.{List, ◌++◌}
use native.Mathlib.Omega.{arith}
use lib.ListN.{length, get_or, set, replicate, get_or-eq_default}
use lib.Seq.{get_or-set_same, get_or-set_other}
use lib.Dec.{eqb}
use borrow.Author.Tests.{eq-eqb, eqb-true, not-true}
use Rattle.below.specs.Climb.{Lower}
use Rattle.below.proofs.Tests.{bool_or, same_or, le_or}
use Rattle.below.proofs.Climb.{lower_to, up_here, up_over, up_agree}
use Rattle.below.proofs.Column.{filled_at}
use Rattle.columns.specs.Column.{at, rows_most, places_most}
use Rattle.columns.specs.Tree.{at_or_above}
use Rattle.columns.specs.Work.{work, only, Found, held_by, dropped_of, moved_of}
use Rattle.columns.proofs.Work.{Each, only_each, only_pass, each_append, work_each, work_at, length_work, order_of, place_of}
use Rattle.columns.proofs.Once.{Once, Misses, find, found_each, found_only, each_left, each_right, only_out, once_index, once_only, once_parted, once_short, once_room, order_stands, order_past, placed, unplaced}
use Rattle.columns.proofs.ListLaws.{held_past, held_miss, held_hit}
use Rattle.form.specs.Form.{count_most}
use Rattle.form.proofs.Facts.{Used, Tree, tree_lower, Entry, Listed, Lists, once, absent, listed_known}

-- columns made of a list keep the form: nothing stands in it twice, each entry is answered and has a holder at or above it, and nothing else has a holder
module _ (count : ℕ) (parent outcome l holder : List ℕ) (few : count ≤ count_most) (single : Once l) (known : Each (λ x. Used count x) l)
    (free : (x : ℕ) → x < rows_most → Misses x l → at holder x ≡ 0) (answered : Each (λ x. at outcome x ≡ 0 → ⊥) l)
    (held : Each (λ x. at_or_above parent x (at holder x) ≡ true) l) where
  short : length l ≤ places_most
  short = omega (arith, once_short count l single known)

  place_at : (i : ℕ) → i < length l → at (place_of l) (get_or l i 0) ≡ i + 1
  place_at = placed l single (λ k b. omega (arith, (known k b).1))

  place_of_lem : (x : ℕ) → (f : Found x l) → at (place_of l) x ≡ f.index + 1
  place_of_lem x f = ap (at (place_of l)) (sym f.is) ∙ place_at f.index f.small

  row : (x : ℕ) (f : Found x l) → Listed (length l) x (at outcome x) (at (place_of l) x) (at (order_of l) (at (place_of l) x - 1)) (at_or_above parent x (at holder x))
  row x f =
      let q : f.index + 1 - 1 ≡ f.index = omega arith in
      rw (place_of_lem x f, q) (record {
        answered = found_each (λ x. at outcome x ≡ 0 → ⊥) l answered x f;
        within = omega (arith, f.small);
        stands = order_stands l short f.index f.small ∙ f.is;
        held = found_each (λ x. at_or_above parent x (at holder x) ≡ true) l held x f;
      })

  lists_made : Lists count parent outcome (length l) (order_of l) holder (place_of l)
  lists_made = record {
    few = short;
    entries = λ i b. rw (order_stands l short i b) (record { some = (known i b).0; known = (known i b).1; placed = place_at i b });
    unused = λ i b h. order_past l i b;
    unlisted = λ k h z. ⊎_elim (λ f. absurd (omega (arith, place_of_lem k f))) (λ n. free k h n) (find k l);
    rows = λ k h n. ⊎_elim (λ f. row k f) (λ m. absurd (n (unplaced l k m))) (find k l);
  }

module _ (count : ℕ) (parent state operation outcome : List ℕ) (listed : ℕ) (order holder place : List ℕ)
    (tree : Tree count parent state operation) (lists : Lists count parent outcome listed order holder place) where
  lower : Lower rows_most (at parent)
  lower = tree_lower count parent state operation tree

  abbrev all : List ℕ
  all = work listed order

  pub single : Once all
  single = once_index all (λ i j a b e.
      let l : i < listed = rw length_work at a in
      let m : j < listed = rw length_work at b in
      once count parent outcome listed order holder place lists i j l m (sym (work_at order listed i l) ∙ e ∙ work_at order listed j m))

  pub known : Each (λ x. Used count x) all
  known = work_each order (λ x. Used count x) listed (λ i b. ((lists.entries i b).some, (lists.entries i b).known))

  -- what has no place is no entry
  pub missing : (x : ℕ) → at place x ≡ 0 → Misses x all
  missing x z = work_each order (λ y. y ≡ x → ⊥) listed (λ i b. absent count parent outcome listed order holder place lists x z i b)

  -- what has a place is an entry, and what is an entry has a place
  pub placed_found : (x : ℕ) → x < rows_most → (at place x ≡ 0 → ⊥) → Found x all
  placed_found x h n =
      let r = lists.rows x h n in
      let l : at place x - 1 < listed = omega (arith, r.within) in
      record { index = at place x - 1; small = rw length_work l; is = work_at order listed (at place x - 1) l ∙ r.stands }

  pub found_placed : (x : ℕ) → Found x all → at place x ≡ 0 → ⊥
  found_placed x f z = found_each (λ y. y ≡ x → ⊥) all (missing x z) x f refl

  -- what is no entry has no holder
  free : (x : ℕ) → x < rows_most → Misses x all → at holder x ≡ 0
  free x h m = ⊎_elim (λ z. lists.unlisted x h z) (λ n. absurd (found_each (λ y. y ≡ x → ⊥) all m x (placed_found x h n) refl)) (same_or (at place x) 0)

  abbrev On : ℕ → Type 0
  On x = Listed listed x (at outcome x) (at place x) (at order (at place x - 1)) (at_or_above parent x (at holder x))

  entry_row : Each On all
  entry_row = work_each order On listed (λ i b. lists.rows (at order i) (omega (arith, (lists.entries i b).known, tree.few)) (λ z. omega (arith, (lists.entries i b).placed)))

  answered : Each (λ x. at outcome x ≡ 0 → ⊥) all
  answered k b = (entry_row k b).answered

  above : Each (λ x. at_or_above parent x (at holder x) ≡ true) all
  above k b = (entry_row k b).held

  -- those that are hit leave their lists
  module _ (hit : ℕ → Bool) where
    abbrev stays : ℕ → Bool
    stays x = not (hit x)

    abbrev left : List ℕ
    left = held_by (count + 1) hit 0 holder

    left_zero : (x : ℕ) → at holder x ≡ 0 → at left x ≡ 0
    left_zero x z =
        ⊎_elim (λ b. held_past hit 0 (count + 1) holder x b ∙ z)
        (λ b. ⊎_elim (λ e. held_hit hit 0 (count + 1) holder x b (λ s. refl) e) (λ e. held_miss hit 0 (count + 1) holder x e ∙ z) (bool_or (hit x)))
        (le_or (count + 1) x)

    left_free : (x : ℕ) → x < rows_most → Misses x (only stays all) → at left x ≡ 0
    left_free x h m =
        ⊎_elim
        (λ f. ⊎_elim (λ e. held_hit hit 0 (count + 1) holder x (omega (arith, (found_each (λ x. Used count x) all known x f).1)) (λ s. refl) e)
        (λ e. absurd (found_each (λ y. y ≡ x → ⊥) (only stays all) m x (found_only stays all x f (rw e)) refl)) (bool_or (hit x)))
        (λ n. left_zero x (free x h n)) (find x all)

    left_above : Each (λ x. at_or_above parent x (at left x) ≡ true) (only stays all)
    left_above k b =
        rw (held_miss hit 0 (count + 1) holder (get_or (only stays all) k 0) (not-true _ (only_pass stays all k b)))
        (only_each stays (λ x. at_or_above parent x (at holder x) ≡ true) all above k b)

    pub dropped_kept : Lists count parent outcome (dropped_of hit (count + 1) listed order holder).listed (dropped_of hit (count + 1) listed order holder).order
        (dropped_of hit (count + 1) listed order holder).holder (dropped_of hit (count + 1) listed order holder).place
    dropped_kept =
        lists_made count parent outcome (only stays all) left tree.few (once_only stays all single) (only_each stays (λ x. Used count x) all known)
        left_free (only_each stays (λ x. at outcome x ≡ 0 → ⊥) all answered) left_above

  -- those that are hit go to h, which is at or above each of them
  module _ (hit : ℕ → Bool) (h : ℕ) (holds : (x : ℕ) → hit x ≡ true → 0 < at holder x)
      (over : (x : ℕ) → x < rows_most → hit x ≡ true → at_or_above parent x (at holder x) ≡ true → at_or_above parent x h ≡ true) where
    abbrev moved : List ℕ
    moved = only (λ x. not (hit x)) all ++ only hit all

    abbrev given : List ℕ
    given = held_by (count + 1) hit h holder

    -- what holds of each entry holds of each in the new order
    each_moved : (P : ℕ → Type 0) → Each P all → Each P moved
    each_moved P e = each_append P (only (λ x. not (hit x)) all) (only hit all) (only_each (λ x. not (hit x)) P all e) (only_each hit P all e)

    moved_misses : (x : ℕ) → Misses x moved → Misses x all
    moved_misses x m k b =
        ⊎_elim (λ e. only_out (λ y. y ≡ x → ⊥) hit all (each_right (λ y. y ≡ x → ⊥) (only (λ y. not (hit y)) all) (only hit all) m) k b e)
        (λ e. only_out (λ y. y ≡ x → ⊥) (λ y. not (hit y)) all (each_left (λ y. y ≡ x → ⊥) (only (λ y. not (hit y)) all) (only hit all) m) k b (rw e))
        (bool_or (hit (get_or all k 0)))

    given_free : (x : ℕ) → x < rows_most → Misses x moved → at given x ≡ 0
    given_free x b m =
        let z = free x b (moved_misses x m) in
        ⊎_elim (λ e. absurd (omega (arith, holds x e))) (λ e. held_miss hit h (count + 1) holder x e ∙ z) (bool_or (hit x))

    given_above : Each (λ x. at_or_above parent x (at given x) ≡ true) all
    given_above k b =
        let x = get_or all k 0 in
        let u = known k b in
        ⊎_elim
        (λ e. rw (held_hit hit h (count + 1) holder x (omega (arith, u.1)) (λ s. absurd (omega (arith, holds x e, get_or-eq_default holder 0 {n = x} s))) e)
        (over x (omega (arith, u.1, tree.few)) e (above k b)))
        (λ e. rw (held_miss hit h (count + 1) holder x e) (above k b)) (bool_or (hit x))

    handed_kept : Lists count parent outcome (moved_of hit h (count + 1) listed order holder).listed (moved_of hit h (count + 1) listed order holder).order
        (moved_of hit h (count + 1) listed order holder).holder (moved_of hit h (count + 1) listed order holder).place
    handed_kept =
        lists_made count parent outcome moved given tree.few (once_parted hit all single) (each_moved (λ x. Used count x) known) given_free
        (each_moved (λ x. at outcome x ≡ 0 → ⊥) answered) (each_moved (λ x. at_or_above parent x (at given x) ≡ true) given_above)

  -- what t holds goes to its parent
  pub moved_kept : (t : ℕ) → Used count t
      → Lists count parent outcome (moved_of (λ x. eqb (at holder x) t) (at parent t) (count + 1) listed order holder).listed
      (moved_of (λ x. eqb (at holder x) t) (at parent t) (count + 1) listed order holder).order
      (moved_of (λ x. eqb (at holder x) t) (at parent t) (count + 1) listed order holder).holder
      (moved_of (λ x. eqb (at holder x) t) (at parent t) (count + 1) listed order holder).place
  moved_kept t u =
      handed_kept (λ x. eqb (at holder x) t) (at parent t) (λ x e. omega (arith, eqb-true (at holder x) t e, u.0))
      (λ x b e a. up_over (at parent) rows_most lower t u.0 x b (rw (eqb-true (at holder x) t e) at a))

  -- there is a place for an access that is on no list
  pub place_left : (x : ℕ) → Used count x → at place x ≡ 0 → listed < places_most
  place_left x u z = omega (arith, once_room count all x single known (missing x z) u.0 u.1, length_work order listed, tree.few)

  -- an access that is on no list is answered, and stands last, on its own list
  module _ (x v : ℕ) (u : Used count x) (z : at place x ≡ 0) (some : v ≡ 0 → ⊥)
      (outcome-row : x < length outcome) (order_row : listed < length order) (holder_row : x < length holder) (place-row : x < length place) where
    abbrev order₁ : List ℕ
    order₁ = set order listed x

    abbrev place₁ : List ℕ
    place₁ = set place x (listed + 1)

    order_own : at order₁ listed ≡ x
    order_own = get_or-set_same order listed x 0 order_row

    place_own : at place₁ x ≡ listed + 1
    place_own = get_or-set_same place x (listed + 1) 0 place-row

    order_other : (i : ℕ) → (i ≡ listed → ⊥) → at order₁ i ≡ at order i
    order_other i n = get_or-set_other order listed i x 0 n

    place_other : (k : ℕ) → (k ≡ x → ⊥) → at place₁ k ≡ at place k
    place_other k n = get_or-set_other place x k (listed + 1) 0 n

    new_entry : Entry count listed (at order₁ listed) (at place₁ (at order₁ listed))
    new_entry = rw order_own (record { some = u.0; known = u.1; placed = place_own })

    old_entry : (i : ℕ) → i < listed → Entry count i (at order₁ i) (at place₁ (at order₁ i))
    old_entry i b =
        let n : at order i ≡ x → ⊥ = absent count parent outcome listed order holder place lists x z i b in
        let e = lists.entries i b in
        rw (order_other i (λ q. omega arith)) (record { some = e.some; known = e.known; placed = place_other (at order i) n ∙ e.placed })

    abbrev On₁ : ℕ → Type 0
    On₁ k = Listed (listed + 1) k (at (set outcome x v) k) (at place₁ k) (at order₁ (at place₁ k - 1)) (at_or_above parent k (at (set holder x x) k))

    new_row : On₁ x
    new_row =
        let q : listed + 1 - 1 ≡ listed = omega arith in
        let e : at (set outcome x v) x ≡ v = get_or-set_same outcome x v 0 outcome-row in
        rw (place_own, q, get_or-set_same holder x x 0 holder_row) (record {
          answered = λ w. some (sym e ∙ w);
          within = omega arith;
          stands = order_own;
          held = up_here (at parent) (λ y. eqb y x) x (eq-eqb x x refl);
        })

    old_row : (k : ℕ) → (k ≡ x → ⊥) → (at place k ≡ 0 → ⊥) → On k → On₁ k
    old_row k n p r =
        rw (place_other k n, get_or-set_other outcome x k v 0 n, get_or-set_other holder x k x 0 n) (record {
          answered = r.answered;
          within = omega (arith, r.within);
          stands = order_other (at place k - 1) (λ q. omega (arith, r.within, p)) ∙ r.stands;
          held = r.held;
        })

    pub answered_kept : Lists count parent (set outcome x v) (listed + 1) (set order listed x) (set holder x x) (set place x (listed + 1))
    answered_kept = record {
      few = omega (arith, place_left x u z);
      entries = λ i b. ⊎_elim (λ e. rw e new_entry) (λ n. old_entry i (omega arith)) (same_or i listed);
      unused = λ i b h. order_other i (λ e. omega arith) ∙ lists.unused i (omega arith) h;
      unlisted = λ k h w.
          let n : k ≡ x → ⊥ = λ e. omega (arith, place_own, ap (at place₁) e) in
          get_or-set_other holder x k x 0 n ∙ lists.unlisted k h (sym (place_other k n) ∙ w);
      rows = λ k h w. ⊎_elim (λ e. rw e new_row)
          (λ n. let p : at place k ≡ 0 → ⊥ = λ y. w (place_other k n ∙ y) in old_row k n p (lists.rows k h p)) (same_or k x);
    }

  -- the next number gets a row under p
  pub lists_created : (p : ℕ) → Lists (count + 1) (set parent (count + 1) p) outcome listed order holder place
  lists_created p = record {
    few = lists.few;
    entries = λ i b. let e = lists.entries i b in record { some = e.some; known = omega (arith, e.known); placed = e.placed };
    unused = lists.unused;
    unlisted = lists.unlisted;
    rows = λ k h n.
        let r = lists.rows k h n in
        let u = listed_known count parent outcome listed order holder place lists k h n in
        record { answered = r.answered; within = r.within; stands = r.stands; held = same k u ∙ r.held };
  }
    where
      same : (k : ℕ) → Used count k → at_or_above (set parent (count + 1) p) k (at holder k) ≡ at_or_above parent k (at holder k)
      same k u =
          up_agree (at parent) (count + 1) (lower_to (at parent) rows_most (count + 1) lower (omega (arith, tree.few))) (at (set parent (count + 1) p))
          (λ j z b. get_or-set_other parent (count + 1) j p 0 (λ e. omega arith)) (λ y. eqb y (at holder k)) k (omega (arith, u.1))

pub lists_opened : Lists 0 (replicate rows_most 0) (replicate rows_most 0) 0 (replicate places_most 0) (replicate rows_most 0) (replicate rows_most 0)
lists_opened = record {
  few = omega arith;
  entries = λ i b. absurd (omega arith);
  unused = λ i b h. filled_at 0 places_most i;
  unlisted = λ k h z. filled_at 0 rows_most k;
  rows = λ k h n. absurd (n (filled_at 0 rows_most k));
}

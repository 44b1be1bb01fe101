-- The lists with more listed behind: one more, each that passes of an order, and what then stands in the columns.
use Prim.Native.Nat.{ℕ, ◌+◌, ◌<◌, ◌≤◌}
use mathlib.Core.Bool.{Bool, true, false, cond, not, beq}
use mathlib.Core.Path.{◌≡◌, refl, sym, ap, ◌∙◌}
use mathlib.Core.List.{List, [], ◌∷◌, ◌++◌}
use native.Mathlib.Nat.{add-zero, zero-add}
use native.Mathlib.Omega.{arith}
use lib.ListN.{length, get_or, take, replicate, length-append}
use Rattle.std.proofs.Common.{length-take}
use lib.Seq.{get_or-take}
use borrow.Author.Tests.{not-true}
use Rattle.below.proofs.Column.{set_same}
use Rattle.columns.specs.Column.{at, rows_most, places_most}
use Rattle.columns.specs.Tree.{marks_of}
use Rattle.columns.specs.Work.{work, only, laid, numbered, work_of, held_by, moved_of, Sound}
use Rattle.columns.specs.Listing.{has, pushed, extended, held_in, Room}
use Rattle.columns.specs.declared.lists.Lists.{Lists}
use Rattle.columns.proofs.Marks.{mark, mark_of}
use Rattle.columns.proofs.Work.{work_none, only_nil, only_same, only_le, work_each, length_work, laid_snoc, laid_append, numbered_snoc, numbered_append, more_hit, more_miss, sift_room, work_fits, apart_fits}

pub extended_none : (w : Lists) → w ≡ extended w []
unfolding laid numbered
extended_none w = rw add-zero

extended_more : (w : Lists) (l : List ℕ) (x : ℕ) → pushed (extended w l) x ≡ extended w (l ++ (x ∷ []))
extended_more w l x =
    let e : w.listed + length (l ++ (x ∷ [])) ≡ w.listed + length l + 1 = omega (arith, length-append l (x ∷ [])) in
    rw (e, laid_snoc, numbered_snoc)

-- an entry of the part of the order in use
pub taken : (order : List ℕ) (n k : ℕ) → k < length (take n order) → (k < n) × (get_or (take n order) k 0 ≡ at order k)
taken order n k h =
    let small : k < n = omega (arith, length-take n order) in
    (small, get_or-take n order k 0 small)

-- a loop over the order, which lists each that passes
module _ (w : Lists) (p : ℕ → Bool) (order : List ℕ) where
  pub listing_start : w ≡ extended w (only p (work 0 order))
  listing_start = rw (work_none order, only_nil p) (extended_none w)

  pub listing_hit : (k x : ℕ) (s : Lists) → s ≡ extended w (only p (work k order)) → x ≡ at order k → p (at order k) ≡ true → pushed s x ≡ extended w (only p (work (k + 1) order))
  listing_hit k x s e q t = rw (more_hit p order k t, e, q) (extended_more w (only p (work k order)) (at order k))

  pub listing_miss : (k : ℕ) (s : Lists) → s ≡ extended w (only p (work k order)) → p (at order k) ≡ false → s ≡ extended w (only p (work (k + 1) order))
  listing_miss k s e f = rw (more_miss p order k f) e

  pub listing_room : (k m : ℕ) (s : Lists) → s ≡ extended w (only p (work k order)) → k < m → p (at order k) ≡ true
      → w.listed + length (only p (work m order)) ≤ places_most → s.listed < places_most
  listing_room k m s e h t r = rw e (omega (arith, sift_room p order k m (at order k) h refl t, r))

-- what stands in the columns, where more is listed
pub extended_of : (l m holder : List ℕ) → extended (work_of l holder) m ≡ work_of (l ++ m) holder
extended_of l m holder =
    let a = laid_append (replicate places_most 0) 0 l m in
    let b = numbered_append (replicate rows_most 0) 0 l m in
    rw (length-append l m, a, b, zero-add)

-- the marks tell which holders pass
module _ {rows listed : ℕ} {order holder : List ℕ} (s : Sound rows listed order holder) (q : ℕ → Bool) (marks : List Bool) (m : marks ≡ marks_of rows q) where
  told : (x : ℕ) → x < rows → mark marks (at holder x) ≡ q (at holder x)
  told x h = mark_of q rows (at holder x) (at holder x) marks m s.rows_fit refl (s.holders x h)

  pub told_stay : only (λ x. has marks false (at holder x)) (work listed order) ≡ only (λ x. not (q (at holder x))) (work listed order)
  told_stay =
      only_same (λ x. not (mark marks (at holder x))) (λ x. not (q (at holder x))) (work listed order)
      (work_each order (λ x. not (mark marks (at holder x)) ≡ not (q (at holder x))) listed (λ k b. ap not (told (at order k) (s.entries k b))))

  pub told_go : only (λ x. has marks true (at holder x)) (work listed order) ≡ only (λ x. q (at holder x)) (work listed order)
  told_go =
      only_same (λ x. mark marks (at holder x)) (λ x. q (at holder x)) (work listed order)
      (work_each order (λ x. mark marks (at holder x) ≡ q (at holder x)) listed (λ k b. told (at order k) (s.entries k b)))

  pub told_held : (h : ℕ) → held_by rows (λ x. has marks true (at holder x)) h holder ≡ held_by rows (λ x. q (at holder x)) h holder
  told_held h = set_same _ _ rows holder (λ k b. rw (told k b))

same_has : (b v : Bool) → beq b v ≡ cond v b (not b)
same_has true true = refl
same_has true false = refl
same_has false true = refl
same_has false false = refl

-- a test of the mark of h
pub has_told : (marks : List Bool) (v : Bool) (h u : ℕ) (r : Bool) → h ≡ u → beq (mark marks h) v ≡ r → has marks v u ≡ r
has_told marks v h u r e t = rw (← e) (sym (same_has (mark marks h) v) ∙ t)

-- what is listed by the marks: first one part, and then the other
module _ (w : Lists) (marks : List Bool) {rows : ℕ} {u : Lists} {after : List ℕ} (s : Sound rows w.listed w.order w.holder) (e : u ≡ work_of [] after) where
  pub room : (v : Bool) → Room u w marks v
  room v = record {
    listed_fit = s.listed_fit;
    entries = λ k b. omega (arith, s.entries k b, s.rows_fit);
    holders = λ k b. omega (arith, s.holders (at w.order k) (s.entries k b), s.rows_fit);
    room = rw e (omega (arith, only_le (λ x. has marks v (at w.holder x)) (work w.listed w.order), length_work w.order w.listed, s.listed_fit));
  }

  module _ {y : Lists} (f : y ≡ extended u (held_in w marks false)) where
    stay : y ≡ work_of (held_in w marks false) after
    stay = f ∙ ap (λ u. extended u (held_in w marks false)) e ∙ extended_of [] (held_in w marks false) after

    pub room_behind : Room y w marks true
    room_behind =
        let hit = λ (x : ℕ). mark marks (at w.holder x) in
        let fits = apart_fits (λ x. not (hit x)) hit rows (work w.listed w.order) (λ x. not-true (hit x)) (work_fits rows w.listed w.order w.holder s) in
        let all = room true in
        record { listed_fit = all.listed_fit; entries = all.entries; holders = all.holders; room = rw stay (omega (arith, simp length-append at fits.short)) }

    module _ (q : ℕ → Bool) (h : ℕ) (m : marks ≡ marks_of rows q) (a : after ≡ held_by rows (λ x. has marks true (at w.holder x)) h w.holder) where
      pub stays : y ≡ work_of (only (λ x. not (q (at w.holder x))) (work w.listed w.order)) (held_by rows (λ x. q (at w.holder x)) h w.holder)
      stays = stay ∙ rw (told_stay s q marks m, a, told_held s q marks m h)

      pub goes : {z : Lists} → z ≡ extended y (held_in w marks true) → z ≡ moved_of (λ x. q (at w.holder x)) h rows w.listed w.order w.holder
      goes {z} g =
          g ∙ ap (λ y. extended y (held_in w marks true)) stay ∙ extended_of (held_in w marks false) (held_in w marks true) after
          ∙ rw (told_stay s q marks m, told_go s q marks m, a, told_held s q marks m h)

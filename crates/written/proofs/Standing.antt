-- Where a text stands in a file, and where it ends.
use Prim.Native.Nat.{ℕ, ◌+◌, ◌≤◌}
use mathlib.Core.Path.{◌≡◌, refl, sym, ◌∙◌}
use mathlib.Core.List.{List, [], ◌∷◌, ◌++◌, append-nil, append_assoc}
use native.Mathlib.Nat.{add-zero}
use native.Mathlib.Omega.{arith}
use lib.ListN.{length, drop, get_or, length-append, drop_of_length-le}
use lib.Seq.{drop-drop, drop-append_seam, get_or-drop}

pub record Stands (file : List ℕ) (at : ℕ) (text : List ℕ) (next : ℕ) : Type 0 where
  pub here : drop at file ≡ text ++ drop next file
  pub place : next ≡ at + length text

-- no text at all
pub stands_none : (s : List ℕ) (at : ℕ) → Stands s at [] at
stands_none s at = record { here = refl; place = sym (add-zero at) }

-- whatever follows it
pub stands : (s : List ℕ) (at : ℕ) (t rest : List ℕ) → drop at s ≡ t ++ rest → Stands s at t (at + length t)
stands s at t rest e = record { here = rw (← drop-drop (length t) at s, e, drop-append_seam t rest); place = refl }

pub stands_first : (s t rest : List ℕ) → s ≡ t ++ rest → Stands s 0 t (length t)
stands_first s t rest e = record { here = rw (e, drop-append_seam t rest); place = omega arith }

after_it : {s t : List ℕ} {i j : ℕ} (rest : List ℕ) → Stands s i t j → drop i s ≡ t ++ rest → drop j s ≡ rest
after_it {s} {t} {i} {j} rest p e = rw (p.place, ← drop-drop (length t) i s, e) (drop-append_seam t rest)

pub stands_then : {s t u : List ℕ} {i j k : ℕ} → Stands s i t j → Stands s j u k → Stands s i (t ++ u) k
stands_then {s} {t} {u} {i} {j} {k} p q =
    record { here = p.here ∙ rw q.here (sym (append_assoc t u (drop k s))); place = omega (arith, p.place, q.place, length-append t u) }

pub stands_before : {s : List ℕ} {i k : ℕ} (t u : List ℕ) → Stands s i (t ++ u) k → Stands s i t (i + length t)
stands_before {s} {i} {k} t u p = stands s i t (u ++ drop k s) (p.here ∙ append_assoc t u (drop k s))

pub stands_behind : {s : List ℕ} {i k : ℕ} (t u : List ℕ) → Stands s i (t ++ u) k → Stands s (i + length t) u k
stands_behind {s} {i} {k} t u p =
    record {
      here = after_it (u ++ drop k s) (stands_before t u p) (p.here ∙ append_assoc t u (drop k s));
      place = omega (arith, p.place, length-append t u);
    }

pub stands_as : {s t u : List ℕ} {i k : ℕ} → t ≡ u → Stands s i t k → Stands s i u k
stands_as e p = rw e at p

pub stands_to : {s t : List ℕ} {i j k : ℕ} → Stands s i t j → j ≡ k → Stands s i t k
stands_to p e = rw e at p

-- its first byte
pub stands_byte : {s t : List ℕ} {i k b : ℕ} → Stands s i (b ∷ t) k → get_or s i 0 ≡ b
stands_byte {s} {t} {i} {k} {b} p =
    let is : get_or s (i + 0) 0 ≡ b = sym (get_or-drop i s 0 0) ∙ rw p.here in
    rw (add-zero i) at is

-- with nothing after it
pub stands_all : {s t : List ℕ} {k : ℕ} → Stands s 0 t k → length s ≤ k → t ≡ s
stands_all {s} {t} {k} p end = sym (p.here ∙ rw (drop_of_length-le s end) (append-nil t))

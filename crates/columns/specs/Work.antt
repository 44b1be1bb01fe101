-- All listed work in one order, over every holder and object: `order` has the accesses that are on a list, `place` the place of each from 1 (0: on no
-- list), `holder` the transaction whose list it is on. Source: document 01, "Lists of work".
use Rattle.std.specs.Prelude.{ℕ, zero, suc, ◌<◌, ◌≤◌, Bool, cond, ◌&&◌, not, ◌≡◌, List, [], ◌∷◌, ◌++◌, eqb, length, get_or, set, replicate}
use Rattle.below.specs.Below.{set_below}
use Rattle.columns.specs.Column.{at, rows_most, places_most}
use Rattle.columns.specs.declared.lists.Lists.{Lists}

-- the listed work: the entries at the first n places
unfoldable pub work : ℕ → List ℕ → List ℕ
work zero order = []
work (suc n) order = work n order ++ (at order n ∷ [])

-- those that pass, in order
unfoldable pub only : (ℕ → Bool) → List ℕ → List ℕ
only p [] = []
only p (x ∷ l) = cond (p x) (x ∷ only p l) (only p l)

-- u holds x, and x is on object o
abbrev pub on_list : List ℕ → List ℕ → ℕ → ℕ → ℕ → Bool
on_list holder object o u x = eqb (at holder x) u && eqb (at object x) o

-- for each object every transaction has a list: that of u for o is what u holds of o, in the order of all listed work
abbrev pub list_in : List ℕ → List ℕ → List ℕ → ℕ → ℕ → List ℕ
list_in all holder object o u = only (on_list holder object o u) all

-- x is on the list
pub record Found (x : ℕ) (l : List ℕ) : Type 0 where
  pub index : ℕ
  pub small : index < length l
  pub is : get_or l index 0 ≡ x

-- the column with the list written from place k on
unfoldable pub laid : List ℕ → ℕ → List ℕ → List ℕ
laid column k [] = column
laid column k (x ∷ l) = laid (set column k x) (suc k) l

-- the column with, at each entry of the list, its number; the first has k + 1
unfoldable pub numbered : List ℕ → ℕ → List ℕ → List ℕ
numbered column k [] = column
numbered column k (x ∷ l) = numbered (set column x (suc k)) (suc k) l

-- the columns in which the listed work is l, with these holders
abbrev pub work_of : List ℕ → List ℕ → Lists
work_of l holder = record {
  listed = length l;
  order = laid (replicate places_most 0) 0 l;
  place = numbered (replicate rows_most 0) 0 l;
  holder = holder;
}

-- the column with h at each row that passes
abbrev pub held_by : ℕ → (ℕ → Bool) → ℕ → List ℕ → List ℕ
held_by rows hit h holder = set_below rows (λ x. cond (hit x) h (at holder x)) holder

-- the accesses that are hit leave their lists
abbrev pub dropped_of : (ℕ → Bool) → ℕ → ℕ → List ℕ → List ℕ → Lists
dropped_of hit rows listed order holder = work_of (only (λ x. not (hit x)) (work listed order)) (held_by rows hit 0 holder)

-- the accesses that are hit go, in their order, to the end of the list of h
abbrev pub moved_of : (ℕ → Bool) → ℕ → ℕ → ℕ → List ℕ → List ℕ → Lists
moved_of hit h rows listed order holder =
    work_of (only (λ x. not (hit x)) (work listed order) ++ only hit (work listed order)) (held_by rows hit h holder)

-- what the functions over these columns ask: no entry and no holder beyond the rows
pub record Sound (rows listed : ℕ) (order holder : List ℕ) : Type 0 where
  pub rows_fit : rows ≤ rows_most
  pub listed_fit : listed ≤ places_most
  pub entries : (k : ℕ) → k < listed → at order k < rows
  pub holders : (k : ℕ) → k < rows → at holder k < rows

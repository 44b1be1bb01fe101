-- The code's own: the steps by which listed work moves or leaves. No public promise speaks of them.
use Rattle.std.specs.Prelude.{ℕ, ◌+◌, ◌<◌, ◌≤◌, Bool, false, cond, not, List, length, get_or, set}
use Rattle.columns.specs.Column.{at, rows_most, places_most}
use Rattle.columns.specs.Work.{work, only, laid, numbered}
use Rattle.columns.specs.declared.lists.Lists.{Lists}

-- x is listed behind all others
abbrev pub pushed : Lists → ℕ → Lists
pushed w x = record { listed = w.listed + 1; order = set w.order w.listed x; holder = w.holder; place = set w.place x (w.listed + 1) }

-- and so is each of a list, in its order
abbrev pub extended : Lists → List ℕ → Lists
extended w l = record { listed = w.listed + length l; order = laid w.order w.listed l; holder = w.holder; place = numbered w.place w.listed l }

-- the mark of u is v
abbrev pub has : List Bool → Bool → ℕ → Bool
has marks v u = cond v (get_or marks u false) (not (get_or marks u false))

-- what is listed in `from`, and has a holder whose mark is v
abbrev pub held_in : Lists → List Bool → Bool → List ℕ
held_in from marks v = only (λ x. has marks v (at from.holder x)) (work from.listed from.order)

-- there is room for it behind w
pub record Room (w from : Lists) (marks : List Bool) (v : Bool) : Type 0 where
  pub listed_fit : from.listed ≤ places_most
  pub entries : (k : ℕ) → k < from.listed → at from.order k < rows_most
  pub holders : (k : ℕ) → k < from.listed → at from.holder (at from.order k) < rows_most
  pub room : w.listed + length (held_in from marks v) ≤ places_most

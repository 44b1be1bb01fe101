-- A column of a store: the list of its entries, indexed by the transaction's own number, or by the object's. Source: document 01, "What the store does".
use Rattle.std.specs.Prelude.{ℕ, List, ℤ, pos, get_or}

-- the entry of row k, in a column of numbers and in one of signed numbers
abbrev pub at : List ℕ → ℕ → ℕ
at column k = get_or column k 0

abbrev pub at_z : List ℤ → ℕ → ℤ
at_z column k = get_or column k (pos 0)

-- a row for each of up to 1,024 numbered transactions, and for the root, 0
abbrev pub rows_most : ℕ
rows_most = 1025

-- a place in the order for each of them that is on a list
abbrev pub places_most : ℕ
places_most = 1024

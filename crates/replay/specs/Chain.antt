-- The code's own: an object's listed work linked by holder, so that a replay goes through each entry once. No public promise speaks of it.
use Rattle.std.specs.Prelude.{ℕ, zero, suc, ◌+◌, ◌<◌, ◌≤◌, cond, ◌≡◌, List, [], ◌∷◌, eqb}
use Rattle.kinds.specs.declared.Kind.{Kind}
use Rattle.kinds.specs.declared.State.{State}
use Rattle.kinds.specs.Object.{Grown}
use Rattle.columns.specs.Column.{at, rows_most, places_most}
use Rattle.replay.specs.View.{Distinct}

-- from x by next, the list, and then 0
unfoldable pub Chain : List ℕ → ℕ → List ℕ → Type 0
Chain next x [] = x ≡ 0
Chain next x (y ∷ l) = (x ≡ y) × (0 < y) × (y < rows_most) × Chain next (at next y) l

-- the entries from x by next, at most so many
unfoldable pub chain_in : ℕ → List ℕ → ℕ → List ℕ
chain_in zero next x = []
chain_in (suc steps) next x = cond (eqb x 0) [] (x ∷ chain_in steps next (at next x))

-- all entries from x by next: the order has no more places
abbrev pub chain_of : List ℕ → ℕ → List ℕ
chain_of next x = chain_in places_most next x

-- the chain of u
abbrev pub chain_at : List ℕ → List ℕ → ℕ → List ℕ
chain_at head next u = chain_of next (at head u)

-- the chain of each u is its list
pub record Linked (own : ℕ → List ℕ) (head next : List ℕ) : Type 0 where
  pub chains : (u : ℕ) → u < rows_most → Chain next (at head u) (own u)

-- what can be linked: nothing stands twice, and each entry and its holder has a row
pub record Linkable (listed : ℕ) (order holder : List ℕ) : Type 0 where
  pub fit : listed ≤ places_most
  pub distinct : Distinct listed order
  pub entries : (k : ℕ) → k < listed → at order k < rows_most
  pub holders : (k : ℕ) → k < listed → at holder (at order k) < rows_most

-- a state after so many operations that n more make at most 1,024
pub record Left (kind : Kind) (n : ℕ) (s : State) : Type 0 where
  pub steps : ℕ
  pub grown : Grown kind steps s
  pub left : steps + n ≤ 1024

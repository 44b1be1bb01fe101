-- The code's own: what is remembered of the climbs to a holder. No public promise speaks of it.
use Rattle.std.specs.Prelude.{ℕ, ◌<◌, true, ◌≡◌, List}
use Rattle.columns.specs.Column.{at, rows_most}
use Rattle.columns.specs.Tree.{at_or_above}

-- each row has one that is at or above it
pub record Known (parent above : List ℕ) : Type 0 where
  pub known : (k : ℕ) → k < rows_most → at_or_above parent k (at above k) ≡ true

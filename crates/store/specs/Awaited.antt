-- The code's own: what `wait_for` finds, as the code answers it. No public promise speaks of it; proofs/Responding ties the two.
use Rattle.std.specs.Prelude.{ℕ, Option}
use Rattle.below.specs.Below.{found_below}
use Rattle.kinds.specs.declared.Answered.{Answered}
use Rattle.store.specs.declared.Store.{Store}
use Rattle.store.specs.Lists.{rows_of}
use Rattle.store.specs.Respond.{blocks_for}

-- the lowest-numbered access in the way, if there is one
abbrev pub awaited : Store → ℕ → Answered → Option ℕ
awaited s t asking = found_below (rows_of s) (blocks_for s t asking)

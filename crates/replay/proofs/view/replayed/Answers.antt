use Rattle.std.proofs.Common.{arith, rules, ◌≡◌}
use Rattle.below.proofs.Climb.{lower_to}
use Rattle.kinds.specs.Kinds.{opened_of, start_of}
use Rattle.replay.proofs.Walks.{self_linked, chain_room, chain_after}
use Rattle.replay.proofs.view.replayed.Goals as goal

pub climbed-requires : goal.climbed-requires
climbed-requires c =
    let start : c.opened_state-start.result ≡ start_of (opened_of c.args.kind c.args.opening) = search rules in (
      omega (arith, c.requires.0.rows_fit),
      lower_to _ _ _ c.requires.3 (omega arith),
      search (rules, self_linked),
      search (rules, chain_room, start),
    )

pub returns-in_default : goal.returns-in_default
returns-in_default c =
    let start : c.opened_state-start.result ≡ start_of (opened_of c.args.kind c.args.opening) = search rules in
    search (rules, chain_after, start)

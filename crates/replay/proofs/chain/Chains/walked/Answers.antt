use Rattle.std.proofs.Common.{rules}
use Rattle.replay.proofs.Walks.{walk_next, walk_room, walk_less, walk_turn, walk_end}
use Rattle.replay.proofs.chain.Chains.walked.Goals as goal

pub applied-s-requires : goal.applied-s-requires
applied-s-requires c =
    let w = c.loop-x.invariant in
    ((walk_next _ _ _ _ _ _ _ w c.loop-x-test.true).small, walk_room _ _ _ _ _ _ _ w c.loop-x-test.true)

pub offset_bounds-self-x : goal.offset_bounds-self-x
offset_bounds-self-x c =
    let next = walk_next _ _ _ _ _ _ _ c.loop-x.invariant c.loop-x-test.true in
    search rules

pub bounds-self-x : goal.bounds-self-x
bounds-self-x c = (walk_next _ _ _ _ _ _ _ c.loop-x.invariant c.loop-x-test.true).small

pub loop-x-smaller : goal.loop-x-smaller
loop-x-smaller c = search (rules, walk_less)

pub loop-x-preserved : goal.loop-x-preserved
loop-x-preserved c = search (rules, walk_turn)

pub returns : goal.returns
returns c = search (rules, walk_end)

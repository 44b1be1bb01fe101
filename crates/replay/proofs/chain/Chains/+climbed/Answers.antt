use Rattle.std.proofs.Common.{arith, rules, ◌≡◌}
use Rattle.below.proofs.Climb.{lower_to}
use Rattle.replay.specs.Access.{asked_of}
use Rattle.replay.specs.View.{after_all}
use Rattle.replay.specs.Chain.{chain_at}
use Rattle.replay.proofs.Views.{before}
use Rattle.replay.proofs.Walks.{before_root, before_next, up_lower, up_room, own_room, own_done}
use Rattle.replay.proofs.chain.Chains.+climbed.Goals as goal
use Rattle.replay.proofs.chain.Chains.+climbed.Goals.{then-t-eq0, else-t-eq0}

pub climbed-above-requires : goal.climbed-above-requires
climbed-above-requires t c =
    let a = c.args in
    let l = up_lower a.tree.now.parent (chain_at a.self.now.head a.self.now.next) a.t c.requires.1 c.if-t-eq0.false c.parent_of.result c.parent_of.ensures in
    (omega (arith, l, c.decreases), (omega (arith, l), lower_to _ _ _ c.requires.1 (omega (arith, l)), c.requires.2, search (rules, up_room)))

pub walked-requires : goal.walked-requires
walked-requires t c =
    let a = c.args in
    let above : c.if-t-eq0.above ≡ after_all (asked_of a.kind a.accesses.now.operation a.accesses.now.argument) (before a.tree.now.parent (chain_at a.self.now.head a.self.now.next) a.t) a.start =
    elim c.if-t-eq0.branch [ then-t-eq0 w ↦ search (rules, before_root) | else-t-eq0 w ↦ search (rules, before_next) ] in
    (c.requires.0, c.requires.2.chains _ c.requires.0, own_room a.tree.now.parent (chain_at a.self.now.head a.self.now.next) a.t c.requires.1 a.kind a.accesses.now.operation a.accesses.now.argument a.start _ above c.requires.3)

pub returns : goal.returns
returns t c =
    let a = c.args in
    let above : c.if-t-eq0.above ≡ after_all (asked_of a.kind a.accesses.now.operation a.accesses.now.argument) (before a.tree.now.parent (chain_at a.self.now.head a.self.now.next) a.t) a.start =
    elim c.if-t-eq0.branch [ then-t-eq0 w ↦ search (rules, before_root) | else-t-eq0 w ↦ search (rules, before_next) ] in
    search (rules, own_done)

use Rattle.std.proofs.Common.{ap, ◌∙◌, arith, ◌≡◌}
use Rattle.columns.specs.Column.{at}
use Rattle.columns.proofs.Listing.{taken, has_told, listing_start, listing_room, listing_hit, listing_miss}
use Rattle.columns.proofs.lists.Lists.extend.Goals as goal
use Rattle.columns.proofs.lists.Lists.extend.Goals.{then-marks-holder_of, else-marks-holder_of}

pub loop-x-init : goal.loop-x-init
loop-x-init c = listing_start _ _ _

pub push-requires : goal.push-requires
push-requires c =
    let from = c.args.from.now in
    let here = taken from.order from.listed c.loop-x.x-index c.loop-x-test.true in
    let is : c.holder_of.result ≡ at from.holder (at from.order c.loop-x.x-index) = c.holder_of.ensures ∙ ap (at from.holder) (c.from.ensures ∙ here.1) in
    (listing_room _ _ _ _ _ _ c.loop-x.invariant here.0 (has_told c.args.marks.now c.args.mark _ _ _ is c.if-marks-holder_of.true) c.requires.room, omega (arith, here.1, c.requires.entries c.loop-x.x-index here.0))

pub loop-x-preserved : goal.loop-x-preserved
loop-x-preserved c =
    let from = c.args.from.now in
    let here = taken from.order from.listed c.loop-x.x-index c.loop-x-test.true in
    let is : c.holder_of.result ≡ at from.holder (at from.order c.loop-x.x-index) = c.holder_of.ensures ∙ ap (at from.holder) (c.from.ensures ∙ here.1) in
    elim c.if-marks-holder_of.branch [
      | then-marks-holder_of b ↦ b.self-is ∙ b.push.ensures ∙ listing_hit _ _ _ _ _ _ c.loop-x.invariant here.1 (has_told c.args.marks.now c.args.mark _ _ _ is b.if-marks-holder_of.true)
      | else-marks-holder_of b ↦ b.self-is ∙ listing_miss _ _ _ _ _ c.loop-x.invariant (has_told c.args.marks.now c.args.mark _ _ _ is b.if-marks-holder_of.false)
    ]

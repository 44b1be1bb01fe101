use Rattle.std.proofs.Common.{rules, refl}
use lib.ListN.{get_or-replicate}
use Rattle.replay.proofs.Writes.{noted_start, noted_skip, noted_write, noted_read, noted_later}
use Rattle.replay.proofs.write.last_writes.Goals as goal
use Rattle.replay.proofs.write.last_writes.Goals.{else-last-h-eq0-via-then-last-h-eq0+else-is_write, else-last-h-eq0-via-else-last-h-eq0}

pub loop-i-init : goal.loop-i-init
loop-i-init c = noted_start _ _ _ _ _ _ _ refl (λ u h. get_or-replicate 1025 u 0 0 h)

pub loop-i-preserved-then-is_write : goal.loop-i-preserved-then-is_write
loop-i-preserved-then-is_write c = search (rules, noted_write)

pub loop-i-preserved-else-last-h-eq0 : goal.loop-i-preserved-else-last-h-eq0
loop-i-preserved-else-last-h-eq0 c =
    elim c.else-last-h-eq0.branch [
      | else-last-h-eq0-via-then-last-h-eq0+else-is_write w ↦ search (rules, noted_read)
      | else-last-h-eq0-via-else-last-h-eq0 w ↦ search (rules, noted_later)
    ]

pub loop-i-preserved : goal.loop-i-preserved
loop-i-preserved c = search (rules, noted_skip)

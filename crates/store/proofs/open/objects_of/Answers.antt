use Rattle.std.proofs.Common.{arith, ℕ, ℤ, List, refl, replicate, pos, length}
use mathlib.Core.Path.{ap₂}
use Rattle.columns.specs.declared.objects.Objects.{Objects}
use Rattle.store.proofs.Laid.{laid}
use Rattle.store.proofs.open.objects_of.Goals as goal

of : ℕ → List ℕ → List ℤ → Objects
of count kind opening = record { count = count; kind = kind; opening = opening }

pub returns : goal.returns
unfolding of
returns c =
    let kinds = c.args.kinds.now in
    let openings = c.args.openings.now in
    rw (c.copy_from_slice.ensures.after, c.copy_from_slice-2.ensures.after)
    (ap₂ (of (length kinds)) (laid 0 kinds (replicate 64 0) (omega (arith, c.requires.0)) (length kinds) refl)
    (laid (pos 0) openings (replicate 64 (pos 0)) (omega (arith, c.requires.0, c.requires.1)) (length kinds) c.requires.1))

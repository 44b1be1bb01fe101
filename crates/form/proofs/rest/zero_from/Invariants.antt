use Rattle.std.proofs.Common.{◌≡◌, ◌+◌, slice_index_or}
use Rattle.below.specs.Below.{all_from}
use Rattle.form.proofs.rest.zero_from.Given as goal

abbrev pub invariant-loop-x : goal.invariant-loop-x
invariant-loop-x g l =
    let bits = g.T.Bits in
    bits.no_bit l.any ≡ all_from l.from (l.from + l.x-index) (λ k. bits.no_bit (slice_index_or l.column k bits.zero))

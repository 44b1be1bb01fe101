-- The operation number of what `decode` lets through: not 0, which stands for no operation, and a byte holds it.
use Rattle.std.specs.Prelude.{Option, Some, None}
use mathlib.Core.Path.{◌≡◌}
use mathlib.Core.Bool.{cond}
use mathlib.Core.Logic.{⊎_elim}
use Prim.Native.Nat.{ℕ, ◌<◌}
use native.Mathlib.Omega.{arith}
use lib.IntN.{ℤ}
use lib.Dec.{eqb}
use borrow.Author.Tests.{eqb-true}
use Rattle.below.proofs.Tests.{bool_or}
use Rattle.kinds.specs.Kinds.{decode_of}
use Rattle.kinds.specs.Bin.{part_most, operation_on}
use Rattle.kinds.proofs.Within.{ranged}
use Rattle.kinds.specs.declared.Kind.{Kind}
use Rattle.kinds.specs.declared.Kind.TheVariants.{Account, Register, Counter, Bin, Unknown}
use Rattle.kinds.specs.declared.Operation.{Operation}

abbrev NumberIf : ℕ → Option Operation → Type 0
NumberIf k (Some o) = (0 < k) × (k < 256)
NumberIf k None = Unit {0}

number_if : (k : ℕ) (d : Option Operation) → 0 < k → k < 256 → NumberIf k d
number_if k (Some o) a b = (a, b)
number_if k None a b = tt

one_of : (k m : ℕ) (d e : Option Operation) → 0 < m → m < 256 → NumberIf k e → NumberIf k (cond (eqb k m) d e)
one_of k m d e a b other =
    ⊎_elim (λ t. let q = eqb-true k m t in rw t (number_if k d (omega arith) (omega arith))) (λ f. rw f other) (bool_or (eqb k m))

numbers_if : (kind : Kind) (k : ℕ) (x : ℤ) → NumberIf k (decode_of kind k x)
numbers_if Account k x =
    one_of k 1 _ _ (omega arith) (omega arith) (one_of k 2 _ _ (omega arith) (omega arith) (one_of k 3 _ _ (omega arith) (omega arith) tt))
numbers_if Register k x = one_of k 4 _ _ (omega arith) (omega arith) (one_of k 5 _ _ (omega arith) (omega arith) tt)
numbers_if Counter k x = one_of k 6 _ _ (omega arith) (omega arith) (one_of k 7 _ _ (omega arith) (omega arith) tt)
numbers_if Bin k x =
    ranged (NumberIf k) (operation_on k) None x 0 part_most
    (λ i l h. one_of k 8 _ _ (omega arith) (omega arith) (one_of k 9 _ _ (omega arith) (omega arith) (one_of k 10 _ _ (omega arith) (omega arith) tt))) tt
numbers_if Unknown k x = tt

pub fit_number : (kind : Kind) (k : ℕ) (x : ℤ) (o : Operation) → decode_of kind k x ≡ Some o → (0 < k) × (k < 256)
fit_number kind k x o e = rw e at (numbers_if kind k x)

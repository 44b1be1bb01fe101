-- Where the bytes of a stream are known, what `read_full` ensures leaves one count and one content.
use Rattle.std.proofs.Common.{◌≡◌, ℕ, ◌+◌, ◌≤◌, ◌<◌, List, length, take, Option, None, Some, arith, sym, ap, ◌∙◌, length-append, length-take-le, take_all}
use Rattle.std.specs.Prelude.{min}
use Rattle.std.proofs.Math.Logic.{⊎_elim}
use Rattle.std.proofs.Math.Nat.{eq-or-lt_of_le}
use Rattle.std.specs.Io.KnownBytes.{Consumes, IsAtEnd}
use Rattle.std.proofs.lemmas.List.{take-append-le}

known : (xs buffer : List ℕ) (left : Option (List ℕ)) (n : ℕ) → n ≤ length buffer → Consumes (Some xs) left (take n buffer) → (n < length buffer → IsAtEnd left)
    → (n ≡ min (length xs) (length buffer)) × (take n buffer ≡ take n xs)
known xs buffer None n bound bytes end = absurd bytes
known xs buffer (Some ys) n bound bytes end =
    let front : length (take n buffer) ≡ n = length-take-le n buffer bound in
    let all : length xs ≡ n + length ys = ap length bytes ∙ length-append (take n buffer) ys ∙ ap (λ m. m + length ys) front in
    let count : n ≡ min (length xs) (length buffer) =
    ⊎_elim (λ full. omega arith) (λ room. let none : length ys ≡ 0 = ap length (end room) in omega arith) (eq-or-lt_of_le bound) in
    (count, sym (ap (take n) bytes ∙ take-append-le n (take n buffer) ys (omega arith) ∙ take_all n (take n buffer) (omega arith)))

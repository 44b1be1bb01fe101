-- A number with its sign as it is read; crates/written/proofs/Number ties it to the number's text. Source: request Q-1: a leading minus, to
-- -4,294,967,295, and never before 0.
use Rattle.std.specs.Prelude.{ℕ, ◌+◌, List, cond, get_or, ℤ, pos, neg_ℤ, eqb, Option, Some, None}
use Rattle.text.specs.Text.{minus}
use Rattle.text.specs.Number.{number_at, on_read}

-- the number that a minus stands before: any but 0
abbrev pub negative_at : ℕ → List ℕ → ℕ → Option (ℤ × ℕ)
negative_at stop file at = on_read (number_at stop file at) None (λ v i. cond (eqb v 0) None (Some (neg_ℤ (pos v), i)))

unfoldable pub signed_at : ℕ → List ℕ → ℕ → Option (ℤ × ℕ)
signed_at stop file at =
    cond (eqb (get_or file at 0) minus) (negative_at stop file (at + 1)) (on_read (number_at stop file at) None (λ v i. Some (pos v, i)))

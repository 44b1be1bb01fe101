-- What the entry for C promises.
use Rattle.std.specs.Prelude.{ℕ, ◌≤◌, ◌<◌, ◌≡◌, List, length}
use Rattle.text.specs.Puts.{Puts}
use Rattle.output.specs.Output.{output_of, output_most}

-- a buffer of fewer bytes than the most that is printed is refused, with 0 and not a byte written
pub record Exported (input before : List ℕ) (r : ℕ) (exit : List ℕ) : Type 0 where
  pub refuses : length before < output_most → (r ≡ 0) × (exit ≡ before)
  pub runs : output_most ≤ length before → Puts before 0 (output_of input) r exit

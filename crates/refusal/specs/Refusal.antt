-- A refusal. Source: document 01, "Calls, answers and their order".
use Rattle.std.specs.Prelude.{ℕ, Bool, ℤ, pos}
use Rattle.refusal.specs.declared.Answer.{Answer}

abbrev pub answer_of : ℕ → ℕ → ℤ → Answer
answer_of code a b = record { code = code; a = a; b = b }

-- when it is given, and the answer then
pub record Refusal : Type 0 where
  pub when : Bool
  pub answer : Answer

-- a code with 0, 0
abbrev pub refuse : ℕ → Bool → Refusal
refuse code when = record { when = when; answer = answer_of code 0 (pos 0) }

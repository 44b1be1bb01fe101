-- When a code is given. Source: document 01, "Each is given exactly when its condition holds and none earlier in its order does".
use Rattle.std.specs.Prelude.{ℕ, ◌<◌, ◌≡◌, true, false, List, [], ◌∷◌, get_or, length}
use Rattle.refusal.specs.Refusal.{Refusal, refuse}

-- the codes, in the order of refusals
abbrev pub codes_of : List Refusal → List ℕ
codes_of [] = []
codes_of (r ∷ rest) = r.answer.code ∷ codes_of rest

-- the i-th in the order of refusals
abbrev pub nth : List Refusal → ℕ → Refusal
nth refusals i = get_or refusals i (refuse 0 false)

-- its condition holds and none earlier in its order does
pub record FirstToHold (refusals : List Refusal) (i : ℕ) : Type 0 where
  pub holds : (nth refusals i).when ≡ true
  pub none_earlier : (j : ℕ) → j < i → (nth refusals j).when ≡ false

-- no condition holds
abbrev pub NoneHolds : List Refusal → Type 0
NoneHolds refusals = (i : ℕ) → i < length refusals → (nth refusals i).when ≡ false

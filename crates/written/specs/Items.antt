-- Lines one after another, for any kind of line: what they hold, and where they end. A line gives what it holds and the place of the next line; or none,
-- where it is wrong or missing.
use Rattle.std.specs.Prelude.{ℕ, zero, suc, ◌+◌, List, [], ◌∷◌, Option, Result, Ok, Err}
use Rattle.text.specs.Number.{on_read}
use Rattle.written.specs.declared.Place.{Place}
use Rattle.written.specs.declared.WrongLine.{WrongLine}

-- what n lines from a place hold, up to the first wrong one
unfoldable pub items_from : {A : Type 0} → (ℕ → Option (A × ℕ)) → ℕ → ℕ → List A
items_from line zero at = []
items_from line (suc n) at = on_read (line at) [] (λ a next. a ∷ items_from line n next)

-- the place after n lines, or the number of the first wrong or missing one
unfoldable pub ends_from : {A : Type 0} → (ℕ → Option (A × ℕ)) → ℕ → Place → Result Place WrongLine
ends_from line zero place = Ok place
ends_from line (suc n) place =
    on_read (line place.at) (Err (record { line = place.line })) (λ a at. ends_from line n (record { at = at; line = place.line + 1 }))

-- A number as it is read, byte by byte; crates/written/proofs/Number ties it to the number's text. Source: document 01, "The run file and its
-- program": numbers are decimal without leading zeros, at most 4,294,967,295.
use Rattle.std.specs.Prelude.{ℕ, ◌+◌, ◌-◌, ◌*◌, List, [], ◌∷◌, Bool, cond, ◌&&◌, drop, ltb, leb, eqb, Option, Some, None}
use Rattle.text.specs.Text.{number_most}

abbrev pub is_digit : ℕ → Bool
is_digit b = leb 48 b && leb b 57

-- the number v with one digit more
abbrev pub further : ℕ → ℕ → ℕ
further v b = v * 10 + (b - 48)

-- after the value v so far, at place i: the end byte; or one digit more, after a value other than 0, within the limit
unfoldable pub rest_of : ℕ → List ℕ → ℕ → ℕ → Option (ℕ × ℕ)
rest_of stop [] v i = None
rest_of stop (b ∷ rest) v i =
    cond (eqb b stop) (Some (v, i + 1))
    (cond (is_digit b)
    (cond (eqb v 0) None (cond (ltb number_most (further v b)) None (rest_of stop rest (further v b) (i + 1))))
    None)

unfoldable pub first_of : ℕ → List ℕ → ℕ → Option (ℕ × ℕ)
first_of stop [] i = None
first_of stop (b ∷ rest) i = cond (is_digit b) (rest_of stop rest (b - 48) (i + 1)) None

-- the number at a place, ended by the byte stop, with the place after that byte; or none
unfoldable pub number_at : ℕ → List ℕ → ℕ → Option (ℕ × ℕ)
number_at stop file at = first_of stop (drop at file) at

-- go on with what was read and the place after it, or stop with w
abbrev pub on_read : {A B : Type 0} → Option (A × ℕ) → B → (A → ℕ → B) → B
on_read (Some r) w k = k r.0 r.1
on_read None w k = w

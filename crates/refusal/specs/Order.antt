-- The code's own: each call's refusals over columns, in the order that `store` has them in, and the code of the first that holds. `fine` is whether the
-- store is in form.
use Rattle.std.specs.Prelude.{ℕ, ◌<◌, Bool, cond, not, List, [], ◌∷◌, ◌++◌, eqb, ltb, leb}
use Rattle.below.specs.Climb.{Lower}
use Rattle.columns.specs.Column.{at, rows_most}
use Rattle.columns.specs.Tree.{is_open, aborted_up}
use Rattle.form.specs.Form.{count_most}
use Rattle.refusal.specs.declared.Child.{Child}
use Rattle.refusal.specs.Refusal.{Refusal, refuse}
use Rattle.refusal.specs.Create.{lacks_object, asks_unfit}

-- the code of the first whose condition holds, or 0
unfoldable pub first_code : List Refusal → ℕ
first_code [] = 0
first_code (r ∷ rest) = cond r.when r.answer.code (first_code rest)

-- what a climb from any row asks of the parents: each is lower than its child, and a row
abbrev pub Rooted : List ℕ → Type 0
Rooted parent = Lower rows_most (at parent) × ((k : ℕ) → k < rows_most → at parent k < rows_most)

-- parts that a function decides by itself: 1 and 2; 4 and 5; 6 and 7
abbrev pub unknown : ℕ → ℕ → List Refusal
unknown count t = refuse 1 (ltb count t) ∷ refuse 2 (eqb t 0) ∷ []

abbrev pub inactive : List ℕ → List ℕ → ℕ → List Refusal
inactive parent state t = refuse 4 (not (eqb (at state t) is_open)) ∷ refuse 5 (aborted_up parent state (at parent t)) ∷ []

abbrev pub unasked : ℕ → List ℕ → Child → List Refusal
unasked objects kind child = refuse 6 (lacks_object objects child) ∷ refuse 7 (asks_unfit kind child) ∷ []

-- create
abbrev pub create_order : Bool → ℕ → List ℕ → List ℕ → List ℕ → ℕ → List ℕ → ℕ → Child → List Refusal
create_order fine count parent state operation objects kind p child =
    refuse 15 (not fine) ∷ refuse 1 (ltb count p) ∷ refuse 3 (not (eqb (at operation p) 0)) ∷ inactive parent state p
    ++ (unasked objects kind child ++ (refuse 8 (leb count_most count) ∷ []))

-- abort, and commit's first
abbrev pub finish_order : Bool → ℕ → List ℕ → List ℕ → ℕ → List Refusal
finish_order fine count parent state t = refuse 15 (not fine) ∷ unknown count t ++ inactive parent state t

-- respond, but the wait
abbrev pub ask_order : Bool → ℕ → List ℕ → List ℕ → List ℕ → List ℕ → ℕ → List Refusal
ask_order fine count parent state operation outcome t =
    refuse 15 (not fine) ∷ unknown count t ++ (refuse 9 (eqb (at operation t) 0) ∷ inactive parent state t ++ (refuse 10 (not (eqb (at outcome t) 0)) ∷ []))

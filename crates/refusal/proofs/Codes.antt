-- A code says which reason it is.
use Rattle.std.specs.Prelude.{Result, Ok, Err}
use Prim.Native.Nat.{ℕ, ◌<◌}
use mathlib.Core.Path.{◌≡◌, refl, sym, ap, ◌∙◌}
use mathlib.Core.Bool.{cond}
use native.Mathlib.Omega.{arith}
use lib.Dec.{eqb}
use Rattle.refusal.specs.declared.reason.Reason.{Reason}
use Rattle.refusal.specs.declared.reason.Reason.TheVariants as R
use Rattle.refusal.specs.Reason.{code_of, code_in}

-- none has 0
positive : (reason : Reason) → 0 < code_of reason
positive R.NoTransaction = omega arith
positive R.IsRoot = omega arith
positive R.UnderAccess = omega arith
positive R.Finished = omega arith
positive R.Orphaned = omega arith
positive R.NoObject = omega arith
positive R.Unfit = omega arith
positive R.Full = omega arith
positive R.NoAccess = omega arith
positive R.Answered = omega arith
positive R.Unanswered = omega arith
positive R.BadOpening = omega arith
positive R.Malformed = omega arith

pub code_some : (reason : Reason) → code_of reason ≡ 0 → ⊥
code_some reason e = omega (arith, positive reason)

-- what a code stands for
reason_of : ℕ → Reason
reason_of n =
    cond (eqb n 1) R.NoTransaction
    (cond (eqb n 2) R.IsRoot
    (cond (eqb n 3) R.UnderAccess
    (cond (eqb n 4) R.Finished
    (cond (eqb n 5) R.Orphaned
    (cond (eqb n 6) R.NoObject
    (cond (eqb n 7) R.Unfit
    (cond (eqb n 8) R.Full
    (cond (eqb n 9) R.NoAccess
    (cond (eqb n 10) R.Answered
    (cond (eqb n 12) R.Unanswered
    (cond (eqb n 14) R.BadOpening R.Malformed)))))))))))

outcome_of : ℕ → Result (Unit {0}) Reason
outcome_of n = cond (eqb n 0) (Ok tt) (Err (reason_of n))

back : (r : Result (Unit {0}) Reason) → outcome_of (code_in r) ≡ r
unfolding outcome_of reason_of
back (Ok done) = refl
back (Err R.NoTransaction) = refl
back (Err R.IsRoot) = refl
back (Err R.UnderAccess) = refl
back (Err R.Finished) = refl
back (Err R.Orphaned) = refl
back (Err R.NoObject) = refl
back (Err R.Unfit) = refl
back (Err R.Full) = refl
back (Err R.NoAccess) = refl
back (Err R.Answered) = refl
back (Err R.Unanswered) = refl
back (Err R.BadOpening) = refl
back (Err R.Malformed) = refl

-- two that answer with the same code are the same
pub same_code : (r q : Result (Unit {0}) Reason) → code_in r ≡ code_in q → r ≡ q
same_code r q e = sym (back r) ∙ ap outcome_of e ∙ back q

-- What keeps an access from being created. Source: document 01, "Calls, answers and their order".
use Rattle.std.specs.Prelude.{ℕ, Bool, true, false, List, leb, Option, Some, None}
use Rattle.kinds.specs.Kinds.{kind_of, decode_of}
use Rattle.columns.specs.Column.{at}
use Rattle.refusal.specs.declared.Child.{Child}
use Rattle.refusal.specs.declared.Child.TheVariants.{Plain, Access}
use Rattle.kinds.specs.declared.Operation.{Operation}

-- 6: create of an access: no such object
abbrev pub lacks_object : ℕ → Child → Bool
lacks_object objects Plain = false
lacks_object objects (Access r) = leb objects r.object

-- 7: operation unknown, not of this kind, or argument outside its range
abbrev pub unfit_in : Option Operation → Bool
unfit_in (Some o) = false
unfit_in None = true

abbrev pub asks_unfit : List ℕ → Child → Bool
asks_unfit kind Plain = false
asks_unfit kind (Access r) = unfit_in (decode_of (kind_of (at kind r.object)) r.operation r.argument)

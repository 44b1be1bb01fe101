-- Objects put into the columns one by one, as they are read from their lines.
use Prim.Native.Nat.{ℕ, ◌+◌, ◌≤◌}
use mathlib.Core.Path.{◌≡◌, sym, ap, ◌∙◌}
use mathlib.Core.List.{List, [], ◌∷◌, map}
use native.Mathlib.Nat.{zero-add, add-zero, add-suc, suc-add}
use native.Mathlib.Numerals.{add-one}
use native.Mathlib.Omega.{arith}
use lib.ListN.{length, set, replicate, take, drop, length-map}
use lib.Seq.{sets, sets-eq, length-sets, take_at}
use lib.IntN.{ℤ, pos}
use Rattle.std.specs.Prelude.{Some, None}
use Rattle.written.specs.Written.{objects_most}
use Rattle.written.specs.declared.Object.{Object}
use Rattle.written.specs.Items.{items_from}
use Rattle.written.specs.Line.{object_at}
use Rattle.written.proofs.Items.{items_done, items_wrong, items_more}
use Rattle.runner.specs.declared.Objects.{Objects}
use Rattle.runner.specs.Columns.{columns_of}

-- the columns with these objects from index i on
abbrev pub columns_from : List ℕ → List ℤ → ℕ → List Object → Objects
columns_from kinds openings i objects = record {
  count = i + length objects;
  kinds = sets kinds i (map (λ o. o.letter) objects);
  openings = sets openings i (map (λ o. o.opening) objects);
}

abbrev pub columns : List ℕ → List ℤ → ℕ → Objects
columns kinds openings count = record { count = count; kinds = kinds; openings = openings }

-- from index 0 on, in columns of zeros, they are the objects' columns
pub columns_start : (objects : List Object) → columns_from (replicate objects_most 0) (replicate objects_most (pos 0)) 0 objects ≡ columns_of objects
columns_start objects = rw zero-add

module _ (kinds : List ℕ) (openings : List ℤ) (i : ℕ) where
  no_more : columns_from kinds openings i [] ≡ columns kinds openings i
  no_more = rw add-zero

  one_more : (o : Object) (rest : List Object)
      → columns_from kinds openings i (o ∷ rest) ≡ columns_from (set kinds i o.letter) (set openings i o.opening) (i + 1) rest
  one_more o rest = rw (add-one, add-suc, suc-add)

  module _ (file : List ℕ) (n at : ℕ) where
    pub columns_done : n ≤ 0 → columns_from kinds openings i (items_from (object_at file) n at) ≡ columns kinds openings i
    columns_done h = rw (items_done (object_at file) n at h) no_more

    pub columns_wrong : object_at file at ≡ None → columns_from kinds openings i (items_from (object_at file) n at) ≡ columns kinds openings i
    columns_wrong e = rw (items_wrong (object_at file) n at e) no_more

    pub columns_more : (m : ℕ) (o : Object) (next : ℕ) → n ≡ m + 1 → object_at file at ≡ Some (o, next)
        → columns_from kinds openings i (items_from (object_at file) n at)
        ≡ columns_from (set kinds i o.letter) (set openings i o.opening) (i + 1) (items_from (object_at file) m next)
    columns_more m o next h e = rw (items_more (object_at file) n m at o next h e) (one_more o (items_from (object_at file) m next))

-- a column with these values at its front
pub record Front {A : Type 0} (values : List A) (count : ℕ) (column : List A) : Type 0 where
  pub room : count ≤ length column
  pub size : count ≡ length (take count column)
  pub front : take count column ≡ values

at_front : {A : Type 0} (zero : A) (field : Object → A) (objects : List Object) → length objects ≤ objects_most
    → Front (map field objects) (length objects) (sets (replicate objects_most zero) 0 (map field objects))
at_front zero field objects h =
    let some : 0 + length (map field objects) ≤ length (replicate objects_most zero) = omega (arith, length-map objects field) in
    let taken : take (length objects) (sets (replicate objects_most zero) 0 (map field objects)) ≡ map field objects =
    rw (sets-eq (map field objects) (replicate objects_most zero) 0 some)
    (take_at (map field objects) (drop (0 + length (map field objects)) (replicate objects_most zero)) (length objects) (length-map objects field)) in
    record {
      room = omega (arith, length-sets (replicate objects_most zero) 0 (map field objects));
      size = sym (ap length taken ∙ length-map objects field);
      front = taken;
    }

pub columns_front : (objects : List Object) (c : Objects) → c ≡ columns_of objects → length objects ≤ objects_most
    → Front (map (λ o. o.letter) objects) c.count c.kinds × Front (map (λ o. o.opening) objects) c.count c.openings
columns_front objects c e h = rw e (at_front 0 (λ o. o.letter) objects h, at_front (pos 0) (λ o. o.opening) objects h)

-- The objects of a file as the columns that an opening reads; the code's own.
use Rattle.std.specs.Prelude.{List, map, length, replicate, pos}
use Rattle.std.proofs.lemmas.List.Edits.{sets}
use Rattle.written.specs.Written.{objects_most}
use Rattle.written.specs.declared.Object.{Object}
use Rattle.runner.specs.declared.Objects.{Objects}

-- letters and openings at the front, as many as there are objects
abbrev pub columns_of : List Object → Objects
columns_of objects = record {
  count = length objects;
  kinds = sets (replicate objects_most 0) 0 (map (λ o. o.letter) objects);
  openings = sets (replicate objects_most (pos 0)) 0 (map (λ o. o.opening) objects);
}

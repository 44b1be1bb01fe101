use Rattle.std.proofs.Common.{◌≡◌, ◌≤◌, ◌∙◌, ℕ, List, map, ℤ, arith}
use Rattle.written.specs.Written.{objects_most}
use Rattle.written.specs.Items.{items_from}
use Rattle.written.specs.Line.{object_at}
use Rattle.written.proofs.Items.{items_most}
use Rattle.store.specs.Open.{open_of}
use Rattle.runner.specs.declared.Objects.{Objects}
use Rattle.runner.specs.Columns.{columns_of}
use Rattle.runner.proofs.Columns.{Front, columns_front}
use Rattle.runner.proofs.opened_with.Goals as goal

fronts : (file : List ℕ) (lines start : ℕ) (o : Objects) → o ≡ columns_of (items_from (object_at file) lines start) → lines ≤ objects_most
    → Front (map (λ o. o.letter) (items_from (object_at file) lines start)) o.count o.kinds
    × Front (map (λ o. o.opening) (items_from (object_at file) lines start)) o.count o.openings
fronts file lines start o e h = columns_front (items_from (object_at file) lines start) o e (omega (arith, items_most (object_at file) lines start))

same_opened : {k l : List ℕ} {o p : List ℤ} → k ≡ l → o ≡ p → open_of k o ≡ open_of l p
same_opened d e = rw (d, e)

pub returns : goal.returns
returns c =
    let f = fronts c.args.file.now c.args.part.lines c.args.part.start c.objects_in-objects.result c.objects_in-objects.ensures.objects c.requires in
    c.«open».ensures ∙ same_opened f.0.front f.1.front

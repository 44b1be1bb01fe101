use Rattle.std.proofs.Common.{rules, ◌≡◌, true, false}
use Rattle.std.proofs.lemmas.Iterator.{first_from_Range}
use Rattle.below.proofs.Search.{found_ranged}
use Rattle.columns.specs.Tree.{open_child}
use Rattle.columns.proofs.tree.Tree.first_open_child.Goals as goal

pub returns : goal.returns
returns c =
    let child = open_child c.args.self.now.parent c.args.self.now.state c.args.t in
    found_ranged child _ _ (first_from_Range _ _ _ _ (λ k. child k ≡ true) (λ k. child k ≡ false) c.find.ensures.ran (λ x q k. search rules) (λ x q k. (search rules, search rules)))

use Rattle.std.proofs.Common.{rules, ◌≡◌, ◌∙◌, Bool, ◌&&◌}
use Rattle.std.proofs.Math.Bool.{and_assoc}
use Rattle.form.proofs.Zeros.{zeros_and}
use Rattle.form.proofs.access.blank_from.Goals as goal

in_turn : (a b c d e : Bool) → (a && b && c && d && e) ≡ (a && (b && (c && (d && e))))
in_turn a b c d e = simp and_assoc

pub returns : goal.returns
returns c =
    in_turn c.zero_from.result c.zero_from-2.result c.zero_from-3.result c.zero_from-4.result c.zero_from-5.result
    ∙ zeros_and _ _ _ _ _ _ _ c.zero_from.ensures (search rules)
    (zeros_and _ _ _ _ _ _ _ c.zero_from-2.ensures (search rules)
    (zeros_and _ _ _ _ _ _ _ c.zero_from-3.ensures (search rules)
    (zeros_and _ _ _ _ _ _ _ c.zero_from-4.ensures (search rules) (search rules))))

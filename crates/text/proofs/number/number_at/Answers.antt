use Rattle.std.proofs.Common.{rules, arith, ◌≡◌, ◌∙◌, ⊎_elim, sym, true, false, get_or, eq-eqb, ne_eqb, lt-ltb, le-ltb}
use Rattle.text.specs.Number.{is_digit}
use Rattle.text.proofs.Numbers.{rest_step}
use Rattle.text.proofs.number.number_at.Goals as goal

pub returns-then-b-stop : goal.returns-then-b-stop
returns-then-b-stop c = sym (c.loop-i.invariant.same ∙ rest_step _ _ _ _ c.loop-i-test.true ∙ simp (eq-eqb _ _ c.if-b-stop.true))

pub returns-then-not-is_ascii_digit-2 : goal.returns-then-not-is_ascii_digit-2
returns-then-not-is_ascii_digit-2 c =
    let step = c.loop-i.invariant.same ∙ rest_step _ _ _ _ c.loop-i-test.true in
    let class = c.is_ascii_digit-in-loop-i.ensures.value in
    ⊎_elim
    (λ other. let no : is_digit (get_or c.args.file.now c.loop-i.i 0) ≡ false = sym class ∙ other in sym (step ∙ simp (ne_eqb _ _ c.if-b-stop.false, no)))
    (λ none. let digit : is_digit (get_or c.args.file.now c.loop-i.i 0) ≡ true = sym class ∙ none.0 in sym (step ∙ simp (ne_eqb _ _ c.if-b-stop.false, digit, none.1)))
    c.then-not-is_ascii_digit-2.either

pub returns-then-v-gt-MOST : goal.returns-then-v-gt-MOST
returns-then-v-gt-MOST c =
    let digit : is_digit (get_or c.args.file.now c.loop-i.i 0) ≡ true = sym c.is_ascii_digit-in-loop-i.ensures.value ∙ c.if-not-is_ascii_digit-2.false in
    let begun : c.loop-i.v ≡ 0 → ⊥ = search rules in
    sym (c.loop-i.invariant.same ∙ rest_step _ _ _ _ c.loop-i-test.true ∙ simp (ne_eqb _ _ c.if-b-stop.false, digit, ne_eqb _ _ begun, ← c.from.ensures, lt-ltb _ _ c.if-v-gt-MOST.true))

pub loop-i-preserved : goal.loop-i-preserved
loop-i-preserved c =
    let digit : is_digit (get_or c.args.file.now c.loop-i.i 0) ≡ true = sym c.is_ascii_digit-in-loop-i.ensures.value ∙ c.if-not-is_ascii_digit-2.false in
    let begun : c.loop-i.v ≡ 0 → ⊥ = search rules in
    record {
      within = omega arith;
      same = rw c.from.ensures (c.loop-i.invariant.same ∙ rest_step _ _ _ _ c.loop-i-test.true ∙ simp (ne_eqb _ _ c.if-b-stop.false, digit, ne_eqb _ _ begun, le-ltb _ _ (rw c.from.ensures at c.if-v-gt-MOST.false)));
    }

use Rattle.std.proofs.Common.{◌≡◌, ℕ, List, ℤ, All, arith, ap, sym, subst, ◌∙◌}
use Rattle.std.proofs.lemmas.List.{take_all}
use Rattle.fixed_num.specs.Numbers.{IsValue}
use Rattle.line_solvers.specs.Checked.{written}
use Rattle.line_solvers.proofs.Checks.{written-values}
use Rattle.line_solvers.proofs.line.write_components.Goals as goal

pub returns-clause-values : goal.returns-clause-values
returns-clause-values c =
    let all : c.loop-i.writes ≡ written c.args.out.now c.args.components.now =
    sym (take_all c.loop-i.i c.loop-i.writes (omega (arith, c.loop-i-test.false, c.loop-i.auto.writes)))
    ∙ c.loop-i.invariant
    ∙ ap (λ (places : List ℕ). written places c.args.components.now) (take_all c.loop-i.i c.args.out.now (omega (arith, c.requires.write_len, c.loop-i-test.false))) in
    subst (λ (xs : List ℤ). All IsValue xs) (sym all) (written-values c.args.components.now c.args.out.now c.requires.places c.requires.range)

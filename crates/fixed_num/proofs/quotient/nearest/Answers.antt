use Rattle.std.proofs.Common.{arith}
use Rattle.std.proofs.lemmas.Grind.{common_steps}
use Rattle.fixed_num.specs.Numbers.{nearest_of}
use Rattle.fixed_num.proofs.quotient.nearest.Goals as goal

pub returns-then-twice-b-clause-value : goal.returns-then-twice-b-clause-value
unfolding nearest_of
returns-then-twice-b-clause-value c = grind (arith, common_steps)

pub returns-then-b-twice-clause-value : goal.returns-then-b-twice-clause-value
unfolding nearest_of
returns-then-b-twice-clause-value c = grind (arith, common_steps)

pub returns-else-b-twice-clause-value : goal.returns-else-b-twice-clause-value
unfolding nearest_of
returns-else-b-twice-clause-value c = grind (arith, common_steps)

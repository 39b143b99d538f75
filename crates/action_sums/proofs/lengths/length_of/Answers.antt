use Rattle.std.proofs.Common.{arith}
use Rattle.case_rules.proofs.CaseBounds.{values_few}
use Rattle.action_sums.proofs.lengths.length_of.Goals as goal

pub overflow_cast-result : goal.overflow_cast-result
overflow_cast-result c =
    omega (arith, c.values_of.ensures, values_few c.args.config.now c.args.case_file.now c.args.entry.now c.requires.config c.requires.case_file)

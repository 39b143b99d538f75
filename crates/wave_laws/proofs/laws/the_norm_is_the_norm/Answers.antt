use Rattle.std.proofs.Common.{sum_by}
use Rattle.fixed_num.specs.Norm.{square}
use Rattle.wave_coupling.specs.Root.{norm}
use Rattle.wave_laws.proofs.Roots.{norm_is, one_root}
use Rattle.wave_laws.proofs.laws.the_norm_is_the_norm.Goals as goal

pub returns-clause-is : goal.returns-clause-is
returns-clause-is g list = norm_is list

pub returns-clause-only : goal.returns-clause-only
returns-clause-only g list r is = one_root (sum_by square list) r (norm list) is (norm_is list)

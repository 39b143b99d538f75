use Rattle.std.proofs.Common.{refl}
use Rattle.std.specs.Prelude.{true, false}
use Rattle.cpl_plan.specs.declared.parts.Accel.TheVariants.{None as NoAccel}
use Rattle.cpl_plan.proofs.FactsTold.{valid_plan}
use Rattle.core_tests.specs.Trios.{trio, halved}
use Rattle.core_tests.proofs.TrioOrder.{trio_in_order}
use Rattle.core_tests.proofs.laws.trios_are_valid.Goals as goal

pub returns-clause-plain : goal.returns-clause-plain
returns-clause-plain c = valid_plan (trio false NoAccel) refl (trio_in_order false NoAccel)

pub returns-clause-strict : goal.returns-clause-strict
returns-clause-strict c = valid_plan (trio true NoAccel) refl (trio_in_order true NoAccel)

pub returns-clause-accelerated : goal.returns-clause-accelerated
returns-clause-accelerated c = valid_plan (trio false halved) refl (trio_in_order false halved)

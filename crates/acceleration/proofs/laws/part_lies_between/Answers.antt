use Rattle.acceleration.proofs.RelaxationLaws.{relaxed-IsBetween, relaxed-IsValue, part_fits}
use Rattle.acceleration.proofs.laws.part_lies_between.Goals as goal

pub returns-clause-between : goal.returns-clause-between
returns-clause-between c = λ x y factor part. relaxed-IsBetween x y factor part

pub returns-clause-in_range : goal.returns-clause-in_range
returns-clause-in_range c = λ x y factor part first last. relaxed-IsValue x y factor part first last

pub returns-clause-defined : goal.returns-clause-defined
returns-clause-defined c = λ exchanges factor part values. part_fits exchanges factor part values

use Rattle.core_schemes.proofs.Sets.{schemes_set}
use Rattle.core_schemes.proofs.laws.one_scheme_is_judged.Goals as goal

pub returns : goal.returns
returns c = λ plan schemes sides number state are is. schemes_set plan schemes sides number state are is

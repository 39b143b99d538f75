use Rattle.core_schemes.proofs.GoOn.{schemes_go_on}
use Rattle.core_schemes.proofs.laws.schemes_go_on.Goals as goal

pub returns : goal.returns
returns c = λ plan schemes history sides part act reply side valid reached is_part made heard are.
    schemes_go_on plan schemes history sides part act reply side valid reached is_part made heard are

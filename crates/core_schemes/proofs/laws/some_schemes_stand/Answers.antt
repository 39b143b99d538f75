use Rattle.core_schemes.proofs.SomeSchemes.{some_schemes}
use Rattle.core_schemes.proofs.laws.some_schemes_stand.Goals as goal

pub returns : goal.returns
returns c = λ plan history sides valid reached. some_schemes plan valid history sides reached

use Rattle.std.proofs.Common.{[], ◌∷◌, ◌++◌}
use Rattle.config_rules.specs.Circles.{steps_of}
use Rattle.config_laws.proofs.WalksRound.{circle_found, circle_meant}
use Rattle.config_laws.proofs.rounds.a_circle_is_refused_and_nothing_else.Goals as goal

pub returns : goal.returns
returns c = record {
  circle_found = λ config place entries earlier table round. circle_found (steps_of config (earlier ++ table ∷ [])) round;
  circle_meant = λ config place entries earlier table breaks. circle_meant (steps_of config (earlier ++ table ∷ [])) breaks;
}

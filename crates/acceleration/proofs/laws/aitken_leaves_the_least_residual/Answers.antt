use Rattle.acceleration.proofs.BestParts.{best_part-least, factor-best, factor-still, factor-kept, factor-turned}
use Rattle.acceleration.proofs.laws.aitken_leaves_the_least_residual.Goals as goal

pub returns : goal.returns
returns c = record { least = best_part-least; factor = factor-best; stays = factor-still; kept = factor-kept; turned = factor-turned }

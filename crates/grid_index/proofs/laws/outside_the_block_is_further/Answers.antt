use Rattle.grid_index.proofs.Searches.{outside_far}
use Rattle.grid_index.proofs.laws.outside_the_block_is_further.Goals as goal

pub returns : goal.returns
returns c = outside_far

use Rattle.edge_projection.proofs.SquareBounds.{square_off-le}
use Rattle.edge_projection.proofs.laws.squares_fit.Goals as goal

pub returns : goal.returns
returns c = square_off-le

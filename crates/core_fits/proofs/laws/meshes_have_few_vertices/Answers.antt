use Rattle.core_fits.proofs.ReachedFits.{vertices_few}
use Rattle.core_fits.proofs.laws.meshes_have_few_vertices.Goals as goal

pub returns : goal.returns
returns c = λ plan history sides mesh valid reached. vertices_few plan valid history sides reached mesh

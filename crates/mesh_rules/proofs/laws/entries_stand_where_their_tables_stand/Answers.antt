use Rattle.mesh_rules.proofs.SamePlaces.{same_places}
use Rattle.mesh_rules.proofs.laws.entries_stand_where_their_tables_stand.Goals as goal

pub returns : goal.returns
returns c = same_places

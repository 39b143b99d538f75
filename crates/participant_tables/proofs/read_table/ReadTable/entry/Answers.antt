use Rattle.std.proofs.Common.{◌&&◌, nat_eq}
use Rattle.field_buffers.proofs.Walks.{position-front}
use Rattle.participant_tables.proofs.read_table.ReadTable.entry.Goals as goal

pub loop-i-init : goal.loop-i-init
loop-i-init c = position-front (λ e. nat_eq e.mesh c.args.place && nat_eq e.data_id c.args.data_id) c.self.inside.entries.items

use Rattle.std.proofs.Common.{◌≡◌, ◌*◌, All, length, ap, sym, subst, ◌∙◌}
use Rattle.field_buffers.specs.Rows.{HasRow}
use Rattle.participant_tables.specs.WriteKept.{WriteKept}
use Rattle.participant_tables.proofs.Shapes.{length-with_rows, still-samples}
use Rattle.participant_tables.proofs.write_entry.WriteEntry.write.Goals as goal

-- the values are as many as before
pub invariant_of-self : goal.invariant_of-self
invariant_of-self c =
    let rows = subst (λ (e : WriteKept). All (HasRow e.components e.values) c.args.vertices.now) (sym c.self.view_is) c.requires.vertices in
    let len = subst (λ (e : WriteKept). length c.args.rows.now ≡ length c.args.vertices.now * e.components) (sym c.self.view_is) c.requires.len in
    still-samples c.self.inside.data_id c.self.inside.mesh c.self.inside.buffer c.write.new.self c.self.inside.samples.items
    (ap (λ b. b.components) c.write.ensures)
    (ap (λ b. length b.values) c.write.ensures ∙ length-with_rows c.self.inside.buffer.components c.args.vertices.now c.args.rows.now c.self.inside.buffer.values rows len)
    c.self.invariant

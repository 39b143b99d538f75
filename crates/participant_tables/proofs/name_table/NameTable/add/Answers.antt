use Rattle.std.proofs.Common.{map, ap, ◌∙◌}
use Rattle.std.specs.Prelude.{string_bytes}
use Rattle.participant_tables.proofs.NameKeys.{added_name}
use Rattle.participant_tables.proofs.name_table.NameTable.add.Goals as goal

pub returns : goal.returns
returns c =
    ap (map string_bytes) c.in_ok-insert.ensures.keys
    ∙ added_name string_bytes c.self.inside.names.keys c.in_ok-from_str.field-0 c.args.self.now c.args.name.now c.self.view_is (c.in_ok-from_str.ensures.ok ∙ c.as_str.ensures) c.requires

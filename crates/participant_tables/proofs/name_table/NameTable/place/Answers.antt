use Rattle.std.proofs.Common.{ap, ◌∙◌, position}
use Rattle.std.specs.Prelude.{string_bytes}
use Rattle.std.specs.Str.{bytes_eq}
use Rattle.participant_tables.proofs.NameKeys.{place_of_key}
use Rattle.participant_tables.proofs.name_table.NameTable.place.Goals as goal

pub returns-clause-place : goal.returns-clause-place
returns-clause-place c =
    c.get_index_of.ensures.index
    ∙ (place_of_key string_bytes c.args.name.now c.self.inside.names.keys
    ∙ ap (position (λ other. bytes_eq other c.args.name.now)) c.self.view_is)

use Rattle.std.proofs.Common.{ap, ◌∙◌, position}
use Rattle.std.specs.Prelude.{string_bytes}
use Rattle.std.specs.Str.{bytes_eq}
use Rattle.scheme_parts.proofs.Lookups.{position_of_text}
use Rattle.scheme_parts.proofs.name_table.NameTable.place.Goals as goal

pub returns-clause-place : goal.returns-clause-place
returns-clause-place c =
    c.get_index_of.ensures.index
    ∙ (ap (λ name. position (λ k. bytes_eq name (string_bytes k)) c.self.inside.names.keys) c.as_str.ensures
    ∙ (position_of_text string_bytes c.args.name.now c.self.inside.names.keys
    ∙ ap (position (λ other. bytes_eq other c.args.name.now)) c.self.view_is))

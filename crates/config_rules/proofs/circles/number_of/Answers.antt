use Rattle.std.proofs.Common.{ap, ◌∙◌}
use Rattle.std.specs.List.{position_from}
use Rattle.std.specs.Str.{bytes_eq}
use Rattle.config_rules.proofs.Counts.{from_front}
use Rattle.config_rules.proofs.circles.number_of.Goals as goal

pub tables-init : goal.tables-init
tables-init c = ap (position_from (λ table. bytes_eq table.name c.args.name.now) 0) c.as_slice-tables.ensures ∙ from_front (λ table. bytes_eq table.name c.args.name.now) c.args.config.now.participant

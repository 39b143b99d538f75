use Rattle.std.specs.Str.{bytes_eq}
use Rattle.config_rules.proofs.Counts.{from_front}
use Rattle.scheme_parts.proofs.measures.place_of_carrier.Goals as goal

pub entries-init : goal.entries-init
entries-init c = from_front (λ entry. bytes_eq entry.data_name c.args.data_name.now) c.args.entries.now

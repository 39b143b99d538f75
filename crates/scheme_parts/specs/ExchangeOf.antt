-- An exchange in numbers. Its kind is that of the table of inputs, after the coupling documentation's serial and parallel schemes; the rest as the configuration has it.
use Rattle.std.specs.Prelude.{ℕ, List, map}
use Rattle.cpl_config.specs.declared.config.Config.{Config}
use Rattle.cpl_config.specs.declared.config.SchemeTable.{SchemeTable}
use Rattle.cpl_config.specs.declared.config.ExchangeEntry.{ExchangeEntry}
use Rattle.cpl_plan.specs.declared.parts.Exchange.{Exchange}
use Rattle.cpl_plan.specs.ExchangeKinds.{exchange_kind}
use Rattle.config_rules.specs.Members.{scheme_kind, goes_to_second}
use Rattle.scheme_parts.specs.NumbersOf.{data_number, mesh_number, part_number}
use Rattle.scheme_parts.specs.MapPlaces.{write_map, read_map}

-- what an entry of the scheme of this number says
abbrev pub exchange_of : Config → (scheme : ℕ) → SchemeTable → ExchangeEntry → Exchange
exchange_of config scheme table entry = record {
  data_id = data_number config entry.data_name;
  mesh = mesh_number config entry.mesh;
  from = part_number config entry.from;
  to = part_number config entry.to;
  scheme = scheme;
  kind = exchange_kind (scheme_kind table.kind) (goes_to_second table entry);
  initialize = entry.initialize;
  substeps = entry.substeps;
  write_map = write_map config entry;
  read_map = read_map config entry;
}

abbrev pub exchanges_of : Config → (scheme : ℕ) → SchemeTable → List Exchange
exchanges_of config scheme table = map (exchange_of config scheme table) table.exchange

-- Which mapping of a participant an exchange needs. From the coupling documentation's mappings, which each participant has for its own meshes; the project's own in form.
use Rattle.std.specs.Prelude.{ℕ, if◌then◌else◌, List, find, position, Option, None}
use Rattle.std.specs.Option.{option_and_then}
use Rattle.std.specs.Str.{bytes_eq}
use Rattle.cpl_config.specs.declared.kind_words.Direction.{Direction}
use Rattle.cpl_config.specs.declared.kind_words.Direction.TheVariants.{Read, Write}
use Rattle.cpl_config.specs.declared.config.Config.{Config}
use Rattle.cpl_config.specs.declared.config.DataEntry.{DataEntry}
use Rattle.cpl_config.specs.declared.config.MapEntry.{MapEntry}
use Rattle.cpl_config.specs.declared.config.ExchangeEntry.{ExchangeEntry}
use Rattle.mesh_rules.specs.Named.{participant_called}
use Rattle.mesh_rules.specs.MeshRules.{goes}

-- the place, from 0, of the mapping that goes this way between two meshes; none is needed where they are one
abbrev pub map_place : Direction → (from to : List ℕ) → List MapEntry → Option ℕ
map_place direction from to maps = if bytes_eq from to then None else position (goes direction from to) maps

-- the entry that has the data
abbrev pub entry_with : List ℕ → List DataEntry → Option DataEntry
entry_with data_name entries = find (λ entry. bytes_eq entry.data_name data_name) entries

-- the writer's mapping, from where it writes the data onto the exchange's mesh
abbrev pub write_map : Config → ExchangeEntry → Option ℕ
write_map config exchange =
    option_and_then (λ writer. option_and_then (λ entry. map_place Write entry.mesh exchange.mesh writer.map) (entry_with exchange.data_name writer.write))
    (participant_called config exchange.from)

-- the reader's mapping, from the exchange's mesh onto where it reads the data
abbrev pub read_map : Config → ExchangeEntry → Option ℕ
read_map config exchange =
    option_and_then (λ reader. option_and_then (λ entry. map_place Read exchange.mesh entry.mesh reader.map) (entry_with exchange.data_name reader.read))
    (participant_called config exchange.to)

-- The rules on names, meshes, mappings and data of a configuration. The project's own, after what the coupling documentation asks of a configuration.
use Rattle.std.specs.Prelude.{ℕ, ◌*◌, ◌^◌, Bool, true, false, not, ◌&&◌, ◌||◌, ◌==◌, nat_lt, List, length, count_by, unsigned_abs, Option, is_some}
use Rattle.std.specs.List.{list_any}
use Rattle.std.specs.Option.{option_map_or}
use Rattle.std.specs.Bool.{beq}
use Rattle.std.specs.Str.{bytes_eq}
use Rattle.std.specs.Ordering.{int_eq}
use Rattle.cpl_config.specs.declared.kind_words.Direction.{Direction}
use Rattle.cpl_config.specs.declared.kind_words.Direction.TheVariants.{Read, Write}
use Rattle.cpl_config.specs.declared.kind_words.WindowWord.{WindowWord}
use Rattle.cpl_config.specs.declared.kind_words.WindowWord.TheVariants.{Fixed, FirstParticipant}
use Rattle.cpl_config.specs.declared.config.Config.{Config}
use Rattle.cpl_config.specs.declared.config.PartTable.{PartTable}
use Rattle.cpl_config.specs.declared.config.DataEntry.{DataEntry}
use Rattle.cpl_config.specs.declared.config.MapEntry.{MapEntry}
use Rattle.cpl_config.specs.declared.config.WatchEntry.{WatchEntry}
use Rattle.cpl_config.specs.declared.config.ActionEntry.{ActionEntry}
use Rattle.cpl_config.specs.declared.config.SchemeTable.{SchemeTable}
use Rattle.cpl_config.specs.declared.config.ExchangeEntry.{ExchangeEntry}
use Rattle.mesh_rules.specs.Entries.{Held, whole, mesh, participant, received, written, read, mapped, watched, acted, scheme, exchanged, measured, accelerated, Entry}
use Rattle.mesh_rules.specs.Named.{is_data, is_mesh, is_participant, carries, dimensions_of, provides, receives, holds_of}

-- some name of the list is not declared
abbrev pub has_undeclared : (List ℕ → Bool) → List (List ℕ) → Bool
has_undeclared is_declared names = list_any (λ name. not (is_declared name)) names

-- a name that is there is not declared
abbrev pub is_undeclared : (List ℕ → Bool) → Option (List ℕ) → Bool
is_undeclared is_declared name = option_map_or (λ there. not (is_declared there)) name false

-- the list is there, and some name of it is not declared
abbrev pub are_undeclared : (List ℕ → Bool) → Option (List (List ℕ)) → Bool
are_undeclared is_declared names = option_map_or (has_undeclared is_declared) names false

-- a name of a participant in a scheme's table is not declared
abbrev pub scheme_names_nothing : Config → SchemeTable → Bool
scheme_names_nothing config table =
    ((is_undeclared (is_participant config) table.first || is_undeclared (is_participant config) table.second)
    || is_undeclared (is_participant config) table.control)
    || are_undeclared (is_participant config) table.members

-- a name of an exchange is not declared
abbrev pub exchange_names_nothing : Config → ExchangeEntry → Bool
exchange_names_nothing config entry =
    (not (is_data config entry.data_name) || not (is_mesh config entry.mesh))
    || (not (is_participant config entry.from) || not (is_participant config entry.to))

-- a name of an action is not declared
abbrev pub action_names_nothing : Config → ActionEntry → Bool
action_names_nothing config entry =
    not (is_mesh config entry.mesh) || (has_undeclared (is_data config) entry.sources || not (is_data config entry.target))

-- a name is not declared
abbrev pub names_nothing : Config → Held → Bool
names_nothing config (mesh table) = has_undeclared (is_data config) table.data_list
names_nothing config (participant table) = has_undeclared (is_mesh config) table.provides
names_nothing config (received _ _ entry) = not (is_mesh config entry.mesh) || not (is_participant config entry.from)
names_nothing config (written _ entry) = not (is_data config entry.data_name) || not (is_mesh config entry.mesh)
names_nothing config (read _ _ entry) = not (is_data config entry.data_name) || not (is_mesh config entry.mesh)
names_nothing config (mapped _ _ entry) = not (is_mesh config entry.from) || not (is_mesh config entry.to)
names_nothing config (watched _ entry) = not (is_mesh config entry.mesh)
names_nothing config (acted _ _ entry) = action_names_nothing config entry
names_nothing config (scheme _ table) = scheme_names_nothing config table
names_nothing config (exchanged _ entry) = exchange_names_nothing config entry
names_nothing config (measured _ entry) = not (is_data config entry.data_name)
names_nothing config (accelerated _ entry) = has_undeclared (is_data config) entry.data_list
names_nothing config _ = false

-- the time of the end is past the millionth window
abbrev pub is_too_far : Config → Bool
is_too_far config = option_map_or (λ time. nat_lt (10 ^ 6 * unsigned_abs config.window) (unsigned_abs time)) config.max_time false

-- with windows of one length: the end is not given in exactly one way, or there are more than a million windows; with those of the first participant's steps: no number of windows is given
abbrev pub lacks_end : Config → WindowWord → Bool
lacks_end config Fixed = beq (is_some config.max_time) (is_some config.max_windows) || is_too_far config
lacks_end config FirstParticipant = not (is_some config.max_windows)

-- the end is not given as the windows ask
abbrev pub has_no_end : Config → Held → Bool
has_no_end config whole = lacks_end config config.window_method
has_no_end config _ = false

-- a mesh has not exactly one provider
abbrev pub has_no_provider : Config → Held → Bool
has_no_provider config (mesh table) = not (count_by (λ part. provides part table.name) config.participant == 1)
has_no_provider config _ = false

-- a received mesh is not provided by the one it comes from, or is received by its provider, or twice
abbrev pub is_wrongly_received : Config → Held → Bool
is_wrongly_received config (received table earlier entry) =
    (not (holds_of config entry.from (λ from. provides from entry.mesh)) || provides table entry.mesh)
    || list_any (λ other. bytes_eq other.mesh entry.mesh) earlier
is_wrongly_received config _ = false

-- data are not on their mesh, or the mesh of what is written or read is not the participant's own
abbrev pub is_off_mesh : Config → Held → Bool
is_off_mesh config (written table entry) = not (carries config entry.mesh entry.data_name) || not (provides table entry.mesh)
is_off_mesh config (read table _ entry) = not (carries config entry.mesh entry.data_name) || not (provides table entry.mesh)
is_off_mesh config (exchanged _ entry) = not (carries config entry.mesh entry.data_name)
is_off_mesh config _ = false

abbrev pub writes_data : List ℕ → Held → Bool
writes_data data_name (written _ entry) = bytes_eq entry.data_name data_name
writes_data data_name _ = false

-- data are written before this in the file
abbrev pub is_written_twice : List Entry → Held → Bool
is_written_twice before (written _ entry) = list_any (λ other. writes_data entry.data_name other.held) before
is_written_twice before _ = false

-- a read mapping goes from a received to an own mesh, a write mapping from an own to a received one
abbrev pub has_right_ends : PartTable → Direction → (from to : List ℕ) → Bool
has_right_ends table Read from to = receives table from && provides table to
has_right_ends table Write from to = provides table from && receives table to

abbrev pub same_direction : Direction → Direction → Bool
same_direction Read Read = true
same_direction Write Write = true
same_direction _ _ = false

-- the mapping goes this way between these meshes
abbrev pub goes : Direction → (from to : List ℕ) → MapEntry → Bool
goes direction from to entry = same_direction entry.direction direction && (bytes_eq entry.from from && bytes_eq entry.to to)

-- some mapping of a list goes this way
abbrev pub some_goes : Direction → (from to : List ℕ) → List MapEntry → Bool
some_goes direction from to entries = list_any (goes direction from to) entries

abbrev pub have_same_dimensions : Config → (one other : List ℕ) → Bool
have_same_dimensions config one other = int_eq (dimensions_of config one) (dimensions_of config other)

-- a watch-point has as many coordinates as its mesh has dimensions
abbrev pub has_dimensions_of : Config → WatchEntry → Bool
has_dimensions_of config entry = length entry.at == unsigned_abs (dimensions_of config entry.mesh)

-- a mapping's ends are wrong, or of other dimensions, or it is there already; a watch-point's mesh is not its participant's own, or the point has not the mesh's dimensions
abbrev pub is_wrongly_mapped : Config → Held → Bool
is_wrongly_mapped config (mapped table earlier entry) =
    (not (has_right_ends table entry.direction entry.from entry.to)
    || not (have_same_dimensions config entry.from entry.to))
    || some_goes entry.direction entry.from entry.to earlier
is_wrongly_mapped config (watched table entry) =
    not (provides table entry.mesh) || not (has_dimensions_of config entry)
is_wrongly_mapped config _ = false

abbrev pub has_map : PartTable → Direction → (from to : List ℕ) → Bool
has_map table direction from to = some_goes direction from to table.map

-- the entry is of the exchange's data, on another mesh
abbrev pub is_elsewhere : ExchangeEntry → DataEntry → Bool
is_elsewhere exchange entry = bytes_eq entry.data_name exchange.data_name && not (bytes_eq entry.mesh exchange.mesh)

-- the writer writes the exchange's data on another mesh, from which it maps nothing onto the exchange's
abbrev pub lacks_write_map : ExchangeEntry → PartTable → Bool
lacks_write_map exchange table =
    list_any (λ entry. is_elsewhere exchange entry && not (has_map table Write entry.mesh exchange.mesh)) table.write

-- the reader reads the exchange's data on another mesh, onto which it maps nothing from the exchange's
abbrev pub lacks_read_map : ExchangeEntry → PartTable → Bool
lacks_read_map exchange table =
    list_any (λ entry. is_elsewhere exchange entry && not (has_map table Read exchange.mesh entry.mesh)) table.read

-- an exchange lacks a mapping at one of its ends
abbrev pub is_unmapped : Config → Held → Bool
is_unmapped config (exchanged _ entry) =
    holds_of config entry.from (lacks_write_map entry) || holds_of config entry.to (lacks_read_map entry)
is_unmapped config _ = false

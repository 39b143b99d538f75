-- The rules on schemes, exchanges, measures and accelerations of a configuration. The project's own, after what the coupling documentation asks of a configuration.
use Rattle.std.specs.Prelude.{ℕ, Bool, false, not, ◌&&◌, ◌||◌, ◌==◌, nat_lt, nat_le, if◌then◌else◌, List, ◌∷◌, [], ◌++◌, length, filter, sum_by, count_by, ℤ, pos, unsigned_abs, Option, is_some, unwrap_or}
use Rattle.std.specs.List.{list_any}
use Rattle.std.specs.Option.{option_map_or}
use Rattle.std.specs.Bool.{beq}
use Rattle.std.specs.Str.{bytes_eq}
use Rattle.cpl_config.specs.declared.kind_words.DataKind.{DataKind}
use Rattle.cpl_config.specs.declared.kind_words.DataKind.TheVariants.{Scalar, Vector}
use Rattle.cpl_config.specs.declared.config.Config.{Config}
use Rattle.cpl_config.specs.declared.config.PartTable.{PartTable}
use Rattle.cpl_config.specs.declared.config.DataEntry.{DataEntry}
use Rattle.cpl_config.specs.declared.config.SchemeTable.{SchemeTable}
use Rattle.cpl_config.specs.declared.config.ExchangeEntry.{ExchangeEntry}
use Rattle.cpl_config.specs.declared.config.AccelEntry.{AccelEntry}
use Rattle.cpl_config.specs.SoundConfig.{all_exchanges}
use Rattle.mesh_rules.specs.Entries.{Held, participant, read, scheme, exchanged, measured, accelerated}
use Rattle.mesh_rules.specs.Named.{data_called, is_among, dimensions_of, provides, receives, holds_of}
use Rattle.config_rules.specs.Members.{is_multi, is_implicit, members, is_member, exchanges_data, is_iterated}
use Rattle.config_rules.specs.Circles.{steps_of, has_circle, is_empty}

abbrev pub same_name : Option (List ℕ) → Option (List ℕ) → Bool
same_name one other = option_map_or (λ name. option_map_or (bytes_eq name) other false) one false

-- a scheme of two: its first and its second are told, they are two, and nothing else is
abbrev pub has_wrong_two : SchemeTable → Bool
has_wrong_two table =
    ((not (is_some table.first) || not (is_some table.second)) || (is_some table.control || is_some table.members))
    || same_name table.first table.second

-- a multi scheme: its members are told, two or more, and one of them is its control
abbrev pub has_wrong_many : SchemeTable → Bool
has_wrong_many table =
    ((not (is_some table.control) || not (is_some table.members)) || (is_some table.first || is_some table.second))
    || (nat_lt (length (unwrap_or table.members [])) 2
    || not (option_map_or (λ name. is_among name (unwrap_or table.members [])) table.control false))

-- a scheme's participants are not told as its kind asks
abbrev pub has_wrong_members : Held → Bool
has_wrong_members (scheme _ table) = if is_multi table then has_wrong_many table else has_wrong_two table
has_wrong_members _ = false

-- an exchange's ends are not two members of its scheme
abbrev pub has_wrong_ends : Held → Bool
has_wrong_ends (exchanged table entry) =
    bytes_eq entry.from entry.to || (not (is_member entry.from table) || not (is_member entry.to table))
has_wrong_ends _ = false

-- one participant provides the mesh and the other receives it
abbrev pub hands_over : Config → (owner other mesh : List ℕ) → Bool
hands_over config owner other mesh =
    holds_of config owner (λ table. provides table mesh) && holds_of config other (λ table. receives table mesh)

-- an exchange's mesh is not provided by one end and received by the other
abbrev pub is_unshared : Config → Held → Bool
is_unshared config (exchanged _ entry) =
    not (hands_over config entry.from entry.to entry.mesh || hands_over config entry.to entry.from entry.mesh)
is_unshared config _ = false

abbrev pub writes : List ℕ → PartTable → Bool
writes data_name table = list_any (λ entry. bytes_eq entry.data_name data_name) table.write

abbrev pub reads : List ℕ → PartTable → Bool
reads data_name table = list_any (λ entry. bytes_eq entry.data_name data_name) table.read

-- an exchange's data are not written at its start, or not read at its end
abbrev pub is_unused : Config → Held → Bool
is_unused config (exchanged _ entry) =
    not (holds_of config entry.from (writes entry.data_name)) || not (holds_of config entry.to (reads entry.data_name))
is_unused config _ = false

-- an exchange feeds what the participant reads of the data
abbrev pub feeds : (reader data_name : List ℕ) → ExchangeEntry → Bool
feeds reader data_name entry = bytes_eq entry.to reader && bytes_eq entry.data_name data_name

-- data are among those that are read before, or are fed to the reader by no exchange, or by two
abbrev pub is_wrongly_fed : Config → (reader : List ℕ) → List DataEntry → (data_name : List ℕ) → Bool
is_wrongly_fed config reader earlier data_name =
    list_any (λ other. bytes_eq other.data_name data_name) earlier
    || not (count_by (feeds reader data_name) (all_exchanges config) == 1)

-- a participant reads data twice, or what it reads is fed by no exchange or by two
abbrev pub is_unfed : Config → Held → Bool
is_unfed config (read table earlier entry) = is_wrongly_fed config table.name earlier entry.data_name
is_unfed config _ = false

-- two members of a scheme are members of another
abbrev pub share_two : SchemeTable → SchemeTable → Bool
share_two table other = nat_le 2 (count_by (λ name. is_member name other) (members table))

-- two participants of a scheme are together in an earlier one
abbrev pub meets_twice : Held → Bool
meets_twice (scheme earlier table) = list_any (share_two table) earlier
meets_twice _ = false

-- another implicit scheme has a member of this one
abbrev pub is_implicit_with : SchemeTable → SchemeTable → Bool
is_implicit_with table other = is_implicit other && list_any (λ name. is_member name other) (members table)

-- a participant of an implicit scheme is in an earlier one
abbrev pub shares_implicit : Held → Bool
shares_implicit (scheme earlier table) = is_implicit table && list_any (is_implicit_with table) earlier
shares_implicit _ = false

-- the serial-explicit schemes up to this one go round in a circle, over the nodes
abbrev pub closes_circle : Config → Held → Bool
closes_circle config (scheme earlier table) = has_circle (steps_of config (earlier ++ table ∷ []))
closes_circle config _ = false

-- a participant is in no scheme
abbrev pub is_alone : Config → Held → Bool
is_alone config (participant table) = not (list_any (is_member table.name) config.scheme)
is_alone config _ = false

-- an explicit scheme has a measure, or an implicit one has none
abbrev pub has_wrong_measures : Held → Bool
has_wrong_measures (scheme _ table) = beq (is_implicit table) (is_empty table.measure)
has_wrong_measures _ = false

-- a measure's data are carried by no exchange of its scheme
abbrev pub is_uncarried : Held → Bool
is_uncarried (measured table entry) = not (exchanges_data table entry.data_name)
is_uncarried _ = false

-- the least number of iterations is over the greatest; the least is 1 where it is left out
abbrev pub is_over_greatest : Option ℤ → Option ℤ → Bool
is_over_greatest least greatest = option_map_or (λ most. nat_lt (unsigned_abs most) (unsigned_abs (unwrap_or least (pos 1)))) greatest false

-- an explicit scheme has a number of iterations, or an implicit one has no greatest, or one below its least
abbrev pub has_wrong_iterations : Held → Bool
has_wrong_iterations (scheme _ table) =
    if is_implicit table then not (is_some table.max_iterations) || is_over_greatest table.min_iterations table.max_iterations
    else is_some table.max_iterations || is_some table.min_iterations
has_wrong_iterations _ = false

-- an exchange of the scheme that is relaxed carries the data
abbrev pub relaxes : SchemeTable → List ℕ → Bool
relaxes table data_name = list_any (λ entry. bytes_eq entry.data_name data_name && is_iterated table entry) table.exchange

-- an explicit scheme has an acceleration, or one accelerates nothing, or data that are not relaxed
abbrev pub is_wrongly_accelerated : Held → Bool
is_wrongly_accelerated (accelerated table entry) =
    (not (is_implicit table) || is_empty entry.data_list) || list_any (λ name. not (relaxes table name)) entry.data_list
is_wrongly_accelerated _ = false

-- the components at a vertex of a mesh of the data of a name
abbrev pub components_by : DataKind → (dimensions : ℕ) → ℕ
components_by Scalar dimensions = 1
components_by Vector dimensions = dimensions

abbrev pub components : Config → (mesh data_name : List ℕ) → ℕ
components config mesh data_name =
    option_map_or (λ table. components_by table.kind (unsigned_abs (dimensions_of config mesh))) (data_called config data_name) 0

abbrev pub components_of : Config → ExchangeEntry → ℕ
components_of config entry = components config entry.mesh entry.data_name

-- an exchange is accelerated
abbrev pub is_accelerated : SchemeTable → AccelEntry → ExchangeEntry → Bool
is_accelerated table acceleration entry = is_among entry.data_name acceleration.data_list && is_iterated table entry

-- the accelerated exchanges have more than 20 components a vertex
abbrev pub is_wide : Config → Held → Bool
is_wide config (accelerated table entry) = nat_lt 20 (sum_by (components_of config) (filter (is_accelerated table entry) table.exchange))
is_wide config _ = false

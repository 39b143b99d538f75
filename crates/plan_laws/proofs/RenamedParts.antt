-- The data, meshes, participants and exchanges of a plan stay as they are under other names.
use Rattle.std.proofs.Common.{◌≡◌, ℕ, Bool, false, ◌&&◌, cond, List, map, Option, Some, None, refl, ap, ap₂, sym, ◌∙◌}
use Rattle.std.specs.Prelude.{option_map, unwrap_or}
use Rattle.std.specs.Option.{option_map_or, option_and_then}
use Rattle.std.specs.Str.{bytes_eq}
use Rattle.cpl_plan.specs.declared.parts.Part.{Part}
use Rattle.cpl_plan.specs.declared.parts.PlanEntry.{PlanEntry}
use Rattle.cpl_plan.specs.declared.parts.MapPlan.{MapPlan}
use Rattle.cpl_plan.specs.declared.parts.Watch.{Watch}
use Rattle.cpl_plan.specs.declared.parts.Kind.{Kind}
use Rattle.cpl_plan.specs.ExchangeKinds.{exchange_kind}
use Rattle.cpl_config.specs.declared.kind_words.Direction.{Direction}
use Rattle.cpl_config.specs.declared.kind_words.Direction.TheVariants.{Read, Write}
use Rattle.cpl_config.specs.declared.config.Config.{Config}
use Rattle.cpl_config.specs.declared.config.MeshTable.{MeshTable}
use Rattle.cpl_config.specs.declared.config.PartTable.{PartTable}
use Rattle.cpl_config.specs.declared.config.DataEntry.{DataEntry}
use Rattle.cpl_config.specs.declared.config.MapEntry.{MapEntry}
use Rattle.cpl_config.specs.declared.config.SchemeTable.{SchemeTable}
use Rattle.cpl_config.specs.declared.config.ExchangeEntry.{ExchangeEntry}
use Rattle.mesh_rules.specs.Named.{provides, participant_called}
use Rattle.mesh_rules.specs.MeshRules.{goes, same_direction}
use Rattle.config_rules.specs.Members.{is_implicit, is_member, goes_to_second, scheme_kind}
use Rattle.scheme_parts.specs.NumbersOf.{data_number, mesh_number}
use Rattle.scheme_parts.specs.MapPlaces.{map_place, entry_with, write_map, read_map}
use Rattle.scheme_parts.specs.ExchangeOf.{exchange_of}
use Rattle.plan_build.specs.MeshOf.{owner_of, mesh_of}
use Rattle.plan_build.specs.PartOf.{entry_of, map_of, watch_of, group_of, part_of}
use Rattle.plan_laws.specs.Renaming.{Renaming, KeepsApart, renamed_mesh, renamed_receives, renamed_entry, renamed_map, renamed_watch, renamed_participant, renamed_exchange, renamed_scheme, renamed}
use Rattle.plan_laws.specs.Unnamed.{unnamed_watch, unnamed_part, unnamed_mesh}
use Rattle.plan_laws.proofs.Lists.{find_mapped, map_twice}
use Rattle.plan_laws.proofs.Positions.{map_same}
use Rattle.plan_laws.proofs.Renamed.{position_mapped, find_same, same_data, same_mesh, same_participant, data_numbered, mesh_numbered, part_numbered, participant_found, provides_renamed, member_renamed}

-- mapped lists whose items agree
pub maps_agree : {X Y Z : Type 0} (g : Y → Z) (h : X → Z) (f : X → Y) (xs : List X) → ((x : X) → g (f x) ≡ h x) → map g (map f xs) ≡ map h xs
maps_agree {X} g h f xs same = map_twice g f xs ∙ map_same (λ (x : X). g (f x)) h xs (λ x inside. same x)

module _ (names : Renaming) (apart : KeepsApart names) (config : Config) where
  abbrev other : Config
  other = renamed names config

  -- meshes

  owner_same : (mesh : List ℕ) → owner_of other (names.mesh mesh) ≡ owner_of config mesh
  owner_same mesh = ap (λ (o : Option ℕ). unwrap_or o 0)
      (position_mapped (λ (table : PartTable). provides table (names.mesh mesh)) (λ (table : PartTable). provides table mesh) (renamed_participant names) config.participant (λ table. provides_renamed names apart config table mesh))

  pub mesh_same : (table : MeshTable) → unnamed_mesh (mesh_of other (renamed_mesh names table)) ≡ unnamed_mesh (mesh_of config table)
  mesh_same table =
      ap₂ (λ (owner : ℕ) (ds : List ℕ). record (unnamed_mesh (mesh_of config table)) { owner = owner; data_list = ds })
      (owner_same table.name)
      (maps_agree (data_number other) (data_number config) names.data_item table.data_list (data_numbered names apart config))

  -- participants

  entry_same : (entry : DataEntry) → entry_of other (renamed_entry names entry) ≡ entry_of config entry
  entry_same entry =
      ap₂ (λ (d m : ℕ). record (entry_of config entry) { data_id = d; mesh = m }) (data_numbered names apart config entry.data_name) (mesh_numbered names apart config entry.mesh)

  map_is_same : (entry : MapEntry) → map_of other (renamed_map names entry) ≡ map_of config entry
  map_is_same entry =
      ap₂ (λ (from to : ℕ). record (map_of config entry) { from = from; to = to }) (mesh_numbered names apart config entry.from) (mesh_numbered names apart config entry.to)

  group_same : (name : List ℕ) → group_of other (names.participant name) ≡ group_of config name
  group_same name =
      position_mapped (λ (table : SchemeTable). is_implicit table && is_member (names.participant name) table) (λ (table : SchemeTable). is_implicit table && is_member name table) (renamed_scheme names) config.scheme
      (λ table. ap (λ b. is_implicit table && b) (member_renamed names apart config name table))

  pub part_same : (table : PartTable) → unnamed_part (part_of other (renamed_participant names table)) ≡ unnamed_part (part_of config table)
  part_same table =
      let start : Part = unnamed_part (part_of other (renamed_participant names table)) in
      let end : Part = unnamed_part (part_of config table) in
      let numbers : (name : List ℕ) → mesh_number other (names.mesh name) ≡ mesh_number config name = mesh_numbered names apart config in
      ap₂ (λ (provided received : List ℕ). record start { provides = provided; receives = received })
      (maps_agree (mesh_number other) (mesh_number config) names.mesh table.provides numbers)
      (maps_agree (λ entry. mesh_number other entry.mesh) (λ entry. mesh_number config entry.mesh) (renamed_receives names) table.receives (λ entry. numbers entry.mesh))
      ∙ (ap₂ (λ (written reads : List PlanEntry). record end { writes = written; reads = reads; maps = start.maps; watches = start.watches; group = start.group })
      (maps_agree (entry_of other) (entry_of config) (renamed_entry names) table.write entry_same) (maps_agree (entry_of other) (entry_of config) (renamed_entry names) table.read entry_same)
      ∙ (ap₂ (λ (maps : List MapPlan) (watches : List Watch). record end { maps = maps; watches = watches; group = start.group })
      (maps_agree (map_of other) (map_of config) (renamed_map names) table.map map_is_same)
      (ap (map unnamed_watch) (map_twice (watch_of other) (renamed_watch names) table.watch) ∙ (maps_agree unnamed_watch (λ entry. unnamed_watch (watch_of config entry)) (λ entry. watch_of other (renamed_watch names entry)) table.watch
      (λ entry. ap (λ (m : ℕ). record (unnamed_watch (watch_of config entry)) { mesh = m }) (numbers entry.mesh))
      ∙ sym (map_twice unnamed_watch (watch_of config) table.watch)))
      ∙ ap (λ (group : Option ℕ). record end { group = group }) (group_same table.name)))

  -- mappings of an exchange

  place_same : (direction : Direction) (from to : List ℕ) (entries : List MapEntry) → map_place direction (names.mesh from) (names.mesh to) (map (renamed_map names) entries) ≡ map_place direction from to entries
  place_same direction from to entries =
      ap₂ (λ (b : Bool) (place : Option ℕ). cond b None place) (same_mesh names apart config from to)
      (position_mapped (goes direction (names.mesh from) (names.mesh to)) (goes direction from to) (renamed_map names) entries
      (λ entry. ap₂ (λ (a b : Bool). same_direction entry.direction direction && (a && b)) (same_mesh names apart config entry.from from) (same_mesh names apart config entry.to to)))

  entry_found : (data_name : List ℕ) (entries : List DataEntry) → entry_with (names.data_item data_name) (map (renamed_entry names) entries) ≡ option_map (renamed_entry names) (entry_with data_name entries)
  entry_found data_name entries =
      find_mapped (λ (entry : DataEntry). bytes_eq entry.data_name (names.data_item data_name)) (renamed_entry names) entries
      ∙ ap (option_map (renamed_entry names)) (find_same (λ (entry : DataEntry). bytes_eq (names.data_item entry.data_name) (names.data_item data_name)) (λ (entry : DataEntry). bytes_eq entry.data_name data_name) entries (λ entry. same_data names apart config entry.data_name data_name))

  written_place : (mesh : List ℕ) (maps : List MapEntry) (o : Option DataEntry)
      → option_and_then (λ (entry : DataEntry). map_place Write entry.mesh (names.mesh mesh) (map (renamed_map names) maps)) (option_map (renamed_entry names) o) ≡ option_and_then (λ (entry : DataEntry). map_place Write entry.mesh mesh maps) o
  written_place mesh maps None = refl
  written_place mesh maps (Some entry) = place_same Write entry.mesh mesh maps

  read_place : (mesh : List ℕ) (maps : List MapEntry) (o : Option DataEntry)
      → option_and_then (λ (entry : DataEntry). map_place Read (names.mesh mesh) entry.mesh (map (renamed_map names) maps)) (option_map (renamed_entry names) o) ≡ option_and_then (λ (entry : DataEntry). map_place Read mesh entry.mesh maps) o
  read_place mesh maps None = refl
  read_place mesh maps (Some entry) = place_same Read mesh entry.mesh maps

  writer_place : (exchange : ExchangeEntry) (o : Option PartTable)
      → option_and_then (λ (writer : PartTable). option_and_then (λ (entry : DataEntry). map_place Write entry.mesh (names.mesh exchange.mesh) writer.map) (entry_with (names.data_item exchange.data_name) writer.write)) (option_map (renamed_participant names) o)
      ≡ option_and_then (λ (writer : PartTable). option_and_then (λ (entry : DataEntry). map_place Write entry.mesh exchange.mesh writer.map) (entry_with exchange.data_name writer.write)) o
  writer_place exchange None = refl
  writer_place exchange (Some writer) =
      ap (λ (o : Option DataEntry). option_and_then (λ (entry : DataEntry). map_place Write entry.mesh (names.mesh exchange.mesh) (map (renamed_map names) writer.map)) o) (entry_found exchange.data_name writer.write)
      ∙ written_place exchange.mesh writer.map (entry_with exchange.data_name writer.write)

  reader_place : (exchange : ExchangeEntry) (o : Option PartTable)
      → option_and_then (λ (reader : PartTable). option_and_then (λ (entry : DataEntry). map_place Read (names.mesh exchange.mesh) entry.mesh reader.map) (entry_with (names.data_item exchange.data_name) reader.read)) (option_map (renamed_participant names) o)
      ≡ option_and_then (λ (reader : PartTable). option_and_then (λ (entry : DataEntry). map_place Read exchange.mesh entry.mesh reader.map) (entry_with exchange.data_name reader.read)) o
  reader_place exchange None = refl
  reader_place exchange (Some reader) =
      ap (λ (o : Option DataEntry). option_and_then (λ (entry : DataEntry). map_place Read (names.mesh exchange.mesh) entry.mesh (map (renamed_map names) reader.map)) o) (entry_found exchange.data_name reader.read)
      ∙ read_place exchange.mesh reader.map (entry_with exchange.data_name reader.read)

  write_same : (exchange : ExchangeEntry) → write_map other (renamed_exchange names exchange) ≡ write_map config exchange
  write_same exchange =
      ap (λ (o : Option PartTable). option_and_then (λ (writer : PartTable). option_and_then (λ (entry : DataEntry). map_place Write entry.mesh (names.mesh exchange.mesh) writer.map) (entry_with (names.data_item exchange.data_name) writer.write)) o) (participant_found names apart config exchange.from)
      ∙ writer_place exchange (participant_called config exchange.from)

  read_same : (exchange : ExchangeEntry) → read_map other (renamed_exchange names exchange) ≡ read_map config exchange
  read_same exchange =
      ap (λ (o : Option PartTable). option_and_then (λ (reader : PartTable). option_and_then (λ (entry : DataEntry). map_place Read (names.mesh exchange.mesh) entry.mesh reader.map) (entry_with (names.data_item exchange.data_name) reader.read)) o) (participant_found names apart config exchange.to)
      ∙ reader_place exchange (participant_called config exchange.to)

  -- exchanges

  second_same : (to : List ℕ) (second : Option (List ℕ)) → option_map_or (bytes_eq (names.participant to)) (option_map names.participant second) false ≡ option_map_or (bytes_eq to) second false
  second_same to None = refl
  second_same to (Some second) = same_participant names apart config to second

  pub to_second_same : (table : SchemeTable) (entry : ExchangeEntry) → goes_to_second (renamed_scheme names table) (renamed_exchange names entry) ≡ goes_to_second table entry
  to_second_same table entry = second_same entry.to table.second

  pub exchange_same : (scheme : ℕ) (table : SchemeTable) (entry : ExchangeEntry) → exchange_of other scheme (renamed_scheme names table) (renamed_exchange names entry) ≡ exchange_of config scheme table entry
  exchange_same scheme table entry =
      let start = exchange_of other scheme (renamed_scheme names table) (renamed_exchange names entry) in
      let end = exchange_of config scheme table entry in
      ap₂ (λ (d m : ℕ). record start { data_id = d; mesh = m }) (data_numbered names apart config entry.data_name) (mesh_numbered names apart config entry.mesh)
      ∙ (ap₂ (λ (from to : ℕ). record end { from = from; to = to; kind = start.kind; write_map = start.write_map; read_map = start.read_map }) (part_numbered names apart config entry.from) (part_numbered names apart config entry.to)
      ∙ (ap (λ (kind : Kind). record end { kind = kind; write_map = start.write_map; read_map = start.read_map }) (ap (exchange_kind (scheme_kind table.kind)) (to_second_same table entry))
      ∙ ap₂ (λ (write read : Option ℕ). record end { write_map = write; read_map = read }) (write_same entry) (read_same entry)))

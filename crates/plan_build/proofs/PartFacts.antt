-- Participants of the plan of an accepted configuration: their meshes, entries, mappings and watch-points.
use Rattle.std.proofs.Common.{◌≡◌, ℕ, ◌<◌, Bool, true, false, not, ◌&&◌, nat_eq, nat_le, List, [], ◌∷◌, ◌++◌, length, map, Some, All, refl, ap, sym, ◌∙◌, arith}
use Rattle.std.specs.Prelude.{slice_get, flat_map}
use Rattle.std.specs.List.{list_all}
use Rattle.std.specs.Option.{option_map_or}
use Rattle.std.specs.Str.{bytes_eq}
use Rattle.std.proofs.lemmas.Bool.{and_from, lt-ltb, le-leb}
use Rattle.std.proofs.lemmas.Option.{slice_get_within}
use Rattle.std.proofs.lemmas.List.{length-map, map-append}
use Rattle.std.proofs.lemmas.List.Elements.{All-weaker, All-map, All-append, All-nil, All-head, All-tail}
use Rattle.cpl_tables.specs.Values.{are_distinct_texts}
use Rattle.cpl_config.specs.declared.kind_words.Direction.{Direction}
use Rattle.cpl_config.specs.declared.kind_words.Direction.TheVariants.{Read, Write}
use Rattle.cpl_config.specs.declared.config.Config.{Config}
use Rattle.cpl_config.specs.declared.config.PartTable.{PartTable}
use Rattle.cpl_config.specs.declared.config.ReceivesEntry.{ReceivesEntry}
use Rattle.cpl_config.specs.declared.config.DataEntry.{DataEntry}
use Rattle.cpl_config.specs.declared.config.ExchangeEntry.{ExchangeEntry}
use Rattle.cpl_config.specs.SoundConfig.{IsSoundConfig, IsSoundParticipant, all_exchanges}
use Rattle.cpl_plan.specs.declared.parts.Part.{Part}
use Rattle.cpl_plan.specs.declared.parts.PlanParts.{PlanParts}
use Rattle.cpl_plan.specs.PlanWords as words
use Rattle.cpl_plan.specs.PlanTests as tests
use Rattle.cpl_plan.proofs.Readings.{there}
use Rattle.plan_order.specs.declared.node.Node.{Node}
use Rattle.mesh_rules.specs.Named as named
use Rattle.mesh_rules.specs.MeshRules.{same_direction}
use Rattle.config_rules.specs.ConfigRules.{IsAccepted}
use Rattle.config_rules.specs.SchemeRules.{feeds}
use Rattle.config_laws.specs.Placed.{EachAfter}
use Rattle.config_laws.specs.FitMeshes.{IsFitReceived, IsOnOwnMesh, IsFitRead}
use Rattle.config_laws.specs.ToldOnce.{all_written}
use Rattle.config_laws.proofs.WholeFacts as facts
use Rattle.config_laws.proofs.OnceFacts.{received_once, read_once}
use Rattle.config_laws.proofs.WrittenNames as written_names
use Rattle.scheme_parts.specs.NumbersOf.{data_number, mesh_number, part_number}
use Rattle.scheme_parts.proofs.Tables.{all_at, each_map, all_map}
use Rattle.scheme_parts.proofs.NamedTables.{HasTable, within, distinct_same, same_test, place_is_number, table_of_itself}
use Rattle.scheme_parts.proofs.Ranges.{IsOnlyPlace, only_place, only_number}
use Rattle.plan_build.specs.MeshOf.{mesh_of}
use Rattle.plan_build.specs.PartOf.{part_of, entry_of, map_of, is_reading}
use Rattle.plan_build.specs.PlanOf.{plan_of, exchanges_of_all}
use Rattle.plan_build.proofs.PlanReadings.{data_name, mesh_name, part_name, each_of, map_map, data_at, part_at, data_all, mesh_all, provided_declared, received_declared, fit_received, provides_is, carries_is}
use Rattle.plan_build.proofs.ExchangePlaces.{exchange_from, exchange_listed}
use Rattle.plan_build.proofs.FitAt.{called_there, fit_at}

pub all_flat : {X Y : Type 0} (P : Y → Type 0) (g : X → List Y) (xs : List X) → All (λ x. All P (g x)) xs → All P (flat_map g xs)
all_flat P g [] all = All-nil P
all_flat {X} P g (x ∷ xs) all =
    All-append P (g x) (flat_map g xs) (All-head (λ (y : X). All P (g y)) x xs all) (all_flat P g xs (All-tail (λ (y : X). All P (g y)) x xs all))

abbrev data_of_entry : DataEntry → List ℕ
data_of_entry entry = entry.data_name

abbrev mesh_of_received : ReceivesEntry → List ℕ
mesh_of_received entry = entry.mesh

-- the data of entries, by numbers
entries_data : (config : Config) (entries : List DataEntry) → words.data_of (map (entry_of config) entries) ≡ map (data_number config) (map data_of_entry entries)
entries_data config entries = map_map (λ entry. entry.data_id) (entry_of config) entries ∙ sym (map_map (data_number config) data_of_entry entries)

written_data : (config : Config) (tables : List PartTable) → flat_map (λ (part : Part). words.data_of part.writes) (map (part_of config) tables)
    ≡ map (data_number config) (flat_map (λ (table : PartTable). map data_of_entry table.write) tables)
written_data config [] = refl
written_data config (table ∷ tables) =
    let later : List (List ℕ) = flat_map (λ (t : PartTable). map data_of_entry t.write) tables in
    ap (λ (xs : List ℕ). xs ++ flat_map (λ (part : Part). words.data_of part.writes) (map (part_of config) tables)) (entries_data config table.write)
    ∙ (ap (λ (xs : List ℕ). map (data_number config) (map data_of_entry table.write) ++ xs) (written_data config tables) ∙ sym (map-append (data_number config) (map data_of_entry table.write) later))

same_flags : (one other : Direction) → tests.same_flag (is_reading one) (is_reading other) ≡ same_direction one other
same_flags Read Read = refl
same_flags Read Write = refl
same_flags Write Read = refl
same_flags Write Write = refl

and_assoc : (a b c : Bool) → (a && b && c) ≡ (a && (b && c))
and_assoc true b c = refl
and_assoc false b c = refl

module _ (config : Config) (sound : IsSoundConfig config) (accepted : IsAccepted config) (nodes : List Node) where
  abbrev plan : PlanParts
  plan = plan_of config nodes

  sound_part : (p : ℕ) (table : PartTable) → slice_get config.participant p ≡ Some table → IsSoundParticipant table
  sound_part p table at = all_at IsSoundParticipant config.participant p table sound.participants at

  meshes_there : (names : List (List ℕ)) → All (λ name. named.is_mesh config name ≡ true) names → list_all (tests.is_mesh plan) (map (mesh_number config) names) ≡ true
  meshes_there names declared =
      all_map (mesh_number config) (tests.is_mesh plan) names
      (All-weaker (HasTable mesh_name config.mesh) (λ name. tests.is_mesh plan (mesh_number config name) ≡ true)
      (λ name has. lt-ltb (mesh_number config name) (length (map (mesh_of config) config.mesh)) (omega (arith, within mesh_name config.mesh name has, length-map config.mesh (mesh_of config))))
      names (mesh_all config names declared))

  received_are : (table : PartTable) → map (λ (entry : ReceivesEntry). mesh_number config entry.mesh) table.receives ≡ map (mesh_number config) (map mesh_of_received table.receives)
  received_are table = sym (map_map (mesh_number config) mesh_of_received table.receives)

  received_names : (p : ℕ) (table : PartTable) → slice_get config.participant p ≡ Some table → All (λ name. named.is_mesh config name ≡ true) (map mesh_of_received table.receives)
  received_names p table at = All-map (λ name. named.is_mesh config name ≡ true) mesh_of_received table.receives (received_declared config accepted p table at)

  pub provided_there : tests.are_provided_declared plan ≡ true
  provided_there = each_map (part_of config) config.participant (λ _ part. list_all (tests.is_mesh plan) part.provides) (λ p table at. meshes_there table.provides (provided_declared config accepted p table at))

  pub provided_once : tests.are_provided_once plan ≡ true
  provided_once = each_map (part_of config) config.participant (λ _ part. words.are_distinct nat_eq part.provides)
      (λ p table at. distinct_same mesh_name config.mesh table.provides (mesh_all config table.provides (provided_declared config accepted p table at)) ∙ (sound_part p table at).provides.once)

  pub received_there : tests.are_received_declared plan ≡ true
  received_there = each_map (part_of config) config.participant (λ _ part. list_all (tests.is_mesh plan) part.receives)
      (λ p table at. ap (list_all (tests.is_mesh plan)) (received_are table) ∙ meshes_there (map mesh_of_received table.receives) (received_names p table at))

  pub received_from_others : tests.are_received_from_others plan ≡ true
  received_from_others = each_map (part_of config) config.participant (λ p part. list_all (λ mesh. not (words.provides plan p mesh)) part.receives)
      (λ p table at. all_map (λ (entry : ReceivesEntry). mesh_number config entry.mesh) (λ mesh. not (words.provides plan p mesh)) table.receives
      (each_of (IsFitReceived config table) (λ (entry : ReceivesEntry). not (words.provides plan p (mesh_number config entry.mesh)) ≡ true) table.receives
      (λ before entry fit. ap not (provides_is config accepted nodes p table entry.mesh at fit.mesh_declared ∙ fit.not_own)) (fit_received config accepted p table at)))

  pub received_one_time : tests.are_received_once plan ≡ true
  received_one_time = each_map (part_of config) config.participant (λ _ part. words.are_distinct nat_eq part.receives)
      (λ p table at. ap (words.are_distinct nat_eq) (received_are table)
      ∙ (distinct_same mesh_name config.mesh (map mesh_of_received table.receives) (mesh_all config (map mesh_of_received table.receives) (received_names p table at))
      ∙ all_at (λ (t : PartTable). are_distinct_texts (map mesh_of_received t.receives) ≡ true) config.participant p table (received_once config accepted) at))

  on_own : (p : ℕ) (table : PartTable) (entry : DataEntry) → slice_get config.participant p ≡ Some table → IsOnOwnMesh config table entry
      → (words.provides plan p (mesh_number config entry.mesh) && words.mesh_carries plan (mesh_number config entry.mesh) (data_number config entry.data_name)) ≡ true
  on_own p table entry at fit =
      and_from (words.provides plan p (mesh_number config entry.mesh)) (words.mesh_carries plan (mesh_number config entry.mesh) (data_number config entry.data_name))
      (provides_is config accepted nodes p table entry.mesh at fit.mesh_declared ∙ fit.own)
      (carries_is config accepted nodes entry.mesh entry.data_name fit.mesh_declared fit.data_declared ∙ fit.carried)

  written_fit : (p : ℕ) (table : PartTable) → slice_get config.participant p ≡ Some table → All (IsOnOwnMesh config table) table.write
  written_fit p table at = all_at (λ (t : PartTable). All (IsOnOwnMesh config t) t.write) config.participant p table (facts.written_data config accepted) at

  read_fit : (p : ℕ) (table : PartTable) → slice_get config.participant p ≡ Some table → EachAfter (IsFitRead config table) table.read
  read_fit p table at = all_at (λ (t : PartTable). EachAfter (IsFitRead config t) t.read) config.participant p table (facts.read_data config accepted) at

  pub written_on_own : tests.are_written_on_own_meshes plan ≡ true
  written_on_own = each_map (part_of config) config.participant (λ p part. list_all (λ e. words.provides plan p e.mesh && words.mesh_carries plan e.mesh e.data_id) part.writes)
      (λ p table at. all_map (entry_of config) (λ e. words.provides plan p e.mesh && words.mesh_carries plan e.mesh e.data_id) table.write
      (All-weaker (IsOnOwnMesh config table) (λ (entry : DataEntry). (words.provides plan p (mesh_number config entry.mesh) && words.mesh_carries plan (mesh_number config entry.mesh) (data_number config entry.data_name)) ≡ true)
      (λ entry fit. on_own p table entry at fit) table.write (written_fit p table at)))

  pub read_on_own : tests.are_read_on_own_meshes plan ≡ true
  read_on_own = each_map (part_of config) config.participant (λ p part. list_all (λ e. words.provides plan p e.mesh && words.mesh_carries plan e.mesh e.data_id) part.reads)
      (λ p table at. all_map (entry_of config) (λ e. words.provides plan p e.mesh && words.mesh_carries plan e.mesh e.data_id) table.read
      (each_of (IsFitRead config table) (λ (entry : DataEntry). (words.provides plan p (mesh_number config entry.mesh) && words.mesh_carries plan (mesh_number config entry.mesh) (data_number config entry.data_name)) ≡ true) table.read
      (λ before entry fit. on_own p table entry at fit.placed) (read_fit p table at)))

  written_declared : All (λ name. named.is_data config name ≡ true) (all_written config)
  written_declared = all_flat (λ name. named.is_data config name ≡ true) (λ (table : PartTable). map data_of_entry table.write) config.participant
      (All-weaker (λ (table : PartTable). All (IsOnOwnMesh config table) table.write) (λ (table : PartTable). All (λ name. named.is_data config name ≡ true) (map data_of_entry table.write))
      (λ table fit. All-map (λ name. named.is_data config name ≡ true) data_of_entry table.write (All-weaker (IsOnOwnMesh config table) (λ (entry : DataEntry). named.is_data config entry.data_name ≡ true) (λ entry own. own.data_declared) table.write fit))
      config.participant (facts.written_data config accepted))

  pub written_once : tests.are_written_once plan ≡ true
  written_once = ap (words.are_distinct nat_eq) (written_data config config.participant)
      ∙ (distinct_same data_name config.data_list (all_written config) (data_all config (all_written config) written_declared) ∙ written_names.written_once config accepted)

  pub read_one_time : tests.are_read_once plan ≡ true
  read_one_time = each_map (part_of config) config.participant (λ _ part. words.are_distinct nat_eq (words.data_of part.reads))
      (λ p table at.
      let names : List (List ℕ) = map data_of_entry table.read in
      let declared : All (λ name. named.is_data config name ≡ true) names =
      All-map (λ name. named.is_data config name ≡ true) data_of_entry table.read
      (each_of (IsFitRead config table) (λ (entry : DataEntry). named.is_data config entry.data_name ≡ true) table.read (λ before entry fit. fit.placed.data_declared) (read_fit p table at)) in
      ap (words.are_distinct nat_eq) (entries_data config table.read)
      ∙ (distinct_same data_name config.data_list names (data_all config names declared)
      ∙ all_at (λ (t : PartTable). are_distinct_texts (map data_of_entry t.read) ≡ true) config.participant p table (read_once config accepted) at))

  -- an exchange of a number feeds a participant where its entry does
  feeds_is : (p : ℕ) (table : PartTable) (item : List ℕ) (x : ℕ) (entry : ExchangeEntry) → slice_get config.participant p ≡ Some table → named.is_data config item ≡ true → slice_get (all_exchanges config) x ≡ Some entry
      → words.passes (exchanges_of_all config) x (λ e. nat_eq e.to p && nat_eq e.data_id (data_number config item)) ≡ feeds table.name item entry
  feeds_is p table item x entry at declared listed =
      let where_it_is = exchange_listed config x entry listed in
      let place = where_it_is.place in
      let fit = fit_at config accepted x where_it_is.exchange place in
      let number : part_number config table.name ≡ p = place_is_number part_name config.participant p table sound.participant_once at in
      let to_same : nat_eq (part_number config place.entry.to) p ≡ bytes_eq place.entry.to table.name =
      ap (nat_eq (part_number config place.entry.to)) (sym number)
      ∙ same_test part_name config.participant place.entry.to table.name (part_at config place.entry.to (called_there config place.entry.to fit.reader fit.reader_called)) (table_of_itself part_name config.participant p table at) in
      let data_same : nat_eq (data_number config place.entry.data_name) (data_number config item) ≡ bytes_eq place.entry.data_name item =
      same_test data_name config.data_list place.entry.data_name item (data_at config place.entry.data_name fit.data_declared) (data_at config item declared) in
      ap (λ o. option_map_or (λ e. nat_eq e.to p && nat_eq e.data_id (data_number config item)) o false) where_it_is.at
      ∙ (ap (λ e. nat_eq e.to p && nat_eq e.data_id (data_number config item)) place.is
      ∙ (ap (λ b. b && nat_eq (data_number config place.entry.data_name) (data_number config item)) to_same
      ∙ (ap (λ b. bytes_eq place.entry.to table.name && b) data_same ∙ ap (feeds table.name item) where_it_is.same)))

  one_feeder : (p : ℕ) (table : PartTable) (entry : DataEntry) (before : List DataEntry) → slice_get config.participant p ≡ Some table → IsFitRead config table before entry
      → nat_eq (length (words.feeders plan p (data_number config entry.data_name))) 1 ≡ true
  one_feeder p table entry before at fit =
      let test : ℕ → Bool = λ x. words.passes (exchanges_of_all config) x (λ e. nat_eq e.to p && nat_eq e.data_id (data_number config entry.data_name)) in
      let only : IsOnlyPlace (feeds table.name entry.data_name) (all_exchanges config) fit.feeder = only_place (feeds table.name entry.data_name) (all_exchanges config) fit.feeder fit.fed in
      let listed = exchange_listed config only.place fit.feeder only.at in
      let less : only.place < length (exchanges_of_all config) = slice_get_within (exchanges_of_all config) only.place listed.exchange listed.at in
      let holds : test only.place ≡ true = feeds_is p table entry.data_name only.place fit.feeder at fit.placed.data_declared only.at ∙ fit.fed.passes in
      let alone : (j : ℕ) → j < length (exchanges_of_all config) → test j ≡ true → j ≡ only.place =
      λ j more is.
      let item = there (exchanges_of_all config) j more in
      let place = exchange_from config j item.0 item.1 in
      only.only j place.entry place.listed (sym (feeds_is p table entry.data_name j place.entry at fit.placed.data_declared place.listed) ∙ is) in
      let whole = only_number test (length (exchanges_of_all config)) only.place less holds alone in
      ap (λ (xs : List ℕ). nat_eq (length xs) 1) whole

  pub fed_once : tests.are_fed_once plan ≡ true
  fed_once = each_map (part_of config) config.participant (λ p part. list_all (λ e. nat_eq (length (words.feeders plan p e.data_id)) 1) part.reads)
      (λ p table at. all_map (entry_of config) (λ e. nat_eq (length (words.feeders plan p e.data_id)) 1) table.read
      (each_of (IsFitRead config table) (λ (entry : DataEntry). nat_eq (length (words.feeders plan p (data_number config entry.data_name))) 1 ≡ true) table.read
      (λ before entry fit. one_feeder p table entry before at fit) (read_fit p table at)))

  pub few_received : tests.are_few_received plan ≡ true
  few_received = each_map (part_of config) config.participant (λ _ part. nat_le (length part.receives) 64)
      (λ p table at. le-leb (length (map (λ (entry : ReceivesEntry). mesh_number config entry.mesh) table.receives)) 64 (omega (arith, (sound_part p table at).few_receives, length-map table.receives (λ (entry : ReceivesEntry). mesh_number config entry.mesh))))

  pub few_written : tests.are_few_written plan ≡ true
  few_written = each_map (part_of config) config.participant (λ _ part. nat_le (length part.writes) 64)
      (λ p table at. le-leb (length (map (entry_of config) table.write)) 64 (omega (arith, (sound_part p table at).few_writes, length-map table.write (entry_of config))))

  pub few_read : tests.are_few_read plan ≡ true
  few_read = each_map (part_of config) config.participant (λ _ part. nat_le (length part.reads) 64)
      (λ p table at. le-leb (length (map (entry_of config) table.read)) 64 (omega (arith, (sound_part p table at).few_reads, length-map table.read (entry_of config))))

  pub few_maps : tests.are_few_maps plan ≡ true
  few_maps = each_map (part_of config) config.participant (λ _ part. nat_le (length part.maps) 64)
      (λ p table at. le-leb (length (map (map_of config) table.map)) 64 (omega (arith, (sound_part p table at).few_maps, length-map table.map (map_of config))))

-- Mappings and watch-points of the plan of an accepted configuration.
use Rattle.std.proofs.Common.{◌≡◌, ℕ, suc, ◌^◌, Bool, true, false, not, ◌&&◌, ◌||◌, nat_eq, nat_le, List, [], ◌∷◌, length, map, get_or, Option, Some, All, refl, ap, sym, ◌∙◌, arith}
use Rattle.std.specs.Prelude.{slice_get, unsigned_abs, pos, AllPairs, if◌then◌else◌}
use Rattle.std.specs.List.{list_all, list_any}
use Rattle.std.specs.Option.{option_map_or}
use Rattle.std.specs.Str.{bytes_eq}
use Rattle.std.proofs.lemmas.Bool.{and_from, and_parts, eq-eqb}
use Rattle.std.proofs.lemmas.List.Elements.{All-head, All-tail}
use Rattle.cpl_config.specs.declared.kind_words.Direction.{Direction}
use Rattle.cpl_config.specs.declared.kind_words.Direction.TheVariants.{Read, Write}
use Rattle.cpl_config.specs.declared.config.Config.{Config}
use Rattle.cpl_config.specs.declared.config.MeshTable.{MeshTable}
use Rattle.cpl_config.specs.declared.config.PartTable.{PartTable}
use Rattle.cpl_config.specs.declared.config.MapEntry.{MapEntry}
use Rattle.cpl_config.specs.declared.config.WatchEntry.{WatchEntry}
use Rattle.cpl_config.specs.SoundConfig.{IsSoundConfig, IsSoundParticipant, IsSoundWatch}
use Rattle.cpl_plan.specs.declared.parts.PlanParts.{PlanParts}
use Rattle.cpl_plan.specs.PlanWords as words
use Rattle.cpl_plan.specs.PlanTests as tests
use Rattle.cpl_plan.proofs.Readings.{at_passes}
use Rattle.plan_order.specs.declared.node.Node.{Node}
use Rattle.mesh_rules.specs.Named as named
use Rattle.mesh_rules.specs.MeshRules.{has_right_ends, goes, same_direction}
use Rattle.config_rules.specs.ConfigRules.{IsAccepted}
use Rattle.config_laws.specs.Placed.{EachAfter}
use Rattle.config_laws.specs.FitMeshes.{IsFitMap, IsFitWatch}
use Rattle.config_laws.specs.ToldOnce.{GoElsewhere}
use Rattle.config_laws.proofs.Truths.{some_there}
use Rattle.config_laws.proofs.WholeFacts as facts
use Rattle.config_laws.proofs.OnceFacts.{mapped_once}
use Rattle.scheme_parts.specs.NumbersOf.{mesh_number}
use Rattle.scheme_parts.proofs.Tables.{all_at, all_test, each_map, all_map, map_at}
use Rattle.scheme_parts.proofs.NamedTables.{HasTable, same_test, table_at}
use Rattle.plan_build.specs.MeshOf.{mesh_of}
use Rattle.plan_build.specs.PartOf.{part_of, map_of, watch_of, is_reading}
use Rattle.plan_build.specs.PlanOf.{plan_of}
use Rattle.plan_build.proofs.PlanReadings.{mesh_name, each_of, mesh_at, provides_is, receives_is}

pub same_flags : (one other : Direction) → tests.same_flag (is_reading one) (is_reading other) ≡ same_direction one other
same_flags Read Read = refl
same_flags Read Write = refl
same_flags Write Read = refl
same_flags Write Write = refl

and_assoc : (a b c : Bool) → (a && b && c) ≡ (a && (b && c))
and_assoc true b c = refl
and_assoc false b c = refl

-- the ends of a mapping are declared
record HasEnds (config : Config) (entry : MapEntry) : Type 0 where
  from : HasTable mesh_name config.mesh entry.from
  to : HasTable mesh_name config.mesh entry.to

same_ways : (config : Config) (one other : MapEntry) → HasEnds config one → HasEnds config other → tests.same_way (map_of config one) (map_of config other) ≡ goes other.direction other.from other.to one
same_ways config one other ends ends' =
    let from : Bool = nat_eq (mesh_number config one.from) (mesh_number config other.from) in
    let to : Bool = nat_eq (mesh_number config one.to) (mesh_number config other.to) in
    let way : Bool = same_direction one.direction other.direction in
    ap (λ b. b && from && to) (same_flags one.direction other.direction)
    ∙ (ap (λ b. way && b && to) (same_test mesh_name config.mesh one.from other.from ends.from ends'.from)
    ∙ (ap (λ b. way && bytes_eq one.from other.from && b) (same_test mesh_name config.mesh one.to other.to ends.to ends'.to)
    ∙ and_assoc way (bytes_eq one.from other.from) (bytes_eq one.to other.to)))

none_same : (config : Config) (one : MapEntry) (maps : List MapEntry) → HasEnds config one → All (HasEnds config) maps → All (GoElsewhere one) maps → list_any (tests.same_way (map_of config one)) (map (map_of config) maps) ≡ false
none_same config one [] ends all elsewhere = refl
none_same config one (other ∷ maps) ends all elsewhere =
    ap (λ b. b || list_any (tests.same_way (map_of config one)) (map (map_of config) maps)) (same_ways config one other ends (All-head (HasEnds config) other maps all) ∙ All-head (GoElsewhere one) other maps elsewhere)
    ∙ none_same config one maps ends (All-tail (HasEnds config) other maps all) (All-tail (GoElsewhere one) other maps elsewhere)

distinct_maps : (config : Config) (maps : List MapEntry) → All (HasEnds config) maps → AllPairs GoElsewhere maps → words.are_distinct tests.same_way (map (map_of config) maps) ≡ true
distinct_maps config [] all pairs = refl
distinct_maps config (one ∷ maps) all pairs =
    let later : All (HasEnds config) maps = All-tail (HasEnds config) one maps all in
    let elsewhere : All (GoElsewhere one) maps = λ k d within. pairs 0 (suc k) d (omega (arith)) (omega (arith, within)) in
    let rest : AllPairs GoElsewhere maps = λ i j d less within. pairs (suc i) (suc j) d (omega (arith, less)) (omega (arith, within)) in
    ap (λ b. not b && words.are_distinct tests.same_way (map (map_of config) maps)) (none_same config one maps (All-head (HasEnds config) one maps all) later elsewhere)
    ∙ distinct_maps config maps later rest

-- a declared mesh, its number and its dimensions
record HasDimensions (config : Config) (name : List ℕ) : Type 0 where
  table : MeshTable
  at : slice_get config.mesh (mesh_number config name) ≡ Some table
  dimensions : named.dimensions_of config name ≡ table.dimensions

dimensions_at : (config : Config) (name : List ℕ) → named.is_mesh config name ≡ true → HasDimensions config name
dimensions_at config name there =
    let found = some_there (named.mesh_called config name) there in
    record {
      table = found.0;
      at = (table_at mesh_name config.mesh name found.0 found.1).at;
      dimensions = ap (λ (o : Option MeshTable). option_map_or (λ (table : MeshTable). table.dimensions) o (pos 0)) found.1;
    }

module _ (config : Config) (sound : IsSoundConfig config) (accepted : IsAccepted config) (nodes : List Node) where
  abbrev plan : PlanParts
  plan = plan_of config nodes

  equal_dimensions : (one other : List ℕ) → named.is_mesh config one ≡ true → named.is_mesh config other ≡ true → named.dimensions_of config one ≡ named.dimensions_of config other
      → words.have_equal_dimensions plan (mesh_number config one) (mesh_number config other) ≡ true
  equal_dimensions one other there there' same =
      let first = dimensions_at config one there in
      let second = dimensions_at config other there' in
      let equal : unsigned_abs first.table.dimensions ≡ unsigned_abs second.table.dimensions = ap unsigned_abs (sym first.dimensions ∙ (same ∙ second.dimensions)) in
      at_passes (map (mesh_of config) config.mesh) (mesh_number config one) (λ m. words.passes (map (mesh_of config) config.mesh) (mesh_number config other) (λ n. nat_eq m.dimensions n.dimensions)) (mesh_of config first.table)
      (map_at (mesh_of config) config.mesh (mesh_number config one) first.table first.at)
      (at_passes (map (mesh_of config) config.mesh) (mesh_number config other) (λ n. nat_eq (unsigned_abs first.table.dimensions) n.dimensions) (mesh_of config second.table)
      (map_at (mesh_of config) config.mesh (mesh_number config other) second.table second.at) (eq-eqb (unsigned_abs first.table.dimensions) (unsigned_abs second.table.dimensions) equal))

  right_ends : (p : ℕ) (table : PartTable) (direction : Direction) (from to : List ℕ) → slice_get config.participant p ≡ Some table → named.is_mesh config from ≡ true → named.is_mesh config to ≡ true
      → has_right_ends table direction from to ≡ true
      → (if is_reading direction then words.receives plan p (mesh_number config from) && words.provides plan p (mesh_number config to)
      else words.provides plan p (mesh_number config from) && words.receives plan p (mesh_number config to)) ≡ true
  right_ends p table Read from to at there there' right =
      let parts = and_parts (named.receives table from) (named.provides table to) right in
      and_from (words.receives plan p (mesh_number config from)) (words.provides plan p (mesh_number config to))
      (receives_is config accepted nodes p table from at there ∙ parts.0) (provides_is config accepted nodes p table to at there' ∙ parts.1)
  right_ends p table Write from to at there there' right =
      let parts = and_parts (named.provides table from) (named.receives table to) right in
      and_from (words.provides plan p (mesh_number config from)) (words.receives plan p (mesh_number config to))
      (provides_is config accepted nodes p table from at there ∙ parts.0) (receives_is config accepted nodes p table to at there' ∙ parts.1)

  joins : (p : ℕ) (table : PartTable) (before : List MapEntry) (entry : MapEntry) → slice_get config.participant p ≡ Some table → IsFitMap config table before entry → tests.joins_meshes plan p (map_of config entry) ≡ true
  joins p table before entry at fit =
      and_from (words.have_equal_dimensions plan (mesh_number config entry.from) (mesh_number config entry.to))
      (if is_reading entry.direction then words.receives plan p (mesh_number config entry.from) && words.provides plan p (mesh_number config entry.to)
      else words.provides plan p (mesh_number config entry.from) && words.receives plan p (mesh_number config entry.to))
      (equal_dimensions entry.from entry.to fit.from_declared fit.to_declared fit.dimensions)
      (right_ends p table entry.direction entry.from entry.to at fit.from_declared fit.to_declared fit.ends)

  maps_fit : (p : ℕ) (table : PartTable) → slice_get config.participant p ≡ Some table → EachAfter (IsFitMap config table) table.map
  maps_fit p table at = all_at (λ (t : PartTable). EachAfter (IsFitMap config t) t.map) config.participant p table (facts.maps config accepted) at

  pub maps_join : tests.do_maps_join plan ≡ true
  maps_join = each_map (part_of config) config.participant (λ p part. list_all (tests.joins_meshes plan p) part.maps)
      (λ p table at. all_map (map_of config) (tests.joins_meshes plan p) table.map
      (each_of (IsFitMap config table) (λ (entry : MapEntry). tests.joins_meshes plan p (map_of config entry) ≡ true) table.map (λ before entry fit. joins p table before entry at fit) (maps_fit p table at)))

  pub maps_once : tests.are_maps_once plan ≡ true
  maps_once = each_map (part_of config) config.participant (λ _ part. words.are_distinct tests.same_way part.maps)
      (λ p table at. distinct_maps config table.map
      (each_of (IsFitMap config table) (HasEnds config) table.map (λ before entry fit. record { from = mesh_at config entry.from fit.from_declared; to = mesh_at config entry.to fit.to_declared }) (maps_fit p table at))
      (all_at (λ (t : PartTable). AllPairs GoElsewhere t.map) config.participant p table (mapped_once config accepted) at))

  lies : (p : ℕ) (table : PartTable) (entry : WatchEntry) → slice_get config.participant p ≡ Some table → IsFitWatch config table entry → IsSoundWatch entry → tests.lies_on_own_mesh plan p (watch_of config entry) ≡ true
  lies p table entry at fit is =
      let mesh = dimensions_at config entry.mesh fit.mesh_declared in
      let long : length entry.at ≡ unsigned_abs mesh.table.dimensions = fit.coordinates ∙ ap unsigned_abs mesh.dimensions in
      let own : words.provides plan p (mesh_number config entry.mesh) ≡ true = provides_is config accepted nodes p table entry.mesh at fit.mesh_declared ∙ fit.own in
      let fits : words.passes (map (mesh_of config) config.mesh) (mesh_number config entry.mesh) (λ m. nat_eq (length entry.at) m.dimensions) ≡ true =
      at_passes (map (mesh_of config) config.mesh) (mesh_number config entry.mesh) (λ m. nat_eq (length entry.at) m.dimensions) (mesh_of config mesh.table)
      (map_at (mesh_of config) config.mesh (mesh_number config entry.mesh) mesh.table mesh.at) (eq-eqb (length entry.at) (unsigned_abs mesh.table.dimensions) long) in
      and_from (words.provides plan p (mesh_number config entry.mesh) && words.passes (map (mesh_of config) config.mesh) (mesh_number config entry.mesh) (λ m. nat_eq (length entry.at) m.dimensions))
      (list_all (λ x. nat_le (unsigned_abs x) (10 ^ 12)) entry.at)
      (and_from (words.provides plan p (mesh_number config entry.mesh)) (words.passes (map (mesh_of config) config.mesh) (mesh_number config entry.mesh) (λ m. nat_eq (length entry.at) m.dimensions)) own fits)
      (all_test (λ x. nat_le (unsigned_abs x) (10 ^ 12)) entry.at is.coordinates)

  pub watched : tests.are_watched_on_own_meshes plan ≡ true
  watched = each_map (part_of config) config.participant (λ p part. list_all (tests.lies_on_own_mesh plan p) part.watches)
      (λ p table at. all_map (watch_of config) (tests.lies_on_own_mesh plan p) table.watch
      (λ k d within. lies p table (get_or table.watch k d) at (all_at (λ (t : PartTable). All (IsFitWatch config t) t.watch) config.participant p table (facts.watches config accepted) at k d within)
      ((all_at IsSoundParticipant config.participant p table sound.participants at).watches k d within)))

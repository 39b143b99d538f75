-- The meshes and participants of a plan fit together in the configuration that it is written as.
use Rattle.std.proofs.Common.{◌≡◌, ◌≢◌, ℕ, ◌<◌, Bool, true, false, not, ◌&&◌, nat_eq, cond, List, [], ◌∷◌, ◌++◌, length, map, Option, Some, All, Contains, refl, ap, ap₂, sym, subst, ◌∙◌}
use Rattle.std.specs.Prelude.{slice_get, pos, unsigned_abs}
use Rattle.std.specs.Option.{option_map_or}
use Rattle.std.proofs.lemmas.Bool.{and_parts, and_from, eqb-true, eq-eqb, not-true, false≢true}
use Rattle.std.proofs.lemmas.Option.{slice_get_within}
use Rattle.cpl_plan.specs.declared.parts.PlanParts.{PlanParts}
use Rattle.cpl_plan.specs.declared.parts.Part.{Part}
use Rattle.cpl_plan.specs.declared.parts.MeshPlan.{MeshPlan}
use Rattle.cpl_plan.specs.declared.parts.PlanEntry.{PlanEntry}
use Rattle.cpl_plan.specs.declared.parts.MapPlan.{MapPlan}
use Rattle.cpl_plan.specs.declared.parts.Watch.{Watch}
use Rattle.cpl_plan.specs.PlanWords.{passes, provides, receives, mesh_carries}
use Rattle.cpl_plan.specs.PlanTests.{joins_meshes, same_way, same_flag, lies_on_own_mesh}
use Rattle.cpl_plan.specs.ValidPlan.{IsValidPlan}
use Rattle.cpl_plan.proofs.Readings.{each_at, passes_at, there}
use Rattle.cpl_config.specs.declared.kind_words.Direction.TheVariants.{Read, Write}
use Rattle.cpl_config.specs.declared.config.Config.{Config}
use Rattle.cpl_config.specs.declared.config.MeshTable.{MeshTable}
use Rattle.cpl_config.specs.declared.config.PartTable.{PartTable}
use Rattle.cpl_config.specs.declared.config.ReceivesEntry.{ReceivesEntry}
use Rattle.cpl_config.specs.declared.config.MapEntry.{MapEntry}
use Rattle.mesh_rules.specs.Named.{is_data, participant_called, dimensions_of}
use Rattle.mesh_rules.specs.Named as named
use Rattle.mesh_rules.specs.MeshRules.{has_right_ends, goes, same_direction}
use Rattle.config_laws.specs.Placed.{EachAfter, IsOnlyOne}
use Rattle.config_laws.specs.FitMeshes.{IsFitMesh, IsFitReceived, IsOnOwnMesh, IsFitMap, IsFitWatch, IsFitAction}
use Rattle.config_laws.specs.FitConfig.{FitMeshes, FitReceived, FitWritten, FitMaps, FitWatches, FitActions}
use Rattle.plan_laws.specs.PlanNames.{part_name, mesh_name, data_name, owner_name}
use Rattle.plan_laws.specs.PlanTables.{mesh_table, part_table, received_entry, data_entry, map_entry, watch_entry}
use Rattle.plan_laws.specs.ConfigOfPlan.{config_of_plan}
use Rattle.plan_laws.proofs.Lists.{at_mapped, in_at, at_in, all_in, all_mapped, passes_each, from_mapped, each_after_mapped, only_one_at}
use Rattle.plan_laws.proofs.Distinct.{apart_at}
use Rattle.plan_laws.proofs.Known.{part_called, mesh_called_is, mesh_declared, data_declared, mesh_name_is, same_mesh, meshes_tell, received_in, provides_is, receives_is, table_provides, table_receives, carried_in, carried_there, has_owner, HasOwner}

pub not_among : (a b : ℕ) → nat_eq a b ≡ false → a ≢ b
not_among a b apart same = false≢true (sym apart ∙ ap (λ (n : ℕ). nat_eq a n) (sym same) ∙ itself a)
  where
    itself : (n : ℕ) → nat_eq n n ≡ true
    itself n = eq-eqb n n refl

module _ (plan : PlanParts) (valid : IsValidPlan plan) where
  abbrev config : Config
  config = config_of_plan plan

  -- meshes

  owned : (m : ℕ) (mesh : MeshPlan) → slice_get plan.meshes m ≡ Some mesh → (has : HasOwner plan valid m mesh) → IsOnlyOne (λ (part : PartTable). named.provides part mesh.name) (map (part_table plan) plan.parts) (part_table plan has.owner)
  owned m mesh is has =
      let within : m < length plan.meshes = slice_get_within plan.meshes m mesh is in
      let as_named : (part : PartTable) → named.provides part (mesh_name plan m) ≡ named.provides part mesh.name = λ part. ap (named.provides part) (mesh_name_is plan valid m mesh is) in
      only_one_at (λ (part : PartTable). named.provides part mesh.name) (map (part_table plan) plan.parts) mesh.owner (part_table plan has.owner)
      (at_mapped (part_table plan) plan.parts mesh.owner has.owner has.at)
      (sym (as_named (part_table plan has.owner)) ∙ (table_provides plan valid mesh.owner has.owner has.at m within ∙ has.provided))
      (λ n table there_is holds.
      let from = from_mapped (part_table plan) plan.parts n table there_is in
      let here : named.provides (part_table plan from.0) mesh.name ≡ true = subst (λ (t : PartTable). named.provides t mesh.name ≡ true) (sym from.2) holds in
      has.alone n from.0 from.1 (sym (table_provides plan valid n from.0 from.1 m within) ∙ (as_named (part_table plan from.0) ∙ here)))

  mesh_fits : (m : ℕ) (mesh : MeshPlan) → slice_get plan.meshes m ≡ Some mesh → IsFitMesh config (mesh_table plan mesh)
  mesh_fits m mesh is =
      let has = has_owner plan valid m mesh is in
      record {
        data_declared = all_mapped (λ (name : List ℕ). is_data config name ≡ true) (data_name plan) mesh.data_list (λ d inside. data_declared plan valid d (carried_in plan valid m mesh is d inside));
        owner = part_table plan has.owner;
        owned = owned m mesh is has;
      }

  pub meshes_fit : FitMeshes config
  meshes_fit = all_mapped (IsFitMesh config) (mesh_table plan) plan.meshes (λ mesh inside. let at = at_in plan.meshes mesh inside in mesh_fits at.0 mesh at.1)

  -- what is received

  owner_named : (m : ℕ) (mesh : MeshPlan) → slice_get plan.meshes m ≡ Some mesh → owner_name plan m ≡ part_name plan mesh.owner
  owner_named m mesh is = ap (λ (o : Option MeshPlan). option_map_or (λ (x : MeshPlan). part_name plan x.owner) o []) is

  received_fits : (p : ℕ) (part : Part) → slice_get plan.parts p ≡ Some part → (n m : ℕ) (before : List ReceivesEntry) → slice_get part.receives n ≡ Some m
      → ((entry : ReceivesEntry) → Contains before entry → (k : ℕ) × (k < n) × (j : ℕ) × (slice_get part.receives k ≡ Some j) × (received_entry plan j ≡ entry))
      → IsFitReceived config (part_table plan part) before (received_entry plan m)
  received_fits p part is n m before at earlier =
      let inside : Contains part.receives m = in_at part.receives n m at in
      let within : m < length plan.meshes = received_in plan valid p part is m inside in
      let mesh = there plan.meshes m within in
      let has = has_owner plan valid m mesh.0 mesh.1 in
      let not_own : provides plan p m ≡ false = not-true (provides plan p m) (passes_each (λ (k : ℕ). not (provides plan p k)) part.receives (each_at _ plan.parts valid.participants.received_from_others p part is) m inside) in
      record {
        mesh_declared = mesh_declared plan valid m within;
        sender = part_table plan has.owner;
        sender_called = ap (participant_called config) (owner_named m mesh.0 mesh.1) ∙ part_called plan valid mesh.0.owner has.owner has.at;
        provided = table_provides plan valid mesh.0.owner has.owner has.at m within ∙ has.provided;
        not_own = table_provides plan valid p part is m within ∙ (sym (provides_is plan valid p part is m) ∙ not_own);
        once = all_in (λ (other : ReceivesEntry). other.mesh ≢ mesh_name plan m) before (λ other here same.
            let of = earlier other here in
            let j_within : of.2 < length plan.meshes = received_in plan valid p part is of.2 (in_at part.receives of.0 of.2 of.3) in
            let same_names : mesh_name plan of.2 ≡ mesh_name plan m = ap (λ (entry : ReceivesEntry). entry.mesh) of.4 ∙ same in
            not_among of.2 m (apart_at nat_eq part.receives (each_at _ plan.parts valid.participants.received_once p part is) of.0 n of.2 m of.1 of.3 at) (same_mesh plan valid of.2 m j_within within same_names));
      }

  pub received_fit : FitReceived config
  received_fit = all_mapped (λ (table : PartTable). EachAfter (IsFitReceived config table) table.receives) (part_table plan) plan.parts (λ part inside.
      let at = at_in plan.parts part inside in
      each_after_mapped (IsFitReceived config (part_table plan part)) (received_entry plan) part.receives (λ n m before. received_fits at.0 part at.1 n m before))

  -- what is written and read

  pub on_own_mesh : (p : ℕ) (part : Part) → slice_get plan.parts p ≡ Some part → (e : PlanEntry) → (provides plan p e.mesh && mesh_carries plan e.mesh e.data_id) ≡ true → IsOnOwnMesh config (part_table plan part) (data_entry plan e)
  on_own_mesh p part is e holds =
      let both = and_parts (provides plan p e.mesh) (mesh_carries plan e.mesh e.data_id) holds in
      let on = carried_there plan valid e.mesh e.data_id both.1 in
      record {
        data_declared = data_declared plan valid e.data_id on.data_within;
        mesh_declared = mesh_declared plan valid e.mesh on.mesh_within;
        carried = on.carried;
        own = table_provides plan valid p part is e.mesh on.mesh_within ∙ (sym (provides_is plan valid p part is e.mesh) ∙ both.0);
      }

  pub written_fit : FitWritten config
  written_fit = all_mapped (λ (table : PartTable). All (IsOnOwnMesh config table) table.write) (part_table plan) plan.parts (λ part inside.
      let at = at_in plan.parts part inside in
      all_mapped (IsOnOwnMesh config (part_table plan part)) (data_entry plan) part.writes (λ e here.
      on_own_mesh at.0 part at.1 e (passes_each _ part.writes (each_at _ plan.parts valid.participants.written_on_own_meshes at.0 part at.1) e here)))

  -- mappings

  dimensions_are : (m : ℕ) (mesh : MeshPlan) → slice_get plan.meshes m ≡ Some mesh → dimensions_of config (mesh_name plan m) ≡ pos mesh.dimensions
  dimensions_are m mesh is = ap (λ (o : Option MeshTable). option_map_or (λ (table : MeshTable). table.dimensions) o (pos 0)) (mesh_called_is plan valid m mesh is)

  pub record Joins (p : ℕ) (part : Part) (mapping : MapPlan) : Type 0 where
    pub from_within : mapping.from < length plan.meshes
    pub to_within : mapping.to < length plan.meshes
    pub ends : has_right_ends (part_table plan part) (map_entry plan mapping).direction (mesh_name plan mapping.from) (mesh_name plan mapping.to) ≡ true
    pub dimensions : dimensions_of config (mesh_name plan mapping.from) ≡ dimensions_of config (mesh_name plan mapping.to)

  right_ends : (p : ℕ) (part : Part) → slice_get plan.parts p ≡ Some part → (from to : ℕ) → from < length plan.meshes → to < length plan.meshes → (reading : Bool)
      → cond reading (receives plan p from && provides plan p to) (provides plan p from && receives plan p to) ≡ true
      → has_right_ends (part_table plan part) (cond reading Read Write) (mesh_name plan from) (mesh_name plan to) ≡ true
  right_ends p part is from to from_in to_in true holds =
      let both = and_parts (receives plan p from) (provides plan p to) holds in
      and_from (named.receives (part_table plan part) (mesh_name plan from)) (named.provides (part_table plan part) (mesh_name plan to))
      (table_receives plan valid p part is from from_in ∙ (sym (receives_is plan valid p part is from) ∙ both.0))
      (table_provides plan valid p part is to to_in ∙ (sym (provides_is plan valid p part is to) ∙ both.1))
  right_ends p part is from to from_in to_in false holds =
      let both = and_parts (provides plan p from) (receives plan p to) holds in
      and_from (named.provides (part_table plan part) (mesh_name plan from)) (named.receives (part_table plan part) (mesh_name plan to))
      (table_provides plan valid p part is from from_in ∙ (sym (provides_is plan valid p part is from) ∙ both.0))
      (table_receives plan valid p part is to to_in ∙ (sym (receives_is plan valid p part is to) ∙ both.1))

  pub joins : (p : ℕ) (part : Part) → slice_get plan.parts p ≡ Some part → (mapping : MapPlan) → Contains part.maps mapping → Joins p part mapping
  joins p part is mapping inside =
      let holds : joins_meshes plan p mapping ≡ true = passes_each (joins_meshes plan p) part.maps (each_at _ plan.parts valid.participants.maps_join p part is) mapping inside in
      let parts = and_parts _ _ holds in
      let from = passes_at plan.meshes mapping.from (λ (m : MeshPlan). passes plan.meshes mapping.to (λ (n : MeshPlan). nat_eq m.dimensions n.dimensions)) parts.0 in
      let to = passes_at plan.meshes mapping.to (λ (n : MeshPlan). nat_eq from.0.dimensions n.dimensions) from.2 in
      let from_within : mapping.from < length plan.meshes = slice_get_within plan.meshes mapping.from from.0 from.1 in
      let to_within : mapping.to < length plan.meshes = slice_get_within plan.meshes mapping.to to.0 to.1 in
      record {
        from_within = from_within;
        to_within = to_within;
        ends = right_ends p part is mapping.from mapping.to from_within to_within mapping.reading parts.1;
        dimensions = dimensions_are mapping.from from.0 from.1 ∙ (ap (λ (n : ℕ). pos n) (eqb-true from.0.dimensions to.0.dimensions to.2) ∙ sym (dimensions_are mapping.to to.0 to.1));
      }

  direction_same : (one other : Bool) → same_direction (cond one Read Write) (cond other Read Write) ≡ same_flag one other
  direction_same true true = refl
  direction_same true false = refl
  direction_same false true = refl
  direction_same false false = refl

  -- mappings go the same way where their numbers do
  pub goes_is : (one other : MapPlan) → one.from < length plan.meshes → one.to < length plan.meshes → (reading : Bool) (from to : ℕ) → from < length plan.meshes → to < length plan.meshes
      → goes (cond reading Read Write) (mesh_name plan from) (mesh_name plan to) (map_entry plan one) ≡ (same_flag one.reading reading && (nat_eq one.from from && nat_eq one.to to))
  goes_is one other one_from one_to reading from to from_in to_in =
      ap₂ (λ a b. a && b) (direction_same one.reading reading) (ap₂ (λ a b. a && b) (meshes_tell plan valid one.from from one_from from_in) (meshes_tell plan valid one.to to one_to to_in))

  pub same_way_is : (one other : MapPlan) → (same_flag one.reading other.reading && (nat_eq one.from other.from && nat_eq one.to other.to)) ≡ same_way one other
  same_way_is one other = associates (same_flag one.reading other.reading) (nat_eq one.from other.from) (nat_eq one.to other.to)
    where
      associates : (a b c : Bool) → (a && (b && c)) ≡ (a && b && c)
      associates true b c = refl
      associates false b c = refl

  map_fits : (p : ℕ) (part : Part) → slice_get plan.parts p ≡ Some part → (n : ℕ) (mapping : MapPlan) (before : List MapEntry) → slice_get part.maps n ≡ Some mapping
      → ((entry : MapEntry) → Contains before entry → (k : ℕ) × (k < n) × (other : MapPlan) × (slice_get part.maps k ≡ Some other) × (map_entry plan other ≡ entry))
      → IsFitMap config (part_table plan part) before (map_entry plan mapping)
  map_fits p part is n mapping before at earlier =
      let own = joins p part is mapping (in_at part.maps n mapping at) in
      record {
        from_declared = mesh_declared plan valid mapping.from own.from_within;
        to_declared = mesh_declared plan valid mapping.to own.to_within;
        ends = own.ends;
        dimensions = own.dimensions;
        once = all_in (λ (other : MapEntry). goes (map_entry plan mapping).direction (mesh_name plan mapping.from) (mesh_name plan mapping.to) other ≡ false) before (λ other here.
            let of = earlier other here in
            let its = joins p part is of.2 (in_at part.maps of.0 of.2 of.3) in
            subst (λ (entry : MapEntry). goes (map_entry plan mapping).direction (mesh_name plan mapping.from) (mesh_name plan mapping.to) entry ≡ false) of.4
            (goes_is of.2 mapping its.from_within its.to_within mapping.reading mapping.from mapping.to own.from_within own.to_within
            ∙ (same_way_is of.2 mapping ∙ apart_at same_way part.maps (each_at _ plan.parts valid.participants.maps_once p part is) of.0 n of.2 mapping of.1 of.3 at)));
      }

  pub maps_fit : FitMaps config
  maps_fit = all_mapped (λ (table : PartTable). EachAfter (IsFitMap config table) table.map) (part_table plan) plan.parts (λ part inside.
      let at = at_in plan.parts part inside in
      each_after_mapped (IsFitMap config (part_table plan part)) (map_entry plan) part.maps (λ n mapping before. map_fits at.0 part at.1 n mapping before))

  -- watch-points

  watch_fits : (p : ℕ) (part : Part) → slice_get plan.parts p ≡ Some part → (watch : Watch) → lies_on_own_mesh plan p watch ≡ true → IsFitWatch config (part_table plan part) (watch_entry plan watch)
  watch_fits p part is watch holds =
      let outer = and_parts _ _ holds in
      let inner = and_parts _ _ outer.0 in
      let mesh = passes_at plan.meshes watch.mesh (λ (m : MeshPlan). nat_eq (length watch.at) m.dimensions) inner.1 in
      let within : watch.mesh < length plan.meshes = slice_get_within plan.meshes watch.mesh mesh.0 mesh.1 in
      record {
        mesh_declared = mesh_declared plan valid watch.mesh within;
        own = table_provides plan valid p part is watch.mesh within ∙ (sym (provides_is plan valid p part is watch.mesh) ∙ inner.0);
        coordinates = eqb-true (length watch.at) mesh.0.dimensions mesh.2 ∙ sym (ap unsigned_abs (dimensions_are watch.mesh mesh.0 mesh.1));
      }

  pub watches_fit : FitWatches config
  watches_fit = all_mapped (λ (table : PartTable). All (IsFitWatch config table) table.watch) (part_table plan) plan.parts (λ part inside.
      let at = at_in plan.parts part inside in
      all_mapped (IsFitWatch config (part_table plan part)) (watch_entry plan) part.watches (λ watch here.
      watch_fits at.0 part at.1 watch (passes_each (lies_on_own_mesh plan at.0) part.watches (each_at _ plan.parts valid.participants.watched_on_own_meshes at.0 part at.1) watch here)))

  -- there are no actions

  pub actions_fit : FitActions config
  actions_fit = all_mapped (λ (table : PartTable). EachAfter (IsFitAction config table) table.action) (part_table plan) plan.parts (λ part inside before entry after split. absurd (no_split before entry after split))
    where
      no_split : {X : Type 0} (before : List X) (item : X) (after : List X) → [] ≡ before ++ item ∷ after → ⊥
      no_split [] item after is = cc
      no_split (x ∷ before) item after is = cc

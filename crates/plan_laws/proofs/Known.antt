-- What the names of a valid plan stand for in the configuration that it is written as.
use Rattle.std.proofs.Common.{◌≡◌, ℕ, ◌<◌, true, false, nat_eq, List, [], length, map, find, Option, Some, Contains, refl, ap, sym, ◌∙◌, arith}
use Rattle.std.specs.Prelude.{slice_get, option_map, is_some}
use Rattle.std.specs.List.{list_any}
use Rattle.std.specs.Option.{option_map_or}
use Rattle.std.specs.Str.{bytes_eq}
use Rattle.std.proofs.lemmas.Bool.{ltb-true}
use Rattle.std.proofs.lemmas.List.{length-map}
use Rattle.std.proofs.lemmas.Option.{slice_get_within, get_or_from_slice_get}
use Rattle.cpl_plan.specs.declared.parts.PlanParts.{PlanParts}
use Rattle.cpl_plan.specs.declared.parts.Part.{Part}
use Rattle.cpl_plan.specs.declared.parts.MeshPlan.{MeshPlan}
use Rattle.cpl_plan.specs.declared.parts.DataPlan.{DataPlan}
use Rattle.cpl_plan.specs.PlanWords.{is_among, provides, receives, mesh_carries}
use Rattle.cpl_plan.specs.PlanTests.{part_names, mesh_names, data_names, is_mesh}
use Rattle.cpl_plan.specs.ValidPlan.{IsValidPlan}
use Rattle.cpl_plan.proofs.Readings.{each_at, passes_at, among_in, there}
use Rattle.cpl_plan.proofs.Owners.{owner_alone}
use Rattle.cpl_config.specs.declared.config.DataTable.{DataTable}
use Rattle.cpl_config.specs.declared.config.MeshTable.{MeshTable}
use Rattle.cpl_config.specs.declared.config.PartTable.{PartTable}
use Rattle.cpl_config.specs.declared.config.ReceivesEntry.{ReceivesEntry}
use Rattle.mesh_rules.specs.Named.{is_data, is_participant, data_called, mesh_called, participant_called, carries}
use Rattle.mesh_rules.specs.Named as named
use Rattle.plan_laws.specs.PlanNames.{part_name, mesh_name, data_name}
use Rattle.plan_laws.specs.PlanTables.{data_table, mesh_table, part_table, received_entry}
use Rattle.plan_laws.specs.ConfigOfPlan.{config_of_plan}
use Rattle.plan_laws.proofs.Lists.{at_mapped, passes_each, find_mapped, any_mapped}
use Rattle.plan_laws.proofs.Distinct.{names_tell, among_names, found_by_name, same_place}

module _ (plan : PlanParts) (valid : IsValidPlan plan) where
  -- names tell numbers apart

  pub part_in : (p : ℕ) (part : Part) → slice_get plan.parts p ≡ Some part → p < length plan.parts
  part_in p part is = slice_get_within plan.parts p part is

  parts_named : (p : ℕ) → p < length plan.parts → p < length (part_names plan)
  parts_named p within = omega (arith, within, length-map plan.parts (λ (part : Part). part.name))

  meshes_named : (m : ℕ) → m < length plan.meshes → m < length (mesh_names plan)
  meshes_named m within = omega (arith, within, length-map plan.meshes (λ (mesh : MeshPlan). mesh.name))

  data_named : (d : ℕ) → d < length plan.data_list → d < length (data_names plan)
  data_named d within = omega (arith, within, length-map plan.data_list (λ (item : DataPlan). item.name))

  pub parts_tell : (a b : ℕ) → a < length plan.parts → b < length plan.parts → bytes_eq (part_name plan a) (part_name plan b) ≡ nat_eq a b
  parts_tell a b one other = names_tell (part_names plan) valid.sizes.parts_named_once a b (parts_named a one) (parts_named b other)

  pub meshes_tell : (a b : ℕ) → a < length plan.meshes → b < length plan.meshes → bytes_eq (mesh_name plan a) (mesh_name plan b) ≡ nat_eq a b
  meshes_tell a b one other = names_tell (mesh_names plan) valid.sizes.meshes_named_once a b (meshes_named a one) (meshes_named b other)

  pub data_tell : (a b : ℕ) → a < length plan.data_list → b < length plan.data_list → bytes_eq (data_name plan a) (data_name plan b) ≡ nat_eq a b
  data_tell a b one other = names_tell (data_names plan) valid.sizes.data_named_once a b (data_named a one) (data_named b other)

  -- data by their names among others
  pub data_among : (d : ℕ) (ds : List ℕ) → d < length plan.data_list → ((k : ℕ) → Contains ds k → k < length plan.data_list) → named.is_among (data_name plan d) (map (data_name plan) ds) ≡ is_among d ds
  data_among d ds within all_within = among_names (data_names plan) valid.sizes.data_named_once d ds (data_named d within) (λ k inside. data_named k (all_within k inside))

  pub same_part : (a b : ℕ) → a < length plan.parts → b < length plan.parts → part_name plan a ≡ part_name plan b → a ≡ b
  same_part a b one other same = same_place (part_names plan) valid.sizes.parts_named_once a b (parts_named a one) (parts_named b other) same

  pub same_mesh : (a b : ℕ) → a < length plan.meshes → b < length plan.meshes → mesh_name plan a ≡ mesh_name plan b → a ≡ b
  same_mesh a b one other same = same_place (mesh_names plan) valid.sizes.meshes_named_once a b (meshes_named a one) (meshes_named b other) same

  pub same_data : (a b : ℕ) → a < length plan.data_list → b < length plan.data_list → data_name plan a ≡ data_name plan b → a ≡ b
  same_data a b one other same = same_place (data_names plan) valid.sizes.data_named_once a b (data_named a one) (data_named b other) same

  pub part_name_is : (p : ℕ) (part : Part) → slice_get plan.parts p ≡ Some part → part_name plan p ≡ part.name
  part_name_is p part is = get_or_from_slice_get (part_names plan) p part.name [] (at_mapped (λ (x : Part). x.name) plan.parts p part is)

  pub mesh_name_is : (m : ℕ) (mesh : MeshPlan) → slice_get plan.meshes m ≡ Some mesh → mesh_name plan m ≡ mesh.name
  mesh_name_is m mesh is = get_or_from_slice_get (mesh_names plan) m mesh.name [] (at_mapped (λ (x : MeshPlan). x.name) plan.meshes m mesh is)

  pub data_name_is : (d : ℕ) (item : DataPlan) → slice_get plan.data_list d ≡ Some item → data_name plan d ≡ item.name
  data_name_is d item is = get_or_from_slice_get (data_names plan) d item.name [] (at_mapped (λ (x : DataPlan). x.name) plan.data_list d item is)

  -- the table of a name

  pub part_called : (p : ℕ) (part : Part) → slice_get plan.parts p ≡ Some part → participant_called (config_of_plan plan) (part_name plan p) ≡ Some (part_table plan part)
  part_called p part is =
      ap (λ (name : List ℕ). find (λ (table : PartTable). bytes_eq table.name name) (map (part_table plan) plan.parts)) (part_name_is p part is)
      ∙ (find_mapped (λ (table : PartTable). bytes_eq table.name part.name) (part_table plan) plan.parts
      ∙ ap (λ (o : Option Part). option_map (part_table plan) o) (found_by_name (λ (x : Part). x.name) plan.parts valid.sizes.parts_named_once p part is))

  pub mesh_called_is : (m : ℕ) (mesh : MeshPlan) → slice_get plan.meshes m ≡ Some mesh → mesh_called (config_of_plan plan) (mesh_name plan m) ≡ Some (mesh_table plan mesh)
  mesh_called_is m mesh is =
      ap (λ (name : List ℕ). find (λ (table : MeshTable). bytes_eq table.name name) (map (mesh_table plan) plan.meshes)) (mesh_name_is m mesh is)
      ∙ (find_mapped (λ (table : MeshTable). bytes_eq table.name mesh.name) (mesh_table plan) plan.meshes
      ∙ ap (λ (o : Option MeshPlan). option_map (mesh_table plan) o) (found_by_name (λ (x : MeshPlan). x.name) plan.meshes valid.sizes.meshes_named_once m mesh is))

  pub data_called_is : (d : ℕ) (item : DataPlan) → slice_get plan.data_list d ≡ Some item → data_called (config_of_plan plan) (data_name plan d) ≡ Some (data_table item)
  data_called_is d item is =
      ap (λ (name : List ℕ). find (λ (table : DataTable). bytes_eq table.name name) (map data_table plan.data_list)) (data_name_is d item is)
      ∙ (find_mapped (λ (table : DataTable). bytes_eq table.name item.name) data_table plan.data_list
      ∙ ap (λ (o : Option DataPlan). option_map data_table o) (found_by_name (λ (x : DataPlan). x.name) plan.data_list valid.sizes.data_named_once d item is))

  pub part_declared : (p : ℕ) → p < length plan.parts → is_participant (config_of_plan plan) (part_name plan p) ≡ true
  part_declared p within = let at = there plan.parts p within in ap (λ (o : Option PartTable). is_some o) (part_called p at.0 at.1)

  pub mesh_declared : (m : ℕ) → m < length plan.meshes → named.is_mesh (config_of_plan plan) (mesh_name plan m) ≡ true
  mesh_declared m within = let at = there plan.meshes m within in ap (λ (o : Option MeshTable). is_some o) (mesh_called_is m at.0 at.1)

  pub data_declared : (d : ℕ) → d < length plan.data_list → is_data (config_of_plan plan) (data_name plan d) ≡ true
  data_declared d within = let at = there plan.data_list d within in ap (λ (o : Option DataTable). is_some o) (data_called_is d at.0 at.1)

  -- meshes of a participant

  pub provided_in : (p : ℕ) (part : Part) → slice_get plan.parts p ≡ Some part → (m : ℕ) → Contains part.provides m → m < length plan.meshes
  provided_in p part is m inside = ltb-true m (length plan.meshes) (passes_each (is_mesh plan) part.provides (each_at _ plan.parts valid.participants.provided_declared p part is) m inside)

  pub received_in : (p : ℕ) (part : Part) → slice_get plan.parts p ≡ Some part → (m : ℕ) → Contains part.receives m → m < length plan.meshes
  received_in p part is m inside = ltb-true m (length plan.meshes) (passes_each (is_mesh plan) part.receives (each_at _ plan.parts valid.participants.received_declared p part is) m inside)

  pub provides_is : (p : ℕ) (part : Part) → slice_get plan.parts p ≡ Some part → (m : ℕ) → provides plan p m ≡ is_among m part.provides
  provides_is p part is m = ap (λ (o : Option Part). option_map_or (λ (q : Part). is_among m q.provides) o false) is

  pub receives_is : (p : ℕ) (part : Part) → slice_get plan.parts p ≡ Some part → (m : ℕ) → receives plan p m ≡ is_among m part.receives
  receives_is p part is m = ap (λ (o : Option Part). option_map_or (λ (q : Part). is_among m q.receives) o false) is

  pub table_provides : (p : ℕ) (part : Part) → slice_get plan.parts p ≡ Some part → (m : ℕ) → m < length plan.meshes → named.provides (part_table plan part) (mesh_name plan m) ≡ is_among m part.provides
  table_provides p part is m within = among_names (mesh_names plan) valid.sizes.meshes_named_once m part.provides (meshes_named m within) (λ k inside. meshes_named k (provided_in p part is k inside))

  pub table_receives : (p : ℕ) (part : Part) → slice_get plan.parts p ≡ Some part → (m : ℕ) → m < length plan.meshes → named.receives (part_table plan part) (mesh_name plan m) ≡ is_among m part.receives
  table_receives p part is m within =
      any_mapped (λ (entry : ReceivesEntry). bytes_eq (mesh_name plan m) entry.mesh) (received_entry plan) part.receives
      ∙ (sym (any_mapped (bytes_eq (mesh_name plan m)) (mesh_name plan) part.receives)
      ∙ among_names (mesh_names plan) valid.sizes.meshes_named_once m part.receives (meshes_named m within) (λ k inside. meshes_named k (received_in p part is k inside)))

  -- who provides a mesh does so in the configuration
  pub provides_there : (p m : ℕ) → provides plan p m ≡ true → (part : Part) × (slice_get plan.parts p ≡ Some part) × (m < length plan.meshes) × (named.provides (part_table plan part) (mesh_name plan m) ≡ true)
  provides_there p m holds =
      let at = passes_at plan.parts p (λ (q : Part). is_among m q.provides) holds in
      let within : m < length plan.meshes = provided_in p at.0 at.1 m (among_in m at.0.provides at.2) in
      (at.0, at.1, within, table_provides p at.0 at.1 m within ∙ at.2)

  pub receives_there : (p m : ℕ) → receives plan p m ≡ true → (part : Part) × (slice_get plan.parts p ≡ Some part) × (m < length plan.meshes) × (named.receives (part_table plan part) (mesh_name plan m) ≡ true)
  receives_there p m holds =
      let at = passes_at plan.parts p (λ (q : Part). is_among m q.receives) holds in
      let within : m < length plan.meshes = received_in p at.0 at.1 m (among_in m at.0.receives at.2) in
      (at.0, at.1, within, table_receives p at.0 at.1 m within ∙ at.2)

  -- data on a mesh

  pub carried_in : (m : ℕ) (mesh : MeshPlan) → slice_get plan.meshes m ≡ Some mesh → (d : ℕ) → Contains mesh.data_list d → d < length plan.data_list
  carried_in m mesh is d inside = ltb-true d (length plan.data_list) (passes_each _ mesh.data_list (each_at _ plan.meshes valid.meshes.data_declared m mesh is) d inside)

  pub record IsCarried (m d : ℕ) : Type 0 where
    pub mesh : MeshPlan
    pub at : slice_get plan.meshes m ≡ Some mesh
    pub mesh_within : m < length plan.meshes
    pub data_within : d < length plan.data_list
    pub carried : carries (config_of_plan plan) (mesh_name plan m) (data_name plan d) ≡ true

  pub carried_there : (m d : ℕ) → mesh_carries plan m d ≡ true → IsCarried m d
  carried_there m d holds =
      let at = passes_at plan.meshes m (λ (mesh : MeshPlan). is_among d mesh.data_list) holds in
      let within : d < length plan.data_list = carried_in m at.0 at.1 d (among_in d at.0.data_list at.2) in
      let listed : list_any (bytes_eq (data_name plan d)) (map (data_name plan) at.0.data_list) ≡ true =
      among_names (data_names plan) valid.sizes.data_named_once d at.0.data_list (data_named d within) (λ k inside. data_named k (carried_in m at.0 at.1 k inside)) ∙ at.2 in
      record {
        mesh = at.0;
        at = at.1;
        mesh_within = slice_get_within plan.meshes m at.0 at.1;
        data_within = within;
        carried = ap (λ (o : Option MeshTable). option_map_or (λ (table : MeshTable). named.is_among (data_name plan d) table.data_list) o false) (mesh_called_is m at.0 at.1) ∙ listed;
      }

  -- the one that provides a mesh

  pub record HasOwner (m : ℕ) (mesh : MeshPlan) : Type 0 where
    pub owner : Part
    pub at : slice_get plan.parts mesh.owner ≡ Some owner
    pub provided : is_among m owner.provides ≡ true
    pub alone : (n : ℕ) (part : Part) → slice_get plan.parts n ≡ Some part → is_among m part.provides ≡ true → n ≡ mesh.owner

  pub has_owner : (m : ℕ) (mesh : MeshPlan) → slice_get plan.meshes m ≡ Some mesh → HasOwner m mesh
  has_owner m mesh is =
      let holds : provides plan mesh.owner m ≡ true = (owner_alone plan valid m mesh is mesh.owner).1 refl in
      let at = passes_at plan.parts mesh.owner (λ (q : Part). is_among m q.provides) holds in
      record {
        owner = at.0;
        at = at.1;
        provided = at.2;
        alone = λ n part there_is among. (owner_alone plan valid m mesh is n).0 (provides_is n part there_is m ∙ among);
      }

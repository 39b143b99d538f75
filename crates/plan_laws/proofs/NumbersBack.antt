-- The names of a valid plan, read back as numbers; its data and meshes read back.
use Rattle.std.proofs.Common.{◌≡◌, ℕ, ◌<◌, Bool, true, false, cond, List, length, map, Option, Some, refl, ap, ap₂, sym, subst, ◌∙◌, arith}
use Rattle.std.specs.Prelude.{slice_get, unwrap_or}
use Rattle.std.specs.Str.{bytes_eq}
use Rattle.std.proofs.lemmas.Bool.{ne_eqb, false_from_ne_true}
use Rattle.std.proofs.lemmas.Option.{slice_get_within}
use Rattle.cpl_plan.specs.declared.parts.PlanParts.{PlanParts}
use Rattle.cpl_plan.specs.declared.parts.Part.{Part}
use Rattle.cpl_plan.specs.declared.parts.MeshPlan.{MeshPlan}
use Rattle.cpl_plan.specs.PlanWords.{is_among}
use Rattle.cpl_plan.specs.ValidPlan.{IsValidPlan}
use Rattle.cpl_plan.proofs.Readings.{there}
use Rattle.cpl_config.specs.declared.kind_words.DataKind.TheVariants.{Scalar, Vector}
use Rattle.cpl_config.specs.declared.config.Config.{Config}
use Rattle.cpl_config.specs.declared.config.DataTable.{DataTable}
use Rattle.cpl_config.specs.declared.config.MeshTable.{MeshTable}
use Rattle.cpl_config.specs.declared.config.PartTable.{PartTable}
use Rattle.mesh_rules.specs.Named as named
use Rattle.config_laws.proofs.Truths.{text_same}
use Rattle.scheme_parts.specs.NumbersOf.{data_number, mesh_number}
use Rattle.plan_build.specs.DataOf.{data_of, is_vector}
use Rattle.plan_build.specs.MeshOf.{mesh_of, owner_of}
use Rattle.plan_laws.specs.PlanNames.{mesh_name, data_name}
use Rattle.plan_laws.specs.PlanTables.{data_table, mesh_table, part_table}
use Rattle.plan_laws.specs.ConfigOfPlan.{config_of_plan}
use Rattle.plan_laws.proofs.Lists.{at_in, at_mapped, from_mapped}
use Rattle.plan_laws.proofs.Positions.{position_at, map_back}
use Rattle.plan_laws.proofs.Known.{data_tell, meshes_tell, data_name_is, mesh_name_is, carried_in, table_provides, has_owner}

module _ (plan : PlanParts) (valid : IsValidPlan plan) where
  abbrev config : Config
  config = config_of_plan plan

  pub data_back : (d : ℕ) → d < length plan.data_list → data_number config (data_name plan d) ≡ d
  data_back d within =
      let item = there plan.data_list d within in
      let test : DataTable → Bool = λ table. bytes_eq table.name (data_name plan d) in
      ap (λ (o : Option ℕ). unwrap_or o 0)
      (position_at test (map data_table plan.data_list) d (data_table item.0) (at_mapped data_table plan.data_list d item.0 item.1)
      (text_same item.0.name (data_name plan d) (sym (data_name_is plan valid d item.0 item.1)))
      (λ k table below table_at.
      let from = from_mapped data_table plan.data_list k table table_at in
      let k_in : k < length plan.data_list = slice_get_within plan.data_list k from.0 from.1 in
      subst (λ (t : DataTable). test t ≡ false) from.2
      (ap (λ (name : List ℕ). bytes_eq name (data_name plan d)) (sym (data_name_is plan valid k from.0 from.1)) ∙ (data_tell plan valid k d k_in within ∙ ne_eqb k d (λ same. omega (arith, same, below))))))

  pub mesh_back : (m : ℕ) → m < length plan.meshes → mesh_number config (mesh_name plan m) ≡ m
  mesh_back m within =
      let mesh = there plan.meshes m within in
      let test : MeshTable → Bool = λ table. bytes_eq table.name (mesh_name plan m) in
      ap (λ (o : Option ℕ). unwrap_or o 0)
      (position_at test (map (mesh_table plan) plan.meshes) m (mesh_table plan mesh.0) (at_mapped (mesh_table plan) plan.meshes m mesh.0 mesh.1)
      (text_same mesh.0.name (mesh_name plan m) (sym (mesh_name_is plan valid m mesh.0 mesh.1)))
      (λ k table below table_at.
      let from = from_mapped (mesh_table plan) plan.meshes k table table_at in
      let k_in : k < length plan.meshes = slice_get_within plan.meshes k from.0 from.1 in
      subst (λ (t : MeshTable). test t ≡ false) from.2
      (ap (λ (name : List ℕ). bytes_eq name (mesh_name plan m)) (sym (mesh_name_is plan valid k from.0 from.1)) ∙ (meshes_tell plan valid k m k_in within ∙ ne_eqb k m (λ same. omega (arith, same, below))))))

  -- data

  kind_back : (vector : Bool) → is_vector (cond vector Vector Scalar) ≡ vector
  kind_back true = refl
  kind_back false = refl

  pub data_list_back : map data_of (map data_table plan.data_list) ≡ plan.data_list
  data_list_back = map_back data_of data_table plan.data_list (λ item inside. ap (λ (vector : Bool). record item { vector = vector }) (kind_back item.vector))

  -- meshes

  owner_back : (m : ℕ) (mesh : MeshPlan) → slice_get plan.meshes m ≡ Some mesh → owner_of config mesh.name ≡ mesh.owner
  owner_back m mesh is =
      let has = has_owner plan valid m mesh is in
      let within : m < length plan.meshes = slice_get_within plan.meshes m mesh is in
      let test : PartTable → Bool = λ table. named.provides table mesh.name in
      let told : (n : ℕ) (part : Part) → slice_get plan.parts n ≡ Some part → test (part_table plan part) ≡ is_among m part.provides =
      λ n part at. ap (named.provides (part_table plan part)) (sym (mesh_name_is plan valid m mesh is)) ∙ table_provides plan valid n part at m within in
      ap (λ (o : Option ℕ). unwrap_or o 0)
      (position_at test (map (part_table plan) plan.parts) mesh.owner (part_table plan has.owner) (at_mapped (part_table plan) plan.parts mesh.owner has.owner has.at)
      (told mesh.owner has.owner has.at ∙ has.provided)
      (λ k table below table_at.
      let from = from_mapped (part_table plan) plan.parts k table table_at in
      subst (λ (t : PartTable). test t ≡ false) from.2
      (told k from.0 from.1 ∙ false_from_ne_true (is_among m from.0.provides) (λ also. let same : k ≡ mesh.owner = has.alone k from.0 from.1 also in omega (arith, same, below)))))

  mesh_is_back : (m : ℕ) (mesh : MeshPlan) → slice_get plan.meshes m ≡ Some mesh → mesh_of config (mesh_table plan mesh) ≡ mesh
  mesh_is_back m mesh is =
      let items : map (data_number config) (map (data_name plan) mesh.data_list) ≡ mesh.data_list =
      map_back (data_number config) (data_name plan) mesh.data_list (λ d inside. data_back d (carried_in plan valid m mesh is d inside)) in
      ap₂ (λ (owner : ℕ) (ds : List ℕ). record mesh { owner = owner; data_list = ds }) (owner_back m mesh is) items

  pub meshes_back : map (mesh_of config) (map (mesh_table plan) plan.meshes) ≡ plan.meshes
  meshes_back = map_back (mesh_of config) (mesh_table plan) plan.meshes (λ mesh inside. let at = at_in plan.meshes mesh inside in mesh_is_back at.0 mesh at.1)

-- Meshes and data of the plan of an accepted configuration.
use Rattle.std.proofs.Common.{◌≡◌, ℕ, zero, suc, ◌<◌, ◌≤◌, Bool, true, ◌&&◌, ◌||◌, nat_eq, nat_le, List, [], ◌∷◌, length, map, Option, Some, refl, ap, sym, ◌∙◌, arith}
use Rattle.std.specs.Prelude.{slice_get, unsigned_abs, unwrap_or, pos, negsuc, ℤ, nat_lt}
use Rattle.std.specs.List.{list_all}
use Rattle.std.proofs.lemmas.Bool.{and_parts, eq-eqb, lt-ltb, le-leb, leb-true, false≢true}
use Rattle.std.proofs.lemmas.Option.{slice_get_within}
use Rattle.std.proofs.lemmas.List.{length-map}
use Rattle.std.proofs.lemmas.List.Elements.{All-weaker}
use Rattle.cpl_tables.specs.Values.{is_in_range}
use Rattle.cpl_tables.specs.declared.shapes.Range.TheVariants.{Between}
use Rattle.cpl_config.specs.declared.config.Config.{Config}
use Rattle.cpl_config.specs.declared.config.MeshTable.{MeshTable}
use Rattle.cpl_config.specs.declared.config.PartTable.{PartTable}
use Rattle.cpl_config.specs.SoundConfig.{IsSoundConfig, IsSoundData, IsSoundMesh}
use Rattle.cpl_plan.specs.PlanWords.{are_only, are_distinct, providers, provides}
use Rattle.cpl_plan.specs.ValidPlan.{HasMeshes}
use Rattle.cpl_plan.proofs.Readings.{there}
use Rattle.plan_order.specs.declared.node.Node.{Node}
use Rattle.mesh_rules.specs.Named.{is_mesh}
use Rattle.mesh_rules.specs.Named as named
use Rattle.config_rules.specs.ConfigRules.{IsAccepted}
use Rattle.config_laws.specs.FitMeshes.{IsFitMesh}
use Rattle.config_laws.proofs.WholeFacts.{meshes}
use Rattle.scheme_parts.specs.NumbersOf.{data_number, mesh_number}
use Rattle.scheme_parts.proofs.Tables.{all_at, each_map, all_map}
use Rattle.scheme_parts.proofs.NamedTables.{HasTable, within, distinct_same, place_is_number}
use Rattle.scheme_parts.proofs.Ranges.{IsOnlyPlace, only_place, only_number}
use Rattle.plan_build.specs.DataOf.{data_of}
use Rattle.plan_build.specs.MeshOf.{mesh_of, owner_of}
use Rattle.plan_build.specs.PartOf.{part_of}
use Rattle.plan_build.specs.PlanOf.{plan_of}
use Rattle.plan_build.proofs.PlanReadings.{data_name, mesh_name, data_all, mesh_itself, provides_is, carried_declared}

two_or_three : (n : ℕ) → 2 ≤ n → n ≤ 3 → (nat_eq n 2 || nat_eq n 3) ≡ true
two_or_three zero low high = absurd (omega (arith, low))
two_or_three (suc zero) low high = absurd (omega (arith, low))
two_or_three (suc (suc zero)) low high = refl
two_or_three (suc (suc (suc zero))) low high = refl
two_or_three (suc (suc (suc (suc n)))) low high = absurd (omega (arith, high))

pub in_range : (least most : ℕ) (z : ℤ) → is_in_range (Between least most) z ≡ true → (least ≤ unsigned_abs z) × (unsigned_abs z ≤ most)
in_range least most (pos n) is = let parts = and_parts (nat_le least n) (nat_le n most) is in (leb-true least n parts.0, leb-true n most parts.1)
in_range least most (negsuc n) is = absurd (false≢true is)

module _ (config : Config) (sound : IsSoundConfig config) (accepted : IsAccepted config) (nodes : List Node) where
  one_provider : (m : ℕ) (table : MeshTable) → slice_get config.mesh m ≡ Some table → are_only (owner_of config table.name) (providers (plan_of config nodes) m) ≡ true
  one_provider m table at =
      let fit = all_at (IsFitMesh config) config.mesh m table (meshes config accepted) at in
      let test : PartTable → Bool = λ part. named.provides part table.name in
      let only : IsOnlyPlace test config.participant fit.owner = only_place test config.participant fit.owner fit.owned in
      let declared : is_mesh config table.name ≡ true = mesh_itself config m table at in
      let number : mesh_number config table.name ≡ m = place_is_number mesh_name config.mesh m table sound.mesh_once at in
      let same : (p : ℕ) (part : PartTable) → slice_get config.participant p ≡ Some part → provides (plan_of config nodes) p m ≡ test part =
      λ p part is. ap (λ (k : ℕ). provides (plan_of config nodes) p k) (sym number) ∙ provides_is config accepted nodes p part table.name is declared in
      let long : length (map (part_of config) config.participant) ≡ length config.participant = length-map config.participant (part_of config) in
      let owner : owner_of config table.name ≡ only.place = ap (λ (o : Option ℕ). unwrap_or o 0) only.placed in
      let few : only.place < length (map (part_of config) config.participant) = omega (arith, long, slice_get_within config.participant only.place fit.owner only.at) in
      let listed : providers (plan_of config nodes) m ≡ only.place ∷ [] =
      only_number (λ p. provides (plan_of config nodes) p m) (length (map (part_of config) config.participant)) only.place few (same only.place fit.owner only.at ∙ fit.owned.passes)
      (λ j less holds. let item = there config.participant j (omega (arith, less, long)) in only.only j item.0 item.1 (sym (same j item.0 item.1) ∙ holds)) in
      let equal : nat_eq (owner_of config table.name) only.place ≡ true = eq-eqb (owner_of config table.name) only.place owner in
      ap (are_only (owner_of config table.name)) listed ∙ ap (λ b. b && true) equal

  pub mesh_facts : HasMeshes (plan_of config nodes)
  mesh_facts = record {
    one_provider = each_map (mesh_of config) config.mesh (λ number mesh. are_only mesh.owner (providers (plan_of config nodes) number)) one_provider;
    dimensions = each_map (mesh_of config) config.mesh (λ _ mesh. nat_eq mesh.dimensions 2 || nat_eq mesh.dimensions 3)
        (λ m table at. let range = in_range 2 3 table.dimensions (all_at IsSoundMesh config.mesh m table sound.meshes at).dimensions in two_or_three (unsigned_abs table.dimensions) range.0 range.1);
    data_declared = each_map (mesh_of config) config.mesh (λ _ mesh. list_all (λ d. nat_lt d (length (map data_of config.data_list))) mesh.data_list)
        (λ m table at. all_map (data_number config) (λ d. nat_lt d (length (map data_of config.data_list))) table.data_list
        (All-weaker (HasTable data_name config.data_list) (λ name. nat_lt (data_number config name) (length (map data_of config.data_list)) ≡ true)
        (λ name has. lt-ltb (data_number config name) (length (map data_of config.data_list)) (omega (arith, within data_name config.data_list name has, length-map config.data_list data_of)))
        table.data_list (data_all config table.data_list (carried_declared config accepted m table at))));
    data_once = each_map (mesh_of config) config.mesh (λ _ mesh. are_distinct nat_eq mesh.data_list)
        (λ m table at. distinct_same data_name config.data_list table.data_list (data_all config table.data_list (carried_declared config accepted m table at))
        ∙ (all_at IsSoundMesh config.mesh m table sound.meshes at).data_names.once);
    degrees = each_map data_of config.data_list (λ _ item. nat_le item.degree 1)
        (λ d table at. le-leb (unsigned_abs table.degree) 1 (in_range 0 1 table.degree (all_at IsSoundData config.data_list d table sound.data_tables at).degree).1);
  }

-- A valid plan, written as a configuration, is sound and accepted.
use Rattle.std.proofs.Common.{◌≡◌, ℕ, ◌^◌, ◌≤◌, length, IfSome, refl, ap, ◌∙◌, arith}
use Rattle.std.specs.List.{enumerate_from}
use Rattle.std.proofs.lemmas.List.{length-map}
use Rattle.cpl_plan.specs.declared.parts.PlanParts.{PlanParts}
use Rattle.cpl_plan.specs.declared.parts.Scheme.{Scheme}
use Rattle.cpl_plan.specs.declared.parts.WindowMethod.{WindowMethod}
use Rattle.cpl_plan.specs.declared.parts.WindowMethod.TheVariants.{Fixed, FirstParticipant}
use Rattle.cpl_plan.specs.PlanTests.{part_names, mesh_names, data_names}
use Rattle.cpl_plan.specs.ValidPlan.{IsValidPlan}
use Rattle.cpl_tables.specs.Values.{are_distinct_texts}
use Rattle.cpl_tables.specs.declared.shapes.Range.TheVariants.{Between}
use Rattle.cpl_config.specs.declared.config.Config.{Config}
use Rattle.cpl_config.specs.declared.config.DataTable.{DataTable}
use Rattle.cpl_config.specs.declared.config.MeshTable.{MeshTable}
use Rattle.cpl_config.specs.declared.config.PartTable.{PartTable}
use Rattle.cpl_config.specs.SoundConfig.{IsIn, IsSoundConfig}
use Rattle.config_rules.specs.ConfigRules.{IsAccepted}
use Rattle.config_laws.specs.FitConfig.{FitsTogether}
use Rattle.config_laws.proofs.AllFits.{accepted}
use Rattle.plan_laws.specs.PlanTables.{data_table, mesh_table, part_table}
use Rattle.plan_laws.specs.PlanSchemes.{scheme_table}
use Rattle.plan_laws.specs.ConfigOfPlan.{windows_told, config_of_plan}
use Rattle.plan_laws.proofs.Lists.{length_enumerated, map_twice}
use Rattle.plan_laws.proofs.Distinct.{distinct_texts}
use Rattle.plan_laws.proofs.MeshesFit.{meshes_fit, received_fit, written_fit, maps_fit, watches_fit, actions_fit}
use Rattle.plan_laws.proofs.PartsFit.{participants_fit}
use Rattle.plan_laws.proofs.EntriesFit.{read_fit, written_once}
use Rattle.plan_laws.proofs.ExchangesFit.{exchanges_fit}
use Rattle.plan_laws.proofs.MeasuresFit.{measures_fit, accelerations_fit}
use Rattle.plan_laws.proofs.SchemesFit.{schemes_fit}
use Rattle.plan_laws.proofs.WindowsFit.{has_end, windows_fit}
use Rattle.plan_laws.proofs.SoundParts.{between, sound_data, sound_meshes, sound_participants, few_watches, watches_once}
use Rattle.plan_laws.proofs.SoundSchemes.{sound_schemes, few_exchanges}

pub fits_together : (plan : PlanParts) → IsValidPlan plan → FitsTogether (config_of_plan plan)
fits_together plan valid = record {
  end = has_end plan valid;
  meshes = meshes_fit plan valid;
  participants = participants_fit plan valid;
  received = received_fit plan valid;
  written = written_fit plan valid;
  written_once = written_once plan valid;
  read = read_fit plan valid;
  mapped = maps_fit plan valid;
  watched = watches_fit plan valid;
  acted = actions_fit plan valid;
  schemes = schemes_fit plan valid;
  exchanged = exchanges_fit plan valid;
  measured = measures_fit plan valid;
  accelerated = accelerations_fit plan valid;
  windows = windows_fit plan valid;
}

pub is_accepted : (plan : PlanParts) → IsValidPlan plan → IsAccepted (config_of_plan plan)
is_accepted plan valid = accepted (config_of_plan plan) (fits_together plan valid)

windows_in : (method : WindowMethod) (n : ℕ) → 1 ≤ n → n ≤ 10 ^ 6 → IfSome (windows_told method n) (IsIn (Between 1 (10 ^ 6)))
windows_in Fixed n some few = tt
windows_in FirstParticipant n some few = between 1 (10 ^ 6) n some few

pub is_sound : (plan : PlanParts) → IsValidPlan plan → IsSoundConfig (config_of_plan plan)
is_sound plan valid =
    let config : Config = config_of_plan plan in
    let data_count : length plan.data_list ≤ 64 = valid.sizes.data_items in
    let mesh_count : length plan.meshes ≤ 64 = valid.sizes.meshes in
    let some_parts : 1 ≤ length plan.parts = valid.sizes.parts.0 in
    let few_parts : length plan.parts ≤ 64 = valid.sizes.parts.1 in
    let some_schemes : 1 ≤ length plan.schemes = valid.sizes.schemes.0 in
    let few_schemes : length plan.schemes ≤ 64 = valid.sizes.schemes.1 in
    let schemes : length config.scheme ≡ length plan.schemes = length-map (enumerate_from 0 plan.schemes) (λ (entry : ℕ × Scheme). scheme_table plan entry.0 entry.1) ∙ length_enumerated 0 plan.schemes in
    record {
      format = refl;
      plain = λ (one : _). cc;
      window = between 1 (10 ^ 9) plan.window valid.sizes.window.0 valid.sizes.window.1;
      max_time = between 1 (10 ^ 15) plan.end_time valid.sizes.end_time.0 valid.sizes.end_time.1;
      max_windows = windows_in plan.method plan.most_windows valid.sizes.windows.0 valid.sizes.windows.1;
      data_tables = sound_data plan valid;
      few_data = omega (arith, data_count, length-map plan.data_list data_table);
      data_once = ap are_distinct_texts (map_twice (λ (table : DataTable). table.name) data_table plan.data_list) ∙ (distinct_texts (data_names plan) ∙ valid.sizes.data_named_once);
      meshes = sound_meshes plan valid;
      few_meshes = omega (arith, mesh_count, length-map plan.meshes (mesh_table plan));
      mesh_once = ap are_distinct_texts (map_twice (λ (table : MeshTable). table.name) (mesh_table plan) plan.meshes) ∙ (distinct_texts (mesh_names plan) ∙ valid.sizes.meshes_named_once);
      participants = sound_participants plan valid;
      a_participant = omega (arith, some_parts, length-map plan.parts (part_table plan));
      few_participants = omega (arith, few_parts, length-map plan.parts (part_table plan));
      participant_once = ap are_distinct_texts (map_twice (λ (table : PartTable). table.name) (part_table plan) plan.parts) ∙ (distinct_texts (part_names plan) ∙ valid.sizes.parts_named_once);
      schemes = sound_schemes plan valid;
      a_scheme = omega (arith, some_schemes, schemes);
      few_schemes = omega (arith, few_schemes, schemes);
      few_watches = few_watches plan valid;
      watch_once = watches_once plan valid;
      few_exchanges = few_exchanges plan valid;
    }

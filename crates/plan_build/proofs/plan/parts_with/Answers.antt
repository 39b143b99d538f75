use Rattle.std.proofs.Common.{List, All, map, ap, sym, subst, ◌∙◌}
use Rattle.cpl_config.specs.declared.config.Config.{Config}
use Rattle.cpl_config.specs.declared.config.DataTable.{DataTable}
use Rattle.cpl_config.specs.declared.config.MeshTable.{MeshTable}
use Rattle.cpl_config.specs.SoundConfig.{IsSoundData, IsSoundMesh}
use Rattle.config_laws.specs.FitNumbers.{HasTime, end_ticks}
use Rattle.plan_build.specs.DataOf.{data_of}
use Rattle.plan_build.specs.MeshOf.{mesh_of}
use Rattle.plan_build.specs.PartOf.{part_of}
use Rattle.plan_build.specs.WindowsOf.{window_method, window_size, most_windows}
use Rattle.plan_build.proofs.PlanMade.{same_plan}
use Rattle.plan_build.proofs.plan.parts_with.Goals as goal

pub meshes-requires : goal.meshes-requires
meshes-requires c = subst (λ (tables : List MeshTable). All IsSoundMesh tables) (sym c.as_slice-2.ensures) c.config-whole.ensures.sound.meshes

pub data_list-requires : goal.data_list-requires
data_list-requires c = subst (λ (tables : List DataTable). All IsSoundData tables) (sym c.as_slice-3.ensures) c.config-whole.ensures.sound.data_tables

pub end_ticks-requires : goal.end_ticks-requires
end_ticks-requires c = subst HasTime (sym c.config-whole.ensures.same) c.requires

pub most_windows-requires : goal.most_windows-requires
most_windows-requires c = subst HasTime (sym c.config-whole.ensures.same) c.requires

pub returns : goal.returns
returns c =
    let config : Config = c.args.config.now in
    let same = c.config-whole.ensures.same in
    same_plan config _ c.args.nodes.items
    (record {
      of_method = c.window_method.ensures ∙ ap (λ (whole : Config). window_method whole.window_method) same;
      of_window = c.window_size.ensures ∙ ap window_size same;
      of_end = c.end_ticks.ensures ∙ ap end_ticks same;
      of_windows = c.most_windows.ensures ∙ ap most_windows same;
      of_parts = c.from_vec.ensures ∙ (c.in_ok-parts.ensures ∙ ap (map (part_of config)) (c.as_slice.ensures ∙ ap (λ (whole : Config). whole.participant) same));
      of_meshes = c.from_vec-2.ensures ∙ (c.in_ok-meshes.ensures ∙ ap (map (mesh_of config)) (c.as_slice-2.ensures ∙ ap (λ (whole : Config). whole.mesh) same));
      of_data = c.from_vec-3.ensures ∙ (c.in_ok-data_list.ensures ∙ ap (map data_of) (c.as_slice-3.ensures ∙ ap (λ (whole : Config). whole.data_list) same));
      of_schemes = c.from_vec-4.ensures ∙ c.in_ok-schemes.ensures.schemes;
      of_exchanges = c.from_vec-5.ensures ∙ c.in_ok-schemes.ensures.exchanges;
    })
    c.from_vec-6.ensures

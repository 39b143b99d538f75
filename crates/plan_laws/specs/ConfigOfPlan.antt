-- A plan written as a configuration: each number by its name. The project's own.
use Rattle.std.specs.Prelude.{ℕ, map, ℤ, pos, Option, Some, None}
use Rattle.std.specs.List.{enumerate_from}
use Rattle.cpl_plan.specs.declared.parts.PlanParts.{PlanParts}
use Rattle.cpl_plan.specs.declared.parts.WindowMethod.{WindowMethod}
use Rattle.cpl_plan.specs.declared.parts.WindowMethod.TheVariants.{Fixed, FirstParticipant}
use Rattle.cpl_config.specs.declared.kind_words.WindowWord.{WindowWord}
use Rattle.cpl_config.specs.declared.kind_words.WindowWord.TheVariants as W
use Rattle.cpl_config.specs.declared.config.Config.{Config}
use Rattle.plan_laws.specs.PlanTables.{data_table, mesh_table, part_table}
use Rattle.plan_laws.specs.PlanSchemes.{scheme_table}

abbrev pub window_word : WindowMethod → WindowWord
window_word Fixed = W.Fixed
window_word FirstParticipant = W.FirstParticipant

-- the number of windows, where the end time does not give it
abbrev pub windows_told : WindowMethod → ℕ → Option ℤ
windows_told Fixed n = None
windows_told FirstParticipant n = Some (pos n)

-- the format is the second, which alone has windows of the first participant and mappings by projection
abbrev pub config_of_plan : PlanParts → Config
config_of_plan plan =
    record {
      format = pos 2;
      window_method = window_word plan.method;
      window = pos plan.window;
      max_time = Some (pos plan.end_time);
      max_windows = windows_told plan.method plan.most_windows;
      data_list = map data_table plan.data_list;
      mesh = map (mesh_table plan) plan.meshes;
      participant = map (part_table plan) plan.parts;
      scheme = map (λ entry. scheme_table plan entry.0 entry.1) (enumerate_from 0 plan.schemes);
    }

-- The actions of a participant as sums of what it writes. From the coupling documentation's summation action.
use Rattle.std.specs.Prelude.{ℕ, Bool, ◌&&◌, List, map}
use Rattle.std.specs.List.{position_or_len}
use Rattle.std.specs.Str.{bytes_eq}
use Rattle.cpl_config.specs.declared.config.Config.{Config}
use Rattle.cpl_config.specs.declared.config.PartTable.{PartTable}
use Rattle.cpl_config.specs.declared.config.DataEntry.{DataEntry}
use Rattle.cpl_config.specs.declared.config.ActionEntry.{ActionEntry}
use Rattle.case_files.specs.declared.case_file.CaseFile.{CaseFile}
use Rattle.case_rules.specs.CaseRules.{values_of}
use Rattle.data_actions.specs.declared.sums.Sum.{Sum}
use Rattle.data_actions.specs.EntrySums.{EntrySum, sum_of_entries}

-- the entry is of the data on the mesh
abbrev pub is_of : (mesh data_name : List ℕ) → DataEntry → Bool
is_of mesh data_name entry = bytes_eq entry.data_name data_name && bytes_eq entry.mesh mesh

-- the number of the entry of the data on the mesh, from 0; how many entries there are, where none is
abbrev pub entry_of : List DataEntry → (mesh data_name : List ℕ) → ℕ
entry_of entries mesh data_name = position_or_len (is_of mesh data_name) entries

-- an action as a sum of whole entries
abbrev pub entry_sum : List DataEntry → ActionEntry → EntrySum
entry_sum entries action =
    record {
      target = entry_of entries action.mesh action.target;
      sources = map (entry_of entries action.mesh) action.sources;
    }

-- the sums of the participant's actions, in their order, where its write entries have so many values
abbrev pub ActionSums : PartTable → (lengths : List ℕ) → List Sum
ActionSums part lengths = map (sum_of_entries lengths) (map (entry_sum part.write) part.action)

-- how many values each write entry of the participant has by its case: for each vertex its components
abbrev pub written_lengths : Config → PartTable → CaseFile → List ℕ
written_lengths config part case_file = map (values_of config case_file) part.write

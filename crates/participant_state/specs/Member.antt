-- A participant as its calls show it: its plan, its number, and what its deeds have come to. The project's own.
use Rattle.std.specs.Prelude.{ℕ, List, unwrap_or}
use Rattle.cpl_plan.specs.declared.parts.PlanParts.{PlanParts}
use Rattle.participant_words.specs.Course.{Course}
use Rattle.participant_words.specs.Deeds.{Deed}
use Rattle.participant_words.specs.Named.{place_named, data_on, entry_read, entry_written}
use Rattle.participant_words.specs.AfterDeed.{after}

pub record Member : Type 0 where
  pub plan : PlanParts
  pub part : ℕ
  pub course : Course

-- one deed more
abbrev pub did : Member → Deed → Member
did m deed = record m { course = after m.plan m.part m.course deed }

-- the place of the mesh that a call names, and the entry that reads, or writes, the data that it names there
abbrev pub mesh_called : Member → (mesh : List ℕ) → ℕ
mesh_called m mesh = unwrap_or (place_named m.plan m.part mesh) 0

abbrev pub data_called : Member → (mesh data_name : List ℕ) → ℕ
data_called m mesh data_name = unwrap_or (data_on m.plan m.part (mesh_called m mesh) data_name) 0

abbrev pub read_called : Member → (mesh data_name : List ℕ) → ℕ
read_called m mesh data_name = unwrap_or (entry_read m.plan m.part (mesh_called m mesh) (data_called m mesh data_name)) 0

abbrev pub written_called : Member → (mesh data_name : List ℕ) → ℕ
written_called m mesh data_name = unwrap_or (entry_written m.plan m.part (mesh_called m mesh) (data_called m mesh data_name)) 0

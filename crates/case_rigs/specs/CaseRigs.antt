-- What the participants of an accepted case are run with: their meshes, and their solvers with the sums of their actions. The project's own.
use Rattle.std.specs.Prelude.{List, All, map, ℤ}
use Rattle.std.specs.List.{zip}
use Rattle.cpl_config.specs.declared.config.Config.{Config}
use Rattle.cpl_config.specs.declared.config.PartTable.{PartTable}
use Rattle.case_files.specs.declared.case_file.CaseFile.{CaseFile}
use Rattle.case_files.specs.SoundCase.{IsSoundCaseFile}
use Rattle.cpl_config.specs.SoundConfig.{IsSoundParticipant}
use Rattle.mesh_data.specs.declared.any_mesh.AnyMesh.{AnyMesh}
use Rattle.line_solvers.specs.CaseMeaning.{spec_of_case, state_of_case}
use Rattle.line_solvers.specs.CaseSound.{IsSoundCase}
use Rattle.line_solvers.specs.LineMeaning.{LineSpec}
use Rattle.line_solvers.specs.LineSolver.{spec_of, state_of}
use Rattle.data_actions.specs.declared.sums.Sum.{Sum}
use Rattle.data_actions.specs.SoundSums.{AreSums}
use Rattle.case_rules.specs.CaseRules.{written_values}
use Rattle.case_rules.specs.SolverCase.{solver_case}
use Rattle.action_sums.specs.ActionSums.{ActionSums, written_lengths}
use Rattle.case_rigs.specs.declared.rigs.CaseRig.{CaseRig}
use Rattle.case_rigs.specs.CaseMeshes.{own_meshes, MakesMesh}

-- what a rig amounts to: its meshes, and of its solver what never changes, the sums and the state
pub record RigParts : Type 0 where
  pub meshes : List AnyMesh
  pub spec : LineSpec
  pub sums : List Sum
  pub state : List ℤ

abbrev pub parts_of : CaseRig → RigParts
parts_of rig =
    record {
      meshes = rig.meshes;
      spec = spec_of rig.solver.0;
      sums = rig.solver.1;
      state = state_of rig.solver.0;
    }

-- the sums of a participant's actions, over the values that it writes by its case
abbrev pub own_sums : Config → PartTable → CaseFile → List Sum
own_sums config part case_file = ActionSums part (written_lengths config part case_file)

-- what a participant is run with by its case: its own meshes, and the solver that the case describes, which writes the sums too
abbrev pub own_rig : Config → PartTable → CaseFile → RigParts
own_rig config part case_file =
    record {
      meshes = own_meshes config part case_file;
      spec = spec_of_case (solver_case config part case_file);
      sums = own_sums config part case_file;
      state = state_of_case (solver_case config part case_file);
    }

abbrev pub own_rig_of : Config → PartTable × CaseFile → RigParts
own_rig_of config one = own_rig config one.0 one.1

-- the same of all participants, in their order
abbrev pub case_rigs : Config → List CaseFile → List RigParts
case_rigs config cases = map (own_rig_of config) (zip config.participant cases)

-- a rig can be made of a participant's case
pub record MakesRig (config : Config) (part : PartTable) (case_file : CaseFile) : Type 0 where
  pub part_sound : IsSoundParticipant part
  pub case_sound : IsSoundCaseFile case_file
  pub meshes : All (MakesMesh config case_file) part.provides
  pub solver : IsSoundCase (solver_case config part case_file)
  pub sums : AreSums (written_values config part case_file) (own_sums config part case_file)

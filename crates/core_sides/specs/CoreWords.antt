-- The states, acts and entries of a coupling of waves on meshes. The project's own.
use Rattle.std.specs.Prelude.{ℕ, List, Option}
use Rattle.mesh_data.specs.declared.any_mesh.AnyMesh.{AnyMesh}
use Rattle.cpl_plan.specs.declared.parts.PlanParts.{PlanParts}
use Rattle.cpl_plan.specs.declared.words.Fault.{Fault}
use Rattle.coupled_loop.specs.CoreState.{Side, CoreState}
use Rattle.coupled_loop.specs.CoreStep.{Act, Reply, core_step}
use Rattle.coupled_loop.specs.LegalHistory.{Entry}
use Rattle.wave_coupling.specs.Posts.{Post}
use Rattle.wave_coupling.specs.Solve.{Inputs}
use Rattle.wave_coupling.specs.Coupling.{wave_frame}

-- a participant sends the meshes that it provides
abbrev pub WaveSide : Type 0
WaveSide = Side (List AnyMesh) Post Fault

abbrev pub WaveState : Type 0
WaveState = CoreState (List AnyMesh) Post Fault

abbrev pub WaveAct : Type 0
WaveAct = Act (List AnyMesh) Post Fault

abbrev pub WaveReply : Type 0
WaveReply = Reply (List AnyMesh) Inputs Fault

abbrev pub WaveEntry : Type 0
WaveEntry = Entry (List AnyMesh) Post Fault

-- one event of a coupling of waves
abbrev pub wave_step : PlanParts → WaveState → (part : ℕ) → WaveAct → Option (WaveReply × WaveSide)
wave_step plan sides part act = core_step (wave_frame plan) sides part act

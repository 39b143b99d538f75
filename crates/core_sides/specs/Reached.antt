-- The states that participants come to by events that fit. The project's own.
use Rattle.std.specs.Prelude.{◌≡◌, List, [], ◌∷◌, Some}
use Rattle.cpl_plan.specs.declared.parts.PlanParts.{PlanParts}
use Rattle.coupled_loop.specs.Numbered.{put}
use Rattle.coupled_loop.specs.LegalHistory.{IsLegal, opening_state}
use Rattle.wave_coupling.specs.Coupling.{wave_frame}
use Rattle.core_sides.specs.CoreWords.{WaveState, WaveSide, WaveReply, WaveEntry, wave_step}
use Rattle.core_sides.specs.Fitting.{IsFitting}

-- each entry fits where it is made
abbrev pub AreFitting : PlanParts → WaveState → List WaveEntry → Type 0
AreFitting plan from [] = Unit {0}
AreFitting plan from (entry ∷ rest) =
    IsFitting plan from entry.part entry.act
    × ((reply : WaveReply) (side : WaveSide) → wave_step plan from entry.part entry.act ≡ Some (reply, side) → AreFitting plan (put from entry.part side) rest)

-- a legal list of fitting entries leads to this state
pub record IsReached (plan : PlanParts) (history : List WaveEntry) (sides : WaveState) : Type 0 where
  pub legal : IsLegal (wave_frame plan) history sides
  pub fitting : AreFitting plan opening_state history

-- What becomes of an event that asks for something: it is made, it becomes a cut, or it waits. The project's own.
use Rattle.std.specs.Prelude.{ℕ, Option, Some, None}
use Rattle.cpl_plan.specs.declared.parts.PlanParts.{PlanParts}
use Rattle.coupled_loop.specs.CoreState.{turn_at}
use Rattle.coupled_loop.specs.CoreStep.{cut_by, waits_for}
use Rattle.wave_coupling.specs.Coupling.{wave_frame}
use Rattle.core_sides.specs.CoreWords.{WaveState}
use Rattle.core_sides.specs.KeptSides.{kept_turn, kept_search_at}
use Rattle.core_sides.specs.declared.sides.Sides.{Sides}
use Rattle.core_sides.specs.declared.standing.Standing.{Standing}
use Rattle.coupling_core.specs.declared.gate.Gate.{Gate}
use Rattle.coupling_core.specs.declared.gate.Gate.TheVariants.{Open, Cut, Waits}

-- by whom it is cut, for whom it waits, and where each participant stands
abbrev pub gate_by : (turn : ℕ → ℕ × ℕ) → (who owner : Option ℕ) → Gate
gate_by turn (Some who) owner = Cut who
gate_by turn None (Some owner) = Waits owner (turn owner).0 (turn owner).1
gate_by turn None None = Open

abbrev pub kept_gate : PlanParts → Sides → (part : ℕ) → Standing → Gate
kept_gate plan sides part standing =
    gate_by (kept_turn sides) (kept_search_at plan sides part standing.place).cut (kept_search_at plan sides part standing.place).waits

abbrev pub gate_in : PlanParts → WaveState → (part : ℕ) → Gate
gate_in plan sides part =
    gate_by (λ one. turn_at (sides one).place) (cut_by (wave_frame plan) sides part) (waits_for (wave_frame plan) sides part)

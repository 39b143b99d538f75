-- A turn that may begin, of a participant whose scheme's iterations before were relaxed. After the coupling documentation's implicit schemes; the project's own in form.
use Rattle.std.specs.Prelude.{◌≡◌, ℕ, slice_get, Some}
use Rattle.cpl_plan.specs.declared.parts.PlanParts.{PlanParts}
use Rattle.cpl_plan.specs.declared.parts.Scheme.{Scheme}
use Rattle.coupled_loop.specs.Given.{Look}
use Rattle.coupled_loop.specs.PlanFrames.{group_of}
use Rattle.wave_coupling.specs.Posts.{Post}
use Rattle.wave_laws.specs.Fitting.{IsRelaxedBelow}

-- no relaxed value of the participant's scheme was out of range in the iterations below a number
abbrev pub IsRelaxedBy : PlanParts → Look Post → (part w k : ℕ) → Type 0
IsRelaxedBy plan look part w k =
    (number : ℕ) (scheme : Scheme) → group_of plan part ≡ Some number → slice_get plan.schemes number ≡ Some scheme → IsRelaxedBelow plan look scheme w k

-- What is kept of the exchanges that a participant receives, and what it stands for: over which mapping each is read. After the coupling documentation's read mappings.
use Rattle.std.specs.Prelude.{◌≡◌, ℕ, ◌<◌, List, All, map, length, slice_get, slice_index_or, Some}
use Rattle.cpl_plan.specs.declared.parts.PlanParts.{PlanParts}
use Rattle.cpl_plan.specs.declared.parts.Exchange.{Exchange}
use Rattle.core_sides.specs.declared.event.Input.{Input}
use Rattle.wave_coupling.specs.Posts.{Wave, received}
use Rattle.wave_coupling.specs.Mapped.{mapped_wave}
use Rattle.wave_coupling.specs.Known.{Known, map_at, points_of, read_mesh}
use Rattle.participant_waves.specs.Passages.{CanPass, HasSources, through}
use Rattle.participant_waves.specs.TakingKept.{TakingKept, TakesKept}

-- an exchange of a plan, as its reader takes it between the meshes that it knows
pub record IsTaking (plan : PlanParts) (part : ℕ) (known : Known) (t : TakingKept) : Type 0 where
  pub there : t.exchange < length plan.exchanges
  pub sources : (e : Exchange) → slice_get plan.exchanges t.exchange ≡ Some e → HasSources (length (points_of plan part known e.mesh)) t.map
  pub mapped : (e : Exchange) → slice_get plan.exchanges t.exchange ≡ Some e → (wave : Wave)
      → mapped_wave (map_at plan part e.read_map) (points_of plan part known e.mesh) (points_of plan part known (read_mesh plan part e)) wave ≡ through t.map wave

-- all exchanges that the participant receives, in order
pub record AreTakes (plan : PlanParts) (part : ℕ) (known : Known) (takes : TakesKept) : Type 0 where
  pub reader : takes.part ≡ part
  pub numbers : map (λ t. t.exchange) takes.takings ≡ received plan part
  pub each : All (IsTaking plan part known) takes.takings

-- one input for each exchange, whose samples have values for the vertices that are mapped from
pub record CanTake (takings : List TakingKept) (inputs : List Input) : Type 0 where
  pub many : length inputs ≡ length takings
  pub fields : (k : ℕ) (t : TakingKept) (input : Input) → k < length takings
      → CanPass (slice_index_or takings k t).map (slice_index_or inputs k input).wave

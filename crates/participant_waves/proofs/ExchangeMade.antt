-- An exchange with its mapping stands for the plan's, once its meshes are found and its mapping is made of them.
use Rattle.std.proofs.Common.{◌≡◌, ℕ, length, slice_get, Option, Some, subst, ap, sym, ◌∙◌}
use Rattle.std.proofs.lemmas.Option.{same_Some, slice_get_within}
use Rattle.cpl_plan.specs.declared.parts.PlanParts.{PlanParts}
use Rattle.cpl_plan.specs.declared.parts.Exchange.{Exchange}
use Rattle.cpl_plan.specs.declared.parts.MapPlan.{MapPlan}
use Rattle.mesh_data.specs.AnyMeshes.{vertices_of}
use Rattle.mesh_data.specs.declared.any_mesh.AnyMesh.{AnyMesh}
use Rattle.wave_coupling.specs.Posts.{Wave}
use Rattle.wave_coupling.specs.Mapped.{mapped_wave}
use Rattle.wave_coupling.specs.Known.{Known, map_at, points_of, read_mesh}
use Rattle.wave_maps.specs.declared.wave_map.WaveMap.{WaveMap}
use Rattle.participant_waves.specs.Passages.{HasSources, through}
use Rattle.participant_waves.specs.TakesStand.{IsTaking}

-- the mapping of a plan, between meshes as they are found
module _ (plan : PlanParts) (part : ℕ) (known : Known) (o place : Option MapPlan) (same : place ≡ o) (from to mesh : ℕ) (a b : AnyMesh) (is_from : mesh ≡ from)
    (at_from : points_of plan part known mesh ≡ vertices_of a) (at_to : points_of plan part known to ≡ vertices_of b) (made : Option WaveMap) where
  from_is : points_of plan part known from ≡ vertices_of a
  from_is = ap (points_of plan part known) (sym is_from) ∙ at_from

  pub sources_made : HasSources (length (vertices_of a)) made → HasSources (length (points_of plan part known from)) made
  sources_made has = subst (λ (n : ℕ). HasSources n made) (ap length (sym from_is)) has

  pub mapped_made : ((wave : Wave) → mapped_wave place (vertices_of a) (vertices_of b) wave ≡ through made wave)
      → (wave : Wave) → mapped_wave o (points_of plan part known from) (points_of plan part known to) wave ≡ through made wave
  mapped_made is wave =
      ap (λ (m : Option MapPlan). mapped_wave m (points_of plan part known from) (points_of plan part known to) wave) (sym same)
      ∙ ap (λ points. mapped_wave place points (points_of plan part known to) wave) from_is ∙ ap (λ points. mapped_wave place (vertices_of a) points wave) at_to ∙ is wave

-- an exchange that is received
pub taking_is : (plan : PlanParts) (part : ℕ) (known : Known) (x : ℕ) (e : Exchange) (made : Option WaveMap) → slice_get plan.exchanges x ≡ Some e
    → HasSources (length (points_of plan part known e.mesh)) made
    → ((wave : Wave) → mapped_wave (map_at plan part e.read_map) (points_of plan part known e.mesh) (points_of plan part known (read_mesh plan part e)) wave ≡ through made wave)
    → IsTaking plan part known (record { exchange = x; map = made })
taking_is plan part known x e made at sources mapped = record {
  there = slice_get_within plan.exchanges x e at;
  sources = λ f is. subst (λ (g : Exchange). HasSources (length (points_of plan part known g.mesh)) made) (same_Some e f (sym at ∙ is)) sources;
  mapped = λ f is. subst (λ (g : Exchange). (wave : Wave)
      → mapped_wave (map_at plan part g.read_map) (points_of plan part known g.mesh) (points_of plan part known (read_mesh plan part g)) wave ≡ through made wave) (same_Some e f (sym at ∙ is)) mapped;
}

-- What a valid plan says of a watch-point: it lies on a mesh of its participant, at a point of that mesh's space.
use Rattle.std.proofs.Common.{◌≡◌, ℕ, ◌^◌, ◌<◌, ◌≤◌, inl, true, ◌&&◌, nat_eq, nat_le, ℤ, List, [], length, get_or, slice_get, Option, Some, Contains, ap, sym, subst, ◌∙◌, arith}
use Rattle.std.specs.Prelude.{option_map, unsigned_abs}
use Rattle.std.specs.List.{list_all}
use Rattle.std.specs.Option.{option_map_or}
use Rattle.std.proofs.lemmas.Bool.{and_parts, eqb-true, leb-true}
use Rattle.std.proofs.lemmas.List.Elements.{Contains-get_or}
use Rattle.std.proofs.lemmas.List.Sums.{get_or-le-sum_by}
use Rattle.std.proofs.lemmas.Option.{get_or_from_slice_get, same_Some}
use Rattle.mesh_data.specs.AnyMeshes.{dimensions_of}
use Rattle.mesh_data.specs.Nearest.{IsNearest, nearest_vertex}
use Rattle.mesh_data.specs.Points.{IsPoint}
use Rattle.mesh_data.specs.declared.any_mesh.AnyMesh.{AnyMesh}
use Rattle.nn_mapping.proofs.NearestVertices.{nearest_vertex-is}
use Rattle.cpl_plan.specs.PlanWords.{passes, provides}
use Rattle.cpl_plan.specs.PlanTests.{lies_on_own_mesh}
use Rattle.cpl_plan.specs.ValidPlan.{IsValidPlan}
use Rattle.cpl_plan.specs.declared.parts.PlanParts.{PlanParts}
use Rattle.cpl_plan.specs.declared.parts.Part.{Part}
use Rattle.cpl_plan.specs.declared.parts.MeshPlan.{MeshPlan}
use Rattle.cpl_plan.specs.declared.parts.Watch.{Watch}
use Rattle.cpl_plan.proofs.Readings.{each_at, passes_at, there}
use Rattle.core_laws.proofs.Steps.{all_tell}
use Rattle.participant_words.specs.WatchShown.{watches}
use Rattle.participant_waves.specs.KnownMeshes.{IsMeshOf, IsKnownTo}

module _ (plan : PlanParts) (part : ℕ) (p : Part) (valid : IsValidPlan plan) (at : slice_get plan.parts part ≡ Some p) (watch : Watch) (inside : Contains (watches plan part) watch) where
  lies : ((provides plan part watch.mesh && passes plan.meshes watch.mesh (λ mesh. nat_eq (length watch.at) mesh.dimensions)) && list_all (λ x. nat_le (unsigned_abs x) (10 ^ 12)) watch.at) ≡ true
  lies =
      all_tell (lies_on_own_mesh plan part) p.watches watch (each_at (λ q r. list_all (lies_on_own_mesh plan q) r.watches) plan.parts valid.participants.watched_on_own_meshes part p at)
      (subst (λ (o : Option Part). Contains (option_map_or (λ q. q.watches) o []) watch) at inside)

  both : ((provides plan part watch.mesh && passes plan.meshes watch.mesh (λ mesh. nat_eq (length watch.at) mesh.dimensions)) ≡ true)
      × (list_all (λ x. nat_le (unsigned_abs x) (10 ^ 12)) watch.at ≡ true)
  both =
      and_parts (provides plan part watch.mesh && passes plan.meshes watch.mesh (λ mesh. nat_eq (length watch.at) mesh.dimensions))
      (list_all (λ x. nat_le (unsigned_abs x) (10 ^ 12)) watch.at) lies

  placed : (provides plan part watch.mesh ≡ true) × (passes plan.meshes watch.mesh (λ mesh. nat_eq (length watch.at) mesh.dimensions) ≡ true)
  placed = and_parts (provides plan part watch.mesh) (passes plan.meshes watch.mesh (λ mesh. nat_eq (length watch.at) mesh.dimensions)) both.0

  pub watched_provided : provides plan part watch.mesh ≡ true
  watched_provided = placed.0

  pub watched_known : IsKnownTo plan part watch.mesh
  watched_known = inl placed.0

  pub watched_point : (g : AnyMesh) → IsMeshOf plan watch.mesh g → IsPoint (dimensions_of g) watch.at
  watched_point g is =
      let found = passes_at plan.meshes watch.mesh (λ mesh. nat_eq (length watch.at) mesh.dimensions) placed.1 in
      let dimensions = same_Some (dimensions_of g) found.0.dimensions (sym is.dimensions ∙ ap (option_map (λ (m : MeshPlan). m.dimensions)) found.1) in
      record {
        one_for_each = eqb-true (length watch.at) found.0.dimensions found.2 ∙ sym dimensions;
        in_range = λ k d within.
            leb-true (unsigned_abs (get_or watch.at k d)) (10 ^ 12)
            (all_tell (λ x. nat_le (unsigned_abs x) (10 ^ 12)) watch.at (get_or watch.at k d) both.1 (Contains-get_or watch.at k d within));
      }

-- the vertex that was found
pub followed : (points mesh : List (List ℤ)) (at : List ℤ) (v : ℕ) → points ≡ mesh → IsNearest mesh at v → v ≡ nearest_vertex points at
followed points mesh at v same is = sym (nearest_vertex-is mesh at v is) ∙ ap (λ ps. nearest_vertex ps at) (sym same)

-- watch-points are few
pub few_watches : (plan : PlanParts) (part : ℕ) → IsValidPlan plan → part < length plan.parts → length (watches plan part) ≤ 64
few_watches plan part valid within =
    let p = there plan.parts part within in
    let count : length (watches plan part) ≡ length (get_or plan.parts part p.0).watches =
    ap (λ (o : Option Part). length (option_map_or (λ q. q.watches) o [])) p.1 ∙ ap (λ (q : Part). length q.watches) (sym (get_or_from_slice_get plan.parts part p.0 p.0 p.1)) in
    omega (arith, count, get_or-le-sum_by (λ (q : Part). length q.watches) plan.parts part p.0 within, valid.sizes.watches)

-- A mesh is provided by its owner alone.
use Rattle.std.proofs.Common.{◌≡◌, ◌↔◌, ℕ, inl, inr, true, List, [], ◌∷◌, sym, subst}
use Rattle.std.specs.Prelude.{Contains, slice_get, Some}
use Rattle.std.proofs.lemmas.Option.{slice_get_within}
use Rattle.plan_order.proofs.Loops.{head_in, in_cons}
use Rattle.plan_order.proofs.Orders.{none_in_nil}
use Rattle.cpl_plan.specs.PlanWords.{numbers, provides, providers, is_among, are_only}
use Rattle.cpl_plan.specs.ValidPlan.{IsValidPlan}
use Rattle.cpl_plan.specs.declared.parts.PlanParts.{PlanParts}
use Rattle.cpl_plan.specs.declared.parts.MeshPlan.{MeshPlan}
use Rattle.cpl_plan.proofs.Readings.{each_at, passes_at, filter_in, in_filter, in_numbers, same_numbers}

module _ (plan : PlanParts) (valid : IsValidPlan plan) (mesh : ℕ) (of_mesh : MeshPlan) (is : slice_get plan.meshes mesh ≡ Some of_mesh) where
  providers_are : of_mesh.owner ∷ [] ≡ providers plan mesh
  providers_are =
      same_numbers (of_mesh.owner ∷ []) (providers plan mesh)
      (each_at (λ number m. are_only m.owner (providers plan number)) plan.meshes valid.meshes.one_provider mesh of_mesh is)

  pub owner_alone : (part : ℕ) → (provides plan part mesh ≡ true) ↔ (part ≡ of_mesh.owner)
  owner_alone part = (
    λ holds.
        let there = passes_at plan.parts part (λ p. is_among mesh p.provides) holds in
        let inside = in_filter (λ p. provides plan p mesh) (numbers plan.parts) part (in_numbers plan.parts part (slice_get_within plan.parts part there.0 there.1)) holds in
        elim (in_cons of_mesh.owner [] part (subst (λ (ns : List ℕ). Contains ns part) (sym providers_are) inside)) [
          | inl same ↦ sym same
          | inr none ↦ absurd (none_in_nil part none)
        ],
    λ same.
        let inside = subst (λ (ns : List ℕ). Contains ns of_mesh.owner) providers_are (head_in of_mesh.owner []) in
        subst (λ (p : ℕ). provides plan p mesh ≡ true) (sym same) (filter_in (λ p. provides plan p mesh) (numbers plan.parts) of_mesh.owner inside).1,
  )

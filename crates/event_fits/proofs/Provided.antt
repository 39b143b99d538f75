-- The meshes that were looked at are of the plan.
use Rattle.std.proofs.Common.{◌≡◌, ℕ, ◌+◌, ◌<◌, ◌≤◌, List, length, Some, slice_get, inl, inr, sym, ap, subst, ◌∙◌, arith}
use Rattle.std.proofs.lemmas.Bool.{cases_lt}
use Rattle.std.proofs.lemmas.Option.{same_Some, slice_get_within}
use Rattle.mesh_data.specs.declared.any_mesh.AnyMesh.{AnyMesh}
use Rattle.cpl_plan.specs.declared.parts.PlanParts.{PlanParts}
use Rattle.wave_coupling.specs.Known.{provided_by}
use Rattle.core_sides.specs.PostedMeshes.{AreProvided, IsOfPlan}

module _ (plan : PlanParts) (numbers : List ℕ) (meshes : List AnyMesh) where
  abbrev pub AreBefore : ℕ → Type 0
  AreBefore i = (j number : ℕ) (mesh : AnyMesh) → j < i → slice_get numbers j ≡ Some number → slice_get meshes j ≡ Some mesh → IsOfPlan plan number mesh

  pub provided_more : (i number : ℕ) (mesh : AnyMesh) → slice_get numbers i ≡ Some number → slice_get meshes i ≡ Some mesh → IsOfPlan plan number mesh
      → AreBefore i → AreBefore (i + 1)
  provided_more i number mesh is_number is_mesh is before = λ j n m less at_number at_mesh. elim (cases_lt j i) [
    | inl earlier ↦ before j n m earlier at_number at_mesh
    | inr later ↦
        let same : j ≡ i = omega (arith, less, later) in
        let numbered : number ≡ n = same_Some number n (sym is_number ∙ ap (slice_get numbers) (sym same) ∙ at_number) in
        let meshed : mesh ≡ m = same_Some mesh m (sym is_mesh ∙ ap (slice_get meshes) (sym same) ∙ at_mesh) in
        subst (λ (v : AnyMesh). IsOfPlan plan n v) meshed (subst (λ (k : ℕ). IsOfPlan plan k mesh) numbered is)
  ]

  pub provided_all : (p i : ℕ) → numbers ≡ provided_by plan p p → length meshes ≡ length numbers → length numbers ≤ i → AreBefore i → AreProvided plan p meshes
  provided_all p i are whole past before = record {
    count = whole ∙ ap (λ (ns : List ℕ). length ns) are;
    each = λ j number mesh is_number is_mesh.
        let at : slice_get numbers j ≡ Some number = ap (λ (ns : List ℕ). slice_get ns j) are ∙ is_number in
        let below = slice_get_within numbers j number at in
        before j number mesh (omega (arith, below, past)) at is_mesh;
  }

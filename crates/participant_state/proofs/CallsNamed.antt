-- The meshes and the data that a participant's calls name are there.
use Rattle.std.proofs.Common.{◌≡◌, ℕ, ◌<◌, List, [], length, get_or, slice_get, Option, Some, ap, sym, subst, ◌∙◌, arith}
use Rattle.std.specs.Option.{option_map_or}
use Rattle.std.proofs.lemmas.Option.{slice_get-get_or}
use Rattle.mesh_data.specs.declared.any_mesh.AnyMesh.{AnyMesh}
use Rattle.cpl_plan.specs.ValidPlan.{IsValidPlan}
use Rattle.cpl_plan.specs.declared.parts.PlanParts.{PlanParts}
use Rattle.cpl_plan.specs.declared.parts.Part.{Part}
use Rattle.participant_tables.specs.Named.{Called}
use Rattle.participant_tables.specs.WriteKept.{WriteKept}
use Rattle.participant_tables.specs.declared.read_table.ReadEntry.{ReadEntry}
use Rattle.participant_tables.proofs.NamesOnce.{provides_there}
use Rattle.participant_state.specs.Together.{IsOfPlan}

pub mesh_there : (plan : PlanParts) (part : ℕ) (names : Called) (own : List AnyMesh) (writes : List WriteKept) (reads : List ReadEntry)
    → IsOfPlan plan part names own writes reads → IsValidPlan plan
    → (parts : List Part) (d : Part) → parts ≡ plan.parts → (provides : List ℕ) → provides ≡ (get_or parts part d).provides
    → (place : ℕ) → place < length own → get_or provides place 0 < length plan.meshes
mesh_there plan part names own writes reads of valid parts d are provides provided place within =
    let p : Part = get_or parts part d in
    let at : slice_get plan.parts part ≡ Some p = slice_get-get_or plan.parts part d of.participant ∙ ap (λ (ps : List Part). Some (get_or ps part d)) (sym are) in
    let many = ap (λ (o : Option Part). length (option_map_or (λ q. q.provides) o [])) at in
    subst (λ (ms : List ℕ). get_or ms place 0 < length plan.meshes) (sym provided)
    (provides_there plan valid part p at place 0 (omega (arith, within, of.meshes, many)))

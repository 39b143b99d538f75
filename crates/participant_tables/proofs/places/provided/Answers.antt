use Rattle.std.proofs.Common.{◌≡◌, ◌<◌, ℕ, List, true, map, length, get_or, Some, All, ap, sym, subst, ◌∙◌}
use Rattle.std.specs.Prelude.{slice_get}
use Rattle.std.specs.Str.{bytes_eq}
use Rattle.std.proofs.lemmas.Option.{slice_get-get_or}
use Rattle.cpl_plan.specs.PlanWords.{are_distinct}
use Rattle.cpl_plan.specs.declared.parts.PlanParts.{PlanParts}
use Rattle.cpl_plan.specs.declared.parts.Part.{Part}
use Rattle.participant_tables.specs.Named.{mesh_name}
use Rattle.participant_tables.proofs.NamesOnce.{provides_there, provides_apart}
use Rattle.participant_tables.proofs.places.provided.Goals as goal

-- the participant stands at its number
stands : (plan : PlanParts) (parts : List Part) (part : ℕ) (d : Part) → part < length plan.parts → parts ≡ plan.parts → slice_get plan.parts part ≡ Some (get_or parts part d)
stands plan parts part d inside are = slice_get-get_or plan.parts part d inside ∙ ap (λ (ps : List Part). Some (get_or ps part d)) (sym are)

pub returns-clause-there : goal.returns-clause-there
returns-clause-there c =
    let at = stands c.args.plan.now c.as_slice.result.now c.args.part c.index-as_slice-part.result c.requires (c.as_slice.ensures ∙ ap (λ (q : PlanParts). q.parts) c.parts.ensures.value) in
    subst (λ (ms : List ℕ). All (λ mesh. mesh < length c.args.plan.now.meshes) ms) (sym c.as_slice-2.ensures)
    (provides_there c.args.plan.now c.parts.ensures.valid c.args.part (get_or c.as_slice.result.now c.args.part c.index-as_slice-part.result) at)

pub returns-clause-apart : goal.returns-clause-apart
returns-clause-apart c =
    let at = stands c.args.plan.now c.as_slice.result.now c.args.part c.index-as_slice-part.result c.requires (c.as_slice.ensures ∙ ap (λ (q : PlanParts). q.parts) c.parts.ensures.value) in
    subst (λ (ms : List ℕ). are_distinct bytes_eq (map (mesh_name c.args.plan.now) ms) ≡ true) (sym c.as_slice-2.ensures)
    (provides_apart c.args.plan.now c.parts.ensures.valid c.args.part (get_or c.as_slice.result.now c.args.part c.index-as_slice-part.result) at)

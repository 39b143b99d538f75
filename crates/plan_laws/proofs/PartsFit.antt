-- Each participant of a plan provides declared meshes and is in a scheme, in the configuration too.
use Rattle.std.proofs.Common.{◌≡◌, ℕ, ◌≤◌, true, List, length, Some, ap, sym, ◌∙◌, arith}
use Rattle.std.specs.Prelude.{slice_get}
use Rattle.std.specs.List.{list_any}
use Rattle.std.proofs.lemmas.Bool.{leb-true}
use Rattle.cpl_plan.specs.declared.parts.PlanParts.{PlanParts}
use Rattle.cpl_plan.specs.declared.parts.Part.{Part}
use Rattle.cpl_plan.specs.declared.parts.Scheme.{Scheme}
use Rattle.cpl_plan.specs.PlanWords.{is_among, numbers, is_member as is_member_of, schemes_of}
use Rattle.cpl_plan.specs.ValidPlan.{IsValidPlan}
use Rattle.cpl_plan.proofs.Readings.{each_at, passes_at, filter_in, there}
use Rattle.cpl_config.specs.declared.config.Config.{Config}
use Rattle.mesh_rules.specs.Named.{is_mesh}
use Rattle.config_rules.specs.Members.{is_member}
use Rattle.config_laws.specs.FitMeshes.{IsFitParticipant}
use Rattle.config_laws.specs.FitConfig.{FitParticipants}
use Rattle.config_laws.proofs.Members.{any_at}
use Rattle.plan_laws.specs.PlanNames.{mesh_name}
use Rattle.plan_laws.specs.PlanTables.{part_table}
use Rattle.plan_laws.specs.PlanSchemes.{scheme_table}
use Rattle.plan_laws.specs.ConfigOfPlan.{config_of_plan}
use Rattle.plan_laws.proofs.Lists.{at_in, in_at, all_mapped}
use Rattle.plan_laws.proofs.Known.{part_in, part_name_is, mesh_declared, provided_in}
use Rattle.plan_laws.proofs.Tables.{scheme_at, member_is}

module _ (plan : PlanParts) (valid : IsValidPlan plan) where
  abbrev config : Config
  config = config_of_plan plan

  in_a_scheme : (p : ℕ) (part : Part) → slice_get plan.parts p ≡ Some part → list_any (is_member part.name) config.scheme ≡ true
  in_a_scheme p part is =
      let some : 1 ≤ length (schemes_of plan p) = leb-true 1 (length (schemes_of plan p)) (each_at _ plan.parts valid.participants.in_a_scheme p part is) in
      let s = there (schemes_of plan p) 0 (omega (arith, some)) in
      let member = (filter_in (λ t. is_member_of plan t p) (numbers plan.schemes) s.0 (in_at (schemes_of plan p) 0 s.0 s.1)).1 in
      let scheme = passes_at plan.schemes s.0 (λ (t : Scheme). is_among p t.members) member in
      any_at (is_member part.name) config.scheme (scheme_table plan s.0 scheme.0) (in_at config.scheme s.0 (scheme_table plan s.0 scheme.0) (scheme_at plan valid s.0 scheme.0 scheme.1))
      (ap (λ (name : List ℕ). is_member name (scheme_table plan s.0 scheme.0)) (sym (part_name_is plan valid p part is)) ∙ (member_is plan valid s.0 scheme.0 scheme.1 p (part_in plan valid p part is) ∙ scheme.2))

  pub participants_fit : FitParticipants config
  participants_fit = all_mapped (IsFitParticipant config) (part_table plan) plan.parts (λ part inside.
      let at = at_in plan.parts part inside in
      record {
        provided_declared = all_mapped (λ (mesh : List ℕ). is_mesh config mesh ≡ true) (mesh_name plan) part.provides (λ m here. mesh_declared plan valid m (provided_in plan valid at.0 part at.1 m here));
        in_a_scheme = in_a_scheme at.0 part at.1;
      })

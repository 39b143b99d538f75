use Rattle.std.proofs.Common.{◌≡◌, drop}
use Rattle.mesh_rules.specs.ActionRules.{is_target_of}
use Rattle.mesh_rules.proofs.actions.is_target_of.Given as goal

-- it is one of the rest where it is one of all
abbrev pub invariant-actions : goal.invariant-actions
invariant-actions l = is_target_of l.target (drop l.other-index l.actions) ≡ is_target_of l.target l.actions

use Rattle.std.proofs.Common.{sym, ◌∙◌}
use Rattle.case_rules.specs.CaseRules.{has_right_points}
use Rattle.case_rules.proofs.Scans.{list_all-next, list_all-fails}
use Rattle.case_rules.proofs.case_meshes.have_points.Goals as goal

pub returns-then-not-has_right_points : goal.returns-then-not-has_right_points
returns-then-not-has_right_points c =
    list_all-fails (has_right_points c.args.config.now) c.args.meshes.now c.meshes.mesh-index c.mesh-item.result c.meshes-test.true c.mesh-item.is (sym c.has_right_points.ensures ∙ c.if-not-has_right_points.true) c.meshes.invariant

pub meshes-preserved : goal.meshes-preserved
meshes-preserved c =
    list_all-next (has_right_points c.args.config.now) c.args.meshes.now c.meshes.mesh-index c.mesh-item.result c.meshes-test.true c.mesh-item.is (sym c.has_right_points.ensures ∙ c.if-not-has_right_points.false) c.meshes.invariant

use Rattle.std.proofs.Common.{sym, ◌∙◌}
use Rattle.config_rules.specs.SchemeRules.{share_two}
use Rattle.config_rules.proofs.Scans.{list_any-next, list_any-passes}
use Rattle.config_rules.proofs.schemes.some_shares_two.Goals as goal

pub returns-then-share_two : goal.returns-then-share_two
returns-then-share_two c =
    list_any-passes (share_two c.args.table.now) c.args.earlier.now c.tables.other-index c.other-item.result c.tables-test.true c.other-item.is (sym c.share_two.ensures ∙ c.if-share_two.true) c.tables.invariant

pub tables-preserved : goal.tables-preserved
tables-preserved c =
    list_any-next (share_two c.args.table.now) c.args.earlier.now c.tables.other-index c.other-item.result c.tables-test.true c.other-item.is (sym c.share_two.ensures ∙ c.if-share_two.false) c.tables.invariant

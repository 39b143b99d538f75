use Rattle.std.proofs.Common.{◌≡◌, map, drop}
use Rattle.cpl_rules.specs.FirstBroken.{first_broken}
use Rattle.cpl_rules.proofs.over_spots.first_broken.Given as goal

-- the first broken rule is among the rest
abbrev pub invariant-rules : goal.invariant-rules
invariant-rules g l =
    let broken_at = g.J.SpotRules.broken_at l.judge in
    let entries = map g.J.SpotRules.entry l.spots in
    first_broken broken_at (drop l.rule-index l.rules) entries ≡ first_broken broken_at l.rules entries

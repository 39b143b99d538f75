use Rattle.std.proofs.Common.{◌≡◌, map, take, drop}
use Rattle.cpl_rules.specs.FirstBroken.{first_place, first_place_after}
use Rattle.cpl_rules.proofs.over_spots.first_refused.Given as goal

-- what is known is of the spots before, and the first place is among the rest
abbrev pub invariant-spots : goal.invariant-spots
invariant-spots g l =
    let entry = g.J.SpotRules.entry in
    let broken_at = g.J.SpotRules.broken_at l.judge l.rule in
    let before = map entry (take l.index l.spots) in
    record {
      known : g.J.SpotRules.knows l.rule before l.known;
      rest : first_place_after broken_at before (map entry (drop l.index l.spots)) ≡ first_place broken_at (map entry l.spots);
    }

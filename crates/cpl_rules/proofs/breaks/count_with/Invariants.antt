use Rattle.std.proofs.Common.{◌≡◌, ◌+◌, ◌≤◌, map, count_by, drop}
use Rattle.cpl_rules.specs.Seen.{Seen, seen_of}
use Rattle.cpl_rules.specs.BrokenRules.{are_counted_together}
use Rattle.cpl_rules.proofs.breaks.count_with.Given as goal

-- those counted and those in the rest are all of them
abbrev pub invariant-spots : goal.invariant-spots
invariant-spots l =
    let counts = λ (other : Seen). are_counted_together l.kind other.kind in
    record {
      counted : l.count + count_by counts (map seen_of (drop l.spot-index l.spots)) ≡ count_by counts (map seen_of l.spots);
      small : l.count ≤ l.spot-index;
    }

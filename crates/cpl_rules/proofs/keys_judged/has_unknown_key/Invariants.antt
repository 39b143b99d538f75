use Rattle.std.proofs.Common.{◌≡◌, not}
use Rattle.std.specs.List.{list_any}
use Rattle.toml.specs.View.{members_view}
use Rattle.cpl_rules.specs.Seen.{seen_of}
use Rattle.cpl_rules.specs.BrokenRules.{is_listed, names_in, has_unknown_key}
use Rattle.cpl_rules.proofs.keys_judged.has_unknown_key.Given as goal

-- some other member is not listed where some member is not
abbrev pub invariant-members : goal.invariant-members
invariant-members l =
    (goal.iterator-members).can_next l.name-iterator ×
    (goal.iterator-members).is_finite l.name-iterator ×
    (list_any (λ name. not (is_listed l.spot.kind name)) (names_in (members_view l.name-iterator)) ≡ has_unknown_key (seen_of l.fn.spot))

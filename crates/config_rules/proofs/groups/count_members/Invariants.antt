use Rattle.std.proofs.Common.{◌≡◌, ◌+◌, drop}
use Rattle.std.specs.Prelude.{count_by}
use Rattle.config_rules.specs.Members.{is_member}
use Rattle.config_rules.proofs.groups.count_members.Given as goal

-- the count and that of the rest is that of all
abbrev pub invariant-names : goal.invariant-names
invariant-names l = l.count + count_by (λ name. is_member name l.other) (drop l.name-index l.names) ≡ count_by (λ name. is_member name l.other) l.names

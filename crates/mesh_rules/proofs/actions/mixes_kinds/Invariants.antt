use Rattle.std.proofs.Common.{◌≡◌, not, drop}
use Rattle.std.specs.List.{list_any}
use Rattle.mesh_rules.specs.ActionRules.{is_same_kind, kind_called, mixes_kinds}
use Rattle.mesh_rules.proofs.actions.mixes_kinds.Given as goal

-- some of the rest is of another kind where some source is
abbrev pub invariant-names : goal.invariant-names
invariant-names l =
    list_any (λ name. not (is_same_kind (kind_called l.config name) (kind_called l.config l.entry.target))) (drop l.name-index l.name-items) ≡ mixes_kinds l.config l.entry

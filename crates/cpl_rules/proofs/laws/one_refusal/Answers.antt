use Rattle.std.proofs.Common.{◌≡◌, ◌∙◌, sym}
use Rattle.std.proofs.lemmas.Bool.{both_ways}
use Rattle.cpl_rules.specs.declared.rules.Rule.{Rule}
use Rattle.cpl_rules.specs.Seen.{Seen}
use Rattle.cpl_rules.specs.SeenTables.{all_tables}
use Rattle.cpl_rules.specs.BrokenRules.{breaks}
use Rattle.cpl_rules.specs.Refused.{refused_for, table_rules}
use Rattle.cpl_rules.proofs.FirstPlaces.{only_first_broken}
use Rattle.cpl_rules.proofs.laws.one_refusal.Goals as goal

same_told : (r s : Rule) (d e : Seen) → r ≡ s → d ≡ e → refused_for (r, d) ≡ refused_for (s, e)
same_told r s d e h k = cc

pub returns-clause-only : goal.returns-clause-only
returns-clause-only c = λ top one other h k.
    let same = only_first_broken breaks table_rules (all_tables top) h.rule k.rule h.at k.at h.first k.first in
    h.told ∙ (same_told h.rule k.rule h.at k.at same.0 same.1 ∙ sym k.told)

pub returns-clause-exclusive : goal.returns-clause-exclusive
returns-clause-exclusive c = λ top refusal h order.
    let place = h.first.place in
    both_ways (breaks h.rule place.before h.at) (order h.rule place.before h.at place.after place.stands) place.broken

use Rattle.std.proofs.Common.{◌≡◌, List, ℕ, map, ap, ◌∙◌, arith}
use Rattle.std.proofs.lemmas.List.{take_all}
use Rattle.cpl_config.specs.declared.config.DataEntry.{DataEntry}
use Rattle.case_rules.specs.CaseRules.{values_of}
use Rattle.action_sums.specs.ActionSums.{written_lengths}
use Rattle.action_sums.proofs.FitSums.{few_values}
use Rattle.action_sums.proofs.lengths.written_lengths.Goals as goal

pub returns-clause-few : goal.returns-clause-few
returns-clause-few c =
    let config = c.args.config.now in
    let part = c.args.part.now in
    let case_file = c.args.case_file.now in
    let all : List DataEntry → List ℕ = map (values_of config case_file) in
    let entries = c.as_slice-entry-items.result.now in
    let whole : c.entries.lengths.items ≡ written_lengths config part case_file =
    c.entries.invariant
    ∙ ap all (take_all c.entries.entry-index entries (omega (arith, c.entries-test.false)))
    ∙ ap all c.as_slice-entry-items.ensures in
    rw whole (few_values config part case_file c.requires.config c.requires.part c.requires.case_file)

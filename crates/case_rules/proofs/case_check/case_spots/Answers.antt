use Rattle.std.proofs.Common.{◌≡◌, ◌+◌, ◌∷◌, ◌++◌, length, map, drop, ap, sym, ◌∙◌, arith}
use Rattle.case_rules.specs.CaseRules.{entry_of_case, case_entries_from}
use Rattle.case_rules.proofs.CaseWalks.{cases_next}
use Rattle.case_rules.proofs.Scans.{here}
use Rattle.case_rules.proofs.case_check.case_spots.Goals as goal

pub parts-preserved : goal.parts-preserved
parts-preserved c =
    let parts = c.as_slice-parts.result.now in
    let cases = c.args.cases.now in
    let i = c.parts.index in
    let part = c.index-parts-index.result in
    let case_file = c.index-cases-index.result in
    let one_each : length cases ≡ length parts = c.requires.one_each ∙ ap length (sym c.as_slice-parts.ensures) in
    let next_part : drop i parts ≡ part ∷ drop (i + 1) parts = here parts i part c.parts-test.true c.index-parts-index.is in
    let next_case : drop i cases ≡ case_file ∷ drop (i + 1) cases = here cases i case_file (omega (arith, one_each, c.parts-test.true)) c.index-cases-index.is in
    record {
      rest =
          ap (λ entries. entries ++ case_entries_from (i + 1) (drop (i + 1) parts) (drop (i + 1) cases)) (c.in_ok-push_case.ensures).entries
          ∙ (cases_next (map entry_of_case c.parts.spots.items) i (drop i parts) (drop (i + 1) parts) (drop i cases) (drop (i + 1) cases) part case_file next_part next_case ∙ c.parts.invariant.rest);
      sound = (c.in_ok-push_case.ensures).sound;
    }

use Rattle.std.proofs.Common.{◌≡◌, ◌+◌, drop, ap, ◌∙◌, sym, arith}
use Rattle.std.specs.Prelude.{sum_by}
use Rattle.std.proofs.lemmas.List.Sums.{sum_by-drop_more}
use Rattle.case_rules.specs.CaseRules.{values_of}
use Rattle.case_rules.proofs.CaseBounds.{sum_few}
use Rattle.case_rigs.proofs.solvers.values_in.Goals as goal

pub overflow_add-total : goal.overflow_add-total
overflow_add-total c =
    let config = c.args.config.now in
    let case_file = c.args.case_file.now in
    let entries = c.args.entries.now in
    let i = c.entries.entry-index in
    let entry = c.entry-item.result in
    let next : sum_by (values_of config case_file) (drop i entries) ≡ values_of config case_file entry + sum_by (values_of config case_file) (drop (i + 1) entries) =
    sum_by-drop_more (values_of config case_file) entries i entry c.entries-test.true ∙ ap (λ e. values_of config case_file e + sum_by (values_of config case_file) (drop (i + 1) entries)) (sym c.entry-item.is) in
    omega (arith, next, c.values_of-total.ensures, c.entries.invariant, sum_few config case_file entries c.requires.config c.requires.case_file c.requires.few)

pub overflow_cast-result : goal.overflow_cast-result
overflow_cast-result c =
    omega (arith, c.entries.invariant, sum_few c.args.config.now c.args.case_file.now c.args.entries.now c.requires.config c.requires.case_file c.requires.few)

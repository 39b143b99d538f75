use Rattle.std.proofs.Common.{◌≡◌, ◌∙◌, ap, w64, to_z, of_z}
use Rattle.std.proofs.lemmas.Int.{to_z-of_z}
use Rattle.std.proofs.lemmas.Result.{IfOk-weaker}
use Rattle.line_solvers.specs.CaseMeaning.{spec_of_case, state_of_case}
use Rattle.line_solvers.specs.LineSolver.{spec_of, state_of}
use Rattle.coupling_run.specs.Cases.{one_row, opening_state}
use Rattle.coupling_run.proofs.run.one_row_solver.Goals as goal

pub returns-clause-spec : goal.returns-clause-spec
returns-clause-spec c =
    let parts = c.in_ok-one_row_case.field-0 in
    let add = to_z-of_z w64 c.args.add c.ranges.add in
    let factor = to_z-of_z w64 c.args.factor c.ranges.factor in
    let same_row = ap (λ a. one_row a (to_z w64 (of_z w64 c.args.factor))) add ∙ ap (λ f. one_row c.args.add f) factor in
    IfOk-weaker c.from_case.result (λ made. spec_of made ≡ spec_of_case parts) (λ made. spec_of made ≡ one_row c.args.add c.args.factor) (λ made same. same ∙ c.in_ok-one_row_case.ensures.spec ∙ same_row) c.from_case.ensures.spec

pub returns-clause-state : goal.returns-clause-state
returns-clause-state c =
    let parts = c.in_ok-one_row_case.field-0 in
    IfOk-weaker c.from_case.result (λ made. state_of made ≡ state_of_case parts) (λ made. state_of made ≡ opening_state) (λ made same. same ∙ c.in_ok-one_row_case.ensures.state) c.from_case.ensures.state

-- Without sums nothing changes.
use Rattle.std.proofs.Common.{◌≡◌, ℕ, ◌<◌, List, [], length, ℤ, pos, refl, ap, ◌∙◌, arith}
use Rattle.std.proofs.Math.Path.{fun_ext}
use Rattle.std.proofs.lemmas.List.{same_lists, get_or_default}
use Rattle.std.proofs.lemmas.List.FromFn.{length-map-range_with_len, get_or-map-range_with_len}
use Rattle.solver_trait.specs.Behaviour.{Behaviour, Next, goes_on, faults}
use Rattle.data_actions.specs.SummedValues.{made_at, summed}
use Rattle.data_actions.specs.SummedSolver.{summed_next, SummedSolver}

summed-none : (values : List ℤ) → summed [] values ≡ values
summed-none values =
    let many = length-map-range_with_len (made_at [] values) 0 (length values) in
    same_lists (summed [] values) values many
    (λ k d h.
    let here : k < length values = omega (arith, h, many) in
    get_or-map-range_with_len (made_at [] values) 0 (length values) k k d here (omega arith) ∙ get_or_default values k (pos 0) d here)

next-none : {State : Type 0} (next : Next State) → summed_next [] next ≡ next
next-none (goes_on state writes) = ap (λ (values : List ℤ). goes_on state values) (summed-none writes)
next-none (faults code) = refl

pub solver-none : {State : Type 0} (solver : Behaviour State) → SummedSolver solver [] ≡ solver
solver-none {State} solver =
    let with : (State → List ℤ) → (State → ℕ → List ℤ → Next State) → Behaviour State = λ first next. record solver { first = first; next = next } in
    let first : (λ (state : State). summed [] (solver.first state)) ≡ solver.first = fun_ext (λ state. summed-none (solver.first state)) in
    let next : (λ (state : State) (ticks : ℕ) (reads : List ℤ). summed_next [] (solver.next state ticks reads)) ≡ solver.next =
    fun_ext (λ state. fun_ext (λ ticks. fun_ext (λ reads. next-none (solver.next state ticks reads)))) in
    ap (λ (f : State → List ℤ). with f (λ state ticks reads. summed_next [] (solver.next state ticks reads))) first
    ∙ ap (λ (n : State → ℕ → List ℤ → Next State). with solver.first n) next

use Rattle.std.proofs.Common.{◌≡◌, ◌++◌, ℤ, List, All, length, take, drop, subst, sym, ap, arith, refl, ◌∙◌, length-append}
use Rattle.std.proofs.lemmas.List.{with_items_is, take_at, drop_at}
use Rattle.std.proofs.lemmas.List.Elements.{All-append, All-drop}
use Rattle.std.proofs.lemmas.List.FromFn.{length-map-range_with_len}
use Rattle.std.proofs.lemmas.Result.{err_from_is_err_and}
use Rattle.fixed_num.specs.Numbers.{IsValue}
use Rattle.line_solvers.specs.SpringStep.{positions, velocities, new_velocity, new_velocities, new_positions}
use Rattle.line_solvers.proofs.Sums.{factor_back}
use Rattle.line_solvers.proofs.spring.next_values.Goals as goal

pub returns-in_err-push_velocities-clause-cause : goal.returns-in_err-push_velocities-clause-cause
returns-in_err-push_velocities-clause-cause c =
    let xs = c.split_at.result.0.now in
    let vs = new_velocities c.args.spring.now c.args.ticks xs c.split_at.result.1.now c.args.inputs.now in
    let p = err_from_is_err_and c.from_residual-in_err-push_velocities.result c.from_residual-in_err-push_velocities.ensures.1 in
    λ forbid out.
    let told = rw (c.split_at.ensures.front, c.split_at.ensures.back) at (c.in_err-push_velocities.ensures.cause forbid out (new_positions c.args.spring.now.rate c.args.ticks xs vs)) in
    rw (p.1, p.2) told

pub move_positions-requires-clause-halves : goal.move_positions-requires-clause-halves
move_positions-requires-clause-halves c =
    let xs = c.split_at.result.0.now in
    let vs = new_velocities c.args.spring.now c.args.ticks xs c.split_at.result.1.now c.args.inputs.now in
    let joined =
    c.deref_mut.ensures.value ∙ c.in_ok-push_velocities.ensures.pushed
    ∙ ap (λ (zs : List ℤ). zs ++ vs) (c.in_ok-extend_from_slice.ensures.items ∙ ap (λ (zs : List ℤ). zs ++ xs) c.in_ok-next.ensures.items) in
    let alike = length-map-range_with_len (new_velocity c.args.spring.now c.args.ticks xs c.split_at.result.1.now c.args.inputs.now) 0 (length xs) in
    let all = ap (λ (zs : List ℤ). length zs) joined ∙ length-append xs vs in
    omega (arith, all, alike, c.split_at_mut-moving.ensures.front_len, c.split_at_mut-moving.ensures.back_len)

pub returns-in_err-move_positions-clause-cause : goal.returns-in_err-move_positions-clause-cause
returns-in_err-move_positions-clause-cause c =
    let xs = c.split_at.result.0.now in
    let vs = new_velocities c.args.spring.now c.args.ticks xs c.split_at.result.1.now c.args.inputs.now in
    let joined =
    c.deref_mut.ensures.value ∙ c.in_ok-push_velocities.ensures.pushed
    ∙ ap (λ (zs : List ℤ). zs ++ vs) (c.in_ok-extend_from_slice.ensures.items ∙ ap (λ (zs : List ℤ). zs ++ xs) c.in_ok-next.ensures.items) in
    let front = c.split_at_mut-moving.ensures.front ∙ ap (λ (zs : List ℤ). take (length xs) zs) joined ∙ take_at xs vs (length xs) refl in
    let back = c.split_at_mut-moving.ensures.back ∙ ap (λ (zs : List ℤ). drop (length xs) zs) joined ∙ drop_at xs vs (length xs) refl in
    let rate = factor_back c.args.spring.now.rate c.requires.spring.numbers.rate in
    let p = err_from_is_err_and c.from_residual-in_err-move_positions.result c.from_residual-in_err-move_positions.ensures.1 in
    λ forbid out.
    let told = rw (rate, front, back, c.split_at.ensures.front, c.split_at.ensures.back) at (c.in_err-move_positions.ensures.cause forbid out vs) in
    rw (p.1, p.2) told

-- what is returned: the moved positions, and the velocities
whole : (c : goal.In_ok-move_positions)
    → take c.push_velocities.new.next.len (c.move_positions.new.positions ++ c.split_at_mut-moving.result.1.now ++ drop (length (c.move_positions.new.positions ++ c.split_at_mut-moving.result.1.now)) c.push_velocities.new.next.items)
    ≡ c.move_positions.new.positions ++ c.split_at_mut-moving.result.1.now
whole c =
    let parts = ap (λ (zs : List ℤ). length zs) c.split_at_mut-moving.ensures.value ∙ length-append c.split_at_mut-moving.result.0.now c.split_at_mut-moving.result.1.now in
    let moved = length-append c.move_positions.new.positions c.split_at_mut-moving.result.1.now in
    with_items_is c.push_velocities.new.next (c.move_positions.new.positions ++ c.split_at_mut-moving.result.1.now)
    (omega (arith, parts, moved, c.move_positions.auto.positions, c.deref_mut.ensures.len))

pub returns-clause-components : goal.returns-clause-components
returns-clause-components c =
    let xs = c.split_at.result.0.now in
    let vs = new_velocities c.args.spring.now c.args.ticks xs c.split_at.result.1.now c.args.inputs.now in
    let joined =
    c.deref_mut.ensures.value ∙ c.in_ok-push_velocities.ensures.pushed
    ∙ ap (λ (zs : List ℤ). zs ++ vs) (c.in_ok-extend_from_slice.ensures.items ∙ ap (λ (zs : List ℤ). zs ++ xs) c.in_ok-next.ensures.items) in
    let front = c.split_at_mut-moving.ensures.front ∙ ap (λ (zs : List ℤ). take (length xs) zs) joined ∙ take_at xs vs (length xs) refl in
    let back = c.split_at_mut-moving.ensures.back ∙ ap (λ (zs : List ℤ). drop (length xs) zs) joined ∙ drop_at xs vs (length xs) refl in
    let rate = factor_back c.args.spring.now.rate c.requires.spring.numbers.rate in
    let spring = c.args.spring.now in
    let ps = positions c.args.state.now in
    let ws = new_velocities spring c.args.ticks ps (velocities c.args.state.now) c.args.inputs.now in
    let pushed : vs ≡ ws =
    ap (λ (zs : List ℤ). new_velocities spring c.args.ticks zs c.split_at.result.1.now c.args.inputs.now) c.split_at.ensures.front
    ∙ ap (λ (zs : List ℤ). new_velocities spring c.args.ticks ps zs c.args.inputs.now) c.split_at.ensures.back in
    let moved : c.move_positions.new.positions ≡ new_positions spring.rate c.args.ticks ps ws =
    c.in_ok-move_positions.ensures.moved
    ∙ ap (λ (r : ℤ). new_positions r c.args.ticks c.split_at_mut-moving.result.0.now c.split_at_mut-moving.result.1.now) rate
    ∙ ap (λ (zs : List ℤ). new_positions spring.rate c.args.ticks zs c.split_at_mut-moving.result.1.now) (front ∙ c.split_at.ensures.front)
    ∙ ap (λ (zs : List ℤ). new_positions spring.rate c.args.ticks ps zs) (back ∙ pushed) in
    whole c
    ∙ ap (λ (zs : List ℤ). zs ++ c.split_at_mut-moving.result.1.now) moved
    ∙ ap (λ (zs : List ℤ). new_positions spring.rate c.args.ticks ps ws ++ zs) (back ∙ pushed)

pub returns-clause-values : goal.returns-clause-values
returns-clause-values c =
    let pushed = subst (λ (zs : List ℤ). All IsValue zs) (sym c.deref_mut.ensures.value) c.in_ok-push_velocities.ensures.values in
    let back = subst (λ (zs : List ℤ). All IsValue zs) (sym c.split_at_mut-moving.ensures.back) (All-drop IsValue (length c.split_at.result.0.now) c.deref_mut.result.now pushed) in
    subst (λ (zs : List ℤ). All IsValue zs) (sym (whole c)) (All-append IsValue c.move_positions.new.positions c.split_at_mut-moving.result.1.now c.in_ok-move_positions.ensures.values back)

use Rattle.std.proofs.Common.{◌≡◌, ℕ, ◌+◌, Bool, true, false, not, ◌&&◌, ◌||◌, nat_eq, length, ap, sym, ◌∙◌, arith}
use Rattle.std.proofs.lemmas.Bool.{eq-eqb}
use Rattle.std.proofs.lemmas.Bool.Decides.{nat_tests}
use Rattle.participant_words.specs.Begun.{ends_window}
use Rattle.participant_state.specs.Member.{Member}
use Rattle.participant_state.proofs.TablesMean.{steps_written}
use Rattle.participant_state.proofs.local.Local.is_one_too_many.Goals as goal

pub returns-then-len-eq-STEP_LIMIT : goal.returns-then-len-eq-STEP_LIMIT
returns-then-len-eq-STEP_LIMIT c =
    let l = c.self.inside in
    let m : Member = c.args.self.now in
    let count : length m.course.turn.written ≡ length l.times.items =
    ap (λ (m : Member). length m.course.turn.written) (sym c.self.view_is) ∙ steps_written l.clock.window l.clock.iteration l.times.items l.writes in
    let ends : ends_window m.plan m.part m.course.turn c.args.dt ≡ c.ends_with.result =
    ap (λ (m : Member). ends_window m.plan m.part m.course.turn c.args.dt) (sym c.self.view_is)
    ∙ ap (λ (b : Bool). b || nat_eq (l.clock.now + c.args.dt) l.clock.latest) (sym c.self.invariant.2.one_step) ∙ sym c.ends_with.ensures in
    let full : nat_eq (length m.course.turn.written + 1) 1024 ≡ true = eq-eqb (length m.course.turn.written + 1) 1024 (omega (arith, count, c.len.ensures, c.if-len-eq-STEP_LIMIT.true)) in
    sym (ap (λ (b : Bool). b && not (ends_window m.plan m.part m.course.turn c.args.dt)) full ∙ ap not ends)

pub returns-else-len-eq-STEP_LIMIT : goal.returns-else-len-eq-STEP_LIMIT
returns-else-len-eq-STEP_LIMIT c =
    let l = c.self.inside in
    let m : Member = c.args.self.now in
    let count : length m.course.turn.written ≡ length l.times.items =
    ap (λ (m : Member). length m.course.turn.written) (sym c.self.view_is) ∙ steps_written l.clock.window l.clock.iteration l.times.items l.writes in
    let long : length m.course.turn.written ≡ c.len.result = omega (arith, count, c.len.ensures) in
    let same : nat_eq (length m.course.turn.written + 1) 1024 ≡ nat_eq (c.len.result + 1) 1024 = ap (λ (n : ℕ). nat_eq (n + 1) 1024) long in
    let apart : nat_eq (c.len.result + 1) 1024 ≡ false = grind (arith, nat_tests) in
    apart ∙ sym (ap (λ (b : Bool). b && not (ends_window m.plan m.part m.course.turn c.args.dt)) (same ∙ apart))

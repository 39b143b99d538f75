use Rattle.std.proofs.Common.{◌≡◌, nat_eq}
use Rattle.cpl_plan.specs.PlanWords.{passes}
use Rattle.coupled_loop.specs.Given.{Look}
use Rattle.wave_coupling.specs.Posts.{Post}
use Rattle.wave_coupling.specs.InputWave.{input_wave}
use Rattle.core_takes.specs.Numbered.{input_told}
use Rattle.core_takes.specs.Ready.{Tells}
use Rattle.core_takes.proofs.Rows.{row}
use Rattle.core_takes.proofs.takes.inputs.Given as goal

abbrev pub invariant-loop-x : goal.invariant-loop-x
invariant-loop-x l =
    (look : Look Post) → Tells l.plan l.stores l.schemes l.turn look
    → l.inputs.items
    ≡ row (λ x. input_told x (input_wave l.plan look x l.turn.window l.turn.start l.turn.iteration)) (λ x. passes l.plan.exchanges x (λ e. nat_eq e.to l.turn.part)) l.x

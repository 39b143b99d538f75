use Rattle.std.proofs.Common.{◌∙◌, None, map}
use Rattle.wave_coupling.specs.MappedInputs.{mapped_inputs}
use Rattle.core_sides.specs.declared.event.Reply.TheVariants.{Posted, Judged, Faulted, Inputs, Cut, Over}
use Rattle.cpl_plan.specs.declared.words.Verdict.TheVariants.{Again, Converged, AtLimit}
use Rattle.participant_words.specs.Course.{known}
use Rattle.participant_words.specs.Begun.{input_wave_of, newest_input_time}
use Rattle.participant_words.specs.declared.phase.EventKind.TheVariants.{Post, Judge, Take, Stop, End}
use Rattle.participant_words.proofs.PhaseSteps.{to_kind, begun_phase, overflow_phase, post_done, last_done, not_last}
use Rattle.participant_words.proofs.laws.replies_lead_to_their_phases.Goals as goal

pub returns-clause-runs : goal.returns-clause-runs
returns-clause-runs c plan part before inputs mapped out is =
    to_kind plan part before Take (Inputs inputs) out
    ∙ begun_phase plan part (record before { out = None; sources = map (λ input. (input.source_window, input.source_iteration)) inputs }) (newest_input_time inputs)
    (mapped_inputs plan part (known plan part before) before.turn.window before.turn.iteration (map input_wave_of inputs)) mapped is

pub returns-clause-overflows : goal.returns-clause-overflows
returns-clause-overflows c plan part before inputs fault out is =
    to_kind plan part before Take (Inputs inputs) out
    ∙ overflow_phase plan part (record before { out = None; sources = map (λ input. (input.source_window, input.source_iteration)) inputs }) (newest_input_time inputs)
    (mapped_inputs plan part (known plan part before) before.turn.window before.turn.iteration (map input_wave_of inputs)) fault is

pub returns-clause-posted : goal.returns-clause-posted
returns-clause-posted c plan part before out opened alone is =
    to_kind plan part before Post Posted out ∙ post_done plan part (record before { out = None }) opened alone is

pub returns-clause-converged : goal.returns-clause-converged
returns-clause-converged c plan part before out is =
    to_kind plan part before Judge (Judged Converged) out ∙ last_done plan part (record before { out = None }) is

pub returns-clause-at_limit : goal.returns-clause-at_limit
returns-clause-at_limit c plan part before out is =
    to_kind plan part before Judge (Judged AtLimit) out ∙ last_done plan part (record before { out = None }) is

pub returns-clause-repeats : goal.returns-clause-repeats
returns-clause-repeats c plan part before out = to_kind plan part before Judge (Judged Again) out

pub returns-clause-goes_on : goal.returns-clause-goes_on
returns-clause-goes_on c plan part before out is =
    to_kind plan part before Judge (Judged Converged) out ∙ not_last plan part (record before { out = None }) is

pub returns-clause-ended : goal.returns-clause-ended
returns-clause-ended c plan part before out = to_kind plan part before End Over out

pub returns-clause-stopped : goal.returns-clause-stopped
returns-clause-stopped c plan part before out = to_kind plan part before Stop Over out

pub returns-clause-faulted : goal.returns-clause-faulted
returns-clause-faulted c plan part before kind fault out = to_kind plan part before kind (Faulted fault) out

pub returns-clause-cut : goal.returns-clause-cut
returns-clause-cut c plan part before kind who out = to_kind plan part before kind (Cut who) out

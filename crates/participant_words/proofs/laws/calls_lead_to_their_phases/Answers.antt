use Rattle.std.proofs.Common.{refl}
use Rattle.participant_words.proofs.PhaseSteps.{within, at_end, finalizes_from, pending_then}
use Rattle.participant_words.proofs.laws.calls_lead_to_their_phases.Goals as goal

pub returns-clause-begins : goal.returns-clause-begins
returns-clause-begins c plan part before = refl

pub returns-clause-steps : goal.returns-clause-steps
returns-clause-steps c plan part before dt off = within plan part before dt off

pub returns-clause-ends_window : goal.returns-clause-ends_window
returns-clause-ends_window c plan part before dt is = at_end plan part before dt is

pub returns-clause-finalizes : goal.returns-clause-finalizes
returns-clause-finalizes c plan part before off = pending_then plan part before (finalizes_from plan part before before.phase off)

pub returns-clause-is_through : goal.returns-clause-is_through
returns-clause-is_through c plan part before is = rw is refl

pub returns-clause-stops : goal.returns-clause-stops
returns-clause-stops c plan part before why = refl

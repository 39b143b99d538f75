-- What was judged, as a judgement of the coupling. The project's own.
use Rattle.std.specs.Prelude.{Option, Some, None}
use Rattle.cpl_plan.specs.declared.words.Fault.{Fault}
use Rattle.cpl_plan.specs.declared.words.Verdict.{Verdict}
use Rattle.cpl_plan.specs.declared.words.Verdict.TheVariants.{Again, Converged, AtLimit, NotConverged}
use Rattle.coupled_loop.specs.Endings.{Judgement, again, converged, at_limit, refused}
use Rattle.group_course.specs.declared.judged.Judged.{Judged}

abbrev pub judgement_by : Option Fault → Verdict → Judgement Fault
judgement_by (Some fault) verdict = refused fault
judgement_by None Again = again
judgement_by None Converged = converged
judgement_by None AtLimit = at_limit
-- which has a fault always
judgement_by None (NotConverged measure) = again

abbrev pub judgement_of : Judged → Judgement Fault
judgement_of judged = judgement_by judged.fault judged.verdict

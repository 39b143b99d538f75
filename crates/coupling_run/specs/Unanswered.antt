-- Why a load leaves the program without an answer. The project's own.
use Rattle.std.specs.Prelude.{◌≡◌}
use Rattle.io_edge.specs.declared.files.LoadErr.{LoadErr}
use Rattle.io_edge.specs.declared.files.LoadErr.TheVariants.{Failed, Memory}
use Rattle.coupling_run.specs.declared.answer.Unanswered.{Unanswered}
use Rattle.coupling_run.specs.declared.answer.Unanswered.TheVariants.{ReadFault, Memory as NoMemory}

abbrev pub IsUnansweredBy : LoadErr → Unanswered → Type 0
IsUnansweredBy Failed reason = reason ≡ ReadFault
IsUnansweredBy Memory reason = reason ≡ NoMemory

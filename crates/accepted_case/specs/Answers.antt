-- What a call that loads a coupling answers. The project's own.
use Rattle.std.specs.Prelude.{◌≡◌, Option, Some, Result, Ok, Err}
use Rattle.io_edge.specs.declared.files.LoadErr.{LoadErr}
use Rattle.io_edge.specs.declared.files.LoadErr.TheVariants.{Failed, Memory as NoMemory}
use Rattle.accepted_case.specs.declared.parts.AcceptedCase.{AcceptedCase}
use Rattle.accepted_case.specs.declared.parts.RefusedCase.{RefusedCase}
use Rattle.accepted_case.specs.declared.case_err.CaseErr.{CaseErr}
use Rattle.accepted_case.specs.declared.case_err.CaseErr.TheVariants.{ReadFault, Refused, Memory}

-- what the files are, unless a load failed or memory was wanting
abbrev pub AnswersFiles : Option (Result AcceptedCase RefusedCase) → Result AcceptedCase CaseErr → Type 0
AnswersFiles found (Ok accepted) = found ≡ Some (Ok accepted)
AnswersFiles found (Err (Refused refused)) = found ≡ Some (Err refused)
AnswersFiles found (Err ReadFault) = Unit {0}
AnswersFiles found (Err Memory) = Unit {0}

-- how a load that gave no bytes is told
abbrev pub IsToldBy : LoadErr → CaseErr → Type 0
IsToldBy Failed error = error ≡ ReadFault
IsToldBy NoMemory error = error ≡ Memory

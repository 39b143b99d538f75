use Rattle.cpl_config.proofs.Faults.{answered}
use Rattle.case_files.proofs.CaseFaults.{first_case_fault, fault_at_case, no_case_fault, sound_case_file}
use Rattle.case_files.specs.CaseAcceptance.{case_acceptance}
use Rattle.case_files.specs.NoCaseFault.{HasNoCaseFault}
use Rattle.case_files.specs.SoundCase.{IsSoundCaseFile}
use Rattle.case_files.proofs.read.read_case.Goals as goal

pub returns-clause-accepted : goal.returns-clause-accepted
returns-clause-accepted c =
    answered IsSoundCaseFile (case_acceptance c.args.part c.args.bytes.now) c.file_case.result c.file_case.ensures (sound_case_file c.args.part c.args.bytes.now)

pub returns-clause-unbroken : goal.returns-clause-unbroken
returns-clause-unbroken c =
    answered (λ _. HasNoCaseFault c.args.part c.args.bytes.now) (case_acceptance c.args.part c.args.bytes.now) c.file_case.result c.file_case.ensures
    (no_case_fault c.args.part c.args.bytes.now)

pub returns-clause-first : goal.returns-clause-first
returns-clause-first c = λ refusal e. first_case_fault c.args.part c.args.bytes.now refusal (rw e at c.file_case.ensures)

pub returns-clause-place : goal.returns-clause-place
returns-clause-place c = λ refusal e.
    fault_at_case c.args.part c.args.bytes.now refusal (first_case_fault c.args.part c.args.bytes.now refusal (rw e at c.file_case.ensures))

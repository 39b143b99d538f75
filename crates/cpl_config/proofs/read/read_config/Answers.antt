use Rattle.cpl_config.proofs.Faults.{first_fault, no_fault, sound_file, answered}
use Rattle.cpl_config.specs.Acceptance.{acceptance}
use Rattle.cpl_config.specs.NoFault.{HasNoFault}
use Rattle.cpl_config.specs.SoundConfig.{IsSoundConfig}
use Rattle.cpl_config.proofs.read.read_config.Goals as goal

pub returns-clause-accepted : goal.returns-clause-accepted
returns-clause-accepted c = answered IsSoundConfig (acceptance c.args.bytes.now) c.file_config.result c.file_config.ensures (sound_file c.args.bytes.now)

pub returns-clause-unbroken : goal.returns-clause-unbroken
returns-clause-unbroken c = answered (λ _. HasNoFault c.args.bytes.now) (acceptance c.args.bytes.now) c.file_config.result c.file_config.ensures (no_fault c.args.bytes.now)

pub returns-clause-first : goal.returns-clause-first
returns-clause-first c = λ refusal e. first_fault c.args.bytes.now refusal (rw e at c.file_config.ensures)

-- The numbers of the program's statuses. The project's own.
use Rattle.std.specs.Prelude.{ℕ}
use Rattle.coupling_run.specs.declared.status.Status.{Status}
use Rattle.coupling_run.specs.declared.status.Status.TheVariants.{Ok, Usage, ReadFault, Refused, RunFault, WriteFault, Memory}

abbrev pub status_number : Status → ℕ
status_number Ok = 0
status_number Usage = 2
status_number ReadFault = 3
status_number Refused = 4
status_number RunFault = 5
status_number WriteFault = 6
status_number Memory = 7

-- How a participant ends that stops: by its fault, or for want of memory. The project's own.
use Rattle.core_sides.specs.declared.event.StopCause.{StopCause}
use Rattle.core_sides.specs.declared.event.StopCause.TheVariants.{Fault, NoMemory}
use Rattle.core_sides.specs.declared.event.Ending.{Ending}
use Rattle.core_sides.specs.declared.event.Ending.TheVariants.{Faulted, NoMemory as NoMemoryEnding}

abbrev pub stop_ending : StopCause → Ending
stop_ending (Fault fault) = Faulted fault
stop_ending NoMemory = NoMemoryEnding

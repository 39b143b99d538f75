-- The entries that the code holds by reference, as entries. The project's own.
use Rattle.mesh_rules.specs.declared.entries.At.{At}
use Rattle.mesh_rules.specs.declared.entries.At.TheVariants as A
use Rattle.mesh_rules.specs.declared.entries.EntrySpot.{EntrySpot}
use Rattle.mesh_rules.specs.Entries.{Held, whole, datum, mesh, participant, received, written, read, mapped, watched, acted, scheme, exchanged, measured, accelerated, Entry}

-- what the references lead to
abbrev pub held_of : At → Held
held_of (A.Whole config) = whole
held_of (A.Data table) = datum table.now
held_of (A.Mesh table) = mesh table.now
held_of (A.Participant table) = participant table.now
held_of (A.Receives table earlier entry) = received table.now earlier.now entry.now
held_of (A.Write table entry) = written table.now entry.now
held_of (A.Read table earlier entry) = read table.now earlier.now entry.now
held_of (A.Map table earlier entry) = mapped table.now earlier.now entry.now
held_of (A.Watch table entry) = watched table.now entry.now
held_of (A.Action table earlier entry) = acted table.now earlier.now entry.now
held_of (A.Scheme earlier table) = scheme earlier.now table.now
held_of (A.Exchange table entry) = exchanged table.now entry.now
held_of (A.Measure table entry) = measured table.now entry.now
held_of (A.Acceleration table entry) = accelerated table.now entry.now

abbrev pub entry_of : EntrySpot → Entry
entry_of spot = record { place = spot.place; held = held_of spot.at }

-- What is posted by what is kept of the exchanges that are sent: the wave of each, mapped where it has a write mapping. After the coupling documentation's write mappings, initial data and substeps.
use Rattle.std.specs.Prelude.{ℕ, ◌-◌, ◌*◌, Bool, if◌then◌else◌, List, [], ◌∷◌, map, drop, length, replicate, slice_get, Option, Some, Result, Ok, Err, pos}
use Rattle.std.specs.Option.{option_map_or}
use Rattle.waveform.specs.declared.field.Field.{Field}
use Rattle.cpl_plan.specs.declared.words.Fault.{Fault}
use Rattle.cpl_plan.specs.declared.words.Fault.TheVariants.{WriteMap}
use Rattle.wave_coupling.specs.Posts.{Wave, Post}
use Rattle.wave_coupling.specs.Mapped.{OutOfRange, all_or_first}
use Rattle.participant_tables.specs.WriteKept.{WriteKept, field_of}
use Rattle.participant_waves.specs.Passages.{through}
use Rattle.participant_waves.specs.declared.sending.Sending.{Sending}
use Rattle.participant_waves.specs.declared.sends.Sends.{Sends}

-- all samples of a turn, or the last one alone
abbrev pub chosen : (substeps : Bool) → Wave → Wave
chosen substeps samples = if substeps then samples else drop (length samples - 1) samples

-- a wave as it goes over, or the fault of its mapping
abbrev pub sent_or_fault : (part w k x : ℕ) → Result Wave OutOfRange → Result Wave (Option Fault)
sent_or_fault part w k x (Ok wave) = Ok wave
sent_or_fault part w k x (Err at) = Err (Some (WriteMap part w k x at.time at.vertex at.component))

-- of the samples of its entry
abbrev pub wave_sent : (part w k : ℕ) → Sending → (samples : Wave) → Result Wave (Option Fault)
wave_sent part w k sending samples = sent_or_fault part w k sending.exchange (through sending.map (chosen sending.sent.substeps samples))

-- of the field that its entry has at the start
abbrev pub zeros_sent : Sending → Wave
zeros_sent sending = record { time = 0; field = record { components = sending.components; values = replicate (sending.vertices * sending.components) (pos 0) } } ∷ []

abbrev pub initial_wave_sent : (part : ℕ) → Sending → Field → Result Wave (Option Fault)
initial_wave_sent part sending field =
    if sending.sent.initialize then sent_or_fault part 0 0 sending.exchange (through sending.map (record { time = 0; field = field } ∷ []))
    else Ok (zeros_sent sending)

-- the samples of the entry that is sent, and its values as they stand
abbrev pub samples_of : List WriteKept → Sending → Wave
samples_of writes sending = option_map_or (λ e. e.samples) (slice_get writes sending.entry) []

abbrev pub no_field : Field
no_field = record { components = 0; values = [] }

abbrev pub field_at : List WriteKept → Sending → Field
field_at writes sending = option_map_or field_of (slice_get writes sending.entry) no_field

-- what is posted of a turn, and of initial data
abbrev pub turn_sent : Sends → (w k : ℕ) → List WriteKept → Result Post (Option Fault)
turn_sent sends w k writes = all_or_first (map (λ s. wave_sent sends.part w k s (samples_of writes s)) sends.sendings)

abbrev pub initial_sent : Sends → List WriteKept → Result Post (Option Fault)
initial_sent sends writes = all_or_first (map (λ s. initial_wave_sent sends.part s (field_at writes s)) sends.sendings)

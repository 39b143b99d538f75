-- What participants post: a wave for each exchange that they send. From the coupling documentation, where data are written at several times of a window; a list of waves is the project's own.
use Rattle.std.specs.Prelude.{ℕ, ◌-◌, nat_eq, List, [], length, filter, find, slice_get, zip, Option, option_map, option_to_list, ℤ}
use Rattle.std.specs.Option.{option_map_or}
use Rattle.cpl_plan.specs.PlanWords.{passes, numbers}
use Rattle.cpl_plan.specs.declared.parts.PlanParts.{PlanParts}
use Rattle.cpl_plan.specs.declared.parts.Exchange.{Exchange}
use Rattle.waveform.specs.declared.sample.Sample.{Sample}

abbrev pub Wave : Type 0
Wave = List Sample

-- one wave for each exchange that the participant sends, in order
abbrev pub Post : Type 0
Post = List Wave

-- the exchanges that a participant sends, and those that it receives, in order
abbrev pub sent : PlanParts → (part : ℕ) → List ℕ
sent plan part = filter (λ x. passes plan.exchanges x (λ e. nat_eq e.from part)) (numbers plan.exchanges)

abbrev pub received : PlanParts → (part : ℕ) → List ℕ
received plan part = filter (λ x. passes plan.exchanges x (λ e. nat_eq e.to part)) (numbers plan.exchanges)

-- the wave of an exchange in its sender's post
abbrev pub wave_of : PlanParts → Exchange → (x : ℕ) → Post → Wave
wave_of plan e x post = option_map_or (λ pair. pair.1) (find (λ pair. nat_eq pair.0 x) (zip (sent plan e.from) post)) []

abbrev pub newest_sample : Wave → Option Sample
newest_sample wave = slice_get wave (length wave - 1)

-- the time of the newest sample of a post
abbrev pub newest_time : Post → ℕ
newest_time post = option_map_or (λ wave. option_map_or (λ sample. sample.time) (newest_sample wave) 0) (slice_get post 0) 0

abbrev pub moved_to : (time : ℕ) → Sample → Sample
moved_to time sample = record sample { time = time }

-- the newest sample alone, at another time
abbrev pub at_time : (time : ℕ) → Wave → Wave
at_time time wave = option_to_list (option_map (moved_to time) (newest_sample wave))

-- the values of the newest sample
abbrev pub newest_values : Wave → List ℤ
newest_values wave = option_map_or (λ sample. sample.field.values) (newest_sample wave) []

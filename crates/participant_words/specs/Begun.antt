-- The turns of a participant: how one begins once its inputs are there, and which one is next. From the coupling documentation's windows and their iterations; whole ticks are the project's own.
use Rattle.std.specs.Prelude.{ℕ, ◌+◌, Bool, ◌||◌, nat_eq, if◌then◌else◌, List, [], map, Option}
use Rattle.std.specs.Option.{option_map_or}
use Rattle.cpl_plan.specs.Windows.{window_end, latest_end}
use Rattle.cpl_plan.specs.declared.parts.PlanParts.{PlanParts}
use Rattle.cpl_plan.specs.declared.parts.WindowMethod.{WindowMethod}
use Rattle.cpl_plan.specs.declared.parts.WindowMethod.TheVariants.{Fixed, FirstParticipant}
use Rattle.wave_coupling.specs.Posts.{newest_time}
use Rattle.wave_coupling.specs.InputWave.{InputWave}
use Rattle.wave_coupling.specs.Coupling.{makes_windows}
use Rattle.core_sides.specs.declared.event.Input.{Input}
use Rattle.participant_words.specs.Course.{Turn}

abbrev pub time_or_zero : Option ℕ → ℕ
time_or_zero time = option_map_or (λ t. t) time 0

-- an input as it came, with the turn that its newest sample comes from
abbrev pub input_wave_of : Input → InputWave
input_wave_of input = record { source_window = input.source_window; source_iteration = input.source_iteration; wave = input.wave }

-- when the newest of them ends
abbrev pub newest_input_time : List Input → ℕ
newest_input_time inputs = newest_time (map (λ input. input.wave) inputs)

module _ (plan : PlanParts) where
  -- where a window ends: by its number, or where the participant that makes it has ended it
  abbrev pub end_by : WindowMethod → Turn → (newest : ℕ) → ℕ
  end_by Fixed turn newest = time_or_zero (window_end plan [] turn.window)
  end_by FirstParticipant turn newest = newest

  -- the last window is that of the greatest number, or the one that ends at the end time
  abbrev pub is_last : Turn → Bool
  is_last turn = nat_eq turn.window plan.most_windows || nat_eq plan.end_time turn.now

  module _ (part : ℕ) where
    -- until when the participant may step: to the window's end, or, where its step makes the window, as far as a step may reach
    abbrev pub latest_of : Turn → (newest : ℕ) → ℕ
    latest_of turn newest =
        if makes_windows plan part then latest_end plan turn.start else end_by plan.method turn newest

    -- a turn begins
    abbrev pub begun : Turn → (newest : ℕ) → (inputs : List InputWave) → Turn
    begun turn newest inputs = record turn {
      now = turn.start;
      latest = latest_of turn newest;
      inputs = inputs;
      written = [];
    }

    -- a step of so many ticks ends the window
    abbrev pub ends_window : Turn → (dt : ℕ) → Bool
    ends_window turn dt = makes_windows plan part || nat_eq (turn.now + dt) turn.latest

-- the first turn, the one that repeats a window, and the first of the next window, which starts where this one ends
abbrev pub first_turn : Turn → Turn
first_turn turn = record turn { window = 1; iteration = 1 }

abbrev pub repeated : Turn → Turn
repeated turn = record turn { iteration = turn.iteration + 1; written = [] }

abbrev pub next_window : Turn → Turn
next_window turn = record turn { window = turn.window + 1; iteration = 1; start = turn.now; latest = turn.now; written = [] }

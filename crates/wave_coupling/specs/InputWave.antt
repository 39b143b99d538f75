-- The inputs of a participant at its turn: of which window and iteration each wave is. After the coupling documentation's serial and parallel schemes and its acceleration of whole waveforms; the table is the project's own.
use Rattle.std.specs.Prelude.{ℕ, zero, suc, ◌-◌, ◌==◌, if◌then◌else◌, List, [], ◌++◌, map, position, nat_eq, slice_get, slice_index_or, Option, Some, None, Result, Ok, Err}
use Rattle.std.specs.Option.{option_map_or}
use Rattle.cpl_plan.specs.declared.parts.PlanParts.{PlanParts}
use Rattle.cpl_plan.specs.declared.parts.Exchange.{Exchange}
use Rattle.cpl_plan.specs.declared.parts.Scheme.{Scheme}
use Rattle.cpl_plan.specs.declared.parts.Kind.{Kind}
use Rattle.cpl_plan.specs.declared.parts.Kind.TheVariants.{Lag, Fresh, FreshIter, Iterated}
use Rattle.cpl_plan.specs.declared.parts.Accel.{Accel}
use Rattle.cpl_plan.specs.declared.parts.Accel.TheVariants.{None as NoAccel, Constant, Aitken}
use Rattle.cpl_plan.specs.declared.words.Item.TheVariants.{Completed, Posted}
use Rattle.acceleration.specs.Exchanged.{Exchanged}
use Rattle.acceleration.specs.Outside.{Location}
use Rattle.acceleration.specs.RelaxedIterate.{Iterate, relaxed_iterate}
use Rattle.acceleration.specs.RelaxerState.{RelaxerState, fresh, method_of}
use Rattle.coupled_loop.specs.Given.{Gift, Look}
use Rattle.wave_coupling.specs.Posts.{Wave, Post, wave_of, at_time}

-- what was posted as an item for an exchange, and the iteration that it comes from
pub record Sent : Type 0 where
  pub iteration : ℕ
  pub wave : Wave

-- the exchanges that an acceleration relaxes
abbrev pub over : Accel → List ℕ
over NoAccel = []
over (Constant factor exchanges) = exchanges
over (Aitken first exchanges) = exchanges

-- what relaxation has made of the iterations of a window so far: the relaxed waves of the accelerated exchanges in order, what is remembered, and where a value is out of range
pub record Relaxed : Type 0 where
  pub waves : List Wave
  pub relaxer : RelaxerState
  pub outside : Option Location

-- the first wave of an input, and what may follow
pub record InputWave : Type 0 where
  pub source_window : ℕ
  pub source_iteration : ℕ
  pub wave : Wave

abbrev pub no_input : InputWave
no_input = record { source_window = 0; source_iteration = 0; wave = [] }

module _ (plan : PlanParts) (look : Look Post) where
  -- the wave of exchange x that its sender gave as an item
  abbrev pub sent_as : Exchange → (x : ℕ) → Option (Gift Post) → Sent
  sent_as e x None = record { iteration = 0; wave = [] }
  sent_as e x (Some gift) = record { iteration = gift.iteration; wave = wave_of plan e x gift.post }

  abbrev pub completed : Exchange → (x w : ℕ) → Sent
  completed e x w = sent_as e x (look e.from (Completed w))

  abbrev pub posted : Exchange → (x w k : ℕ) → Sent
  posted e x w k = sent_as e x (look e.from (Posted w k))

  -- e: the values that the sender has accepted at the end of the window before, at the start of window w
  abbrev pub accepted_before : Exchange → (x w start : ℕ) → Wave
  accepted_before e x w start = at_time start (completed e x (w - 1)).wave

  abbrev pub exchange_of : (x : ℕ) → Option Exchange
  exchange_of x = slice_get plan.exchanges x

  -- an accelerated exchange in iteration k: what was read, which after the first iteration ends in the relaxed samples of the one before, and what was posted
  abbrev pub accelerated : (w start k : ℕ) → (before : Wave) → (x : ℕ) → Option Exchange → Exchanged
  accelerated w start k before x None = record { degree = 0; taken = []; posted = [] }
  accelerated w start k before x (Some e) = record {
    degree = option_map_or (λ d. d.degree) (slice_get plan.data_list e.data_id) 0;
    taken = accepted_before e x w start ++ before;
    posted = (posted e x w k).wave;
  }

  -- what becomes of one more iteration
  abbrev pub relaxed_next : Relaxed → Result Iterate Location → Relaxed
  relaxed_next before (Ok iterate) = record { waves = iterate.waves; relaxer = iterate.next; outside = None }
  relaxed_next before (Err location) = record before { outside = Some location }

  -- the relaxed iterates of a scheme's window, after so many iterations
  abbrev pub relaxed_after : Scheme → (w start iterations : ℕ) → Relaxed
  relaxed_after scheme w start zero = record { waves = []; relaxer = fresh (method_of scheme.accel); outside = None }
  relaxed_after scheme w start (suc k) =
      let before = relaxed_after scheme w start k in
      relaxed_next before (relaxed_iterate before.relaxer
      (map (λ x. accelerated w start (suc k) (option_map_or (λ place. slice_index_or before.waves place []) (position (nat_eq x) (over scheme.accel)) []) x (exchange_of x))
      (over scheme.accel)))

  -- the samples that follow e in a repeated window: the relaxed ones of the iteration before, or those that are not relaxed
  abbrev pub iterated_samples : Exchange → (x w start k : ℕ) → Option Scheme → Wave
  iterated_samples e x w start k None = []
  iterated_samples e x w start k (Some scheme) =
      option_map_or (λ place. slice_index_or (relaxed_after scheme w start k).waves place []) (position (nat_eq x) (over scheme.accel))
      (posted e x w k).wave

  -- the input of exchange x at its reader's turn (w, k), by the kind of the exchange
  abbrev pub input_by : Kind → Exchange → (x w start k : ℕ) → InputWave
  input_by Lag e x w start k =
      record { source_window = w - 1; source_iteration = (completed e x (w - 1)).iteration; wave = accepted_before e x w start }
  input_by Fresh e x w start k =
      record { source_window = w; source_iteration = (completed e x w).iteration; wave = accepted_before e x w start ++ (completed e x w).wave }
  input_by FreshIter e x w start k =
      record { source_window = w; source_iteration = k; wave = accepted_before e x w start ++ (posted e x w k).wave }
  input_by Iterated e x w start k =
      if k == 1 then record { source_window = w - 1; source_iteration = (completed e x (w - 1)).iteration; wave = accepted_before e x w start }
      else record {
        source_window = w;
        source_iteration = k - 1;
        wave = accepted_before e x w start ++ iterated_samples e x w start (k - 1) (slice_get plan.schemes e.scheme);
      }

  abbrev pub input_wave : (x w start k : ℕ) → InputWave
  input_wave x w start k = option_map_or (λ e. input_by e.kind e x w start k) (exchange_of x) no_input

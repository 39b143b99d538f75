-- What a coupled simulation leaves, read off its participants as the loop leaves them. After the coupling documentation's convergence files and watch-points; the order of lines and of faults is the project's own.
use Rattle.std.specs.Prelude.{ℕ, ◌-◌, ◌*◌, Bool, false, ◌&&◌, nat_eq, if◌then◌else◌, List, [], ◌∷◌, ◌++◌, map, filter, flat_map, filter_map, find, length, take, drop, slice_get, Option, Some, None, option_map, option_to_list, option_and_then, Result, Ok, Err, ℤ}
use Rattle.std.specs.List.{list_all, enumerate_from, range_with_len}
use Rattle.std.specs.Option.{option_map_or}
use Rattle.plan_order.specs.declared.node.Node.{Node}
use Rattle.plan_order.specs.declared.node.Node.TheVariants.{Single, Group}
use Rattle.mesh_data.specs.Nearest.{nearest_vertex}
use Rattle.cpl_plan.specs.ExchangeKinds.{is_implicit}
use Rattle.cpl_plan.specs.PlanWords.{numbers, components_on}
use Rattle.cpl_plan.specs.Windows.{window_end}
use Rattle.cpl_plan.specs.declared.parts.PlanParts.{PlanParts}
use Rattle.cpl_plan.specs.declared.parts.PlanEntry.{PlanEntry}
use Rattle.cpl_plan.specs.declared.parts.Scheme.{Scheme}
use Rattle.cpl_plan.specs.declared.parts.Watch.{Watch}
use Rattle.cpl_plan.specs.declared.words.Item.TheVariants.{Completed, Posted}
use Rattle.cpl_plan.specs.declared.words.Fault.{Fault}
use Rattle.cpl_plan.specs.declared.words.Fault.TheVariants.{Solver, Steps, WriteMap, ReadMap, Relax, NotConverged}
use Rattle.cpl_plan.specs.declared.words.IterLine.{IterLine}
use Rattle.cpl_plan.specs.declared.words.WatchRow.{WatchRow}
use Rattle.solver_trait.specs.Behaviour.{Behaviour}
use Rattle.waveform.specs.WaveValue.{read}
use Rattle.coupled_loop.specs.Given.{Gift, has_given}
use Rattle.coupled_loop.specs.Endings.{Ending, done, early, faulted, no_memory, cut}
use Rattle.coupled_loop.specs.CoupledLoop.{Parts, look_at, coupled}
use Rattle.coupled_loop.specs.PlanFrames.{members_of, iterations_of, owners_of, ends_made, window_maker}
use Rattle.wave_coupling.specs.Posts.{Post, newest_time}
use Rattle.mesh_data.specs.declared.any_mesh.AnyMesh.{AnyMesh}
use Rattle.wave_coupling.specs.InputWave.{InputWave}
use Rattle.wave_coupling.specs.Judged.{measured_in, verdict_in}
use Rattle.wave_coupling.specs.Noted.{Reading, Written, Note, reads, writes}
use Rattle.wave_coupling.specs.Known.{Known, points_of, read_entries, write_entries}
use Rattle.wave_coupling.specs.PostedWaves.{values_at}
use Rattle.wave_coupling.specs.MappedInputs.{mapped_inputs, input_for, degree_of}
use Rattle.wave_coupling.specs.Coupling.{start_of, inputs_of, wave_frame, wave_solvers}

-- what each participant has read, its last state, and how many steps it has made; the lines on iterations, what watch-points show, the ends of the windows that all have completed, and the faults in the order in which the loop meets them
pub record Results (State : Type 0) : Type 0 where
  pub readings : List (List Reading)
  pub states : List State
  pub steps : List ℕ
  pub lines : List IterLine
  pub watches : List WatchRow
  pub ends : List ℕ
  pub faults : List Fault

abbrev pub as_reading : Note → Option Reading
as_reading (reads reading) = Some reading
as_reading (writes written) = None

abbrev pub as_written : Note → Option Written
as_written (reads reading) = None
as_written (writes written) = Some written

-- where a fault is met: in which window and iteration, by a participant itself or by a scheme
abbrev pub is_own_at : (part w k : ℕ) → Fault → Bool
is_own_at part w k (Solver p v j step code) = nat_eq p part && nat_eq v w && nat_eq j k
is_own_at part w k (Steps p v j) = nat_eq p part && nat_eq v w && nat_eq j k
is_own_at part w k (WriteMap p v j x time vertex component) = nat_eq p part && nat_eq v w && nat_eq j k
is_own_at part w k (ReadMap p v j x time vertex component) = nat_eq p part && nat_eq v w && nat_eq j k
is_own_at part w k (Relax scheme v j x time component) = false
is_own_at part w k (NotConverged scheme v j measure) = false

abbrev pub is_of_scheme_at : (scheme w k : ℕ) → Fault → Bool
is_of_scheme_at scheme w k (Relax s v j x time component) = nat_eq s scheme && nat_eq v w && nat_eq j k
is_of_scheme_at scheme w k (NotConverged s v j measure) = nat_eq s scheme && nat_eq v w && nat_eq j k
is_of_scheme_at scheme w k _ = false

abbrev pub fault_of : Ending Fault → Option Fault
fault_of done = None
fault_of early = None
fault_of (faulted fault) = Some fault
fault_of no_memory = None
fault_of cut = None

-- a step that ends a turn by the fault Steps is not counted
abbrev pub uncounted : Option Fault → ℕ
uncounted None = 0
uncounted (Some (Steps part w k)) = 1
uncounted (Some _) = 0

module _ (plan : PlanParts) (meshes : ℕ → List AnyMesh) {State : Type 0} (parts : Parts (List AnyMesh) Post Fault State Note) where
  abbrev pub windows : List ℕ
  windows = range_with_len 1 plan.most_windows

  abbrev pub fault_in : (part : ℕ) → Option Fault
  fault_in part = option_and_then fault_of (parts part).stopped

  abbrev pub readings_in : (part : ℕ) → List Reading
  readings_in part = filter_map as_reading (parts part).held.notes

  abbrev pub written_in : (part : ℕ) → List Written
  written_in part = filter_map as_written (parts part).held.notes

  abbrev pub steps_in : (part : ℕ) → ℕ
  steps_in part = length (written_in part) - uncounted (fault_in part)

  -- the verdict of an iteration is taken where all members have posted it
  abbrev pub is_judged : (scheme w k : ℕ) → Bool
  is_judged scheme w k = list_all (λ member. has_given (look_at parts) member (Posted w k)) (members_of plan scheme)

  abbrev pub line_of : (number w k : ℕ) → Scheme → IterLine
  line_of number w k scheme = record {
    scheme = number;
    window = w;
    iteration = k;
    verdict = verdict_in plan (look_at parts) scheme w (start_of plan (look_at parts) w) k;
    norms = map (λ measure. (measured_in plan (look_at parts) w (start_of plan (look_at parts) w) k measure).change) scheme.measures;
  }

  abbrev pub lines_of : (w number : ℕ) → Scheme → List IterLine
  lines_of w number scheme =
      if is_implicit scheme.kind
      then map (λ k. line_of number w k scheme) (filter (is_judged number w) (range_with_len 1 scheme.max))
      else []

  -- by window, scheme, iteration
  abbrev pub lines_in : List IterLine
  lines_in = flat_map (λ w. flat_map (λ at. lines_of w at.0 at.1) (enumerate_from 0 plan.schemes)) windows

  -- the end of a window; 0 where it has none
  abbrev pub end_of : (w : ℕ) → ℕ
  end_of w = option_map_or (λ end. end) (window_end plan (ends_made newest_time (look_at parts) (window_maker plan) w) w) 0

  abbrev pub is_completed : (w : ℕ) → Bool
  is_completed w = list_all (λ part. has_given (look_at parts) part (Completed w)) (numbers plan.parts)

  abbrev pub ends_in : List ℕ
  ends_in = map end_of (filter is_completed windows)

  module _ (part : ℕ) where
    abbrev pub known_of : Known
    known_of = record { own = meshes part; received = map meshes (owners_of plan part) }

    -- the components at a vertex, of the values of an entry
    abbrev pub components_at : PlanEntry → (vertex : ℕ) → List ℤ → List ℤ
    components_at entry vertex values =
        let n = option_map_or (λ n. n) (components_on plan entry.data_id entry.mesh) 0 in take n (drop (vertex * n) values)

    -- what was written of an entry at the end of a window's accepted iteration
    abbrev pub last_written : (w k : ℕ) → List ℤ
    last_written w k =
        option_map_or (λ written. written.values)
        (find (λ written. nat_eq written.window w && nat_eq written.iteration k && nat_eq written.time (end_of w)) (written_in part)) []

    abbrev pub shown_written : PlanEntry → (vertex w k : ℕ) → List ℤ
    shown_written entry vertex w k =
        components_at entry vertex (values_at plan part known_of (write_entries plan part) entry (last_written w k))

    -- what an entry reads at the end of a window, from the mapped inputs of its accepted iteration
    abbrev pub read_then : PlanEntry → (w : ℕ) → Result (List InputWave) (Option Fault) → List ℤ
    read_then entry w (Ok inputs) = read (input_for plan part inputs entry).wave (degree_of plan part entry) (end_of w)
    read_then entry w (Err why) = []

    abbrev pub shown_read : PlanEntry → (vertex w k : ℕ) → List ℤ
    shown_read entry vertex w k =
        components_at entry vertex
        (read_then entry w (mapped_inputs plan part known_of w k (inputs_of plan (look_at parts) part w k).waves))

    abbrev pub watched : Watch → PlanEntry → Bool
    watched watch entry = nat_eq entry.mesh watch.mesh

    -- what is written and what is read on the watched mesh, at the vertex nearest to the point
    abbrev pub values_shown : Watch → (vertex w k : ℕ) → List ℤ
    values_shown watch vertex w k =
        flat_map (λ entry. shown_written entry vertex w k) (filter (watched watch) (write_entries plan part))
        ++ flat_map (λ entry. shown_read entry vertex w k) (filter (watched watch) (read_entries plan part))

    abbrev pub row_of : (number w : ℕ) → Watch → Gift Post → WatchRow
    row_of number w watch gift = record {
      part = part;
      watch = number;
      window = w;
      values = values_shown watch (nearest_vertex (points_of plan part known_of watch.mesh) watch.at) w gift.iteration;
    }

    -- a row for each window that the participant has completed
    abbrev pub rows_of : (number : ℕ) → Watch → List WatchRow
    rows_of number watch = filter_map (λ w. option_map (row_of number w watch) (look_at parts part (Completed w))) windows

    abbrev pub rows_in : List WatchRow
    rows_in = flat_map (λ at. rows_of at.0 at.1) (enumerate_from 0 (option_map_or (λ p. p.watches) (slice_get plan.parts part) []))

  -- the faults of one turn: those of members in order, then the scheme's, once
  abbrev pub own_faults : (w k : ℕ) → List ℕ → List Fault
  own_faults w k members = filter_map (λ member. option_and_then (λ fault. if is_own_at member w k fault then Some fault else None) (fault_in member)) members

  abbrev pub scheme_fault : (scheme w k : ℕ) → List Fault
  scheme_fault scheme w k =
      option_to_list (find (is_of_scheme_at scheme w k) (filter_map fault_in (members_of plan scheme)))

  abbrev pub faults_of : (w : ℕ) → Node → List Fault
  faults_of w (Single part) = own_faults w 1 (part ∷ [])
  faults_of w (Group scheme) =
      flat_map (λ k. own_faults w k (members_of plan scheme) ++ scheme_fault scheme w k) (range_with_len 1 (iterations_of plan scheme))

  -- those of initial data come first, then window by window and node by node
  abbrev pub faults_in : List Fault
  faults_in = own_faults 0 0 (numbers plan.parts) ++ flat_map (λ w. flat_map (faults_of w) plan.nodes) windows

  abbrev pub results_of : Results State
  results_of = record {
    readings = map readings_in (numbers plan.parts);
    states = map (λ part. (parts part).held.state) (numbers plan.parts);
    steps = map steps_in (numbers plan.parts);
    lines = lines_in;
    watches = flat_map rows_in (numbers plan.parts);
    ends = ends_in;
    faults = faults_in;
  }

-- what the loop of a coupling leaves
abbrev pub loop_results : {State : Type 0} → PlanParts → (meshes : ℕ → List AnyMesh) → (solvers : ℕ → Behaviour State) → (states : ℕ → State) → Results State
loop_results plan meshes solvers states =
    results_of plan meshes (coupled (wave_frame plan) (wave_solvers plan meshes solvers states))

-- the first fault of the loop, if there is one
abbrev pub first_fault : {State : Type 0} → Results State → Option Fault
first_fault results = slice_get results.faults 0

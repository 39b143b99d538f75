-- The results of two systems of participants are the same where each has noted, holds and has given the same, and has the same fault.
use Rattle.std.proofs.Common.{◌≡◌, ℕ, ◌-◌, List, [], ◌∷◌, ◌++◌, length, map, filter_map, flat_map, find, Option, Some, None, option_and_then, option_to_list, refl, ap, sym, ◌∙◌}
use Rattle.std.specs.Prelude.{if◌then◌else◌}
use Rattle.std.specs.List.{range_with_len}
use Rattle.std.proofs.Math.Path.{fun_ext}
use Rattle.plan_order.specs.declared.node.Node.{Node}
use Rattle.plan_order.specs.declared.node.Node.TheVariants.{Single, Group}
use Rattle.mesh_data.specs.declared.any_mesh.AnyMesh.{AnyMesh}
use Rattle.cpl_plan.specs.PlanWords.{numbers}
use Rattle.cpl_plan.specs.declared.parts.PlanParts.{PlanParts}
use Rattle.cpl_plan.specs.declared.words.Fault.{Fault}
use Rattle.coupled_loop.specs.Given.{Gift}
use Rattle.coupled_loop.specs.Endings.{Ending}
use Rattle.coupled_loop.specs.Solving.{Held}
use Rattle.coupled_loop.specs.CoupledLoop.{Parts}
use Rattle.coupled_loop.specs.PlanFrames.{members_of, iterations_of}
use Rattle.wave_coupling.specs.Posts.{Post}
use Rattle.wave_coupling.specs.Noted.{Note}
use Rattle.wave_coupling.specs.LoopResults.{Results, is_own_at, is_of_scheme_at, fault_of, uncounted, fault_in, faults_of, faults_in, readings_in, written_in, lines_in, ends_in, rows_in, results_of}

abbrev pub WaveHeld : Type 0 → Type 0
WaveHeld State = Held (List AnyMesh) State Note

abbrev pub WaveParts : Type 0 → Type 0
WaveParts State = Parts (List AnyMesh) Post Fault State Note

-- participants by what they hold, what they have given and how they have stopped
abbrev parts_by : {State : Type 0} → (ℕ → WaveHeld State) → (ℕ → List (Gift Post)) → (ℕ → Option (Ending Fault)) → WaveParts State
parts_by held given stopped part = record { held = held part; given = given part; stopped = stopped part }

-- the meshes that somebody holds are not looked at
abbrev pub without_meshes : {State : Type 0} → WaveHeld State → WaveHeld State
without_meshes held = record held { received = [] }

module _ (plan : PlanParts) where
  -- the faults, by the fault of each participant
  abbrev own_by : (ℕ → Option Fault) → (w k : ℕ) → List ℕ → List Fault
  own_by faults w k members = filter_map (λ member. option_and_then (λ fault. if is_own_at member w k fault then Some fault else None) (faults member)) members

  abbrev faults_by : (ℕ → Option Fault) → (w : ℕ) → Node → List Fault
  faults_by faults w (Single part) = own_by faults w 1 (part ∷ [])
  faults_by faults w (Group scheme) =
      flat_map (λ k. own_by faults w k (members_of plan scheme) ++ option_to_list (find (is_of_scheme_at scheme w k) (filter_map faults (members_of plan scheme))))
      (range_with_len 1 (iterations_of plan scheme))

  abbrev all_by : (ℕ → Option Fault) → (ℕ → Node → List Fault) → List Fault
  all_by faults of_node = own_by faults 0 0 (numbers plan.parts) ++ flat_map (λ w. flat_map (of_node w) plan.nodes) (range_with_len 1 plan.most_windows)

module _ {State : Type 0} (plan : PlanParts) (meshes : ℕ → List AnyMesh) where
  node_same : (parts : WaveParts State) (w : ℕ) (node : Node) → faults_of plan meshes parts w node ≡ faults_by plan (fault_in plan meshes parts) w node
  node_same parts w (Single part) = refl
  node_same parts w (Group scheme) = refl

  faults_same : (parts : WaveParts State) → faults_in plan meshes parts ≡ all_by plan (fault_in plan meshes parts) (faults_by plan (fault_in plan meshes parts))
  faults_same parts =
      ap (λ (of_node : ℕ → Node → List Fault). all_by plan (fault_in plan meshes parts) of_node) (fun_ext (λ w. fun_ext (λ node. node_same parts w node)))

  -- the results, but for steps and faults
  abbrev results_with : WaveParts State → List ℕ → List Fault → Results State
  results_with parts steps faults = record {
    readings = map (readings_in plan meshes parts) (numbers plan.parts);
    states = map (λ part. (parts part).held.state) (numbers plan.parts);
    steps = steps;
    lines = lines_in plan meshes parts;
    watches = flat_map (rows_in plan meshes parts) (numbers plan.parts);
    ends = ends_in plan meshes parts;
    faults = faults;
  }

  abbrev steps_by : WaveParts State → (ℕ → Option Fault) → List ℕ
  steps_by parts faults = map (λ part. length (written_in plan meshes parts part) - uncounted (faults part)) (numbers plan.parts)

  -- how somebody has stopped is seen by its fault alone
  module _ (held : ℕ → WaveHeld State) (given : ℕ → List (Gift Post)) (one other : ℕ → Option (Ending Fault)) where
    rest_same : (steps : List ℕ) (faults : List Fault) → results_with (parts_by held given one) steps faults ≡ results_with (parts_by held given other) steps faults
    rest_same steps faults = refl

    stop_same : ((part : ℕ) → option_and_then fault_of (one part) ≡ option_and_then fault_of (other part))
        → results_of plan meshes (parts_by held given one) ≡ results_of plan meshes (parts_by held given other)
    stop_same same =
        let faults : (λ (part : ℕ). option_and_then fault_of (one part)) ≡ (λ part. option_and_then fault_of (other part)) = fun_ext same in
        ap (λ (all : List Fault). results_with (parts_by held given one) (steps_by (parts_by held given one) (fault_in plan meshes (parts_by held given one))) all)
        (faults_same (parts_by held given one))
        ∙ rest_same (steps_by (parts_by held given one) (fault_in plan meshes (parts_by held given one)))
        (all_by plan (fault_in plan meshes (parts_by held given one)) (faults_by plan (fault_in plan meshes (parts_by held given one))))
        ∙ ap (λ (f : ℕ → Option Fault). results_with (parts_by held given other) (steps_by (parts_by held given other) f) (all_by plan f (faults_by plan f))) faults
        ∙ sym (ap (λ (all : List Fault). results_with (parts_by held given other) (steps_by (parts_by held given other) (fault_in plan meshes (parts_by held given other))) all)
        (faults_same (parts_by held given other)))

  meshes_same : (held : ℕ → WaveHeld State) (given : ℕ → List (Gift Post)) (stopped : ℕ → Option (Ending Fault))
      → results_of plan meshes (parts_by held given stopped) ≡ results_of plan meshes (parts_by (λ part. without_meshes (held part)) given stopped)
  meshes_same held given stopped = refl

  pub results_same : (one other : WaveParts State) → ((part : ℕ) → without_meshes (one part).held ≡ without_meshes (other part).held)
      → ((part : ℕ) → (one part).given ≡ (other part).given)
      → ((part : ℕ) → option_and_then fault_of (one part).stopped ≡ option_and_then fault_of (other part).stopped)
      → results_of plan meshes one ≡ results_of plan meshes other
  results_same one other held given stopped =
      meshes_same (λ part. (one part).held) (λ part. (one part).given) (λ part. (one part).stopped)
      ∙ ap (λ (g : ℕ → List (Gift Post)). results_of plan meshes (parts_by (λ part. without_meshes (one part).held) g (λ part. (one part).stopped))) (fun_ext given)
      ∙ ap (λ (h : ℕ → WaveHeld State). results_of plan meshes (parts_by h (λ part. (other part).given) (λ part. (one part).stopped))) (fun_ext held)
      ∙ stop_same (λ part. without_meshes (other part).held) (λ part. (other part).given) (λ part. (one part).stopped) (λ part. (other part).stopped) stopped
      ∙ sym (meshes_same (λ part. (other part).held) (λ part. (other part).given) (λ part. (other part).stopped))

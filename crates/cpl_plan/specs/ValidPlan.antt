-- What an accepted configuration says of its numbers. From the coupling documentation's configuration; the limits and the restrictions on compositions are the project's own.
use Rattle.std.specs.Prelude.{ℕ, ◌^◌, ◌≤◌, IsTrue, length, sum_by}
use Rattle.cpl_plan.specs.PlanTests.{do_windows_reach, fits_method, are_names, are_parts_named_once, are_meshes_named_once, are_data_named_once, are_watches_named_once, have_one_provider, have_dimensions, have_declared_data, have_data_once, have_degrees, are_provided_declared, are_provided_once, are_received_declared, are_received_from_others, are_received_once, are_written_on_own_meshes, are_read_on_own_meshes, are_written_once, are_read_once, are_fed_once, do_maps_join, are_maps_once, are_watched_on_own_meshes, are_few_received, are_few_written, are_few_read, are_few_maps, are_in_a_scheme, are_in_one_group, are_members_declared, are_members_once, are_members_counted, do_meet_once, have_iterations, have_measures, are_measured_first, have_limits, have_accelerations, stand_by_scheme, join_two_members, are_carried, do_cross, have_kinds, are_written, are_read}
use Rattle.plan_order.specs.NodeOrder.{IsNodeOrder}
use Rattle.cpl_plan.specs.PlanNodes.{node_members, solved_before}
use Rattle.cpl_plan.specs.declared.parts.PlanParts.{PlanParts}

-- a count from one to a limit
abbrev pub IsCount : (limit n : ℕ) → Type 0
IsCount limit n = (1 ≤ n) × (n ≤ limit)

-- sizes and names
pub record HasSizes (plan : PlanParts) : Type 0 where
  pub window : IsCount (10 ^ 9) plan.window
  pub end_time : IsCount (10 ^ 15) plan.end_time
  pub windows : IsCount (10 ^ 6) plan.most_windows
  pub windows_reach : IsTrue (do_windows_reach plan)
  pub parts : IsCount 64 (length plan.parts)
  pub meshes : length plan.meshes ≤ 64
  pub data_items : length plan.data_list ≤ 64
  pub schemes : IsCount 64 (length plan.schemes)
  pub exchanges : length plan.exchanges ≤ 256
  pub watches : sum_by (λ part. length part.watches) plan.parts ≤ 64
  pub names : IsTrue (are_names plan)
  pub parts_named_once : IsTrue (are_parts_named_once plan)
  pub meshes_named_once : IsTrue (are_meshes_named_once plan)
  pub data_named_once : IsTrue (are_data_named_once plan)
  pub watches_named_once : IsTrue (are_watches_named_once plan)

pub record HasMeshes (plan : PlanParts) : Type 0 where
  pub one_provider : IsTrue (have_one_provider plan)
  pub dimensions : IsTrue (have_dimensions plan)
  pub data_declared : IsTrue (have_declared_data plan)
  pub data_once : IsTrue (have_data_once plan)
  pub degrees : IsTrue (have_degrees plan)

pub record HasParticipants (plan : PlanParts) : Type 0 where
  pub provided_declared : IsTrue (are_provided_declared plan)
  pub provided_once : IsTrue (are_provided_once plan)
  pub received_declared : IsTrue (are_received_declared plan)
  pub received_from_others : IsTrue (are_received_from_others plan)
  pub received_once : IsTrue (are_received_once plan)
  pub written_on_own_meshes : IsTrue (are_written_on_own_meshes plan)
  pub read_on_own_meshes : IsTrue (are_read_on_own_meshes plan)
  pub written_once : IsTrue (are_written_once plan)
  pub read_once : IsTrue (are_read_once plan)
  pub fed_once : IsTrue (are_fed_once plan)
  pub maps_join : IsTrue (do_maps_join plan)
  pub maps_once : IsTrue (are_maps_once plan)
  pub watched_on_own_meshes : IsTrue (are_watched_on_own_meshes plan)
  pub few_received : IsTrue (are_few_received plan)
  pub few_written : IsTrue (are_few_written plan)
  pub few_read : IsTrue (are_few_read plan)
  pub few_maps : IsTrue (are_few_maps plan)
  pub in_a_scheme : IsTrue (are_in_a_scheme plan)
  pub in_one_group : IsTrue (are_in_one_group plan)

pub record HasSchemes (plan : PlanParts) : Type 0 where
  pub members_declared : IsTrue (are_members_declared plan)
  pub members_once : IsTrue (are_members_once plan)
  pub members_counted : IsTrue (are_members_counted plan)
  pub meet_once : IsTrue (do_meet_once plan)
  pub iterations : IsTrue (have_iterations plan)
  pub measures : IsTrue (have_measures plan)
  pub measured_first : IsTrue (are_measured_first plan)
  pub limits : IsTrue (have_limits plan)
  pub accelerations : IsTrue (have_accelerations plan)
  pub first_step : IsTrue (fits_method plan)

pub record HasExchanges (plan : PlanParts) : Type 0 where
  pub by_scheme : IsTrue (stand_by_scheme plan)
  pub two_members : IsTrue (join_two_members plan)
  pub carried : IsTrue (are_carried plan)
  pub crossing : IsTrue (do_cross plan)
  pub kinds : IsTrue (have_kinds plan)
  pub written : IsTrue (are_written plan)
  pub read : IsTrue (are_read plan)

-- all that an accepted configuration says of a plan
pub record IsValidPlan (plan : PlanParts) : Type 0 where
  pub sizes : HasSizes plan
  pub meshes : HasMeshes plan
  pub participants : HasParticipants plan
  pub schemes : HasSchemes plan
  pub exchanges : HasExchanges plan
  -- nodes stand in the order in which they are solved
  pub nodes : IsNodeOrder (node_members plan) (solved_before plan) plan.nodes

-- The facts of a valid plan that a test tells, each with its name: all but the order of nodes. The project's own.
use Rattle.std.specs.Prelude.{ℕ, ◌^◌, Bool, ◌&&◌, not, nat_le, List, [], ◌∷◌, length, filter, sum_by}
use Rattle.cpl_plan.specs.PlanTests.{do_windows_reach, fits_method, are_names, are_parts_named_once, are_meshes_named_once, are_data_named_once, are_watches_named_once, have_one_provider, have_dimensions, have_declared_data, have_data_once, have_degrees, are_provided_declared, are_provided_once, are_received_declared, are_received_from_others, are_received_once, are_written_on_own_meshes, are_read_on_own_meshes, are_written_once, are_read_once, are_fed_once, do_maps_join, are_maps_once, are_watched_on_own_meshes, are_few_received, are_few_written, are_few_read, are_few_maps, are_in_a_scheme, are_in_one_group, are_members_declared, are_members_once, are_members_counted, do_meet_once, have_iterations, have_measures, are_measured_first, have_limits, have_accelerations, stand_by_scheme, join_two_members, are_carried, do_cross, have_kinds, are_written, are_read}
use Rattle.cpl_plan.specs.declared.parts.PlanParts.{PlanParts}

pub data Fact : Type 0 where
  Window : Fact
  EndTime : Fact
  Windows : Fact
  WindowsReach : Fact
  Parts : Fact
  Meshes : Fact
  DataItems : Fact
  Schemes : Fact
  Exchanges : Fact
  Watches : Fact
  Names : Fact
  PartsNamedOnce : Fact
  MeshesNamedOnce : Fact
  DataNamedOnce : Fact
  WatchesNamedOnce : Fact
  OneProvider : Fact
  Dimensions : Fact
  DataDeclared : Fact
  DataOnce : Fact
  Degrees : Fact
  ProvidedDeclared : Fact
  ProvidedOnce : Fact
  ReceivedDeclared : Fact
  ReceivedFromOthers : Fact
  ReceivedOnce : Fact
  WrittenOnOwnMeshes : Fact
  ReadOnOwnMeshes : Fact
  WrittenOnce : Fact
  ReadOnce : Fact
  FedOnce : Fact
  MapsJoin : Fact
  MapsOnce : Fact
  WatchedOnOwnMeshes : Fact
  FewReceived : Fact
  FewWritten : Fact
  FewRead : Fact
  FewMaps : Fact
  InAScheme : Fact
  InOneGroup : Fact
  MembersDeclared : Fact
  MembersOnce : Fact
  MembersCounted : Fact
  MeetOnce : Fact
  Iterations : Fact
  Measures : Fact
  MeasuredFirst : Fact
  Limits : Fact
  Accelerations : Fact
  FirstStep : Fact
  ByScheme : Fact
  TwoMembers : Fact
  Carried : Fact
  Crossing : Fact
  Kinds : Fact
  Written : Fact
  Read : Fact

abbrev pub is_count : (limit n : ℕ) → Bool
is_count limit n = nat_le 1 n && nat_le n limit

abbrev pub holds : PlanParts → Fact → Bool
holds plan Window = is_count (10 ^ 9) plan.window
holds plan EndTime = is_count (10 ^ 15) plan.end_time
holds plan Windows = is_count (10 ^ 6) plan.most_windows
holds plan WindowsReach = do_windows_reach plan
holds plan Parts = is_count 64 (length plan.parts)
holds plan Meshes = nat_le (length plan.meshes) 64
holds plan DataItems = nat_le (length plan.data_list) 64
holds plan Schemes = is_count 64 (length plan.schemes)
holds plan Exchanges = nat_le (length plan.exchanges) 256
holds plan Watches = nat_le (sum_by (λ part. length part.watches) plan.parts) 64
holds plan Names = are_names plan
holds plan PartsNamedOnce = are_parts_named_once plan
holds plan MeshesNamedOnce = are_meshes_named_once plan
holds plan DataNamedOnce = are_data_named_once plan
holds plan WatchesNamedOnce = are_watches_named_once plan
holds plan OneProvider = have_one_provider plan
holds plan Dimensions = have_dimensions plan
holds plan DataDeclared = have_declared_data plan
holds plan DataOnce = have_data_once plan
holds plan Degrees = have_degrees plan
holds plan ProvidedDeclared = are_provided_declared plan
holds plan ProvidedOnce = are_provided_once plan
holds plan ReceivedDeclared = are_received_declared plan
holds plan ReceivedFromOthers = are_received_from_others plan
holds plan ReceivedOnce = are_received_once plan
holds plan WrittenOnOwnMeshes = are_written_on_own_meshes plan
holds plan ReadOnOwnMeshes = are_read_on_own_meshes plan
holds plan WrittenOnce = are_written_once plan
holds plan ReadOnce = are_read_once plan
holds plan FedOnce = are_fed_once plan
holds plan MapsJoin = do_maps_join plan
holds plan MapsOnce = are_maps_once plan
holds plan WatchedOnOwnMeshes = are_watched_on_own_meshes plan
holds plan FewReceived = are_few_received plan
holds plan FewWritten = are_few_written plan
holds plan FewRead = are_few_read plan
holds plan FewMaps = are_few_maps plan
holds plan InAScheme = are_in_a_scheme plan
holds plan InOneGroup = are_in_one_group plan
holds plan MembersDeclared = are_members_declared plan
holds plan MembersOnce = are_members_once plan
holds plan MembersCounted = are_members_counted plan
holds plan MeetOnce = do_meet_once plan
holds plan Iterations = have_iterations plan
holds plan Measures = have_measures plan
holds plan MeasuredFirst = are_measured_first plan
holds plan Limits = have_limits plan
holds plan Accelerations = have_accelerations plan
holds plan FirstStep = fits_method plan
holds plan ByScheme = stand_by_scheme plan
holds plan TwoMembers = join_two_members plan
holds plan Carried = are_carried plan
holds plan Crossing = do_cross plan
holds plan Kinds = have_kinds plan
holds plan Written = are_written plan
holds plan Read = are_read plan

abbrev pub all_facts : List Fact
all_facts =
    Window ∷ EndTime ∷ Windows ∷ WindowsReach ∷ Parts ∷ Meshes ∷ DataItems ∷ Schemes ∷ Exchanges ∷ Watches ∷ Names ∷ PartsNamedOnce ∷ MeshesNamedOnce ∷ DataNamedOnce ∷
    WatchesNamedOnce ∷ OneProvider ∷ Dimensions ∷ DataDeclared ∷ DataOnce ∷ Degrees ∷ ProvidedDeclared ∷ ProvidedOnce ∷ ReceivedDeclared ∷
    ReceivedFromOthers ∷ ReceivedOnce ∷ WrittenOnOwnMeshes ∷ ReadOnOwnMeshes ∷ WrittenOnce ∷ ReadOnce ∷ FedOnce ∷ MapsJoin ∷ MapsOnce ∷
    WatchedOnOwnMeshes ∷ FewReceived ∷ FewWritten ∷ FewRead ∷ FewMaps ∷ InAScheme ∷ InOneGroup ∷ MembersDeclared ∷ MembersOnce ∷ MembersCounted ∷
    MeetOnce ∷ Iterations ∷ Measures ∷ MeasuredFirst ∷ Limits ∷ Accelerations ∷ FirstStep ∷ ByScheme ∷ TwoMembers ∷ Carried ∷ Crossing ∷ Kinds ∷ Written ∷ Read ∷ []

-- the facts that do not hold
abbrev pub broken_facts : PlanParts → List Fact
broken_facts plan = filter (λ fact. not (holds plan fact)) all_facts

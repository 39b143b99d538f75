-- Plans that differ in one place from a valid one, for each fact those in which it does not hold. The project's own.
use Rattle.std.specs.Prelude.{ℕ, ◌+◌, ◌^◌, true, false, ℤ, pos, negsuc, List, [], ◌∷◌, ◌++◌, map, flat_map, take, drop, Some, None, slice_set}
use Rattle.std.specs.List.{range_with_len}
use Rattle.plan_order.specs.declared.node.Node.{Node}
use Rattle.plan_order.specs.declared.node.Node.TheVariants.{Single, Group}
use Rattle.cpl_plan.specs.PlanFacts.{Fact, Window, EndTime, Windows, WindowsReach, Parts, Meshes, DataItems, Schemes, Exchanges, Watches, Names, PartsNamedOnce, MeshesNamedOnce, DataNamedOnce, WatchesNamedOnce, OneProvider, Dimensions, DataDeclared, DataOnce, Degrees, ProvidedDeclared, ProvidedOnce, ReceivedDeclared, ReceivedFromOthers, ReceivedOnce, WrittenOnOwnMeshes, ReadOnOwnMeshes, WrittenOnce, ReadOnce, FedOnce, MapsJoin, MapsOnce, WatchedOnOwnMeshes, FewReceived, FewWritten, FewRead, FewMaps, InAScheme, InOneGroup, MembersDeclared, MembersOnce, MembersCounted, MeetOnce, Iterations, Measures, MeasuredFirst, Limits, Accelerations, FirstStep, ByScheme, TwoMembers, Carried, Crossing, Kinds, Written, Read}
use Rattle.cpl_plan.specs.ExamplePlan.{example_plan, two_participants, writer, reader, vector_exchange, serial_scheme, example_measure, example_exchange, example_mesh, example_data, entry, read_from, write_onto}
use Rattle.cpl_plan.specs.SmallPlans.{first_step_plan, idle, measured_once, iterated_plan, iterated_scheme, serial_iterated_scheme, serial_iterated_plan, fan, fan_scheme, wide}
use Rattle.cpl_plan.specs.declared.parts.PlanParts.{PlanParts}
use Rattle.cpl_plan.specs.declared.parts.WindowMethod.TheVariants.{FirstParticipant}
use Rattle.cpl_plan.specs.declared.parts.Part.{Part}
use Rattle.cpl_plan.specs.declared.parts.Watch.{Watch}
use Rattle.cpl_plan.specs.declared.parts.MeshPlan.{MeshPlan}
use Rattle.cpl_plan.specs.declared.parts.DataPlan.{DataPlan}
use Rattle.cpl_plan.specs.declared.parts.Exchange.{Exchange}
use Rattle.cpl_plan.specs.declared.parts.Kind.TheVariants.{Lag, Fresh, Iterated}
use Rattle.cpl_plan.specs.declared.parts.Scheme.{Scheme}
use Rattle.cpl_plan.specs.declared.parts.SchemeKind.TheVariants.{ParallelExplicit}
use Rattle.cpl_plan.specs.declared.parts.MeasureKind.TheVariants.{Absolute}
use Rattle.cpl_plan.specs.declared.parts.Accel.{Accel}
use Rattle.cpl_plan.specs.declared.parts.Accel.TheVariants.{None as NoAccel, Constant, Aitken}

abbrev pub copies : {X : Type 0} → ℕ → X → List X
copies n x = map (λ _. x) (range_with_len 0 n)

abbrev pub with_parts : Part → Part → PlanParts
with_parts first second = record two_participants { parts = first ∷ second ∷ [] }

abbrev pub with_exchanges : List Exchange → PlanParts
with_exchanges exchanges = record two_participants { exchanges = exchanges }

abbrev pub with_schemes : List Scheme → PlanParts
with_schemes schemes = record two_participants { schemes = schemes }

abbrev pub with_watch : Watch → PlanParts
with_watch watch = with_parts (record writer { watches = watch ∷ [] }) reader

abbrev pub watch_at : (mesh : ℕ) → List ℤ → Watch
watch_at mesh at = record { name = 116 ∷ []; mesh = mesh; at = at }

abbrev pub with_mesh_lists : (first second : List ℕ) → PlanParts
with_mesh_lists first second = record two_participants { meshes = example_mesh 0 2 first ∷ example_mesh 1 2 second ∷ [] }

abbrev pub with_data : DataPlan → PlanParts
with_data item = record two_participants { data_list = item ∷ [] }

-- the first provides a third mesh
abbrev pub third_mesh : (dimensions : ℕ) → List ℕ → MeshPlan
third_mesh dimensions carried = record { name = 77 ∷ 67 ∷ []; dimensions = dimensions; owner = 0; data_list = carried }

abbrev pub with_third_mesh : Part → Part → MeshPlan → PlanParts
with_third_mesh first second mesh =
    record (with_parts (record first { provides = 0 ∷ 2 ∷ [] }) second)
    { meshes = example_mesh 0 2 (0 ∷ []) ∷ example_mesh 1 2 (0 ∷ []) ∷ mesh ∷ [] }

-- there is a second data item, which meshes do or do not carry
abbrev pub with_more_data : (first second : List ℕ) → Part → PlanParts
with_more_data first second part =
    record (with_mesh_lists first second)
    { parts = part ∷ reader ∷ []; data_list = example_data 0 true 1 ∷ example_data 1 true 1 ∷ [] }

-- a third participant in no scheme
abbrev pub with_third : List Scheme → PlanParts
with_third schemes =
    record two_participants { parts = writer ∷ reader ∷ idle 2 None ∷ []; schemes = schemes; nodes = Single 0 ∷ Single 1 ∷ Single 2 ∷ [] }

abbrev pub in_multi : List ℕ → PlanParts
in_multi members = record fan { schemes = record fan_scheme { members = members } ∷ [] }

abbrev pub iterated_with : Scheme → PlanParts
iterated_with scheme = record iterated_plan { schemes = scheme ∷ [] }

abbrev pub accelerated : Accel → PlanParts
accelerated accel = iterated_with (record iterated_scheme { accel = accel })

-- names of two bytes that begin alike
abbrev pub name_of : (first n : ℕ) → List ℕ
name_of first n = first ∷ (33 + n) ∷ []

-- so many more members of a multi scheme
abbrev pub crowd : ℕ → PlanParts
crowd n =
    record fan {
      parts = fan.parts ++ map (λ part. idle part (Some 0)) (range_with_len 3 n);
      schemes = record fan_scheme { members = range_with_len 0 (3 + n) } ∷ [];
    }

abbrev pub with_meshes : ℕ → PlanParts
with_meshes n =
    record (with_parts (record writer { provides = 0 ∷ range_with_len 2 n }) reader) {
      meshes = two_participants.meshes ++ map (λ mesh. record { name = name_of 78 mesh; dimensions = 3; owner = 0; data_list = [] }) (range_with_len 2 n);
    }

abbrev pub with_data_items : ℕ → PlanParts
with_data_items n =
    record two_participants
    { data_list = two_participants.data_list ++ map (λ item. record { name = name_of 101 item; vector = false; degree = 0 }) (range_with_len 1 n) }

-- each two of twelve participants meet in a scheme
abbrev pub meetings : List Scheme
meetings =
    flat_map (λ second. map (λ first. record serial_scheme { members = first ∷ second ∷ [] }) (range_with_len 0 second)) (range_with_len 0 12)

abbrev pub with_meetings : PlanParts
with_meetings =
    record two_participants { parts = two_participants.parts ++ map (λ part. idle part None) (range_with_len 2 10); schemes = meetings }

-- the second maps from ten meshes to eight of its own
abbrev pub with_maps : PlanParts
with_maps =
    record two_participants {
      parts =
          record writer { provides = 0 ∷ range_with_len 2 9 }
          ∷ record reader {
            provides = 1 ∷ range_with_len 11 7;
            receives = 0 ∷ range_with_len 2 9;
            maps = flat_map (λ to. map (λ from. read_from from to) (0 ∷ range_with_len 2 9)) (1 ∷ range_with_len 11 7);
          } ∷ [];
      meshes =
          two_participants.meshes
          ++ map (λ mesh. record { name = name_of 78 mesh; dimensions = 2; owner = 0; data_list = [] }) (range_with_len 2 9)
          ++ map (λ mesh. record { name = name_of 78 mesh; dimensions = 2; owner = 1; data_list = [] }) (range_with_len 11 7);
    }

-- the data go over a mesh of a third participant, to which the one maps and from which the other does
abbrev pub over_a_third : PlanParts
over_a_third =
    record two_participants {
      parts =
          record writer { receives = 2 ∷ []; maps = write_onto 0 2 ∷ [] }
          ∷ record reader { receives = 2 ∷ []; maps = read_from 2 1 ∷ [] }
          ∷ record (idle 2 None) { provides = 2 ∷ [] } ∷ [];
      meshes = two_participants.meshes ++ example_mesh 2 2 (0 ∷ []) ∷ [];
      schemes = serial_scheme ∷ record serial_scheme { members = 0 ∷ 2 ∷ [] } ∷ [];
      exchanges = record vector_exchange { mesh = 2; write_map = Some 0 } ∷ [];
      nodes = Single 0 ∷ Single 1 ∷ Single 2 ∷ [];
    }

-- for each fact the plans in which it does not hold
abbrev pub plans_without : Fact → List PlanParts
plans_without Window = record first_step_plan { window = 0 } ∷ record two_participants { window = 10 ^ 9 + 1; most_windows = 1 } ∷ []
plans_without EndTime = record first_step_plan { end_time = 0 } ∷ record first_step_plan { end_time = 10 ^ 15 + 1 } ∷ []
plans_without Windows = record first_step_plan { most_windows = 0 } ∷ record first_step_plan { most_windows = 10 ^ 6 + 1 } ∷ record two_participants { end_time = 10 ^ 7 + 1; most_windows = 10 ^ 6 + 1 } ∷ []
plans_without WindowsReach = record two_participants { most_windows = 2 } ∷ record two_participants { most_windows = 4 } ∷ []
plans_without Parts = crowd 62 ∷ []
plans_without Meshes = with_meshes 63 ∷ []
plans_without DataItems = with_data_items 64 ∷ []
plans_without Schemes = with_meetings ∷ []
plans_without Exchanges = with_exchanges (copies 257 vector_exchange) ∷ []
plans_without Watches =
    with_parts (record writer { watches = map (λ n. record { name = name_of 116 n; mesh = 0; at = pos 0 ∷ pos 0 ∷ [] }) (range_with_len 0 65) }) reader ∷ []
plans_without Names =
    with_parts (record writer { name = [] }) reader
    ∷ with_parts writer (record reader { name = copies 65 66 })
    ∷ with_data (record { name = 100 ∷ 32 ∷ 48 ∷ []; vector = true; degree = 1 })
    ∷ with_watch (record { name = 127 ∷ []; mesh = 0; at = pos 0 ∷ pos 0 ∷ [] })
    ∷ with_third_mesh writer reader (record (third_mesh 2 []) { name = 195 ∷ 164 ∷ [] }) ∷ []
plans_without PartsNamedOnce = with_parts writer (record reader { name = 65 ∷ [] }) ∷ []
plans_without MeshesNamedOnce = with_third_mesh writer reader (record (third_mesh 2 []) { name = 77 ∷ 65 ∷ [] }) ∷ []
plans_without DataNamedOnce = record two_participants { data_list = example_data 0 true 1 ∷ example_data 0 true 1 ∷ [] } ∷ []
plans_without WatchesNamedOnce =
    with_parts (record writer { watches = watch_at 0 (pos 0 ∷ pos 0 ∷ []) ∷ watch_at 0 (pos 1 ∷ pos 0 ∷ []) ∷ [] }) reader
    ∷ with_parts (record writer { watches = watch_at 0 (pos 0 ∷ pos 0 ∷ []) ∷ [] }) (record reader { watches = watch_at 1 (pos 0 ∷ pos 0 ∷ []) ∷ [] }) ∷ []
plans_without OneProvider =
    with_third_mesh writer reader (record (third_mesh 2 []) { owner = 1 })
    ∷ with_third_mesh writer (record reader { provides = 1 ∷ 2 ∷ [] }) (third_mesh 2 [])
    ∷ record two_participants { meshes = two_participants.meshes ++ third_mesh 2 [] ∷ [] } ∷ []
plans_without Dimensions = with_third_mesh writer reader (third_mesh 1 []) ∷ with_third_mesh writer reader (third_mesh 4 []) ∷ []
plans_without DataDeclared = with_third_mesh writer reader (third_mesh 2 (1 ∷ [])) ∷ []
plans_without DataOnce = with_third_mesh writer reader (third_mesh 2 (0 ∷ 0 ∷ [])) ∷ []
plans_without Degrees = with_data (example_data 0 true 2) ∷ []
plans_without ProvidedDeclared = with_parts (record writer { provides = 0 ∷ 2 ∷ [] }) reader ∷ []
plans_without ProvidedOnce = with_parts (record writer { provides = 0 ∷ 0 ∷ [] }) reader ∷ []
plans_without ReceivedDeclared = with_parts (record writer { receives = 2 ∷ [] }) reader ∷ []
plans_without ReceivedFromOthers = with_parts (record writer { receives = 0 ∷ [] }) reader ∷ []
plans_without ReceivedOnce = with_parts writer (record reader { receives = 0 ∷ 0 ∷ [] }) ∷ []
plans_without WrittenOnOwnMeshes =
    with_more_data (0 ∷ []) (0 ∷ 1 ∷ []) (record writer { writes = entry 0 0 ∷ entry 1 1 ∷ [] })
    ∷ with_more_data (0 ∷ []) (0 ∷ 1 ∷ []) (record writer { writes = entry 0 0 ∷ entry 1 0 ∷ [] }) ∷ []
plans_without ReadOnOwnMeshes =
    with_mesh_lists (0 ∷ []) []
    ∷ record (with_parts writer (record reader { reads = entry 0 0 ∷ [] })) { exchanges = record vector_exchange { read_map = None } ∷ [] } ∷ []
plans_without WrittenOnce =
    with_parts (record writer { writes = entry 0 0 ∷ entry 0 0 ∷ [] }) reader ∷ with_parts writer (record reader { writes = entry 0 1 ∷ [] }) ∷ []
plans_without ReadOnce = with_parts writer (record reader { reads = entry 0 1 ∷ entry 0 1 ∷ [] }) ∷ []
plans_without FedOnce = with_exchanges (vector_exchange ∷ vector_exchange ∷ []) ∷ with_exchanges [] ∷ []
plans_without MapsJoin =
    with_parts writer (record reader { maps = read_from 0 1 ∷ read_from 1 0 ∷ [] })
    ∷ with_parts writer (record reader { maps = read_from 0 1 ∷ write_onto 0 1 ∷ [] })
    ∷ with_parts (record writer { maps = write_onto 0 1 ∷ [] }) reader
    ∷ with_third_mesh writer (record reader { receives = 0 ∷ 2 ∷ []; maps = read_from 0 1 ∷ read_from 2 1 ∷ [] }) (third_mesh 3 []) ∷ []
plans_without MapsOnce = with_parts writer (record reader { maps = read_from 0 1 ∷ read_from 0 1 ∷ [] }) ∷ []
plans_without WatchedOnOwnMeshes =
    with_parts writer (record reader { watches = watch_at 0 (pos 0 ∷ pos 0 ∷ []) ∷ [] })
    ∷ with_watch (watch_at 0 (pos 0 ∷ pos 0 ∷ pos 0 ∷ []))
    ∷ with_watch (watch_at 0 (pos 0 ∷ pos (10 ^ 12 + 1) ∷ []))
    ∷ with_watch (watch_at 0 (negsuc (10 ^ 12) ∷ pos 0 ∷ [])) ∷ []
plans_without FewReceived = with_parts writer (record reader { receives = copies 65 0 }) ∷ []
plans_without FewWritten = with_parts (record writer { writes = copies 65 (entry 0 0) }) reader ∷ []
plans_without FewRead = with_parts writer (record reader { reads = copies 65 (entry 0 1) }) ∷ []
plans_without FewMaps = with_maps ∷ []
plans_without InAScheme = with_third (serial_scheme ∷ []) ∷ []
plans_without InOneGroup =
    record iterated_plan { parts = writer ∷ record reader { group = Some 0 } ∷ [] }
    ∷ record iterated_plan { parts = record writer { group = Some 1 } ∷ record reader { group = Some 0 } ∷ [] }
    ∷ with_parts (record writer { group = Some 0 }) reader ∷ []
plans_without MembersDeclared = in_multi (0 ∷ 1 ∷ 2 ∷ 3 ∷ []) ∷ []
plans_without MembersOnce = in_multi (0 ∷ 1 ∷ 2 ∷ 0 ∷ []) ∷ []
plans_without MembersCounted =
    with_schemes (serial_scheme ∷ record serial_scheme { members = 0 ∷ [] } ∷ [])
    ∷ with_third (record serial_scheme { members = 0 ∷ 1 ∷ 2 ∷ [] } ∷ [])
    ∷ with_schemes (serial_scheme ∷ record serial_scheme { kind = ParallelExplicit; members = [] } ∷ []) ∷ []
plans_without MeetOnce =
    with_schemes (serial_scheme ∷ serial_scheme ∷ []) ∷ with_schemes (serial_scheme ∷ record serial_scheme { members = 1 ∷ 0 ∷ [] } ∷ []) ∷ []
plans_without Iterations =
    with_schemes (record serial_scheme { min = 0 } ∷ [])
    ∷ with_schemes (record serial_scheme { max = 2 } ∷ [])
    ∷ iterated_with (record iterated_scheme { min = 0 })
    ∷ iterated_with (record iterated_scheme { min = 4; max = 3 })
    ∷ iterated_with (record iterated_scheme { max = 1001 }) ∷ []
plans_without Measures =
    with_schemes (record serial_scheme { measures = measured_once } ∷ [])
    ∷ iterated_with (record iterated_scheme { measures = [] })
    ∷ iterated_with (record iterated_scheme { measures = copies 17 (example_measure Absolute 0 false false) }) ∷ []
plans_without MeasuredFirst =
    iterated_with (record iterated_scheme { measures = example_measure Absolute 1 false false ∷ [] })
    ∷ record fan { schemes = record fan_scheme { measures = example_measure Absolute 1 false false ∷ [] } ∷ [] }
    ∷ record example_plan { schemes = slice_set example_plan.schemes 2 (record fan_scheme { members = 6 ∷ 4 ∷ 5 ∷ []; measures = example_measure Absolute 2 false true ∷ [] }) } ∷ []
plans_without Limits =
    iterated_with (record iterated_scheme { measures = record (example_measure Absolute 0 false false) { limit = negsuc 0 } ∷ [] })
    ∷ iterated_with (record iterated_scheme { measures = record (example_measure Absolute 0 false false) { limit = pos (10 ^ 13 + 1) } ∷ [] }) ∷ []
plans_without Accelerations =
    with_schemes (record serial_scheme { accel = Constant (pos 500000) (0 ∷ []) } ∷ [])
    ∷ accelerated (Constant (pos 0) (0 ∷ []))
    ∷ accelerated (Constant (pos 1000001) (0 ∷ []))
    ∷ accelerated (Aitken (negsuc 0) (0 ∷ []))
    ∷ accelerated (Aitken (pos 1000001) (0 ∷ []))
    ∷ accelerated (Constant (pos 500000) [])
    ∷ accelerated (Constant (pos 500000) (0 ∷ 0 ∷ []))
    ∷ accelerated (Constant (pos 500000) (1 ∷ []))
    ∷ record serial_iterated_plan { schemes = record serial_iterated_scheme { accel = Aitken (pos 500000) (0 ∷ []) } ∷ [] }
    ∷ record fan { schemes = record fan_scheme { accel = Constant (pos 500000) (1 ∷ []) } ∷ [] }
    ∷ record fan { schemes = record fan_scheme { accel = Constant (pos 500000) (1 ∷ 0 ∷ []) } ∷ [] }
    ∷ wide 7 ∷ []
plans_without FirstStep =
    record first_step_plan { schemes = serial_scheme ∷ record serial_scheme { members = 0 ∷ 2 ∷ [] } ∷ []; parts = writer ∷ reader ∷ idle 2 None ∷ [] }
    ∷ record first_step_plan { schemes = record serial_scheme { kind = ParallelExplicit } ∷ []; exchanges = record vector_exchange { kind = Lag } ∷ [] }
    ∷ record first_step_plan { schemes = record serial_scheme { members = 1 ∷ 0 ∷ [] } ∷ []; exchanges = record vector_exchange { kind = Lag } ∷ [] }
    ∷ record serial_iterated_plan { method = FirstParticipant }
    ∷ record first_step_plan { exchanges = []; parts = writer ∷ record reader { reads = [] } ∷ [] } ∷ []
plans_without ByScheme =
    record example_plan { exchanges = take 5 example_plan.exchanges ++ drop 6 example_plan.exchanges ++ take 1 (drop 5 example_plan.exchanges) } ∷ []
plans_without TwoMembers = record example_plan { exchanges = slice_set example_plan.exchanges 6 (example_exchange 6 2 2 1 3 Lag None (Some 2)) } ∷ []
plans_without Carried = with_mesh_lists [] (0 ∷ []) ∷ []
plans_without Crossing = over_a_third ∷ []
plans_without Kinds =
    with_exchanges (record vector_exchange { kind = Lag } ∷ [])
    ∷ with_exchanges (record vector_exchange { kind = Iterated } ∷ [])
    ∷ record serial_iterated_plan { exchanges = record vector_exchange { kind = Fresh } ∷ [] }
    ∷ record (iterated_with (record iterated_scheme { accel = NoAccel })) { exchanges = record vector_exchange { kind = Lag } ∷ [] } ∷ []
plans_without Written =
    with_parts (record writer { writes = [] }) reader
    ∷ with_exchanges (record vector_exchange { write_map = Some 0 } ∷ [])
    ∷ with_third_mesh (record writer { writes = entry 0 2 ∷ [] }) reader (third_mesh 2 (0 ∷ [])) ∷ []
plans_without Read =
    with_exchanges (record vector_exchange { read_map = None } ∷ [])
    ∷ with_exchanges (record vector_exchange { read_map = Some 1 } ∷ [])
    ∷ with_third_mesh writer (record reader { receives = 0 ∷ 2 ∷ []; maps = read_from 2 1 ∷ [] }) (third_mesh 2 []) ∷ []

-- what does not hold in them: that fact alone, but for a few that cannot fail alone
abbrev pub broken_with : Fact → List Fact
broken_with Exchanges = Exchanges ∷ FedOnce ∷ []
broken_with FewReceived = ReceivedOnce ∷ FewReceived ∷ []
broken_with FewWritten = WrittenOnce ∷ FewWritten ∷ []
broken_with FewRead = ReadOnce ∷ FewRead ∷ []
broken_with Carried = WrittenOnOwnMeshes ∷ Carried ∷ []
broken_with fact = fact ∷ []

-- nodes out of order: the second before the first, one left out, one twice, one that is none, and the greater first member first
abbrev pub nodes_out_of_order : List (List Node)
nodes_out_of_order =
    (Single 1 ∷ Single 0 ∷ []) ∷ (Single 0 ∷ []) ∷ (Single 0 ∷ Single 1 ∷ Single 1 ∷ []) ∷ (Single 0 ∷ Single 1 ∷ Group 0 ∷ []) ∷ []

abbrev pub greater_first : List Node
greater_first = Group 2 ∷ Group 1 ∷ Single 7 ∷ Group 0 ∷ []

-- Tests of what an accepted configuration says of its numbers. From the coupling documentation's configuration; the limits and the restrictions on compositions are the project's own.
use Rattle.std.specs.Prelude.{ℕ, ◌^◌, Bool, true, false, ◌&&◌, ◌||◌, not, nat_eq, nat_lt, nat_le, if◌then◌else◌, ℤ, pos, int_lt, int_le, unsigned_abs, List, [], ◌∷◌, ◌++◌, length, filter, map, flat_map, sum_by, slice_get, Option, Some, None}
use Rattle.std.specs.List.{list_any, list_all}
use Rattle.std.specs.Cmp.Lexicographic.{pointwise}
use Rattle.std.specs.Option.{option_to_list, option_map, option_map_or}
use Rattle.std.specs.Str.{bytes_eq}
use Rattle.cpl_plan.specs.PlanWords.{each, passes, is_among, are_only, are_distinct, never_fall, numbers, provides, receives, providers, mesh_carries, have_equal_dimensions, is_member, schemes_of, schemes_of_both, feeders, data_of, components_of}
use Rattle.cpl_plan.specs.ExchangeKinds.{exchange_kind, is_implicit}
use Rattle.cpl_plan.specs.Needs.{is_second}
use Rattle.cpl_plan.specs.Windows.{windows_to_reach}
use Rattle.cpl_plan.specs.declared.parts.PlanParts.{PlanParts}
use Rattle.cpl_plan.specs.declared.parts.WindowMethod.{WindowMethod}
use Rattle.cpl_plan.specs.declared.parts.WindowMethod.TheVariants.{Fixed, FirstParticipant}
use Rattle.cpl_plan.specs.declared.parts.MapPlan.{MapPlan}
use Rattle.cpl_plan.specs.declared.parts.Watch.{Watch}
use Rattle.cpl_plan.specs.declared.parts.Exchange.{Exchange}
use Rattle.cpl_plan.specs.declared.parts.Kind.{Kind}
use Rattle.cpl_plan.specs.declared.parts.Kind.TheVariants.{Lag, Fresh, FreshIter, Iterated}
use Rattle.cpl_plan.specs.declared.parts.Scheme.{Scheme}
use Rattle.cpl_plan.specs.declared.parts.SchemeKind.{SchemeKind}
use Rattle.cpl_plan.specs.declared.parts.SchemeKind.TheVariants.{SerialExplicit, Multi}
use Rattle.cpl_plan.specs.declared.parts.Measure.{Measure}
use Rattle.cpl_plan.specs.declared.parts.Accel.{Accel}
use Rattle.cpl_plan.specs.declared.parts.Accel.TheVariants.{None as NoAccel, Constant, Aitken}

-- 1 to 64 bytes, each a visible character of ASCII
abbrev pub is_name : List ℕ → Bool
is_name bytes =
    nat_le 1 (length bytes) && nat_le (length bytes) 64 && list_all (λ byte. nat_le 0x21 byte && nat_le byte 0x7E) bytes

abbrev pub watch_names : PlanParts → List (List ℕ)
watch_names plan = flat_map (λ part. map (λ watch. watch.name) part.watches) plan.parts

abbrev pub part_names : PlanParts → List (List ℕ)
part_names plan = map (λ part. part.name) plan.parts

abbrev pub mesh_names : PlanParts → List (List ℕ)
mesh_names plan = map (λ mesh. mesh.name) plan.meshes

abbrev pub data_names : PlanParts → List (List ℕ)
data_names plan = map (λ item. item.name) plan.data_list

-- each name of the plan is one
abbrev pub are_names : PlanParts → Bool
are_names plan = list_all is_name (part_names plan ++ mesh_names plan ++ data_names plan ++ watch_names plan)

abbrev pub are_parts_named_once : PlanParts → Bool
are_parts_named_once plan = are_distinct bytes_eq (part_names plan)

abbrev pub are_meshes_named_once : PlanParts → Bool
are_meshes_named_once plan = are_distinct bytes_eq (mesh_names plan)

abbrev pub are_data_named_once : PlanParts → Bool
are_data_named_once plan = are_distinct bytes_eq (data_names plan)

abbrev pub are_watches_named_once : PlanParts → Bool
are_watches_named_once plan = are_distinct bytes_eq (watch_names plan)

-- with windows of one size there are as few as reach the end time
abbrev pub reaches_end : WindowMethod → (size end_time most : ℕ) → Bool
reaches_end Fixed size end_time most = nat_eq most (windows_to_reach size end_time)
reaches_end FirstParticipant size end_time most = true

abbrev pub do_windows_reach : PlanParts → Bool
do_windows_reach plan = reaches_end plan.method plan.window plan.end_time plan.most_windows

-- a mesh of this number is there
abbrev pub is_mesh : PlanParts → ℕ → Bool
is_mesh plan mesh = nat_lt mesh (length plan.meshes)

-- each mesh is provided by one participant alone, its owner
abbrev pub have_one_provider : PlanParts → Bool
have_one_provider plan = each plan.meshes (λ number mesh. are_only mesh.owner (providers plan number))

abbrev pub have_dimensions : PlanParts → Bool
have_dimensions plan = each plan.meshes (λ _ mesh. nat_eq mesh.dimensions 2 || nat_eq mesh.dimensions 3)

abbrev pub have_declared_data : PlanParts → Bool
have_declared_data plan = each plan.meshes (λ _ mesh. list_all (λ d. nat_lt d (length plan.data_list)) mesh.data_list)

abbrev pub have_data_once : PlanParts → Bool
have_data_once plan = each plan.meshes (λ _ mesh. are_distinct nat_eq mesh.data_list)

abbrev pub have_degrees : PlanParts → Bool
have_degrees plan = each plan.data_list (λ _ item. nat_le item.degree 1)

-- a read mapping goes from a received to a provided mesh, a write mapping the other way, between meshes of as many dimensions
abbrev pub joins_meshes : PlanParts → ℕ → MapPlan → Bool
joins_meshes plan part mapping =
    have_equal_dimensions plan mapping.from mapping.to
    && (if mapping.reading then receives plan part mapping.from && provides plan part mapping.to
    else provides plan part mapping.from && receives plan part mapping.to)

abbrev pub same_flag : Bool → Bool → Bool
same_flag true b = b
same_flag false b = not b

-- two mappings of one direction with the same ends
abbrev pub same_way : MapPlan → MapPlan → Bool
same_way one other =
    same_flag one.reading other.reading && nat_eq one.from other.from && nat_eq one.to other.to

-- a watch-point lies on a mesh of its participant, with a coordinate for each dimension
abbrev pub lies_on_own_mesh : PlanParts → ℕ → Watch → Bool
lies_on_own_mesh plan part watch =
    provides plan part watch.mesh
    && passes plan.meshes watch.mesh (λ mesh. nat_eq (length watch.at) mesh.dimensions)
    && list_all (λ x. nat_le (unsigned_abs x) (10 ^ 12)) watch.at

-- the implicit schemes of which a participant is a member
abbrev pub groups_of : PlanParts → ℕ → List ℕ
groups_of plan part = filter (λ s. passes plan.schemes s (λ scheme. is_implicit scheme.kind)) (schemes_of plan part)

abbrev pub are_provided_declared : PlanParts → Bool
are_provided_declared plan = each plan.parts (λ _ part. list_all (is_mesh plan) part.provides)

abbrev pub are_provided_once : PlanParts → Bool
are_provided_once plan = each plan.parts (λ _ part. are_distinct nat_eq part.provides)

abbrev pub are_received_declared : PlanParts → Bool
are_received_declared plan = each plan.parts (λ _ part. list_all (is_mesh plan) part.receives)

abbrev pub are_received_from_others : PlanParts → Bool
are_received_from_others plan = each plan.parts (λ p part. list_all (λ mesh. not (provides plan p mesh)) part.receives)

abbrev pub are_received_once : PlanParts → Bool
are_received_once plan = each plan.parts (λ _ part. are_distinct nat_eq part.receives)

-- entries name data of a mesh that their participant provides
abbrev pub are_written_on_own_meshes : PlanParts → Bool
are_written_on_own_meshes plan = each plan.parts (λ p part. list_all (λ e. provides plan p e.mesh && mesh_carries plan e.mesh e.data_id) part.writes)

abbrev pub are_read_on_own_meshes : PlanParts → Bool
are_read_on_own_meshes plan = each plan.parts (λ p part. list_all (λ e. provides plan p e.mesh && mesh_carries plan e.mesh e.data_id) part.reads)

-- data are written in one entry of all participants, and read in one entry of each
abbrev pub are_written_once : PlanParts → Bool
are_written_once plan = are_distinct nat_eq (flat_map (λ part. data_of part.writes) plan.parts)

abbrev pub are_read_once : PlanParts → Bool
are_read_once plan = each plan.parts (λ _ part. are_distinct nat_eq (data_of part.reads))

-- each read entry is fed by one exchange
abbrev pub are_fed_once : PlanParts → Bool
are_fed_once plan = each plan.parts (λ p part. list_all (λ e. nat_eq (length (feeders plan p e.data_id)) 1) part.reads)

abbrev pub do_maps_join : PlanParts → Bool
do_maps_join plan = each plan.parts (λ p part. list_all (joins_meshes plan p) part.maps)

abbrev pub are_maps_once : PlanParts → Bool
are_maps_once plan = each plan.parts (λ _ part. are_distinct same_way part.maps)

abbrev pub are_watched_on_own_meshes : PlanParts → Bool
are_watched_on_own_meshes plan = each plan.parts (λ p part. list_all (lies_on_own_mesh plan p) part.watches)

abbrev pub are_few_received : PlanParts → Bool
are_few_received plan = each plan.parts (λ _ part. nat_le (length part.receives) 64)

abbrev pub are_few_written : PlanParts → Bool
are_few_written plan = each plan.parts (λ _ part. nat_le (length part.writes) 64)

abbrev pub are_few_read : PlanParts → Bool
are_few_read plan = each plan.parts (λ _ part. nat_le (length part.reads) 64)

abbrev pub are_few_maps : PlanParts → Bool
are_few_maps plan = each plan.parts (λ _ part. nat_le (length part.maps) 64)

-- each participant is in a scheme, and in no implicit scheme but its group
abbrev pub are_in_a_scheme : PlanParts → Bool
are_in_a_scheme plan = each plan.parts (λ p _. nat_le 1 (length (schemes_of plan p)))

abbrev pub are_in_one_group : PlanParts → Bool
are_in_one_group plan = each plan.parts (λ p part. pointwise nat_eq (groups_of plan p) (option_to_list part.group))

-- two members, or two and more where a scheme may have more
abbrev pub has_members : SchemeKind → ℕ → Bool
has_members Multi n = nat_le 2 n
has_members _ n = nat_eq n 2

-- an explicit scheme does not repeat windows
abbrev pub has_iterations : Scheme → Bool
has_iterations scheme =
    if is_implicit scheme.kind then nat_le 1 scheme.min && nat_le scheme.min scheme.max && nat_le scheme.max (10 ^ 3)
    else nat_eq scheme.min 1 && nat_eq scheme.max 1

-- an explicit scheme has no measures, an implicit one has some
abbrev pub has_measures : Scheme → Bool
has_measures scheme =
    if is_implicit scheme.kind then nat_le 1 (length scheme.measures) && nat_le (length scheme.measures) 16
    else nat_eq (length scheme.measures) 0

-- the exchanges of a scheme that carry one of these data
abbrev pub carriers : PlanParts → (scheme : ℕ) → List ℕ → List ℕ
carriers plan scheme items =
    filter (λ x. passes plan.exchanges x (λ e. nat_eq e.scheme scheme && is_among e.data_id items)) (numbers plan.exchanges)

-- a measure looks at the first exchange of its scheme that carries its data
abbrev pub looks_at_the_first : PlanParts → ℕ → Measure → Bool
looks_at_the_first plan scheme measure =
    passes plan.exchanges measure.exchange (λ e. passes (carriers plan scheme (e.data_id ∷ [])) 0 (nat_eq measure.exchange))

abbrev pub is_iterated : Kind → Bool
is_iterated Iterated = true
is_iterated _ = false

-- the data that exchanges carry
abbrev pub data_carried : PlanParts → List ℕ → List ℕ
data_carried plan xs = flat_map (λ x. option_to_list (option_map (λ e. e.data_id) (slice_get plan.exchanges x))) xs

-- there are some, and they are all iterated exchanges of the scheme that carry their data, by number, with at most 20 components in all
abbrev pub are_accelerated : PlanParts → ℕ → List ℕ → Bool
are_accelerated plan scheme over =
    nat_le 1 (length over)
    && pointwise nat_eq over (filter (λ x. passes plan.exchanges x (λ e. is_iterated e.kind)) (carriers plan scheme (data_carried plan over)))
    && nat_le (sum_by (λ x. sum_by (components_of plan) (option_to_list (slice_get plan.exchanges x))) over) 20

-- a factor over 0, at most 1
abbrev pub is_part_of_one : ℤ → Bool
is_part_of_one factor = int_lt (pos 0) factor && int_le factor (pos (10 ^ 6))

abbrev pub is_acceleration : PlanParts → ℕ → Scheme → Accel → Bool
is_acceleration plan number scheme NoAccel = true
is_acceleration plan number scheme (Constant factor over) =
    is_implicit scheme.kind && is_part_of_one factor && are_accelerated plan number over
is_acceleration plan number scheme (Aitken first over) =
    is_implicit scheme.kind && is_part_of_one first && are_accelerated plan number over

abbrev pub are_members_declared : PlanParts → Bool
are_members_declared plan = each plan.schemes (λ _ scheme. list_all (λ p. nat_lt p (length plan.parts)) scheme.members)

abbrev pub are_members_once : PlanParts → Bool
are_members_once plan = each plan.schemes (λ _ scheme. are_distinct nat_eq scheme.members)

abbrev pub are_members_counted : PlanParts → Bool
are_members_counted plan = each plan.schemes (λ _ scheme. has_members scheme.kind (length scheme.members))

-- two participants meet in at most one scheme
abbrev pub do_meet_once : PlanParts → Bool
do_meet_once plan = each plan.parts (λ p _. each plan.parts (λ q _. nat_eq p q || nat_le (length (schemes_of_both plan p q)) 1))

abbrev pub have_iterations : PlanParts → Bool
have_iterations plan = each plan.schemes (λ _ scheme. has_iterations scheme)

abbrev pub have_measures : PlanParts → Bool
have_measures plan = each plan.schemes (λ _ scheme. has_measures scheme)

abbrev pub are_measured_first : PlanParts → Bool
are_measured_first plan = each plan.schemes (λ s scheme. list_all (looks_at_the_first plan s) scheme.measures)

-- a limit is a Value from zero on
abbrev pub have_limits : PlanParts → Bool
have_limits plan = each plan.schemes (λ _ scheme. list_all (λ m. int_le (pos 0) m.limit && int_le m.limit (pos (10 ^ 13))) scheme.measures)

abbrev pub have_accelerations : PlanParts → Bool
have_accelerations plan = each plan.schemes (λ s scheme. is_acceleration plan s scheme scheme.accel)

abbrev pub is_serial_explicit : SchemeKind → Bool
is_serial_explicit SerialExplicit = true
is_serial_explicit _ = false

abbrev pub is_one_serial : List Scheme → Bool
is_one_serial (scheme ∷ []) = is_serial_explicit scheme.kind
is_one_serial _ = false

-- an exchange goes from the first of its scheme to its second
abbrev pub goes_to_second : PlanParts → Exchange → Bool
goes_to_second plan e =
    passes plan.schemes e.scheme (λ scheme. passes scheme.members 0 (λ first. nat_eq first e.from) && is_second scheme e.to)

-- where the first participant makes the windows there is one scheme, a serial-explicit one, with an exchange from its first to its second
abbrev pub has_first_step : WindowMethod → PlanParts → Bool
has_first_step Fixed plan = true
has_first_step FirstParticipant plan = is_one_serial plan.schemes && list_any (goes_to_second plan) plan.exchanges

abbrev pub fits_method : PlanParts → Bool
fits_method plan = has_first_step plan.method plan

-- the place of the mapping between two meshes, and none where they are one
abbrev pub is_map_place : List MapPlan → (reading : Bool) → (from to : ℕ) → Option ℕ → Bool
is_map_place maps reading from to None = nat_eq from to
is_map_place maps reading from to (Some place) =
    not (nat_eq from to)
    && passes maps place (λ m. same_flag m.reading reading && nat_eq m.from from && nat_eq m.to to)

-- the writer writes the data, and the write mapping goes from where it does
abbrev pub is_written : PlanParts → Exchange → Bool
is_written plan e =
    passes plan.parts e.from (λ part. list_any (λ entry. nat_eq entry.data_id e.data_id
    && is_map_place part.maps false entry.mesh e.mesh e.write_map) part.writes)

-- the reader reads the data, and the read mapping goes to where it does
abbrev pub is_read : PlanParts → Exchange → Bool
is_read plan e =
    passes plan.parts e.to (λ part. list_any (λ entry. nat_eq entry.data_id e.data_id
    && is_map_place part.maps true e.mesh entry.mesh e.read_map) part.reads)

-- the mesh is provided by one end and received by the other
abbrev pub goes_over : PlanParts → Exchange → Bool
goes_over plan e =
    (provides plan e.from e.mesh && receives plan e.to e.mesh) || (provides plan e.to e.mesh && receives plan e.from e.mesh)

abbrev pub same_kind : Kind → Kind → Bool
same_kind Lag Lag = true
same_kind Fresh Fresh = true
same_kind FreshIter FreshIter = true
same_kind Iterated Iterated = true
same_kind _ _ = false

-- the kind by the table, and none where the scheme is not there
abbrev pub kind_by_table : PlanParts → Exchange → Option Kind
kind_by_table plan e =
    option_map (λ scheme. exchange_kind scheme.kind (is_second scheme e.to)) (slice_get plan.schemes e.scheme)

-- those of the first scheme come first
abbrev pub stand_by_scheme : PlanParts → Bool
stand_by_scheme plan = never_fall (map (λ e. e.scheme) plan.exchanges)

abbrev pub join_two_members : PlanParts → Bool
join_two_members plan = each plan.exchanges (λ _ e. not (nat_eq e.from e.to) && is_member plan e.scheme e.from && is_member plan e.scheme e.to)

abbrev pub are_carried : PlanParts → Bool
are_carried plan = each plan.exchanges (λ _ e. mesh_carries plan e.mesh e.data_id)

abbrev pub do_cross : PlanParts → Bool
do_cross plan = each plan.exchanges (λ _ e. goes_over plan e)

-- the kind is that of the table
abbrev pub have_kinds : PlanParts → Bool
have_kinds plan = each plan.exchanges (λ _ e. option_map_or (same_kind e.kind) (kind_by_table plan e) false)

abbrev pub are_written : PlanParts → Bool
are_written plan = each plan.exchanges (λ _ e. is_written plan e)

abbrev pub are_read : PlanParts → Bool
are_read plan = each plan.exchanges (λ _ e. is_read plan e)

-- What a valid plan says of the entries that exchanges serve: there they are, on meshes of as many components, and the mappings go between them.
use Rattle.std.proofs.Common.{◌≡◌, ℕ, Bool, true, false, ◌&&◌, not, nat_eq, if◌then◌else◌, List, slice_get, Option, Some, None, Contains, refl, ap, sym, subst, ◌∙◌}
use Rattle.std.specs.Prelude.{option_map, option_and_then}
use Rattle.std.specs.List.{list_all, list_any}
use Rattle.std.specs.Option.{option_map_or}
use Rattle.std.proofs.lemmas.Bool.{and_parts, eqb-true}
use Rattle.cpl_plan.specs.PlanWords.{passes, components, components_on, have_equal_dimensions, provides, receives}
use Rattle.cpl_plan.specs.PlanTests.{is_map_place, is_read, is_written, joins_meshes, same_flag}
use Rattle.cpl_plan.specs.ValidPlan.{IsValidPlan}
use Rattle.cpl_plan.specs.declared.parts.PlanParts.{PlanParts}
use Rattle.cpl_plan.specs.declared.parts.Part.{Part}
use Rattle.cpl_plan.specs.declared.parts.PlanEntry.{PlanEntry}
use Rattle.cpl_plan.specs.declared.parts.MapPlan.{MapPlan}
use Rattle.cpl_plan.specs.declared.parts.MeshPlan.{MeshPlan}
use Rattle.cpl_plan.specs.declared.parts.DataPlan.{DataPlan}
use Rattle.cpl_plan.specs.declared.parts.Exchange.{Exchange}
use Rattle.cpl_plan.proofs.Readings.{each_at, passes_at}
use Rattle.core_laws.proofs.Steps.{all_tell}
use Rattle.wave_coupling.specs.Known.{map_at}
use Rattle.wave_laws.proofs.Stills.{slice_in}
use Rattle.wave_values.proofs.Lists.{any_in}

-- a mapping goes from one mesh to another of as many dimensions; without one they are the same
pub record GoesBetween (plan : PlanParts) (m : MapPlan) (from to : ℕ) : Type 0 where
  pub start : m.from ≡ from
  pub end : m.to ≡ to
  pub alike : have_equal_dimensions plan from to ≡ true

abbrev pub Joins : PlanParts → Option MapPlan → (from to : ℕ) → Type 0
Joins plan None from to = from ≡ to
Joins plan (Some m) from to = GoesBetween plan m from to

pub end_is : (plan : PlanParts) (o : Option MapPlan) (from to : ℕ) → Joins plan o from to → option_map_or (λ m. m.to) o from ≡ to
end_is plan None from to is = is
end_is plan (Some m) from to is = is.end

pub start_is : (plan : PlanParts) (o : Option MapPlan) (from to : ℕ) → Joins plan o from to → option_map_or (λ m. m.from) o to ≡ from
start_is plan None from to is = sym is
start_is plan (Some m) from to is = is.start

-- data have as many components on both
components_same : (plan : PlanParts) (d from to : ℕ) → have_equal_dimensions plan from to ≡ true → components_on plan d from ≡ components_on plan d to
components_same plan d from to alike =
    let one = passes_at plan.meshes from (λ m. passes plan.meshes to (λ n. nat_eq m.dimensions n.dimensions)) alike in
    let other = passes_at plan.meshes to (λ n. nat_eq one.0.dimensions n.dimensions) one.2 in
    ap (λ (o : Option MeshPlan). option_and_then (λ (item : DataPlan). option_map (λ m. components item m) o) (slice_get plan.data_list d)) one.1
    ∙ of (slice_get plan.data_list d) one.0 other.0 (eqb-true one.0.dimensions other.0.dimensions other.2)
    ∙ sym (ap (λ (o : Option MeshPlan). option_and_then (λ (item : DataPlan). option_map (λ m. components item m) o) (slice_get plan.data_list d)) other.1)
  where
    of : (o : Option DataPlan) (m n : MeshPlan) → m.dimensions ≡ n.dimensions
        → option_and_then (λ (item : DataPlan). option_map (λ m. components item m) (Some m)) o ≡ option_and_then (λ (item : DataPlan). option_map (λ m. components item m) (Some n)) o
    of None m n same = refl
    of (Some item) m n same = ap (λ (k : ℕ). Some (if item.vector then k else 1)) same

pub components_joined : (plan : PlanParts) (o : Option MapPlan) (d from to : ℕ) → Joins plan o from to → components_on plan d from ≡ components_on plan d to
components_joined plan None d from to is = ap (components_on plan d) is
components_joined plan (Some m) d from to is = components_same plan d from to is.alike

-- an entry of a participant's list, for an exchange's data, on the mesh that its mapping begins or ends with
pub record IsFor (plan : PlanParts) (entries : List PlanEntry) (o : Option MapPlan) (e : Exchange) (from to mesh : ℕ) : Type 0 where
  pub entry : PlanEntry
  pub listed : Contains entries entry
  pub data_same : entry.data_id ≡ e.data_id
  pub mesh_same : entry.mesh ≡ mesh
  pub joins : Joins plan o from to

module _ (plan : PlanParts) (valid : IsValidPlan plan) where
  -- the mapping at a place joins the meshes that it is to join
  joined_at : (part : ℕ) (p : Part) (reading : Bool) (from to : ℕ) (place : Option ℕ) → slice_get plan.parts part ≡ Some p
      → is_map_place p.maps reading from to place ≡ true → Joins plan (map_at plan part place) from to
  joined_at part p reading from to None at is = eqb-true from to is
  joined_at part p reading from to (Some i) at is =
      let apart = and_parts (not (nat_eq from to)) (passes p.maps i (λ m. same_flag m.reading reading && nat_eq m.from from && nat_eq m.to to)) is in
      let found = passes_at p.maps i (λ m. same_flag m.reading reading && nat_eq m.from from && nat_eq m.to to) apart.1 in
      let m : MapPlan = found.0 in
      let ends = and_parts (same_flag m.reading reading && nat_eq m.from from) (nat_eq m.to to) found.2 in
      let starts = and_parts (same_flag m.reading reading) (nat_eq m.from from) ends.0 in
      let from_same : m.from ≡ from = eqb-true m.from from starts.1 in
      let to_same : m.to ≡ to = eqb-true m.to to ends.1 in
      let own = all_tell (joins_meshes plan part) p.maps m (each_at (λ q r. list_all (joins_meshes plan q) r.maps) plan.parts valid.participants.maps_join part p at) (slice_in p.maps i m found.1) in
      let alike : have_equal_dimensions plan m.from m.to ≡ true =
      (and_parts (have_equal_dimensions plan m.from m.to)
      (if m.reading then receives plan part m.from && provides plan part m.to else provides plan part m.from && receives plan part m.to) own).0 in
      subst (λ (o : Option MapPlan). Joins plan o from to) (sym (ap (λ (o : Option Part). option_and_then (λ q. slice_get q.maps i) o) at ∙ found.1))
      (record {
        start = from_same;
        end = to_same;
        alike = subst (λ (b : ℕ). have_equal_dimensions plan from b ≡ true) to_same (subst (λ (a : ℕ). have_equal_dimensions plan a m.to ≡ true) from_same alike);
      })

  -- the entry that the sender writes, and the one that the reader reads
  pub written_for : (x : ℕ) (e : Exchange) → slice_get plan.exchanges x ≡ Some e
      → (p : Part) × (slice_get plan.parts e.from ≡ Some p)
      × ((entry : PlanEntry) × Contains p.writes entry × (entry.data_id ≡ e.data_id) × Joins plan (map_at plan e.from e.write_map) entry.mesh e.mesh)
  written_for x e is =
      let found = passes_at plan.parts e.from (λ p. list_any (λ entry. nat_eq entry.data_id e.data_id && is_map_place p.maps false entry.mesh e.mesh e.write_map) p.writes)
      (each_at (λ _ e. is_written plan e) plan.exchanges valid.exchanges.written x e is) in
      let some = any_in (λ entry. nat_eq entry.data_id e.data_id && is_map_place found.0.maps false entry.mesh e.mesh e.write_map) found.0.writes found.2 in
      let both = and_parts (nat_eq some.0.data_id e.data_id) (is_map_place found.0.maps false some.0.mesh e.mesh e.write_map) some.2 in
      (found.0, found.1, (some.0, some.1, eqb-true some.0.data_id e.data_id both.0, joined_at e.from found.0 false some.0.mesh e.mesh e.write_map found.1 both.1))

  pub read_for : (x : ℕ) (e : Exchange) → slice_get plan.exchanges x ≡ Some e
      → (p : Part) × (slice_get plan.parts e.to ≡ Some p)
      × ((entry : PlanEntry) × Contains p.reads entry × (entry.data_id ≡ e.data_id) × Joins plan (map_at plan e.to e.read_map) e.mesh entry.mesh)
  read_for x e is =
      let found = passes_at plan.parts e.to (λ p. list_any (λ entry. nat_eq entry.data_id e.data_id && is_map_place p.maps true e.mesh entry.mesh e.read_map) p.reads)
      (each_at (λ _ e. is_read plan e) plan.exchanges valid.exchanges.read x e is) in
      let some = any_in (λ entry. nat_eq entry.data_id e.data_id && is_map_place found.0.maps true e.mesh entry.mesh e.read_map) found.0.reads found.2 in
      let both = and_parts (nat_eq some.0.data_id e.data_id) (is_map_place found.0.maps true e.mesh some.0.mesh e.read_map) some.2 in
      (found.0, found.1, (some.0, some.1, eqb-true some.0.data_id e.data_id both.0, joined_at e.to found.0 true e.mesh some.0.mesh e.read_map found.1 both.1))

-- What a valid plan says of an exchange to the participant that sends it, and to the one that reads it: its meshes are known there, its entry is there, and the mapping goes between meshes of as many dimensions.
use Rattle.std.proofs.Common.{◌≡◌, inl, inr, ℕ, ◌<◌, true, ◌&&◌, nat_eq, nat_lt, List, [], length, slice_get, Option, Some, None, is_some, position, Contains, refl, ap, sym, subst, ◌∙◌}
use Rattle.std.specs.Prelude.{option_map}
use Rattle.std.specs.List.{list_all}
use Rattle.std.specs.Option.{option_map_or}
use Rattle.std.proofs.lemmas.Bool.{and_parts, and_from, or_cases, eqb-true, eq-eqb, ltb-true}
use Rattle.std.proofs.lemmas.Option.{slice_get_within, same_Some}
use Rattle.cpl_plan.specs.PlanWords.{provides, receives, passes, is_among, mesh_carries}
use Rattle.cpl_plan.specs.PlanTests.{goes_over}
use Rattle.cpl_plan.specs.ValidPlan.{IsValidPlan}
use Rattle.cpl_plan.specs.declared.parts.PlanParts.{PlanParts}
use Rattle.cpl_plan.specs.declared.parts.Part.{Part}
use Rattle.cpl_plan.specs.declared.parts.PlanEntry.{PlanEntry}
use Rattle.cpl_plan.specs.declared.parts.MapPlan.{MapPlan}
use Rattle.cpl_plan.specs.declared.parts.MeshPlan.{MeshPlan}
use Rattle.cpl_plan.specs.declared.parts.Exchange.{Exchange}
use Rattle.cpl_plan.proofs.Readings.{each_at, passes_at, among_in}
use Rattle.core_laws.proofs.Steps.{all_tell}
use Rattle.mesh_data.specs.AnyMeshes.{dimensions_of}
use Rattle.mesh_data.specs.declared.any_mesh.AnyMesh.{AnyMesh}
use Rattle.wave_coupling.specs.Known.{map_at, read_mesh, serves, write_entries, write_mesh}
use Rattle.wave_values.proofs.Served.{Joins, start_is, end_is, written_for, read_for}
use Rattle.participant_waves.specs.KnownMeshes.{IsMeshOf, IsKnownTo}
use Rattle.participant_waves.proofs.PlacesFound.{found_there}

pub record ToSender (plan : PlanParts) (part : ℕ) (e : Exchange) : Type 0 where
  pub mesh : IsKnownTo plan part e.mesh
  pub written_on : IsKnownTo plan part (write_mesh plan part e)
  pub joins : Joins plan (map_at plan part e.write_map) (write_mesh plan part e) e.mesh
  pub entry : Contains (write_entries plan part) (record { data_id = e.data_id; mesh = write_mesh plan part e })

pub record ToReader (plan : PlanParts) (part : ℕ) (e : Exchange) : Type 0 where
  pub mesh : IsKnownTo plan part e.mesh
  pub read_on : IsKnownTo plan part (read_mesh plan part e)
  pub joins : Joins plan (map_at plan part e.read_map) e.mesh (read_mesh plan part e)

-- meshes that are joined have as many dimensions
pub joined_alike : (plan : PlanParts) (o : Option MapPlan) (from to : ℕ) (a b : AnyMesh) → Joins plan o from to → IsMeshOf plan from a → IsMeshOf plan to b → dimensions_of a ≡ dimensions_of b
joined_alike plan None from to a b joins is other =
    same_Some (dimensions_of a) (dimensions_of b) (sym is.dimensions ∙ ap (λ (n : ℕ). option_map (λ (m : MeshPlan). m.dimensions) (slice_get plan.meshes n)) joins ∙ other.dimensions)
joined_alike plan (Some m) from to a b joins is other =
    let one = passes_at plan.meshes from (λ m. passes plan.meshes to (λ n. nat_eq m.dimensions n.dimensions)) joins.alike in
    let two = passes_at plan.meshes to (λ n. nat_eq one.0.dimensions n.dimensions) one.2 in
    let first = same_Some (dimensions_of a) one.0.dimensions (sym is.dimensions ∙ ap (option_map (λ (m : MeshPlan). m.dimensions)) one.1) in
    let second = same_Some (dimensions_of b) two.0.dimensions (sym other.dimensions ∙ ap (option_map (λ (m : MeshPlan). m.dimensions)) two.1) in
    first ∙ eqb-true one.0.dimensions two.0.dimensions two.2 ∙ sym second

module _ (plan : PlanParts) (valid : IsValidPlan plan) (x : ℕ) (e : Exchange) (at : slice_get plan.exchanges x ≡ Some e) where
  crosses : IsKnownTo plan e.from e.mesh × IsKnownTo plan e.to e.mesh
  crosses =
      elim (or_cases (provides plan e.from e.mesh && receives plan e.to e.mesh) (provides plan e.to e.mesh && receives plan e.from e.mesh)
      (each_at (λ _ f. goes_over plan f) plan.exchanges valid.exchanges.crossing x e at)) [
        | inl out ↦ let both = and_parts (provides plan e.from e.mesh) (receives plan e.to e.mesh) out in (inl both.0, inr both.1)
        | inr back ↦ let both = and_parts (provides plan e.to e.mesh) (receives plan e.from e.mesh) back in (inr both.1, inl both.0)
      ]

  to_sender_from : ToSender plan e.from e
  to_sender_from =
      let found = written_for plan valid x e at in
      let entry : PlanEntry = found.2.0 in
      let mesh_same : write_mesh plan e.from e ≡ entry.mesh = start_is plan (map_at plan e.from e.write_map) entry.mesh e.mesh found.2.3 in
      let own = and_parts (provides plan e.from entry.mesh) (mesh_carries plan entry.mesh entry.data_id)
      (all_tell (λ f. provides plan e.from f.mesh && mesh_carries plan f.mesh f.data_id) found.0.writes entry
      (each_at (λ q r. list_all (λ f. provides plan q f.mesh && mesh_carries plan f.mesh f.data_id) r.writes) plan.parts valid.participants.written_on_own_meshes e.from found.0 found.1) found.2.1) in
      let entries : List PlanEntry = found.0.writes in
      let listed : Contains entries (record { data_id = e.data_id; mesh = write_mesh plan e.from e }) =
      subst (λ (m : ℕ). Contains entries (record { data_id = e.data_id; mesh = m })) (sym mesh_same)
      (subst (λ (d : ℕ). Contains entries (record { data_id = d; mesh = entry.mesh })) found.2.2 found.2.1) in
      record {
        mesh = crosses.0;
        written_on = inl (subst (λ (m : ℕ). provides plan e.from m ≡ true) (sym mesh_same) own.0);
        joins = subst (λ (m : ℕ). Joins plan (map_at plan e.from e.write_map) m e.mesh) (sym mesh_same) found.2.3;
        entry = subst (λ (o : Option Part). Contains (option_map_or (λ (p : Part). p.writes) o []) (record { data_id = e.data_id; mesh = write_mesh plan e.from e })) (sym found.1) listed;
      }

  to_reader_to : ToReader plan e.to e
  to_reader_to =
      let found = read_for plan valid x e at in
      let entry : PlanEntry = found.2.0 in
      let mesh_same : read_mesh plan e.to e ≡ entry.mesh = end_is plan (map_at plan e.to e.read_map) e.mesh entry.mesh found.2.3 in
      let own = and_parts (provides plan e.to entry.mesh) (mesh_carries plan entry.mesh entry.data_id)
      (all_tell (λ f. provides plan e.to f.mesh && mesh_carries plan f.mesh f.data_id) found.0.reads entry
      (each_at (λ q r. list_all (λ f. provides plan q f.mesh && mesh_carries plan f.mesh f.data_id) r.reads) plan.parts valid.participants.read_on_own_meshes e.to found.0 found.1) found.2.1) in
      record {
        mesh = crosses.1;
        read_on = inl (subst (λ (m : ℕ). provides plan e.to m ≡ true) (sym mesh_same) own.0);
        joins = subst (λ (m : ℕ). Joins plan (map_at plan e.to e.read_map) e.mesh m) (sym mesh_same) found.2.3;
      }

  pub to_sender : (part : ℕ) → e.from ≡ part → ToSender plan part e
  to_sender part same = subst (λ (p : ℕ). ToSender plan p e) same to_sender_from

  pub to_reader : (part : ℕ) → e.to ≡ part → ToReader plan part e
  to_reader part same = subst (λ (p : ℕ). ToReader plan p e) same to_reader_to

  carried : (m : MeshPlan) × (slice_get plan.meshes e.mesh ≡ Some m) × (is_among e.data_id m.data_list ≡ true)
  carried = passes_at plan.meshes e.mesh (λ m. is_among e.data_id m.data_list) (each_at (λ _ f. mesh_carries plan f.mesh f.data_id) plan.exchanges valid.exchanges.carried x e at)

  -- its mesh and its data are there
  pub mesh_within : e.mesh < length plan.meshes
  mesh_within = slice_get_within plan.meshes e.mesh carried.0 carried.1

  pub data_within : e.data_id < length plan.data_list
  data_within =
      ltb-true e.data_id (length plan.data_list)
      (all_tell (λ d. nat_lt d (length plan.data_list)) carried.0.data_list e.data_id
      (each_at (λ _ m. list_all (λ d. nat_lt d (length plan.data_list)) m.data_list) plan.meshes valid.meshes.data_declared e.mesh carried.0 carried.1)
      (among_in e.data_id carried.0.data_list carried.2))

-- the same, of the end that the exchange was found to have
pub sender_told : (plan : PlanParts) (x part : ℕ) (e : Exchange) → IsValidPlan plan → slice_get plan.exchanges x ≡ Some e → option_map (λ (f : Exchange). f.from) (slice_get plan.exchanges x) ≡ Some part
    → ToSender plan part e
sender_told plan x part e valid at is = to_sender plan valid x e at part (same_Some e.from part (sym (ap (option_map (λ (f : Exchange). f.from)) at) ∙ is))

pub reader_told : (plan : PlanParts) (x part : ℕ) (e : Exchange) → IsValidPlan plan → slice_get plan.exchanges x ≡ Some e → option_map (λ (f : Exchange). f.to) (slice_get plan.exchanges x) ≡ Some part
    → ToReader plan part e
reader_told plan x part e valid at is = to_reader plan valid x e at part (same_Some e.to part (sym (ap (option_map (λ (f : Exchange). f.to)) at) ∙ is))

-- where the entry stands that is sent
module _ (plan : PlanParts) (part : ℕ) (p : Part) (at : slice_get plan.parts part ≡ Some p) (e : Exchange) (entries : List PlanEntry) (listed : entries ≡ p.writes)
    (mesh : ℕ) (on : mesh ≡ write_mesh plan part e) where
  writes_are : write_entries plan part ≡ entries
  writes_are = ap (λ (o : Option Part). option_map_or (λ q. q.writes) o []) at ∙ sym listed

  pub has_place : ToSender plan part e → is_some (position (λ (entry : PlanEntry). nat_eq entry.data_id e.data_id && nat_eq entry.mesh mesh) entries) ≡ true
  has_place told =
      found_there (λ (entry : PlanEntry). nat_eq entry.data_id e.data_id && nat_eq entry.mesh mesh) entries (record { data_id = e.data_id; mesh = write_mesh plan part e })
      (subst (λ (list : List PlanEntry). Contains list (record { data_id = e.data_id; mesh = write_mesh plan part e })) writes_are told.entry)
      (and_from (nat_eq e.data_id e.data_id) (nat_eq (write_mesh plan part e) mesh) (eq-eqb e.data_id e.data_id refl) (eq-eqb (write_mesh plan part e) mesh (sym on)))

  pub place_is : (i : ℕ) → position (λ (entry : PlanEntry). nat_eq entry.data_id e.data_id && nat_eq entry.mesh mesh) entries ≡ Some i
      → position (serves plan part e (write_mesh plan part e)) (write_entries plan part) ≡ Some i
  place_is i is =
      ap (position (serves plan part e (write_mesh plan part e))) writes_are
      ∙ ap (λ (m : ℕ). position (λ (entry : PlanEntry). nat_eq entry.data_id e.data_id && nat_eq entry.mesh m) entries) (sym on) ∙ is

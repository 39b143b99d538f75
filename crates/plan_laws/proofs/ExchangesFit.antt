-- The exchanges of a plan fit the configuration that it is written as.
use Rattle.std.proofs.Common.{◌≡◌, ◌≢◌, ◌⊎◌, inl, inr, ℕ, ◌<◌, Bool, true, false, ◌&&◌, nat_eq, cond, List, length, map, Option, Some, None, All, Contains, ap, sym, subst, ◌∙◌}
use Rattle.std.specs.Prelude.{slice_get}
use Rattle.std.specs.List.{list_any, list_all}
use Rattle.std.specs.Str.{bytes_eq}
use Rattle.std.proofs.lemmas.Bool.{and_parts, and_from, or_cases, eqb-true}
use Rattle.cpl_plan.specs.declared.parts.PlanParts.{PlanParts}
use Rattle.cpl_plan.specs.declared.parts.Part.{Part}
use Rattle.cpl_plan.specs.declared.parts.PlanEntry.{PlanEntry}
use Rattle.cpl_plan.specs.declared.parts.MapPlan.{MapPlan}
use Rattle.cpl_plan.specs.declared.parts.Exchange.{Exchange}
use Rattle.cpl_plan.specs.declared.parts.Scheme.{Scheme}
use Rattle.cpl_plan.specs.PlanWords.{is_among, provides, receives, mesh_carries, data_of}
use Rattle.cpl_plan.specs.PlanTests.{same_flag, is_map_place}
use Rattle.cpl_plan.specs.ValidPlan.{IsValidPlan}
use Rattle.cpl_plan.proofs.Readings.{each_at, passes_at}
use Rattle.cpl_config.specs.declared.kind_words.Direction.TheVariants.{Read, Write}
use Rattle.cpl_config.specs.declared.config.Config.{Config}
use Rattle.cpl_config.specs.declared.config.DataEntry.{DataEntry}
use Rattle.cpl_config.specs.declared.config.SchemeTable.{SchemeTable}
use Rattle.mesh_rules.specs.MeshRules.{goes, has_map}
use Rattle.config_laws.specs.FitSchemes.{IsFitExchange, IsMappedThere, IsMappedHere, HandsOver}
use Rattle.config_laws.specs.FitConfig.{FitExchanges}
use Rattle.config_laws.proofs.Members.{any_at, any_found}
use Rattle.config_laws.proofs.Truths.{text_same}
use Rattle.plan_order.proofs.Named.{in_map}
use Rattle.plan_laws.specs.PlanNames.{mesh_name, data_name}
use Rattle.plan_laws.specs.PlanTables.{part_table, data_entry, map_entry}
use Rattle.plan_laws.specs.PlanSchemes.{exchange_entry, exchanges_of, scheme_table}
use Rattle.plan_laws.specs.ConfigOfPlan.{config_of_plan}
use Rattle.plan_laws.proofs.Lists.{at_in, in_at, all_in, all_mapped, passes_each, one_item}
use Rattle.plan_laws.proofs.Distinct.{same_by, distinct_part}
use Rattle.plan_laws.proofs.Known.{part_called, mesh_declared, data_declared, same_part, same_data, provides_is, receives_is, table_provides, table_receives, carried_there}
use Rattle.plan_laws.proofs.MeshesFit.{not_among, joins, goes_is}
use Rattle.plan_laws.proofs.Tables.{scheme_from, member_is}
use Rattle.plan_laws.proofs.Exchanges.{IsKnown, known_in, in_scheme}

module _ (plan : PlanParts) (valid : IsValidPlan plan) where
  abbrev config : Config
  config = config_of_plan plan

  -- the mapping at a place

  map_there : (p : ℕ) (part : Part) → slice_get plan.parts p ≡ Some part → (reading : Bool) (from to : ℕ) → from < length plan.meshes → to < length plan.meshes → (place : Option ℕ)
      → is_map_place part.maps reading from to place ≡ true → mesh_name plan from ≢ mesh_name plan to → has_map (part_table plan part) (cond reading Read Write) (mesh_name plan from) (mesh_name plan to) ≡ true
  map_there p part is reading from to from_in to_in None holds apart = absurd (apart (ap (mesh_name plan) (eqb-true from to holds)))
  map_there p part is reading from to from_in to_in (Some place) holds apart =
      let at = passes_at part.maps place (λ (m : MapPlan). same_flag m.reading reading && nat_eq m.from from && nat_eq m.to to) (and_parts _ _ holds).1 in
      let inside : Contains part.maps at.0 = in_at part.maps place at.0 at.1 in
      let its = joins plan valid p part is at.0 inside in
      let outer = and_parts _ _ at.2 in
      let inner = and_parts (same_flag at.0.reading reading) (nat_eq at.0.from from) outer.0 in
      any_at (goes (cond reading Read Write) (mesh_name plan from) (mesh_name plan to)) (map (map_entry plan) part.maps) (map_entry plan at.0) (in_map (map_entry plan) part.maps at.0 inside)
      (goes_is plan valid at.0 at.0 its.from_within its.to_within reading from to from_in to_in ∙ and_from _ _ inner.0 (and_from _ _ inner.1 outer.1))

  -- an entry of a participant, whose data are on a mesh

  entry_on : (p : ℕ) (entries : List PlanEntry) → list_all (λ e. provides plan p e.mesh && mesh_carries plan e.mesh e.data_id) entries ≡ true → (e : PlanEntry) → Contains entries e → mesh_carries plan e.mesh e.data_id ≡ true
  entry_on p entries all e inside = (and_parts _ _ (passes_each _ entries all e inside)).1

  pub written_on : (p : ℕ) (part : Part) → slice_get plan.parts p ≡ Some part → (e : PlanEntry) → Contains part.writes e → mesh_carries plan e.mesh e.data_id ≡ true
  written_on p part is e inside = entry_on p part.writes (each_at _ plan.parts valid.participants.written_on_own_meshes p part is) e inside

  pub read_on : (p : ℕ) (part : Part) → slice_get plan.parts p ≡ Some part → (e : PlanEntry) → Contains part.reads e → mesh_carries plan e.mesh e.data_id ≡ true
  read_on p part is e inside = entry_on p part.reads (each_at _ plan.parts valid.participants.read_on_own_meshes p part is) e inside

  pub one_written : (p : ℕ) (part : Part) → slice_get plan.parts p ≡ Some part → (one other : PlanEntry) → Contains part.writes one → Contains part.writes other → one.data_id ≡ other.data_id → one ≡ other
  one_written p part is one other one_in other_in same =
      same_by (λ (e : PlanEntry). e.data_id) part.writes (distinct_part nat_eq (λ (q : Part). data_of q.writes) plan.parts valid.participants.written_once p part is) one other one_in other_in same

  pub one_read : (p : ℕ) (part : Part) → slice_get plan.parts p ≡ Some part → (one other : PlanEntry) → Contains part.reads one → Contains part.reads other → one.data_id ≡ other.data_id → one ≡ other
  one_read p part is one other one_in other_in same =
      same_by (λ (e : PlanEntry). e.data_id) part.reads (each_at _ plan.parts valid.participants.read_once p part is) one other one_in other_in same

  -- the entry of an exchange's data, with the mapping that it wants

  pub record IsWrittenAt (e : Exchange) : Type 0 where
    pub part : Part
    pub at : slice_get plan.parts e.from ≡ Some part
    pub entry : PlanEntry
    pub listed : Contains part.writes entry
    pub data_same : entry.data_id ≡ e.data_id
    pub place : is_map_place part.maps false entry.mesh e.mesh e.write_map ≡ true

  pub written_at : (x : ℕ) (e : Exchange) → slice_get plan.exchanges x ≡ Some e → IsWrittenAt e
  written_at x e is =
      let at = passes_at plan.parts e.from (λ (part : Part). list_any (λ entry. nat_eq entry.data_id e.data_id && is_map_place part.maps false entry.mesh e.mesh e.write_map) part.writes) (each_at _ plan.exchanges valid.exchanges.written x e is) in
      let entry = any_found (λ (v : PlanEntry). nat_eq v.data_id e.data_id && is_map_place at.0.maps false v.mesh e.mesh e.write_map) at.0.writes at.2 in
      let parts = and_parts _ _ entry.2 in
      record { part = at.0; at = at.1; entry = entry.0; listed = entry.1; data_same = eqb-true entry.0.data_id e.data_id parts.0; place = parts.1 }

  pub record IsReadAt (e : Exchange) : Type 0 where
    pub part : Part
    pub at : slice_get plan.parts e.to ≡ Some part
    pub entry : PlanEntry
    pub listed : Contains part.reads entry
    pub data_same : entry.data_id ≡ e.data_id
    pub place : is_map_place part.maps true e.mesh entry.mesh e.read_map ≡ true

  pub read_at : (x : ℕ) (e : Exchange) → slice_get plan.exchanges x ≡ Some e → IsReadAt e
  read_at x e is =
      let at = passes_at plan.parts e.to (λ (part : Part). list_any (λ entry. nat_eq entry.data_id e.data_id && is_map_place part.maps true e.mesh entry.mesh e.read_map) part.reads) (each_at _ plan.exchanges valid.exchanges.read x e is) in
      let entry = any_found (λ (v : PlanEntry). nat_eq v.data_id e.data_id && is_map_place at.0.maps true e.mesh v.mesh e.read_map) at.0.reads at.2 in
      let parts = and_parts _ _ entry.2 in
      record { part = at.0; at = at.1; entry = entry.0; listed = entry.1; data_same = eqb-true entry.0.data_id e.data_id parts.0; place = parts.1 }

  has_data : (entries : List PlanEntry) (v : PlanEntry) (d : ℕ) → Contains entries v → v.data_id ≡ d → list_any (λ entry. bytes_eq entry.data_name (data_name plan d)) (map (data_entry plan) entries) ≡ true
  has_data entries v d inside same =
      any_at (λ (entry : DataEntry). bytes_eq entry.data_name (data_name plan d)) (map (data_entry plan) entries) (data_entry plan v) (in_map (data_entry plan) entries v inside)
      (text_same (data_name plan v.data_id) (data_name plan d) (ap (data_name plan) same))

  mapped_there : (e : Exchange) → IsKnown plan valid e → (w : IsWrittenAt e) → All (IsMappedThere (exchange_entry plan e) (part_table plan w.part)) (map (data_entry plan) w.part.writes)
  mapped_there e known w = all_mapped (IsMappedThere (exchange_entry plan e) (part_table plan w.part)) (data_entry plan) w.part.writes (λ v inside same apart.
      let on = carried_there plan valid v.mesh v.data_id (written_on e.from w.part w.at v inside) in
      let data_is : v.data_id ≡ e.data_id = same_data plan valid v.data_id e.data_id on.data_within known.on.data_within same in
      let is : w.entry ≡ v = one_written e.from w.part w.at w.entry v w.listed inside (w.data_same ∙ sym data_is) in
      let place : is_map_place w.part.maps false v.mesh e.mesh e.write_map ≡ true = subst (λ (u : PlanEntry). is_map_place w.part.maps false u.mesh e.mesh e.write_map ≡ true) is w.place in
      map_there e.from w.part w.at false v.mesh e.mesh on.mesh_within known.on.mesh_within e.write_map place apart)

  mapped_here : (e : Exchange) → IsKnown plan valid e → (r : IsReadAt e) → All (IsMappedHere (exchange_entry plan e) (part_table plan r.part)) (map (data_entry plan) r.part.reads)
  mapped_here e known r = all_mapped (IsMappedHere (exchange_entry plan e) (part_table plan r.part)) (data_entry plan) r.part.reads (λ v inside same apart.
      let on = carried_there plan valid v.mesh v.data_id (read_on e.to r.part r.at v inside) in
      let data_is : v.data_id ≡ e.data_id = same_data plan valid v.data_id e.data_id on.data_within known.on.data_within same in
      let is : r.entry ≡ v = one_read e.to r.part r.at r.entry v r.listed inside (r.data_same ∙ sym data_is) in
      let place : is_map_place r.part.maps true e.mesh v.mesh e.read_map ≡ true = subst (λ (u : PlanEntry). is_map_place r.part.maps true e.mesh u.mesh e.read_map ≡ true) is r.place in
      map_there e.to r.part r.at true e.mesh v.mesh known.on.mesh_within on.mesh_within e.read_map place (λ met. apart (sym met)))

  hands_over : (p q m : ℕ) (one other : Part) → slice_get plan.parts p ≡ Some one → slice_get plan.parts q ≡ Some other → m < length plan.meshes → (provides plan p m && receives plan q m) ≡ true
      → HandsOver (part_table plan one) (part_table plan other) (mesh_name plan m)
  hands_over p q m one other one_at other_at within holds =
      let parts = and_parts (provides plan p m) (receives plan q m) holds in (
        table_provides plan valid p one one_at m within ∙ (sym (provides_is plan valid p one one_at m) ∙ parts.0),
        table_receives plan valid q other other_at m within ∙ (sym (receives_is plan valid q other other_at m) ∙ parts.1),
      )

  crossing : (x : ℕ) (e : Exchange) → slice_get plan.exchanges x ≡ Some e → (one other : Part) → slice_get plan.parts e.from ≡ Some one → slice_get plan.parts e.to ≡ Some other → e.mesh < length plan.meshes
      → HandsOver (part_table plan one) (part_table plan other) (mesh_name plan e.mesh) ⊎ HandsOver (part_table plan other) (part_table plan one) (mesh_name plan e.mesh)
  crossing x e is one other one_at other_at within =
      elim (or_cases (provides plan e.from e.mesh && receives plan e.to e.mesh) (provides plan e.to e.mesh && receives plan e.from e.mesh) (each_at _ plan.exchanges valid.exchanges.crossing x e is)) [
        | inl forth ↦ inl (hands_over e.from e.to e.mesh one other one_at other_at within forth)
        | inr back ↦ inr (hands_over e.to e.from e.mesh other one other_at one_at within back)
      ]

  exchange_fits : (s : ℕ) (scheme : Scheme) → slice_get plan.schemes s ≡ Some scheme → (e : Exchange) → Contains (exchanges_of plan s) e → IsFitExchange config (scheme_table plan s scheme) (exchange_entry plan e)
  exchange_fits s scheme is e inside =
      let own = in_scheme plan valid s e inside in
      let at = at_in plan.exchanges e own.0 in
      let known = known_in plan valid e own.0 in
      let same : known.scheme ≡ scheme = one_item plan.schemes s known.scheme scheme (ap (slice_get plan.schemes) (sym own.1) ∙ known.scheme_at) is in
      let w = written_at at.0 e at.1 in
      let r = read_at at.0 e at.1 in
      record {
        data_declared = data_declared plan valid e.data_id known.on.data_within;
        mesh_declared = mesh_declared plan valid e.mesh known.on.mesh_within;
        carried = known.on.carried;
        apart = λ met. not_among e.from e.to known.apart (same_part plan valid e.from e.to known.from_in known.to_in met);
        from_member = member_is plan valid s scheme is e.from known.from_in ∙ subst (λ (t : Scheme). is_among e.from t.members ≡ true) same known.from_member;
        to_member = member_is plan valid s scheme is e.to known.to_in ∙ subst (λ (t : Scheme). is_among e.to t.members ≡ true) same known.to_member;
        writer = part_table plan w.part;
        writer_called = part_called plan valid e.from w.part w.at;
        reader = part_table plan r.part;
        reader_called = part_called plan valid e.to r.part r.at;
        written = has_data w.part.writes w.entry e.data_id w.listed w.data_same;
        read = has_data r.part.reads r.entry e.data_id r.listed r.data_same;
        crossing = crossing at.0 e at.1 w.part r.part w.at r.at known.on.mesh_within;
        mapped_there = mapped_there e known w;
        mapped_here = mapped_here e known r;
      }

  -- what holds of each table of a scheme
  pub all_schemes : (P : SchemeTable → Type 0) → ((s : ℕ) (scheme : Scheme) → slice_get plan.schemes s ≡ Some scheme → P (scheme_table plan s scheme)) → All P config.scheme
  all_schemes P each = all_in P config.scheme (λ table inside.
      let at = at_in config.scheme table inside in
      let from = scheme_from plan valid at.0 table at.1 in
      subst (λ (t : SchemeTable). P t) from.2 (each at.0 from.0 from.1))

  pub exchanges_fit : FitExchanges config
  exchanges_fit = all_schemes (λ (table : SchemeTable). All (IsFitExchange config table) table.exchange) (λ s scheme is.
      all_mapped (IsFitExchange config (scheme_table plan s scheme)) (exchange_entry plan) (exchanges_of plan s) (λ e inside. exchange_fits s scheme is e inside))

-- The exchanges of a valid plan, read back from the configuration that it is written as.
use Rattle.std.proofs.Common.{◌≡◌, ℕ, zero, suc, ◌+◌, ◌<◌, ◌≤◌, Bool, true, false, ◌&&◌, nat_eq, nat_lt, cond, List, [], ◌∷◌, length, map, get_or, take, Option, Some, None, Contains, refl, ap, ap₂, sym, subst, ◌∙◌, arith}
use Rattle.std.specs.Prelude.{slice_get, position, flat_map, sum_by, count_by}
use Rattle.std.specs.Option.{option_and_then}
use Rattle.std.specs.List.{enumerate_from}
use Rattle.std.specs.Str.{bytes_eq}
use Rattle.std.proofs.lemmas.Bool.{le-ltb, and_parts, and_from, eqb-true, not-true, false≢true}
use Rattle.std.proofs.lemmas.List.{length-map}
use Rattle.std.proofs.lemmas.List.Folds.{flat_map-map}
use Rattle.std.proofs.lemmas.List.Sums.{sum_by_more, length-filter}
use Rattle.std.proofs.lemmas.Option.{slice_get_within, get_or_from_slice_get}
use Rattle.plan_order.proofs.Named.{in_map}
use Rattle.cpl_plan.specs.declared.parts.PlanParts.{PlanParts}
use Rattle.cpl_plan.specs.declared.parts.Part.{Part}
use Rattle.cpl_plan.specs.declared.parts.PlanEntry.{PlanEntry}
use Rattle.cpl_plan.specs.declared.parts.MapPlan.{MapPlan}
use Rattle.cpl_plan.specs.declared.parts.Exchange.{Exchange}
use Rattle.cpl_plan.specs.declared.parts.Kind.{Kind}
use Rattle.cpl_plan.specs.declared.parts.Scheme.{Scheme}
use Rattle.cpl_plan.specs.PlanTests.{same_flag, same_way, is_map_place}
use Rattle.cpl_plan.specs.ValidPlan.{IsValidPlan}
use Rattle.cpl_plan.proofs.Readings.{each_at, passes_at, there}
use Rattle.cpl_config.specs.declared.kind_words.Direction.TheVariants.{Read, Write}
use Rattle.cpl_config.specs.declared.config.Config.{Config}
use Rattle.cpl_config.specs.declared.config.PartTable.{PartTable}
use Rattle.cpl_config.specs.declared.config.DataEntry.{DataEntry}
use Rattle.cpl_config.specs.declared.config.MapEntry.{MapEntry}
use Rattle.cpl_config.specs.declared.config.SchemeTable.{SchemeTable}
use Rattle.mesh_rules.specs.MeshRules.{goes}
use Rattle.config_laws.proofs.Truths.{counted, text_same, same_text}
use Rattle.scheme_parts.specs.NumbersOf.{exchanges_before}
use Rattle.scheme_parts.specs.MapPlaces.{map_place, entry_with, write_map, read_map}
use Rattle.scheme_parts.specs.ExchangeOf as said
use Rattle.plan_build.specs.PlanOf.{exchanges_of_all}
use Rattle.plan_laws.specs.PlanNames.{mesh_name, data_name}
use Rattle.plan_laws.specs.PlanTables.{data_entry, map_entry}
use Rattle.plan_laws.specs.PlanSchemes.{exchange_entry, exchanges_of, scheme_table}
use Rattle.plan_laws.specs.ConfigOfPlan.{config_of_plan}
use Rattle.plan_laws.proofs.Lists.{at_in, in_at, at_mapped, from_mapped, in_mapped}
use Rattle.plan_laws.proofs.Distinct.{apart_at}
use Rattle.plan_laws.proofs.Grouped.{flat_same, by_number}
use Rattle.plan_laws.proofs.Positions.{position_at, find_one, map_back, enumerated_map, enumerated_in, count_next}
use Rattle.plan_laws.proofs.Known.{part_called, same_data, carried_there, meshes_tell}
use Rattle.plan_laws.proofs.Tables.{scheme_at}
use Rattle.plan_laws.proofs.MeshesFit.{joins, goes_is, same_way_is}
use Rattle.plan_laws.proofs.Exchanges.{IsKnown, known_in, in_scheme, told_kind, by_schemes}
use Rattle.plan_laws.proofs.ExchangesFit.{written_at, read_at, written_on, read_on, one_written, one_read}
use Rattle.plan_laws.proofs.Cycles.{number_is}
use Rattle.plan_laws.proofs.NumbersBack.{data_back, mesh_back}

flags_same : (one other : Bool) → same_flag one other ≡ true → one ≡ other
flags_same true true is = refl
flags_same false false is = refl
flags_same true false is = absurd (false≢true is)
flags_same false true is = absurd (false≢true is)

module _ (plan : PlanParts) (valid : IsValidPlan plan) where
  abbrev config : Config
  config = config_of_plan plan

  -- the place of a mapping

  place_back : (p : ℕ) (part : Part) → slice_get plan.parts p ≡ Some part → (reading : Bool) (from to : ℕ) → from < length plan.meshes → to < length plan.meshes → (place : Option ℕ)
      → is_map_place part.maps reading from to place ≡ true → map_place (cond reading Read Write) (mesh_name plan from) (mesh_name plan to) (map (map_entry plan) part.maps) ≡ place
  place_back p part is reading from to from_in to_in None holds =
      ap (λ b. cond b None (position (goes (cond reading Read Write) (mesh_name plan from) (mesh_name plan to)) (map (map_entry plan) part.maps))) (meshes_tell plan valid from to from_in to_in ∙ holds)
  place_back p part is reading from to from_in to_in (Some place) holds =
      let both = and_parts _ _ holds in
      let at = passes_at part.maps place (λ (m : MapPlan). same_flag m.reading reading && nat_eq m.from from && nat_eq m.to to) both.1 in
      let its = joins plan valid p part is at.0 (in_at part.maps place at.0 at.1) in
      let outer = and_parts _ _ at.2 in
      let inner = and_parts (same_flag at.0.reading reading) (nat_eq at.0.from from) outer.0 in
      let reading_is : at.0.reading ≡ reading = flags_same at.0.reading reading inner.0 in
      let from_is : at.0.from ≡ from = eqb-true at.0.from from inner.1 in
      let to_is : at.0.to ≡ to = eqb-true at.0.to to outer.1 in
      let test : MapEntry → Bool = goes (cond reading Read Write) (mesh_name plan from) (mesh_name plan to) in
      ap (λ b. cond b None (position test (map (map_entry plan) part.maps))) (meshes_tell plan valid from to from_in to_in ∙ not-true (nat_eq from to) both.0)
      ∙ position_at test (map (map_entry plan) part.maps) place (map_entry plan at.0) (at_mapped (map_entry plan) part.maps place at.0 at.1)
      (goes_is plan valid at.0 at.0 its.from_within its.to_within reading from to from_in to_in ∙ and_from _ _ inner.0 (and_from _ _ inner.1 outer.1))
      (λ k entry below entry_at.
      let of = from_mapped (map_entry plan) part.maps k entry entry_at in
      let other = joins plan valid p part is of.0 (in_at part.maps k of.0 of.1) in
      let apart : same_way of.0 at.0 ≡ false = apart_at same_way part.maps (each_at _ plan.parts valid.participants.maps_once p part is) k place of.0 at.0 below of.1 at.1 in
      let numbers : (same_flag of.0.reading at.0.reading && (nat_eq of.0.from at.0.from && nat_eq of.0.to at.0.to)) ≡ false = same_way_is plan valid of.0 at.0 ∙ apart in
      let told : (same_flag of.0.reading reading && (nat_eq of.0.from from && nat_eq of.0.to to)) ≡ false =
      subst (λ (n : ℕ). (same_flag of.0.reading reading && (nat_eq of.0.from from && nat_eq of.0.to n)) ≡ false) to_is
      (subst (λ (n : ℕ). (same_flag of.0.reading reading && (nat_eq of.0.from n && nat_eq of.0.to at.0.to)) ≡ false) from_is
      (subst (λ (b : Bool). (same_flag of.0.reading b && (nat_eq of.0.from at.0.from && nat_eq of.0.to at.0.to)) ≡ false) reading_is numbers)) in
      subst (λ (m : MapEntry). test m ≡ false) of.2 (goes_is plan valid of.0 of.0 other.from_within other.to_within reading from to from_in to_in ∙ told))

  -- the entry of an exchange's data

  entry_is : (entries : List PlanEntry) (e : PlanEntry) (d : ℕ) → d < length plan.data_list → Contains entries e → e.data_id ≡ d
      → ((v : PlanEntry) → Contains entries v → v.data_id < length plan.data_list) → ((v : PlanEntry) → Contains entries v → e.data_id ≡ v.data_id → e ≡ v)
      → entry_with (data_name plan d) (map (data_entry plan) entries) ≡ Some (data_entry plan e)
  entry_is entries e d within inside same all_within alone =
      find_one (λ (entry : DataEntry). bytes_eq entry.data_name (data_name plan d)) (map (data_entry plan) entries) (data_entry plan e) (in_map (data_entry plan) entries e inside)
      (text_same (data_name plan e.data_id) (data_name plan d) (ap (data_name plan) same))
      (λ entry entry_in holds.
      let of = in_mapped (data_entry plan) entries entry entry_in in
      let names : data_name plan of.0.data_id ≡ data_name plan d = ap (λ (v : DataEntry). v.data_name) of.2 ∙ same_text entry.data_name (data_name plan d) holds in
      let data_is : of.0.data_id ≡ d = same_data plan valid of.0.data_id d (all_within of.0 of.1) within names in
      sym of.2 ∙ ap (data_entry plan) (sym (alone of.0 of.1 (same ∙ sym data_is))))

  write_back : (x : ℕ) (e : Exchange) → slice_get plan.exchanges x ≡ Some e → IsKnown plan valid e → write_map config (exchange_entry plan e) ≡ e.write_map
  write_back x e is known =
      let w = written_at plan valid x e is in
      let on : (v : PlanEntry) → Contains w.part.writes v → v.data_id < length plan.data_list = λ v inside. (carried_there plan valid v.mesh v.data_id (written_on plan valid e.from w.part w.at v inside)).data_within in
      let mesh_in : w.entry.mesh < length plan.meshes = (carried_there plan valid w.entry.mesh w.entry.data_id (written_on plan valid e.from w.part w.at w.entry w.listed)).mesh_within in
      let found = entry_is w.part.writes w.entry e.data_id known.on.data_within w.listed w.data_same on (λ v inside same. one_written plan valid e.from w.part w.at w.entry v w.listed inside same) in
      ap (λ (o : Option PartTable). option_and_then (λ (writer : PartTable). option_and_then (λ (entry : DataEntry). map_place Write entry.mesh (mesh_name plan e.mesh) writer.map) (entry_with (data_name plan e.data_id) writer.write)) o) (part_called plan valid e.from w.part w.at)
      ∙ (ap (λ (o : Option DataEntry). option_and_then (λ (entry : DataEntry). map_place Write entry.mesh (mesh_name plan e.mesh) (map (map_entry plan) w.part.maps)) o) found
      ∙ place_back e.from w.part w.at false w.entry.mesh e.mesh mesh_in known.on.mesh_within e.write_map w.place)

  read_back : (x : ℕ) (e : Exchange) → slice_get plan.exchanges x ≡ Some e → IsKnown plan valid e → read_map config (exchange_entry plan e) ≡ e.read_map
  read_back x e is known =
      let r = read_at plan valid x e is in
      let on : (v : PlanEntry) → Contains r.part.reads v → v.data_id < length plan.data_list = λ v inside. (carried_there plan valid v.mesh v.data_id (read_on plan valid e.to r.part r.at v inside)).data_within in
      let mesh_in : r.entry.mesh < length plan.meshes = (carried_there plan valid r.entry.mesh r.entry.data_id (read_on plan valid e.to r.part r.at r.entry r.listed)).mesh_within in
      let found = entry_is r.part.reads r.entry e.data_id known.on.data_within r.listed r.data_same on (λ v inside same. one_read plan valid e.to r.part r.at r.entry v r.listed inside same) in
      ap (λ (o : Option PartTable). option_and_then (λ (reader : PartTable). option_and_then (λ (entry : DataEntry). map_place Read (mesh_name plan e.mesh) entry.mesh reader.map) (entry_with (data_name plan e.data_id) reader.read)) o) (part_called plan valid e.to r.part r.at)
      ∙ (ap (λ (o : Option DataEntry). option_and_then (λ (entry : DataEntry). map_place Read (mesh_name plan e.mesh) entry.mesh (map (map_entry plan) r.part.maps)) o) found
      ∙ place_back e.to r.part r.at true e.mesh r.entry.mesh known.on.mesh_within mesh_in e.read_map r.place)

  -- an exchange

  exchange_back : (s : ℕ) (scheme : Scheme) → slice_get plan.schemes s ≡ Some scheme → (e : Exchange) → Contains (exchanges_of plan s) e → said.exchange_of config s (scheme_table plan s scheme) (exchange_entry plan e) ≡ e
  exchange_back s scheme is e inside =
      let own = in_scheme plan valid s e inside in
      let at = at_in plan.exchanges e own.0 in
      let known = known_in plan valid e own.0 in
      let start : Exchange = said.exchange_of config s (scheme_table plan s scheme) (exchange_entry plan e) in
      ap₂ (λ (d m : ℕ). record start { data_id = d; mesh = m }) (data_back plan valid e.data_id known.on.data_within) (mesh_back plan valid e.mesh known.on.mesh_within)
      ∙ (ap₂ (λ (from to : ℕ). record e { from = from; to = to; scheme = s; kind = start.kind; write_map = start.write_map; read_map = start.read_map }) (number_is plan valid e.from known.from_in) (number_is plan valid e.to known.to_in)
      ∙ (ap₂ (λ (n : ℕ) (kind : Kind). record e { scheme = n; kind = kind; write_map = start.write_map; read_map = start.read_map }) (sym own.1) (told_kind plan valid s scheme is e inside)
      ∙ ap₂ (λ (write read : Option ℕ). record e { write_map = write; read_map = read }) (write_back at.0 e at.1 known) (read_back at.0 e at.1 known)))

  pub scheme_exchanges_back : (s : ℕ) (scheme : Scheme) → slice_get plan.schemes s ≡ Some scheme → said.exchanges_of config s (scheme_table plan s scheme) ≡ exchanges_of plan s
  scheme_exchanges_back s scheme is = map_back (said.exchange_of config s (scheme_table plan s scheme)) (exchange_entry plan) (exchanges_of plan s) (exchange_back s scheme is)

  pub exchanges_back : exchanges_of_all config ≡ plan.exchanges
  exchanges_back =
      let made : ℕ × Scheme → SchemeTable = λ entry. scheme_table plan entry.0 entry.1 in
      let each : ℕ × SchemeTable → List Exchange = λ numbered. said.exchanges_of config numbered.0 numbered.1 in
      ap (λ (entries : List (ℕ × SchemeTable)). flat_map each entries) (enumerated_map made 0 plan.schemes)
      ∙ (flat_map-map each (λ (entry : ℕ × Scheme). (entry.0, made entry)) (enumerate_from 0 plan.schemes)
      ∙ (flat_same (λ (entry : ℕ × Scheme). said.exchanges_of config entry.0 (scheme_table plan entry.0 entry.1)) (λ (entry : ℕ × Scheme). exchanges_of plan entry.0) (enumerate_from 0 plan.schemes)
      (λ entry inside.
      let of = enumerated_in plan.schemes entry inside in
      let scheme_is : slice_get plan.schemes entry.0 ≡ Some entry.1 = of.1 ∙ ap (λ (e : ℕ × Scheme). Some e.1) (sym of.2) in
      scheme_exchanges_back entry.0 entry.1 scheme_is)
      ∙ (by_number (exchanges_of plan) 0 plan.schemes ∙ by_schemes plan valid)))

  -- how many exchanges stand before those of a scheme

  pub before_is : (s : ℕ) → s ≤ length plan.schemes → exchanges_before config s ≡ count_by (λ (e : Exchange). nat_lt e.scheme s) plan.exchanges
  before_is zero within = sym (none_below plan.exchanges)
    where
      none_below : (es : List Exchange) → count_by (λ (e : Exchange). nat_lt e.scheme 0) es ≡ 0
      none_below [] = refl
      none_below (e ∷ es) =
          let rest = none_below es in
          let here : ◌≡◌ {A = ℕ} (cond (nat_lt e.scheme 0) 1 0) 0 = ap (λ b. cond {A = ℕ} b 1 0) (le-ltb e.scheme 0 (omega arith)) in
          omega (arith, rest, here, counted (λ (x : Exchange). nat_lt x.scheme 0) e es)
  before_is (suc s) within =
      let at = there plan.schemes s (omega (arith, within)) in
      let table : SchemeTable = scheme_table plan s at.0 in
      let table_at : slice_get config.scheme s ≡ Some table = scheme_at plan valid s at.0 at.1 in
      let here : get_or config.scheme s table ≡ table = get_or_from_slice_get config.scheme s table table table_at in
      let size : length (get_or config.scheme s table).exchange ≡ length (exchanges_of plan s) = ap (λ (t : SchemeTable). length t.exchange) here ∙ length-map (exchanges_of plan s) (exchange_entry plan) in
      let more = sum_by_more (λ (t : SchemeTable). length t.exchange) config.scheme s table (slice_get_within config.scheme s table table_at) in
      let next : s + 1 ≡ suc s = omega arith in
      let told : exchanges_before config (suc s) ≡ exchanges_before config s + length (get_or config.scheme s table).exchange =
      ap (λ (n : ℕ). sum_by (λ (t : SchemeTable). length t.exchange) (take n config.scheme)) (sym next) ∙ more in
      let rest : exchanges_before config s ≡ count_by (λ (e : Exchange). nat_lt e.scheme s) plan.exchanges = before_is s (omega (arith, within)) in
      let counts = count_next (λ (e : Exchange). e.scheme) s plan.exchanges in
      let kept : length (exchanges_of plan s) ≡ count_by (λ (e : Exchange). nat_eq e.scheme s) plan.exchanges = length-filter (λ (e : Exchange). nat_eq e.scheme s) plan.exchanges in
      omega (arith, told, size, rest, counts, kept)

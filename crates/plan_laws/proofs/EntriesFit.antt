-- What the participants of a plan read is fed once, and what they write is written once, in the configuration too.
use Rattle.std.proofs.Common.{◌≡◌, ◌≢◌, ℕ, ◌<◌, Bool, true, false, ◌&&◌, nat_eq, List, [], ◌∷◌, length, map, Some, Contains, inl, inr, refl, ap, ap₂, sym, subst, ◌∙◌, arith}
use Rattle.std.specs.Prelude.{flat_map, slice_get}
use Rattle.std.specs.Str.{bytes_eq}
use Rattle.std.proofs.lemmas.Bool.{eqb-true}
use Rattle.std.proofs.lemmas.List.Folds.{flat_map-map}
use Rattle.std.proofs.lemmas.Option.{slice_get_within}
use Rattle.plan_order.proofs.Loops.{head_in, in_cons}
use Rattle.plan_order.proofs.Orders.{none_in_nil}
use Rattle.plan_order.proofs.Named.{from_map}
use Rattle.cpl_plan.specs.declared.parts.PlanParts.{PlanParts}
use Rattle.cpl_plan.specs.declared.parts.Part.{Part}
use Rattle.cpl_plan.specs.declared.parts.PlanEntry.{PlanEntry}
use Rattle.cpl_plan.specs.declared.parts.Exchange.{Exchange}
use Rattle.cpl_plan.specs.PlanWords.{passes, numbers, feeders, data_of}
use Rattle.cpl_plan.specs.ValidPlan.{IsValidPlan}
use Rattle.cpl_plan.proofs.Readings.{each_at, passes_at, at_passes, filter_in, in_filter, in_numbers}
use Rattle.cpl_tables.specs.Values.{are_distinct_texts}
use Rattle.cpl_config.specs.declared.config.Config.{Config}
use Rattle.cpl_config.specs.declared.config.PartTable.{PartTable}
use Rattle.cpl_config.specs.declared.config.DataEntry.{DataEntry}
use Rattle.cpl_config.specs.declared.config.ExchangeEntry.{ExchangeEntry}
use Rattle.cpl_config.specs.SoundConfig.{all_exchanges}
use Rattle.config_rules.specs.SchemeRules.{feeds}
use Rattle.config_laws.specs.Placed.{EachAfter, IsOnlyOne}
use Rattle.config_laws.specs.FitMeshes.{IsFitRead}
use Rattle.config_laws.specs.FitConfig.{FitRead}
use Rattle.config_laws.specs.ToldOnce.{WrittenOnce}
use Rattle.plan_laws.specs.PlanNames.{part_name, data_name}
use Rattle.plan_laws.specs.PlanTables.{part_table, data_entry}
use Rattle.plan_laws.specs.PlanSchemes.{exchange_entry}
use Rattle.plan_laws.specs.ConfigOfPlan.{config_of_plan}
use Rattle.plan_laws.proofs.Lists.{in_at, at_in, all_in, all_mapped, at_mapped, from_mapped, passes_each, each_after_mapped, only_one_at}
use Rattle.plan_laws.proofs.Distinct.{apart_at, distinct_mapped, distinct_texts}
use Rattle.plan_laws.proofs.Grouped.{in_flat, flat_same, map_flat}
use Rattle.plan_laws.proofs.Known.{part_in, part_name_is, parts_tell, data_tell, same_data, carried_there}
use Rattle.plan_laws.proofs.MeshesFit.{not_among, on_own_mesh}
use Rattle.plan_laws.proofs.Exchanges.{known, all_exchanges_are}
use Rattle.plan_laws.proofs.ExchangesFit.{written_on, read_on}

-- the one item of a list of one
one_of : {X : Type 0} (xs : List X) → length xs ≡ 1 → (x : X) × (xs ≡ x ∷ [])
one_of [] one = absurd (omega (arith, one))
one_of (x ∷ []) one = (x, refl)
one_of (x ∷ y ∷ xs) one = absurd (omega (arith, one))

module _ (plan : PlanParts) (valid : IsValidPlan plan) where
  abbrev config : Config
  config = config_of_plan plan

  -- an exchange feeds a participant with data

  pub feeds_is : (x : ℕ) (e : Exchange) → slice_get plan.exchanges x ≡ Some e → (p : ℕ) (part : Part) → slice_get plan.parts p ≡ Some part → (d : ℕ) → d < length plan.data_list
      → feeds part.name (data_name plan d) (exchange_entry plan e) ≡ (nat_eq e.to p && nat_eq e.data_id d)
  feeds_is x e is p part at d within =
      let own = known plan valid x e is in
      ap₂ (λ a b. a && b) (ap (bytes_eq (part_name plan e.to)) (sym (part_name_is plan valid p part at)) ∙ parts_tell plan valid e.to p own.to_in (part_in plan valid p part at)) (data_tell plan valid e.data_id d own.on.data_within within)

  pub record IsFedBy (p d : ℕ) : Type 0 where
    pub number : ℕ
    pub exchange : Exchange
    pub at : slice_get plan.exchanges number ≡ Some exchange
    pub feeding : (nat_eq exchange.to p && nat_eq exchange.data_id d) ≡ true
    pub alone : (n : ℕ) (e : Exchange) → slice_get plan.exchanges n ≡ Some e → (nat_eq e.to p && nat_eq e.data_id d) ≡ true → n ≡ number

  pub fed_by : (p : ℕ) (part : Part) → slice_get plan.parts p ≡ Some part → (e : PlanEntry) → Contains part.reads e → IsFedBy p e.data_id
  fed_by p part is e inside =
      let Test : Exchange → Bool = λ x. nat_eq x.to p && nat_eq x.data_id e.data_id in
      let one = one_of (feeders plan p e.data_id) (eqb-true (length (feeders plan p e.data_id)) 1 (passes_each _ part.reads (each_at _ plan.parts valid.participants.fed_once p part is) e inside)) in
      let there : Contains (feeders plan p e.data_id) one.0 = subst (λ (ns : List ℕ). Contains ns one.0) (sym one.1) (head_in one.0 []) in
      let at = passes_at plan.exchanges one.0 Test (filter_in (λ n. passes plan.exchanges n Test) (numbers plan.exchanges) one.0 there).1 in
      record {
        number = one.0;
        exchange = at.0;
        at = at.1;
        feeding = at.2;
        alone = λ n x x_is feeds_it.
            let listed : Contains (feeders plan p e.data_id) n =
            in_filter (λ k. passes plan.exchanges k Test) (numbers plan.exchanges) n (in_numbers plan.exchanges n (slice_get_within plan.exchanges n x x_is)) (at_passes plan.exchanges n Test x x_is feeds_it) in
            elim (in_cons one.0 [] n (subst (λ (ns : List ℕ). Contains ns n) one.1 listed)) [
              | inl same ↦ sym same
              | inr none ↦ absurd (none_in_nil n none)
            ];
      }

  fed : (p : ℕ) (part : Part) → slice_get plan.parts p ≡ Some part → (e : PlanEntry) → Contains part.reads e → (by : IsFedBy p e.data_id) → e.data_id < length plan.data_list
      → IsOnlyOne (feeds part.name (data_name plan e.data_id)) (all_exchanges config) (exchange_entry plan by.exchange)
  fed p part is e inside by within =
      let test : ExchangeEntry → Bool = feeds part.name (data_name plan e.data_id) in
      subst (λ (entries : List ExchangeEntry). IsOnlyOne test entries (exchange_entry plan by.exchange)) (sym (all_exchanges_are plan valid))
      (only_one_at test (map (exchange_entry plan) plan.exchanges) by.number (exchange_entry plan by.exchange) (at_mapped (exchange_entry plan) plan.exchanges by.number by.exchange by.at)
      (feeds_is by.number by.exchange by.at p part is e.data_id within ∙ by.feeding)
      (λ n entry entry_is holds.
      let from = from_mapped (exchange_entry plan) plan.exchanges n entry entry_is in
      by.alone n from.0 from.1 (sym (feeds_is n from.0 from.1 p part is e.data_id within) ∙ subst (λ (x : ExchangeEntry). test x ≡ true) (sym from.2) holds)))

  read_fits : (p : ℕ) (part : Part) → slice_get plan.parts p ≡ Some part → (n : ℕ) (e : PlanEntry) (before : List DataEntry) → slice_get part.reads n ≡ Some e
      → ((entry : DataEntry) → Contains before entry → (k : ℕ) × (k < n) × (other : PlanEntry) × (slice_get part.reads k ≡ Some other) × (data_entry plan other ≡ entry))
      → IsFitRead config (part_table plan part) before (data_entry plan e)
  read_fits p part is n e before at earlier =
      let inside : Contains part.reads e = in_at part.reads n e at in
      let within : e.data_id < length plan.data_list = (carried_there plan valid e.mesh e.data_id (read_on plan valid p part is e inside)).data_within in
      let by = fed_by p part is e inside in
      record {
        placed = on_own_mesh plan valid p part is e (passes_each _ part.reads (each_at _ plan.parts valid.participants.read_on_own_meshes p part is) e inside);
        once = all_in (λ (other : DataEntry). other.data_name ≢ data_name plan e.data_id) before (λ other here same.
            let of = earlier other here in
            let its : of.2.data_id < length plan.data_list = (carried_there plan valid of.2.mesh of.2.data_id (read_on plan valid p part is of.2 (in_at part.reads of.0 of.2 of.3))).data_within in
            let same_names : data_name plan of.2.data_id ≡ data_name plan e.data_id = ap (λ (entry : DataEntry). entry.data_name) of.4 ∙ same in
            let apart : nat_eq of.2.data_id e.data_id ≡ false =
            apart_at nat_eq (data_of part.reads) (each_at _ plan.parts valid.participants.read_once p part is) of.0 n of.2.data_id e.data_id of.1
            (at_mapped (λ (v : PlanEntry). v.data_id) part.reads of.0 of.2 of.3) (at_mapped (λ (v : PlanEntry). v.data_id) part.reads n e at) in
            not_among of.2.data_id e.data_id apart (same_data plan valid of.2.data_id e.data_id its within same_names));
        feeder = exchange_entry plan by.exchange;
        fed = fed p part is e inside by within;
      }

  pub read_fit : FitRead config
  read_fit = all_mapped (λ (table : PartTable). EachAfter (IsFitRead config table) table.read) (part_table plan) plan.parts (λ part inside.
      let at = at_in plan.parts part inside in
      each_after_mapped (IsFitRead config (part_table plan part)) (data_entry plan) part.reads (λ n e before. read_fits at.0 part at.1 n e before))

  -- what is written

  written_within : (d : ℕ) → Contains (flat_map (λ part. data_of part.writes) plan.parts) d → d < length plan.data_list
  written_within d inside =
      let of = in_flat (λ (part : Part). data_of part.writes) plan.parts d inside in
      let at = at_in plan.parts of.0 of.1 in
      let entry = from_map (λ (e : PlanEntry). e.data_id) of.0.writes d of.2 in
      subst (λ (n : ℕ). n < length plan.data_list) entry.2 (carried_there plan valid entry.0.mesh entry.0.data_id (written_on plan valid at.0 of.0 at.1 entry.0 entry.1)).data_within

  names_written : flat_map (λ (table : PartTable). map (λ (entry : DataEntry). entry.data_name) table.write) (map (part_table plan) plan.parts) ≡ map (data_name plan) (flat_map (λ part. data_of part.writes) plan.parts)
  names_written =
      flat_map-map (λ (table : PartTable). map (λ (entry : DataEntry). entry.data_name) table.write) (part_table plan) plan.parts
      ∙ (flat_same (λ (part : Part). map (λ (entry : DataEntry). entry.data_name) (map (data_entry plan) part.writes)) (λ (part : Part). map (data_name plan) (data_of part.writes)) plan.parts (λ part inside. twice part.writes)
      ∙ map_flat (data_name plan) (λ (part : Part). data_of part.writes) plan.parts)
    where
      twice : (entries : List PlanEntry) → map (λ (entry : DataEntry). entry.data_name) (map (data_entry plan) entries) ≡ map (data_name plan) (data_of entries)
      twice [] = refl
      twice (e ∷ entries) = ap (λ (names : List (List ℕ)). data_name plan e.data_id ∷ names) (twice entries)

  pub written_once : WrittenOnce config
  written_once =
      ap are_distinct_texts names_written
      ∙ (distinct_texts (map (data_name plan) (flat_map (λ part. data_of part.writes) plan.parts))
      ∙ distinct_mapped nat_eq bytes_eq (data_name plan) (flat_map (λ part. data_of part.writes) plan.parts)
      (λ a b one other apart. data_tell plan valid a b (written_within a one) (written_within b other) ∙ apart)
      valid.participants.written_once)

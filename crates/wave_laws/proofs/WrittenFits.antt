-- What is written for an entry, of all values that a step writes, is as many Values as the entry has.
use Rattle.std.proofs.Common.{◌≡◌, ◌⊎◌, inl, inr, ℕ, Bool, true, false, ◌&&◌, nat_eq, if◌then◌else◌, List, [], ◌∷◌, length, take, drop, sum_by, All, Contains, ℤ, ap, sym, subst, ◌∙◌, arith, length-drop}
use Rattle.std.proofs.lemmas.Bool.{cases_Bool, and_parts, and_from, eqb-true, eq-eqb, false≢true}
use Rattle.std.proofs.lemmas.List.{length-take-le}
use Rattle.std.proofs.lemmas.List.Elements.{All-take, All-drop}
use Rattle.std.proofs.lemmas.List.Sums.{sum_by-cons}
use Rattle.plan_order.proofs.Loops.{in_cons}
use Rattle.plan_order.proofs.Orders.{none_in_nil}
use Rattle.fixed_num.specs.Numbers.{IsValue}
use Rattle.cpl_plan.specs.declared.parts.PlanParts.{PlanParts}
use Rattle.cpl_plan.specs.declared.parts.PlanEntry.{PlanEntry}
use Rattle.wave_coupling.specs.Known.{Known, width_of}
use Rattle.wave_coupling.specs.PostedWaves.{values_at}
use Rattle.wave_laws.specs.Fitting.{AreValues}

module _ (plan : PlanParts) (part : ℕ) (known : Known) where
  -- an entry of the same data and mesh has the same width
  same_width : (one entry : PlanEntry) → (nat_eq one.data_id entry.data_id && nat_eq one.mesh entry.mesh) ≡ true → width_of plan part known one ≡ width_of plan part known entry
  same_width one entry same =
      let both = and_parts (nat_eq one.data_id entry.data_id) (nat_eq one.mesh entry.mesh) same in
      let data_same : one.data_id ≡ entry.data_id = eqb-true one.data_id entry.data_id both.0 in
      let mesh_same : one.mesh ≡ entry.mesh = eqb-true one.mesh entry.mesh both.1 in
      ap (λ (d : ℕ). width_of plan part known (record { data_id = d; mesh = one.mesh })) data_same
      ∙ ap (λ (m : ℕ). width_of plan part known (record { data_id = entry.data_id; mesh = m })) mesh_same

  pub values_written : (entries : List PlanEntry) (entry : PlanEntry) (values : List ℤ) → Contains entries entry → sum_by (width_of plan part known) entries ≡ length values → All IsValue values
      → AreValues (width_of plan part known entry) (values_at plan part known entries entry values)
  values_written [] entry values inside total all = absurd (none_in_nil entry inside)
  values_written (one ∷ rest) entry values inside total all =
      by (cases_Bool (nat_eq one.data_id entry.data_id && nat_eq one.mesh entry.mesh))
      (λ among. values_written rest entry (drop (width_of plan part known one) values) among
      (omega (arith, sum_by-cons (width_of plan part known) one rest, total, length-drop (width_of plan part known one) values))
      (All-drop IsValue (width_of plan part known one) values all))
    where
      by : ((nat_eq one.data_id entry.data_id && nat_eq one.mesh entry.mesh) ≡ true) ⊎ ((nat_eq one.data_id entry.data_id && nat_eq one.mesh entry.mesh) ≡ false)
          → (Contains rest entry → AreValues (width_of plan part known entry) (values_at plan part known rest entry (drop (width_of plan part known one) values)))
          → AreValues (width_of plan part known entry) (values_at plan part known (one ∷ rest) entry values)
      by (inl same) further =
          subst (λ (b : Bool). AreValues (width_of plan part known entry)
          (if b then take (width_of plan part known one) values else values_at plan part known rest entry (drop (width_of plan part known one) values))) (sym same)
          (record {
            in_all = length-take-le (width_of plan part known one) values (omega (arith, sum_by-cons (width_of plan part known) one rest, total)) ∙ same_width one entry same;
            each = All-take IsValue (width_of plan part known one) values all;
          })
      by (inr other) further =
          subst (λ (b : Bool). AreValues (width_of plan part known entry)
          (if b then take (width_of plan part known one) values else values_at plan part known rest entry (drop (width_of plan part known one) values))) (sym other)
          (further (elim (in_cons one rest entry inside) [
            | inl same ↦
                let like : (nat_eq one.data_id entry.data_id && nat_eq one.mesh entry.mesh) ≡ true =
                and_from (nat_eq one.data_id entry.data_id) (nat_eq one.mesh entry.mesh) (eq-eqb one.data_id entry.data_id (ap (λ (e : PlanEntry). e.data_id) same))
                (eq-eqb one.mesh entry.mesh (ap (λ (e : PlanEntry). e.mesh) same)) in
                absurd (false≢true (sym other ∙ like))
            | inr among ↦ among
          ]))

-- Of all that is written at a time, what is written of an entry is what stands at its place.
use Rattle.std.proofs.Common.{◌≡◌, ℕ, zero, suc, ◌<◌, Bool, true, false, ◌&&◌, nat_eq, if◌then◌else◌, List, [], ◌∷◌, ◌++◌, length, map, take, drop, get_or, slice_get, Some, ℤ, ap, sym, ◌∙◌, arith}
use Rattle.std.specs.List.{flat_map}
use Rattle.std.proofs.Math.Seq.{take-append_seam, drop-append_seam}
use Rattle.std.proofs.lemmas.Option.{none-some, same_Some}
use Rattle.cpl_plan.specs.declared.parts.PlanParts.{PlanParts}
use Rattle.cpl_plan.specs.declared.parts.PlanEntry.{PlanEntry}
use Rattle.wave_coupling.specs.Known.{Known, width_of}
use Rattle.wave_coupling.specs.PostedWaves.{values_at}

-- two entries of the same data on the same mesh
abbrev pub same_entry : (entry one : PlanEntry) → Bool
same_entry entry one = nat_eq one.data_id entry.data_id && nat_eq one.mesh entry.mesh

module _ (plan : PlanParts) (part : ℕ) (known : Known) {W : Type 0} (values : W → List ℤ) (entry : PlanEntry) where
  pub values_found : (entries : List PlanEntry) (ws : List W) (n : ℕ) (w : W)
      → map (λ v. length (values v)) ws ≡ map (width_of plan part known) entries → n < length entries
      → same_entry entry (get_or entries n entry) ≡ true → ((k : ℕ) → k < n → same_entry entry (get_or entries k entry) ≡ false)
      → slice_get ws n ≡ Some w → values_at plan part known entries entry (flat_map values ws) ≡ values w
  values_found [] ws n w widths within is before found = absurd (omega (arith, within))
  values_found (one ∷ rest) [] n w widths within is before found = absurd (none-some w found)
  values_found (one ∷ rest) (v ∷ ws) zero w widths within is before found =
      let wide : length (values v) ≡ width_of plan part known one = cc in
      ap (λ (b : Bool). if b then take (width_of plan part known one) (values v ++ flat_map values ws)
      else values_at plan part known rest entry (drop (width_of plan part known one) (values v ++ flat_map values ws))) is
      ∙ ap (λ (n : ℕ). take n (values v ++ flat_map values ws)) (sym wide) ∙ take-append_seam (values v) (flat_map values ws) ∙ ap values (same_Some v w found)
  values_found (one ∷ rest) (v ∷ ws) (suc n) w widths within is before found =
      let wide : length (values v) ≡ width_of plan part known one = cc in
      let others : map (λ v. length (values v)) ws ≡ map (width_of plan part known) rest = cc in
      ap (λ (b : Bool). if b then take (width_of plan part known one) (values v ++ flat_map values ws)
      else values_at plan part known rest entry (drop (width_of plan part known one) (values v ++ flat_map values ws))) (before 0 (omega (arith)))
      ∙ ap (λ (n : ℕ). values_at plan part known rest entry (drop n (values v ++ flat_map values ws))) (sym wide)
      ∙ ap (values_at plan part known rest entry) (drop-append_seam (values v) (flat_map values ws))
      ∙ values_found rest ws n w others (omega (arith, within)) is (λ k less. before (suc k) (omega (arith, less))) found

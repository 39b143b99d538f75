-- Until when a turn goes, by its clock.
use Rattle.std.proofs.Common.{◌≡◌, ℕ, ◌*◌, Bool, true, false, ◌&&◌, nat_eq, if◌then◌else◌, List, [], map, length, Some, refl, ap, sym, ◌∙◌, arith}
use Rattle.std.proofs.lemmas.List.Elements.{All-map}
use Rattle.mesh_data.specs.AnyMeshes.{vertices_of}
use Rattle.mesh_data.specs.declared.any_mesh.AnyMesh.{AnyMesh}
use Rattle.cpl_plan.specs.Windows.{window_end, latest_end}
use Rattle.cpl_plan.specs.declared.parts.PlanParts.{PlanParts}
use Rattle.cpl_plan.specs.declared.parts.WindowMethod.{WindowMethod}
use Rattle.cpl_plan.specs.declared.parts.WindowMethod.TheVariants.{Fixed, FirstParticipant}
use Rattle.coupled_loop.specs.PlanFrames.{window_maker}
use Rattle.wave_coupling.specs.Coupling.{is_first_step, makes_windows}
use Rattle.participant_words.specs.Begun.{end_by, latest_of, time_or_zero}
use Rattle.participant_words.specs.Course.{Turn}
use Rattle.participant_tables.specs.Named.{Called}
use Rattle.participant_tables.specs.WriteKept.{WriteKept}
use Rattle.participant_tables.specs.WriteSteps.{forgotten}
use Rattle.participant_tables.specs.declared.read_table.ReadEntry.{ReadEntry}

-- the clock tells the turn's latest end
pub latest_is : (plan : PlanParts) (part : ℕ) (turn : Turn) (newest latest : ℕ) (one_step : Bool) → one_step ≡ makes_windows plan part
    → (plan.method ≡ Fixed → (ends : List ℕ) → window_end plan ends turn.window ≡ Some latest)
    → (plan.method ≡ FirstParticipant → one_step ≡ true → latest ≡ latest_end plan turn.start)
    → (plan.method ≡ FirstParticipant → one_step ≡ false → latest ≡ newest)
    → latest ≡ latest_of plan part turn newest
latest_is plan part turn newest latest one_step same by_plan by_own_step by_the_step_made = by plan.method refl
  where
    chosen : Bool → ℕ
    chosen b = if b then latest_end plan turn.start else end_by plan plan.method turn newest

    of : (b : Bool) → makes_windows plan part ≡ b → plan.method ≡ FirstParticipant → latest ≡ latest_of plan part turn newest
    of true own is = by_own_step is (same ∙ own) ∙ sym (ap chosen own)
    of false other is = by_the_step_made is (same ∙ other) ∙ sym (ap chosen other ∙ ap (λ (m : WindowMethod). end_by plan m turn newest) is)

    by : (m : WindowMethod) → plan.method ≡ m → latest ≡ latest_of plan part turn newest
    by Fixed is =
        sym (ap (λ (m : WindowMethod). if is_first_step m && nat_eq part (window_maker plan) then latest_end plan turn.start else end_by plan m turn newest) is
        ∙ ap time_or_zero (by_plan is []))
    by FirstParticipant is = of (makes_windows plan part) refl is

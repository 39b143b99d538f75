-- All that is given in a state that fitting events come to fits, and meshes are not too large.
use Rattle.std.proofs.Common.{◌≡◌, inl, inr, ℕ, ◌<◌, ◌≤◌, ◌^◌, List, [], ◌∷◌, length, Some, IsSome, refl, ap, sym, subst, ◌∙◌}
use Rattle.std.proofs.lemmas.Bool.{cases_eq}
use Rattle.std.proofs.lemmas.Option.{none-some}
use Rattle.cpl_plan.specs.ValidPlan.{IsValidPlan}
use Rattle.cpl_plan.specs.declared.parts.PlanParts.{PlanParts}
use Rattle.coupled_loop.specs.Numbered.{put}
use Rattle.coupled_loop.specs.Given.{found}
use Rattle.coupled_loop.specs.CoreState.{look_in}
use Rattle.coupled_loop.specs.LegalHistory.{Happens, opening_state}
use Rattle.coupled_loop.specs.Settled.{Extends, IsSettled}
use Rattle.core_laws.proofs.Growth.{step_extends}
use Rattle.core_laws.proofs.PlanSound.{plan_sound}
use Rattle.core_laws.proofs.Puts.{put_same, put_other}
use Rattle.core_laws.proofs.Sound.{IsSound}
use Rattle.core_laws.proofs.Steps.{made_by}
use Rattle.core_laws.proofs.Well.{IsWell}
use Rattle.core_laws.proofs.Wellness.{opening_well, put_each, step_good, step_well}
use Rattle.wave_coupling.specs.Coupling.{exchanged, wave_frame}
use Rattle.wave_laws.specs.Fitting.{IsFittingLook}
use Rattle.wave_laws.proofs.Settling.{wave_settled}
use Rattle.wave_readings.proofs.Invariant.{GiftsFit}
use Rattle.wave_readings.proofs.LooksFit.{look_fits}
use Rattle.core_sides.specs.CoreWords.{WaveState, WaveSide, WaveAct, WaveReply, WaveEntry, wave_step}
use Rattle.core_sides.specs.Fitting.{IsFitting}
use Rattle.core_sides.specs.Reached.{AreFitting, IsReached}
use Rattle.core_fits.specs.VerticesIn.{vertices_in}
use Rattle.core_fits.proofs.Turns.{reached_in_order}
use Rattle.core_fits.proofs.MeshesKnown.{HasMeshes, MeshesStay, few_vertices, has_meshes_still, step_meshes}
use Rattle.core_fits.proofs.GiftsFit.{AllFit, old_gift, step_gifts}

module _ (plan : PlanParts) (valid : IsValidPlan plan) where
  is_sound : IsSound (wave_frame plan)
  is_sound = plan_sound plan (exchanged plan) valid

  settled : IsSettled (wave_frame plan)
  settled = wave_settled plan valid

  opening_fits : AllFit plan opening_state
  opening_fits = record {
    meshes = λ part below. record {
      provided = λ meshes is. absurd (none-some meshes is);
      own = λ past. absurd past;
      others = λ past. absurd past;
    };
    gifts = λ part below item gift at. absurd (none-some gift at);
  }

  module _ (sides : WaveState) (well : IsWell (wave_frame plan) sides) (all : AllFit plan sides) (part : ℕ) (act : WaveAct) (reply : WaveReply) (side : WaveSide)
      (fits : IsFitting plan sides part act) (made : wave_step plan sides part act ≡ Some (reply, side)) where
    after : WaveState
    after = put sides part side

    stay : MeshesStay sides (put sides part side)
    stay one some = elim (cases_eq one part) [
      | inl same ↦
          subst (λ (p : ℕ). (put sides part side p).sent ≡ (sides p).sent) (sym same)
          (ap (λ (s : WaveSide). s.sent) (put_same sides part side)
          ∙ (step_good (wave_frame plan) is_sound settled sides part act reply side fits.participant well made).sent (subst (λ (p : ℕ). IsSome (sides p).sent) same some))
      | inr apart ↦ ap (λ (s : WaveSide). s.sent) (put_other sides part side one apart)
    ]

    extends : Extends (look_in sides) (look_in (put sides part side))
    extends = step_extends (wave_frame plan) sides part act reply side made

    gifts_put : (one : ℕ) → one < length plan.parts → GiftsFit plan (vertices_in plan (put sides part side)) (look_in (put sides part side)) one
    gifts_put one below = elim (cases_eq one part) [
      | inl same ↦
          subst (λ (p : ℕ). GiftsFit plan (vertices_in plan (put sides part side)) (look_in (put sides part side)) p) (sym same)
          (step_gifts plan valid sides well all part fits.participant (sides part).place refl (well.stands part) act reply side fits.fits
          (made_by (wave_frame plan) sides part act (reply, side) made).1 stay extends)
      | inr apart ↦ λ item gift at.
          old_gift plan valid sides well all (put sides part side) stay extends one below item gift
          (sym (ap (λ (s : WaveSide). found s.given item) (put_other sides part side one apart)) ∙ at)
    ]

    step_fits : AllFit plan (put sides part side)
    step_fits = record {
      meshes = put_each (λ (one : ℕ) (s : WaveSide). one < length plan.parts → HasMeshes plan (put sides part side) one s) sides part side
          (λ below. has_meshes_still plan valid sides (put sides part side) stay part side
          (step_meshes plan sides part (all.meshes part below) (sides part).place refl act reply side fits.fits (made_by (wave_frame plan) sides part act (reply, side) made).1))
          (λ one apart below. has_meshes_still plan valid sides (put sides part side) stay one (sides one) (all.meshes one below));
      gifts = gifts_put;
    }

  happens_fits : (history : List WaveEntry) (from to : WaveState) → IsWell (wave_frame plan) from → AllFit plan from → Happens (wave_frame plan) from history to → AreFitting plan from history
      → AllFit plan to
  happens_fits [] from to well all happens fitting = subst (λ (s : WaveState). AllFit plan s) happens all
  happens_fits (entry ∷ rest) from to well all happens fitting =
      happens_fits rest (put from entry.part happens.1) to
      (step_well (wave_frame plan) is_sound settled from entry.part entry.act happens.0 happens.1 happens.2 well happens.3)
      (step_fits from well all entry.part entry.act happens.0 happens.1 fitting.0 happens.3) happens.4
      (fitting.1 happens.0 happens.1 happens.3)

  module _ (history : List WaveEntry) (sides : WaveState) (reached : IsReached plan history sides) where
    pub all_fit : AllFit plan sides
    all_fit = happens_fits history opening_state sides (opening_well (wave_frame plan)) opening_fits reached.legal reached.fitting

    -- all that was given fits
    pub reached_fits : IsFittingLook plan (vertices_in plan sides) (look_in sides)
    reached_fits = look_fits plan valid (vertices_in plan sides) (look_in sides) (reached_in_order plan valid history sides reached) all_fit.gifts

    -- a mesh has at most 10,000 vertices
    pub vertices_few : (mesh : ℕ) → vertices_in plan sides mesh ≤ 10 ^ 4
    vertices_few mesh = few_vertices plan valid sides all_fit.meshes mesh

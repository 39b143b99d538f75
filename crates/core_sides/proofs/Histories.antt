-- One more event, after a list of them.
use Rattle.std.proofs.Common.{◌≡◌, ℕ, ◌<◌, List, [], ◌∷◌, ◌++◌, Some, sym, ap, subst, ◌∙◌}
use Rattle.std.proofs.lemmas.Option.{same_Some}
use Rattle.cpl_plan.specs.ValidPlan.{IsValidPlan}
use Rattle.cpl_plan.specs.declared.parts.PlanParts.{PlanParts}
use Rattle.coupled_loop.specs.Numbered.{put}
use Rattle.coupled_loop.specs.Frames.{Frame}
use Rattle.coupled_loop.specs.Settled.{IsSettled}
use Rattle.coupled_loop.specs.CoreState.{CoreState, Side}
use Rattle.coupled_loop.specs.CoreStep.{Reply, core_step}
use Rattle.coupled_loop.specs.LegalHistory.{Entry, Happens, opening_state}
use Rattle.core_laws.proofs.PlanSound.{plan_sound}
use Rattle.wave_coupling.specs.Coupling.{wave_frame, exchanged}
use Rattle.core_sides.specs.CoreWords.{WaveState, WaveSide, WaveAct, WaveReply, WaveEntry, wave_step}
use Rattle.core_sides.specs.Fitting.{IsFitting}
use Rattle.core_sides.specs.Reached.{AreFitting, IsReached}
use Rattle.core_sides.proofs.Aligned.{IsTold, legal_told}

module _ {Mesh Post Inputs Fault : Type 0} (frame : Frame Post Inputs Fault) where
  pub happens_more : (history : List (Entry Mesh Post Fault)) (from to : CoreState Mesh Post Fault) (entry : Entry Mesh Post Fault) (reply : Reply Mesh Inputs Fault) (side : Side Mesh Post Fault)
      → Happens frame from history to → entry.part < frame.parts → core_step frame to entry.part entry.act ≡ Some (reply, side)
      → Happens frame from (history ++ entry ∷ []) (put to entry.part side)
  happens_more [] from to entry reply side happens below made = (
    reply,
    side,
    below,
    ap (λ (s : CoreState Mesh Post Fault). core_step frame s entry.part entry.act) happens ∙ made,
    ap (λ (s : CoreState Mesh Post Fault). put s entry.part side) happens,
  )
  happens_more (one ∷ rest) from to entry reply side happens below made = (
    happens.0,
    happens.1,
    happens.2,
    happens.3,
    happens_more rest (put from one.part happens.1) to entry reply side happens.4 below made,
  )

fitting_more : (plan : PlanParts) (history : List WaveEntry) (from to : WaveState) (entry : WaveEntry) → Happens (wave_frame plan) from history to → AreFitting plan from history
    → IsFitting plan to entry.part entry.act → AreFitting plan from (history ++ entry ∷ [])
fitting_more plan [] from to entry happens fitting fits =
    (subst (λ (s : WaveState). IsFitting plan s entry.part entry.act) (sym happens) fits, λ reply side made. tt)
fitting_more plan (one ∷ rest) from to entry happens fitting fits = (
  fitting.0,
  λ reply side made.
      fitting_more plan rest (put from one.part side) to entry
      (subst (λ (s : WaveSide). Happens (wave_frame plan) (put from one.part s) rest to)
      (ap (λ (pair : WaveReply × WaveSide). pair.1) (same_Some (happens.0, happens.1) (reply, side) (sym happens.3 ∙ made))) happens.4)
      (fitting.1 reply side made) fits,
)

-- one more event leads to the state after it
pub reached_more : (plan : PlanParts) (history : List WaveEntry) (sides : WaveState) (part : ℕ) (act : WaveAct) (reply : WaveReply) (side : WaveSide)
    → IsReached plan history sides → IsFitting plan sides part act → wave_step plan sides part act ≡ Some (reply, side)
    → IsReached plan (history ++ record { part = part; act = act } ∷ []) (put sides part side)
reached_more plan history sides part act reply side reached fits made = record {
  legal = happens_more (wave_frame plan) history opening_state sides (record { part = part; act = act }) reply side reached.legal fits.participant made;
  fitting = fitting_more plan history opening_state sides (record { part = part; act = act }) reached.legal reached.fitting fits;
}

-- what holds of every state that events come to
pub reached_told : (plan : PlanParts) (history : List WaveEntry) (sides : WaveState) → IsValidPlan plan → IsSettled (wave_frame plan) → IsReached plan history sides → IsTold (wave_frame plan) sides
reached_told plan history sides valid settled reached =
    legal_told (wave_frame plan) (plan_sound plan (exchanged plan) valid) settled history sides reached.legal

-- What becomes of an event that asks for something, by what is kept and by the state.
use Rattle.std.proofs.Common.{◌≡◌, ℕ, ◌<◌, Bool, false, length, List, [], ◌∷◌, ◌++◌, slice_get, Option, Some, None, Ok, Err, refl, sym, ap, subst, ◌∙◌}
use Rattle.std.proofs.Math.Path.{fun_ext}
use Rattle.cpl_plan.specs.ValidPlan.{IsValidPlan}
use Rattle.cpl_plan.specs.declared.parts.PlanParts.{PlanParts}
use Rattle.coupled_loop.specs.Endings.{cut}
use Rattle.coupled_loop.specs.Numbered.{put}
use Rattle.coupled_loop.specs.CoreState.{Place, sending, collecting, opening, taking, within, judging, has_ended, look_in, turn_at}
use Rattle.coupled_loop.specs.CoreStep.{takes_meshes, takes, judges, is_cut, ends_with, cut_by, waits_for}
use Rattle.wave_coupling.specs.Coupling.{wave_frame}
use Rattle.wave_laws.proofs.Settling.{wave_settled}
use Rattle.core_sides.specs.Answers.{answer_in, made_in, entry_in, side_by, state_after}
use Rattle.core_sides.specs.CoreWords.{WaveState, WaveSide, WaveAct, WaveEntry, wave_step}
use Rattle.core_sides.specs.Fitting.{FitsAt, IsFitting}
use Rattle.core_sides.specs.KeptSides.{kept_turn}
use Rattle.core_sides.specs.Reached.{IsReached}
use Rattle.core_sides.specs.SidesStand.{AreStanding}
use Rattle.core_sides.specs.declared.event.CoreErr.TheVariants.{NotEnabled}
use Rattle.core_sides.specs.declared.event.Reply.TheVariants.{Cut as CutReply}
use Rattle.core_sides.specs.declared.search.Search.{Search}
use Rattle.core_sides.specs.declared.sides.Sides.{Sides}
use Rattle.core_sides.specs.declared.standing.Standing.{Standing}
use Rattle.core_sides.proofs.Aligned.{IsTold}
use Rattle.core_sides.proofs.AsksTell.{search_is}
use Rattle.core_sides.proofs.Gates.{Asks, cut_answers, wait_answers}
use Rattle.core_sides.proofs.Histories.{reached_told}
use Rattle.core_sides.proofs.KeptTells.{turn_is}
use Rattle.coupling_core.specs.CoreKept.{CoreKept}
use Rattle.coupling_core.specs.Gated.{gate_by, kept_gate, gate_in}
use Rattle.coupling_core.specs.OneMore.{MayMake, IsGranted, Answers, Makes}
use Rattle.coupling_core.specs.StandsFor.{StandsFor}
use Rattle.coupling_core.specs.declared.gate.Gate.{Gate}
use Rattle.coupling_core.specs.declared.gate.Gate.TheVariants.{Open, Cut, Waits}

-- by the gate: by whom it is cut, for whom it waits
pub open_by : (turn : ℕ → ℕ × ℕ) (who owner : Option ℕ) → gate_by turn who owner ≡ Open → owner ≡ None
open_by turn (Some one) owner is = cc
open_by turn None (Some one) is = cc
open_by turn None None is = refl

pub cut_by_whom : (turn : ℕ → ℕ × ℕ) (who owner : Option ℕ) (one : ℕ) → gate_by turn who owner ≡ Cut one → who ≡ Some one
cut_by_whom turn (Some other) owner one is = cc
cut_by_whom turn None (Some other) one is = cc
cut_by_whom turn None None one is = cc

record WaitsAt (turn : ℕ → ℕ × ℕ) (who owner : Option ℕ) (one w k : ℕ) : Type 0 where
  none : who ≡ None
  some : owner ≡ Some one
  window : (turn one).0 ≡ w
  iteration : (turn one).1 ≡ k

waits_by : (turn : ℕ → ℕ × ℕ) (who owner : Option ℕ) (one w k : ℕ) → gate_by turn who owner ≡ Waits one w k → WaitsAt turn who owner one w k
waits_by turn (Some other) owner one w k is = cc
waits_by turn None (Some other) one w k is =
    let same : other ≡ one = cc in
    record { none = refl; some = ap Some same; window = ap (λ n. (turn n).0) (sym same) ∙ cc; iteration = ap (λ n. (turn n).1) (sym same) ∙ cc }
waits_by turn None None one w k is = cc

-- what is kept tells the gate of the state
pub gate_is : (plan : PlanParts) (kept : Sides) (history : List WaveEntry) (sides : WaveState) (p : ℕ) (standing : Standing) → IsValidPlan plan → IsReached plan history sides
    → AreStanding plan kept sides → p < length plan.parts → slice_get kept.standings.items p ≡ Some standing → kept_gate plan kept p standing ≡ gate_in plan sides p
gate_is plan kept history sides p standing valid reached are below at =
    ap (λ (s : Search). gate_by (kept_turn kept) s.cut s.waits)
    (search_is plan kept sides are valid (reached_told plan history sides valid (wave_settled plan valid) reached) p standing.place below (are.each p standing at).place)
    ∙ ap (λ (turn : ℕ → ℕ × ℕ). gate_by turn (cut_by (wave_frame plan) sides p) (waits_for (wave_frame plan) sides p)) (fun_ext (turn_is plan kept sides are))

-- who may ask for something may be cut
pub may_be_cut : (core : CoreKept) (p : ℕ) (act : WaveAct) → MayMake core p act → MayMake core p is_cut
may_be_cut core p act may history sides stands =
    let fits = may history sides stands in record { participant = fits.participant; running = fits.running; fits = tt }

module _ (plan : PlanParts) (sides : WaveState) (p : ℕ) (running : has_ended (sides p) ≡ false) where
  -- what fits at its place and asks for something
  pub asks_meshes : (place : Place) → FitsAt plan sides p place takes_meshes → Asks plan sides p running place takes_meshes
  asks_meshes collecting fits = tt
  asks_meshes place fits = absurd fits

  pub asks_inputs : (place : Place) → FitsAt plan sides p place takes → Asks plan sides p running place takes
  asks_inputs (taking w k) fits = fits
  asks_inputs place fits = absurd fits

  pub asks_judgement : (place : Place) → FitsAt plan sides p place judges → Asks plan sides p running place judges
  asks_judgement (judging scheme w k) fits = tt
  asks_judgement place fits = absurd fits

  module _ (act : WaveAct) (asks : Asks plan sides p running (sides p).place act) where
    -- it waits
    pub waiting_answer : (owner w k : ℕ) → gate_in plan sides p ≡ Waits owner w k → answer_in plan sides p act ≡ Err (NotEnabled owner w k)
    waiting_answer owner w k is =
        let waits = waits_by (λ one. turn_at (sides one).place) (cut_by (wave_frame plan) sides p) (waits_for (wave_frame plan) sides p) owner w k is in
        wait_answers plan sides p running (sides p).place act refl asks owner waits.none waits.some
        ∙ ap (λ (v : ℕ). Err (NotEnabled owner v (turn_at (sides owner).place).1)) waits.window
        ∙ ap (λ (j : ℕ). Err (NotEnabled owner w j)) waits.iteration

    -- it is cut
    pub cut_answer : (who : ℕ) → cut_by (wave_frame plan) sides p ≡ Some who → answer_in plan sides p act ≡ Ok (CutReply who)
    cut_answer who found = (cut_answers plan sides p running (sides p).place act refl asks who found).0

    pub cut_as_asked : (now : CoreKept) (history : List WaveEntry) (who : ℕ) → cut_by (wave_frame plan) sides p ≡ Some who
        → StandsFor now (history ++ record { part = p; act = is_cut } ∷ []) (put sides p (ends_with cut (sides p)))
        → StandsFor now (history ++ entry_in plan sides p act ∷ []) (state_after plan sides p act)
    cut_as_asked now history who found is =
        let cuts = cut_answers plan sides p running (sides p).place act refl asks who found in
        subst (λ (a : WaveAct). StandsFor now (history ++ record { part = p; act = a } ∷ []) (state_after plan sides p act)) (sym cuts.1)
        (subst (λ (s : WaveSide). StandsFor now (history ++ record { part = p; act = is_cut } ∷ []) (put sides p s)) (sym cuts.2) is)

-- an event that asks for something, at the gate
module _ (core : CoreKept) (p : ℕ) (act : WaveAct) (may : MayMake core p act)
    (asks : (sides : WaveState) (running : has_ended (sides p) ≡ false) → FitsAt core.plan sides p (sides p).place act → Asks core.plan sides p running (sides p).place act)
    (gate : Gate) (told : (history : List WaveEntry) (sides : WaveState) → StandsFor core history sides → gate ≡ gate_in core.plan sides p) where
  pub granted_open : gate ≡ Open → IsGranted core p
  granted_open is history sides stands =
      open_by (λ one. turn_at (sides one).place) (cut_by (wave_frame core.plan) sides p) (waits_for (wave_frame core.plan) sides p) (sym (told history sides stands) ∙ is)

  pub cut_whom : (who : ℕ) → gate ≡ Cut who → (history : List WaveEntry) (sides : WaveState) → StandsFor core history sides → cut_by (wave_frame core.plan) sides p ≡ Some who
  cut_whom who is history sides stands =
      cut_by_whom (λ one. turn_at (sides one).place) (cut_by (wave_frame core.plan) sides p) (waits_for (wave_frame core.plan) sides p) who (sym (told history sides stands) ∙ is)

  pub waits_answers : (owner w k : ℕ) → gate ≡ Waits owner w k → Answers core p act (Err (NotEnabled owner w k))
  waits_answers owner w k is history sides stands =
      let fits = may history sides stands in
      waiting_answer core.plan sides p fits.running act (asks sides fits.running fits.fits) owner w k (sym (told history sides stands) ∙ is)

  pub cut_answers_it : (who : ℕ) → gate ≡ Cut who → Answers core p act (Ok (CutReply who))
  cut_answers_it who is history sides stands =
      let fits = may history sides stands in
      cut_answer core.plan sides p fits.running act (asks sides fits.running fits.fits) who (cut_whom who is history sides stands)

  pub cut_makes_it : (after : CoreKept) (who : ℕ) → gate ≡ Cut who
      → ((history : List WaveEntry) (sides : WaveState) → StandsFor core history sides → StandsFor after (history ++ record { part = p; act = is_cut } ∷ []) (put sides p (ends_with cut (sides p))))
      → Makes core after p act
  cut_makes_it after who is stands_so history sides stands =
      let fits = may history sides stands in
      cut_as_asked core.plan sides p fits.running act (asks sides fits.running fits.fits) after history who (cut_whom who is history sides stands) (stands_so history sides stands)

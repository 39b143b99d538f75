-- The inputs of a turn, as they are taken.
use Rattle.std.proofs.Common.{◌≡◌, ℕ, ◌+◌, ◌<◌, ◌≤◌, ◌^◌, ◌-◌, true, length, List, [], ◌∷◌, ◌++◌, set, slice_get, Some, Ok, IsTrue, refl, sym, ap, subst, ◌∙◌, arith}
use Rattle.cpl_plan.specs.ValidPlan.{IsValidPlan}
use Rattle.cpl_plan.proofs.FixedWindows.{window_number}
use Rattle.coupled_loop.specs.CoreState.{Place, taking, within, look_in, turn_at}
use Rattle.coupled_loop.specs.CoreStep.{takes, taken}
use Rattle.coupled_loop.specs.Numbered.{put}
use Rattle.coupled_loop.specs.PlanFrames.{window_maker, ends_made}
use Rattle.coupled_loop.specs.Given.{Look}
use Rattle.wave_coupling.specs.Posts.{Post, newest_time}
use Rattle.wave_coupling.specs.Solve.{Inputs}
use Rattle.wave_coupling.specs.Coupling.{wave_frame, start_of, inputs_of}
use Rattle.core_sides.specs.CoreWords.{WaveState, WaveSide, WaveReply, WaveEntry, wave_step}
use Rattle.core_sides.specs.declared.event.Input.{Input}
use Rattle.core_sides.specs.declared.event.Reply.TheVariants.{Inputs as InputsReply}
use Rattle.core_sides.specs.declared.standing.Place.TheVariants.{Within}
use Rattle.core_sides.specs.declared.standing.Standing.{Standing}
use Rattle.core_sides.proofs.Gates.{takes_made}
use Rattle.core_takes.specs.Numbered.{numbered_inputs}
use Rattle.core_takes.specs.Ready.{IsReady, Tells}
use Rattle.core_takes.specs.declared.takes.TakeTurn.{TakeTurn}
use Rattle.coupling_core.specs.CoreKept.{CoreKept}
use Rattle.coupling_core.specs.OneMore.{MayMake, IsGranted, Answers, Makes}
use Rattle.coupling_core.specs.StandsFor.{StandsFor, IsKept}
use Rattle.coupling_core.proofs.Moved.{moved}
use Rattle.coupling_core.proofs.Steps.{answer_made, as_asked}
use Rattle.core_takes.proofs.Taking.{taking_is_ready, taking_tells}
use Rattle.coupling_core.proofs.TurnEvents.{inputs_at, IsSetTo}

module _ (core : CoreKept) (valid : IsValidPlan core.plan) (p : ℕ) (s : Standing) (at : slice_get core.standings p ≡ Some s)
    (may : MayMake core p takes) (granted : IsGranted core p) (w k : ℕ) (turn : (history : List WaveEntry) (sides : WaveState) → StandsFor core history sides → turn_at (sides p).place ≡ (w, k)) where
  module _ (history : List WaveEntry) (sides : WaveState) (stands : StandsFor core history sides) where
    takes_here : ((sides p).place ≡ taking w k) × ((wave_frame core.plan).is_there (look_in sides) w ≡ true)
    takes_here = inputs_at core.plan sides p (sides p).place w k (turn history sides stands) (may history sides stands).fits

    inputs_step : wave_step core.plan sides p takes ≡ Some (taken (inputs_of core.plan (look_in sides) p w k), record (sides p) { place = within w k })
    inputs_step = takes_made core.plan sides p (may history sides stands).running w k takes_here.0 takes_here.1 (granted history sides stands)

  -- the window is one of the plan's
  pub taken_window : IsKept core → w ≤ core.plan.most_windows
  taken_window kept =
      (window_number core.plan (ends_made newest_time (look_in kept.state) (window_maker core.plan) (w - 1)) w (takes_here kept.history kept.state kept.stands).1).1

  module _ (now : TakeTurn) (own : now.part ≡ p) (window : now.window ≡ w) (iteration : now.iteration ≡ k)
      (starts : (history : List WaveEntry) (sides : WaveState) → StandsFor core history sides → now.start ≡ start_of core.plan (look_in sides) now.window) where
    module _ (history : List WaveEntry) (sides : WaveState) (stands : StandsFor core history sides) where
      same_turn : record { part = p; window = w; iteration = k; start = start_of core.plan (look_in sides) w } ≡ now
      same_turn = λ i. record {
        part = sym own i;
        window = sym window i;
        iteration = sym iteration i;
        start = sym (starts history sides stands ∙ ap (start_of core.plan (look_in sides)) window) i;
      }

      tells : Tells core.plan core.stores core.schemes now (look_in sides)
      tells =
          let here = takes_here history sides stands in
          subst (λ (t : TakeTurn). Tells core.plan core.stores core.schemes t (look_in sides)) same_turn
          (taking_tells core.plan valid history sides stands.reached core.stores stands.stores core.schemes stands.schemes p w k
          (may history sides stands).participant here.0 here.1 (granted history sides stands))

    -- what is kept is ready for it
    pub is_ready : IsKept core → IsReady core.plan core.stores core.schemes now
    is_ready kept =
        let here = takes_here kept.history kept.state kept.stands in
        subst (λ (t : TakeTurn). IsReady core.plan core.stores core.schemes t) (same_turn kept.history kept.state kept.stands)
        (taking_is_ready core.plan valid kept.history kept.state kept.stands.reached core.stores kept.stands.stores core.schemes kept.stands.schemes p w k
        (may kept.history kept.state kept.stands).participant here.0 here.1 (granted kept.history kept.state kept.stands))

    pub inputs_answers : (all : List Input)
        → ((look : Look Post) → Tells core.plan core.stores core.schemes now look → all ≡ numbered_inputs core.plan now.part (inputs_of core.plan look now.part now.window now.iteration))
        → Answers core p takes (Ok (InputsReply all))
    inputs_answers all are history sides stands =
        answer_made core.plan sides p takes (taken (inputs_of core.plan (look_in sides) p w k)) (record (sides p) { place = within w k }) (inputs_step history sides stands)
        ∙ sym (ap (λ (xs : List Input). Ok (InputsReply xs)) (are (look_in sides) (tells history sides stands)
        ∙ ap (λ (q : ℕ). numbered_inputs core.plan q (inputs_of core.plan (look_in sides) q now.window now.iteration)) own
        ∙ ap (λ (v : ℕ). numbered_inputs core.plan p (inputs_of core.plan (look_in sides) p v now.iteration)) window
        ∙ ap (λ (j : ℕ). numbered_inputs core.plan p (inputs_of core.plan (look_in sides) p w j)) iteration))

  pub inputs_makes : (standings : List Standing) (windows : List ℕ) → IsSetTo core valid p s at standings windows (record s { place = Within w k })
      → Makes core (record core { standings = standings; ends = windows }) p takes
  inputs_makes standings windows is_set history sides stands =
      let reply : WaveReply = taken (inputs_of core.plan (look_in sides) p w k) in
      let side : WaveSide = record (sides p) { place = within w k } in
      let made = inputs_step history sides stands in
      let fits = may history sides stands in
      as_asked core history sides p takes reply side stands fits made (record core { standings = standings; ends = windows })
      (moved core history sides p takes reply side stands fits made valid standings windows (record s { place = Within w k }) is_set.0 is_set.1
      (record { place = refl; ending = (stands.sides.each p s at).ending; sent = (stands.sides.each p s at).sent }) refl tt tt)

-- The events by which a participant gives no waves, one after another.
use Rattle.std.proofs.Common.{◌≡◌, ℕ, ◌+◌, ◌<◌, ◌≤◌, Bool, true, false, not, find, option_map, if◌then◌else◌, length, List, [], ◌∷◌, ◌++◌, map, filter_map, set, slice_get, Option, Some, None, IsSome, is_some, Ok, Contains, refl, sym, ap, subst, ◌∙◌}
use Rattle.std.proofs.lemmas.List.Folds.{list_all-map}
use Rattle.std.proofs.lemmas.Option.{same_Some}
use Rattle.mesh_data.specs.declared.any_mesh.AnyMesh.{AnyMesh}
use Rattle.cpl_plan.specs.ValidPlan.{IsValidPlan}
use Rattle.cpl_plan.specs.declared.parts.PlanParts.{PlanParts}
use Rattle.cpl_plan.specs.declared.words.Fault.{Fault}
use Rattle.coupled_loop.specs.Endings.{Ending as LoopEnding, done, early, faulted, no_memory, cut}
use Rattle.coupled_loop.specs.Numbered.{put}
use Rattle.coupled_loop.specs.CoreState.{Place, sending, collecting, opening, taking, within, judging, has_ended, look_in, turn_at}
use Rattle.coupled_loop.specs.CoreStep.{sends_meshes, takes_meshes, takes, ends, is_cut, posted, meshes, taken, cut_off, over, ends_with, ending_at, asked_at, is_granted, made_at, cut_by, waits_for}
use Rattle.coupled_loop.specs.PlanFrames.{owners_of}
use Rattle.core_laws.proofs.Steps.{all_tell}
use Rattle.wave_coupling.specs.Coupling.{wave_frame}
use Rattle.core_sides.specs.Answers.{act_of, answer_in, ending_of, entry_in, state_after}
use Rattle.core_sides.specs.CoreWords.{WaveState, WaveSide, WaveAct, WaveReply, WaveEntry, wave_step}
use Rattle.core_sides.specs.Fitting.{FitsAt, IsFitting}
use Rattle.core_sides.specs.KeptSides.{kept_end_at}
use Rattle.core_sides.specs.SidesStand.{place_of, IsStanding, AreStanding}
use Rattle.core_sides.specs.declared.event.Ending.{Ending}
use Rattle.core_sides.specs.declared.event.Ending.TheVariants.{Done, Early, Cut as CutEnding}
use Rattle.core_sides.specs.declared.event.Event.TheVariants.{Stop}
use Rattle.core_sides.specs.declared.event.Reply.TheVariants.{Posted, Meshes, Over}
use Rattle.core_sides.specs.declared.event.StopCause.{StopCause}
use Rattle.core_sides.specs.declared.event.StopCause.TheVariants.{Fault as ByFault, NoMemory as ByNoMemory}
use Rattle.core_sides.specs.declared.sides.Sides.{Sides}
use Rattle.core_sides.specs.declared.standing.Place.{Place as KeptPlace}
use Rattle.core_sides.specs.declared.standing.Place.TheVariants.{Sending, Collecting, Opening, Taking, Within, Judging}
use Rattle.core_sides.specs.declared.standing.Standing.{Standing}
use Rattle.core_sides.proofs.AsksTell.{all_granted}
use Rattle.core_sides.proofs.Gates.{cut_made, meshes_made, takes_made}
use Rattle.core_sides.proofs.KeptTells.{there_is}
use Rattle.core_schemes.specs.Judging.{IsHeard}
use Rattle.core_schemes.specs.declared.schemes.SchemeState.{SchemeState}
use Rattle.core_takes.specs.Collected.{HaveSent, collected_meshes}
use Rattle.coupling_core.specs.CoreKept.{CoreKept}
use Rattle.coupling_core.specs.OneMore.{MayMake, IsGranted, Answers, Makes}
use Rattle.coupling_core.specs.Stopped.{stop_ending}
use Rattle.coupling_core.specs.Placed.{ArePlaced}
use Rattle.coupling_core.specs.StandsFor.{StandsFor}
use Rattle.coupling_core.proofs.Steps.{IsQuiet, answer_made, as_asked}
use Rattle.coupling_core.proofs.Moved.{ended_standing, moved}

-- an event of who has not ended is that of its place
pub running_made : (plan : PlanParts) (sides : WaveState) (p : ℕ) (act : WaveAct) → has_ended (sides p) ≡ false
    → wave_step plan sides p act ≡ made_at (wave_frame plan) sides p (sides p).place act
running_made plan sides p act running = ap (λ (b : Bool). if b then None else made_at (wave_frame plan) sides p (sides p).place act) running

-- what has no part in judging
stop_heard : (schemes : List SchemeState) (place : Place) (cause : StopCause) → IsHeard schemes place (act_of (Stop cause))
stop_heard schemes place (ByFault fault) = tt
stop_heard schemes place ByNoMemory = tt

stop_quiet : (cause : StopCause) → IsQuiet (act_of (Stop cause))
stop_quiet (ByFault fault) = tt
stop_quiet ByNoMemory = tt

loop_stop : StopCause → LoopEnding Fault
loop_stop (ByFault fault) = faulted fault
loop_stop ByNoMemory = no_memory

stop_same : (cause : StopCause) → stop_ending cause ≡ ending_of (loop_stop cause)
unfolding loop_stop
stop_same (ByFault fault) = refl
stop_same ByNoMemory = refl

module _ (plan : PlanParts) (sides : WaveState) (p : ℕ) where
  stop_at : (place : Place) (cause : StopCause) → made_at (wave_frame plan) sides p place (act_of (Stop cause)) ≡ Some (over, ends_with (loop_stop cause) (sides p))
  unfolding loop_stop
  stop_at sending (ByFault fault) = refl
  stop_at sending ByNoMemory = refl
  stop_at collecting (ByFault fault) = refl
  stop_at collecting ByNoMemory = refl
  stop_at opening (ByFault fault) = refl
  stop_at opening ByNoMemory = refl
  stop_at (taking w k) (ByFault fault) = refl
  stop_at (taking w k) ByNoMemory = refl
  stop_at (within w k) (ByFault fault) = refl
  stop_at (within w k) ByNoMemory = refl
  stop_at (judging scheme w k) (ByFault fault) = refl
  stop_at (judging scheme w k) ByNoMemory = refl

  end_at : (place : Place) → made_at (wave_frame plan) sides p place ends ≡ Some (over, ends_with (ending_at (wave_frame plan) sides p place) (sides p))
  end_at sending = refl
  end_at collecting = refl
  end_at opening = refl
  end_at (taking w k) = refl
  end_at (within w k) = refl
  end_at (judging scheme w k) = refl

  send_at : (place : Place) (own : List AnyMesh) → FitsAt plan sides p place (sends_meshes own)
      → made_at (wave_frame plan) sides p place (sends_meshes own) ≡ Some (posted, record (sides p) { place = collecting; sent = Some own })
  send_at sending own fits = refl
  send_at place own fits = absurd fits

  meshes_at : (place : Place) → FitsAt plan sides p place takes_meshes → place ≡ collecting
  meshes_at collecting fits = refl
  meshes_at place fits = absurd fits

  -- the turn at which it takes its inputs
  pub inputs_at : (place : Place) (w k : ℕ) → turn_at place ≡ (w, k) → FitsAt plan sides p place takes
      → (place ≡ taking w k) × ((wave_frame plan).is_there (look_in sides) w ≡ true)
  inputs_at (taking v j) w k at fits =
      let window : v ≡ w = ap (λ (turn : ℕ × ℕ). turn.0) at in
      let iteration : j ≡ k = ap (λ (turn : ℕ × ℕ). turn.1) at in
      (ap (λ (n : ℕ). taking n j) window ∙ ap (λ (n : ℕ). taking w n) iteration, subst (λ (n : ℕ). (wave_frame plan).is_there (look_in sides) n ≡ true) window fits)
  inputs_at place w k at fits = absurd fits

  -- who waits for nobody is granted what it asks for
  pub granted_there : (place : Place) → (sides p).place ≡ place → waits_for (wave_frame plan) sides p ≡ None → is_granted (wave_frame plan) sides p place ≡ true
  granted_there place at none =
      all_granted (asked_at (wave_frame plan) sides p place)
      (subst (λ (here : Place). option_map (λ one. one.0) (find (λ one. not one.1) (asked_at (wave_frame plan) sides p here)) ≡ None) at none)

  -- who waits for nobody at its meshes has them
  have_sent : (sides p).place ≡ collecting → waits_for (wave_frame plan) sides p ≡ None → HaveSent plan sides p
  have_sent at none owner among =
      let all = granted_there collecting at none in
      all_tell (λ (one : ℕ). is_some (sides one).sent) (owners_of plan p) owner
      (sym (list_all-map (λ (asked : ℕ × Bool). asked.1) (λ (one : ℕ). (one, is_some (sides one).sent)) (owners_of plan p)) ∙ all) among

early_or_done : (b c : Bool) → b ≡ c → (if b then Early else Done) ≡ ending_of (if c then early else done)
early_or_done b true is = ap (λ (x : Bool). if x then Early else Done) is
early_or_done b false is = ap (λ (x : Bool). if x then Early else Done) is

pub own_ending_is : (plan : PlanParts) (kept : Sides) (sides : WaveState) (p : ℕ) → AreStanding plan kept sides → (place : KeptPlace)
    → kept_end_at plan kept place ≡ ending_of (ending_at (wave_frame plan) sides p (place_of place))
own_ending_is plan kept sides p are Sending = refl
own_ending_is plan kept sides p are Collecting = refl
own_ending_is plan kept sides p are Opening = refl
own_ending_is plan kept sides p are (Taking w k) = early_or_done _ _ (there_is plan kept sides are w)
own_ending_is plan kept sides p are (Within w k) = refl
own_ending_is plan kept sides p are (Judging scheme w k) = refl

module _ (core : CoreKept) (valid : IsValidPlan core.plan) (p : ℕ) (s : Standing) (at : slice_get core.standings p ≡ Some s) where
  -- an ending is set, all else is as it was
  abbrev pub IsSetTo : (standings : List Standing) (windows : List ℕ) → Standing → Type 0
  IsSetTo standings windows next = (standings ≡ set core.standings p next) × (windows ≡ core.ends)

  module _ (history : List WaveEntry) (sides : WaveState) (stands : StandsFor core history sides) where
    pub end_stands : (standings : List Standing) (windows : List ℕ) (e : Ending) (act : WaveAct) (ending : LoopEnding Fault) (reply : WaveReply) → IsFitting core.plan sides p act
        → wave_step core.plan sides p act ≡ Some (reply, ends_with ending (sides p)) → e ≡ ending_of ending → IsSetTo standings windows (record s { ending = Some e })
        → IsHeard core.schemes (sides p).place act → IsQuiet act
        → StandsFor (record core { standings = standings; ends = windows }) (history ++ record { part = p; act = act } ∷ []) (put sides p (ends_with ending (sides p)))
    end_stands standings windows e act ending reply fits made same is_set heard quiet =
        moved core history sides p act reply (ends_with ending (sides p)) stands fits made valid standings windows (record s { ending = Some (ending_of ending) })
        (is_set.0 ∙ ap (λ (x : Ending). set core.standings p (record s { ending = Some x })) same) is_set.1
        (ended_standing s (sides p) ending (stands.sides.each p s at)) refl heard quiet

  -- a stop
  pub stop_answers : (cause : StopCause) → MayMake core p (act_of (Stop cause)) → Answers core p (act_of (Stop cause)) (Ok Over)
  stop_answers cause may history sides stands =
      answer_made core.plan sides p (act_of (Stop cause)) over (ends_with (loop_stop cause) (sides p))
      (running_made core.plan sides p (act_of (Stop cause)) (may history sides stands).running ∙ stop_at core.plan sides p (sides p).place cause)

  pub stop_makes : (standings : List Standing) (windows : List ℕ) (e : Ending) (cause : StopCause) → MayMake core p (act_of (Stop cause)) → e ≡ stop_ending cause
      → IsSetTo standings windows (record s { ending = Some e }) → Makes core (record core { standings = standings; ends = windows }) p (act_of (Stop cause))
  stop_makes standings windows e cause may is is_set history sides stands =
      let fits = may history sides stands in
      let made = running_made core.plan sides p (act_of (Stop cause)) fits.running ∙ stop_at core.plan sides p (sides p).place cause in
      as_asked core history sides p (act_of (Stop cause)) over (ends_with (loop_stop cause) (sides p)) stands fits made (record core { standings = standings; ends = windows })
      (end_stands history sides stands standings windows e (act_of (Stop cause)) (loop_stop cause) over fits made (is ∙ stop_same cause) is_set
      (stop_heard core.schemes (sides p).place cause) (stop_quiet cause))

  -- an end
  pub end_answers : MayMake core p ends → Answers core p ends (Ok Over)
  end_answers may history sides stands =
      answer_made core.plan sides p ends over (ends_with (ending_at (wave_frame core.plan) sides p (sides p).place) (sides p))
      (running_made core.plan sides p ends (may history sides stands).running ∙ end_at core.plan sides p (sides p).place)

  pub end_makes : (standings : List Standing) (windows : List ℕ) (e : Ending) → MayMake core p ends
      → ((history : List WaveEntry) (sides : WaveState) → StandsFor core history sides → e ≡ ending_of (ending_at (wave_frame core.plan) sides p (place_of s.place)))
      → IsSetTo standings windows (record s { ending = Some e }) → Makes core (record core { standings = standings; ends = windows }) p ends
  end_makes standings windows e may is_own is_set history sides stands =
      let fits = may history sides stands in
      let ending = ending_at (wave_frame core.plan) sides p (sides p).place in
      let made = running_made core.plan sides p ends fits.running ∙ end_at core.plan sides p (sides p).place in
      let same = is_own history sides stands ∙ ap (λ (place : Place). ending_of (ending_at (wave_frame core.plan) sides p place)) (sym (stands.sides.each p s at).place) in
      as_asked core history sides p ends over (ends_with ending (sides p)) stands fits made (record core { standings = standings; ends = windows })
      (end_stands history sides stands standings windows e ends ending over fits made same is_set tt tt)

  -- a cut
  pub cut_stands : (standings : List Standing) (windows : List ℕ) (who : ℕ) → MayMake core p is_cut → IsSetTo standings windows (record s { ending = Some CutEnding })
      → (history : List WaveEntry) (sides : WaveState) → StandsFor core history sides → cut_by (wave_frame core.plan) sides p ≡ Some who
      → StandsFor (record core { standings = standings; ends = windows }) (history ++ record { part = p; act = is_cut } ∷ []) (put sides p (ends_with cut (sides p)))
  cut_stands standings windows who may is_set history sides stands found =
      let fits = may history sides stands in
      end_stands history sides stands standings windows CutEnding is_cut cut cut_off fits (cut_made core.plan sides p fits.running who found) refl is_set tt tt

  -- the meshes are posted
  pub send_answers : (own : List AnyMesh) → MayMake core p (sends_meshes own) → Answers core p (sends_meshes own) (Ok Posted)
  send_answers own may history sides stands =
      let fits = may history sides stands in
      answer_made core.plan sides p (sends_meshes own) posted (record (sides p) { place = collecting; sent = Some own })
      (running_made core.plan sides p (sends_meshes own) fits.running ∙ send_at core.plan sides p (sides p).place own fits.fits)

  pub send_makes : (standings : List Standing) (windows : List ℕ) (own : List AnyMesh) → MayMake core p (sends_meshes own) → IsSetTo standings windows (record { place = Collecting; ending = s.ending; sent = Some own })
      → Makes core (record core { standings = standings; ends = windows }) p (sends_meshes own)
  send_makes standings windows own may is_set history sides stands =
      let fits = may history sides stands in
      let side : WaveSide = record (sides p) { place = collecting; sent = Some own } in
      let made = running_made core.plan sides p (sends_meshes own) fits.running ∙ send_at core.plan sides p (sides p).place own fits.fits in
      as_asked core history sides p (sends_meshes own) posted side stands fits made (record core { standings = standings; ends = windows })
      (moved core history sides p (sends_meshes own) posted side stands fits made valid standings windows (record { place = Collecting; ending = s.ending; sent = Some own }) is_set.0 is_set.1
      (record { place = refl; ending = (stands.sides.each p s at).ending; sent = refl }) refl tt tt)

  -- the meshes are taken
  module _ (may : MayMake core p takes_meshes) (granted : IsGranted core p) where
    pub meshes_there : (history : List WaveEntry) (sides : WaveState) → StandsFor core history sides → HaveSent core.plan sides p
    meshes_there history sides stands =
        have_sent core.plan sides p (meshes_at core.plan sides p (sides p).place (may history sides stands).fits) (granted history sides stands)

    meshes_step : (history : List WaveEntry) (sides : WaveState) → StandsFor core history sides
        → wave_step core.plan sides p takes_meshes ≡ Some (meshes (filter_map (λ owner. (sides owner).sent) (owners_of core.plan p)), record (sides p) { place = opening })
    meshes_step history sides stands =
        let fits = may history sides stands in
        meshes_made core.plan sides p fits.running (meshes_at core.plan sides p (sides p).place fits.fits) (granted history sides stands)

    pub meshes_answers : (all : List AnyMesh) → ((sides : WaveState) → ArePlaced core.plan core.standings core.ends sides → HaveSent core.plan sides p → all ≡ collected_meshes core.plan sides p)
        → Answers core p takes_meshes (Ok (Meshes all))
    meshes_answers all are history sides stands =
        answer_made core.plan sides p takes_meshes (meshes (filter_map (λ owner. (sides owner).sent) (owners_of core.plan p))) (record (sides p) { place = opening }) (meshes_step history sides stands)
        ∙ ap (λ (xs : List AnyMesh). Ok (Meshes xs)) (sym (are sides stands.sides (meshes_there history sides stands)))

    pub meshes_makes : (standings : List Standing) (windows : List ℕ) → IsSetTo standings windows (record s { place = Opening }) → Makes core (record core { standings = standings; ends = windows }) p takes_meshes
    meshes_makes standings windows is_set history sides stands =
        let fits = may history sides stands in
        let all : WaveReply = meshes (filter_map (λ owner. (sides owner).sent) (owners_of core.plan p)) in
        let side : WaveSide = record (sides p) { place = opening } in
        let made = meshes_step history sides stands in
        as_asked core history sides p takes_meshes all side stands fits made (record core { standings = standings; ends = windows })
        (moved core history sides p takes_meshes all side stands fits made valid standings windows (record s { place = Opening }) is_set.0 is_set.1
        (record { place = refl; ending = (stands.sides.each p s at).ending; sent = (stands.sides.each p s at).sent }) refl tt tt)

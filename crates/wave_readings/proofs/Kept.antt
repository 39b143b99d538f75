-- A step of a solve, and the taking of a turn's inputs: what holds of the acting participant.
use Rattle.std.proofs.Common.{◌≡◌, ◌⊎◌, inl, inr, ℕ, zero, suc, ◌+◌, ◌-◌, ◌*◌, ◌<◌, ◌≤◌, Bool, true, false, ◌==◌, if◌then◌else◌, List, [], ◌∷◌, ◌++◌, length, map, filter_map, slice_get, Option, Some, None, is_some, option_map, Result, Ok, Err, IsSome, IsTrue, All, Contains, refl, ap, sym, subst, ◌∙◌, arith, append-nil, append_assoc}
use Rattle.std.specs.Prelude.{option_to_list}
use Rattle.std.specs.Option.{option_or}
use Rattle.std.proofs.lemmas.Bool.{and_parts, cases_lt, false≢true}
use Rattle.std.proofs.lemmas.List.Elements.{All-append}
use Rattle.std.proofs.lemmas.List.Folds.{list_all-map}
use Rattle.std.proofs.lemmas.Option.{none-some, same_Some}
use Rattle.mesh_data.specs.declared.any_mesh.AnyMesh.{AnyMesh}
use Rattle.cpl_plan.specs.PlanWords.{components_of}
use Rattle.cpl_plan.specs.declared.parts.PlanParts.{PlanParts}
use Rattle.cpl_plan.specs.declared.parts.Exchange.{Exchange}
use Rattle.cpl_plan.specs.declared.words.Item.{Item}
use Rattle.cpl_plan.specs.declared.words.Item.TheVariants.{Completed, Posted}
use Rattle.cpl_plan.specs.declared.words.Fault.{Fault}
use Rattle.solver_trait.specs.Behaviour.{Behaviour}
use Rattle.coupled_loop.specs.Numbered.{put}
use Rattle.coupled_loop.specs.Given.{Gift, Look, found, gives, accepted_for}
use Rattle.coupled_loop.specs.Endings.{Ending, Judgement, again, converged, at_limit, refused, faulted, no_memory, cut}
use Rattle.coupled_loop.specs.CoreState.{Place, sending, collecting, opening, taking, within, judging, Side, CoreState, look_in, turn_at}
use Rattle.coupled_loop.specs.CoreStep.{Act, sends_meshes, takes_meshes, posts, takes, judges, stops, lacks_memory, ends, is_cut, Reply, taken, cut_off, completes, after_post, ends_with, after_judgement, is_granted, is_cut_off, ending_at, made_at}
use Rattle.coupled_loop.specs.Frames.{Frame}
use Rattle.coupled_loop.specs.Solving.{Solvers, Held, notes, begins, Stepped, goes_on, arrives, breaks}
use Rattle.coupled_loop.specs.Schedules.{Actor, Actors, Stage, resting, running, ready, broken, asks, quit, run_out, act_of, first_act, wish_within, wish_at, next, enabled, sides_of, runs, begun, stepped, hears, becomes}
use Rattle.coupled_loop.specs.Settled.{Extends, IsProvided}
use Rattle.coupled_loop.specs.PlanFrames.{group_of, owners_of}
use Rattle.core_laws.proofs.Growth.{grown_extends, step_extends}
use Rattle.core_laws.proofs.Looks.{found_joined, found_itself, found_one, extends_itself, extends_further}
use Rattle.core_laws.proofs.GoodMoves.{group_solved, good_taken}
use Rattle.core_laws.proofs.PlanSound.{plan_sound}
use Rattle.core_laws.proofs.Puts.{put_same}
use Rattle.core_laws.proofs.Steps.{all_tell, guarded, made_by, some_same, needs_told, posted_up_to}
use Rattle.core_laws.proofs.Openings.{all_some}
use Rattle.core_laws.proofs.StepKinds.{IsEvent, IsDone, event_of, kind_of}
use Rattle.core_laws.proofs.Wellness.{one_in_order}
use Rattle.core_laws.proofs.Well.{IsWell, Stands}
use Rattle.wave_coupling.specs.Posts.{Post, wave_of}
use Rattle.wave_coupling.specs.InputWave.{InputWave, relaxed_after}
use Rattle.wave_coupling.specs.Known.{Known}
use Rattle.wave_coupling.specs.MappedInputs.{mapped_inputs}
use Rattle.wave_coupling.specs.Noted.{Note}
use Rattle.wave_coupling.specs.Solve.{Inputs, Run, first_post, run_of, notes_of, next_of, after_step_of}
use Rattle.wave_coupling.specs.Coupling.{exchanged, wave_frame, wave_solvers, judge_of, inputs_of, start_of}
use Rattle.wave_laws.specs.Fitting.{AreValues, IsFittingLook, IsInitialWave, IsPostedWave, count_of, end_told}
use Rattle.wave_laws.proofs.JudgementsStay.{repeated_relaxed}
use Rattle.wave_laws.proofs.Settling.{wave_settled}
use Rattle.wave_values.specs.Trait.{FitsEntries}
use Rattle.wave_values.specs.Fits.{IsNoteOf, KnowsMeshes}
use Rattle.wave_values.proofs.WritesFit.{first_fits}
use Rattle.wave_values.proofs.StepsFit.{AfterFits, notes_fit, step_fits}
use Rattle.wave_values.proofs.SolvesFit.{run_begins}
use Rattle.wave_values.proofs.TurnsFit.{IsTurn, turn_is, inputs_are}
use Rattle.wave_values.proofs.PostsFit.{post_given}
use Rattle.wave_readings.specs.Setting.{known_of}
use Rattle.wave_readings.proofs.Knowing.{IsKnowing}
use Rattle.wave_readings.proofs.LooksFit.{look_fits}
use Rattle.wave_readings.proofs.Makers.{maker_alone}
use Rattle.wave_readings.proofs.Invariant.{WaveFits, GiftFits, GiftsFit, Relaxed, PostFits, RunsFit, StageFits, PlaceFits, HeldFits, ActorFits, gift_on, place_on, relaxed_on, stage_on}

-- what is found of one gift
one_found : (given : Gift Post) (item : Item) (gift : Gift Post) → found (given ∷ []) item ≡ Some gift → (given.item ≡ item) × (given ≡ gift)
one_found given item gift is =
    let same : given.item ≡ item = found_one given item (ap is_some is) in
    (same, same_Some given gift (sym (found_itself given) ∙ ap (λ (i : Item). found (given ∷ []) i) same ∙ is))

none_is : {X : Type 0} (o : Option X) → (IsSome o → ⊥) → o ≡ None
none_is None never = refl
none_is (Some x) never = absurd (never refl)

module _ {State : Type 0} (plan : PlanParts) (vertices : ℕ → ℕ) (meshes : ℕ → List AnyMesh) (solvers : ℕ → Behaviour State) (states : ℕ → State) (sound : ℕ → State → Bool) where
  abbrev pub frame : Frame Post Inputs Fault
  frame = wave_frame plan

  abbrev pub own : Solvers (List AnyMesh) Post Inputs Fault State (Run State) Note
  own = wave_solvers plan meshes solvers states

  abbrev pub Sides : Type 0
  Sides = CoreState (List AnyMesh) Post Fault

  abbrev pub OneSide : Type 0
  OneSide = Side (List AnyMesh) Post Fault

  abbrev pub OneActor : Type 0
  OneActor = Actor (List AnyMesh) Post Fault State (Run State) Note

  abbrev pub OneHeld : Type 0
  OneHeld = Held (List AnyMesh) State Note

  abbrev pub OneReply : Type 0
  OneReply = Reply (List AnyMesh) Inputs Fault

  abbrev pub OneStage : Type 0
  OneStage = Stage (Run State) Post Fault

  abbrev pub Fits : Look Post → (part : ℕ) → OneActor → Type 0
  Fits f part actor = ActorFits plan vertices sound meshes f part actor

  abbrev pub Placed : Look Post → (part : ℕ) → Place → OneHeld → OneStage → Type 0
  Placed f part place held stage = PlaceFits plan vertices sound meshes f part place held stage

  module _ (setting : IsKnowing plan vertices meshes solvers states sound) (actors : Actors (List AnyMesh) Post Fault State (Run State) Note) (well : IsWell (wave_frame plan) (sides_of frame own actors))
      (each : (part : ℕ) → part < length plan.parts → Fits (look_in (sides_of frame own actors)) part (actors part))
      (part : ℕ) (below : part < length plan.parts) where
    abbrev sides : Sides
    sides = sides_of frame own actors

    abbrev f : Look Post
    f = look_in sides

    abbrev held : OneHeld
    held = (actors part).held

    abbrev now : OneSide → Look Post
    now side = look_in (put sides part side)

    -- who has sent its meshes has sent its own
    abbrev IsSent : OneSide → Type 0
    IsSent side = (side.sent ≡ None) ⊎ (side.sent ≡ Some (meshes part))

    is : Fits f part (actors part)
    is = each part below

    own_item : (side : OneSide) (item : Item) → now side part item ≡ found side.given item
    own_item side item = ap (λ (s : OneSide). found s.given item) (put_same sides part side)

    old_gifts : (side : OneSide) → Extends f (now side) → (item : Item) (gift : Gift Post) → f part item ≡ Some gift → GiftFits plan vertices (now side) part item gift.post
    old_gifts side extends item gift at = gift_on plan vertices sound meshes f (now side) extends part item gift.post (is.gifts item gift at)

    -- nothing is given
    stays : (side : OneSide) (next : OneHeld) (stage : OneStage) → Extends f (now side) → side.given ≡ (actors part).side.given → HeldFits plan vertices sound meshes part next
        → Placed (now side) part side.place next stage → IsSent side → Fits (now side) part (record { side = side; held = next; stage = stage })
    stays side next stage extends same holds placed sent = record {
      gifts = λ item gift at. old_gifts side extends item gift (sym (own_item side item ∙ ap (λ (given : List (Gift Post)). found given item) same) ∙ at);
      held = holds;
      place = placed;
      sent = sent;
    }

    rests_there : (g : Look Post) (place : Place) (next : OneHeld) (stage : OneStage) → Placed g part place next stage → Placed g part place next resting
    rests_there g sending next stage placed = tt
    rests_there g collecting next stage placed = tt
    rests_there g opening next stage placed = placed
    rests_there g (taking w k) next stage placed = placed
    rests_there g (within w k) next stage placed = (placed.0, placed.1, tt)
    rests_there g (judging scheme w k) next stage placed = placed

    ends_there : (ending : Ending Fault) → Extends f (now (ends_with ending (actors part).side))
        → Fits (now (ends_with ending (actors part).side)) part (record { side = ends_with ending (actors part).side; held = held; stage = resting })
    ends_there ending extends =
        stays (ends_with ending (actors part).side) held resting extends refl is.held
        (rests_there (now (ends_with ending (actors part).side)) (actors part).side.place held (actors part).stage
        (place_on plan vertices sound meshes f (now (ends_with ending (actors part).side)) extends part (actors part).side.place held (actors part).stage is.place)) is.sent

    -- a step of a solve
    abbrev StepGoal : Look Post → (w : ℕ) → OneHeld × OneStage → Type 0
    StepGoal g w pair = HeldFits plan vertices sound meshes part pair.0 × (pair.0.received ≡ held.received) × StageFits plan vertices sound meshes g part w pair.1

    step_goal : (w k : ℕ) (run : Run State) (more : ℕ) → RunsFit plan vertices sound meshes f part w run more
        → StepGoal f w (stepped frame own part w k more (after_step_of plan part (solvers part) run (next_of plan part (solvers part) run)) (notes (notes_of plan part (solvers part) run) held))
    step_goal w k run more fits =
        by (after_step_of plan part (solvers part) run (next_of plan part (solvers part) run))
        (step_fits plan setting.valid vertices part (solvers part) (sound part) (setting.meets part below) fits.start run entries points fits.fits (let room = fits.room in omega (arith, room)))
      where
        entries : FitsEntries plan part run.known (solvers part)
        entries = subst (λ (known : Known). FitsEntries plan part known (solvers part)) (sym fits.known) (setting.fits part below)

        points : KnowsMeshes plan vertices part run.known
        points = subst (λ (known : Known). KnowsMeshes plan vertices part known) (sym fits.known) (setting.knows part below)

        more_notes : All (IsNoteOf plan part (known_of plan meshes part)) (held.notes ++ notes_of plan part (solvers part) run)
        more_notes =
            All-append (IsNoteOf plan part (known_of plan meshes part)) held.notes (notes_of plan part (solvers part) run) is.held.notes
            (subst (λ (known : Known). All (IsNoteOf plan part known) (notes_of plan part (solvers part) run)) fits.known
            (notes_fit plan setting.valid vertices part (solvers part) (sound part) (setting.meets part below) fits.start run entries points fits.fits))

        holds : (state : State) → IsTrue (sound part state) → HeldFits plan vertices sound meshes part (record (notes (notes_of plan part (solvers part) run) held) { state = state })
        holds state is_sound = record { state = is_sound; kept = is.held.kept; notes = more_notes }

        runs_on : (left : ℕ) (next : Run State) → AfterFits plan vertices part (sound part) fits.start run (goes_on next) → length run.written + (left + 1) ≤ 1024
            → StepGoal f w (runs frame own part w k left next (notes (notes_of plan part (solvers part) run) held))
        runs_on zero next after room = (holds next.state after.0.state, refl, tt)
        runs_on (suc left) next after room = (
          record { state = is.held.state; kept = is.held.kept; notes = more_notes },
          refl,
          record {
            start = fits.start;
            turn = subst (λ (latest : ℕ). IsTurn plan f part w fits.start latest next.one_step) (sym after.2)
                (subst (λ (one : Bool). IsTurn plan f part w fits.start run.latest one) (sym after.3) fits.turn);
            fits = after.0;
            known = after.1 ∙ fits.known;
            room = let many = after.4 in omega (arith, many, room);
          },
        )

        by : (next : Stepped State (Run State) Post Fault) → AfterFits plan vertices part (sound part) fits.start run next
            → StepGoal f w (stepped frame own part w k more next (notes (notes_of plan part (solvers part) run) held))
        by (goes_on next) after = runs_on more next after fits.room
        by (arrives state post) after = (
          holds state after.0,
          refl,
          record { start = fits.start; latest = run.latest; one_step = run.one_step; turn = fits.turn; ends = after.1 },
        )
        by (breaks state why) after = (holds state after, refl, tt)

    -- a turn's inputs are taken
    abbrev Begun : (w k : ℕ) → OneHeld → Type 0
    Begun w k heard = StepGoal f w (begun frame own part w k (begins own part w k (inputs_of plan f part w k) heard) heard)

    taken_from : (w k : ℕ) → IsProvided (wave_frame plan) f part w k → Relaxed plan vertices f part w k → held.received ≡ map meshes (owners_of plan part)
        → (heard : OneHeld) → HeldFits plan vertices sound meshes part heard → heard.received ≡ held.received → Begun w k heard
    taken_from w k provided relaxed received heard holds same = by (mapped_inputs plan part known w k (inputs_of plan f part w k).waves) refl
      where
        known : Known
        known = record { own = meshes part; received = heard.received }

        known_is : record { own = meshes part; received = heard.received } ≡ known_of plan meshes part
        known_is = ap (λ (all : List (List AnyMesh)). record { own = meshes part; received = all }) (same ∙ received)

        gifts : (one : ℕ) → one < length plan.parts → GiftsFit plan vertices f one
        gifts one inside = (each one inside).gifts

        look : IsFittingLook plan vertices f
        look = look_fits plan setting.valid vertices f well.in_order gifts

        by : (result : Result (List InputWave) (Option Fault)) → mapped_inputs plan part (record { own = meshes part; received = heard.received }) w k (inputs_of plan f part w k).waves ≡ result
            → StepGoal f w (begun frame own part w k (run_of plan part (solvers part) (record { own = meshes part; received = heard.received }) w k (inputs_of plan f part w k) heard.kept result) heard)
        by (Ok waves) made = (
          holds,
          same,
          record {
            start = start_of plan f w;
            turn = turn_is plan setting.valid vertices f well.in_order look part w k below provided;
            fits = run_begins plan setting.valid vertices part meshes solvers states (sound part) (setting.meets part below) w k (inputs_of plan f part w k) waves (record { own = meshes part; received = heard.received }) heard.kept
                (inputs_are plan setting.valid vertices f well.in_order look part w k below provided
                (λ number scheme grouped at. relaxed number scheme grouped at f (extends_itself f) well.in_order))
                (subst (λ (all : Known). KnowsMeshes plan vertices part all) (sym known_is) (setting.knows part below)) made holds.kept;
            known = known_is;
            room = omega (arith);
          },
        )
        by (Err why) made = (holds, same, tt)

    taken_goal : (w k : ℕ) → IsProvided (wave_frame plan) f part w k → Relaxed plan vertices f part w k → held.received ≡ map meshes (owners_of plan part)
        → StepGoal f w (hears frame own part w k (taken (inputs_of plan f part w k)) held)
    taken_goal w k provided relaxed received =
        elim (k == 1) as (λ b. Begun w k (if b then record (notes [] held) { kept = held.state } else notes [] held)) [
          | true ↦ taken_from w k provided relaxed received (record (notes [] held) { kept = held.state })
              (record { state = is.held.state; kept = is.held.state; notes = none_more }) refl
          | false ↦ taken_from w k provided relaxed received (notes [] held) (record { state = is.held.state; kept = is.held.kept; notes = none_more }) refl
        ]
      where
        none_more : All (IsNoteOf plan part (known_of plan meshes part)) (held.notes ++ [])
        none_more = subst (λ (all : List Note). All (IsNoteOf plan part (known_of plan meshes part)) all) (sym (append-nil held.notes)) is.held.notes

    -- of gifts that fit
    one_gift : (g : Look Post) (given : Gift Post) → GiftFits plan vertices g part given.item given.post → (item : Item) (gift : Gift Post) → found (given ∷ []) item ≡ Some gift
        → GiftFits plan vertices g part item gift.post
    one_gift g given fits item gift at =
        let same = one_found given item gift at in
        subst (λ (i : Item). GiftFits plan vertices g part i gift.post) same.0 (subst (λ (q : Gift Post). GiftFits plan vertices g part given.item q.post) same.1 fits)

    two_gifts : (g : Look Post) (first second : Gift Post) → GiftFits plan vertices g part first.item first.post → GiftFits plan vertices g part second.item second.post
        → (item : Item) (gift : Gift Post) → found (first ∷ second ∷ []) item ≡ Some gift → GiftFits plan vertices g part item gift.post
    two_gifts g first second one other item gift at = by (found (first ∷ []) item) refl (sym (found_joined (first ∷ []) (second ∷ []) item) ∙ at)
      where
        by : (o : Option (Gift Post)) → found (first ∷ []) item ≡ o → option_or o (found (second ∷ []) item) ≡ Some gift → GiftFits plan vertices g part item gift.post
        by (Some old) before same = one_gift g first one item gift (before ∙ same)
        by None before same = one_gift g second other item gift same

    -- more is given
    new_gifts : (side : OneSide) → Extends f (now side) → (more : List (Gift Post)) → side.given ≡ (actors part).side.given ++ more
        → ((item : Item) (gift : Gift Post) → found more item ≡ Some gift → GiftFits plan vertices (now side) part item gift.post) → GiftsFit plan vertices (now side) part
    new_gifts side extends more grows fits item gift at =
        by (found (actors part).side.given item) refl
        (sym (found_joined (actors part).side.given more item) ∙ sym (ap (λ (given : List (Gift Post)). found given item) grows) ∙ sym (own_item side item) ∙ at)
      where
        by : (o : Option (Gift Post)) → found (actors part).side.given item ≡ o → option_or o (found more item) ≡ Some gift → GiftFits plan vertices (now side) part item gift.post
        by (Some old) before same = old_gifts side extends item gift (before ∙ same)
        by None before same = fits item gift same

    -- at the first iteration none was before
    none_before : (g : Look Post) (w : ℕ) → Relaxed plan vertices g part w 1
    none_before g w number scheme grouped at h further order j first before = absurd (omega (arith, first, before))

    relaxed_now : (side : OneSide) → Extends f (now side) → (w k : ℕ) → Relaxed plan vertices f part w k → Relaxed plan vertices (now side) part w k
    relaxed_now side extends w k relaxed = relaxed_on plan vertices sound meshes f (now side) extends part w k relaxed

    -- the initial post
    abbrev initial_of : Post → Gift Post
    initial_of post = record { item = Completed 0; iteration = 0; post = post }

    abbrev opened_with : Post → OneSide
    opened_with post = record (actors part).side { place = taking 1 1; given = gives (Completed 0) 0 post (actors part).side.given }

    first_is : (post : Post) → first_post plan part (solvers part) (known_of plan meshes part) held.state ≡ Ok post
        → (x : ℕ) (e : Exchange) → slice_get plan.exchanges x ≡ Some e → e.from ≡ part
        → IsInitialWave (components_of plan e) (count_of plan vertices e) (wave_of plan e x post)
    first_is post made x e at sent =
        let fits = setting.fits part below in
        subst (λ (n : ℕ). IsInitialWave (components_of plan e) (components_of plan e * n) (wave_of plan e x post)) (setting.knows part below x e at (inl sent))
        (first_fits plan setting.valid (known_of plan meshes part) x e at part sent ((solvers part).first held.state) post
        (subst (λ (n : ℕ). AreValues n ((solvers part).first held.state)) fits.writes ((setting.meets part below).first held.state is.held.state)) made)

    opens : (post : Post) → held.received ≡ map meshes (owners_of plan part) → own.first part held.received held.state ≡ Ok post
        → Extends f (now (opened_with post)) → Fits (now (opened_with post)) part (record { side = opened_with post; held = held; stage = resting })
    opens post received made extends = record {
      gifts = new_gifts (opened_with post) extends (initial_of post ∷ []) refl (one_gift (now (opened_with post)) (initial_of post) (λ x e at sent g further order. first_is post known x e at sent));
      held = is.held;
      place = (received, none_before (now (opened_with post)) 1);
      sent = is.sent;
    }
      where
        known : first_post plan part (solvers part) (known_of plan meshes part) held.state ≡ Ok post
        known = sym (ap (λ (all : List (List AnyMesh)). first_post plan part (solvers part) (record { own = meshes part; received = all }) held.state) received) ∙ made

    -- the meshes of others are taken
    collects : is_granted frame sides part collecting ≡ true → filter_map (λ owner. (sides owner).sent) (owners_of plan part) ≡ map meshes (owners_of plan part)
    collects granted = all_some (λ (owner : ℕ). (sides owner).sent) meshes (owners_of plan part) given_by
      where
        given_by : (owner : ℕ) → Contains (owners_of plan part) owner → (sides owner).sent ≡ Some (meshes owner)
        given_by owner inside =
            let some : is_some (sides owner).sent ≡ true =
            all_tell (λ (one : ℕ). is_some (sides one).sent) (owners_of plan part) owner
            (sym (list_all-map (λ (asked : ℕ × Bool). asked.1) (λ (one : ℕ). (one, is_some (sides one).sent)) (owners_of plan part)) ∙ granted) inside in
            elim ((each owner ((plan_sound plan (exchanged plan) setting.valid).owners part owner below inside)).sent) [
              | inl none ↦ absurd (false≢true (sym (ap is_some none) ∙ some))
              | inr has ↦ has
            ]

    -- a turn begins
    takes_turn : (w k : ℕ) → IsProvided (wave_frame plan) f part w k → Relaxed plan vertices f part w k → held.received ≡ map meshes (owners_of plan part)
        → Extends f (now (record (actors part).side { place = within w k }))
        → Fits (now (record (actors part).side { place = within w k })) part
        (becomes frame own (record (actors part).side { place = within w k }) (hears frame own part w k (taken (inputs_of plan f part w k)) held))
    takes_turn w k provided relaxed received extends =
        let side : OneSide = record (actors part).side { place = within w k } in
        let out : OneHeld × OneStage = hears frame own part w k (taken (inputs_of plan f part w k)) held in
        let goal = taken_goal w k provided relaxed received in
        stays side out.0 out.1 extends refl goal.0
        (goal.1 ∙ received, relaxed_now side extends w k relaxed, stage_on plan vertices sound meshes f (now side) extends part w out.1 goal.2) is.sent

    -- a turn is posted
    abbrev posted_as : (w k : ℕ) → Post → Gift Post
    posted_as w k post = record { item = Posted w k; iteration = k; post = post }

    abbrev completed_as : (w k : ℕ) → Post → Gift Post
    completed_as w k post = record { item = Completed w; iteration = k; post = post }

    module _ (v k : ℕ) (post : Post) (stands : Stands (wave_frame plan) f part (within (suc v) k) (actors part).side.given) (fits : PostFits plan vertices sound meshes f part (suc v) post) where
      none_posted : found (actors part).side.given (Posted (suc v) k) ≡ None
      none_posted = none_is (found (actors part).side.given (Posted (suc v) k)) (λ some.
          elim (stands.2 (suc v) k some) [ inl less ↦ absurd (omega (arith, less)) | inr same ↦ absurd (let later = same.1 in omega (arith, later)) ])

      none_completed : found (actors part).side.given (Completed (suc v)) ≡ None
      none_completed = none_is (found (actors part).side.given (Completed (suc v))) (λ some. let less = stands.0.uncompleted (suc v) some in absurd (omega (arith, less)))

      alone_grows : (after_post None (suc v) k post (actors part).side).given ≡ (actors part).side.given ++ (posted_as (suc v) k post ∷ completed_as (suc v) k post ∷ [])
      alone_grows =
          ap (λ (o : Option (Gift Post)). ((actors part).side.given ++ posted_as (suc v) k post ∷ []) ++ option_to_list (option_map (accepted_for (suc v)) o))
          (found_joined (actors part).side.given (posted_as (suc v) k post ∷ []) (Posted (suc v) k)
          ∙ ap (λ (o : Option (Gift Post)). option_or o (found (posted_as (suc v) k post ∷ []) (Posted (suc v) k))) none_posted
          ∙ found_itself (posted_as (suc v) k post))
          ∙ append_assoc (actors part).side.given (posted_as (suc v) k post ∷ []) (completed_as (suc v) k post ∷ [])

      posted_alone : Extends f (now (after_post None (suc v) k post (actors part).side)) → (item : Item) → (item ≡ Posted (suc v) k) ⊎ (item ≡ Completed (suc v))
          → GiftFits plan vertices (now (after_post None (suc v) k post (actors part).side)) part item post
      posted_alone extends item which x e at sent g further order =
          elim which [
            | inl same ↦ subst (λ (i : Item). WaveFits plan vertices i g e (wave_of plan e x post)) (sym same) wave
            | inr same ↦ subst (λ (i : Item). WaveFits plan vertices i g e (wave_of plan e x post)) (sym same) wave
          ]
        where
          side : OneSide
          side = after_post None (suc v) k post (actors part).side

          completed_now : now (after_post None (suc v) k post (actors part).side) part (Completed (suc v)) ≡ Some (completed_as (suc v) k post)
          completed_now =
              own_item (after_post None (suc v) k post (actors part).side) (Completed (suc v))
              ∙ ap (λ (given : List (Gift Post)). found given (Completed (suc v))) alone_grows
              ∙ found_joined (actors part).side.given (posted_as (suc v) k post ∷ completed_as (suc v) k post ∷ []) (Completed (suc v))
              ∙ ap (λ (o : Option (Gift Post)). option_or o (found (posted_as (suc v) k post ∷ completed_as (suc v) k post ∷ []) (Completed (suc v)))) none_completed
              ∙ found_itself (completed_as (suc v) k post)

          wave : IsPostedWave (start_of plan g (suc v)) (end_told plan g (suc v)) (components_of plan e) (count_of plan vertices e) (wave_of plan e x post)
          wave =
              post_given plan setting.valid vertices part f g (extends_further f (now (after_post None (suc v) k post (actors part).side)) g extends further) order v fits.start fits.latest fits.one_step fits.turn post fits.ends
              (completed_as (suc v) k post) (λ makes. (further part (Completed (suc v)) (completed_as (suc v) k post) completed_now, refl)) x e at sent

      posted_beside : (number : ℕ) → group_of plan part ≡ Some number → Extends f (now (after_post (Some number) (suc v) k post (actors part).side))
          → GiftFits plan vertices (now (after_post (Some number) (suc v) k post (actors part).side)) part (Posted (suc v) k) post
      posted_beside number grouped extends x e at sent g further order =
          post_given plan setting.valid vertices part f g (extends_further f (now (after_post (Some number) (suc v) k post (actors part).side)) g extends further) order v fits.start fits.latest fits.one_step fits.turn post fits.ends
          (completed_as (suc v) k post) (λ makes. absurd (maker_alone plan setting.valid part number makes grouped)) x e at sent

      posts_by : held.received ≡ map meshes (owners_of plan part) → Relaxed plan vertices f part (suc v) k → (group : Option ℕ) → group_of plan part ≡ group
          → Extends f (now (after_post group (suc v) k post (actors part).side))
          → Fits (now (after_post group (suc v) k post (actors part).side)) part (record { side = after_post group (suc v) k post (actors part).side; held = held; stage = resting })
      posts_by received relaxed None grouped extends = record {
        gifts = new_gifts (after_post None (suc v) k post (actors part).side) extends (posted_as (suc v) k post ∷ completed_as (suc v) k post ∷ []) alone_grows
            (two_gifts (now (after_post None (suc v) k post (actors part).side)) (posted_as (suc v) k post) (completed_as (suc v) k post)
            (posted_alone extends (Posted (suc v) k) (inl refl)) (posted_alone extends (Completed (suc v)) (inr refl)));
        held = is.held;
        place = (received, none_before (now (after_post None (suc v) k post (actors part).side)) (suc v + 1));
        sent = is.sent;
      }
      posts_by received relaxed (Some number) grouped extends = record {
        gifts = new_gifts (after_post (Some number) (suc v) k post (actors part).side) extends (posted_as (suc v) k post ∷ []) refl
            (one_gift (now (after_post (Some number) (suc v) k post (actors part).side)) (posted_as (suc v) k post) (posted_beside number grouped extends));
        held = is.held;
        place = (received, relaxed_now (after_post (Some number) (suc v) k post (actors part).side) extends (suc v) k relaxed);
        sent = is.sent;
      }

    posts_turn : (w k : ℕ) (post : Post) → Stands (wave_frame plan) f part (within w k) (actors part).side.given → PostFits plan vertices sound meshes f part w post
        → held.received ≡ map meshes (owners_of plan part) → Relaxed plan vertices f part w k
        → Extends f (now (after_post (group_of plan part) w k post (actors part).side))
        → Fits (now (after_post (group_of plan part) w k post (actors part).side)) part (record { side = after_post (group_of plan part) w k post (actors part).side; held = held; stage = resting })
    posts_turn zero k post stands fits received relaxed extends = absurd (let first = stands.0.window in omega (arith, first))
    posts_turn (suc v) k post stands fits received relaxed extends = posts_by v k post stands fits received relaxed (group_of plan part) refl extends

    -- nothing is noted of a judgement
    noted : HeldFits plan vertices sound meshes part (notes [] held)
    noted = record {
      state = is.held.state;
      kept = is.held.kept;
      notes = subst (λ (all : List Note). All (IsNoteOf plan part (known_of plan meshes part)) all) (sym (append-nil held.notes)) is.held.notes;
    }

    module _ (scheme w k : ℕ) (stands : Stands (wave_frame plan) f part (judging scheme w k) (actors part).side.given)
        (received : held.received ≡ map meshes (owners_of plan part)) (relaxed : Relaxed plan vertices f part w k) where
      -- an iteration that is repeated was relaxed
      relaxed_more : (side : OneSide) → Extends f (now side) → is_granted frame sides part (judging scheme w k) ≡ true → judge_of plan f scheme w k ≡ again
          → Relaxed plan vertices (now side) part w (k + 1)
      relaxed_more side extends granted repeated number z grouped at h further order j first before = elim (cases_lt j k) [
        | inl less ↦ relaxed number z grouped at h onward order j first less
        | inr past ↦ subst (λ (n : ℕ). (relaxed_after plan h z w (start_of plan h w) n).outside ≡ None) (same past) (repeated_relaxed plan h number w k z at judged_later)
      ]
        where
          onward : Extends f h
          onward = extends_further f (now side) h extends further

          same : k ≤ j → k ≡ j
          same past = omega (arith, before, past)

          judged_later : judge_of plan h number w k ≡ again
          judged_later =
              subst (λ (s : ℕ). judge_of plan h s w k ≡ again) (same_Some scheme number (sym stands.0 ∙ grouped))
              (sym ((wave_settled plan setting.valid).judgements f h scheme w k (group_solved (wave_frame plan) (plan_sound plan (exchanged plan) setting.valid) part scheme below stands.0)
              onward well.in_order order stands.2.iteration stands.2.window (posted_up_to frame sides part scheme w k granted (stands.1.group scheme stands.0))) ∙ repeated)

      -- what is accepted is what was posted
      accepted_gifts : (v : ℕ) → w ≡ suc v → (side : OneSide) → Extends f (now side) → (o : Option (Gift Post)) → found (actors part).side.given (Posted w k) ≡ o
          → (item : Item) (gift : Gift Post) → found (option_to_list (option_map (accepted_for w) o)) item ≡ Some gift → GiftFits plan vertices (now side) part item gift.post
      accepted_gifts v first side extends None before item gift at = absurd (none-some gift at)
      accepted_gifts v first side extends (Some given) before item gift at =
          one_gift (now side) (accepted_for w given)
          (subst (λ (n : ℕ). GiftFits plan vertices (now side) part (Completed n) given.post) (sym first)
          (subst (λ (n : ℕ). GiftFits plan vertices (now side) part (Posted n k) given.post) first (old_gifts side extends (Posted w k) given before))) item gift at

      accepts_turn : Extends f (now (completes w k (actors part).side))
          → Fits (now (completes w k (actors part).side)) part (record { side = completes w k (actors part).side; held = notes [] held; stage = resting })
      accepts_turn extends = record {
        gifts = new_gifts (completes w k (actors part).side) extends (option_to_list (option_map (accepted_for w) (found (actors part).side.given (Posted w k)))) refl
            (accepted_gifts (w - 1) (let first = stands.1.window in omega (arith, first)) (completes w k (actors part).side) extends (found (actors part).side.given (Posted w k)) refl);
        held = noted;
        place = (received, none_before (now (completes w k (actors part).side)) (w + 1));
        sent = is.sent;
      }

      hears_it : (actors part).side.place ≡ judging scheme w k → is_granted frame sides part (judging scheme w k) ≡ true
          → (judgement : Judgement Fault) → judge_of plan f scheme w k ≡ judgement → Extends f (now (after_judgement judgement w k (actors part).side))
          → Fits (now (after_judgement judgement w k (actors part).side)) part (record { side = after_judgement judgement w k (actors part).side; held = notes [] held; stage = resting })
      hears_it at granted again repeated extends =
          stays (record (actors part).side { place = taking w (k + 1) }) (notes [] held) resting extends refl noted
          (received, relaxed_more (record (actors part).side { place = taking w (k + 1) }) extends granted repeated) is.sent
      hears_it at granted converged told extends = accepts_turn extends
      hears_it at granted at_limit told extends = accepts_turn extends
      hears_it at granted (refused fault) told extends =
          stays (ends_with (faulted fault) (actors part).side) (notes [] held) resting extends refl noted
          (subst (λ (p : Place). Placed (now (ends_with (faulted fault) (actors part).side)) part p (notes [] held) resting) (sym at)
          (received, relaxed_now (ends_with (faulted fault) (actors part).side) extends w k relaxed)) is.sent

    -- what a participant asks for is what it has made
    abbrev Owns : Act (List AnyMesh) Post Fault → Place → Type 0
    Owns (sends_meshes sent) place = sent ≡ meshes part
    Owns (posts post) opening = own.first part held.received held.state ≡ Ok post
    Owns (posts post) (within w k) = (actors part).stage ≡ ready post
    Owns act place = Unit {0}

    abbrev Becomes : Place → OneReply → OneSide → Type 0
    Becomes place reply side =
        Extends f (now side) → Fits (now side) part (becomes frame own side (hears frame own part (turn_at place).0 (turn_at place).1 reply held))

    on_pair : (place : Place) (x : OneReply × OneSide) (reply : OneReply) (side : OneSide) → x ≡ (reply, side) → Becomes place x.0 x.1 → Becomes place reply side
    on_pair place x reply side e fits = subst (λ (pair : OneReply × OneSide). Becomes place pair.0 pair.1) e fits

    -- every event
    event_at : (place : Place) → (actors part).side.place ≡ place → Stands (wave_frame plan) f part place (actors part).side.given → Placed f part place held (actors part).stage
        → (act : Act (List AnyMesh) Post Fault) (reply : OneReply) (side : OneSide) → Owns act place
        → made_at frame sides part place act ≡ Some (reply, side) → Becomes place reply side
    event_at sending at stands placed (sends_meshes sent) reply side owns made =
        on_pair sending _ reply side (some_same _ _ made)
        (λ extends. stays (record (actors part).side { place = collecting; sent = Some sent }) held resting extends refl is.held tt (inr (ap Some owns)))
    event_at collecting at stands placed takes_meshes reply side owns made =
        let open_there = guarded _ _ _ made in
        on_pair collecting _ reply side open_there.1
        (λ extends. stays (record (actors part).side { place = opening }) (record held { received = filter_map (λ owner. (sides owner).sent) (owners_of plan part) }) resting extends refl
        (record { state = is.held.state; kept = is.held.kept; notes = is.held.notes }) (collects open_there.0) is.sent)
    event_at opening at stands placed (posts post) reply side owns made =
        on_pair opening _ reply side (some_same _ _ made) (λ extends. opens post placed owns extends)
    event_at (taking w k) at stands placed takes reply side owns made =
        let open_there = guarded _ _ _ made in
        let both = and_parts (frame.is_there f w) (is_granted frame sides part (taking w k)) open_there.0 in
        on_pair (taking w k) _ reply side open_there.1
        (λ extends. takes_turn w k
        (good_taken (wave_frame plan) f part (actors part).side.given (λ item. refl) (one_in_order sides well.in_order part) w k stands.0 stands.1 both.0
        (needs_told frame sides part w k both.0 both.1)) placed.1 placed.0 extends)
    event_at (within w k) at stands placed (posts post) reply side owns made =
        on_pair (within w k) _ reply side (some_same _ _ made)
        (λ extends. posts_turn w k post stands (subst (λ (stage : OneStage). StageFits plan vertices sound meshes f part w stage) owns placed.2) placed.0 placed.1 extends)
    event_at (judging scheme w k) at stands placed judges reply side owns made =
        let open_there = guarded _ _ _ made in
        on_pair (judging scheme w k) _ reply side open_there.1
        (λ extends. hears_it scheme w k stands placed.0 placed.1 at open_there.0 (judge_of plan f scheme w k) refl extends)
    event_at place at stands placed (stops fault) reply side owns made =
        on_pair place _ reply side (some_same _ _ made) (λ extends. ends_there (faulted fault) extends)
    event_at place at stands placed lacks_memory reply side owns made =
        on_pair place _ reply side (some_same _ _ made) (λ extends. ends_there no_memory extends)
    event_at place at stands placed ends reply side owns made =
        on_pair place _ reply side (some_same _ _ made) (λ extends. ends_there (ending_at frame sides part place) extends)
    event_at place at stands placed is_cut reply side owns made =
        on_pair place (cut_off, ends_with cut (actors part).side) reply side
        (guarded (is_cut_off frame sides part place) (cut_off, ends_with cut (actors part).side) (reply, side) made).1 (λ extends. ends_there cut extends)
    event_at place at stands placed act reply side owns made = absurd (none-some (reply, side) made)

    pub from_event : (act : Act (List AnyMesh) Post Fault) (actor : OneActor) → IsEvent frame own actors part act actor → Owns act (actors part).side.place
        → Fits (look_in (put sides part actor.side)) part actor
    from_event act actor event owns =
        subst (λ (a : OneActor). Fits (look_in (put sides part a.side)) part a) (sym event.is)
        (event_at (actors part).side.place refl (well.stands part) is.place act event.reply event.side owns
        (made_by frame sides part act (event.reply, event.side) event.made).1
        (step_extends frame sides part act event.reply event.side event.made))

    asked : (act : Act (List AnyMesh) Post Fault) (actor : OneActor) → IsDone frame own actors part (asks act) actor → Owns act (actors part).side.place
        → Fits (look_in (put sides part actor.side)) part actor
    asked act actor (inl event) owns = from_event act actor event owns
    asked act actor (inr cut_there) owns = from_event is_cut actor cut_there.1 tt

    owns_act : (why : Option Fault) (place : Place) → Owns (act_of why) place
    owns_act None place = tt
    owns_act (Some fault) place = tt

    owns_choice : (b : Bool) (place : Place) → Owns (if b then takes else ends) place
    owns_choice true place = tt
    owns_choice false place = tt

    -- a step of a solve
    goes_step : (w k : ℕ) (run : Run State) (more : ℕ) → (actors part).side.place ≡ within w k → Placed f part (within w k) held (running run more)
        → Fits (now (actors part).side) part (becomes frame own (actors part).side
        (stepped frame own part (turn_at (actors part).side.place).0 (turn_at (actors part).side.place).1 more (own.step part run).1 (notes (own.step part run).0 held)))
    goes_step w k run more at placed =
        let side : OneSide = (actors part).side in
        let extends : Extends f (now side) = grown_extends sides part side ([], sym (append-nil side.given)) in
        subst (λ (p : Place). Fits (now side) part (becomes frame own side (stepped frame own part (turn_at p).0 (turn_at p).1 more (own.step part run).1 (notes (own.step part run).0 held)))) (sym at)
        (let out : OneHeld × OneStage = stepped frame own part w k more (own.step part run).1 (notes (own.step part run).0 held) in
        let goal = step_goal w k run more placed.2 in
        stays side out.0 out.1 extends refl goal.0
        (subst (λ (p : Place). Placed (now side) part p out.0 out.1) (sym at)
        (goal.1 ∙ placed.0, relaxed_now side extends w k placed.1, stage_on plan vertices sound meshes f (now side) extends part w out.1 goal.2)) is.sent)

    next_at : (place : Place) → (actors part).side.place ≡ place → Placed f part place held (actors part).stage → (actor : OneActor)
        → IsDone frame own actors part (wish_at frame own actors part place) actor → Fits (look_in (put sides part actor.side)) part actor
    next_at sending at placed actor done = asked (sends_meshes (meshes part)) actor done refl
    next_at collecting at placed actor done = asked takes_meshes actor done tt
    next_at opening at placed actor done = by (own.first part held.received held.state) refl done
      where
        by : (r : Result Post (Option Fault)) → own.first part held.received held.state ≡ r → IsDone frame own actors part (asks (first_act r)) actor
            → Fits (look_in (put sides part actor.side)) part actor
        by (Ok post) made done = asked (posts post) actor done (subst (λ (p : Place). Owns (posts post) p) (sym at) made)
        by (Err why) made done = asked (act_of why) actor done (owns_act why (actors part).side.place)
    next_at (taking w k) at placed actor done =
        asked (if frame.is_there f w then takes else ends) actor done (owns_choice (frame.is_there f w) (actors part).side.place)
    next_at (within w k) at placed actor done = by (actors part).stage refl placed done
      where
        by : (stage : OneStage) → (actors part).stage ≡ stage → Placed f part (within w k) held stage → IsDone frame own actors part (wish_within stage) actor
            → Fits (look_in (put sides part actor.side)) part actor
        by resting same fits done = absurd done
        by (running run more) same fits done = subst (λ (a : OneActor). Fits (look_in (put sides part a.side)) part a) (sym done) (goes_step w k run more at fits)
        by (ready post) same fits done = asked (posts post) actor done (subst (λ (p : Place). Owns (posts post) p) (sym at) same)
        by (broken why) same fits done = asked (act_of why) actor done (owns_act why (actors part).side.place)
    next_at (judging scheme w k) at placed actor done = asked judges actor done tt

    -- who goes on, who ends early and who lacks memory
    pub goes_fits : (actor : OneActor) → next frame own actors part ≡ Some actor → Fits (look_in (put sides part actor.side)) part actor
    goes_fits actor e = next_at (actors part).side.place refl is.place actor (kind_of frame own actors part actor e).1

    pub quits_fits : (actor : OneActor) → enabled frame own actors (quit part) ≡ Some actor → Fits (look_in (put sides part actor.side)) part actor
    quits_fits actor e = from_event ends actor (event_of frame own actors part ends actor e) tt

    pub lacks_fits : (actor : OneActor) → enabled frame own actors (run_out part) ≡ Some actor → Fits (look_in (put sides part actor.side)) part actor
    lacks_fits actor e = from_event lacks_memory actor (event_of frame own actors part lacks_memory actor e) tt

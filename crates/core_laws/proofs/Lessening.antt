-- Each entry of a schedule lowers the number of entries that its participant has left.
use Rattle.std.proofs.Common.{◌≡◌, ℕ, ◌<◌, ◌≤◌, inl, inr, ◌&&◌, Bool, false, if◌then◌else◌, List, filter_map, Some, IsTrue, refl, ap, subst, ◌∙◌, arith}
use Rattle.coupled_loop.specs.Given.{gives}
use Rattle.std.proofs.lemmas.Bool.{and_parts}
use Rattle.std.proofs.lemmas.Option.{none-some, same_Some}
use Rattle.cpl_plan.specs.declared.words.Item.TheVariants.{Completed}
use Rattle.coupled_loop.specs.Frames.{Frame}
use Rattle.coupled_loop.specs.CoreState.{Place, sending, collecting, opening, taking, within, judging, Side, CoreState, has_ended, look_in, turn_at}
use Rattle.coupled_loop.specs.CoreStep.{Act, sends_meshes, takes_meshes, posts, takes, judges, stops, lacks_memory, ends, is_cut, Reply, posted, meshes, taken, cut_off, over, made_at, after_post, ends_with, judged_as, is_granted, is_cut_off, goes_on_at, ending_at}
use Rattle.coupled_loop.specs.Endings.{Ending, faulted, no_memory, cut}
use Rattle.coupled_loop.specs.Solving.{Solvers, Held, notes}
use Rattle.coupled_loop.specs.Schedules.{Stage, resting, running, ready, broken, Actor, Actors, Wish, asks, steps, nothing, wish_within, wish_at, stepped, sides_of, next}
use Rattle.core_laws.proofs.Sound.{IsSound}
use Rattle.core_laws.proofs.Measures.{Fits, some_left, entries_left, entries_at, left_le, stepped_left, Lessens, posts_less, judges_less, takes_less}
use Rattle.core_laws.proofs.Rounds.{first_rounds}
use Rattle.core_laws.proofs.StepKinds.{if_from, made_from, IsEvent, IsDone, kind_of}

-- the meshes that are taken
abbrev received_in : {Mesh Post Fault : Type 0} → CoreState Mesh Post Fault → List ℕ → List Mesh
received_in sides owners = filter_map (λ owner. (sides owner).sent) owners

module _ {Mesh Post Inputs Fault State Run Note : Type 0} (frame : Frame Post Inputs Fault) (solvers : Solvers Mesh Post Inputs Fault State Run Note) (sound : IsSound frame) (iterations : ℕ) where
  module _ (sides : CoreState Mesh Post Fault) (part : ℕ) (held : Held Mesh State Note) where
    -- who ends has nothing left
    ends_less : (place : Place) (stage : Stage Run Post Fault) (reply : Reply Mesh Inputs Fault) (ending : Ending Fault)
        → Lessens frame solvers iterations sides part held place stage (reply, ends_with ending (sides part))
    ends_less place stage reply ending = omega (arith, some_left frame.most_windows iterations solvers.most_steps place stage)

    less_by : (place : Place) (stage : Stage Run Post Fault) (made made' : Reply Mesh Inputs Fault × Side Mesh Post Fault) → Some made ≡ Some made'
        → Lessens frame solvers iterations sides part held place stage made → Lessens frame solvers iterations sides part held place stage made'
    less_by place stage made made' e = subst (Lessens frame solvers iterations sides part held place stage) (same_Some made made' e)

    -- each event lessens what is left
    pub made_less : (place : Place) (act : Act Mesh Post Fault) (stage : Stage Run Post Fault) (made : Reply Mesh Inputs Fault × Side Mesh Post Fault)
        → Fits iterations place → 1 ≤ iterations → made_at frame sides part place act ≡ Some made → Lessens frame solvers iterations sides part held place stage made
    made_less sending (sends_meshes own) stage made fits some e =
        less_by sending stage (posted, record (sides part) { place = collecting; sent = Some own }) made e
        (let bound = left_le frame solvers iterations (record (sides part) { place = collecting; sent = Some own }) (held, resting) in omega (arith, bound))
    made_less collecting takes_meshes stage made fits some e =
        let granted = if_from (is_granted frame sides part collecting) _ made e in
        less_by collecting stage (meshes (received_in sides (frame.owners part)), record (sides part) { place = opening }) made granted.1
        (let bound = left_le frame solvers iterations (record (sides part) { place = opening }) (record held { received = received_in sides (frame.owners part) }, resting) in omega (arith, bound))
    made_less opening (posts post) stage made fits some e =
        less_by opening stage (posted, record (sides part) { place = taking 1 1; given = gives (Completed 0) 0 post (sides part).given }) made e
        (let bound = left_le frame solvers iterations (record (sides part) { place = taking 1 1; given = gives (Completed 0) 0 post (sides part).given }) (held, resting) in
        omega (arith, bound, first_rounds frame.most_windows iterations solvers.most_steps))
    made_less (taking w k) takes stage made fits some e =
        let granted = if_from (goes_on_at frame sides part (taking w k) && is_granted frame sides part (taking w k)) _ made e in
        let there : IsTrue (frame.is_there (look_in sides) w) = (and_parts _ _ granted.0).0 in
        less_by (taking w k) stage (taken (frame.inputs (look_in sides) part w k), record (sides part) { place = within w k }) made granted.1
        (takes_less frame solvers iterations sides part held w k (frame.inputs (look_in sides) part w k) stage fits.0 fits.1 (sound.bounded (look_in sides) w there).1)
    made_less (within w k) (posts post) stage made fits some e =
        less_by (within w k) stage (posted, after_post (frame.group part) w k post (sides part)) made e
        (posts_less frame solvers iterations sides part held (frame.group part) w k post stage fits.0 fits.1)
    made_less (judging scheme w k) judges stage made fits some e =
        let granted = if_from (is_granted frame sides part (judging scheme w k)) _ made e in
        less_by (judging scheme w k) stage (judged_as frame sides part (frame.judge (look_in sides) scheme w k) w k) made granted.1
        (judges_less frame solvers iterations sides part held (frame.judge (look_in sides) scheme w k) scheme w k stage fits.0 fits.1)
    made_less place (stops fault) stage made fits some e = less_by place stage (over, ends_with (faulted fault) (sides part)) made e (ends_less place stage over (faulted fault))
    made_less place lacks_memory stage made fits some e = less_by place stage (over, ends_with no_memory (sides part)) made e (ends_less place stage over no_memory)
    made_less place ends stage made fits some e =
        less_by place stage (over, ends_with (ending_at frame sides part place) (sides part)) made e (ends_less place stage over (ending_at frame sides part place))
    made_less place is_cut stage made fits some e =
        let off = if_from (is_cut_off frame sides part place) _ made e in
        less_by place stage (cut_off, ends_with cut (sides part)) made off.1 (ends_less place stage cut_off cut)
    made_less place act stage made fits some e = absurd (none-some made e)

  module _ (actors : Actors Mesh Post Fault State Run Note) (part : ℕ) (actor : Actor Mesh Post Fault State Run Note) where
    abbrev pub IsLess : Type 0
    IsLess = entries_left frame solvers iterations actor < entries_left frame solvers iterations (actors part)

    abbrev pub IsLessAt : Type 0
    IsLessAt = entries_left frame solvers iterations actor < entries_at frame solvers iterations (actors part).side.place (actors part).stage

    unended_left : has_ended (actors part).side ≡ false → IsLessAt → IsLess
    unended_left un less =
        let e : entries_left frame solvers iterations (actors part) ≡ entries_at frame solvers iterations (actors part).side.place (actors part).stage =
        ap (λ (b : Bool). if b then 0 else entries_at frame solvers iterations (actors part).side.place (actors part).stage) un in
        omega (arith, less, e)

    at_event : (act : Act Mesh Post Fault) → Fits iterations (actors part).side.place → 1 ≤ iterations → IsEvent frame solvers actors part act actor → IsLessAt
    at_event act fits some event =
        let made = made_from frame (sides_of frame solvers actors) part act (event.reply, event.side) event.made in
        let less = made_less (sides_of frame solvers actors) part (actors part).held (actors part).side.place act (actors part).stage (event.reply, event.side) fits some made.1 in
        let e = ap (entries_left frame solvers iterations) event.is in
        omega (arith, less, e)

    pub event_less : (act : Act Mesh Post Fault) → Fits iterations (actors part).side.place → 1 ≤ iterations → IsEvent frame solvers actors part act actor → IsLess
    event_less act fits some event =
        unended_left (made_from frame (sides_of frame solvers actors) part act (event.reply, event.side) event.made).0 (at_event act fits some event)

    -- a step of a solve is made within a turn
    record IsSolving (run : Run) (more : ℕ) (place : Place) : Type 0 where
      w : ℕ
      k : ℕ
      place_is : place ≡ within w k
      stage_is : (actors part).stage ≡ running run more

    solving : (place : Place) (run : Run) (more : ℕ) → wish_at frame solvers actors part place ≡ steps run more → IsSolving run more place
    solving sending run more e = cc
    solving collecting run more e = cc
    solving opening run more e = cc
    solving (taking w k) run more e = cc
    solving (within w k) run more e = by (actors part).stage refl e where
      by : (stage : Stage Run Post Fault) → (actors part).stage ≡ stage → wish_within {Mesh = Mesh} stage ≡ steps run more → IsSolving run more (within w k)
      by resting is e = cc
      by (running run' more') is e = record { w = w; k = k; place_is = refl; stage_is = cc }
      by (ready post) is e = cc
      by (broken why) is e = cc
    solving (judging scheme w k) run more e = cc

    at_step : (run : Run) (more : ℕ) → IsSolving run more (actors part).side.place → IsDone frame solvers actors part (steps run more) actor → IsLessAt
    at_step run more solve is =
        let heard = stepped frame solvers part (turn_at (actors part).side.place).0 (turn_at (actors part).side.place).1 more (solvers.step part run).1 (notes (solvers.step part run).0 (actors part).held) in
        let bound = left_le frame solvers iterations (actors part).side heard in
        let fewer = stepped_left frame solvers iterations part (turn_at (actors part).side.place).0 (turn_at (actors part).side.place).1 more (solvers.step part run).1 (notes (solvers.step part run).0 (actors part).held) in
        let now : entries_at frame solvers iterations (actors part).side.place (actors part).stage ≡ entries_at frame solvers iterations (within solve.w solve.k) (running run more) =
        ap (λ place. entries_at frame solvers iterations place (actors part).stage) solve.place_is ∙ ap (entries_at frame solvers iterations (within solve.w solve.k)) solve.stage_is in
        let later : entries_at frame solvers iterations (actors part).side.place heard.1 ≡ entries_at frame solvers iterations (within solve.w solve.k) heard.1 =
        ap (λ place. entries_at frame solvers iterations place heard.1) solve.place_is in
        let e = ap (entries_left frame solvers iterations) is in
        omega (arith, bound, fewer, now, later, e)

    done_less : (wished : Wish Mesh Post Fault Run) → wish_at frame solvers actors part (actors part).side.place ≡ wished
        → Fits iterations (actors part).side.place → 1 ≤ iterations → IsDone frame solvers actors part wished actor → IsLessAt
    done_less (asks act) e fits some (inl own) = at_event act fits some own
    done_less (asks act) e fits some (inr (none, off)) = at_event is_cut fits some off
    done_less (steps run more) e fits some done = at_step run more (solving (actors part).side.place run more e) done
    done_less nothing e fits some done = absurd done

    pub next_less : Fits iterations (actors part).side.place → 1 ≤ iterations → next frame solvers actors part ≡ Some actor → IsLess
    next_less fits some e =
        let kind = kind_of frame solvers actors part actor e in
        unended_left kind.0 (done_less (wish_at frame solvers actors part (actors part).side.place) refl fits some kind.1)

-- What comes of a turn: the participant has stopped, or has posted, as in the loop.
use Rattle.std.proofs.Common.{◌≡◌, ℕ, ◌<◌, ◌⊎◌, inl, inr, Bool, true, false, Option, Some, None, refl, sym, ap, subst, ◌∙◌, Contains, Ok, Err}
use Rattle.coupled_loop.specs.Numbered.{put}
use Rattle.std.proofs.lemmas.List.Folds.{list_all-map}
use Rattle.cpl_plan.specs.declared.words.Need.{Need}
use Rattle.cpl_plan.specs.declared.words.Item.TheVariants.{Posted}
use Rattle.coupled_loop.specs.Given.{has_given, gives}
use Rattle.coupled_loop.specs.Endings.{Ending, cut}
use Rattle.coupled_loop.specs.Frames.{Frame}
use Rattle.coupled_loop.specs.CoreState.{taking, within, Side, has_ended}
use Rattle.coupled_loop.specs.CoreStep.{after_post, ends_with, is_granted, is_cut_off}
use Rattle.coupled_loop.specs.Solving.{Solvers, Held, Solved, ending_of, solves, hears_inputs, begins}
use Rattle.coupled_loop.specs.CoupledLoop.{Part, is_provided, solved, turn}
use Rattle.coupled_loop.specs.Schedules.{Actor, Actors, sides_of, begun, becomes}
use Rattle.core_laws.proofs.Puts.{put_same, put_there}
use Rattle.core_laws.proofs.NextSteps.{rests, next_takes, next_is_cut}
use Rattle.core_laws.proofs.Views.{look_of, view, view_is, view_put, Gives}
use Rattle.core_laws.proofs.Rows.{someone_off, Row, row_stays, row_joined, row_one}
use Rattle.core_laws.proofs.Turns.{finished, at_end, begun_row, finish_row}

module _ {Mesh Post Inputs Fault State Run Note : Type 0} (frame : Frame Post Inputs Fault) (solvers : Solvers Mesh Post Inputs Fault State Run Note)
    (actors : Actors Mesh Post Fault State Run Note) (part w k : ℕ) where
  -- it has stopped, or had before
  pub record HasStopped (actor : Actor Mesh Post Fault State Run Note) : Type 0 where
    pub ending : Ending Fault
    pub is : actor.side.ending ≡ Some ending
    pub given : actor.side.given ≡ (actors part).side.given
    pub seen : view frame solvers (put actors part actor) ≡ turn frame solvers w k (view frame solvers actors) part

  pub record HasPosted (actor : Actor Mesh Post Fault State Run Note) : Type 0 where
    pub post : Post
    pub held : Held Mesh State Note
    pub going : (actors part).side.ending ≡ None
    pub is : actor ≡ rests (after_post (frame.group part) w k post (actors part).side) held
    pub seen : turn frame solvers w k (view frame solvers actors) part
        ≡ put (view frame solvers actors) part (record { held = held; given = gives (Posted w k) k post (actors part).side.given; stopped = None })

  pub record TurnTaken : Type 0 where
    pub actor : Actor Mesh Post Fault State Run Note
    pub row : Row frame solvers actors part actor
    pub outcome : HasStopped actor ⊎ HasPosted actor

  -- each need is given, or its owner has ended
  abbrev pub IsServed : Type 0
  IsServed = (need : Need) → Contains (frame.needs part w k) need → Gives frame solvers actors need.owner need.item

  had_stopped : (ending : Ending Fault) → (actors part).side.ending ≡ Some ending → TurnTaken
  had_stopped ending is = record {
    actor = actors part;
    row = row_stays frame solvers actors part (actors part) refl;
    outcome = inl (record { ending = ending; is = is; given = refl; seen = ap (view frame solvers) (put_there actors part (actors part) refl) ∙ sym stays });
  } where
    stays : turn frame solvers w k (view frame solvers actors) part ≡ view frame solvers actors
    stays = rw is refl

  module _ (is_part : part < frame.parts) (going : (actors part).side.ending ≡ None) (at : (actors part).side.place ≡ taking w k)
      (there : frame.is_there (look_of frame solvers actors) w ≡ true) where
    granted_as : is_granted frame (sides_of frame solvers actors) part (taking w k) ≡ is_provided frame solvers (view frame solvers actors) part w k
    granted_as = rw there (list_all-map (λ (asked : ℕ × Bool). asked.1) (λ (need : Need). (need.owner, has_given (look_of frame solvers actors) need.owner need.item)) (frame.needs part w k))

    held_as : (view frame solvers actors part).held ≡ (actors part).held
    held_as = ap (λ (p : Part Mesh Post Fault State Note). p.held) (view_is frame solvers part (actors part) is_part)

    result : Solved Mesh State Note Post Fault
    result = solves solvers part w k (frame.inputs (look_of frame solvers actors) part w k) (actors part).held

    turn_solves : is_provided frame solvers (view frame solvers actors) part w k ≡ true
        → turn frame solvers w k (view frame solvers actors) part ≡ put (view frame solvers actors) part (solved frame solvers w k (actors part).side.given result)
    unfolding result
    turn_solves provided =
        let first : turn frame solvers w k (view frame solvers actors) part
        ≡ put (view frame solvers actors) part (solved frame solvers w k (actors part).side.given
        (solves solvers part w k (frame.inputs (look_of frame solvers actors) part w k) (view frame solvers actors part).held)) = rw (going, provided) refl in
        first ∙ ap (λ (h : Held Mesh State Note). put (view frame solvers actors) part (solved frame solvers w k (actors part).side.given
        (solves solvers part w k (frame.inputs (look_of frame solvers actors) part w k) h))) held_as

    taken_side : Side Mesh Post Fault
    taken_side = record (actors part).side { place = within w k }

    turn_row : is_provided frame solvers (view frame solvers actors) part w k ≡ true → Row frame solvers actors part (finished frame solvers part w k taken_side result)
    unfolding result taken_side
    turn_row provided =
        let heard = hears_inputs solvers part w k (frame.inputs (look_of frame solvers actors) part w k) (actors part).held in
        let begin = begins solvers part w k (frame.inputs (look_of frame solvers actors) part w k) heard in
        let first = becomes frame solvers taken_side (begun frame solvers part w k begin heard) in
        row_joined frame solvers actors part first _
        (row_one frame solvers actors part first is_part (next_takes frame solvers actors part going w k at there (granted_as ∙ provided)))
        (row_joined frame solvers (put actors part first) part (at_end frame solvers taken_side result) _
        (begun_row frame solvers part w k is_part taken_side going refl begin heard (put actors part first) (put_same actors part first))
        (finish_row frame solvers part w k is_part taken_side going refl result (put (put actors part first) part (at_end frame solvers taken_side result))
        (put_same (put actors part first) part (at_end frame solvers taken_side result))))

    -- another place is set anyway
    posted_from : (group : Option ℕ) (post : Post) (side : Side Mesh Post Fault) → after_post group w k post (record side { place = within w k }) ≡ after_post group w k post side
    posted_from None post side = refl
    posted_from (Some scheme) post side = refl

    by_result : (solve : Solved Mesh State Note Post Fault) → Row frame solvers actors part (finished frame solvers part w k taken_side solve)
        → turn frame solvers w k (view frame solvers actors) part ≡ put (view frame solvers actors) part (solved frame solvers w k (actors part).side.given solve) → TurnTaken
    unfolding taken_side
    by_result (held, Ok post) row seen = record {
      actor = rests (after_post (frame.group part) w k post (actors part).side) held;
      row = subst (λ (side : Side Mesh Post Fault). Row frame solvers actors part (rests side held)) (posted_from (frame.group part) post (actors part).side) row;
      outcome = inr (record { post = post; held = held; going = going; is = refl; seen = seen });
    }
    by_result (held, Err why) row seen = record {
      actor = finished frame solvers part w k taken_side (held, Err why);
      row = row;
      outcome = inl (record {
        ending = ending_of why;
        is = refl;
        given = refl;
        seen = view_put frame solvers actors part _
            ∙ (ap (put (view frame solvers actors) part) (view_is frame solvers part (finished frame solvers part w k taken_side (held, Err why)) is_part) ∙ sym seen);
      });
    }

    is_cut_here : IsServed → is_provided frame solvers (view frame solvers actors) part w k ≡ false → TurnTaken
    is_cut_here served provided = record {
      actor = rests (ends_with cut (actors part).side) (actors part).held;
      row = row_one frame solvers actors part _ is_part (next_is_cut frame solvers actors part going w k at there (granted_as ∙ provided) off);
      outcome = inl (record {
        ending = cut;
        is = refl;
        given = refl;
        seen = view_put frame solvers actors part _
            ∙ (ap (put (view frame solvers actors) part) (view_is frame solvers part (rests (ends_with cut (actors part).side) (actors part).held) is_part) ∙ sym cut_there);
      });
    } where
      off : is_cut_off frame (sides_of frame solvers actors) part (taking w k) ≡ true
      off = rw there (someone_off (λ (need : Need). need.owner) (λ need. has_given (look_of frame solvers actors) need.owner need.item) (λ owner. has_ended (actors owner).side) (frame.needs part w k) served provided)

      cut_there : turn frame solvers w k (view frame solvers actors) part
          ≡ put (view frame solvers actors) part (record { held = (actors part).held; given = (actors part).side.given; stopped = Some cut })
      cut_there =
          let first : turn frame solvers w k (view frame solvers actors) part
          ≡ put (view frame solvers actors) part (record { held = (view frame solvers actors part).held; given = (actors part).side.given; stopped = Some cut }) = rw (going, provided) refl in
          first ∙ ap (λ (h : Held Mesh State Note). put (view frame solvers actors) part (record { held = h; given = (actors part).side.given; stopped = Some cut })) held_as

    taken_going : IsServed → TurnTaken
    taken_going served = by (is_provided frame solvers (view frame solvers actors) part w k) refl where
      by : (provided : Bool) → is_provided frame solvers (view frame solvers actors) part w k ≡ provided → TurnTaken
      by true provided = by_result result (turn_row provided) (turn_solves provided)
      by false provided = is_cut_here served provided

  pub turn_taken : part < frame.parts → ((actors part).side.ending ≡ None → (actors part).side.place ≡ taking w k)
      → ((actors part).side.ending ≡ None → frame.is_there (look_of frame solvers actors) w ≡ true) → IsServed → TurnTaken
  turn_taken is_part at there served = by (actors part).side.ending refl where
    by : (ending : Option (Ending Fault)) → (actors part).side.ending ≡ ending → TurnTaken
    by (Some ending) is = had_stopped ending is
    by None going = taken_going is_part going (at going) (there going) served

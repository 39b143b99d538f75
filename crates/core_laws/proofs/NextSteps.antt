-- What a participant of the system does next, by where it stands.
use Rattle.std.proofs.Common.{◌≡◌, ℕ, true, false, filter_map, Option, Some, None, refl, Ok, Err}
use Rattle.coupled_loop.specs.Given.{gives}
use Rattle.cpl_plan.specs.declared.words.Item.TheVariants.{Completed}
use Rattle.coupled_loop.specs.Endings.{done, cut}
use Rattle.coupled_loop.specs.Frames.{Frame}
use Rattle.coupled_loop.specs.CoreState.{sending, collecting, opening, taking, within, judging, Side, look_in}
use Rattle.coupled_loop.specs.CoreStep.{after_post, ends_with, after_judgement, taken, is_granted, is_cut_off}
use Rattle.coupled_loop.specs.Solving.{Solvers, Held, notes, hears_judgement, ending_of}
use Rattle.coupled_loop.specs.Schedules.{resting, running, ready, broken, Actor, Actors, sides_of, becomes, hears, stepped, next}

-- a participant that is in no solve
abbrev pub rests : {Mesh Post Fault State Run Note : Type 0} → Side Mesh Post Fault → Held Mesh State Note → Actor Mesh Post Fault State Run Note
rests side held = record { side = side; held = held; stage = resting }

module _ {Mesh Post Inputs Fault State Run Note : Type 0} (frame : Frame Post Inputs Fault) (solvers : Solvers Mesh Post Inputs Fault State Run Note)
    (actors : Actors Mesh Post Fault State Run Note) (part : ℕ) (going : (actors part).side.ending ≡ None) where
  abbrev Goes_to : Actor Mesh Post Fault State Run Note → Type 0
  Goes_to actor = next frame solvers actors part ≡ Some actor

  pub next_sends : (actors part).side.place ≡ sending
      → Goes_to (rests (record (actors part).side { place = collecting; sent = Some (solvers.meshes part) }) (actors part).held)
  next_sends at = rw (going, at, going, at, going) refl

  pub next_collects : (actors part).side.place ≡ collecting → is_granted frame (sides_of frame solvers actors) part collecting ≡ true
      → Goes_to (rests (record (actors part).side { place = opening })
      (record (actors part).held { received = filter_map (λ owner. (actors owner).side.sent) (frame.owners part) }))
  next_collects at granted = rw (going, at, going, at, granted, going) refl

  pub next_opens : (post : Post) → (actors part).side.place ≡ opening
      → solvers.first part (actors part).held.received (actors part).held.state ≡ Ok post
      → Goes_to (rests (record (actors part).side { place = taking 1 1; given = gives (Completed 0) 0 post (actors part).side.given }) (actors part).held)
  next_opens post at first = rw (going, at, first, going, at, going) refl

  pub next_opens_not : (why : Option Fault) → (actors part).side.place ≡ opening
      → solvers.first part (actors part).held.received (actors part).held.state ≡ Err why
      → Goes_to (rests (ends_with (ending_of why) (actors part).side) (actors part).held)
  next_opens_not None at first = rw (going, at, first, going, at, at) refl
  next_opens_not (Some fault) at first = rw (going, at, first, going, at, at) refl

  module _ (w k : ℕ) where
    module _ (at : (actors part).side.place ≡ taking w k) where
      pub next_takes : frame.is_there (look_in (sides_of frame solvers actors)) w ≡ true → is_granted frame (sides_of frame solvers actors) part (taking w k) ≡ true
          → Goes_to (becomes frame solvers (record (actors part).side { place = within w k })
          (hears frame solvers part w k (taken (frame.inputs (look_in (sides_of frame solvers actors)) part w k)) (actors part).held))
      next_takes there granted = rw (going, at, there, going, at, granted, there, going, at) refl

      pub next_is_cut : frame.is_there (look_in (sides_of frame solvers actors)) w ≡ true → is_granted frame (sides_of frame solvers actors) part (taking w k) ≡ false
          → is_cut_off frame (sides_of frame solvers actors) part (taking w k) ≡ true
          → Goes_to (rests (ends_with cut (actors part).side) (actors part).held)
      next_is_cut there granted off = rw (going, at, there, going, at, granted, off, there, at) refl

      pub next_ends : frame.is_there (look_in (sides_of frame solvers actors)) w ≡ false
          → Goes_to (rests (ends_with done (actors part).side) (actors part).held)
      next_ends there = rw (going, at, there, going, at, there, at) refl

    module _ (at : (actors part).side.place ≡ within w k) where
      pub next_steps : (run : Run) (more : ℕ) → (actors part).stage ≡ running run more
          → Goes_to (becomes frame solvers (actors part).side
          (stepped frame solvers part w k more (solvers.step part run).1 (notes (solvers.step part run).0 (actors part).held)))
      next_steps run more stage = rw (going, at, stage, at, going) refl

      posts_as : (post : Post) (side : Side Mesh Post Fault) → (actors part).side ≡ side → (actors part).stage ≡ ready post
          → Goes_to (rests (after_post (frame.group part) w k post side) (actors part).held)
      posts_as post side is stage = rw (going, at, stage, going, at, is) refl

      pub next_posts : (post : Post) → (actors part).stage ≡ ready post
          → Goes_to (rests (after_post (frame.group part) w k post (actors part).side) (actors part).held)
      next_posts post stage = posts_as post (actors part).side refl stage

      pub next_breaks : (why : Option Fault) → (actors part).stage ≡ broken why
          → Goes_to (rests (ends_with (ending_of why) (actors part).side) (actors part).held)
      next_breaks None stage = rw (going, at, stage, going, at, at) refl
      next_breaks (Some fault) stage = rw (going, at, stage, going, at, at) refl

    module _ (scheme : ℕ) (at : (actors part).side.place ≡ judging scheme w k) where
      judges_as : (side : Side Mesh Post Fault) → (actors part).side ≡ side → is_granted frame (sides_of frame solvers actors) part (judging scheme w k) ≡ true
          → Goes_to (rests (after_judgement (frame.judge (look_in (sides_of frame solvers actors)) scheme w k) w k side)
          (hears_judgement solvers part w k (frame.judge (look_in (sides_of frame solvers actors)) scheme w k) (actors part).held))
      judges_as side is granted = rw (going, at, going, at, granted, at, is) refl

      pub next_judges : is_granted frame (sides_of frame solvers actors) part (judging scheme w k) ≡ true
          → Goes_to (rests (after_judgement (frame.judge (look_in (sides_of frame solvers actors)) scheme w k) w k (actors part).side)
          (hears_judgement solvers part w k (frame.judge (look_in (sides_of frame solvers actors)) scheme w k) (actors part).held))
      next_judges granted = judges_as (actors part).side refl granted

      pub next_unjudged : is_granted frame (sides_of frame solvers actors) part (judging scheme w k) ≡ false
          → is_cut_off frame (sides_of frame solvers actors) part (judging scheme w k) ≡ true
          → Goes_to (rests (ends_with cut (actors part).side) (actors part).held)
      next_unjudged granted off = rw (going, at, going, at, granted, off, at) refl

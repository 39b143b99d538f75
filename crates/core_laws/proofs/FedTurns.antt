-- A post in a turn is mirrored by two entries: the one step of the solve, then the post. So each event at the core is mirrored.
use Rattle.std.proofs.Common.{◌≡◌, ℕ, ◌<◌, false, ◌&&◌, List, [], ◌∷◌, ◌++◌, filter_map, Option, Some, refl, sym, ap, subst, ◌∙◌}
use Rattle.coupled_loop.specs.Numbered.{put}
use Rattle.std.proofs.lemmas.Bool.{and_parts}
use Rattle.std.proofs.lemmas.Option.{none-some, same_Some}
use Rattle.cpl_plan.specs.declared.words.Item.TheVariants.{Completed, Posted}
use Rattle.coupled_loop.specs.Given.{Gift, Look, gives}
use Rattle.coupled_loop.specs.Frames.{Frame}
use Rattle.coupled_loop.specs.CoreState.{Place, sending, collecting, opening, taking, within, judging, Side, CoreState, has_ended, look_in, turn_at}
use Rattle.coupled_loop.specs.CoreStep.{Act, sends_meshes, takes_meshes, posts, takes, judges, stops, lacks_memory, ends, is_cut, Reply, posted, made_at, after_post, is_granted, goes_on_at}
use Rattle.coupled_loop.specs.LegalHistory.{Told}
use Rattle.coupled_loop.specs.Settled.{Extends}
use Rattle.coupled_loop.specs.Solving.{notes}
use Rattle.coupled_loop.specs.FedLoop.{fed, fed_step}
use Rattle.coupled_loop.specs.Schedules.{resting, ready, go, asks, steps, wish_within, sides_of, wish_at, becomes, stepped, next}
use Rattle.core_laws.proofs.Well.{IsWell}
use Rattle.core_laws.proofs.Puts.{put_same, put_twice}
use Rattle.core_laws.proofs.StepKinds.{if_from}
use Rattle.core_laws.proofs.Stops.{end_of}
use Rattle.core_laws.proofs.Shadows.{does_next, asks_next}
use Rattle.core_laws.proofs.Tracks.{IsTracked, post_like, post_leaves}
use Rattle.core_laws.proofs.FedPosts.{turn_post, first_post}
use Rattle.core_laws.proofs.FedSteps.{FedActor, step_at, IsMirrored, un_own, place_own, told_there, end_mirrored, sends_mirrored, meshes_mirrored, first_mirrored, taken_mirrored, judged_mirrored}

module _ {Mesh Post Inputs Fault : Type 0} (frame : Frame Post Inputs Fault) (look : Look Post) (sides : CoreState Mesh Post Fault)
    (actors : ℕ → FedActor Post Inputs Fault) (all : (other : ℕ) → IsTracked (sides other) (actors other)) (part : ℕ) (inside : part < frame.parts)
    (un : has_ended (sides part) ≡ false) where
  abbrev Mirrored : Reply Mesh Inputs Fault × Side Mesh Post Fault → Type 0
  Mirrored = IsMirrored frame look sides actors all part inside un

  -- after the step of the solve
  abbrev stepping : Post → FedActor Post Inputs Fault
  stepping post = becomes frame (fed look) (actors part).side (notes [] (actors part).held, ready post)

  abbrev posting : (w k : ℕ) → Post → FedActor Post Inputs Fault
  posting w k post = becomes frame (fed look) (after_post (frame.group part) w k post (actors part).side) (notes [] (actors part).held, resting)

  step_goes : (w k : ℕ) (post : Post) → (sides part).place ≡ within w k → look part (Posted w k) ≡ Some (record { item = Posted w k; iteration = k; post = post })
      → next frame (fed look) actors part ≡ Some (stepping post)
  step_goes w k post at is =
      let wished = ap (wish_at frame (fed look) actors part) (place_own frame look sides actors all part inside un (within w k) at)
      ∙ ap wish_within ((all part).stage w k at un) in
      let after : Option (Gift Post) → Option (FedActor Post Inputs Fault) = λ o. Some (becomes frame (fed look) (actors part).side
      (stepped frame (fed look) part (turn_at (actors part).side.place).0 (turn_at (actors part).side.place).1 0 (fed_step o) (notes [] (actors part).held))) in
      does_next frame (fed look) actors part (steps (w, k) 0) (un_own frame look sides actors all part inside un) wished ∙ ap after is

  post_goes : (w k : ℕ) (post : Post) → (sides part).place ≡ within w k
      → next frame (fed look) (put actors part (stepping post)) part ≡ Some (posting w k post)
  post_goes w k post at =
      let now = put actors part (stepping post) in
      let same : now part ≡ stepping post = put_same actors part (stepping post) in
      let un_now = ap (λ (a : FedActor Post Inputs Fault). has_ended a.side) same ∙ un_own frame look sides actors all part inside un in
      let at_now = ap (λ (a : FedActor Post Inputs Fault). a.side.place) same ∙ place_own frame look sides actors all part inside un (within w k) at in
      let wished = ap (wish_at frame (fed look) now part) at_now ∙ ap (λ (a : FedActor Post Inputs Fault). wish_within {Mesh = Unit {0}} a.stage) same in
      let made : Reply (Unit {0}) Inputs Fault × Side (Unit {0}) Post Fault = (posted, after_post (frame.group part) w k post (actors part).side) in
      let is_made = step_at frame (sides_of frame (fed look) now) part (within w k) (posts post) made un_now at_now
      (ap (λ (a : FedActor Post Inputs Fault). let after : Reply (Unit {0}) Inputs Fault × Side (Unit {0}) Post Fault = (posted, after_post (frame.group part) w k post a.side) in Some after) same) in
      does_next frame (fed look) now part (asks (posts post)) un_now wished
      ∙ (asks_next frame (fed look) now part (posts post) made is_made
      ∙ ap (λ (a : FedActor Post Inputs Fault). Some (becomes frame (fed look) (after_post (frame.group part) w k post (actors part).side) (a.held, resting))) same)

  post_mirrored : (w k : ℕ) (post : Post) → (sides part).place ≡ within w k → look part (Posted w k) ≡ Some (record { item = Posted w k; iteration = k; post = post })
      → Mirrored (posted, after_post (frame.group part) w k post (sides part))
  post_mirrored w k post at is = record {
    list = go part ∷ go part ∷ [];
    actor = posting w k post;
    leads = (stepping post, inside, step_goes w k post at is, (posting w k post, inside, post_goes w k post at, put_twice actors part (stepping post) (posting w k post)));
    tracked = record {
      like = post_like (sides part) (actors part).side (all part).like (frame.group part) w k post;
      stage = λ v j e unended. absurd (post_leaves (sides part) (frame.group part) w k v j post e);
    };
    notes = ap (λ (l : List (Told Inputs Fault)). (actors part).held.notes ++ l) (told_there frame look sides actors all part inside un (within w k) posted at);
  }

  by_made : (before made : Reply Mesh Inputs Fault × Side Mesh Post Fault) → Some before ≡ Some made → Extends (look_in (put sides part made.1)) look
      → (Extends (look_in (put sides part before.1)) look → Mirrored before) → Mirrored made
  by_made before made e extends mirrored =
      let same = same_Some before made e in
      subst Mirrored same (mirrored (subst (λ (m : Reply Mesh Inputs Fault × Side Mesh Post Fault). Extends (look_in (put sides part m.1)) look) (sym same) extends))

  -- each event is mirrored
  made_mirrored : (place : Place) → (sides part).place ≡ place → (act : Act Mesh Post Fault) (made : Reply Mesh Inputs Fault × Side Mesh Post Fault)
      → made_at frame sides part place act ≡ Some made → IsWell frame sides → Extends (look_in (put sides part made.1)) look → Mirrored made
  made_mirrored sending at (sends_meshes own) made e well extends = by_made _ made e extends (λ _. sends_mirrored frame look sides actors all part inside un own at)
  made_mirrored collecting at takes_meshes made e well extends =
      let granted = if_from (is_granted frame sides part collecting) _ made e in
      by_made _ made granted.1 extends (λ _. meshes_mirrored frame look sides actors all part inside un (filter_map (λ owner. (sides owner).sent) (frame.owners part)) at granted.0)
  made_mirrored opening at (posts post) made e well extends =
      by_made (posted, record (sides part) { place = taking 1 1; given = gives (Completed 0) 0 post (sides part).given }) made e extends
      (λ on. first_mirrored frame look sides actors all part inside un post at
      (first_post frame sides look part post (record (sides part) { place = taking 1 1; given = gives (Completed 0) 0 post (sides part).given }) well at refl on))
  made_mirrored (taking w k) at takes made e well extends =
      let granted = if_from (goes_on_at frame sides part (taking w k) && is_granted frame sides part (taking w k)) _ made e in
      let parts = and_parts (goes_on_at frame sides part (taking w k)) (is_granted frame sides part (taking w k)) granted.0 in
      by_made _ made granted.1 extends (λ _. taken_mirrored frame look sides actors all part inside un w k at parts.0 parts.1)
  made_mirrored (within w k) at (posts post) made e well extends =
      by_made (posted, after_post (frame.group part) w k post (sides part)) made e extends
      (λ on. post_mirrored w k post at (turn_post frame sides look part w k post well at on))
  made_mirrored (judging scheme w k) at judges made e well extends =
      let granted = if_from (is_granted frame sides part (judging scheme w k)) _ made e in
      by_made _ made granted.1 extends (λ _. judged_mirrored frame look sides actors all part inside un scheme w k at granted.0)
  made_mirrored place at (stops fault) made e well extends = end_mirrored frame look sides actors all part inside un (stops fault) made (end_of frame sides part place (stops fault) made tt e)
  made_mirrored place at lacks_memory made e well extends = end_mirrored frame look sides actors all part inside un lacks_memory made (end_of frame sides part place lacks_memory made tt e)
  made_mirrored place at ends made e well extends = end_mirrored frame look sides actors all part inside un ends made (end_of frame sides part place ends made tt e)
  made_mirrored place at is_cut made e well extends = end_mirrored frame look sides actors all part inside un is_cut made (end_of frame sides part place is_cut made tt e)
  made_mirrored place at act made e well extends = absurd (none-some made e)

  pub event_mirrored : (act : Act Mesh Post Fault) (made : Reply Mesh Inputs Fault × Side Mesh Post Fault) → made_at frame sides part (sides part).place act ≡ Some made
      → IsWell frame sides → Extends (look_in (put sides part made.1)) look → Mirrored made
  event_mirrored act made e well extends = made_mirrored (sides part).place refl act made e well extends

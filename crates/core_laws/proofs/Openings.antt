-- The opening: all send their meshes, take those of others, and post their initial data.
use Rattle.std.proofs.Common.{◌≡◌, ℕ, ◌<◌, ◌≤◌, inl, inr, Bool, true, List, [], ◌∷◌, ◌++◌, map, filter_map, Option, Some, None, is_some, refl, sym, ap, subst, ◌∙◌, arith, Contains, Result, Ok, Err}
use Rattle.std.specs.List.{list_all}
use Rattle.std.proofs.Math.Path.{fun_ext}
use Rattle.std.proofs.lemmas.Bool.{lt-ltb, le-ltb, cases_lt}
use Rattle.std.proofs.lemmas.List.Folds.{list_all-map}
use Rattle.plan_order.proofs.Loops.{head_in, tail_in}
use Rattle.cpl_plan.specs.declared.words.Item.TheVariants.{Completed}
use Rattle.coupled_loop.specs.Given.{gives}
use Rattle.coupled_loop.specs.Frames.{Frame}
use Rattle.coupled_loop.specs.CoreState.{collecting, opening, taking}
use Rattle.coupled_loop.specs.CoreStep.{ends_with, is_granted}
use Rattle.coupled_loop.specs.Solving.{Solvers, ending_of}
use Rattle.coupled_loop.specs.CoupledLoop.{opening_held, first_posted, opened}
use Rattle.coupled_loop.specs.Schedules.{Actor, Actors, sides_of, opening_actors, next}
use Rattle.coupled_loop.specs.Settled.{IsSettled}
use Rattle.core_laws.proofs.Sound.{IsSound}
use Rattle.core_laws.proofs.SystemNets.{opening_are_well}
use Rattle.core_laws.proofs.Nets.{goes_joined}
use Rattle.core_laws.proofs.NextSteps.{rests, next_sends, next_collects, next_opens, next_opens_not}
use Rattle.core_laws.proofs.Views.{IsAt, IsWellNow, GoesTo, view_of, view, view_is, goes_stay_well}
use Rattle.core_laws.proofs.Rows.{EachIs, each_goes}
use Rattle.core_laws.proofs.LoopEnds.{numbers_below, is_below, below_in, below_distinct, AllStand}

-- where each passes, all do
pub each_passes : {X : Type 0} (test : X → Bool) (xs : List X) → ((x : X) → Contains xs x → test x ≡ true) → list_all test xs ≡ true
each_passes test [] each = refl
each_passes test (x ∷ xs) each =
    let first = each x (head_in x xs) in let rest = each_passes test xs (λ y inside. each y (tail_in x xs y inside)) in rw (first, rest) refl

pub all_some : {X Y : Type 0} (maybe : X → Option Y) (is : X → Y) (xs : List X) → ((x : X) → Contains xs x → maybe x ≡ Some (is x)) → filter_map maybe xs ≡ map is xs
all_some maybe is [] each = refl
all_some maybe is (x ∷ xs) each =
    let first = each x (head_in x xs) in let rest = all_some maybe is xs (λ y inside. each y (tail_in x xs y inside)) in rw first (ap (λ ys. is x ∷ ys) rest)

module _ {Mesh Post Inputs Fault State Run Note : Type 0} (frame : Frame Post Inputs Fault) (solvers : Solvers Mesh Post Inputs Fault State Run Note)
    (sound : IsSound frame) (settled : IsSettled frame) where
  -- all take a step that each can take
  all_go : (actors : Actors Mesh Post Fault State Run Note) (become : ℕ → Actor Mesh Post Fault State Run Note) → IsWellNow frame solvers actors
      → ((part : ℕ) → part < frame.parts → next frame solvers actors part ≡ Some (become part)) → EachIs frame solvers actors (numbers_below frame.parts) become
  all_go actors become well can =
      each_goes frame solvers sound settled become (numbers_below frame.parts) actors (below_distinct frame.parts) well
      (λ part inside. is_below frame.parts part inside) (λ part inside. inl (can part (is_below frame.parts part inside)))

  abbrev has_sent : ℕ → Actor Mesh Post Fault State Run Note
  has_sent part = rests (record { place = collecting; ending = None; sent = Some (solvers.meshes part); given = [] })
      (record { received = []; state = solvers.start part; kept = solvers.start part; notes = [] })

  all_send : EachIs frame solvers (opening_actors frame solvers) (numbers_below frame.parts) has_sent
  all_send = all_go (opening_actors frame solvers) has_sent (opening_are_well frame solvers sound settled)
      (λ part is_part. next_sends frame solvers (opening_actors frame solvers) part refl refl)

  sent_one : (part : ℕ) → part < frame.parts → all_send.to part ≡ has_sent part
  sent_one part is_part = all_send.inside part (below_in frame.parts part is_part)

  sent_well : IsWellNow frame solvers all_send.to
  sent_well = goes_stay_well frame solvers sound settled all_send.list (opening_actors frame solvers) all_send.to (opening_are_well frame solvers sound settled) all_send.goes

  abbrev has_collected : ℕ → Actor Mesh Post Fault State Run Note
  has_collected part = rests (record { place = opening; ending = None; sent = Some (solvers.meshes part); given = [] }) (opening_held frame solvers part)

  can_collect : (part : ℕ) → part < frame.parts → next frame solvers all_send.to part ≡ Some (has_collected part)
  can_collect part is_part =
      subst (λ (received : List Mesh). next frame solvers all_send.to part
      ≡ Some (rests (record { place = opening; ending = None; sent = Some (solvers.meshes part); given = [] })
      (record { received = received; state = solvers.start part; kept = solvers.start part; notes = [] })))
      (all_some (λ owner. (all_send.to owner).side.sent) solvers.meshes (frame.owners part) each_sent)
      (subst (λ (a : Actor Mesh Post Fault State Run Note). next frame solvers all_send.to part
      ≡ Some (rests (record a.side { place = opening }) (record a.held { received = filter_map (λ owner. (all_send.to owner).side.sent) (frame.owners part) })))
      (sent_one part is_part)
      (next_collects frame solvers all_send.to part (ap (λ (a : Actor Mesh Post Fault State Run Note). a.side.ending) (sent_one part is_part))
      (ap (λ (a : Actor Mesh Post Fault State Run Note). a.side.place) (sent_one part is_part)) granted))
    where
      each_sent : (owner : ℕ) → Contains (frame.owners part) owner → (all_send.to owner).side.sent ≡ Some (solvers.meshes owner)
      each_sent owner inside = ap (λ (a : Actor Mesh Post Fault State Run Note). a.side.sent) (sent_one owner (sound.owners part owner is_part inside))

      granted : is_granted frame (sides_of frame solvers all_send.to) part collecting ≡ true
      granted = list_all-map (λ (asked : ℕ × Bool). asked.1) (λ owner. (owner, is_some (all_send.to owner).side.sent)) (frame.owners part)
          ∙ each_passes (λ owner. is_some (all_send.to owner).side.sent) (frame.owners part) (λ owner inside. ap is_some (each_sent owner inside))

  all_collect : EachIs frame solvers all_send.to (numbers_below frame.parts) has_collected
  all_collect = all_go all_send.to has_collected sent_well can_collect

  collected_one : (part : ℕ) → part < frame.parts → all_collect.to part ≡ has_collected part
  collected_one part is_part = all_collect.inside part (below_in frame.parts part is_part)

  collected_well : IsWellNow frame solvers all_collect.to
  collected_well = goes_stay_well frame solvers sound settled all_collect.list all_send.to all_collect.to sent_well all_collect.goes

  -- by what its solver makes of the meshes
  abbrev opened_by : (part : ℕ) → Result Post (Option Fault) → Actor Mesh Post Fault State Run Note
  opened_by part (Ok post) =
      rests (record { place = taking 1 1; ending = None; sent = Some (solvers.meshes part); given = gives (Completed 0) 0 post [] }) (opening_held frame solvers part)
  opened_by part (Err why) =
      rests (record { place = opening; ending = Some (ending_of why); sent = Some (solvers.meshes part); given = [] }) (opening_held frame solvers part)

  abbrev first_of : ℕ → Result Post (Option Fault)
  first_of part = solvers.first part (opening_held frame solvers part).received (opening_held frame solvers part).state

  abbrev has_opened : ℕ → Actor Mesh Post Fault State Run Note
  has_opened part = opened_by part (first_of part)

  can_open : (part : ℕ) → part < frame.parts → next frame solvers all_collect.to part ≡ Some (has_opened part)
  can_open part is_part = by (first_of part) first_is where
    is : all_collect.to part ≡ has_collected part
    is = collected_one part is_part

    going : (all_collect.to part).side.ending ≡ None
    going = ap (λ (a : Actor Mesh Post Fault State Run Note). a.side.ending) is

    at : (all_collect.to part).side.place ≡ opening
    at = ap (λ (a : Actor Mesh Post Fault State Run Note). a.side.place) is

    first_is : solvers.first part (all_collect.to part).held.received (all_collect.to part).held.state ≡ first_of part
    first_is = ap (λ (a : Actor Mesh Post Fault State Run Note). solvers.first part a.held.received a.held.state) is

    by : (result : Result Post (Option Fault)) → solvers.first part (all_collect.to part).held.received (all_collect.to part).held.state ≡ result
        → next frame solvers all_collect.to part ≡ Some (opened_by part result)
    by (Ok post) first = subst (λ (a : Actor Mesh Post Fault State Run Note). next frame solvers all_collect.to part
        ≡ Some (rests (record a.side { place = taking 1 1; given = gives (Completed 0) 0 post a.side.given }) a.held)) is
        (next_opens frame solvers all_collect.to part going post at first)
    by (Err why) first = subst (λ (a : Actor Mesh Post Fault State Run Note). next frame solvers all_collect.to part
        ≡ Some (rests (ends_with (ending_of why) a.side) a.held)) is
        (next_opens_not frame solvers all_collect.to part going why at first)

  all_open : EachIs frame solvers all_collect.to (numbers_below frame.parts) has_opened
  all_open = all_go all_collect.to has_opened collected_well can_open

  opened_one : (part : ℕ) → part < frame.parts → all_open.to part ≡ has_opened part
  opened_one part is_part = all_open.inside part (below_in frame.parts part is_part)

  -- who has no number of a participant does nothing
  beyond : (part : ℕ) → frame.parts ≤ part → all_open.to part ≡ opening_actors frame solvers part
  beyond part past = all_open.apart part none ∙ (all_collect.apart part none ∙ all_send.apart part none) where
    none : ¬ Contains (numbers_below frame.parts) part
    none inside = let less = is_below frame.parts part inside in omega arith

  -- how the opening ends
  pub record HasOpened : Type 0 where
    pub list : List ℕ
    pub to : Actors Mesh Post Fault State Run Note
    pub goes : GoesTo frame solvers (opening_actors frame solvers) list to
    pub seen : view frame solvers to ≡ opened frame solvers
    pub stand : AllStand frame solvers to 1

  seen_by : (part : ℕ) (result : Result Post (Option Fault)) → part < frame.parts
      → view_of frame solvers part (opened_by part result) ≡ first_posted frame solvers (opening_held frame solvers part) result
  seen_by part (Ok post) is_part = view_is frame solvers part (opened_by part (Ok post)) is_part
  seen_by part (Err why) is_part = view_is frame solvers part (opened_by part (Err why)) is_part

  at_first : (part : ℕ) (result : Result Post (Option Fault)) → IsAt (taking 1 1) 1 1 (opened_by part result)
  at_first part (Ok post) = record { stands = λ going. (refl, refl); posted = λ ending ended. cc }
  at_first part (Err why) = record { stands = λ going. cc; posted = λ ending ended w k posted. cc }

  opened_seen : view frame solvers all_open.to ≡ opened frame solvers
  opened_seen = fun_ext (λ part. elim (cases_lt part frame.parts) [
    | inl is_part ↦ below part is_part
    | inr past ↦ above part past
  ]) where
    below : (part : ℕ) → part < frame.parts → view frame solvers all_open.to part ≡ opened frame solvers part
    below part is_part =
        ap (view_of frame solvers part) (opened_one part is_part) ∙ (seen_by part (first_of part) is_part ∙ rw (lt-ltb part frame.parts is_part) refl)

    above : (part : ℕ) → frame.parts ≤ part → view frame solvers all_open.to part ≡ opened frame solvers part
    above part past = ap (view_of frame solvers part) (beyond part past) ∙ rw (le-ltb part frame.parts past) refl

  pub all_opened : HasOpened
  all_opened = record {
    list = all_send.list ++ (all_collect.list ++ all_open.list);
    to = all_open.to;
    goes = goes_joined frame.parts (next frame solvers) all_send.list (opening_actors frame solvers) all_send.to all_open.to (all_collect.list ++ all_open.list) all_send.goes
        (goes_joined frame.parts (next frame solvers) all_collect.list all_send.to all_collect.to all_open.to all_open.list all_collect.goes all_open.goes);
    seen = opened_seen;
    stand = record {
      well = goes_stay_well frame solvers sound settled all_open.list all_collect.to all_open.to collected_well all_open.goes;
      at = λ part is_part. subst (IsAt (taking 1 1) 1 1) (sym (opened_one part is_part)) (at_first part (first_of part));
    };
  }

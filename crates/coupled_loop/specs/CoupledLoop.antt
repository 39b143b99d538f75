-- A coupled simulation as one plain loop: windows, in each the nodes in order, of a scheme the iterations, in each the members in order. After the coupling documentation's serial, parallel and multi-coupling schemes; the rules on faults and on what must be given are the project's own.
use Rattle.std.specs.Prelude.{ℕ, zero, suc, ◌+◌, nat_lt, Bool, true, false, if◌then◌else◌, List, [], ◌∷◌, map, fold, Option, Some, None, is_some, Result, Ok, Err}
use Rattle.coupled_loop.specs.Numbered.{put}
use Rattle.std.specs.List.{list_all}
use Rattle.std.specs.Option.{option_map_or}
use Rattle.plan_order.specs.declared.node.Node.{Node}
use Rattle.plan_order.specs.declared.node.Node.TheVariants.{Single, Group}
use Rattle.cpl_plan.specs.declared.words.Item.TheVariants.{Completed, Posted}
use Rattle.coupled_loop.specs.Given.{Gift, Look, found, has_given, gives, accepts}
use Rattle.coupled_loop.specs.Endings.{Ending, done, faulted, cut, Judgement, again, converged, at_limit, refused}
use Rattle.coupled_loop.specs.Frames.{Frame}
use Rattle.coupled_loop.specs.Solving.{Solvers, Held, Solved, ending_of, hears_judgement, solves}

-- one participant: what it holds, what it has given with the oldest first, and its ending where it has stopped
pub record Part (Mesh Post Fault State Note : Type 0) : Type 0 where
  pub held : Held Mesh State Note
  pub given : List (Gift Post)
  pub stopped : Option (Ending Fault)

-- all of them, by their numbers
abbrev pub Parts : Type 0 → Type 0 → Type 0 → Type 0 → Type 0 → Type 0
Parts Mesh Post Fault State Note = ℕ → Part Mesh Post Fault State Note

module _ {Mesh Post Fault State Note : Type 0} where
  abbrev pub look_at : Parts Mesh Post Fault State Note → Look Post
  look_at parts part item = found (parts part).given item

  -- who has stopped stays as it is
  abbrev pub stops_with : Ending Fault → Part Mesh Post Fault State Note → Part Mesh Post Fault State Note
  stops_with ending part = if is_some part.stopped then part else record part { stopped = Some ending }

  abbrev pub completes_window : (w k : ℕ) → Part Mesh Post Fault State Note → Part Mesh Post Fault State Note
  completes_window w k part = record part { given = accepts w k part.given }

  -- how a participant ends in the loop
  abbrev pub ending_in : Part Mesh Post Fault State Note → Ending Fault
  ending_in part = option_map_or (λ ending. ending) part.stopped done

  -- the same is done by each of these, one after another
  abbrev pub each_does : (ℕ → Part Mesh Post Fault State Note → Part Mesh Post Fault State Note) → List ℕ → Parts Mesh Post Fault State Note → Parts Mesh Post Fault State Note
  each_does does members parts = fold (λ before member. put before member (does member (before member))) parts members

module _ {Mesh Post Inputs Fault State Run Note : Type 0} (frame : Frame Post Inputs Fault) (solvers : Solvers Mesh Post Inputs Fault State Run Note) where
  -- what a participant holds at first
  abbrev pub opening_held : (part : ℕ) → Held Mesh State Note
  opening_held part = record { received = map solvers.meshes (frame.owners part); state = solvers.start part; kept = solvers.start part; notes = [] }

  abbrev pub first_posted : Held Mesh State Note → Result Post (Option Fault) → Part Mesh Post Fault State Note
  first_posted held (Ok post) = record { held = held; given = gives (Completed 0) 0 post []; stopped = None }
  first_posted held (Err why) = record { held = held; given = []; stopped = Some (ending_of why) }

  -- a participant once it has received meshes and posted its initial data; what has no number of a participant has given nothing
  abbrev pub opened : (part : ℕ) → Part Mesh Post Fault State Note
  opened part =
      if nat_lt part frame.parts then first_posted (opening_held part) (solvers.first part (opening_held part).received (opening_held part).state)
      else record { held = opening_held part; given = []; stopped = None }

  -- what a participant needs for window w and iteration k is given
  abbrev pub is_provided : Parts Mesh Post Fault State Note → (part w k : ℕ) → Bool
  is_provided parts part w k = list_all (λ need. has_given (look_at parts) need.owner need.item) (frame.needs part w k)

  -- a participant after a solve: it has posted, or has stopped
  abbrev pub solved : (w k : ℕ) → List (Gift Post) → Solved Mesh State Note Post Fault → Part Mesh Post Fault State Note
  solved w k given (held, Ok post) = record { held = held; given = gives (Posted w k) k post given; stopped = None }
  solved w k given (held, Err why) = record { held = held; given = given; stopped = Some (ending_of why) }

  -- the turn of a participant in window w and iteration k: it solves, unless it has stopped; it stops where something that it needs is not given
  abbrev pub turn : (w k : ℕ) → Parts Mesh Post Fault State Note → (part : ℕ) → Parts Mesh Post Fault State Note
  turn w k parts part =
      if is_some (parts part).stopped then parts else
      put parts part
      (if is_provided parts part w k then
      solved w k (parts part).given (solves solvers part w k (frame.inputs (look_at parts) part w k) (parts part).held)
      else stops_with cut (parts part))

  abbrev pub turns : (w k : ℕ) → List ℕ → Parts Mesh Post Fault State Note → Parts Mesh Post Fault State Note
  turns w k members parts = fold (turn w k) parts members

  abbrev pub have_posted : Parts Mesh Post Fault State Note → List ℕ → (w k : ℕ) → Bool
  have_posted parts members w k = list_all (λ member. has_given (look_at parts) member (Posted w k)) members

  -- all members are told the judgement
  abbrev pub hear : List ℕ → (w k : ℕ) → Judgement Fault → Parts Mesh Post Fault State Note → Parts Mesh Post Fault State Note
  hear members w k judgement parts =
      each_does (λ member part. record part { held = hears_judgement solvers member w k judgement part.held }) members parts

  -- what follows a judgement of iteration k, where further iterations may follow
  abbrev pub after_judging : (Parts Mesh Post Fault State Note → Parts Mesh Post Fault State Note) → List ℕ → (w k : ℕ) → Judgement Fault → Parts Mesh Post Fault State Note → Parts Mesh Post Fault State Note
  after_judging more members w k again parts = more parts
  after_judging more members w k converged parts = each_does (λ member. completes_window w k) members parts
  after_judging more members w k at_limit parts = each_does (λ member. completes_window w k) members parts
  after_judging more members w k (refused fault) parts = each_does (λ member. stops_with (faulted fault)) members parts

  -- what follows the turns of all members, by whether all have posted: the iteration is judged, or every other one stops too
  abbrev pub after_turns : (Parts Mesh Post Fault State Note → Parts Mesh Post Fault State Note) → (scheme w k : ℕ) → Parts Mesh Post Fault State Note → Bool → Parts Mesh Post Fault State Note
  after_turns more scheme w k parts true =
      let judgement = frame.judge (look_at parts) scheme w k in
      after_judging more (frame.members scheme) w k judgement (hear (frame.members scheme) w k judgement parts)
  after_turns more scheme w k parts false = each_does (λ member. stops_with cut) (frame.members scheme) parts

  -- iteration k of a scheme's window and those after it, no more than so many
  abbrev pub iterate : (scheme w k iterations : ℕ) → Parts Mesh Post Fault State Note → Parts Mesh Post Fault State Note
  iterate scheme w k zero parts = parts
  iterate scheme w k (suc iterations) parts =
      let after = turns w k (frame.members scheme) parts in
      after_turns (iterate scheme w (k + 1) iterations) scheme w k after (have_posted after (frame.members scheme) w k)

  -- a node of window w
  abbrev pub node_does : (w : ℕ) → Parts Mesh Post Fault State Note → Node → Parts Mesh Post Fault State Note
  node_does w parts (Single part) = each_does (λ single. completes_window w 1) (part ∷ []) (turn w 1 parts part)
  node_does w parts (Group scheme) = iterate scheme w 1 (frame.most_iterations scheme) parts

  abbrev pub go_on_if : Bool → (Parts Mesh Post Fault State Note → Parts Mesh Post Fault State Note) → Parts Mesh Post Fault State Note → Parts Mesh Post Fault State Note
  go_on_if true more parts = more parts
  go_on_if false more parts = parts

  -- the windows from w on, no more than so many, as long as there are any
  abbrev pub go_through : (w windows : ℕ) → Parts Mesh Post Fault State Note → Parts Mesh Post Fault State Note
  go_through w zero parts = parts
  go_through w (suc windows) parts =
      go_on_if (frame.is_there (look_at parts) w) (λ before. go_through (w + 1) windows (fold (node_does w) before frame.nodes)) parts

  -- the whole loop
  abbrev pub coupled : Parts Mesh Post Fault State Note
  coupled = go_through 1 frame.most_windows opened

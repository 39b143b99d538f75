-- One event of a participant: where it is enabled, what it is answered, and where the participant then stands. After the coupling documentation's usual loop; the table of events is the project's own.
use Rattle.std.specs.Prelude.{ℕ, ◌+◌, Bool, false, not, ◌&&◌, if◌then◌else◌, List, [], map, filter_map, find, Option, Some, None, is_some, option_map}
use Rattle.std.specs.List.{list_all, list_any}
use Rattle.cpl_plan.specs.declared.words.Item.TheVariants.{Completed, Posted}
use Rattle.coupled_loop.specs.Given.{has_given, gives, accepts}
use Rattle.coupled_loop.specs.Endings.{Ending, done, early, faulted, no_memory, cut, Judgement, again, converged, at_limit, refused}
use Rattle.coupled_loop.specs.Frames.{Frame}
use Rattle.coupled_loop.specs.CoreState.{Place, sending, collecting, opening, taking, within, judging, Side, CoreState, has_ended, look_in}

-- what a participant asks of the core
pub data Act (Mesh Post Fault : Type 0) : Type 0 where
  sends_meshes : Mesh → Act Mesh Post Fault
  takes_meshes : Act Mesh Post Fault
  posts : Post → Act Mesh Post Fault
  takes : Act Mesh Post Fault
  judges : Act Mesh Post Fault
  -- it stops for a fault, or for want of memory
  stops : Fault → Act Mesh Post Fault
  lacks_memory : Act Mesh Post Fault
  ends : Act Mesh Post Fault
  -- it is cut, in place of what it would take or judge
  is_cut : Act Mesh Post Fault

-- what it is answered
pub data Reply (Mesh Inputs Fault : Type 0) : Type 0 where
  posted : Reply Mesh Inputs Fault
  meshes : List Mesh → Reply Mesh Inputs Fault
  taken : Inputs → Reply Mesh Inputs Fault
  judged : Judgement Fault → Reply Mesh Inputs Fault
  cut_off : Reply Mesh Inputs Fault
  over : Reply Mesh Inputs Fault

module _ {Mesh Post Fault : Type 0} where
  -- who completes window w with iteration k goes on to the next window
  abbrev pub completes : (w k : ℕ) → Side Mesh Post Fault → Side Mesh Post Fault
  completes w k side = record side { place = taking (w + 1) 1; given = accepts w k side.given }

  -- a post of a single participant is accepted at once, that of a scheme's member is judged first
  abbrev pub after_post : Option ℕ → (w k : ℕ) → Post → Side Mesh Post Fault → Side Mesh Post Fault
  after_post None w k post side = completes w k (record side { given = gives (Posted w k) k post side.given })
  after_post (Some scheme) w k post side =
      record side { place = judging scheme w k; given = gives (Posted w k) k post side.given }

  abbrev pub ends_with : Ending Fault → Side Mesh Post Fault → Side Mesh Post Fault
  ends_with ending side = record side { ending = Some ending }

  abbrev pub after_judgement : Judgement Fault → (w k : ℕ) → Side Mesh Post Fault → Side Mesh Post Fault
  after_judgement again w k side = record side { place = taking w (k + 1) }
  after_judgement converged w k side = completes w k side
  after_judgement at_limit w k side = completes w k side
  after_judgement (refused fault) w k side = ends_with (faulted fault) side

module _ {Mesh Post Inputs Fault : Type 0} (frame : Frame Post Inputs Fault) (sides : CoreState Mesh Post Fault) (part : ℕ) where
  -- there are windows yet from this place on
  abbrev pub goes_on_at : Place → Bool
  goes_on_at (taking w k) = frame.is_there (look_in sides) w
  goes_on_at _ = false

  -- what must be given before the event at a place: by whom, and whether it has given it
  abbrev pub asked_at : Place → List (ℕ × Bool)
  asked_at collecting = map (λ owner. (owner, is_some (sides owner).sent)) (frame.owners part)
  asked_at (taking w k) =
      if frame.is_there (look_in sides) w then
      map (λ need. (need.owner, has_given (look_in sides) need.owner need.item)) (frame.needs part w k)
      else []
  asked_at (judging scheme w k) =
      map (λ member. (member, has_given (look_in sides) member (Posted w k))) (frame.members scheme)
  asked_at _ = []

  -- all is given
  abbrev pub is_granted : Place → Bool
  is_granted place = list_all (λ asked. asked.1) (asked_at place)

  -- somebody has ended before giving it
  abbrev pub is_cut_off : Place → Bool
  is_cut_off place = list_any (λ asked. not asked.1 && has_ended (sides asked.0)) (asked_at place)

  -- an End after the last window is done, any other early
  abbrev pub ending_at : Place → Ending Fault
  ending_at (taking w k) = if frame.is_there (look_in sides) w then early else done
  ending_at _ = early

  -- a judgement as a reply, and the participant after it
  abbrev pub judged_as : Judgement Fault → (w k : ℕ) → Reply Mesh Inputs Fault × Side Mesh Post Fault
  judged_as judgement w k = (judged judgement, after_judgement judgement w k (sides part))

  -- the event at a place; none where it is not the next one there, or has to wait
  abbrev pub made_at : Place → Act Mesh Post Fault → Option (Reply Mesh Inputs Fault × Side Mesh Post Fault)
  made_at sending (sends_meshes own) = Some (posted, record (sides part) { place = collecting; sent = Some own })
  made_at collecting takes_meshes =
      if is_granted collecting then
      Some (meshes (filter_map (λ owner. (sides owner).sent) (frame.owners part)), record (sides part) { place = opening })
      else None
  made_at opening (posts post) =
      Some (posted, record (sides part) { place = taking 1 1; given = gives (Completed 0) 0 post (sides part).given })
  made_at (taking w k) takes =
      if goes_on_at (taking w k) && is_granted (taking w k) then
      Some (taken (frame.inputs (look_in sides) part w k), record (sides part) { place = within w k })
      else None
  made_at (within w k) (posts post) = Some (posted, after_post (frame.group part) w k post (sides part))
  made_at (judging scheme w k) judges =
      if is_granted (judging scheme w k) then Some (judged_as (frame.judge (look_in sides) scheme w k) w k) else None
  made_at place (stops fault) = Some (over, ends_with (faulted fault) (sides part))
  made_at place lacks_memory = Some (over, ends_with no_memory (sides part))
  made_at place ends = Some (over, ends_with (ending_at place) (sides part))
  made_at place is_cut = if is_cut_off place then Some (cut_off, ends_with cut (sides part)) else None
  made_at _ _ = None

  -- one event: its reply, and the participant after it
  abbrev pub core_step : Act Mesh Post Fault → Option (Reply Mesh Inputs Fault × Side Mesh Post Fault)
  core_step act = if has_ended (sides part) then None else made_at (sides part).place act

  -- by whom a participant is cut, and for whom it waits: the first of those that are asked
  abbrev pub cut_by : Option ℕ
  cut_by = option_map (λ asked. asked.0) (find (λ asked. not asked.1 && has_ended (sides asked.0)) (asked_at (sides part).place))

  abbrev pub waits_for : Option ℕ
  waits_for = option_map (λ asked. asked.0) (find (λ asked. not asked.1) (asked_at (sides part).place))

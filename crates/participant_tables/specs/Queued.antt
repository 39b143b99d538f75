-- The events that wait to be made, first the next one, and the kind of the event that is out: handed out, and not yet answered or put back. The order of a participant's events is the coupling documentation's; what is out is the project's own.
use Rattle.std.specs.Prelude.{List, Option}
use Rattle.core_sides.specs.declared.event.Event.{Event}
use Rattle.core_sides.specs.declared.event.Event.TheVariants.{PostMesh, TakeMeshes, Post, Judge, Take, Stop, End}
use Rattle.participant_tables.specs.declared.queue.Out.{Out}
use Rattle.participant_tables.specs.declared.queue.Out.TheVariants.{PostMesh as OutMesh, TakeMeshes as OutMeshes, Post as OutPost, Judge as OutJudge, Take as OutTake, Stop as OutStop, End as OutEnd}

pub record Queued : Type 0 where
  pub waiting : List Event
  pub out : Option Out

-- of what kind an event is
abbrev pub kind_of : Event → Out
kind_of (PostMesh _) = OutMesh
kind_of TakeMeshes = OutMeshes
kind_of (Post _) = OutPost
kind_of Judge = OutJudge
kind_of Take = OutTake
kind_of (Stop _) = OutStop
kind_of End = OutEnd

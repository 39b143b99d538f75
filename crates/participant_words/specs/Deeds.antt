-- What a participant does, one deed after another: its calls that change something, the events that are handed out and put back, and the replies that are taken. After the coupling documentation's calls; events and replies are the project's own.
use Rattle.std.specs.Prelude.{ℕ, ℤ, List}
use Rattle.cpl_plan.specs.declared.words.StopWish.{StopWish}
use Rattle.core_sides.specs.declared.event.Event.{Event}
use Rattle.core_sides.specs.declared.event.Reply.{Reply}

pub data Deed : Type 0 where
  -- it sets vertices at these points of a mesh, by its place among those that it provides
  sets_vertices : (mesh : ℕ) → (points : List (List ℤ)) → Deed
  -- it writes a row at each of some vertices, of a write entry, by its place
  writes : (entry : ℕ) → (vertices : List ℕ) → (rows : List ℤ) → Deed
  -- it asks whether initial data are required, or whether a checkpoint is to be written, or read
  asks_initial : Deed
  asks_writing : Deed
  asks_reading : Deed
  initializes : Deed
  -- it accepts a step of so many ticks
  advances : (dt : ℕ) → Deed
  finalizes : Deed
  stops : (why : StopWish) → Deed
  -- the first event is handed out, or comes back
  hands_out : Deed
  puts_back : Event → Deed
  -- the event that is out is answered
  takes : Reply → Deed

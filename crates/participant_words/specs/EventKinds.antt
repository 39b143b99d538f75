-- Of what kind an event is. The events are the project's own.
use Rattle.core_sides.specs.declared.event.Event.{Event}
use Rattle.core_sides.specs.declared.event.Event.TheVariants.{PostMesh, TakeMeshes, Post, Judge, Take, Stop, End}
use Rattle.participant_words.specs.declared.phase.EventKind.{EventKind}
use Rattle.participant_words.specs.declared.phase.EventKind.TheVariants.{PostMesh as PostMeshKind, TakeMeshes as TakeMeshesKind, Post as PostKind, Judge as JudgeKind, Take as TakeKind, Stop as StopKind, End as EndKind}

abbrev pub kind_of : Event → EventKind
kind_of (PostMesh meshes) = PostMeshKind
kind_of TakeMeshes = TakeMeshesKind
kind_of (Post waves) = PostKind
kind_of Judge = JudgeKind
kind_of Take = TakeKind
kind_of (Stop cause) = StopKind
kind_of End = EndKind

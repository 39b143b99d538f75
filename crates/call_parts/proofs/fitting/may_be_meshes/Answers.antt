use Rattle.std.proofs.Common.{sym, subst}
use Rattle.participant_words.specs.Replies.{MayAnswer}
use Rattle.core_sides.specs.declared.event.Reply.TheVariants.{Meshes}
use Rattle.call_parts.proofs.fitting.may_be_meshes.Goals as goal

pub returns-in-TakeMeshes : goal.returns-in-TakeMeshes
returns-in-TakeMeshes c = λ yes course. subst (λ kind. MayAnswer c.args.plan.now c.args.part course kind (Meshes c.args.meshes.now)) (sym c.in-TakeMeshes.is) (c.are_meshes.ensures yes course)

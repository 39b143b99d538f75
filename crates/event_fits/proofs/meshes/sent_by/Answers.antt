use Rattle.std.proofs.Common.{sym, ap, ◌∙◌}
use Rattle.std.specs.Option.{option_copied}
use Rattle.core_sides.specs.CoreWords.{WaveSide}
use Rattle.event_fits.proofs.meshes.sent_by.Goals as goal

pub returns-in-Some : goal.returns-in-Some
returns-in-Some c = λ plan state are.
    c.as_ref.ensures.value ∙ (are.each c.args.owner c.in-Some.standing.now (sym c.standing_of.ensures ∙ ap option_copied c.in-Some.is)).sent

pub returns-in-None : goal.returns-in-None
returns-in-None c = λ plan state are. sym (ap (λ (side : WaveSide). side.sent) (are.others c.args.owner (sym c.standing_of.ensures ∙ ap option_copied c.in-None.is)))

use Rattle.std.proofs.Common.{◌≡◌, false, is_some, sym, ap, ◌∙◌}
use Rattle.std.specs.Option.{option_copied}
use Rattle.core_sides.specs.Answers.{act_of}
use Rattle.event_fits.proofs.Fitted.{fitted}
use Rattle.event_fits.proofs.events.fits.Goals as goal

pub returns-else-is_some : goal.returns-else-is_some
returns-else-is_some c = λ yes state are.
    let running : is_some c.in-Some.standing.now.ending ≡ false = cc in
    fitted c.args.plan.now c.args.sides.now c.args.p c.in-Some.standing.now (sym c.standing_of.ensures ∙ ap option_copied c.in-Some.is)
    c.requires.participant running (act_of c.args.event.now) state are (c.fits_at.ensures yes state are)

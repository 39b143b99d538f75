use Rattle.std.proofs.Common.{Option, sym, ap, ◌∙◌}
use Rattle.std.specs.Option.{option_copied, option_map_or}
use Rattle.wave_coupling.specs.Posts.{Wave, newest_sample}
use Rattle.event_fits.proofs.Samples.{newest_is}
use Rattle.event_fits.proofs.posts.newest_time.Goals as goal

pub returns-in-Some : goal.returns-in-Some
returns-in-Some c = c.last_time.ensures ∙ newest_is c.args.waves.now c.in-Some.wave.now (sym c.first.ensures.value ∙ ap option_copied c.in-Some.is)

pub returns-in-None : goal.returns-in-None
returns-in-None c =
    sym (ap (λ (o : Option Wave). option_map_or (λ wave. option_map_or (λ sample. sample.time) (newest_sample wave) 0) o 0) (sym c.first.ensures.value ∙ ap option_copied c.in-None.is))

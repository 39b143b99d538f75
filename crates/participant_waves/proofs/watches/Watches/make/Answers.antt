use Rattle.std.proofs.Common.{◌≡◌, ◌<◌, List, [], length, Option, Contains, refl, ap, sym, subst, ◌∙◌, arith}
use Rattle.std.specs.Option.{option_map_or}
use Rattle.std.proofs.lemmas.Option.{slice_get_read}
use Rattle.wave_laws.proofs.Stills.{slice_in}
use Rattle.cpl_plan.specs.declared.parts.Part.{Part}
use Rattle.cpl_plan.specs.declared.parts.Watch.{Watch}
use Rattle.participant_words.specs.WatchShown.{watches}
use Rattle.participant_waves.proofs.watches.Watches.make.Goals as goal

pub followed_by-requires-clause-watch : goal.followed_by-requires-clause-watch
followed_by-requires-clause-watch c =
    let within : c.loop-i.i < length c.as_slice-watches.result.now = omega (arith, c.loop-i-test.true) in
    let listed : c.as_slice-watches.result.now ≡ watches c.args.plan.now c.args.part =
    c.as_slice-watches.ensures ∙ sym (ap (λ (o : Option Part). option_map_or (λ q. q.watches) o []) c.part.ensures) in
    subst (λ (all : List Watch). Contains all c.index-watches-i.result) listed
    (slice_in c.as_slice-watches.result.now c.loop-i.i c.index-watches-i.result
    (slice_get_read c.as_slice-watches.result.now (length c.as_slice-watches.result.now) c.loop-i.i c.index-watches-i.result refl within c.index-watches-i.is))

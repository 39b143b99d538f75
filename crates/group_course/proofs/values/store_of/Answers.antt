use Rattle.std.proofs.Common.{Some, ap, sym, subst, ◌∙◌}
use Rattle.std.specs.Option.{option_copied}
use Rattle.std.proofs.lemmas.Option.{same_Some, get_or_from_slice_get}
use Rattle.sample_store.specs.Kept.{Kept}
use Rattle.group_course.specs.Held.{HoldsIteration}
use Rattle.group_course.proofs.values.store_of.Goals as goal

pub returns-clause-held : goal.returns-clause-held
returns-clause-held c =
    let held = c.requires in
    let same = same_Some c.unwrap.result.now held.store
    (ap option_copied (sym c.unwrap.ensures) ∙ c.as_ref.ensures.value ∙ c.index-stores-x.is
    ∙ get_or_from_slice_get c.args.stores.now c.args.x (Some held.store) c.index-stores-x.result held.there) in
    subst (λ (kept : Kept). HoldsIteration kept.progress c.args.at.window c.args.at.number) (sym same) held.holds

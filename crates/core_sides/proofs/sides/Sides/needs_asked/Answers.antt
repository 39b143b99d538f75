use Rattle.std.proofs.Common.{sym, ◌∙◌, arith, refl}
use Rattle.cpl_plan.specs.Needs.{needs}
use Rattle.cpl_plan.specs.declared.words.Need.{Need}
use Rattle.core_sides.specs.KeptSides.{kept_ended, kept_given}
use Rattle.core_sides.proofs.FewNeeds.{no_need_past}
use Rattle.core_sides.proofs.Searches.{search_done, search_more}
use Rattle.core_sides.proofs.sides.Sides.needs_asked.Goals as goal

pub returns-in-None : goal.returns-in-None
returns-in-None c =
    search_done (kept_ended c.args.self.now) (λ (need : Need). (need.owner, kept_given c.args.self.now need.owner need.item)) (needs c.args.plan.now c.args.p c.args.w c.args.k) c.loop-i.i
    c.loop-i.search _ (sym c.need.ensures ∙ c.in-None.is) c.loop-i.invariant

pub loop-i-preserved : goal.loop-i-preserved
loop-i-preserved c =
    rw (c.and-search.ensures, c.has_given-given.ensures, c.has_ended.ensures)
    (search_more (kept_ended c.args.self.now) (λ (need : Need). (need.owner, kept_given c.args.self.now need.owner need.item)) (needs c.args.plan.now c.args.p c.args.w c.args.k) c.loop-i.i
    c.loop-i.search _ c.in-Some.need c.in-Some.need.owner (kept_given c.args.self.now c.in-Some.need.owner c.in-Some.need.item)
    (sym c.need.ensures ∙ c.in-Some.is) refl c.loop-i.invariant)

pub returns : goal.returns
returns c =
    search_done (kept_ended c.args.self.now) (λ (need : Need). (need.owner, kept_given c.args.self.now need.owner need.item)) (needs c.args.plan.now c.args.p c.args.w c.args.k) c.loop-i.i
    c.loop-i.search _ (no_need_past c.args.plan.now c.args.p c.args.w c.args.k c.loop-i.i c.parts-valid.ensures.valid (omega (arith, c.loop-i-test.false))) c.loop-i.invariant

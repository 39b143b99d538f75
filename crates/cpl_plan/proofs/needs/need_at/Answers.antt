use Rattle.std.proofs.Common.{sym, ap, ◌∙◌, ◌+◌, slice_get, drop, ◌++◌}
use Rattle.std.proofs.lemmas.List.{at_drop_more}
use Rattle.cpl_plan.specs.Needs.{needs_of, needs_in}
use Rattle.cpl_plan.proofs.LooksThrough.{slice_get-here, slice_get-past}
use Rattle.cpl_plan.proofs.needs.need_at.Goals as goal

-- src/needs.rt:34:33
pub returns-in-Here : goal.returns-in-Here
returns-in-Here c = sym (c.loop-scheme.invariant
    ∙ at_drop_more (λ schemes. slice_get (needs_of schemes c.args.parts c.args.p c.args.w c.args.k) c.loop-scheme.left)
    c.args.schemes.now c.loop-scheme.scheme-index c.scheme-item.result c.loop-scheme-test.true
    ∙ ap (λ s. slice_get (needs_in s c.args.parts c.args.p c.args.w c.args.k
    ++ needs_of (drop (c.loop-scheme.scheme-index + 1) c.args.schemes.now) c.args.parts c.args.p c.args.w c.args.k) c.loop-scheme.left)
    (sym c.scheme-item.is)
    ∙ slice_get-here _ _ c.loop-scheme.left c.in-Here.need c.in-Here.ensures)

-- src/needs.rt:32:5
pub loop-scheme-preserved : goal.loop-scheme-preserved
loop-scheme-preserved c = c.loop-scheme.invariant
    ∙ at_drop_more (λ schemes. slice_get (needs_of schemes c.args.parts c.args.p c.args.w c.args.k) c.loop-scheme.left)
    c.args.schemes.now c.loop-scheme.scheme-index c.scheme-item.result c.loop-scheme-test.true
    ∙ ap (λ s. slice_get (needs_in s c.args.parts c.args.p c.args.w c.args.k
    ++ needs_of (drop (c.loop-scheme.scheme-index + 1) c.args.schemes.now) c.args.parts c.args.p c.args.w c.args.k) c.loop-scheme.left)
    (sym c.scheme-item.is)
    ∙ ap (slice_get (needs_in c.scheme-item.result c.args.parts c.args.p c.args.w c.args.k
    ++ needs_of (drop (c.loop-scheme.scheme-index + 1) c.args.schemes.now) c.args.parts c.args.p c.args.w c.args.k)) c.in-Past.ensures
    ∙ slice_get-past (needs_in c.scheme-item.result c.args.parts c.args.p c.args.w c.args.k) _ c.in-Past.rest

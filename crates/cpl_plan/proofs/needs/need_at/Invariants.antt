use Rattle.std.proofs.Common.{◌≡◌, slice_get, drop}
use Rattle.cpl_plan.specs.Needs.{needs_of}
use Rattle.cpl_plan.proofs.needs.need_at.Given as goal

-- the need is that of the schemes that are left
abbrev pub invariant-loop-scheme : goal.invariant-loop-scheme
invariant-loop-scheme l =
    slice_get (needs_of l.schemes l.parts l.p l.w l.k) l.i
    ≡ slice_get (needs_of (drop l.scheme-index l.schemes) l.parts l.p l.w l.k) l.left

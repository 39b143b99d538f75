use Rattle.std.proofs.Common.{ℕ}
use Rattle.cpl_plan.specs.Needs.{partners}
use Rattle.cpl_plan.specs.Looks.{IsLook}
use Rattle.cpl_plan.specs.declared.needs.Look.{Look}
use Rattle.cpl_plan.proofs.Partners.{partners_from}
use Rattle.cpl_plan.proofs.needs.partner.Given as goal

-- what is found among the partners that are left is found among all
abbrev pub invariant-loop-other : goal.invariant-loop-other
invariant-loop-other l =
    (found : Look ℕ)
    → IsLook (partners_from l.members l.parts l.p l.other) l.left found
    → IsLook (partners l.members l.parts l.p) l.fn.place found

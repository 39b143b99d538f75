use Rattle.std.proofs.Common.{sym, ap, ◌∙◌, ℕ, ◌+◌, length, arith, subst}
use Rattle.std.specs.Prelude.{slice_get}
use Rattle.cpl_plan.specs.Looks.{IsLook}
use Rattle.cpl_plan.specs.declared.needs.Look.TheVariants.{Here, Past}
use Rattle.cpl_plan.proofs.Partners.{partners_from, partners_from-partner, partners_from-last, look-all, look-past, look-other}
use Rattle.cpl_plan.proofs.needs.partner.Goals as goal
use Rattle.cpl_plan.proofs.needs.partner.Goals.{then-is_partner+else-left-eq0, else-is_partner}

pub loop-other-init : goal.loop-other-init
loop-other-init c = look-all c.args.members.now c.args.parts c.args.p c.args.place

pub returns-then-left-eq0 : goal.returns-then-left-eq0
returns-then-left-eq0 c =
    c.loop-other.invariant (Here c.loop-other.other)
    (ap (slice_get (partners_from c.args.members.now c.args.parts c.args.p c.loop-other.other)) c.if-left-eq0.true
    ∙ ap (λ ps. slice_get ps 0)
    (partners_from-partner c.args.members.now c.args.parts c.args.p c.loop-other.other c.loop-other-test.true
    (sym c.is_partner.ensures ∙ c.if-is_partner.true)))

pub loop-other-preserved : goal.loop-other-preserved
loop-other-preserved c = λ found look. elim c.if-is_partner.branch [
  | then-is_partner+else-left-eq0 w ↦
      c.loop-other.invariant found
      (look-past c.args.members.now c.args.parts c.args.p c.loop-other.other c.loop-other.left c.if-is_partner.left found c.loop-other-test.true
      (sym c.is_partner.ensures ∙ w.if-is_partner.true) (omega (arith, w.left-is, w.if-left-eq0)) look)
  | else-is_partner w ↦
      c.loop-other.invariant found
      (look-other c.args.members.now c.args.parts c.args.p c.loop-other.other c.loop-other.left found c.loop-other-test.true
      (sym c.is_partner.ensures ∙ w.if-is_partner.false)
      (subst (λ left. IsLook (partners_from c.args.members.now c.args.parts c.args.p (c.loop-other.other + 1)) left found) w.left-is look))
]

pub returns : goal.returns
returns c =
    c.loop-other.invariant (Past c.loop-other.left)
    (sym (ap (λ ps. length {A = ℕ} ps + c.loop-other.left)
    (partners_from-last c.args.members.now c.args.parts c.args.p c.loop-other.other c.loop-other-test.false) ∙ omega (arith)))

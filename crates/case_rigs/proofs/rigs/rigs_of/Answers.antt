use Rattle.std.proofs.Common.{◌≡◌, List, map, ap, sym, subst, ◌∙◌}
use Rattle.std.specs.List.{AllZip, zip}
use Rattle.cpl_config.specs.declared.config.PartTable.{PartTable}
use Rattle.case_rigs.specs.CaseRigs.{parts_of, own_rig_of, case_rigs, MakesRig}
use Rattle.case_rigs.proofs.RigsMade.{all_make_rigs, as_many_rigs}
use Rattle.case_rigs.proofs.rigs.rigs_of.Goals as goal
use Rattle.case_rigs.proofs.rigs.rigs_of.Goals.{In_ok-rigs}

pub rigs_for-requires-clause-makes : goal.rigs_for-requires-clause-makes
rigs_for-requires-clause-makes c =
    let config = c.args.config.now in
    let cases = c.args.cases.now in
    subst (λ (parts : List PartTable). AllZip (MakesRig config) parts cases) (sym c.as_slice.ensures)
    (all_make_rigs config cases c.requires.sound c.requires.kept c.requires.one_each c.requires.sound_cases c.requires.kept_by_cases)

made : (c : In_ok-rigs) → map parts_of c.in_ok-rigs.rigs.items ≡ case_rigs c.args.config.now c.args.cases.now
made c = c.in_ok-rigs.ensures ∙ ap (λ (parts : List PartTable). map (own_rig_of c.args.config.now) (zip parts c.args.cases.now)) c.as_slice.ensures

pub returns-clause-one_each : goal.returns-clause-one_each
returns-clause-one_each c = as_many_rigs c.args.config.now c.args.cases.now c.in_ok-rigs.rigs.items c.requires.one_each (made c)

use Rattle.std.proofs.Common.{◌≡◌, ◌^◌, ℤ, List, ap, ◌∙◌, arith}
use Rattle.std.specs.Prelude.{unsigned_abs, sum_by}
use mir.Syntax.{w64}
use mir.Val.{to_z, of_z}
use Rattle.std.proofs.lemmas.Bool.{leb-true}
use Rattle.std.proofs.lemmas.Int.{to_z-of_z, fits_signed_from_abs}
use Rattle.cpl_config.specs.SoundConfig.{IsIn}
use Rattle.cpl_config.specs.declared.config.DataEntry.{DataEntry}
use Rattle.cpl_tables.specs.declared.shapes.Range.TheVariants.{Between}
use Rattle.case_files.specs.SoundCase.{IsCoefficient}
use Rattle.plan_build.proofs.MeshFacts.{in_range}
use Rattle.case_rules.specs.CaseRules.{values_of}
use Rattle.case_rigs.proofs.solvers.case_parts.Goals as goal

-- numbers of a sound case are what the code reads
coefficient_back : (z : ℤ) → IsCoefficient z → to_z w64 (of_z w64 z) ≡ z
coefficient_back z sound = to_z-of_z w64 z (fits_signed_from_abs w64 z (omega (arith, leb-true (unsigned_abs z) (10 ^ 9) sound)))

step_back : (z : ℤ) → IsIn (Between 1 (10 ^ 9)) z → to_z w64 (of_z w64 z) ≡ z
step_back z sound = to_z-of_z w64 z (fits_signed_from_abs w64 z (omega (arith, (in_range 1 (10 ^ 9) z sound).1)))

pub returns : goal.returns
returns c =
    let case = c.args.case_file.now in
    let sound = c.requires.case_file in
    let values = λ (entries : List DataEntry). sum_by (values_of c.args.config.now case) entries in
    λ i. record {
      solver = case.solver;
      step = step_back case.step sound.step i;
      read = case.read;
      state = c.in_ok-state.ensures i;
      fill = case.fill;
      count = case.count;
      out = c.in_ok-out.ensures i;
      forbid = case.forbid;
      row = c.in_ok-row.ensures i;
      records = c.in_ok-records.ensures i;
      alpha = coefficient_back case.alpha sound.alpha i;
      beta = coefficient_back case.beta sound.beta i;
      stiff = coefficient_back case.stiff sound.stiff i;
      damp = coefficient_back case.damp sound.damp i;
      gain = coefficient_back case.gain sound.gain i;
      rate = coefficient_back case.rate sound.rate i;
      reads = (c.values_in.ensures ∙ ap values c.as_slice.ensures) i;
      writes = (c.values_in-2.ensures ∙ ap values c.as_slice-2.ensures) i;
    }

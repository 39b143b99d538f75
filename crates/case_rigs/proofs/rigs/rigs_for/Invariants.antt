use Rattle.std.proofs.Common.{◌≡◌, ◌++◌, map}
use Rattle.std.specs.List.{AllZip, zip}
use Rattle.std.specs.Iterator.Adapters.{zip_first, zip_second}
use Rattle.std.specs.Slice.Iter.{iter_rest}
use Rattle.case_rigs.specs.CaseRigs.{parts_of, own_rig_of, MakesRig}
use Rattle.case_rigs.proofs.rigs.rigs_for.Given as goal

-- the rigs so far and those of the rest are those of all
abbrev pub invariant-parts : goal.invariant-parts
invariant-parts l = record {
  makes : AllZip (MakesRig l.config) (iter_rest (zip_first l.part-iterator)) (iter_rest (zip_second l.part-iterator));
  made : map parts_of l.rigs.items ++ map (own_rig_of l.config) (zip (iter_rest (zip_first l.part-iterator)) (iter_rest (zip_second l.part-iterator)))
      ≡ map (own_rig_of l.config) (zip l.parts l.cases);
}

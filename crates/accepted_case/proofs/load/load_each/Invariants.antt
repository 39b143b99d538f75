use Rattle.std.proofs.Common.{◌≡◌, ◌≤◌, ◌++◌, Some, option_map, map, length, drop}
use Rattle.io_edge.specs.FileMap.{FileMap}
use Rattle.cpl_config.specs.declared.config.PartTable.{PartTable}
use Rattle.accepted_case.specs.Loaded.{cut_files_of}
use Rattle.accepted_case.specs.MayLoad.{MayLoadNames}
use Rattle.accepted_case.proofs.load.load_each.Given as goal

-- what was loaded, before what the rest gives, is what all give
abbrev pub invariant-parts : goal.invariant-parts
invariant-parts g l =
    let names = map (λ (part : PartTable). part.case) in
    record {
      loaded : (told : FileMap) → g.F.Files.told l.fn.files ≡ Some told → option_map (λ others. l.loaded.items ++ others) (cut_files_of told (names (drop l.part-index l.parts))) ≡ cut_files_of told (names l.parts);
      counted : length l.loaded.items ≡ l.part-index;
      may_load : MayLoadNames (g.F.Files.told l.files) (g.F.Files.may_ask l.files) (names (drop l.part-index l.parts));
      same_told : g.F.Files.told l.files ≡ g.F.Files.told l.fn.files;
      same_names : g.F.Files.may_ask l.files ≡ g.F.Files.may_ask l.fn.files;
      never_falls : g.F.Files.faults l.fn.files ≤ g.F.Files.faults l.files;
    }

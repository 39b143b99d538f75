-- What a case file says of its participant's solver. The project's own.
use Rattle.cpl_config.specs.declared.config.Config.{Config}
use Rattle.cpl_config.specs.declared.config.PartTable.{PartTable}
use Rattle.line_solvers.specs.declared.case.CaseParts.{CaseParts}
use Rattle.case_files.specs.declared.case_file.CaseFile.{CaseFile}
use Rattle.case_rules.specs.CaseRules.{read_values, written_values}

-- its keys for the solver, and how many values the participant reads and writes
abbrev pub solver_case : Config → PartTable → CaseFile → CaseParts
solver_case config part case_file =
    record {
      solver = case_file.solver;
      step = case_file.step;
      read = case_file.read;
      state = case_file.state;
      fill = case_file.fill;
      count = case_file.count;
      out = case_file.out;
      forbid = case_file.forbid;
      row = case_file.row;
      records = case_file.records;
      alpha = case_file.alpha;
      beta = case_file.beta;
      stiff = case_file.stiff;
      damp = case_file.damp;
      gain = case_file.gain;
      rate = case_file.rate;
      reads = read_values config part case_file;
      writes = written_values config part case_file;
    }

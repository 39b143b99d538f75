-- No text of base.rt has a number with a fraction or a date-time.
use Rattle.std.proofs.Common.{◌≡◌, true, Some, option_map, refl}
use Rattle.toml.specs.Parse.{parse_document}
use Rattle.toml.proofs.OnLiterals.{toml_on_literals}
use Rattle.coupling_run.specs.SameTree.{members_are_plain}
use Rattle.coupling_run.specs.declared.base.TheConstants.{CONFIGURATION, FIRST_CASE, FIRST_ROW, SECOND_CASE}

pub configuration_is_plain : option_map members_are_plain (parse_document CONFIGURATION.now) ≡ Some true
unfolding toml_on_literals
configuration_is_plain = refl

pub first_case_is_plain : option_map members_are_plain (parse_document FIRST_CASE.now) ≡ Some true
unfolding toml_on_literals
first_case_is_plain = refl

pub first_row_is_plain : option_map members_are_plain (parse_document FIRST_ROW.now) ≡ Some true
unfolding toml_on_literals
first_row_is_plain = refl

pub second_case_is_plain : option_map members_are_plain (parse_document SECOND_CASE.now) ≡ Some true
unfolding toml_on_literals
second_case_is_plain = refl

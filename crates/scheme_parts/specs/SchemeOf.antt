-- A coupling scheme in numbers. From the coupling documentation's serial, parallel and multi coupling schemes.
use Rattle.std.specs.Prelude.{ℕ, map, pos, unsigned_abs, unwrap_or}
use Rattle.cpl_config.specs.declared.config.Config.{Config}
use Rattle.cpl_config.specs.declared.config.SchemeTable.{SchemeTable}
use Rattle.cpl_plan.specs.declared.parts.Scheme.{Scheme}
use Rattle.config_rules.specs.Members.{scheme_kind}
use Rattle.config_laws.specs.Numbered.{numbers_in}
use Rattle.config_laws.specs.FitNumbers.{least_iterations}
use Rattle.scheme_parts.specs.NumbersOf.{exchanges_before}
use Rattle.scheme_parts.specs.ExchangeOf.{exchanges_of}
use Rattle.scheme_parts.specs.MeasureOf.{measure_of}
use Rattle.scheme_parts.specs.AccelOf.{accel_of}
use Rattle.scheme_parts.specs.declared.part.SchemePart.{SchemePart}

-- the greatest number of iterations, 1 where it is left out, as explicit schemes do
abbrev pub greatest_iterations : SchemeTable → ℕ
greatest_iterations table = unsigned_abs (unwrap_or table.max_iterations (pos 1))

-- what a table says of a scheme, whose exchanges come after so many others
abbrev pub scheme_of : Config → (before : ℕ) → SchemeTable → Scheme
scheme_of config before table = record {
  kind = scheme_kind table.kind;
  members = numbers_in config table;
  min = least_iterations table;
  max = greatest_iterations table;
  measures = map (measure_of before table) table.measure;
  accel = accel_of before table table.acceleration;
}

-- the scheme of this number, and its exchanges
abbrev pub scheme_part : Config → (scheme : ℕ) → SchemeTable → SchemePart
scheme_part config scheme table = record {
  scheme = scheme_of config (exchanges_before config scheme) table;
  exchanges = exchanges_of config scheme table;
}

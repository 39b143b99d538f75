use Rattle.std.proofs.Common.{◌<◌, List, length, take, refl, ap, sym, ◌∙◌, arith}
use Rattle.std.specs.Prelude.{slice_get, sum_by}
use Rattle.std.proofs.lemmas.List.Sums.{sum_by-take-le}
use Rattle.std.proofs.lemmas.List.Concat.{length-flat_map}
use Rattle.std.proofs.lemmas.Option.{slice_get_read}
use Rattle.cpl_config.specs.declared.config.SchemeTable.{SchemeTable}
use Rattle.scheme_parts.proofs.Lookups.{few_before}
use Rattle.scheme_parts.proofs.PartsMade.{part_made}
use Rattle.scheme_parts.proofs.part.part_of_plan.Goals as goal

pub exchanges_in-before-requires : goal.exchanges_in-before-requires
exchanges_in-before-requires c =
    let count = λ (table : SchemeTable). length table.exchange in
    let same = ap (λ (tables : List SchemeTable). sum_by count (take c.args.scheme tables)) c.as_slice-tables.ensures in
    omega (arith, c.requires.sound.few_exchanges, length-flat_map (λ (table : SchemeTable). table.exchange) c.args.config.now.scheme, sum_by-take-le count c.args.config.now.scheme c.args.scheme, same)

pub numbered_part-requires-clause-few : goal.numbered_part-requires-clause-few
numbered_part-requires-clause-few c =
    let count = λ (table : SchemeTable). length table.exchange in
    let same = ap (λ (tables : List SchemeTable). sum_by count (take c.args.scheme tables)) c.as_slice-tables.ensures in
    let within : c.args.scheme < length c.as_slice-tables.result.now = omega (arith, c.requires.there, ap length c.as_slice-tables.ensures) in
    let at = slice_get_read c.as_slice-tables.result.now (length c.as_slice-tables.result.now) c.args.scheme c.index-tables-scheme.result refl within c.index-tables-scheme.is in
    let there = sym (ap (λ (tables : List SchemeTable). slice_get tables c.args.scheme) c.as_slice-tables.ensures) ∙ at in
    omega (arith, few_before c.args.config.now c.args.scheme c.index-tables-scheme.result c.requires.sound there, c.exchanges_in-before.ensures, same)

pub returns : goal.returns
returns c =
    let count = λ (table : SchemeTable). length table.exchange in
    let same = ap (λ (tables : List SchemeTable). sum_by count (take c.args.scheme tables)) c.as_slice-tables.ensures in
    let within : c.args.scheme < length c.as_slice-tables.result.now = omega (arith, c.requires.there, ap length c.as_slice-tables.ensures) in
    let at = slice_get_read c.as_slice-tables.result.now (length c.as_slice-tables.result.now) c.args.scheme c.index-tables-scheme.result refl within c.index-tables-scheme.is in
    let there = sym (ap (λ (tables : List SchemeTable). slice_get tables c.args.scheme) c.as_slice-tables.ensures) ∙ at in
    part_made c.args.config.now c.in_ok-numbered.numbered c.args.scheme c.exchanges_in-before.result c.index-tables-scheme.result c.in_ok-part.part c.in_ok-numbered.ensures
    (c.exchanges_in-before.ensures ∙ same) there c.in_ok-part.ensures.scheme c.in_ok-part.ensures.exchanges

use Rattle.std.proofs.Common.{◌≤◌, arith}
use Rattle.case_rules.proofs.CaseBounds.{vertices_few, components_few, product_few}
use Rattle.case_rules.proofs.cases.values_of.Goals as goal

pub overflow_mul-result : goal.overflow_mul-result
overflow_mul-result c =
    let vertices : c.vertices_on.result ≤ 10000 = omega (arith, c.vertices_on.ensures, vertices_few c.args.case_file.now c.as_str.result.now c.requires.case_file) in
    let components : c.components.result ≤ 3 = omega (arith, c.components.ensures, components_few c.args.config.now c.as_str-2.result.now c.as_str-3.result.now c.requires.config) in
    omega (arith, product_few c.vertices_on.result c.components.result vertices components)

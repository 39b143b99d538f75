use Rattle.std.proofs.Common.{◌≡◌, ◌&&◌, not, drop}
use Rattle.std.specs.List.{list_any}
use Rattle.cpl_config.specs.declared.kind_words.Direction.TheVariants.{Write}
use Rattle.mesh_rules.specs.MeshRules.{is_elsewhere, has_map, lacks_write_map}
use Rattle.mesh_rules.proofs.mappings.lacks_write_map.Given as goal

-- a mapping is lacking for some entry of the rest where one is for some entry
abbrev pub invariant-entries : goal.invariant-entries
invariant-entries l =
    list_any (λ entry. is_elsewhere l.exchange entry && not (has_map l.table Write entry.mesh l.exchange.mesh)) (drop l.entry-index l.entry-items)
    ≡ lacks_write_map l.exchange l.table

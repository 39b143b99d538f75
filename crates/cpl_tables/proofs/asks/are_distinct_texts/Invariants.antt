use Rattle.std.proofs.Common.{◌≡◌, map, drop}
use Rattle.std.specs.BTreeSet.{contains_text}
use Rattle.toml.specs.View.{view}
use Rattle.cpl_tables.specs.Values.{text_of, are_distinct_texts}
use Rattle.cpl_tables.proofs.Distinct.{stay_distinct}
use Rattle.cpl_tables.proofs.asks.are_distinct_texts.Given as goal

-- the rest stays distinct beside the texts that were seen, where the whole is distinct
abbrev pub invariant-texts : goal.invariant-texts
invariant-texts l =
    stay_distinct (contains_text l.seen) (map text_of (map view (drop l.item-index l.items))) ≡ are_distinct_texts (map text_of (map view l.items))

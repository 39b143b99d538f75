-- Tables one after the other.
use Rattle.std.proofs.Common.{◌≡◌, ℕ, ◌+◌, List, [], ◌∷◌, ◌++◌, refl}
use Rattle.toml.specs.Data.{Data, string, integer, float, boolean, datetime, array, table}
use Rattle.cpl_tables.specs.declared.kinds.TableKind.{TableKind}
use Rattle.cpl_rules.specs.Seen.{Seen}
use Rattle.cpl_rules.specs.SeenTables.{tables_listed}

-- the table in the next item, and those in the items after it
pub tables_listed-next : (seen : Seen) (kind : TableKind) (index : ℕ) (item : Data) (items : List Data)
    → tables_listed seen kind index (item ∷ items) ≡ tables_listed seen kind index (item ∷ []) ++ tables_listed seen kind (index + 1) items
tables_listed-next seen kind index (string _) items = refl
tables_listed-next seen kind index (integer _) items = refl
tables_listed-next seen kind index (float _) items = refl
tables_listed-next seen kind index (boolean _) items = refl
tables_listed-next seen kind index (datetime _) items = refl
tables_listed-next seen kind index (array _) items = refl
tables_listed-next seen kind index (table _) items = refl

-- the lemma by a name that code can cite
pub ruleset walked = tables_listed-next

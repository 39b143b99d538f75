-- The change from the old values to the new ones. From the coupling documentation's convergence measures; whole numbers of units are the project's own.
use Rattle.std.specs.Prelude.{List, ℤ, ◌-ℤ◌, map, zip}

-- new - old, entry by entry
abbrev pub change_of : (new old : List ℤ) → List ℤ
change_of new old = map (λ pair. pair.0 -ℤ pair.1) (zip new old)

-- Who of those that are asked has not given what is asked for. The project's own.
use Rattle.std.specs.Prelude.{ℕ, Bool, not, ◌&&◌, if◌then◌else◌, List, find, Some, None, option_map}
use Rattle.std.specs.Option.{option_or}
use Rattle.core_sides.specs.declared.search.Search.{Search}

-- the first that is asked, has not given it and has ended; and the first that has not given it
abbrev pub searched : (ended : ℕ → Bool) → List (ℕ × Bool) → Search
searched ended asked = record {
  cut = option_map (λ one. one.0) (find (λ one. not one.1 && ended one.0) asked);
  waits = option_map (λ one. one.0) (find (λ one. not one.1) asked);
}

-- what is found, and one more that is asked
abbrev pub and_then : Search → (owner : ℕ) → (is_given has_ended : Bool) → Search
and_then search owner is_given has_ended = record {
  cut = option_or search.cut (if not is_given && has_ended then Some owner else None);
  waits = option_or search.waits (if not is_given then Some owner else None);
}

-- what is found among the first, and then among others
abbrev pub and_further : Search → Search → Search
and_further search further = record { cut = option_or search.cut further.cut; waits = option_or search.waits further.waits }

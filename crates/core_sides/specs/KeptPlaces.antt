-- What each place tells: what was given so far, and the turn whose events come next. The project's own.
use Rattle.std.specs.Prelude.{ℕ, ◌+◌, Bool, false, ◌&&◌, ◌||◌, nat_eq, nat_lt}
use Rattle.cpl_plan.specs.declared.words.Item.{Item}
use Rattle.cpl_plan.specs.declared.words.Item.TheVariants.{Completed, Posted}
use Rattle.core_sides.specs.declared.standing.Place.{Place}
use Rattle.core_sides.specs.declared.standing.Place.TheVariants.{Sending, Collecting, Opening, Taking, Within, Judging}

-- who stands before turn (w, k) has completed the windows before, and posted the turns before
abbrev pub given_before : (w k : ℕ) → Item → Bool
given_before w k (Completed v) = nat_lt v w
given_before w k (Posted v j) = nat_lt v w || (nat_eq v w && nat_lt j k)

abbrev pub given_at : Place → Item → Bool
given_at Sending item = false
given_at Collecting item = false
given_at Opening item = false
given_at (Taking w k) item = given_before w k item
given_at (Within w k) item = given_before w k item
given_at (Judging scheme w k) item = given_before w (k + 1) item

abbrev pub turn_of : Place → ℕ × ℕ
turn_of Sending = (0, 0)
turn_of Collecting = (0, 0)
turn_of Opening = (0, 0)
turn_of (Taking w k) = (w, k)
turn_of (Within w k) = (w, k)
turn_of (Judging scheme w k) = (w, k)

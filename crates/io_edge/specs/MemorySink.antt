-- A sink in memory with a list of puts that fail. The project's own.
use Rattle.std.specs.Prelude.{ℕ, ◌-◌, List, ◌++◌, length, take, min, Bool, ◌||◌, ◌&&◌, ◌==◌, nat_lt, Option, None, Some, if◌then◌else◌}
use Rattle.std.specs.List.{list_any}
use Rattle.io_edge.specs.Counter.{next_count}

-- the bytes taken, the room for them in all, the most that one put takes where that was set,
-- the numbers of the puts that are to fail, and how many puts and faults there were
pub record MemorySink : Type 0 where
  pub taken : List ℕ
  pub room : ℕ
  pub most : Option ℕ
  pub failing : List ℕ
  pub puts : ℕ
  pub faults : ℕ

-- the room that is left
abbrev pub room_left : MemorySink → ℕ
room_left s = s.room - length s.taken

-- the next put of the piece fails: its number, the count of puts before it, is listed, or the piece
-- isn't empty and the room is used up
abbrev pub put_fails : MemorySink → List ℕ → Bool
put_fails s piece =
    list_any (λ number. number == s.puts) s.failing || (nat_lt 0 (length piece) && (room_left s == 0))

-- a length, cut at a limit where there is one
abbrev pub at_most : Option ℕ → ℕ → ℕ
at_most None n = n
at_most (Some most) n = min n most

-- how many bytes of the piece a put takes that doesn't fail
abbrev pub put_length : MemorySink → List ℕ → ℕ
put_length s piece = at_most s.most (min (length piece) (room_left s))

-- after a put of the piece there is one put more, and one fault more or the first bytes of the piece
abbrev pub after_put : MemorySink → List ℕ → MemorySink
after_put s piece =
    if put_fails s piece
    then record s { puts = next_count s.puts; faults = next_count s.faults }
    else record s { puts = next_count s.puts; taken = s.taken ++ take (put_length s piece) piece }

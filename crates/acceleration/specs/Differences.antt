-- How large a difference of two Values can be. The project's own.
use Rattle.std.specs.Prelude.{◌*◌, ◌^◌, ◌≤◌, ℤ, unsigned_abs}

-- within twice what a Value is within
abbrev pub IsDifference : ℤ → Type 0
IsDifference x = unsigned_abs x ≤ 2 * 10 ^ 13

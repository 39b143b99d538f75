use Rattle.std.proofs.Common.{◌≡◌, min, take}
use Rattle.std.specs.Str.Parse.{digits_value}
use Rattle.line_text.proofs.read.capped_number.Given as goal

-- the number that the digits so far write, or the cap where it is more
abbrev pub invariant-loop-digit : goal.invariant-loop-digit
invariant-loop-digit l = l.number ≡ min (digits_value 10 (take l.digit-index l.digits)) 10000001

use Rattle.std.proofs.Common.{◌≡◌, ◌^◌, ◌<◌, ◌≤◌, ◌++◌, string_bytes}
use Rattle.line_text.specs.Printing.{decimal_digits}
use Rattle.line_text.proofs.print.push_decimals.Given as goal

-- what is written so far and the digits of what is left are the digits of all
abbrev pub invariant-loop-left : goal.invariant-loop-left
invariant-loop-left l = (l.places ≤ 6) × (l.left < 10 ^ l.places)
    × (string_bytes l.text ++ decimal_digits l.places l.left ≡ string_bytes l.fn.text ++ decimal_digits 6 l.parts)

abbrev pub decreases-loop-left : goal.decreases-loop-left
decreases-loop-left l = l.places

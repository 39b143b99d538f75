use Rattle.std.proofs.Common.{◌≡◌, ℕ, length, slice_get, Some, None}
use Rattle.core_schemes.specs.declared.schemes.SchemeState.{SchemeState}
use Rattle.coupling_core.proofs.opening.opening_schemes.Given as goal

-- one for each so far, which has judged nothing
abbrev pub invariant-loop-s : goal.invariant-loop-s
invariant-loop-s l =
    (length l.schemes.items ≡ l.s) × ((s : ℕ) (state : SchemeState) → slice_get l.schemes.items s ≡ Some state → state.last ≡ None)

-- The first number that is no Value, from what stands at its place and before it.
use Rattle.std.proofs.Common.{◌≡◌, ℕ, ◌<◌, ℤ, pos, Option, Some, None, List, get_or, length, not, false, true, position, All, IfSome, IfNone, arith, ap}
use Rattle.std.specs.List.{AllWithin}
use Rattle.fixed_num.specs.Numbers.{IsValue, is_value}
use Rattle.fixed_num.proofs.ValueTests.{is_value-true, is_value-false}
use Rattle.field_buffers.proofs.Walks.{position-reached, position-passes, position-past}

pub place_is : (numbers : List ℤ) (place : Option ℕ) → IfSome place (λ i. i < length numbers) → IfSome place (λ i. ¬ IsValue (get_or numbers i (pos 0)))
    → IfSome place (λ i. AllWithin IsValue numbers 0 i) → IfNone place (All IsValue numbers) → place ≡ position (λ x. not (is_value x)) numbers
place_is numbers (Some i) found bad before none =
    position-passes (λ x. not (is_value x)) numbers i (pos 0) found (ap not (is_value-false (get_or numbers i (pos 0)) bad))
    (position-reached (λ x. not (is_value x)) numbers (pos 0) i (omega (arith, found))
    (λ k below. ap not (is_value-true (get_or numbers k (pos 0)) (before k (pos 0) (omega arith) below))))
place_is numbers None found bad before none =
    position-past (λ x. not (is_value x)) numbers (length numbers) (omega arith)
    (position-reached (λ x. not (is_value x)) numbers (pos 0) (length numbers) (omega arith)
    (λ k inside. ap not (is_value-true (get_or numbers k (pos 0)) (none k (pos 0) inside))))

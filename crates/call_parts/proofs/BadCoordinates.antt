-- The first number that is no coordinate, from what stands at its place and before it.
use Rattle.std.proofs.Common.{◌≡◌, ℕ, ◌<◌, ◌^◌, ℤ, pos, Option, Some, None, List, get_or, length, not, true, false, position, All, IfSome, IfNone, arith, ap, unsigned_abs}
use Rattle.std.specs.List.{AllWithin}
use Rattle.std.proofs.lemmas.Bool.Decides.{nat_tests}
use Rattle.fixed_num.specs.Numbers.{IsCoordinate}
use Rattle.field_buffers.proofs.Walks.{position-reached, position-passes, position-past}
use Rattle.participant_words.specs.Refusals.{is_coordinate}

is_coordinate-true : (z : ℤ) → IsCoordinate z → is_coordinate z ≡ true
is_coordinate-true z small = grind (arith, nat_tests)

is_coordinate-false : (z : ℤ) → (IsCoordinate z → ⊥) → is_coordinate z ≡ false
is_coordinate-false z large = let over : 10 ^ 12 < unsigned_abs z = omega arith in grind (arith, nat_tests)

pub place_is : (numbers : List ℤ) (place : Option ℕ) → IfSome place (λ i. i < length numbers) → IfSome place (λ i. ¬ IsCoordinate (get_or numbers i (pos 0)))
    → IfSome place (λ i. AllWithin IsCoordinate numbers 0 i) → IfNone place (All IsCoordinate numbers) → place ≡ position (λ x. not (is_coordinate x)) numbers
place_is numbers (Some i) found bad before none =
    position-passes (λ x. not (is_coordinate x)) numbers i (pos 0) found (ap not (is_coordinate-false (get_or numbers i (pos 0)) bad))
    (position-reached (λ x. not (is_coordinate x)) numbers (pos 0) i (omega (arith, found))
    (λ k below. ap not (is_coordinate-true (get_or numbers k (pos 0)) (before k (pos 0) (omega arith) below))))
place_is numbers None found bad before none =
    position-past (λ x. not (is_coordinate x)) numbers (length numbers) (omega arith)
    (position-reached (λ x. not (is_coordinate x)) numbers (pos 0) (length numbers) (omega arith)
    (λ k inside. ap not (is_coordinate-true (get_or numbers k (pos 0)) (none k (pos 0) inside))))

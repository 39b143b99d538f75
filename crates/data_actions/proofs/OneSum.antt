-- One sum alone, whose sources lie before or behind its target.
use Rattle.std.proofs.Common.{◌≡◌, ℕ, ◌+◌, ◌<◌, ◌&&◌, ◌||◌, true, false, nat_le, nat_lt, [], ◌∷◌, get_or, All, arith}
use Rattle.std.proofs.lemmas.Bool.Decides.{nat_tests}
use Rattle.std.proofs.lemmas.List.Elements.{All-nil, All-cons}
use Rattle.std.proofs.lemmas.List.Sums.{count_by-le-length}
use Rattle.data_actions.specs.declared.sums.Sum.{Sum}
use Rattle.data_actions.specs.SummedValues.{makes, is_made}
use Rattle.data_actions.specs.SoundSums.{IsSumOf, AreSums}

only : (P : Sum → Type 0) (sum : Sum) → P sum → All P (sum ∷ [])
only P sum holds = All-cons P sum [] holds (All-nil P)

apart_place : (target count source offset : ℕ) → offset < count → (nat_le (source + count) target || nat_le (target + count) source) ≡ true
    → (nat_le target (source + offset) && nat_lt (source + offset) (target + count)) ≡ false
apart_place target count source offset h apart = grind (arith, nat_tests)

pub one_sum : (count : ℕ) (sum : Sum) → IsSumOf count sum
    → All (λ source. (nat_le (source + sum.length) sum.target || nat_le (sum.target + sum.length) source) ≡ true) sum.sources → AreSums count (sum ∷ [])
one_sum count sum sound apart =
    record {
      in_range = only (IsSumOf count) sum sound;
      once = λ place. count_by-le-length (makes place) (sum ∷ []);
      apart = only (λ s. All (λ source. (offset : ℕ) → offset < s.length → is_made (sum ∷ []) (source + offset) ≡ false) s.sources)
          sum
          (λ k d h offset below. rw (apart_place sum.target sum.length (get_or sum.sources k d) offset below (apart k d h)));
    }

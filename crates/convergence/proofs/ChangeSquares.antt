-- The squares of a change are those of the differences.
use Rattle.std.proofs.Common.{◌≡◌, ◌+◌, ℤ, ◌-ℤ◌, List, [], ◌∷◌, map, sum_by, refl, sym, ap, ◌∙◌}
use Rattle.std.proofs.lemmas.List.Sums.{sum_by-cons}
use Rattle.fixed_num.specs.Norm.{square, square_of_difference}

pub change-squares : (pairs : List (ℤ × ℤ)) → sum_by square_of_difference pairs ≡ sum_by square (map (λ pair. pair.0 -ℤ pair.1) pairs)
change-squares [] = refl
change-squares (pair ∷ pairs) =
    sum_by-cons square_of_difference pair pairs
    ∙ ap (λ n. square_of_difference pair + n) (change-squares pairs)
    ∙ sym (sum_by-cons square (pair.0 -ℤ pair.1) (map (λ pair. pair.0 -ℤ pair.1) pairs))

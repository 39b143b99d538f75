-- Aitken's next factor, where the residual has stayed and where it has not.
use Rattle.std.proofs.Common.{◌≡◌, ◌≢◌, List, ℤ, unsigned_abs, refl}
use Rattle.std.proofs.lemmas.Bool.{eq-eqb, ne_eqb}
use Rattle.fixed_num.specs.Norm.{product_sum}
use Rattle.fixed_num.specs.Relaxation.{aitken_factor}
use Rattle.acceleration.specs.Factors.{factor_after}

pub factor_stays : (factor : ℤ) (before change : List ℤ) → unsigned_abs (product_sum change change) ≡ 0 → factor_after factor before change ≡ factor
unfolding factor_after
factor_stays factor before change none = rw (eq-eqb (unsigned_abs (product_sum change change)) 0 none) refl

pub factor_moves : (factor : ℤ) (before change : List ℤ) → unsigned_abs (product_sum change change) ≢ 0
    → factor_after factor before change ≡ aitken_factor factor (product_sum before change) (unsigned_abs (product_sum change change))
unfolding factor_after
factor_moves factor before change some = rw (ne_eqb (unsigned_abs (product_sum change change)) 0 some) refl

-- A norm is the one that computes.
use Rattle.std.proofs.Common.{◌≡◌, ℕ, List, ℤ}
use Rattle.std.specs.Prelude.{sum_by}
use Rattle.fixed_num.specs.Norm.{IsNorm, square}
use Rattle.wave_coupling.specs.Root.{norm}
use Rattle.wave_laws.proofs.Roots.{one_root, norm_is as is_norm}

pub norm_is : (list : List ℤ) (r : ℕ) → IsNorm list r → r ≡ norm list
norm_is list r is = one_root (sum_by square list) r (norm list) is (is_norm list)

-- A loop that writes a list anew, place by place, from what stood there.
use Rattle.std.proofs.Common.{◌≡◌, ℕ, ◌+◌, ◌<◌, List, [], ◌∷◌, ◌++◌, length, get_or, set, map, take, drop, All, ℤ, pos, arith, add-zero, sym, ap, ◌∙◌}
use mir.Syntax.{w64}
use mir.Val.{to_z, of_z}
use Rattle.std.specs.List.{range_with_len}
use Rattle.std.proofs.lemmas.List.{get_or-drop, drop-drop, drop-set-lt, take_more_set}
use Rattle.std.proofs.lemmas.List.Elements.{All-set}
use Rattle.fixed_num.specs.Numbers.{IsValue}
use Rattle.line_solvers.proofs.Sums.{value_back}
use Rattle.line_solvers.proofs.Checks.{loop_more}

-- what is not written yet is as it was
pub still_there : (xs ys : List ℤ) (i : ℕ) → drop i xs ≡ drop i ys → get_or xs i (pos 0) ≡ get_or ys i (pos 0)
still_there xs ys i same =
    rw add-zero at (sym (get_or-drop i xs 0 (pos 0)) ∙ ap (λ (zs : List ℤ). get_or zs 0 (pos 0)) same ∙ get_or-drop i ys 0 (pos 0))

pub written_more : (xs : List ℤ) (f : ℕ → ℤ) (i : ℕ) (v : ℤ) → i < length xs → IsValue v → v ≡ f i
    → take i xs ≡ map f (range_with_len 0 i) → take (i + 1) (set xs i (to_z w64 (of_z w64 v))) ≡ map f (range_with_len 0 (i + 1))
written_more xs f i v h value is before =
    take_more_set xs i (to_z w64 (of_z w64 v)) h
    ∙ ap (λ (zs : List ℤ). zs ++ to_z w64 (of_z w64 v) ∷ []) before
    ∙ ap (λ (x : ℤ). map f (range_with_len 0 i) ++ x ∷ []) (value_back v value ∙ is)
    ∙ sym (loop_more f i)

pub left_more : (xs ys : List ℤ) (i : ℕ) (v : ℤ) → drop i xs ≡ drop i ys → drop (i + 1) (set xs i v) ≡ drop (i + 1) ys
left_more xs ys i v same =
    drop-set-lt (i + 1) xs i v (omega arith) ∙ sym (drop-drop 1 i xs) ∙ ap (λ (zs : List ℤ). drop 1 zs) same ∙ drop-drop 1 i ys

pub values_more : (xs : List ℤ) (i : ℕ) (v : ℤ) → IsValue v → All IsValue xs → All IsValue (set xs i (to_z w64 (of_z w64 v)))
values_more xs i v value before = rw (value_back v value) (All-set IsValue xs i v value before)

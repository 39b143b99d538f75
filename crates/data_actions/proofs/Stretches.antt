-- Tests of the numbers below another, and the places of a stretch.
use Rattle.std.proofs.Common.{◌≡◌, ℕ, ◌+◌, ◌-◌, ◌<◌, ◌&&◌, Bool, true, false, nat_le, nat_lt, List, [], ◌∷◌, ◌++◌, length, get_or, sym, ap, ◌∙◌, arith, zero-add}
use Rattle.std.specs.List.{list_all, range_with_len}
use Rattle.std.proofs.lemmas.Bool.Decides.{nat_tests}
use Rattle.std.proofs.lemmas.List.{map-id}
use Rattle.std.proofs.lemmas.List.FromFn.{map-range_with_len_more, get_or-range_with_len, length-range_with_len}
use Rattle.std.proofs.lemmas.List.Folds.{list_all_at, list_all-append}

range_more : (n : ℕ) → range_with_len 0 (n + 1) ≡ range_with_len 0 n ++ n ∷ []
range_more n =
    sym (map-id (range_with_len 0 (n + 1)))
    ∙ map-range_with_len_more (λ (k : ℕ). k) 0 n n (omega arith)
    ∙ ap (λ (ks : List ℕ). ks ++ n ∷ []) (map-id (range_with_len 0 n))

-- one number more
pub test_more : (test : ℕ → Bool) (n : ℕ) → list_all test (range_with_len 0 n) ≡ true → test n ≡ true → list_all test (range_with_len 0 (n + 1)) ≡ true
test_more test n before here =
    let both : (list_all test (range_with_len 0 n) && list_all test (n ∷ [])) ≡ true = rw (before, here) in
    ap (λ (ns : List ℕ). list_all test ns) (range_more n) ∙ list_all-append test (range_with_len 0 n) (n ∷ []) ∙ both

-- a number that fails
pub test_fails : (test : ℕ → Bool) (n i : ℕ) → i < n → test i ≡ false → list_all test (range_with_len 0 n) ≡ false
test_fails test n i h fails =
    let within : i < length (range_with_len 0 n) = omega (arith, h, length-range_with_len 0 n) in
    let at : get_or (range_with_len 0 n) i 0 ≡ i = get_or-range_with_len 0 n i 0 h ∙ zero-add i in
    list_all_at test (range_with_len 0 n) i 0 within (rw at fails)

-- how far a place of a stretch is from its start
pub offset_within : (start place count : ℕ) → (nat_le start place && nat_lt place (start + count)) ≡ true → place - start < count
offset_within start place count h = grind (arith, nat_tests)

-- a place of a stretch
pub makes_within : (start offset count : ℕ) → offset < count → (nat_le start (start + offset) && nat_lt (start + offset) (start + count)) ≡ true
makes_within start offset count h = grind (arith, nat_tests)

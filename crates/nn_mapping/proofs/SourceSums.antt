-- The sum over the sources of a target, source by source.
use Rattle.std.proofs.Common.{◌≡◌, ℕ, ◌+◌, Bool, true, false, cond, eqb, eq-eqb, List, [], ◌∷◌, ◌++◌, ℤ, pos, ◌+ℤ◌, get_or, sym, ap, ◌∙◌, arith}
use Rattle.std.specs.List.{filter, range_with_len}
use Rattle.std.proofs.lemmas.Bool.{ne_eqb}
use Rattle.std.proofs.lemmas.List.{map-id, append-nil}
use Rattle.std.proofs.lemmas.List.Elements.{filter-append}
use Rattle.std.proofs.lemmas.List.FromFn.{map-range_with_len_more}
use Rattle.std.proofs.lemmas.List.Sums.{fold_push}
use Rattle.waveform.specs.declared.field.Field.{Field}
use Rattle.nn_mapping.specs.MappedField.{component_of, sum_over}

-- those of the first n sources whose nearest target is v
abbrev pub sources_before : List ℕ → ℕ → ℕ → List ℕ
sources_before nearest v n = filter (λ s. eqb (get_or nearest s 0) v) (range_with_len 0 n)

pub range_more : (n : ℕ) → range_with_len 0 (n + 1) ≡ range_with_len 0 n ++ n ∷ []
range_more n =
    sym (map-id (range_with_len 0 (n + 1)))
    ∙ map-range_with_len_more (λ (k : ℕ). k) 0 n n (omega arith)
    ∙ ap (λ (ks : List ℕ). ks ++ n ∷ []) (map-id (range_with_len 0 n))

sources_more : (nearest : List ℕ) (v n : ℕ) (b : Bool) → eqb (get_or nearest n 0) v ≡ b
    → sources_before nearest v (n + 1) ≡ sources_before nearest v n ++ cond b (n ∷ []) []
sources_more nearest v n b is =
    ap (filter (λ s. eqb (get_or nearest s 0) v)) (range_more n)
    ∙ filter-append (λ s. eqb (get_or nearest s 0) v) (range_with_len 0 n) (n ∷ [])
    ∙ ap (λ (b : Bool). sources_before nearest v n ++ cond b (n ∷ []) []) is

-- one source more, which is the target's
pub sum-taken : (field : Field) (c v n : ℕ) (nearest : List ℕ) → get_or nearest n 0 ≡ v
    → sum_over field c (sources_before nearest v (n + 1)) ≡ sum_over field c (sources_before nearest v n) +ℤ component_of field n c
sum-taken field c v n nearest is =
    ap (sum_over field c) (sources_more nearest v n true (eq-eqb (get_or nearest n 0) v is))
    ∙ fold_push (λ (so_far : ℤ) (s : ℕ). so_far +ℤ component_of field s c) (pos 0) (sources_before nearest v n) n

-- one source more, which is another target's
pub sum-left : (field : Field) (c v n : ℕ) (nearest : List ℕ) → (get_or nearest n 0 ≡ v → ⊥)
    → sum_over field c (sources_before nearest v (n + 1)) ≡ sum_over field c (sources_before nearest v n)
sum-left field c v n nearest other =
    ap (sum_over field c) (sources_more nearest v n false (ne_eqb (get_or nearest n 0) v other) ∙ append-nil (sources_before nearest v n))

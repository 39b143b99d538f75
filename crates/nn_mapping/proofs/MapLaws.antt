-- What mappings keep: conservative ones the sum of a component, consistent ones a constant.
use Rattle.std.proofs.Common.{◌≡◌, ℕ, zero, suc, ◌+◌, ◌*◌, ◌<◌, ◌≤◌, Bool, true, false, cond, Option, None, Some, Result, Ok, Err, List, ℤ, pos, ◌+ℤ◌, length, get_or, fold, refl, sym, subst, ap, ◌∙◌, inl, inr, arith}
use Rattle.std.specs.List.{range_with_len}
use Rattle.std.specs.Option.{option_map_or}
use Rattle.std.proofs.lemmas.Bool.{cases_eq}
use Rattle.std.proofs.lemmas.Int.{ints}
use Rattle.std.proofs.lemmas.List.{get_or-map}
use Rattle.std.proofs.lemmas.List.Sums.{fold_push}
use Rattle.std.proofs.lemmas.Nat.{row_fits}
use Rattle.waveform.specs.declared.field.Field.{Field}
use Rattle.nn_mapping.specs.Mapping.{Mapping, IsMapping}
use Rattle.nn_mapping.specs.MappedField.{places, mapped_component, mapped_values, overflow_of, mapped_field, sum_over, sources_of, component_of, total_of}
use Rattle.nn_mapping.proofs.SourceSums.{range_more, sources_before, sum-taken, sum-left}
use Rattle.nn_mapping.proofs.Places.{length-places, get_or-places, component-summed, component-copied}

defined_is : (overflow : Option (ℕ × ℕ)) (field out : Field) → option_map_or {T = ℕ × ℕ} {U = Result Field (ℕ × ℕ)} Err overflow (Ok field) ≡ Ok out → out ≡ field
defined_is None field out e = cc
defined_is (Some place) field out e = absurd (cc)

-- what a mapped field has at its places
component-mapped : (m : Mapping) (field out : Field) (v c : ℕ) → mapped_field m field ≡ Ok out → v < m.targets → c < field.components
    → component_of out v c ≡ mapped_component m field (v, c)
unfolding mapped_values
component-mapped m field out v c is within column =
    let same = defined_is (overflow_of m field) (record { components = field.components; values = mapped_values m field }) out is in
    let inside = row_fits v field.components m.targets field.components within (omega arith) in
    ap (λ (f : Field). component_of f v c) same
    ∙ get_or-map (mapped_component m field) (places m.targets field.components) (v * field.components + c) (0, 0) (pos 0)
    (omega (arith, length-places m.targets field.components, inside, column))
    ∙ ap (mapped_component m field) (get_or-places m.targets field.components v c (0, 0) within column)

-- the sum of f over the first n numbers
total : (ℕ → ℤ) → ℕ → ℤ
total f n = fold (λ (so_far : ℤ) (v : ℕ). so_far +ℤ f v) (pos 0) (range_with_len 0 n)

total_more : (f : ℕ → ℤ) (n : ℕ) → total f (n + 1) ≡ total f n +ℤ f n
unfolding total
total_more f n =
    ap (fold (λ (so_far : ℤ) (v : ℕ). so_far +ℤ f v) (pos 0)) (range_more n)
    ∙ fold_push (λ (so_far : ℤ) (v : ℕ). so_far +ℤ f v) (pos 0) (range_with_len 0 n) n

total_suc : (f : ℕ → ℤ) (n : ℕ) → total f (suc n) ≡ total f n +ℤ f n
total_suc f n = let one : suc n ≡ n + 1 = omega arith in ap (total f) one ∙ total_more f n

total_none : (f : ℕ → ℤ) → total f 0 ≡ pos 0
unfolding total
total_none f = refl

total_same : (f g : ℕ → ℤ) (n : ℕ) → ((v : ℕ) → v < n → f v ≡ g v) → total f n ≡ total g n
total_same f g zero same = total_none f ∙ sym (total_none g)
total_same f g (suc n) same =
    total_suc f n
    ∙ ap (λ (sum : ℤ). sum +ℤ f n) (total_same f g n (λ v before. same v (omega arith)))
    ∙ ap (λ (x : ℤ). total g n +ℤ x) (same n (omega arith))
    ∙ sym (total_suc g n)

total_zeros : (f : ℕ → ℤ) (n : ℕ) → ((v : ℕ) → f v ≡ pos 0) → total f n ≡ pos 0
total_zeros f zero zeros = total_none f
total_zeros f (suc n) zeros = let more = total_suc f n in let before = total_zeros f n zeros in let here = zeros n in omega (arith, ints, more, before, here)

-- one function is the other, but more by x at the number k
total_kept : (f g : ℕ → ℤ) (k n : ℕ) → ((v : ℕ) → (k ≡ v → ⊥) → g v ≡ f v) → n ≤ k → total g n ≡ total f n
total_kept f g k n kept low = total_same g f n (λ v before. kept v (λ same. omega (arith, same, before, low)))

total_raised : (f g : ℕ → ℤ) (x : ℤ) (k n : ℕ) → ((v : ℕ) → (k ≡ v → ⊥) → g v ≡ f v) → g k ≡ f k +ℤ x → k < n → total g n ≡ total f n +ℤ x
total_raised f g x k zero kept raised within = absurd (omega arith)
total_raised f g x k (suc n) kept raised within =
    let of_f = total_suc f n in
    let of_g = total_suc g n in
    elim (cases_eq k n) [
      | inl last ↦
          let before = total_kept f g k n kept (omega arith) in
          let f_here = ap f last in
          let g_here = ap g last in
          omega (arith, ints, of_f, of_g, before, raised, f_here, g_here)
      | inr other ↦
          let before = total_raised f g x k n kept raised (omega (arith, other, within)) in
          let here = kept n other in
          omega (arith, ints, of_f, of_g, before, here)
    ]

-- the sums over the first n sources, of all targets, are the sum over these sources
exchanged : (field : Field) (c targets : ℕ) (nearest : List ℕ) (n : ℕ) → ((s : ℕ) → s < n → get_or nearest s 0 < targets)
    → total (λ v. sum_over field c (sources_before nearest v n)) targets ≡ total (λ s. component_of field s c) n
exchanged field c targets nearest zero within =
    total_zeros (λ v. sum_over field c (sources_before nearest v zero)) targets (λ v. refl) ∙ sym (total_none (λ s. component_of field s c))
exchanged field c targets nearest (suc n) within =
    let one : suc n ≡ n + 1 = omega arith in
    let raised = total_raised (λ v. sum_over field c (sources_before nearest v n)) (λ v. sum_over field c (sources_before nearest v (n + 1))) (component_of field n c) (get_or nearest n 0) targets
    (λ v other. sum-left field c v n nearest other) (sum-taken field c (get_or nearest n 0) n nearest refl) (within n (omega arith)) in
    ap (λ (k : ℕ). total (λ v. sum_over field c (sources_before nearest v k)) targets) one
    ∙ raised
    ∙ ap (λ (sum : ℤ). sum +ℤ component_of field n c) (exchanged field c targets nearest n (λ s before. within s (omega arith)))
    ∙ sym (total_suc (λ s. component_of field s c) n)

pub total_of-conservative : (m : Mapping) (field out : Field) (c : ℕ) → IsMapping m → m.conservative ≡ true → mapped_field m field ≡ Ok out → c < field.components
    → total_of out m.targets c ≡ total_of field m.sources c
unfolding total
total_of-conservative m field out c mapping kind is column =
    let rows : length m.nearest ≡ m.sources = mapping.one_for_each ∙ ap (λ (b : Bool). cond b m.sources m.targets) kind in
    let summed = total_same (λ v. component_of out v c) (λ v. sum_over field c (sources_of m.nearest v)) m.targets
    (λ v within. component-mapped m field out v c is within column ∙ component-summed m field v c kind) in
    let vertices : (s : ℕ) → s < length m.nearest → get_or m.nearest s 0 < m.targets =
    λ s inside. subst (λ (b : Bool). get_or m.nearest s 0 < cond b m.targets m.sources) kind (mapping.vertices s 0 inside) in
    summed ∙ exchanged field c m.targets m.nearest (length m.nearest) vertices ∙ ap (total (λ s. component_of field s c)) rows

pub component_of-constant : (m : Mapping) (field out : Field) (c : ℕ) (value : ℤ) → IsMapping m → m.conservative ≡ false → mapped_field m field ≡ Ok out → c < field.components
    → ((s : ℕ) → s < m.sources → component_of field s c ≡ value) → (v : ℕ) → v < m.targets → component_of out v c ≡ value
component_of-constant m field out c value mapping kind is column constant v within =
    let rows : length m.nearest ≡ m.targets = mapping.one_for_each ∙ ap (λ (b : Bool). cond b m.sources m.targets) kind in
    let source : get_or m.nearest v 0 < m.sources =
    subst (λ (b : Bool). get_or m.nearest v 0 < cond b m.targets m.sources) kind (mapping.vertices v 0 (omega (arith, rows, within))) in
    component-mapped m field out v c is within column ∙ component-copied m field v c kind ∙ constant (get_or m.nearest v 0) source

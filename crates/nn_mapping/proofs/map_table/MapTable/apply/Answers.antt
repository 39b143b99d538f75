use Rattle.std.proofs.Common.{◌≡◌, ℕ, ◌*◌, ◌+◌, ◌<◌, List, ℤ, length, get_or, pos, Bool, true, cond, subst, arith, sym, ap, ◌∙◌}
use Rattle.std.proofs.lemmas.List.{take_at}
use Rattle.waveform.specs.declared.field.Field.{Field}
use Rattle.nn_mapping.specs.Mapping.{Mapping}
use Rattle.nn_mapping.specs.MappedField.{mapped_values, sum_over, sources_of, component_of}
use Rattle.nn_mapping.specs.Refusals.{IsCauseOf}
use Rattle.nn_mapping.proofs.Places.{mapped_values_are, mapped-undefined, mapped-defined, mapped-consistent, component-summed, component-copied}
use Rattle.nn_mapping.proofs.map_table.MapTable.apply.Goals as goal

-- the sums are what is mapped
pub sums_are : (m : Mapping) (field : Field) (nearest : List ℕ) (sums : List ℤ) (targets : ℕ) → nearest ≡ m.nearest → targets ≡ m.targets → m.conservative ≡ true
    → length sums ≡ targets * field.components
    → ((v c : ℕ) → v < targets → c < field.components → get_or sums (v * field.components + c) (pos 0) ≡ sum_over field c (sources_of nearest v))
    → sums ≡ mapped_values m field
sums_are m field nearest sums targets same_nearest same_targets kind size each =
    mapped_values_are m field sums (size ∙ ap (λ (n : ℕ). n * field.components) same_targets)
    (λ v c within column.
    each v c (rw same_targets within) column
    ∙ ap (λ (list : List ℕ). sum_over field c (sources_of list v)) same_nearest
    ∙ sym (component-summed m field v c kind))

pub returns-in-Some-clause-overflow : goal.returns-in-Some-clause-overflow
returns-in-Some-clause-overflow c =
    let kind = sym (ap (λ (m : Mapping). m.conservative) c.self.view_is) ∙ c.if-self.true in
    let sums = sums_are c.args.self.now c.args.field.now c.as_slice-nearest.result.now c.in_ok-sums.sums.items c.self.inside.targets
    (c.as_slice-nearest.ensures.value ∙ ap (λ (m : Mapping). m.nearest) c.self.view_is) (ap (λ (m : Mapping). m.targets) c.self.view_is) kind
    c.in_ok-sums.ensures.len c.in_ok-sums.ensures.sums in
    subst (IsCauseOf c.args.self.now c.args.field.now) (sym c.overflow_at.ensures)
    (mapped-undefined c.args.self.now c.args.field.now c.as_slice.result.now c.in-Some.i kind (c.as_slice.ensures.value ∙ sums)
    c.in-Some.ensures.found c.in-Some.ensures.no_value c.in-Some.ensures.first)

pub returns-in_default-clause-mapped : goal.returns-in_default-clause-mapped
returns-in_default-clause-mapped c =
    let kind = sym (ap (λ (m : Mapping). m.conservative) c.self.view_is) ∙ c.if-self.true in
    let sums = sums_are c.args.self.now c.args.field.now c.as_slice-nearest.result.now c.in_ok-sums.sums.items c.self.inside.targets
    (c.as_slice-nearest.ensures.value ∙ ap (λ (m : Mapping). m.nearest) c.self.view_is) (ap (λ (m : Mapping). m.targets) c.self.view_is) kind
    c.in_ok-sums.ensures.len c.in_ok-sums.ensures.sums in
    let size : length c.write_sums.new.out ≡ c.take_values-values.result.len = omega (arith, c.write_sums.auto.out, c.deref_mut.ensures.len) in
    let written : c.from_vec.result ≡ c.write_sums.new.out = c.from_vec.ensures ∙ take_at c.write_sums.new.out _ c.take_values-values.result.len size in
    let values : c.from_vec.result ≡ c.as_slice.result.now = written ∙ c.write_sums.ensures ∙ c.as_slice-then-self.ensures.value ∙ sym c.as_slice.ensures.value in
    mapped-defined c.args.self.now c.args.field.now c.from_vec.result c.take_values-values.new.field.components kind
    (values ∙ c.as_slice.ensures.value ∙ sums) (rw values c.in_default.ensures.none) (c.take_values-values.ensures.components ∙ sym c.requires.components)

pub returns-else-self-clause-mapped : goal.returns-else-self-clause-mapped
returns-else-self-clause-mapped c =
    let kind = sym (ap (λ (m : Mapping). m.conservative) c.self.view_is) ∙ c.if-self.false in
    let nearest = c.as_slice-nearest.ensures.value ∙ ap (λ (m : Mapping). m.nearest) c.self.view_is in
    let targets = ap (λ (m : Mapping). m.targets) c.self.view_is in
    let size : length c.copy_rows.new.out ≡ c.take_values-values-else-self.result.len = omega (arith, c.copy_rows.auto.out, c.deref_mut-else-self.ensures.len) in
    let written : c.from_vec-else-self.result ≡ c.copy_rows.new.out = c.from_vec-else-self.ensures ∙ take_at c.copy_rows.new.out _ c.take_values-values-else-self.result.len size in
    let old : length c.deref_mut-else-self.result.now ≡ length c.args.out.now.values = ap length (c.deref_mut-else-self.ensures.value ∙ c.take_values-values-else-self.ensures.values) in
    let whole = ap length written ∙ c.copy_rows.auto.out ∙ old ∙ c.requires.out ∙ ap (λ (n : ℕ). c.args.self.now.targets * n) (sym c.requires.components) in
    let rows : length c.as_slice-nearest.result.now ≡ c.args.self.now.targets =
    ap length c.as_slice-nearest.ensures.value ∙ c.self.invariant.one_for_each
    ∙ ap (λ (b : Bool). cond b c.self.inside.sources c.self.inside.targets) c.if-self.false ∙ targets in
    let values = mapped_values_are c.args.self.now c.args.field.now c.from_vec-else-self.result whole
    (λ v k within column.
    ap (λ (xs : List ℤ). get_or xs (v * c.args.field.now.components + k) (pos 0)) written
    ∙ c.copy_rows.ensures v k (rw rows within) column
    ∙ ap (λ (xs : List ℤ). get_or xs (get_or c.as_slice-nearest.result.now v 0 * c.args.field.now.components + k) (pos 0)) c.as_slice-else-self.ensures
    ∙ ap (λ (list : List ℕ). component_of c.args.field.now (get_or list v 0) k) nearest
    ∙ sym (component-copied c.args.self.now c.args.field.now v k kind)) in
    mapped-consistent c.args.self.now c.args.field.now c.from_vec-else-self.result c.take_values-values-else-self.new.field.components kind
    values (c.take_values-values-else-self.ensures.components ∙ sym c.requires.components)

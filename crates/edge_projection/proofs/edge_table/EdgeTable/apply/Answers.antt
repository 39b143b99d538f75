use Rattle.std.proofs.Common.{◌≡◌, ℕ, ◌*◌, ◌+◌, ◌<◌, List, ℤ, length, get_or, pos, Bool, true, cond, subst, arith, sym, ap, ◌∙◌}
use Rattle.std.proofs.lemmas.List.{take_at}
use Rattle.waveform.specs.declared.field.Field.{Field}
use Rattle.edge_projection.specs.declared.edge.Foot.{Foot}
use Rattle.edge_projection.specs.EdgeMapping.{EdgeMapping, IsEdgeMapping}
use Rattle.edge_projection.specs.MappedField.{mapped_values, component_of, foot_number, between, given_by, total}
use Rattle.edge_projection.specs.Refusals.{IsSumCause}
use Rattle.edge_projection.proofs.Places.{mapped_values_are, mapped-undefined, mapped-defined, mapped-consistent, component-summed, component-between}
use Rattle.edge_projection.proofs.FieldLaws.{total_of-conservative}
use Rattle.edge_projection.proofs.edge_table.EdgeTable.apply.Goals as goal

-- the sums are what is mapped
pub sums_are : (m : EdgeMapping) (field : Field) (feet : List Foot) (sums : List ℤ) (targets : ℕ) → feet ≡ m.feet → length feet ≡ m.sources → targets ≡ m.targets → m.conservative ≡ true
    → length sums ≡ targets * field.components
    → ((v c : ℕ) → v < targets → c < field.components → get_or sums (v * field.components + c) (pos 0) ≡ total (given_by feet field c v) (length feet))
    → sums ≡ mapped_values m field
sums_are m field feet sums targets same_feet sources same_targets kind size each =
    mapped_values_are m field sums (size ∙ ap (λ (n : ℕ). n * field.components) same_targets)
    (λ v c within column.
    each v c (rw same_targets within) column
    ∙ ap (λ (n : ℕ). total (given_by feet field c v) n) sources
    ∙ ap (λ (list : List Foot). total (given_by list field c v) m.sources) same_feet
    ∙ sym (component-summed m field v c kind))

pub returns-in-Some-clause-overflow : goal.returns-in-Some-clause-overflow
returns-in-Some-clause-overflow c =
    let kind = sym (ap (λ (m : EdgeMapping). m.conservative) c.self.view_is) ∙ c.if-self.true in
    let feet = c.as_slice-feet.ensures.value ∙ ap (λ (m : EdgeMapping). m.feet) c.self.view_is in
    let sources : length c.as_slice-feet.result.now ≡ c.args.self.now.sources =
    ap length c.as_slice-feet.ensures.value ∙ c.self.invariant.one_for_each ∙ ap (λ (b : Bool). cond b c.self.inside.sources c.self.inside.targets) c.if-self.true ∙ ap (λ (m : EdgeMapping). m.sources) c.self.view_is in
    let sums = sums_are c.args.self.now c.args.field.now c.as_slice-feet.result.now c.in_ok-sums.sums.items c.self.inside.targets feet sources
    (ap (λ (m : EdgeMapping). m.targets) c.self.view_is) kind c.in_ok-sums.ensures.len c.in_ok-sums.ensures.sums in
    subst (IsSumCause c.args.self.now c.args.field.now) (sym c.overflow_at.ensures)
    (mapped-undefined c.args.self.now c.args.field.now c.as_slice.result.now c.in-Some.i kind (c.as_slice.ensures.value ∙ sums)
    c.in-Some.ensures.found c.in-Some.ensures.no_value c.in-Some.ensures.first)

pub returns-in_default-clause-mapped : goal.returns-in_default-clause-mapped
returns-in_default-clause-mapped c =
    let kind = sym (ap (λ (m : EdgeMapping). m.conservative) c.self.view_is) ∙ c.if-self.true in
    let feet = c.as_slice-feet.ensures.value ∙ ap (λ (m : EdgeMapping). m.feet) c.self.view_is in
    let sources : length c.as_slice-feet.result.now ≡ c.args.self.now.sources =
    ap length c.as_slice-feet.ensures.value ∙ c.self.invariant.one_for_each ∙ ap (λ (b : Bool). cond b c.self.inside.sources c.self.inside.targets) c.if-self.true ∙ ap (λ (m : EdgeMapping). m.sources) c.self.view_is in
    let sums = sums_are c.args.self.now c.args.field.now c.as_slice-feet.result.now c.in_ok-sums.sums.items c.self.inside.targets feet sources
    (ap (λ (m : EdgeMapping). m.targets) c.self.view_is) kind c.in_ok-sums.ensures.len c.in_ok-sums.ensures.sums in
    let size : length c.write_sums.new.out ≡ c.take_values-values.result.len = omega (arith, c.write_sums.auto.out, c.deref_mut.ensures.len) in
    let written : c.from_vec.result ≡ c.write_sums.new.out = c.from_vec.ensures ∙ take_at c.write_sums.new.out _ c.take_values-values.result.len size in
    let values : c.from_vec.result ≡ c.as_slice.result.now = written ∙ c.write_sums.ensures ∙ c.as_slice-then-self.ensures.value ∙ sym c.as_slice.ensures.value in
    mapped-defined c.args.self.now c.args.field.now c.from_vec.result c.take_values-values.new.field.components kind
    (values ∙ c.as_slice.ensures.value ∙ sums) (rw values c.in_default.ensures.none) (c.take_values-values.ensures.components ∙ sym c.requires.components)

pub returns-else-self-clause-mapped : goal.returns-else-self-clause-mapped
returns-else-self-clause-mapped c =
    let kind = sym (ap (λ (m : EdgeMapping). m.conservative) c.self.view_is) ∙ c.if-self.false in
    let feet = c.as_slice-feet.ensures.value ∙ ap (λ (m : EdgeMapping). m.feet) c.self.view_is in
    let targets = ap (λ (m : EdgeMapping). m.targets) c.self.view_is in
    let size : length c.write_rows.new.out ≡ c.take_values-values-else-self.result.len = omega (arith, c.write_rows.auto.out, c.deref_mut-else-self.ensures.len) in
    let written : c.from_vec-else-self.result ≡ c.write_rows.new.out = c.from_vec-else-self.ensures ∙ take_at c.write_rows.new.out _ c.take_values-values-else-self.result.len size in
    let old : length c.deref_mut-else-self.result.now ≡ length c.args.out.now.values = ap length (c.deref_mut-else-self.ensures.value ∙ c.take_values-values-else-self.ensures.values) in
    let whole = ap length written ∙ c.write_rows.auto.out ∙ old ∙ c.requires.out ∙ ap (λ (n : ℕ). c.args.self.now.targets * n) (sym c.requires.components) in
    let rows : length c.as_slice-feet.result.now ≡ c.args.self.now.targets =
    ap length c.as_slice-feet.ensures.value ∙ c.self.invariant.one_for_each
    ∙ ap (λ (b : Bool). cond b c.self.inside.sources c.self.inside.targets) c.if-self.false ∙ targets in
    let values = mapped_values_are c.args.self.now c.args.field.now c.from_vec-else-self.result whole
    (λ v k within column.
    ap (λ (xs : List ℤ). get_or xs (v * c.args.field.now.components + k) (pos 0)) written
    ∙ c.write_rows.ensures v k (rw rows within) column
    ∙ ap (λ (xs : List ℤ). between (foot_number c.as_slice-feet.result.now v).weight
    (get_or xs ((foot_number c.as_slice-feet.result.now v).a * c.args.field.now.components + k) (pos 0))
    (get_or xs ((foot_number c.as_slice-feet.result.now v).b * c.args.field.now.components + k) (pos 0))) c.as_slice-else-self.ensures
    ∙ ap (λ (list : List Foot). between (foot_number list v).weight (component_of c.args.field.now (foot_number list v).a k) (component_of c.args.field.now (foot_number list v).b k)) feet
    ∙ sym (component-between c.args.self.now c.args.field.now v k kind)) in
    mapped-consistent c.args.self.now c.args.field.now c.from_vec-else-self.result c.take_values-values-else-self.new.field.components kind
    values (c.take_values-values-else-self.ensures.components ∙ sym c.requires.components)

pub returns-in_default-clause-total : goal.returns-in_default-clause-total
returns-in_default-clause-total c = λ kind k column.
    total_of-conservative c.args.self.now c.args.field.now (record { components = c.take_values-values.new.field.components; values = c.from_vec.result }) k
    (subst IsEdgeMapping c.self.view_is c.self.invariant) kind (returns-in_default-clause-mapped c) column

pub returns-else-self-clause-total : goal.returns-else-self-clause-total
returns-else-self-clause-total c = λ kind k column.
    let other = sym (ap (λ (m : EdgeMapping). m.conservative) c.self.view_is) ∙ c.if-self.false in
    absurd (cc)

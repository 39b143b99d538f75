-- What mappings keep: conservative ones the sum of a component; consistent ones lie between the ends.
use Rattle.std.proofs.Common.{◌≡◌, ℕ, zero, suc, ◌+◌, ◌*◌, ◌<◌, Bool, true, false, cond, eq-eqb, Option, None, Some, Result, Ok, Err, List, ℤ, pos, ◌+ℤ◌, length, refl, sym, subst, ap, ◌∙◌, arith}
use Rattle.std.specs.Option.{option_map_or}
use Rattle.std.proofs.lemmas.Bool.{ne_eqb}
use Rattle.std.proofs.lemmas.Int.{ints}
use Rattle.std.proofs.lemmas.List.{get_or-map}
use Rattle.std.proofs.lemmas.Nat.{row_fits}
use Rattle.waveform.specs.declared.field.Field.{Field}
use Rattle.waveform.specs.Between.{IsBetween}
use Rattle.edge_projection.specs.declared.edge.Foot.{Foot}
use Rattle.edge_projection.specs.Places.{places}
use Rattle.edge_projection.specs.NearestFoot.{IsFootIn}
use Rattle.edge_projection.specs.EdgeMapping.{EdgeMapping, IsEdgeMapping}
use Rattle.edge_projection.specs.MappedField.{mapped_component, mapped_values, overflow_of, mapped_field, component_of, foot_number, part_of, given_at, given_by, total, total_of}
use Rattle.edge_projection.proofs.Totals.{total_suc, total_none, total_same, total_zeros, total_raised}
use Rattle.edge_projection.proofs.Places.{length-places, get_or-places, component-summed, component-between}
use Rattle.edge_projection.proofs.RoundedParts.{between-IsBetween}

defined_is : (overflow : Option (ℕ × ℕ)) (field out : Field) → option_map_or {T = ℕ × ℕ} {U = Result Field (ℕ × ℕ)} Err overflow (Ok field) ≡ Ok out → out ≡ field
defined_is None field out e = cc
defined_is (Some place) field out e = absurd (cc)

-- what a mapped field has at its places
component-mapped : (m : EdgeMapping) (field out : Field) (v c : ℕ) → mapped_field m field ≡ Ok out → v < m.targets → c < field.components
    → component_of out v c ≡ mapped_component m field (v, c)
unfolding mapped_values
component-mapped m field out v c is within column =
    let same = defined_is (overflow_of m field) (record { components = field.components; values = mapped_values m field }) out is in
    let inside = row_fits v field.components m.targets field.components within (omega arith) in
    ap (λ (f : Field). component_of f v c) same
    ∙ get_or-map (mapped_component m field) (places m.targets field.components) (v * field.components + c) (0, 0) (pos 0)
    (omega (arith, length-places m.targets field.components, inside, column))
    ∙ ap (mapped_component m field) (get_or-places m.targets field.components v c (0, 0) within column)

-- what is given at one vertex is given once
given-here : (w : ℕ) (x : ℤ) → given_at w w x ≡ x
given-here w x = ap (λ (b : Bool). cond b x (pos 0)) (eq-eqb w w refl)

given-elsewhere : (w v : ℕ) (x : ℤ) → (w ≡ v → ⊥) → given_at w v x ≡ pos 0
given-elsewhere w v x other = ap (λ (b : Bool). cond b x (pos 0)) (ne_eqb w v other)

given_once : (f : ℕ → ℤ) (w n : ℕ) (x : ℤ) → w < n → total (λ v. f v +ℤ given_at w v x) n ≡ total f n +ℤ x
given_once f w n x within =
    total_raised f (λ v. f v +ℤ given_at w v x) x w n
    (λ v other. let none = given-elsewhere w v x other in omega (arith, ints, none))
    (let here = given-here w x in ap (λ (y : ℤ). f w +ℤ y) here) within

-- both parts of a value make it up
parts_whole : (m : ℕ) (x : ℤ) → part_of true m x +ℤ part_of false m x ≡ x
parts_whole m x = omega (arith, ints)

-- what the first n sources give, at all targets, is the sum over these sources
exchanged : (field : Field) (c targets : ℕ) (feet : List Foot) (n : ℕ)
    → ((u : ℕ) → u < n → IsFootIn targets (foot_number feet u))
    → total (λ v. total (given_by feet field c v) n) targets ≡ total (λ u. component_of field u c) n
exchanged field c targets feet zero inside =
    total_zeros (λ v. total (given_by feet field c v) zero) targets (λ v. total_none (given_by feet field c v)) ∙ sym (total_none (λ u. component_of field u c))
exchanged field c targets feet (suc n) inside =
    let foot = foot_number feet n in
    let rest = part_of true (foot_number feet n).weight (component_of field n c) in
    let share = part_of false (foot_number feet n).weight (component_of field n c) in
    let more = total_same (λ v. total (given_by feet field c v) (suc n))
    (λ v. (total (given_by feet field c v) n +ℤ given_at (foot_number feet n).a v rest) +ℤ given_at (foot_number feet n).b v share) targets
    (λ v within. let one = total_suc (given_by feet field c v) n in omega (arith, ints, one)) in
    let to_b = given_once (λ v. total (given_by feet field c v) n +ℤ given_at (foot_number feet n).a v rest) (foot_number feet n).b targets share (inside n (omega arith)).b in
    let to_a = given_once (λ v. total (given_by feet field c v) n) (foot_number feet n).a targets rest (inside n (omega arith)).a in
    let before = exchanged field c targets feet n (λ u less. inside u (omega arith)) in
    let last = total_suc (λ u. component_of field u c) n in
    let whole = parts_whole (foot_number feet n).weight (component_of field n c) in
    omega (arith, ints, more, to_b, to_a, before, last, whole)

rows_of : (m : EdgeMapping) → IsEdgeMapping m → m.conservative ≡ true → length m.feet ≡ m.sources
rows_of m mapping kind = mapping.one_for_each ∙ ap (λ (b : Bool). cond b m.sources m.targets) kind

pub total_of-conservative : (m : EdgeMapping) (field out : Field) (c : ℕ) → IsEdgeMapping m → m.conservative ≡ true → mapped_field m field ≡ Ok out → c < field.components
    → total_of out m.targets c ≡ total_of field m.sources c
total_of-conservative m field out c mapping kind is column =
    let rows = rows_of m mapping kind in
    total_same (λ v. component_of out v c) (λ v. total (given_by m.feet field c v) m.sources) m.targets
    (λ v within. component-mapped m field out v c is within column ∙ component-summed m field v c kind)
    ∙ exchanged field c m.targets m.feet m.sources
    (λ u within. subst (λ (b : Bool). IsFootIn (cond b m.targets m.sources) (foot_number m.feet u)) kind (mapping.inside u (record { number = 0; a = 0; b = 0; weight = 0; square = 0 }) (omega (arith, rows, within))))

pub component_of-between : (m : EdgeMapping) (field out : Field) (v c : ℕ) → IsEdgeMapping m → m.conservative ≡ false → mapped_field m field ≡ Ok out → v < m.targets → c < field.components
    → IsBetween (component_of field (foot_number m.feet v).a c) (component_of field (foot_number m.feet v).b c) (component_of out v c)
component_of-between m field out v c mapping kind is within column =
    let rows : length m.feet ≡ m.targets = mapping.one_for_each ∙ ap (λ (b : Bool). cond b m.sources m.targets) kind in
    let foot = foot_number m.feet v in
    let weight = (mapping.inside v (record { number = 0; a = 0; b = 0; weight = 0; square = 0 }) (omega (arith, rows, within))).weight in
    subst (IsBetween (component_of field (foot_number m.feet v).a c) (component_of field (foot_number m.feet v).b c))
    (sym (component-mapped m field out v c is within column ∙ component-between m field v c kind))
    (between-IsBetween (foot_number m.feet v).weight (component_of field (foot_number m.feet v).a c) (component_of field (foot_number m.feet v).b c) weight)

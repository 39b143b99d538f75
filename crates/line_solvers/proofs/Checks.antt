-- When new components become the state, and when the step faults.
use Rattle.std.proofs.Common.{◌≡◌, ℕ, ◌+◌, ◌<◌, true, false, List, [], ◌∷◌, ◌++◌, length, get_or, map, take, All, ℤ, pos, Option, arith, refl, sym, ap, subst, append_assoc, ◌∙◌}
use mir.Syntax.{w64}
use mir.Val.{to_z, of_z}
use Rattle.std.specs.List.{list_all, range_with_len}
use Rattle.std.proofs.lemmas.List.{map-id, map_more}
use Rattle.std.proofs.lemmas.List.FromFn.{map-range_with_len_more, get_or-map-range_with_len, length-map-range_with_len}
use Rattle.std.proofs.lemmas.List.Elements.{All-head, All-tail, All-map, All-push}
use Rattle.std.proofs.lemmas.List.Folds.{list_all_at, list_all-map, list_all-append}
use Rattle.fixed_num.specs.Numbers.{IsValue, is_value}
use Rattle.fixed_num.proofs.ValueTests.{is_value-true, is_value-false}
use Rattle.solver_trait.specs.Behaviour.{goes_on, faults}
use Rattle.line_solvers.specs.declared.case.RowParts.{RowParts}
use Rattle.line_solvers.specs.Components.{component}
use Rattle.line_solvers.specs.RowsStep.{row_component, rows_components}
use Rattle.line_solvers.specs.Checked.{reaches, written, checked}
use Rattle.line_solvers.proofs.Sums.{value_back}

pub list_all-values : (components : List ℤ) → All IsValue components → list_all is_value components ≡ true
list_all-values [] values = refl
list_all-values (x ∷ xs) values = rw (is_value-true x (All-head IsValue x xs values)) (list_all-values xs (All-tail IsValue x xs values))

-- components that are Values become the state, unless one reaches the bound
pub checked-goes : (forbid : Option ℕ) (out : List ℕ) (components : List ℤ) → All IsValue components → reaches forbid components ≡ false
    → checked forbid out components ≡ goes_on components (written out components)
checked-goes forbid out components values below = rw (list_all-values components values, below)

-- where one reaches the bound, the step faults
pub checked-reaches : (forbid : Option ℕ) (out : List ℕ) (components : List ℤ) → All IsValue components → reaches forbid components ≡ true
    → checked forbid out components ≡ faults 2
checked-reaches forbid out components values reached = rw (list_all-values components values, reached)

-- where one is no Value, it faults before
pub checked-no_value : (forbid : Option ℕ) (out : List ℕ) (components : List ℤ) → list_all is_value components ≡ false → checked forbid out components ≡ faults 1
checked-no_value forbid out components fails = rw fails

-- the same for those behind others, and for those before others
pub behind-no_value : (forbid : Option ℕ) (out : List ℕ) (front back : List ℤ) → list_all is_value back ≡ false → checked forbid out (front ++ back) ≡ faults 1
behind-no_value forbid out front back fails =
    let some : list_all is_value (front ++ back) ≡ false = list_all-append is_value front back ∙ grind (arith, fails) in
    checked-no_value forbid out (front ++ back) some

pub before-no_value : (forbid : Option ℕ) (out : List ℕ) (front back : List ℤ) → list_all is_value front ≡ false → checked forbid out (front ++ back) ≡ faults 1
before-no_value forbid out front back fails =
    let some : list_all is_value (front ++ back) ≡ false = list_all-append is_value front back ∙ grind (arith, fails) in
    checked-no_value forbid out (front ++ back) some

-- a component that is no Value, of those that a loop makes
pub loop-no_value : (f : ℕ → ℤ) (n i : ℕ) → i < n → (IsValue (f i) → ⊥) → list_all is_value (map f (range_with_len 0 n)) ≡ false
loop-no_value f n i h no_value =
    let at : get_or (map f (range_with_len 0 n)) i (pos 0) ≡ f i = get_or-map-range_with_len f 0 n i i (pos 0) h (omega arith) in
    let within : i < length (map f (range_with_len 0 n)) = omega (arith, h, length-map-range_with_len f 0 n) in
    list_all_at is_value (map f (range_with_len 0 n)) i (pos 0) within (rw at (is_value-false (f i) no_value))

-- one component more
pub loop_more : (f : ℕ → ℤ) (i : ℕ) → map f (range_with_len 0 (i + 1)) ≡ map f (range_with_len 0 i) ++ f i ∷ []
loop_more f i = map-range_with_len_more f 0 i i (omega arith)

-- the component that is pushed next, behind what was there before the loop
pub push_is : (front old new : List ℤ) (f : ℕ → ℤ) (i : ℕ) (v : ℤ) → IsValue v → v ≡ f i
    → new ≡ old ++ to_z w64 (of_z w64 v) ∷ [] → old ≡ front ++ map f (range_with_len 0 i) → new ≡ front ++ map f (range_with_len 0 (i + 1))
push_is front old new f i v value is pushed before =
    let read : to_z w64 (of_z w64 v) ≡ f i = value_back v value ∙ is in
    pushed
    ∙ ap (λ (xs : List ℤ). xs ++ to_z w64 (of_z w64 v) ∷ []) before
    ∙ ap (λ (x : ℤ). (front ++ map f (range_with_len 0 i)) ++ x ∷ []) read
    ∙ append_assoc front (map f (range_with_len 0 i)) (f i ∷ [])
    ∙ ap (λ (xs : List ℤ). front ++ xs) (sym (loop_more f i))

pub push_values : (old new : List ℤ) (v : ℤ) → IsValue v → new ≡ old ++ to_z w64 (of_z w64 v) ∷ [] → All IsValue old → All IsValue new
push_values old new v value pushed before =
    let read = value_back v value in
    subst (λ (xs : List ℤ). All IsValue xs) (sym (rw read at pushed)) (All-push IsValue old v before value)

-- a row whose component is no Value
pub row-no_value : (rows : List RowParts) (state inputs : List ℤ) (i : ℕ) (row : RowParts) → i < length rows → row ≡ get_or rows i row
    → (IsValue (row_component state inputs row) → ⊥) → list_all is_value (rows_components rows state inputs) ≡ false
row-no_value rows state inputs i row h is no_value =
    let fails = is_value-false (row_component state inputs row) no_value in
    let at_row : is_value (row_component state inputs (get_or rows i row)) ≡ false = rw (← is) fails in
    list_all-map is_value (row_component state inputs) rows ∙ list_all_at (λ (r : RowParts). is_value (row_component state inputs r)) rows i row h at_row

-- one row more makes one component more
pub row_more : (rows : List RowParts) (state inputs : List ℤ) (i : ℕ) (row : RowParts) → i < length rows → row ≡ get_or rows i row
    → (old new : List ℤ) (v : ℤ) → IsValue v → v ≡ row_component state inputs row
    → new ≡ old ++ to_z w64 (of_z w64 v) ∷ [] → old ≡ rows_components (take i rows) state inputs → new ≡ rows_components (take (i + 1) rows) state inputs
row_more rows state inputs i row h is old new v value component pushed before =
    let read : to_z w64 (of_z w64 v) ≡ row_component state inputs row = value_back v value ∙ component in
    let more : rows_components (take (i + 1) rows) state inputs ≡ rows_components (take i rows) state inputs ++ row_component state inputs row ∷ [] =
    map_more (row_component state inputs) rows i row h ∙ rw (← is) in
    pushed
    ∙ ap (λ (xs : List ℤ). xs ++ to_z w64 (of_z w64 v) ∷ []) before
    ∙ ap (λ (x : ℤ). rows_components (take i rows) state inputs ++ x ∷ []) read
    ∙ sym more

component-value : (components : List ℤ) (place : ℕ) → place < length components → All IsValue components → IsValue (component components place)
component-value components place h values = values place (pos 0) h

-- what is written are Values
pub written-values : (components : List ℤ) (out : List ℕ) → All (λ place. place < length components) out → All IsValue components → All IsValue (written out components)
written-values components out places values =
    All-map IsValue (component components) out (λ k d h. component-value components (get_or out k d) (places k d h) values)

-- one number more
pub range_more : (first n : ℕ) → range_with_len first (n + 1) ≡ range_with_len first n ++ (first + n) ∷ []
range_more first n =
    sym (map-id (range_with_len first (n + 1)))
    ∙ map-range_with_len_more (λ (k : ℕ). k) first n (first + n) (omega arith)
    ∙ ap (λ (ks : List ℕ). ks ++ (first + n) ∷ []) (map-id (range_with_len first n))

-- How many components an entry has, and which entry a call names.
use Rattle.std.proofs.Common.{◌≡◌, inl, inr, not, suc, ℕ, ◌+◌, ◌-◌, ◌*◌, ◌<◌, ◌≤◌, Bool, true, false, ◌||◌, nat_eq, nat_lt, cond, if◌then◌else◌, List, [], ◌∷◌, map, length, slice_get, Option, Some, None, All, ℤ, position, refl, ap, ap₂, sym, subst, ◌∙◌, arith}
use Rattle.std.specs.Prelude.{option_map, option_and_then, IfSome}
use Rattle.std.specs.List.{position_or_len}
use Rattle.std.specs.Option.{option_map_or}
use Rattle.std.proofs.lemmas.Bool.{eqb-true, ltb-true, or_cases, and_parts}
use Rattle.std.proofs.lemmas.Option.{same_Some}
use Rattle.mesh_data.specs.AnyMeshes.{vertices_of}
use Rattle.mesh_data.specs.declared.any_mesh.AnyMesh.{AnyMesh}
use Rattle.cpl_plan.specs.PlanWords.{components, components_on}
use Rattle.cpl_plan.specs.ValidPlan.{IsValidPlan}
use Rattle.cpl_plan.specs.declared.parts.PlanParts.{PlanParts}
use Rattle.cpl_plan.specs.declared.parts.PlanEntry.{PlanEntry}
use Rattle.cpl_plan.specs.declared.parts.MeshPlan.{MeshPlan}
use Rattle.cpl_plan.specs.declared.parts.DataPlan.{DataPlan}
use Rattle.cpl_plan.proofs.Readings.{each_at}
use Rattle.wave_coupling.specs.Known.{write_entries}
use Rattle.participant_words.specs.Entries.{components_in, components_written}
use Rattle.participant_words.specs.Named.{entry_written, is_entry, place_of}
use Rattle.participant_words.specs.Refusals.{Refusal, bad_length, bad_value, bad_vertex, first_of}
use Rattle.participant_tables.specs.WriteKept.{WriteKept}
use Rattle.participant_tables.specs.WriteSteps.{opening_writes}
use Rattle.participant_state.specs.Together.{shape_of}
use Rattle.participant_state.proofs.TablesMean.{components_kept}

module _ (plan : PlanParts) (valid : IsValidPlan plan) where
  dimensions_few : (mesh : ℕ) (m : MeshPlan) → slice_get plan.meshes mesh ≡ Some m → m.dimensions ≤ 3
  dimensions_few mesh m at =
      elim (or_cases (nat_eq m.dimensions 2) (nat_eq m.dimensions 3) (each_at (λ _ (g : MeshPlan). nat_eq g.dimensions 2 || nat_eq g.dimensions 3) plan.meshes valid.meshes.dimensions mesh m at)) [
        | inl two ↦ let is : m.dimensions ≡ 2 = eqb-true m.dimensions 2 two in by_number m.dimensions 2 is (few 2 refl)
        | inr three ↦ let is : m.dimensions ≡ 3 = eqb-true m.dimensions 3 three in by_number m.dimensions 3 is (few 3 refl)
      ]
    where
      few : (n : ℕ) → nat_lt n 4 ≡ true → n ≤ 3
      few n is = let below = ltb-true n 4 is in omega (arith, below)

      by_number : (a b : ℕ) → a ≡ b → b ≤ 3 → a ≤ 3
      by_number a b is le = subst (λ (n : ℕ). n ≤ 3) (sym is) le

  components_few : (data_id mesh : ℕ) → option_map_or (λ n. n) (components_on plan data_id mesh) 0 ≤ 3
  components_few data_id mesh = by (slice_get plan.data_list data_id) (slice_get plan.meshes mesh) refl
    where
      one : (vector : Bool) (dimensions : ℕ) → dimensions ≤ 3 → (if vector then dimensions else 1) ≤ 3
      one true dimensions few = few
      one false dimensions few = omega arith

      by : (d : Option DataPlan) (g : Option MeshPlan) → slice_get plan.meshes mesh ≡ g
          → option_map_or (λ n. n) (option_and_then (λ (item : DataPlan). option_map (λ (m : MeshPlan). components item m) g) d) 0 ≤ 3
      by None g at = omega arith
      by (Some item) None at = omega arith
      by (Some item) (Some m) at = one item.vector m.dimensions (dimensions_few mesh m at)

  pub written_few : (part entry : ℕ) → components_written plan part entry ≤ 3
  written_few part entry = by (slice_get (write_entries plan part) entry)
    where
      by : (o : Option PlanEntry) → option_map_or (components_in plan part) o 0 ≤ 3
      by None = omega arith
      by (Some e) = components_few e.data_id e.mesh

pub components_told : (plan : PlanParts) (part : ℕ) (writes : List WriteKept) → map shape_of writes ≡ opening_writes plan part → (entry n : ℕ)
    → option_map (λ (e : WriteKept). e.components) (slice_get writes entry) ≡ Some n → n ≡ components_written plan part entry
components_told plan part writes shapes entry n told = by (slice_get writes entry) refl told
  where
    by : (o : Option WriteKept) → slice_get writes entry ≡ o → option_map (λ (e : WriteKept). e.components) o ≡ Some n → n ≡ components_written plan part entry
    by None at told = cc
    by (Some e) at told = sym (same_Some e.components n told) ∙ components_kept plan part writes shapes entry e at

pub len_told : (writes : List WriteKept) (entry n count many : ℕ) → option_map (λ (e : WriteKept). e.components) (slice_get writes entry) ≡ Some n → many ≡ count * n
    → IfSome (slice_get writes entry) (λ (e : WriteKept). many ≡ count * e.components)
len_told writes entry n count many told is = by (slice_get writes entry) told
  where
    by : (o : Option WriteKept) → option_map (λ (e : WriteKept). e.components) o ≡ Some n → IfSome o (λ (e : WriteKept). many ≡ count * e.components)
    by None told = tt
    by (Some e) told = is ∙ ap (λ (k : ℕ). count * k) (sym (same_Some e.components n told))

pub thrice : (a b : ℕ) → b ≤ 3 → a * b ≤ a * 3
thrice a b few =
    let more : 3 ≡ b + (3 - b) = omega (arith, few) in
    subst (λ (n : ℕ). a * b ≤ a * n) (sym more) (omega arith)

-- the vertices are those of the mesh at the place
pub all_inside : (own : List AnyMesh) (place size : ℕ) (mesh : AnyMesh) (vertices : List ℕ) → slice_get own place ≡ Some mesh
    → size ≡ option_map_or (λ m. length (vertices_of m)) (slice_get own place) 0 → All (λ v. v < size) vertices
    → All (λ v. v < length (vertices_of mesh)) vertices
all_inside own place size mesh vertices at is all =
    subst (λ (n : ℕ). All (λ v. v < n) vertices) (is ∙ ap (λ (o : Option AnyMesh). option_map_or (λ m. length (vertices_of m)) o 0) at) all

-- the same refusal, by equal numbers
abbrev pub rows_refusal : (size count : ℕ) → (vertices : List ℕ) → (rows : List ℤ) → Refusal
rows_refusal size count vertices rows = first_of (bad_vertex size vertices ∷ bad_length (length vertices * count) (length rows) ∷ bad_value rows ∷ [])

pub told_refusal : (size size_now count count_now : ℕ) (vertices : List ℕ) (rows : List ℤ) → size ≡ size_now → count ≡ count_now
    → (r : Refusal) → rows_refusal size count vertices rows ≡ r → rows_refusal size_now count_now vertices rows ≡ r
told_refusal size size_now count count_now vertices rows same_size same_count r is =
    sym (ap₂ (λ (s n : ℕ). rows_refusal s n vertices rows) same_size same_count) ∙ is

-- what is found passes the test
one_more : (n : ℕ) → suc n ≡ 1 + n
one_more n = omega arith

first_passes : {X : Type 0} (test : X → Bool) (xs : List X) → IfSome (slice_get xs (position_or_len test xs)) (λ x. test x ≡ true)
first_passes test [] = tt
first_passes {X} test (x ∷ xs) = of (test x) refl (first_passes test xs)
  where
    of : (b : Bool) → test x ≡ b → IfSome (slice_get xs (position_or_len test xs)) (λ y. test y ≡ true)
        → IfSome (slice_get (x ∷ xs) (cond (not (test x)) (1 + position_or_len test xs) 0)) (λ y. test y ≡ true)
    of true here rest =
        subst (λ (b : Bool). IfSome (slice_get (x ∷ xs) (cond (not b) (1 + position_or_len test xs) 0)) (λ (y : X). test y ≡ true)) (sym here) here
    of false here rest =
        subst (λ (b : Bool). IfSome (slice_get (x ∷ xs) (cond (not b) (1 + position_or_len test xs) 0)) (λ (y : X). test y ≡ true)) (sym here)
        (subst (λ (n : ℕ). IfSome (slice_get (x ∷ xs) n) (λ (y : X). test y ≡ true)) (one_more (position_or_len test xs)) rest)

found_passes : {X : Type 0} (test : X → Bool) (xs : List X) (k : ℕ) → position test xs ≡ Some k → IfSome (slice_get xs k) (λ x. test x ≡ true)
found_passes {X} test xs k is = by (nat_lt (position_or_len test xs) (length xs)) is (first_passes test xs)
  where
    by : (b : Bool) → cond b (Some (position_or_len test xs)) None ≡ Some k → IfSome (slice_get xs (position_or_len test xs)) (λ x. test x ≡ true)
        → IfSome (slice_get xs k) (λ x. test x ≡ true)
    by true is first = subst (λ (n : ℕ). IfSome (slice_get xs n) (λ (x : X). test x ≡ true)) (same_Some (position_or_len test xs) k is) first
    by false is first = cc

pub entry_found_on : (plan : PlanParts) (part place data_id entry : ℕ) → entry_written plan part place data_id ≡ Some entry
    → IfSome (slice_get (write_entries plan part) entry) (λ e. place_of plan part e.mesh ≡ place)
entry_found_on plan part place data_id entry is = by (slice_get (write_entries plan part) entry) (found_passes (is_entry plan part place data_id) (write_entries plan part) entry is)
  where
    by : (o : Option PlanEntry) → IfSome o (λ e. is_entry plan part place data_id e ≡ true) → IfSome o (λ e. place_of plan part e.mesh ≡ place)
    by None passes = tt
    by (Some e) passes = eqb-true (place_of plan part e.mesh) place (and_parts (nat_eq (place_of plan part e.mesh) place) (nat_eq e.data_id data_id) passes).0

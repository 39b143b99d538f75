-- The names of a valid plan's data, and those of the meshes that a participant provides, are apart.
use Rattle.std.proofs.Common.{◌≡◌, ℕ, zero, suc, ◌<◌, Bool, true, false, not, ◌||◌, nat_eq, List, [], ◌∷◌, length, map, take, get_or, Option, Some, None, Contains, All, refl, ap, sym, ◌∙◌}
use Rattle.std.specs.Prelude.{slice_get}
use Rattle.std.specs.List.{list_any, list_all}
use Rattle.std.specs.Option.{option_map, option_map_or}
use Rattle.std.specs.Str.{bytes_eq}
use Rattle.std.proofs.lemmas.Bool.{and_parts, and_from, or_parts, not-true, false≢true, false_from_ne_true, eq-eqb, ltb-true}
use Rattle.std.proofs.lemmas.Slice.Eq.{bytes_eq-Decides}
use Rattle.plan_order.proofs.Loops.{head_in, tail_in}
use Rattle.std.proofs.lemmas.List.Elements.{Contains-get_or}
use Rattle.std.proofs.lemmas.List.{take-map}
use Rattle.std.proofs.lemmas.Option.{slice_get-get_or}
use Rattle.core_laws.proofs.Steps.{all_tell}
use Rattle.cpl_plan.specs.PlanTests.{mesh_names, is_mesh}
use Rattle.cpl_plan.specs.PlanWords.{are_distinct}
use Rattle.cpl_plan.specs.ValidPlan.{IsValidPlan}
use Rattle.cpl_plan.specs.declared.parts.PlanParts.{PlanParts}
use Rattle.cpl_plan.specs.declared.parts.Part.{Part}
use Rattle.cpl_plan.specs.declared.parts.MeshPlan.{MeshPlan}
use Rattle.cpl_plan.proofs.Readings.{each_at, there}
use Rattle.participant_tables.specs.Named.{mesh_name}
use Rattle.participant_tables.proofs.NameKeys.{turned}

-- what an item has in common with none of a list, it has not with one of it
none_at : {X : Type 0} (test : X → Bool) (xs : List X) → list_any test xs ≡ false → (k : ℕ) (x : X) → slice_get xs k ≡ Some x → test x ≡ false
none_at test [] none k x is = cc
none_at test (y ∷ xs) none zero x is =
    let same : x ≡ y = cc in
    ap test same ∙ (or_parts (test y) (list_any test xs) none).0
none_at test (y ∷ xs) none (suc k) x is = none_at test xs (or_parts (test y) (list_any test xs) none).1 k x is

-- a name is not among those before it
pub new_name : (names : List (List ℕ)) (k : ℕ) (name : List ℕ) → are_distinct bytes_eq names ≡ true → slice_get names k ≡ Some name → list_any (bytes_eq name) (take k names) ≡ false
new_name [] k name once is = cc
new_name (x ∷ names) zero name once is = refl
new_name (x ∷ names) (suc k) name once is =
    let parts = and_parts (not (list_any (bytes_eq x) names)) (are_distinct bytes_eq names) once in
    let apart : bytes_eq x name ≡ false = none_at (bytes_eq x) names (not-true (list_any (bytes_eq x) names) parts.0) k name is in
    ap (λ b. b || list_any (bytes_eq name) (take k names)) (turned name x ∙ apart) ∙ new_name names k name parts.1 is

-- two places of one name are one
one_place : (names : List (List ℕ)) → are_distinct bytes_eq names ≡ true → (i j : ℕ) (name : List ℕ) → slice_get names i ≡ Some name → slice_get names j ≡ Some name → i ≡ j
one_place [] once i j name one other = cc
one_place (x ∷ names) once zero zero name one other = refl
one_place (x ∷ names) once zero (suc j) name one other =
    let parts = and_parts (not (list_any (bytes_eq x) names)) (are_distinct bytes_eq names) once in
    let apart : bytes_eq x name ≡ false = none_at (bytes_eq x) names (not-true (list_any (bytes_eq x) names) parts.0) j name other in
    let same : x ≡ name = cc in
    absurd (false≢true (sym apart ∙ (bytes_eq-Decides x name).1 same))
one_place (x ∷ names) once (suc i) zero name one other =
    let parts = and_parts (not (list_any (bytes_eq x) names)) (are_distinct bytes_eq names) once in
    let apart : bytes_eq x name ≡ false = none_at (bytes_eq x) names (not-true (list_any (bytes_eq x) names) parts.0) i name one in
    let same : x ≡ name = cc in
    absurd (false≢true (sym apart ∙ (bytes_eq-Decides x name).1 same))
one_place (x ∷ names) once (suc i) (suc j) name one other =
    ap suc (one_place names (and_parts (not (list_any (bytes_eq x) names)) (are_distinct bytes_eq names) once).1 i j name one other)

-- names of distinct numbers are distinct where equal names are of one number
named_apart : (f : ℕ → List ℕ) (ns : List ℕ) → ((a b : ℕ) → Contains ns a → Contains ns b → f a ≡ f b → a ≡ b) → are_distinct nat_eq ns ≡ true → are_distinct bytes_eq (map f ns) ≡ true
named_apart f [] tells once = refl
named_apart f (n ∷ ns) tells once =
    let parts = and_parts (not (list_any (nat_eq n) ns)) (are_distinct nat_eq ns) once in
    let none : list_any (bytes_eq (f n)) (map f ns) ≡ false = unnamed ns (λ m inside. tail_in n ns m inside) (not-true (list_any (nat_eq n) ns) parts.0) in
    and_from (not (list_any (bytes_eq (f n)) (map f ns))) (are_distinct bytes_eq (map f ns)) (ap not none)
    (named_apart f ns (λ a b one other. tells a b (tail_in n ns a one) (tail_in n ns b other)) parts.1)
  where
    unnamed : (ms : List ℕ) → ((m : ℕ) → Contains ms m → Contains (n ∷ ns) m) → list_any (nat_eq n) ms ≡ false → list_any (bytes_eq (f n)) (map f ms) ≡ false
    unnamed [] within none = refl
    unnamed (m ∷ ms) within none =
        let parts = or_parts (nat_eq n m) (list_any (nat_eq n) ms) none in
        let apart : bytes_eq (f n) (f m) ≡ false =
        false_from_ne_true (bytes_eq (f n) (f m)) (λ is. false≢true (sym parts.0 ∙ eq-eqb n m (tells n m (head_in n ns) (within m (head_in m ms)) ((bytes_eq-Decides (f n) (f m)).0 is)))) in
        ap (λ b. b || list_any (bytes_eq (f n)) (map f ms)) apart ∙ unnamed ms (λ k inside. within k (tail_in m ms k inside)) parts.1

pub at_map : {X Y : Type 0} (f : X → Y) (xs : List X) (k : ℕ) (x : X) → slice_get xs k ≡ Some x → slice_get (map f xs) k ≡ Some (f x)
at_map f [] k x is = cc
at_map f (y ∷ xs) zero x is = let same : y ≡ x = cc in ap (λ z. Some (f z)) same
at_map f (y ∷ xs) (suc k) x is = at_map f xs k x is

module _ (plan : PlanParts) (valid : IsValidPlan plan) where
  -- a mesh has its name at its number
  pub named_at : (m : ℕ) → m < length plan.meshes → slice_get (mesh_names plan) m ≡ Some (mesh_name plan m)
  named_at m within =
      let at = there plan.meshes m within in
      at_map (λ (mesh : MeshPlan). mesh.name) plan.meshes m at.0 at.1
      ∙ sym (ap (λ (o : Option MeshPlan). Some (option_map_or (λ mesh. mesh.name) o [])) at.1)

  tell : (a b : ℕ) → a < length plan.meshes → b < length plan.meshes → mesh_name plan a ≡ mesh_name plan b → a ≡ b
  tell a b one other same = one_place (mesh_names plan) valid.sizes.meshes_named_once a b (mesh_name plan b) (named_at a one ∙ ap Some same) (named_at b other)

  module _ (part : ℕ) (p : Part) (at : slice_get plan.parts part ≡ Some p) where
    -- what a participant provides is there
    pub provides_there : All (λ mesh. mesh < length plan.meshes) p.provides
    provides_there k d within =
        ltb-true (get_or p.provides k d) (length plan.meshes)
        (all_tell (is_mesh plan) p.provides (get_or p.provides k d) (each_at (λ _ (q : Part). list_all (is_mesh plan) q.provides) plan.parts valid.participants.provided_declared part p at) (Contains-get_or p.provides k d within))

    there_in : (m : ℕ) → Contains p.provides m → m < length plan.meshes
    there_in m inside =
        ltb-true m (length plan.meshes) (all_tell (is_mesh plan) p.provides m (each_at (λ _ (q : Part). list_all (is_mesh plan) q.provides) plan.parts valid.participants.provided_declared part p at) inside)

    -- and no two of them have one name
    pub provides_apart : are_distinct bytes_eq (map (mesh_name plan) p.provides) ≡ true
    provides_apart =
        named_apart (mesh_name plan) p.provides (λ a b one other same. tell a b (there_in a one) (there_in b other) same)
        (each_at (λ _ (q : Part). are_distinct nat_eq q.provides) plan.parts valid.participants.provided_once part p at)

-- the name of an item is not among those of the items before it
pub new_item : {X : Type 0} (name_of : X → List ℕ) (xs : List X) (k : ℕ) (x : X) (names : List (List ℕ)) → names ≡ map name_of (take k xs) → x ≡ get_or xs k x → k < length xs → are_distinct bytes_eq (map name_of xs) ≡ true
    → list_any (bytes_eq (name_of x)) names ≡ false
new_item {X} name_of xs k x names are is within once =
    let at : slice_get (map name_of xs) k ≡ Some (name_of x) = at_map name_of xs k x (slice_get-get_or xs k x within ∙ ap (λ (y : X). Some y) (sym is)) in
    ap (list_any (bytes_eq (name_of x))) (are ∙ sym (take-map name_of k xs)) ∙ new_name (map name_of xs) k (name_of x) once at

-- the name that a plan tells of a mesh
pub told_name : (plan : PlanParts) (mesh : ℕ) (name : List ℕ) → option_map (λ m. m.name) (slice_get plan.meshes mesh) ≡ Some name → name ≡ mesh_name plan mesh
told_name plan mesh name is = of (slice_get plan.meshes mesh) is
  where
    of : (o : Option MeshPlan) → option_map (λ (m : MeshPlan). m.name) o ≡ Some name → name ≡ option_map_or (λ (m : MeshPlan). m.name) o []
    of None is = cc
    of (Some m) is = cc

-- the same of the item at a place
pub new_at : {X : Type 0} (name_of : X → List ℕ) (xs : List X) (k : ℕ) (d : X) (names : List (List ℕ)) → names ≡ map name_of (take k xs) → k < length xs → are_distinct bytes_eq (map name_of xs) ≡ true
    → list_any (bytes_eq (name_of (get_or xs k d))) names ≡ false
new_at {X} name_of xs k d names are within once =
    let at : slice_get (map name_of xs) k ≡ Some (name_of (get_or xs k d)) = at_map name_of xs k (get_or xs k d) (slice_get-get_or xs k d within) in
    ap (list_any (bytes_eq (name_of (get_or xs k d)))) (are ∙ sym (take-map name_of k xs)) ∙ new_name (map name_of xs) k (name_of (get_or xs k d)) once at

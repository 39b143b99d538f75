-- Each participant knows the meshes of its exchanges as their owners provide them.
use Rattle.std.proofs.Common.{◌≡◌, ◌⊎◌, inl, inr, ℕ, suc, ◌+◌, ◌<◌, Bool, true, false, ◌&&◌, ◌||◌, not, nat_eq, cond, List, [], ◌∷◌, length, get_or, map, filter_map, position, slice_get, Option, Some, None, Contains, refl, ap, sym, subst, ◌∙◌, arith}
use Rattle.std.specs.Prelude.{option_map, option_and_then}
use Rattle.std.specs.List.{list_all, position_or_len}
use Rattle.std.specs.Option.{option_map_or}
use Rattle.std.proofs.lemmas.Bool.{and_parts, or_cases, eqb-true, eq-eqb, lt-ltb, ltb-true, false≢true}
use Rattle.std.proofs.lemmas.List.Elements.{Contains-get_or}
use Rattle.std.proofs.lemmas.List.Quantifiers.{position-Some}
use Rattle.std.proofs.lemmas.Option.{slice_get-get_or, slice_get-map, slice_get_within}
use Rattle.plan_order.proofs.Loops.{in_cons}
use Rattle.plan_order.proofs.Orders.{none_in_nil}
use Rattle.mesh_data.specs.AnyMeshes.{vertices_of}
use Rattle.mesh_data.specs.declared.any_mesh.AnyMesh.{AnyMesh}
use Rattle.cpl_plan.specs.PlanWords.{are_only, is_among, numbers, provides, providers, receives}
use Rattle.cpl_plan.specs.PlanTests.{goes_over, is_mesh}
use Rattle.cpl_plan.specs.ValidPlan.{IsValidPlan}
use Rattle.cpl_plan.specs.declared.parts.PlanParts.{PlanParts}
use Rattle.cpl_plan.specs.declared.parts.Part.{Part}
use Rattle.cpl_plan.specs.declared.parts.MeshPlan.{MeshPlan}
use Rattle.cpl_plan.proofs.Readings.{each_at, passes_at, among_in, in_among, in_filter, in_numbers, same_numbers, there}
use Rattle.coupled_loop.specs.PlanFrames.{owners_of}
use Rattle.core_laws.proofs.Openings.{all_some}
use Rattle.core_laws.proofs.Steps.{all_tell}
use Rattle.wave_coupling.specs.Known.{own_mesh, received_mesh, received_meshes, points_of}
use Rattle.wave_values.specs.Fits.{KnowsMeshes}
use Rattle.wave_readings.specs.Setting.{known_of, provided_of, provided_mesh, vertices_at}

-- the first place of what passes
place_within : {X : Type 0} (p : X → Bool) (xs : List X) (x : X) → Contains xs x → p x ≡ true → position_or_len p xs < length xs
place_within p [] x inside is = absurd (none_in_nil x inside)
place_within {X} p (y ∷ ys) x inside is = by (p y) refl (λ rest. place_within p ys x rest is)
  where
    by : (b : Bool) → p y ≡ b → (Contains ys x → position_or_len p ys < length ys) → cond (not b) (1 + position_or_len p ys) 0 < suc (length ys)
    by true here later = omega (arith)
    by false off later = elim (in_cons y ys x inside) [
      | inl same ↦ absurd (false≢true (sym off ∙ ap p same ∙ is))
      | inr rest ↦ let less = later rest in omega (arith, less)
    ]

place_of : {X : Type 0} (p : X → Bool) (xs : List X) (x : X) → Contains xs x → p x ≡ true → position p xs ≡ Some (position_or_len p xs)
place_of p xs x inside is =
    ap (λ (b : Bool). cond b (Some (position_or_len p xs)) None) (lt-ltb (position_or_len p xs) (length xs) (place_within p xs x inside is))

-- the first place of a number that is among others
pub number_at : (n : ℕ) (ns : List ℕ) → is_among n ns ≡ true → (i : ℕ) × (position (nat_eq n) ns ≡ Some i) × (slice_get ns i ≡ Some n)
number_at n ns among =
    let at : position (nat_eq n) ns ≡ Some (position_or_len (nat_eq n) ns) = place_of (nat_eq n) ns n (among_in n ns among) (eq-eqb n n refl) in
    let found = position-Some (nat_eq n) ns (position_or_len (nat_eq n) ns) 0 at in (
      position_or_len (nat_eq n) ns,
      at,
      slice_get-get_or ns (position_or_len (nat_eq n) ns) 0 found.0 ∙ ap (λ (m : ℕ). Some m) (sym (eqb-true n (get_or ns (position_or_len (nat_eq n) ns) 0) found.1)),
    )

pub number_off : (n : ℕ) (ns : List ℕ) → is_among n ns ≡ false → position (nat_eq n) ns ≡ None
number_off n ns off = by (position (nat_eq n) ns) refl
  where
    by : (o : Option ℕ) → position (nat_eq n) ns ≡ o → position (nat_eq n) ns ≡ None
    by None at = at
    by (Some i) at =
        let found = position-Some (nat_eq n) ns i 0 at in
        let same : n ≡ get_or ns i 0 = eqb-true n (get_or ns i 0) found.1 in
        absurd (false≢true (sym off ∙ in_among n ns (subst (λ (m : ℕ). Contains ns m) (sym same) (Contains-get_or ns i 0 found.0))))

only_one : (owner part : ℕ) (ns : List ℕ) → are_only owner ns ≡ true → Contains ns part → part ≡ owner
only_one owner part ns only inside =
    elim (in_cons owner [] part (subst (λ (ms : List ℕ). Contains ms part) (sym (same_numbers (owner ∷ []) ns only)) inside)) [
      | inl same ↦ sym same
      | inr none ↦ absurd (none_in_nil part none)
    ]

not_true : (b : Bool) → not b ≡ true → b ≡ false
not_true true is = absurd (false≢true is)
not_true false is = refl

module _ (plan : PlanParts) (valid : IsValidPlan plan) (meshes : ℕ → List AnyMesh)
    (all : (part : ℕ) → part < length plan.parts → length (meshes part) ≡ length (provided_of plan part)) (part : ℕ) (below : part < length plan.parts) (n : ℕ) where
  -- the mesh as its owner provides it
  at_owner : (m : MeshPlan) → slice_get plan.meshes n ≡ Some m → vertices_at plan meshes n ≡ length (option_map_or vertices_of (provided_mesh plan meshes m.owner n) [])
  at_owner m at = ap (λ (o : Option MeshPlan). option_map_or (λ (m : MeshPlan). length (option_map_or vertices_of (provided_mesh plan meshes m.owner n) [])) o 0) at

  -- one that the participant provides
  own_points : provides plan part n ≡ true → length (points_of plan part (known_of plan meshes part) n) ≡ vertices_at plan meshes n
  own_points is =
      let one = passes_at plan.parts part (λ (p : Part). is_among n p.provides) is in
      let lists : provided_of plan part ≡ one.0.provides = ap (λ (o : Option Part). option_map_or (λ (p : Part). p.provides) o []) one.1 in
      let declared : n < length plan.meshes =
      ltb-true n (length plan.meshes) (all_tell (is_mesh plan) one.0.provides n (each_at (λ _ p. list_all (is_mesh plan) p.provides) plan.parts valid.participants.provided_declared part one.0 one.1) (among_in n one.0.provides one.2)) in
      let mesh = there plan.meshes n declared in
      let owner : part ≡ mesh.0.owner =
      only_one mesh.0.owner part (providers plan n) (each_at (λ number m. are_only m.owner (providers plan number)) plan.meshes valid.meshes.one_provider n mesh.0 mesh.1)
      (in_filter (λ (q : ℕ). provides plan q n) (numbers plan.parts) part (in_numbers plan.parts part below) is) in
      let place = number_at n (provided_of plan part) (ap (is_among n) lists ∙ one.2) in
      let first : place.0 < length (meshes part) = let inside = slice_get_within (provided_of plan part) place.0 n place.2 in let many = all part below in omega (arith, inside, many) in
      let stands = there (meshes part) place.0 first in
      let found : provided_mesh plan meshes part n ≡ Some stands.0 = ap (λ (o : Option ℕ). option_and_then (slice_get (meshes part)) o) place.1 ∙ stands.1 in
      ap (λ (o : Option AnyMesh). length (option_map_or vertices_of o (option_map_or vertices_of (received_mesh plan part (known_of plan meshes part) n) []))) found
      ∙ sym (ap (λ (o : Option AnyMesh). length (option_map_or vertices_of o [])) found)
      ∙ ap (λ (p : ℕ). length (option_map_or vertices_of (provided_mesh plan meshes p n) [])) owner
      ∙ sym (at_owner mesh.0 mesh.1)

  abbrev owner_at : ℕ → ℕ
  owner_at mesh = option_map_or (λ (m : MeshPlan). m.owner) (slice_get plan.meshes mesh) 0

  -- one that it receives
  received_points : receives plan part n ≡ true → length (points_of plan part (known_of plan meshes part) n) ≡ vertices_at plan meshes n
  received_points is =
      let one = passes_at plan.parts part (λ (p : Part). is_among n p.receives) is in
      let lists : received_meshes plan part ≡ one.0.receives = ap (λ (o : Option Part). option_map_or (λ (p : Part). p.receives) o []) one.1 in
      let declared = each_at (λ _ p. list_all (is_mesh plan) p.receives) plan.parts valid.participants.received_declared part one.0 one.1 in
      let mesh = there plan.meshes n (ltb-true n (length plan.meshes) (all_tell (is_mesh plan) one.0.receives n declared (among_in n one.0.receives one.2))) in
      let others : provides plan part n ≡ false =
      not_true (provides plan part n) (all_tell (λ (m : ℕ). not (provides plan part m)) one.0.receives n
      (each_at (λ p q. list_all (λ m. not (provides plan p m)) q.receives) plan.parts valid.participants.received_from_others part one.0 one.1) (among_in n one.0.receives one.2)) in
      let off : is_among n (provided_of plan part) ≡ false =
      ap (λ (o : Option Part). is_among n (option_map_or (λ (p : Part). p.provides) o [])) one.1 ∙ sym (ap (λ (o : Option Part). option_map_or (λ (p : Part). is_among n p.provides) o false) one.1) ∙ others in
      let none : own_mesh plan part (known_of plan meshes part) n ≡ None = ap (λ (o : Option ℕ). option_and_then (slice_get (meshes part)) o) (number_off n (provided_of plan part) off) in
      let owners : owners_of plan part ≡ map owner_at one.0.receives =
      ap (λ (o : Option Part). option_map_or (λ (p : Part). filter_map (λ (mesh : ℕ). option_map (λ (m : MeshPlan). m.owner) (slice_get plan.meshes mesh)) p.receives) o []) one.1
      ∙ all_some (λ (mesh : ℕ). option_map (λ (m : MeshPlan). m.owner) (slice_get plan.meshes mesh)) owner_at one.0.receives
      (λ other inside.
      let stands = there plan.meshes other (ltb-true other (length plan.meshes) (all_tell (is_mesh plan) one.0.receives other declared inside)) in
      ap (λ (o : Option MeshPlan). option_map (λ (m : MeshPlan). m.owner) o) stands.1 ∙ sym (ap (λ (o : Option MeshPlan). Some (option_map_or (λ (m : MeshPlan). m.owner) o 0)) stands.1)) in
      let place = number_at n one.0.receives one.2 in
      let given : slice_get (map meshes (owners_of plan part)) place.0 ≡ Some (meshes mesh.0.owner) =
      ap (λ (ps : List ℕ). slice_get (map meshes ps) place.0) owners
      ∙ slice_get-map meshes (map owner_at one.0.receives) place.0
      ∙ ap (λ (o : Option ℕ). option_map meshes o) (slice_get-map owner_at one.0.receives place.0 ∙ ap (λ (o : Option ℕ). option_map owner_at o) place.2)
      ∙ ap (λ (o : Option MeshPlan). Some (meshes (option_map_or (λ (m : MeshPlan). m.owner) o 0))) mesh.1 in
      let received : received_mesh plan part (known_of plan meshes part) n ≡ provided_mesh plan meshes mesh.0.owner n =
      ap (λ (o : Option MeshPlan). option_and_then (λ (m : MeshPlan). option_and_then (λ (ms : List AnyMesh). option_and_then (slice_get ms) (position (nat_eq n) (provided_of plan m.owner)))
      (option_and_then (slice_get (map meshes (owners_of plan part))) (position (nat_eq n) (received_meshes plan part)))) o) mesh.1
      ∙ ap (λ (o : Option (List AnyMesh)). option_and_then (λ (ms : List AnyMesh). option_and_then (slice_get ms) (position (nat_eq n) (provided_of plan mesh.0.owner))) o)
      (ap (λ (ms : List ℕ). option_and_then (slice_get (map meshes (owners_of plan part))) (position (nat_eq n) ms)) lists
      ∙ ap (λ (o : Option ℕ). option_and_then (slice_get (map meshes (owners_of plan part))) o) place.1 ∙ given) in
      ap (λ (o : Option AnyMesh). length (option_map_or vertices_of o (option_map_or vertices_of (received_mesh plan part (known_of plan meshes part) n) []))) none
      ∙ ap (λ (o : Option AnyMesh). length (option_map_or vertices_of o [])) received
      ∙ sym (at_owner mesh.0 mesh.1)

-- so it is where each participant has one mesh for each that it provides
pub meshes_known : (plan : PlanParts) → IsValidPlan plan → (meshes : ℕ → List AnyMesh) → ((part : ℕ) → part < length plan.parts → length (meshes part) ≡ length (provided_of plan part))
    → (part : ℕ) → part < length plan.parts → KnowsMeshes plan (vertices_at plan meshes) part (known_of plan meshes part)
meshes_known plan valid meshes all part below x e at ends = by ends
  where
    crosses : ((provides plan e.from e.mesh && receives plan e.to e.mesh) || (provides plan e.to e.mesh && receives plan e.from e.mesh)) ≡ true
    crosses = each_at (λ _ one. goes_over plan one) plan.exchanges valid.exchanges.crossing x e at

    by_test : (provides plan part e.mesh ≡ true) ⊎ (receives plan part e.mesh ≡ true) → length (points_of plan part (known_of plan meshes part) e.mesh) ≡ vertices_at plan meshes e.mesh
    by_test (inl is) = own_points plan valid meshes all part below e.mesh is
    by_test (inr is) = received_points plan valid meshes all part below e.mesh is

    sender : (provides plan e.from e.mesh ≡ true) ⊎ (receives plan e.from e.mesh ≡ true)
    sender = elim (or_cases (provides plan e.from e.mesh && receives plan e.to e.mesh) (provides plan e.to e.mesh && receives plan e.from e.mesh) crosses) [
      | inl one ↦ inl (and_parts (provides plan e.from e.mesh) (receives plan e.to e.mesh) one).0
      | inr other ↦ inr (and_parts (provides plan e.to e.mesh) (receives plan e.from e.mesh) other).1
    ]

    reader : (provides plan e.to e.mesh ≡ true) ⊎ (receives plan e.to e.mesh ≡ true)
    reader = elim (or_cases (provides plan e.from e.mesh && receives plan e.to e.mesh) (provides plan e.to e.mesh && receives plan e.from e.mesh) crosses) [
      | inl one ↦ inr (and_parts (provides plan e.from e.mesh) (receives plan e.to e.mesh) one).1
      | inr other ↦ inl (and_parts (provides plan e.to e.mesh) (receives plan e.from e.mesh) other).0
    ]

    by : (e.from ≡ part) ⊎ (e.to ≡ part) → length (points_of plan part (known_of plan meshes part) e.mesh) ≡ vertices_at plan meshes e.mesh
    by (inl same) = by_test (subst (λ (p : ℕ). (provides plan p e.mesh ≡ true) ⊎ (receives plan p e.mesh ≡ true)) same sender)
    by (inr same) = by_test (subst (λ (p : ℕ). (provides plan p e.mesh ≡ true) ⊎ (receives plan p e.mesh ≡ true)) same reader)

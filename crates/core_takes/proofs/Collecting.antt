-- The meshes that a participant receives, one after another.
use Rattle.std.proofs.Common.{◌≡◌, ℕ, ◌+◌, ◌<◌, inl, inr, true, List, [], ◌∷◌, ◌++◌, length, take, filter_map, Option, Some, None, IsSome, option_map, refl, ap, sym, subst, ◌∙◌, arith, Contains}
use Rattle.std.specs.Prelude.{slice_get, option_to_list, zip}
use Rattle.std.specs.List.{cons_option, list_all}
use Rattle.std.specs.Option.{option_map_or, option_and_then}
use Rattle.std.proofs.lemmas.Bool.{and_parts, ltb-true}
use Rattle.std.proofs.lemmas.List.{take_more}
use Rattle.std.proofs.lemmas.List.Elements.{filter_map-append}
use Rattle.std.proofs.lemmas.Option.{slice_get_cases, slice_get_within, get_or_from_slice_get}
use Rattle.mesh_data.specs.declared.any_mesh.AnyMesh.{AnyMesh}
use Rattle.plan_order.proofs.Loops.{head_in, tail_in}
use Rattle.cpl_plan.specs.PlanTests.{is_mesh}
use Rattle.cpl_plan.specs.ValidPlan.{IsValidPlan}
use Rattle.cpl_plan.specs.declared.parts.PlanParts.{PlanParts}
use Rattle.cpl_plan.specs.declared.parts.Part.{Part}
use Rattle.cpl_plan.specs.declared.parts.MeshPlan.{MeshPlan}
use Rattle.cpl_plan.proofs.Readings.{each_at}
use Rattle.coupled_loop.specs.PlanFrames.{owners_of}
use Rattle.wave_coupling.specs.Known.{received_meshes}
use Rattle.core_sides.specs.CoreWords.{WaveState}
use Rattle.core_sides.specs.Answers.{mesh_received}
use Rattle.core_sides.specs.PostedMeshes.{mesh_among, mesh_posted}
use Rattle.core_takes.specs.Collected.{HaveSent, collected_meshes}

-- one number more
pub filter_map-more : {X : Type 0} (f : ℕ → Option X) (numbers : List ℕ) (i n : ℕ) → slice_get numbers i ≡ Some n
    → filter_map f (take (i + 1) numbers) ≡ filter_map f (take i numbers) ++ option_to_list (f n)
filter_map-more {X} f numbers i n at =
    ap (filter_map f) (take_more numbers i n (slice_get_within numbers i n at))
    ∙ ap (λ (m : ℕ). filter_map f (take i numbers ++ m ∷ [])) (get_or_from_slice_get numbers i n n at)
    ∙ filter_map-append f (take i numbers) (n ∷ [])
    ∙ ap (λ (xs : List X). filter_map f (take i numbers) ++ xs) (one (f n)) where
      one : (o : Option X) → cons_option o [] ≡ option_to_list o
      one None = refl
      one (Some x) = refl

-- a number of the plan has its mesh
mesh_there : (plan : PlanParts) (number : ℕ) → number < length plan.meshes → (m : MeshPlan) × (slice_get plan.meshes number ≡ Some m)
mesh_there plan number below = of (slice_get plan.meshes number) refl where
  of : (o : Option MeshPlan) → slice_get plan.meshes number ≡ o → (m : MeshPlan) × (slice_get plan.meshes number ≡ Some m)
  of None is = elim (slice_get_cases plan.meshes number).1 [
    | inl there ↦ (there.0, there.2)
    | inr past ↦ absurd (let beyond = past.0 in omega (arith, beyond, below))
  ]
  of (Some m) is = (m, is)

module _ (plan : PlanParts) (sides : WaveState) (part : ℕ) where
  abbrev owner_of : (number : ℕ) → Option ℕ
  owner_of number = option_map (λ m. m.owner) (slice_get plan.meshes number)

  abbrev sent_of : (owner : ℕ) → Option (List AnyMesh)
  sent_of owner = (sides owner).sent

  -- the meshes of these numbers, of their owners'
  abbrev collected : (numbers owners : List ℕ) → List AnyMesh
  collected numbers owners = filter_map (λ at. mesh_received plan sides part at.0 at.1) (zip numbers (filter_map sent_of owners))

  sent_first : (number : ℕ) (rest owners : List ℕ) (m : MeshPlan) (o : Option (List AnyMesh)) → slice_get plan.meshes number ≡ Some m → sent_of m.owner ≡ o → IsSome o
      → collected rest owners ≡ filter_map (mesh_posted plan sides) rest
      → collected (number ∷ rest) (m.owner ∷ owners) ≡ filter_map (mesh_posted plan sides) (number ∷ rest)
  sent_first number rest owners m None there sent some before = absurd (none_is some) where
    none_is : IsSome {T = List AnyMesh} None → ⊥
    none_is is = cc
  sent_first number rest owners m (Some all) there sent some before =
      ap (λ (o : Option (List AnyMesh)). filter_map (λ at. mesh_received plan sides part at.0 at.1) (zip (number ∷ rest) (cons_option o (filter_map sent_of owners)))) sent
      ∙ ap (λ (o : Option MeshPlan). cons_option (option_map_or (λ m. mesh_among plan m.owner number all) o None) (collected rest owners)) there
      ∙ ap (λ (xs : List AnyMesh). cons_option (mesh_among plan m.owner number all) xs) before
      ∙ sym (ap (λ (o : Option MeshPlan). cons_option (option_and_then (λ m. option_and_then (mesh_among plan m.owner number) (sides m.owner).sent) o) (filter_map (mesh_posted plan sides) rest)) there
      ∙ ap (λ (o : Option (List AnyMesh)). cons_option (option_and_then (mesh_among plan m.owner number) o) (filter_map (mesh_posted plan sides) rest)) sent)

  collected_of : (numbers : List ℕ) → list_all (is_mesh plan) numbers ≡ true
      → ((owner : ℕ) → Contains (filter_map owner_of numbers) owner → IsSome (sent_of owner))
      → collected numbers (filter_map owner_of numbers) ≡ filter_map (mesh_posted plan sides) numbers
  collected_of [] declared sent = refl
  collected_of (number ∷ rest) declared sent =
      let tests = and_parts (is_mesh plan number) (list_all (is_mesh plan) rest) declared in
      let there = mesh_there plan number (ltb-true number (length plan.meshes) tests.0) in
      let owners : filter_map owner_of (number ∷ rest) ≡ there.0.owner ∷ filter_map owner_of rest =
      ap (λ (o : Option MeshPlan). cons_option (option_map (λ m. m.owner) o) (filter_map owner_of rest)) there.1 in
      let all : (owner : ℕ) → Contains (there.0.owner ∷ filter_map owner_of rest) owner → IsSome (sent_of owner) =
      subst (λ (ns : List ℕ). (owner : ℕ) → Contains ns owner → IsSome (sent_of owner)) owners sent in
      ap (λ (ns : List ℕ). collected (number ∷ rest) ns) owners
      ∙ sent_first number rest (filter_map owner_of rest) there.0 (sent_of there.0.owner) there.1 refl (all there.0.owner (head_in there.0.owner (filter_map owner_of rest)))
      (collected_of rest tests.1 (λ owner inside. all owner (tail_in there.0.owner (filter_map owner_of rest) owner inside)))

-- what is posted of each number is what is collected
pub collected_is : (plan : PlanParts) (sides : WaveState) (part : ℕ) (p : Part) → IsValidPlan plan → slice_get plan.parts part ≡ Some p → HaveSent plan sides part
    → filter_map (mesh_posted plan sides) p.receives ≡ collected_meshes plan sides part
collected_is plan sides part p valid at sent =
    let owners : owners_of plan part ≡ filter_map (owner_of plan sides part) p.receives =
    ap (λ (o : Option Part). option_map_or (λ p. filter_map (λ mesh. option_map (λ m. m.owner) (slice_get plan.meshes mesh)) p.receives) o []) at in
    let numbers : received_meshes plan part ≡ p.receives = ap (λ (o : Option Part). option_map_or (λ p. p.receives) o []) at in
    sym (ap (λ (ns : List ℕ). collected plan sides part (received_meshes plan part) ns) owners
    ∙ ap (λ (ns : List ℕ). collected plan sides part ns (filter_map (owner_of plan sides part) p.receives)) numbers
    ∙ collected_of plan sides part p.receives (each_at (λ _ one. list_all (is_mesh plan) one.receives) plan.parts valid.participants.received_declared part p at)
    (subst (λ (ns : List ℕ). (owner : ℕ) → Contains ns owner → IsSome (sides owner).sent) owners sent))

-- Who gives waves has posted its meshes, and those from whom it receives meshes have posted theirs; what was posted stays.
use Rattle.std.proofs.Common.{◌≡◌, ◌⊎◌, inl, inr, ℕ, ◌<◌, ◌≤◌, ◌^◌, Bool, true, ◌&&◌, nat_eq, List, [], ◌∷◌, length, get_or, filter_map, position, slice_get, Option, Some, None, IsSome, is_some, Contains, refl, ap, sym, subst, ◌∙◌, arith}
use Rattle.std.specs.Prelude.{option_map, option_and_then}
use Rattle.std.specs.List.{list_all}
use Rattle.std.specs.Option.{option_map_or}
use Rattle.std.proofs.lemmas.Bool.{and_parts, or_cases, eqb-true, ltb-true}
use Rattle.std.proofs.lemmas.List.Folds.{list_all-map}
use Rattle.std.proofs.lemmas.List.Quantifiers.{position-Some}
use Rattle.std.proofs.lemmas.Option.{none-some, same_Some, slice_get-get_or, slice_get_within}
use Rattle.plan_order.proofs.Loops.{head_in, tail_in, in_cons}
use Rattle.plan_order.proofs.Orders.{none_in_nil}
use Rattle.mesh_data.specs.AnyMeshes.{vertices_of}
use Rattle.mesh_data.specs.declared.any_mesh.AnyMesh.{AnyMesh}
use Rattle.cpl_plan.specs.PlanTests.{goes_over, is_mesh}
use Rattle.cpl_plan.specs.PlanWords.{is_among, provides, receives}
use Rattle.cpl_plan.specs.ValidPlan.{IsValidPlan}
use Rattle.cpl_plan.specs.declared.parts.PlanParts.{PlanParts}
use Rattle.cpl_plan.specs.declared.parts.Part.{Part}
use Rattle.cpl_plan.specs.declared.parts.MeshPlan.{MeshPlan}
use Rattle.cpl_plan.specs.declared.parts.Exchange.{Exchange}
use Rattle.cpl_plan.specs.declared.words.Fault.{Fault}
use Rattle.cpl_plan.proofs.Owners.{owner_alone}
use Rattle.cpl_plan.proofs.Readings.{each_at, passes_at, among_in, there}
use Rattle.coupled_loop.specs.Endings.{Ending, Judgement, again, converged, at_limit, refused, faulted, no_memory, cut}
use Rattle.coupled_loop.specs.CoreState.{Place, sending, collecting, opening, taking, within, judging, look_in}
use Rattle.coupled_loop.specs.CoreStep.{sends_meshes, takes_meshes, posts, takes, judges, stops, lacks_memory, ends, is_cut, cut_off, after_post, ends_with, after_judgement, is_granted, is_cut_off, ending_at, made_at}
use Rattle.coupled_loop.specs.PlanFrames.{owners_of}
use Rattle.core_laws.proofs.GoodSteps.{second_same}
use Rattle.core_laws.proofs.Steps.{all_tell, guarded}
use Rattle.wave_coupling.specs.Coupling.{wave_frame}
use Rattle.wave_coupling.specs.Known.{provided_by}
use Rattle.wave_coupling.specs.Posts.{Post}
use Rattle.core_sides.specs.CoreWords.{WaveState, WaveSide, WaveAct, WaveReply}
use Rattle.core_sides.specs.Fitting.{FitsAt}
use Rattle.core_sides.specs.PostedMeshes.{AreProvided, mesh_among, mesh_posted}
use Rattle.core_fits.specs.VerticesIn.{vertices_in}

filter_map_has : {X Y : Type 0} (f : X → Option Y) (xs : List X) (x : X) (y : Y) → Contains xs x → f x ≡ Some y → Contains (filter_map f xs) y
filter_map_has f [] x y inside is = absurd (none_in_nil x inside)
filter_map_has {X} {Y} f (z ∷ xs) x y inside is = by (f z) refl (in_cons z xs x inside) (λ rest. filter_map_has f xs x y rest is)
  where
    by : (o : Option Y) → f z ≡ o → (z ≡ x) ⊎ Contains xs x → (Contains xs x → Contains (filter_map f xs) y) → Contains (filter_map f (z ∷ xs)) y
    by None e (inl same) later = absurd (none-some y (sym e ∙ ap f same ∙ is))
    by (Some u) e (inl same) later =
        subst (λ (v : Y). Contains (filter_map f (z ∷ xs)) v) (same_Some u y (sym e ∙ ap f same ∙ is)) (rw e (head_in u (filter_map f xs)))
    by None e (inr rest) later = rw e (later rest)
    by (Some u) e (inr rest) later = rw e (tail_in u (filter_map f xs) y (later rest))

-- who stands past the first place, and past the second
abbrev pub HasSent : Place → Type 0
HasSent sending = ⊥
HasSent _ = Unit {0}

abbrev pub HasCollected : Place → Type 0
HasCollected sending = ⊥
HasCollected collecting = ⊥
HasCollected _ = Unit {0}

-- the meshes of a participant, and of those from whom it receives
pub record HasMeshes (plan : PlanParts) (sides : WaveState) (part : ℕ) (side : WaveSide) : Type 0 where
  pub provided : (meshes : List AnyMesh) → side.sent ≡ Some meshes → AreProvided plan part meshes
  pub own : HasSent side.place → IsSome side.sent
  pub others : HasCollected side.place → (owner : ℕ) → Contains (owners_of plan part) owner → IsSome (sides owner).sent

-- the owner of an exchange's mesh is its sender, or one from whom the sender receives
pub mesh_owned : (plan : PlanParts) → IsValidPlan plan → (x : ℕ) (e : Exchange) → slice_get plan.exchanges x ≡ Some e
    → (m : MeshPlan) × (slice_get plan.meshes e.mesh ≡ Some m) × ((e.from ≡ m.owner) ⊎ Contains (owners_of plan e.from) m.owner)
mesh_owned plan valid x e at =
    elim (or_cases (provides plan e.from e.mesh && receives plan e.to e.mesh) (provides plan e.to e.mesh && receives plan e.from e.mesh)
    (each_at (λ _ one. goes_over plan one) plan.exchanges valid.exchanges.crossing x e at)) [
      | inl one ↦ own (and_parts (provides plan e.from e.mesh) (receives plan e.to e.mesh) one).0
      | inr other ↦ received (and_parts (provides plan e.to e.mesh) (receives plan e.from e.mesh) other).1
    ]
  where
    own : provides plan e.from e.mesh ≡ true → (m : MeshPlan) × (slice_get plan.meshes e.mesh ≡ Some m) × ((e.from ≡ m.owner) ⊎ Contains (owners_of plan e.from) m.owner)
    own is =
        let one = passes_at plan.parts e.from (λ (p : Part). is_among e.mesh p.provides) is in
        let declared : e.mesh < length plan.meshes =
        ltb-true e.mesh (length plan.meshes) (all_tell (is_mesh plan) one.0.provides e.mesh
        (each_at (λ _ p. list_all (is_mesh plan) p.provides) plan.parts valid.participants.provided_declared e.from one.0 one.1) (among_in e.mesh one.0.provides one.2)) in
        let mesh = there plan.meshes e.mesh declared in
        (mesh.0, mesh.1, inl ((owner_alone plan valid e.mesh mesh.0 mesh.1 e.from).0 is))

    received : receives plan e.from e.mesh ≡ true → (m : MeshPlan) × (slice_get plan.meshes e.mesh ≡ Some m) × ((e.from ≡ m.owner) ⊎ Contains (owners_of plan e.from) m.owner)
    received is =
        let one = passes_at plan.parts e.from (λ (p : Part). is_among e.mesh p.receives) is in
        let inside = among_in e.mesh one.0.receives one.2 in
        let declared : e.mesh < length plan.meshes =
        ltb-true e.mesh (length plan.meshes) (all_tell (is_mesh plan) one.0.receives e.mesh
        (each_at (λ _ p. list_all (is_mesh plan) p.receives) plan.parts valid.participants.received_declared e.from one.0 one.1) inside) in
        let mesh = there plan.meshes e.mesh declared in (
          mesh.0,
          mesh.1,
          inr (subst (λ (o : Option Part). Contains (option_map_or (λ (p : Part). filter_map (λ (n : ℕ). option_map (λ (m : MeshPlan). m.owner) (slice_get plan.meshes n)) p.receives) o []) mesh.0.owner)
              (sym one.1)
              (filter_map_has (λ (n : ℕ). option_map (λ (m : MeshPlan). m.owner) (slice_get plan.meshes n)) one.0.receives e.mesh mesh.0.owner inside
              (ap (λ (o : Option MeshPlan). option_map (λ (m : MeshPlan). m.owner) o) mesh.1))),
        )

-- meshes that were posted are the same later
abbrev pub MeshesStay : (sides later : WaveState) → Type 0
MeshesStay sides later = (part : ℕ) → IsSome (sides part).sent → (later part).sent ≡ (sides part).sent

module _ (plan : PlanParts) (valid : IsValidPlan plan) (sides later : WaveState) (stay : MeshesStay sides later) where
  pub has_meshes_still : (part : ℕ) (side : WaveSide) → HasMeshes plan sides part side → HasMeshes plan later part side
  has_meshes_still part side has = record {
    provided = has.provided;
    own = has.own;
    others = λ past owner inside. let some = has.others past owner inside in ap is_some (stay owner some) ∙ some;
  }

  -- an exchange's mesh has as many vertices as before, once its sender has received meshes
  pub vertices_stay : (x : ℕ) (e : Exchange) → slice_get plan.exchanges x ≡ Some e → HasMeshes plan sides e.from (sides e.from) → HasCollected (sides e.from).place
      → vertices_in plan sides e.mesh ≡ vertices_in plan later e.mesh
  vertices_stay x e at has past =
      let owned = mesh_owned plan valid x e at in
      let posted : IsSome (sides owned.0.owner).sent = of owned.0.owner owned.2 in
      let same : mesh_posted plan sides e.mesh ≡ mesh_posted plan later e.mesh =
      ap (λ (o : Option MeshPlan). option_and_then (λ m. option_and_then (mesh_among plan m.owner e.mesh) (sides m.owner).sent) o) owned.1
      ∙ ap (λ (o : Option (List AnyMesh)). option_and_then (mesh_among plan owned.0.owner e.mesh) o) (sym (stay owned.0.owner posted))
      ∙ sym (ap (λ (o : Option MeshPlan). option_and_then (λ m. option_and_then (mesh_among plan m.owner e.mesh) (later m.owner).sent) o) owned.1) in
      ap (λ (o : Option AnyMesh). length (option_map_or vertices_of o [])) same
    where
      sent_past : (place : Place) → HasCollected place → HasSent place
      sent_past opening is = tt
      sent_past (taking w k) is = tt
      sent_past (within w k) is = tt
      sent_past (judging scheme w k) is = tt
      sent_past place is = absurd is

      of : (owner : ℕ) → (e.from ≡ owner) ⊎ Contains (owners_of plan e.from) owner → IsSome (sides owner).sent
      of owner (inl same) = subst (λ (p : ℕ). IsSome (sides p).sent) same (has.own (sent_past (sides e.from).place past))
      of owner (inr inside) = has.others past owner inside

-- a mesh that was posted has at most 10,000 vertices
module _ (plan : PlanParts) (valid : IsValidPlan plan) (sides : WaveState) (has : (part : ℕ) → part < length plan.parts → HasMeshes plan sides part (sides part)) (mesh : ℕ) where
  none_few : 0 ≤ 10 ^ 4
  none_few = omega arith

  few_at : (owner : ℕ) (meshes : List AnyMesh) → AreProvided plan owner meshes → (place : Option ℕ) → position (nat_eq mesh) (provided_by plan owner owner) ≡ place
      → length (option_map_or vertices_of (option_and_then (slice_get meshes) place) []) ≤ 10 ^ 4
  few_at owner meshes are None at = none_few
  few_at owner meshes are (Some i) at = by (slice_get meshes i) refl
    where
      number : slice_get (provided_by plan owner owner) i ≡ Some mesh
      number =
          let found = position-Some (nat_eq mesh) (provided_by plan owner owner) i 0 at in
          slice_get-get_or (provided_by plan owner owner) i 0 found.0
          ∙ ap (λ (n : ℕ). Some n) (sym (eqb-true mesh (get_or (provided_by plan owner owner) i 0) found.1))

      by : (o : Option AnyMesh) → slice_get meshes i ≡ o → length (option_map_or vertices_of o []) ≤ 10 ^ 4
      by None there = none_few
      by (Some one) there = (are.each i mesh one number there).few

  few_of : (owner : ℕ) → owner < length plan.parts → (sent : Option (List AnyMesh)) → (sides owner).sent ≡ sent
      → length (option_map_or vertices_of (option_and_then (mesh_among plan owner mesh) sent) []) ≤ 10 ^ 4
  few_of owner below None is = none_few
  few_of owner below (Some meshes) is =
      few_at owner meshes ((has owner below).provided meshes is) (position (nat_eq mesh) (provided_by plan owner owner)) refl

  pub few_vertices : vertices_in plan sides mesh ≤ 10 ^ 4
  few_vertices = by (slice_get plan.meshes mesh) refl
    where
      by : (o : Option MeshPlan) → slice_get plan.meshes mesh ≡ o
          → length (option_map_or vertices_of (option_and_then (λ (m : MeshPlan). option_and_then (mesh_among plan m.owner mesh) (sides m.owner).sent) o) []) ≤ 10 ^ 4
      by None at = none_few
      by (Some m) at =
          let one = passes_at plan.parts m.owner (λ (p : Part). is_among mesh p.provides) ((owner_alone plan valid mesh m at m.owner).1 refl) in
          few_of m.owner (slice_get_within plan.parts m.owner one.0 one.1) (sides m.owner).sent refl

module _ (plan : PlanParts) (sides : WaveState) (part : ℕ) (has : HasMeshes plan sides part (sides part)) where
  abbrev Has : WaveSide → Type 0
  Has side = HasMeshes plan sides part side

  -- it goes on, to a place for which it has what it needs
  goes_to : (side : WaveSide) → side.sent ≡ (sides part).sent → (HasSent side.place → IsSome (sides part).sent)
      → (HasCollected side.place → (owner : ℕ) → Contains (owners_of plan part) owner → IsSome (sides owner).sent) → Has side
  goes_to side same own others = record {
    provided = λ meshes is. has.provided meshes (sym same ∙ is);
    own = λ past. ap is_some same ∙ own past;
    others = others;
  }

  ends_there : (ending : Ending Fault) (side : WaveSide) → ends_with ending (sides part) ≡ side → Has side
  ends_there ending side e = subst Has e (goes_to (ends_with ending (sides part)) refl has.own has.others)

  -- those from whom it receives have posted
  collected : is_granted (wave_frame plan) sides part collecting ≡ true → (owner : ℕ) → Contains (owners_of plan part) owner → IsSome (sides owner).sent
  collected granted owner inside =
      all_tell (λ (one : ℕ). is_some (sides one).sent) (owners_of plan part) owner
      (sym (list_all-map (λ (asked : ℕ × Bool). asked.1) (λ (one : ℕ). (one, is_some (sides one).sent)) (owners_of plan part)) ∙ granted) inside

  on_pair : (x : WaveReply × WaveSide) (reply : WaveReply) (side : WaveSide) → x ≡ (reply, side) → Has x.1 → Has side
  on_pair x reply side e is = subst (λ (pair : WaveReply × WaveSide). Has pair.1) e is

  posts_turn : (group : Option ℕ) (w k : ℕ) (post : Post) → IsSome (sides part).sent → ((owner : ℕ) → Contains (owners_of plan part) owner → IsSome (sides owner).sent)
      → Has (after_post group w k post (sides part))
  posts_turn None w k post own others = goes_to (after_post None w k post (sides part)) refl (λ past. own) (λ past. others)
  posts_turn (Some scheme) w k post own others = goes_to (after_post (Some scheme) w k post (sides part)) refl (λ past. own) (λ past. others)

  hears : (judgement : Judgement Fault) (w k : ℕ) → IsSome (sides part).sent → ((owner : ℕ) → Contains (owners_of plan part) owner → IsSome (sides owner).sent)
      → Has (after_judgement judgement w k (sides part))
  hears again w k own others = goes_to (after_judgement again w k (sides part)) refl (λ past. own) (λ past. others)
  hears converged w k own others = goes_to (after_judgement converged w k (sides part)) refl (λ past. own) (λ past. others)
  hears at_limit w k own others = goes_to (after_judgement at_limit w k (sides part)) refl (λ past. own) (λ past. others)
  hears (refused fault) w k own others = goes_to (after_judgement (refused fault) w k (sides part)) refl has.own has.others

  at_place : (place : Place) → (sides part).place ≡ place → (HasSent place → IsSome (sides part).sent)
      × (HasCollected place → (owner : ℕ) → Contains (owners_of plan part) owner → IsSome (sides owner).sent)
  at_place place at = (
    λ past. has.own (subst HasSent (sym at) past),
    λ past. has.others (subst HasCollected (sym at) past),
  )

  -- each event keeps it
  pub step_meshes : (place : Place) → (sides part).place ≡ place → (act : WaveAct) (reply : WaveReply) (side : WaveSide) → FitsAt plan sides part place act
      → made_at (wave_frame plan) sides part place act ≡ Some (reply, side) → Has side
  step_meshes sending at (sends_meshes meshes) reply side fits made =
      subst Has (second_same _ _ made) (record {
        provided = λ others is. subst (λ (all : List AnyMesh). AreProvided plan part all) (same_Some meshes others is) fits;
        own = λ past. refl;
        others = λ past. absurd past;
      })
  step_meshes collecting at takes_meshes reply side fits made =
      let granted = guarded _ _ _ made in
      on_pair _ reply side granted.1 (goes_to (record (sides part) { place = opening }) refl (λ past. (at_place collecting at).0 tt) (λ past. collected granted.0))
  step_meshes opening at (posts post) reply side fits made =
      subst Has (second_same _ _ made) (goes_to _ refl (λ past. (at_place opening at).0 tt) (λ past. (at_place opening at).1 tt))
  step_meshes (taking w k) at takes reply side fits made =
      on_pair _ reply side (guarded _ _ _ made).1 (goes_to (record (sides part) { place = within w k }) refl (λ past. (at_place (taking w k) at).0 tt) (λ past. (at_place (taking w k) at).1 tt))
  step_meshes (within w k) at (posts post) reply side fits made =
      subst Has (second_same _ _ made) (posts_turn ((wave_frame plan).group part) w k post ((at_place (within w k) at).0 tt) ((at_place (within w k) at).1 tt))
  step_meshes (judging scheme w k) at judges reply side fits made =
      on_pair _ reply side (guarded _ _ _ made).1
      (hears ((wave_frame plan).judge (look_in sides) scheme w k) w k ((at_place (judging scheme w k) at).0 tt) ((at_place (judging scheme w k) at).1 tt))
  step_meshes place at (stops fault) reply side fits made = ends_there (faulted fault) side (second_same _ _ made)
  step_meshes place at lacks_memory reply side fits made = ends_there no_memory side (second_same _ _ made)
  step_meshes place at ends reply side fits made = ends_there (ending_at (wave_frame plan) sides part place) side (second_same _ _ made)
  step_meshes place at is_cut reply side fits made =
      ends_there cut side (ap (λ (pair : WaveReply × WaveSide). pair.1) (guarded (is_cut_off (wave_frame plan) sides part place) (cut_off, ends_with cut (sides part)) (reply, side) made).1)
  step_meshes place at act reply side fits made = cc

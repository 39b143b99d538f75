-- After vertices were set all that is kept belongs together still.
use Rattle.std.proofs.Common.{◌≡◌, ℕ, ◌+◌, ◌-◌, ◌*◌, ◌/◌, ◌≤◌, List, [], ◌∷◌, map, take, drop, length, get_or, slice_get, Option, Some, None, ℤ, refl, ap, sym, subst, ◌∙◌, arith}
use Rattle.std.specs.Prelude.{option_map}
use Rattle.std.specs.List.{range_with_len}
use Rattle.std.proofs.lemmas.List.{take_all}
use Rattle.std.proofs.lemmas.List.Elements.{All-map, All-weaker}
use Rattle.std.proofs.lemmas.List.FromFn.{length-map-range_with_len}
use Rattle.std.proofs.lemmas.Option.{same_Some}
use Rattle.mesh_data.specs.AnyMeshes.{dimensions_of, vertices_of}
use Rattle.mesh_data.specs.declared.any_mesh.AnyMesh.{AnyMesh}
use Rattle.mesh_data.specs.declared.any_mesh.AnyMesh.TheVariants.{Two, Three}
use Rattle.cpl_plan.specs.declared.parts.PlanParts.{PlanParts}
use Rattle.wave_coupling.specs.Noted.{Written}
use Rattle.waveform.specs.declared.sample.Sample.{Sample}
use Rattle.participant_words.specs.Deeds.{sets_vertices}
use Rattle.participant_words.specs.Entries.{changed_at, grown_buffers, points_in as points_of, with_points as with_vertices}
use Rattle.participant_words.specs.declared.phase.Phase.{Phase}
use Rattle.participant_words.specs.declared.phase.Phase.TheVariants.{Fresh, Joining, Running, Pending, Done, Final, Stopped}
use Rattle.participant_words.specs.declared.phase.Call.TheVariants.{SetVertex, SetVertices}
use Rattle.participant_words.specs.Phases.{not_allowed}
use Rattle.participant_words.specs.Refusals.{Refusal, or_then}
use Rattle.participant_tables.specs.AtPlace.{at_place}
use Rattle.participant_tables.specs.Named.{Called}
use Rattle.participant_tables.specs.Vertices.{with_points}
use Rattle.participant_tables.specs.WriteKept.{WriteKept}
use Rattle.participant_tables.specs.WriteSteps.{HaveNoSamples, HaveVertices, grown, shrunk}
use Rattle.participant_tables.specs.declared.clock.Clock.{Clock}
use Rattle.participant_tables.specs.declared.read_table.ReadEntry.{ReadEntry}
use Rattle.participant_tables.proofs.Growing.{grown-vertices}
use Rattle.participant_tables.proofs.Undone.{growth-undone}
use Rattle.participant_waves.specs.declared.kept_input.KeptInput.{KeptInput}
use Rattle.participant_waves.specs.declared.passages.Passages.{Passages}
use Rattle.participant_state.specs.Member.{Member, did}
use Rattle.participant_state.specs.Together.{AreFilled, AreJoined, AreRead, IsOfPlan}
use Rattle.participant_state.proofs.ListPlaces.{length-at_place, map_untouched}
use Rattle.participant_state.proofs.VerticesKept.{values_kept}
use Rattle.participant_state.proofs.VerticesSet.{grown-samples, shapes_kept}

same_dimensions : (coordinates : List ℤ) (mesh : AnyMesh) → Some (dimensions_of (with_points coordinates mesh)) ≡ Some (dimensions_of mesh)
same_dimensions coordinates (Two mesh) = refl
same_dimensions coordinates (Three mesh) = refl

pub vertices_of_plan : (plan : PlanParts) (part : ℕ) (names : Called) (own : List AnyMesh) (writes : List WriteKept) (reads : List ReadEntry) (coordinates : List ℤ) (place more : ℕ)
    → IsOfPlan plan part names own writes reads → IsOfPlan plan part names (at_place (with_points coordinates) place own) (map (grown place more) writes) reads
vertices_of_plan plan part names own writes reads coordinates place more of = record {
  participant = of.participant;
  named = of.named;
  meshes = length-at_place (with_points coordinates) own place ∙ of.meshes;
  dimensions = map_untouched (λ (mesh : AnyMesh). Some (dimensions_of mesh)) (with_points coordinates) own place (same_dimensions coordinates) ∙ of.dimensions;
  written = shapes_kept place more writes ∙ of.written;
  read = of.read;
}

module _ (own : List AnyMesh) (writes : List WriteKept) (times : List ℕ) (filled : AreFilled own writes times) where
  pub vertices_filled : (place : ℕ) (mesh : AnyMesh) (coordinates : List ℤ) (more : ℕ) → slice_get own place ≡ Some mesh → more ≡ length coordinates / dimensions_of mesh
      → AreFilled (at_place (with_points coordinates) place own) (map (grown place more) writes) times
  vertices_filled place mesh coordinates more at many = record {
    values = values_kept own writes filled.values place mesh coordinates more at many;
    samples =
        All-map (λ (e : WriteKept). map (λ s. s.time) e.samples ≡ times) (grown place more) writes
        (All-weaker (λ (e : WriteKept). map (λ s. s.time) e.samples ≡ times) (λ (e : WriteKept). map (λ s. s.time) (grown place more e).samples ≡ times)
        (λ e same. ap (map (λ s. s.time)) (grown-samples place more e) ∙ same) writes filled.samples);
    few = filled.few;
  }

  -- no step was accepted, so that nothing is sampled
  pub none_sampled : times ≡ [] → HaveNoSamples writes
  none_sampled none =
      All-weaker (λ (e : WriteKept). map (λ s. s.time) e.samples ≡ times) (λ (e : WriteKept). e.samples ≡ [])
      (λ e same. empty e.samples (same ∙ none)) writes filled.samples
    where
      empty : (xs : List Sample) → map (λ s. s.time) xs ≡ [] → xs ≡ []
      empty [] is = refl
      empty (x ∷ xs) is = cc

  pub grown_fresh : (place more : ℕ) → times ≡ [] → HaveNoSamples (map (grown place more) writes)
  grown_fresh place more none =
      All-map (λ (e : WriteKept). e.samples ≡ []) (grown place more) writes
      (All-weaker (λ (e : WriteKept). e.samples ≡ []) (λ (e : WriteKept). (grown place more e).samples ≡ [])
      (λ e same. grown-samples place more e ∙ same) writes (none_sampled none))

  pub grown_has : (place size more : ℕ) (mesh : AnyMesh) → slice_get own place ≡ Some mesh → size ≡ length (vertices_of mesh)
      → HaveVertices place (size + more) (map (grown place more) writes)
  grown_has place size more mesh at is =
      grown-vertices place size more writes (subst (λ (n : ℕ). HaveVertices place n writes) (sym is) (filled.values place mesh at))

  pub shrunk_back : (place size more : ℕ) (mesh : AnyMesh) (grew : List WriteKept) → slice_get own place ≡ Some mesh → size ≡ length (vertices_of mesh)
      → grew ≡ map (grown place more) writes → map (shrunk place size) grew ≡ writes
  shrunk_back place size more mesh grew at is grows =
      ap (map (shrunk place size)) grows
      ∙ growth-undone place size more writes (subst (λ (n : ℕ). HaveVertices place n writes) (sym is) (filled.values place mesh at))

pub fresh_still_read : (own other : List AnyMesh) (reads : List ReadEntry) (clock : Clock) (inputs : List KeptInput) → inputs ≡ [] → AreRead own reads clock inputs → AreRead other reads clock inputs
fresh_still_read own other reads clock inputs none are = record {
  spans = are.spans;
  rows = λ k d inside mesh input at got. let nothing : Some input ≡ None = sym got ∙ ap (λ (xs : List KeptInput). slice_get xs (get_or reads k d).received) none in cc;
}

pub fresh_joined : (plan : PlanParts) (part : ℕ) (own received : List AnyMesh) (passages : Option Passages) → passages ≡ None → AreJoined plan part own received passages
fresh_joined plan part own received passages none = rw none (record { meshes = tt; stand = tt })

-- a member whose meshes, buffers and samples are others
abbrev pub remeshed : Member → (own : List AnyMesh) → (buffers : List (List ℤ)) → (noted : List Written) → Member
remeshed m own buffers noted = record m { course = record m.course { own = own; buffers = buffers; turn = record m.course.turn { written = noted } } }

pub vertices_done : (m now : Member) (own : List AnyMesh) (buffers : List (List ℤ)) (noted : List Written) (place : ℕ) (points : List (List ℤ)) → m ≡ now
    → own ≡ changed_at (with_vertices points) place m.course.own → buffers ≡ grown_buffers m.plan m.part place (length points) m.course.buffers → noted ≡ m.course.turn.written
    → remeshed m own buffers noted ≡ did now (sets_vertices place points)
vertices_done m now own buffers noted place points is is_own is_buffers is_noted =
    (λ i. remeshed m (is_own i) (is_buffers i) (is_noted i)) ∙ ap (λ (x : Member). did x (sets_vertices place points)) is

pub points_many : (d : ℕ) (coordinates : List ℤ) → length (points_of d coordinates) ≡ length coordinates / d
points_many d coordinates = length-map-range_with_len _ 0 (length coordinates / d)

-- what is told of the mesh at a place
pub told_at : (own : List AnyMesh) (place n : ℕ) (count : AnyMesh → ℕ) (mesh : AnyMesh) → slice_get own place ≡ Some mesh → option_map count (slice_get own place) ≡ Some n → n ≡ count mesh
told_at own place n count mesh at told = same_Some n (count mesh) (sym told ∙ ap (λ (o : Option AnyMesh). option_map count o) at)

no_times : (d : ℕ) → 0 * d ≡ 0
no_times d = omega arith

single : (d : ℕ) (xs : List ℤ) (parts : ℕ → ℕ) → parts d ≡ 1 → length xs ≡ d → map (λ i. take d (drop (i * d) xs)) (range_with_len 0 (parts (length xs))) ≡ xs ∷ []
single d xs parts one same =
    ap (λ (n : ℕ). map (λ i. take d (drop (i * d) xs)) (range_with_len 0 n)) (ap parts same ∙ one)
    ∙ ap (λ (n : ℕ). take d (drop n xs) ∷ []) (no_times d) ∙ ap (λ (ys : List ℤ). ys ∷ []) (take_all d xs (omega (arith, same)))

-- a point is one of so many dimensions
pub one_point : (mesh : AnyMesh) (point : List ℤ) → length point ≡ dimensions_of mesh → points_of (dimensions_of mesh) point ≡ point ∷ []
one_point (Two mesh) point is = single 2 point (λ n. n / 2) refl is
one_point (Three mesh) point is = single 3 point (λ n. n / 3) refl is

pub first_granted : (first later : Refusal) → or_then first later ≡ None → first ≡ None
first_granted None later is = refl
first_granted (Some cause) later is = cc

pub fresh_sets_one : (phase : Phase) → not_allowed SetVertex phase ≡ None → phase ≡ Fresh
fresh_sets_one Fresh is = refl
fresh_sets_one Joining is = cc
fresh_sets_one Running is = cc
fresh_sets_one Pending is = cc
fresh_sets_one Done is = cc
fresh_sets_one Final is = cc
fresh_sets_one Stopped is = cc

pub fresh_sets : (phase : Phase) → not_allowed SetVertices phase ≡ None → phase ≡ Fresh
fresh_sets Fresh is = refl
fresh_sets Joining is = cc
fresh_sets Running is = cc
fresh_sets Pending is = cc
fresh_sets Done is = cc
fresh_sets Final is = cc
fresh_sets Stopped is = cc

fewer : (q d l : ℕ) → 1 ≤ d → q * d ≡ l → q ≤ l
fewer q d l some is =
    let more : d ≡ 1 + (d - 1) = omega (arith, some) in
    let whole = subst (λ (n : ℕ). q * n ≡ l) more is in
    omega (arith, whole)

some_dimensions : (mesh : AnyMesh) → 1 ≤ dimensions_of mesh
some_dimensions (Two mesh) = omega arith
some_dimensions (Three mesh) = omega arith

-- there are not more points than coordinates
pub few_points : (mesh : AnyMesh) (d l : ℕ) → d ≡ dimensions_of mesh → l / d * d ≡ l → l / d ≤ l
few_points mesh d l is whole = fewer (l / d) d l (subst (λ (n : ℕ). 1 ≤ n) (sym is) (some_dimensions mesh)) whole

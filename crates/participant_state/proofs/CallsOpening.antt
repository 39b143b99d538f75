-- A participant before its first call: what is kept of it belongs together.
use Rattle.std.proofs.Common.{◌≡◌, inl, inr, ℕ, ◌*◌, ◌<◌, ◌≤◌, if◌then◌else◌, Bool, true, false, ◌||◌, nat_eq, List, [], ◌∷◌, ◌++◌, map, length, slice_get, Option, Some, None, All, ℤ, refl, ap, sym, subst, ◌∙◌, arith}
use Rattle.std.specs.Prelude.{option_map}
use Rattle.std.specs.Option.{option_map_or}
use Rattle.std.proofs.lemmas.Bool.{eqb-true, or_cases}
use Rattle.std.proofs.lemmas.List.{length-map}
use Rattle.std.proofs.lemmas.List.Elements.{All-nil, All-cons, All-head, All-tail}
use Rattle.std.proofs.lemmas.Option.{slice_get-map}
use Rattle.mesh_data.specs.AnyMeshes.{dimensions_of, vertices_of}
use Rattle.mesh_data.specs.declared.any_mesh.AnyMesh.{AnyMesh}
use Rattle.mesh_data.specs.declared.any_mesh.AnyMesh.TheVariants.{Two, Three}
use Rattle.cpl_plan.specs.ValidPlan.{IsValidPlan}
use Rattle.cpl_plan.specs.declared.parts.PlanParts.{PlanParts}
use Rattle.cpl_plan.specs.declared.parts.PlanEntry.{PlanEntry}
use Rattle.cpl_plan.specs.declared.parts.MeshPlan.{MeshPlan}
use Rattle.cpl_plan.specs.declared.parts.Part.{Part}
use Rattle.cpl_plan.specs.declared.words.WatchRow.{WatchRow}
use Rattle.cpl_plan.proofs.Readings.{each_at, there}
use Rattle.wave_coupling.specs.Known.{provided_by, write_entries}
use Rattle.wave_coupling.specs.Coupling.{makes_windows}
use Rattle.participant_tables.specs.Named.{Called, called_in}
use Rattle.participant_tables.specs.ReadKept.{opening_reads}
use Rattle.participant_tables.specs.Vertices.{no_vertices, opening_mesh, opening_meshes}
use Rattle.participant_tables.specs.WriteKept.{WriteKept}
use Rattle.participant_tables.specs.WriteSteps.{opening_write, opening_writes, HaveVertices}
use Rattle.participant_tables.specs.Queued.{Queued}
use Rattle.participant_tables.specs.declared.clock.Clock.{Clock}
use Rattle.participant_tables.specs.declared.queue.Out.{Out}
use Rattle.participant_tables.specs.declared.read_table.ReadEntry.{ReadEntry}
use Rattle.participant_tables.proofs.NamesOnce.{provides_there}
use Rattle.participant_waves.specs.Readable.{IsReadable}
use Rattle.participant_waves.specs.declared.kept_input.KeptInput.{KeptInput}
use Rattle.participant_words.specs.EventKinds.{kind_of}
use Rattle.participant_state.specs.Kept.{buffers_of}
use Rattle.participant_state.specs.Agenda.{agenda, out_first, IsBefore, Stands}
use Rattle.call_parts.specs.RowsKept.{AreInOrder}
use Rattle.participant_state.specs.Together.{shape_of, dimensions_in, IsOfPlan, AreFilled, IsInTime, AreRead, AreJoined}

zero_times : (n : ℕ) → 0 ≡ 0 * n
zero_times n = omega arith

no_vertex : (d : ℕ) → length (vertices_of (no_vertices d)) ≡ 0
no_vertex d = by (nat_eq d 2)
  where
    by : (b : Bool) → length (vertices_of (if b then Two [] else Three [])) ≡ 0
    by true = refl
    by false = refl

two_or_three : (d : ℕ) → (nat_eq d 2 || nat_eq d 3) ≡ true → dimensions_of (no_vertices d) ≡ d
two_or_three d is = elim (or_cases (nat_eq d 2) (nat_eq d 3) is) [
  | inl two ↦ let here : d ≡ 2 = eqb-true d 2 two in subst (λ (n : ℕ). dimensions_of (no_vertices n) ≡ n) (sym here) refl
  | inr three ↦ let here : d ≡ 3 = eqb-true d 3 three in subst (λ (n : ℕ). dimensions_of (no_vertices n) ≡ n) (sym here) refl
]

module _ (plan : PlanParts) where
  -- the meshes have no vertex
  pub opening_size : (numbers : List ℕ) (place : ℕ) (mesh : AnyMesh) → slice_get (map (opening_mesh plan) numbers) place ≡ Some mesh → length (vertices_of mesh) ≡ 0
  opening_size numbers place mesh is = by (slice_get numbers place) (sym (slice_get-map (opening_mesh plan) numbers place) ∙ is)
    where
      by : (o : Option ℕ) → option_map (opening_mesh plan) o ≡ Some mesh → length (vertices_of mesh) ≡ 0
      by None none = cc
      by (Some n) some =
          let same : opening_mesh plan n ≡ mesh = cc in
          sym (ap (λ (m : AnyMesh). length (vertices_of m)) same) ∙ no_vertex (option_map_or (λ m. m.dimensions) (slice_get plan.meshes n) 0)

  module _ (valid : IsValidPlan plan) where
    -- a mesh of the plan has as many dimensions as the plan says
    one_sized : (n : ℕ) → n < length plan.meshes → Some (dimensions_of (opening_mesh plan n)) ≡ dimensions_in plan n
    one_sized n within =
        let at = there plan.meshes n within in
        let m : MeshPlan = at.0 in
        let tells : (nat_eq m.dimensions 2 || nat_eq m.dimensions 3) ≡ true =
        each_at (λ _ (mesh : MeshPlan). nat_eq mesh.dimensions 2 || nat_eq mesh.dimensions 3) plan.meshes valid.meshes.dimensions n m at.1 in
        ap (λ (o : Option MeshPlan). Some (dimensions_of (no_vertices (option_map_or (λ mesh. mesh.dimensions) o 0)))) at.1
        ∙ ap Some (two_or_three m.dimensions tells)
        ∙ sym (ap (λ (o : Option MeshPlan). option_map (λ mesh. mesh.dimensions) o) at.1)

    all_sized : (numbers : List ℕ) → All (λ n. n < length plan.meshes) numbers → map (λ mesh. Some (dimensions_of mesh)) (map (opening_mesh plan) numbers) ≡ map (dimensions_in plan) numbers
    all_sized [] within = refl
    all_sized (n ∷ numbers) within =
        let here = one_sized n (All-head (λ k. k < length plan.meshes) n numbers within) in
        let rest = all_sized numbers (All-tail (λ k. k < length plan.meshes) n numbers within) in
        ap (λ (d : Option ℕ). d ∷ map (λ mesh. Some (dimensions_of mesh)) (map (opening_mesh plan) numbers)) here
        ∙ ap (λ (ds : List (Option ℕ)). dimensions_in plan n ∷ ds) rest

    pub opening_sized : (part : ℕ) → map (λ mesh. Some (dimensions_of mesh)) (opening_meshes plan part) ≡ map (dimensions_in plan) (provided_by plan part part)
    opening_sized part = by (slice_get plan.parts part) refl
      where
        by : (o : Option Part) → slice_get plan.parts part ≡ o
            → map (λ mesh. Some (dimensions_of mesh)) (map (opening_mesh plan) (option_map_or (λ p. p.provides) o [])) ≡ map (dimensions_in plan) (option_map_or (λ p. p.provides) o [])
        by None at = refl
        by (Some p) at = all_sized p.provides (provides_there plan valid part p at)

  module _ (part : ℕ) where
    shapes_opening : (entries : List PlanEntry) → map shape_of (map (opening_write plan part) entries) ≡ map (opening_write plan part) entries
    shapes_opening [] = refl
    shapes_opening (e ∷ entries) = ap (λ (xs : List WriteKept). opening_write plan part e ∷ xs) (shapes_opening entries)

    no_values : (entries : List PlanEntry) → map (λ (e : WriteKept). e.values) (map (opening_write plan part) entries) ≡ map (λ (entry : PlanEntry). let none : List ℤ = [] in none) entries
    no_values [] = refl
    no_values (e ∷ entries) = ap (λ (xs : List (List ℤ)). [] ∷ xs) (no_values entries)

    -- nothing is written yet
    pub opening_buffers : buffers_of (opening_writes plan part) ≡ map (λ (entry : PlanEntry). let none : List ℤ = [] in none) (write_entries plan part)
    opening_buffers = no_values (write_entries plan part)

    no_vertices_yet : (place : ℕ) (entries : List PlanEntry) → HaveVertices place 0 (map (opening_write plan part) entries)
    no_vertices_yet place [] = All-nil (λ (e : WriteKept). e.mesh ≡ place → length e.values ≡ 0 * e.components)
    no_vertices_yet place (entry ∷ entries) =
        All-cons (λ (e : WriteKept). e.mesh ≡ place → length e.values ≡ 0 * e.components) (opening_write plan part entry) (map (opening_write plan part) entries)
        (λ on. zero_times (opening_write plan part entry).components) (no_vertices_yet place entries)

    no_samples_yet : (entries : List PlanEntry) → All (λ e. map (λ s. s.time) e.samples ≡ []) (map (opening_write plan part) entries)
    no_samples_yet [] = All-nil (λ (e : WriteKept). map (λ s. s.time) e.samples ≡ [])
    no_samples_yet (entry ∷ entries) =
        All-cons (λ (e : WriteKept). map (λ s. s.time) e.samples ≡ []) (opening_write plan part entry) (map (opening_write plan part) entries)
        refl (no_samples_yet entries)

    few_enough : 0 ≤ 1024
    few_enough = omega arith

    pub opening_filled : AreFilled (opening_meshes plan part) (opening_writes plan part) []
    opening_filled = record {
      values = λ place mesh is.
          subst (λ (n : ℕ). HaveVertices place n (opening_writes plan part)) (sym (opening_size (provided_by plan part part) place mesh is)) (no_vertices_yet place (write_entries plan part));
      samples = no_samples_yet (write_entries plan part);
      few = few_enough;
    }

    pub opening_of_plan : IsValidPlan plan → part < length plan.parts → IsOfPlan plan part (called_in plan part) (opening_meshes plan part) (opening_writes plan part) (opening_reads plan part)
    opening_of_plan valid inside = record {
      participant = inside;
      named = refl;
      meshes = length-map (provided_by plan part part) (opening_mesh plan);
      dimensions = opening_sized valid part;
      written = shapes_opening (write_entries plan part);
      read = refl;
    }

    abbrev pub opening_clock : Clock
    opening_clock = record { window = 0; iteration = 0; start = 0; latest = 0; now = 0; steps = 0; one_step = makes_windows plan part; complete = false }

    pub opening_in_time : IsInTime plan part opening_clock []
    opening_in_time = record {
      one_step = refl;
      steps = refl;
      past = All-nil (λ (time : ℕ). time ≤ 0);
      started = omega arith;
      within = omega arith;
      ended = omega arith;
    }

-- the same of what is kept, by what it is
pub fresh_of_plan : (plan : PlanParts) (part : ℕ) (names : Called) (own : List AnyMesh) (writes : List WriteKept) (reads : List ReadEntry)
    → IsValidPlan plan → part < length plan.parts
    → names ≡ called_in plan part → own ≡ opening_meshes plan part → writes ≡ opening_writes plan part → reads ≡ opening_reads plan part
    → IsOfPlan plan part names own writes reads
fresh_of_plan plan part names own writes reads valid inside is_names is_own is_writes is_reads =
    rw (is_names, is_own, is_writes, is_reads) (opening_of_plan plan part valid inside)

pub fresh_filled : (plan : PlanParts) (part : ℕ) (own : List AnyMesh) (writes : List WriteKept) (times : List ℕ)
    → own ≡ opening_meshes plan part → writes ≡ opening_writes plan part → times ≡ [] → AreFilled own writes times
fresh_filled plan part own writes times is_own is_writes is_times = rw (is_own, is_writes, is_times) (opening_filled plan part)

pub fresh_in_time : (plan : PlanParts) (part : ℕ) (clock : Clock) (times : List ℕ) → clock ≡ opening_clock plan part → times ≡ [] → IsInTime plan part clock times
fresh_in_time plan part clock times is_clock is_times = rw (is_clock, is_times) (opening_in_time plan part)

pub fresh_read : (plan : PlanParts) (part : ℕ) (own : List AnyMesh) (reads : List ReadEntry) (clock : Clock) (inputs : List KeptInput)
    → inputs ≡ [] → AreRead own reads clock inputs
fresh_read plan part own reads clock inputs is_inputs = rw is_inputs (record {
  spans = All-nil (λ (input : KeptInput). IsReadable clock.now clock.latest input.wave);
  rows = λ k d inside mesh input at none. cc;
})

pub nothing_kept : (queue : Queued) → queue.waiting ≡ [] → queue.out ≡ None → agenda queue ≡ []
nothing_kept queue waiting out =
    ap (λ (o : Option Out). out_first o ++ map kind_of queue.waiting) out ∙ ap (map kind_of) waiting

pub none_joined : (plan : PlanParts) (part : ℕ) (own received : List AnyMesh) → AreJoined plan part own received None
none_joined plan part own received = record { meshes = tt; stand = tt }

pub no_rows : (count : ℕ) (rows : List WatchRow) → rows ≡ [] → AreInOrder count rows
no_rows count rows is = rw is (record { rising = tt; there = All-nil (λ (row : WatchRow). row.watch < count) })

pub before_first : (plan : PlanParts) (part : ℕ) (clock : Clock) (times : List ℕ) → clock ≡ opening_clock plan part → times ≡ [] → IsBefore clock times
before_first plan part clock times is_clock is_times = record { window = ap (λ (c : Clock). c.window) is_clock; steps = is_times }

pub fresh_stands : (plan : PlanParts) (part : ℕ) (own : List AnyMesh) (clock : Clock) (inputs : List KeptInput) (times : List ℕ) (queue : Queued)
    → queue.waiting ≡ [] → queue.out ≡ None → Stands plan part own clock None inputs times (agenda queue)
fresh_stands plan part own clock inputs times queue waiting out = rw (nothing_kept queue waiting out) tt

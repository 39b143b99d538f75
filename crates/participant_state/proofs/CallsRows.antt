-- Rows that are written: which call is refused, and what is kept after one that is not.
use Rattle.std.proofs.Common.{◌≡◌, ◌≢◌, ℕ, zero, suc, ◌+◌, ◌-◌, ◌*◌, ◌<◌, ◌≤◌, Bool, not, nat_le, List, [], ◌∷◌, map, length, get_or, slice_get, Option, Some, None, All, ℤ, refl, ap, ap₂, sym, subst, ◌∙◌, arith}
use Rattle.std.specs.Prelude.{find, option_map, position, IfSome}
use Rattle.std.proofs.lemmas.Bool.{eq-eqb, ne_eqb}
use Rattle.std.proofs.lemmas.List.Elements.{All-cons, All-head, All-tail}
use Rattle.std.proofs.lemmas.Option.{slice_get-map, same_Some}
use Rattle.fixed_num.specs.Numbers.{is_value}
use Rattle.field_buffers.specs.Rows.{HasRow}
use Rattle.mesh_data.specs.AnyMeshes.{vertices_of}
use Rattle.mesh_data.specs.declared.any_mesh.AnyMesh.{AnyMesh}
use Rattle.cpl_plan.specs.declared.parts.PlanParts.{PlanParts}
use Rattle.cpl_plan.specs.declared.parts.PlanEntry.{PlanEntry}
use Rattle.wave_coupling.specs.Known.{write_entries}
use Rattle.wave_coupling.specs.Noted.{Written}
use Rattle.participant_words.specs.Deeds.{writes as writes_rows}
use Rattle.participant_words.specs.Named.{place_of}
use Rattle.participant_words.specs.Refusals.{Refusal, bad_length, bad_value, bad_vertex, first_of, or_then, where_holds}
use Rattle.participant_words.specs.Entries.{written_buffers}
use Rattle.participant_words.specs.declared.api_err.ApiErr.TheVariants.{BadVertex, BadLength, ValueRange}
use Rattle.participant_tables.specs.AtPlace.{at_place}
use Rattle.participant_tables.specs.Named.{Called}
use Rattle.participant_tables.specs.WriteKept.{WriteKept}
use Rattle.participant_tables.specs.WriteSteps.{opening_write, opening_writes, written, HaveVertices}
use Rattle.participant_tables.specs.declared.read_table.ReadEntry.{ReadEntry}
use Rattle.participant_tables.proofs.Shapes.{length-with_rows}
use Rattle.participant_state.specs.Member.{Member, did}
use Rattle.participant_state.specs.Together.{shape_of, IsOfPlan, AreFilled}
use Rattle.participant_state.proofs.TablesMean.{shapes_untouched}

-- the refusals, in their order
module _ (size : ℕ) (vertices : List ℕ) (none : find (λ v. nat_le size v) vertices ≡ None) where
  past_vertices : (rest : List Refusal) → first_of (bad_vertex size vertices ∷ rest) ≡ first_of rest
  past_vertices rest = ap (λ (o : Option ℕ). or_then (option_map (λ id. BadVertex id size) o) (first_of rest)) none

  pub length_refused : (want got : ℕ) (rest : List Refusal) → got ≢ want → first_of (bad_vertex size vertices ∷ bad_length want got ∷ rest) ≡ Some (BadLength want got)
  length_refused want got rest apart =
      past_vertices (bad_length want got ∷ rest)
      ∙ ap (λ (b : Bool). or_then (where_holds (not b) (BadLength want got)) (first_of rest)) (ne_eqb got want apart)

  past_length : (want got : ℕ) (rest : List Refusal) → got ≡ want → first_of (bad_vertex size vertices ∷ bad_length want got ∷ rest) ≡ first_of rest
  past_length want got rest same =
      past_vertices (bad_length want got ∷ rest)
      ∙ ap (λ (b : Bool). or_then (where_holds (not b) (BadLength want got)) (first_of rest)) (eq-eqb got want same)

  pub value_refused : (want : ℕ) (rows : List ℤ) (index : ℕ) → length rows ≡ want → position (λ number. not (is_value number)) rows ≡ Some index
      → first_of (bad_vertex size vertices ∷ bad_length want (length rows) ∷ bad_value rows ∷ []) ≡ Some (ValueRange index)
  value_refused want rows index same is =
      past_length want (length rows) (bad_value rows ∷ []) same
      ∙ ap (λ (o : Option ℕ). or_then (option_map ValueRange o) None) is

  pub rows_granted : (want : ℕ) (rows : List ℤ) → length rows ≡ want → position (λ number. not (is_value number)) rows ≡ None
      → first_of (bad_vertex size vertices ∷ bad_length want (length rows) ∷ bad_value rows ∷ []) ≡ None
  rows_granted want rows same is =
      past_length want (length rows) (bad_value rows ∷ []) same
      ∙ ap (λ (o : Option ℕ). or_then (option_map ValueRange o) None) is

-- what is true of all is true of all after one was changed
all_at_place : {X : Type 0} (P : X → Type 0) (f : X → X) (xs : List X) (i : ℕ) → ((x : X) → slice_get xs i ≡ Some x → P x → P (f x)) → All P xs → All P (at_place f i xs)
unfolding at_place
all_at_place P f [] i keeps all = all
all_at_place P f (x ∷ xs) zero keeps all = All-cons P (f x) xs (keeps x refl (All-head P x xs all)) (All-tail P x xs all)
all_at_place P f (x ∷ xs) (suc i) keeps all = All-cons P x (at_place f i xs) (All-head P x xs all) (all_at_place P f xs i keeps (All-tail P x xs all))

row_within : (v n c : ℕ) → v < n → v * c + c ≤ n * c
row_within v n c below =
    let more : n ≡ v + 1 + (n - (v + 1)) = omega (arith, below) in
    subst (λ (m : ℕ). v * c + c ≤ m * c) (sym more) (omega arith)

module _ (plan : PlanParts) (part : ℕ) (own : List AnyMesh) (writes : List WriteKept) (times : List ℕ) (filled : AreFilled own writes times)
    (shapes : map shape_of writes ≡ opening_writes plan part) (place entry : ℕ)
    (on : IfSome (slice_get (write_entries plan part) entry) (λ e. place_of plan part e.mesh ≡ place))
    (mesh : AnyMesh) (at : slice_get own place ≡ Some mesh) (vertices : List ℕ) (inside : All (λ v. v < length (vertices_of mesh)) vertices) where
  -- the entry is on the mesh at the place
  entry_on : (e : WriteKept) → slice_get writes entry ≡ Some e → e.mesh ≡ place
  entry_on e there =
      by (slice_get (write_entries plan part) entry) on
      (sym (slice_get-map (opening_write plan part) (write_entries plan part) entry)
      ∙ ap (λ (es : List WriteKept). slice_get es entry) (sym shapes)
      ∙ slice_get-map shape_of writes entry
      ∙ ap (λ (o : Option WriteKept). option_map shape_of o) there)
    where
      by : (o : Option PlanEntry) → IfSome o (λ x. place_of plan part x.mesh ≡ place) → option_map (opening_write plan part) o ≡ Some (shape_of e) → e.mesh ≡ place
      by None on seen = cc
      by (Some x) on seen =
          let same : opening_write plan part x ≡ shape_of e = same_Some (opening_write plan part x) (shape_of e) seen in
          sym (ap (λ (w : WriteKept). w.mesh) same) ∙ on

  entry_values : (e : WriteKept) → slice_get writes entry ≡ Some e → length e.values ≡ length (vertices_of mesh) * e.components
  entry_values e there = by entry writes there (filled.values place mesh at) (entry_on e there)
    where
      by : (i : ℕ) (es : List WriteKept) → slice_get es i ≡ Some e → HaveVertices place (length (vertices_of mesh)) es → e.mesh ≡ place → length e.values ≡ length (vertices_of mesh) * e.components
      by i [] there have here = cc
      by zero (x ∷ es) there have here =
          let same : x ≡ e = same_Some x e there in
          subst (λ (w : WriteKept). w.mesh ≡ place → length w.values ≡ length (vertices_of mesh) * w.components) same
          (All-head (λ (w : WriteKept). w.mesh ≡ place → length w.values ≡ length (vertices_of mesh) * w.components) x es have) here
      by (suc i) (x ∷ es) there have here = by i es there (All-tail (λ (w : WriteKept). w.mesh ≡ place → length w.values ≡ length (vertices_of mesh) * w.components) x es have) here

  rows_of_entry : (e : WriteKept) → slice_get writes entry ≡ Some e → All (HasRow e.components e.values) vertices
  rows_of_entry e there k d within =
      let fits = row_within (get_or vertices k d) (length (vertices_of mesh)) e.components (inside k d within) in
      omega (arith, fits, entry_values e there)

  -- each of the vertices has its row
  pub have_rows : IfSome (slice_get writes entry) (λ (e : WriteKept). All (HasRow e.components e.values) vertices)
  have_rows = by (slice_get writes entry) refl
    where
      by : (o : Option WriteKept) → slice_get writes entry ≡ o → IfSome o (λ (e : WriteKept). All (HasRow e.components e.values) vertices)
      by None there = tt
      by (Some e) there = rows_of_entry e there

  module _ (rows : List ℤ) (len : IfSome (slice_get writes entry) (λ (e : WriteKept). length rows ≡ length vertices * e.components)) where
    len_of : (e : WriteKept) → slice_get writes entry ≡ Some e → length rows ≡ length vertices * e.components
    len_of e there = subst (λ (o : Option WriteKept). IfSome o (λ (w : WriteKept). length rows ≡ length vertices * w.components)) there len

    -- and all entries have values for their vertices still
    pub still_filled : AreFilled own (at_place (written vertices rows) entry writes) times
    still_filled = record {
      values = λ p m is.
          all_at_place (λ (e : WriteKept). e.mesh ≡ p → length e.values ≡ length (vertices_of m) * e.components) (written vertices rows) writes entry
          (λ e there has here.
          length-with_rows e.components vertices rows e.values (rows_of_entry e there) (len_of e there) ∙ has here)
          (filled.values p m is);
      samples = all_at_place (λ (e : WriteKept). map (λ s. s.time) e.samples ≡ times) (written vertices rows) writes entry (λ e there same. same) filled.samples;
      few = filled.few;
    }

pub still_of_plan : (plan : PlanParts) (part : ℕ) (names : Called) (own : List AnyMesh) (writes : List WriteKept) (reads : List ReadEntry) (entry : ℕ) (vertices : List ℕ) (rows : List ℤ)
    → IsOfPlan plan part names own writes reads → IsOfPlan plan part names own (at_place (written vertices rows) entry writes) reads
still_of_plan plan part names own writes reads entry vertices rows of =
    record {
      participant = of.participant;
      named = of.named;
      meshes = of.meshes;
      dimensions = of.dimensions;
      written = shapes_untouched writes entry vertices rows ∙ of.written;
      read = of.read;
    }

-- a member whose buffers and samples are others
abbrev pub rewritten : Member → (buffers : List (List ℤ)) → (noted : List Written) → Member
rewritten m buffers noted = record m { course = record m.course { buffers = buffers; turn = record m.course.turn { written = noted } } }

pub rows_done : (m now : Member) (buffers : List (List ℤ)) (noted : List Written) (entry : ℕ) (vertices : List ℕ) (rows : List ℤ) → m ≡ now
    → buffers ≡ written_buffers m.plan m.part entry vertices rows m.course.buffers → noted ≡ m.course.turn.written
    → rewritten m buffers noted ≡ did now (writes_rows entry vertices rows)
rows_done m now buffers noted entry vertices rows is is_buffers is_noted =
    ap₂ (rewritten m) is_buffers is_noted ∙ ap (λ (x : Member). did x (writes_rows entry vertices rows)) is

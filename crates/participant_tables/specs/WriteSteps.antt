-- How what is kept of the written entries begins and goes on. After the coupling documentation's write entries; that values begin as zeros is the project's own.
use Rattle.std.specs.Prelude.{◌≡◌, ℕ, ◌-◌, ◌*◌, ◌&&◌, nat_eq, if◌then◌else◌, ℤ, pos, List, [], ◌∷◌, ◌++◌, map, take, position, replicate, length, unwrap_or, Option, All}
use Rattle.std.specs.Option.{option_map_or}
use Rattle.cpl_plan.specs.PlanWords.{components_on}
use Rattle.cpl_plan.specs.declared.parts.PlanParts.{PlanParts}
use Rattle.cpl_plan.specs.declared.parts.PlanEntry.{PlanEntry}
use Rattle.wave_coupling.specs.Known.{provided_by, write_entries}
use Rattle.field_buffers.specs.Rows.{with_rows}
use Rattle.participant_tables.specs.WriteKept.{WriteKept, field_of}

-- the place of a mesh among those that a participant provides
abbrev pub place_of : PlanParts → (part mesh : ℕ) → ℕ
place_of plan part mesh = unwrap_or (position (nat_eq mesh) (provided_by plan part part)) 0

-- how many components an entry has at each vertex
abbrev pub entry_components : PlanParts → PlanEntry → ℕ
entry_components plan entry = option_map_or (λ n. n) (components_on plan entry.data_id entry.mesh) 0

-- an entry before the first vertex
abbrev pub opening_write : PlanParts → (part : ℕ) → PlanEntry → WriteKept
opening_write plan part entry = record {
  data_id = entry.data_id;
  mesh = place_of plan part entry.mesh;
  components = entry_components plan entry;
  values = [];
  samples = [];
}

abbrev pub opening_writes : PlanParts → (part : ℕ) → List WriteKept
opening_writes plan part = map (opening_write plan part) (write_entries plan part)

-- the place of the first entry with these data on the mesh at a place
abbrev pub written_at : (place data_id : ℕ) → List WriteKept → Option ℕ
written_at place data_id entries = position (λ e. nat_eq e.mesh place && nat_eq e.data_id data_id) entries

-- with zeros for more vertices of the mesh at a place
abbrev pub grown : (place more : ℕ) → WriteKept → WriteKept
grown place more entry =
    if nat_eq entry.mesh place then record entry { values = entry.values ++ replicate (more * entry.components) (pos 0) } else entry

-- with the first vertices of that mesh alone
abbrev pub shrunk : (place vertices : ℕ) → WriteKept → WriteKept
shrunk place vertices entry =
    if nat_eq entry.mesh place then record entry { values = take (vertices * entry.components) entry.values } else entry

-- the mesh at a place has so many vertices
abbrev pub HaveVertices : (place vertices : ℕ) → List WriteKept → Type 0
HaveVertices place vertices entries = All (λ e. e.mesh ≡ place → length e.values ≡ vertices * e.components) entries

-- nothing was sampled yet
abbrev pub HaveNoSamples : List WriteKept → Type 0
HaveNoSamples entries = All (λ e. e.samples ≡ []) entries

-- with rows written at some vertices
abbrev pub written : (vertices : List ℕ) → (rows : List ℤ) → WriteKept → WriteKept
written vertices rows entry = record entry { values = with_rows entry.components vertices rows entry.values }

-- with the values as they stand sampled at a time, and with the last sample taken off
abbrev pub sampled : (time : ℕ) → WriteKept → WriteKept
sampled time entry = record entry { samples = entry.samples ++ record { time = time; field = field_of entry } ∷ [] }

abbrev pub unsampled : WriteKept → WriteKept
unsampled entry = record entry { samples = take (length entry.samples - 1) entry.samples }

-- with zeros, and with no samples
abbrev pub cleared : WriteKept → WriteKept
cleared entry = record entry { values = replicate (length entry.values) (pos 0) }

abbrev pub forgotten : WriteKept → WriteKept
forgotten entry = record entry { samples = [] }

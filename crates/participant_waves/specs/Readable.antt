-- Which waves can be read, and until when. After the coupling documentation's reading within a window.
use Rattle.std.specs.Prelude.{◌≡◌, ◌⊎◌, ℕ, ◌*◌, ◌≤◌, List, All, length, slice_get, Some}
use Rattle.mesh_data.specs.AnyMeshes.{vertices_of}
use Rattle.mesh_data.specs.declared.any_mesh.AnyMesh.{AnyMesh}
use Rattle.waveform.specs.IsWave.{first_time, last_time}
use Rattle.wave_coupling.specs.Posts.{Wave}
use Rattle.participant_tables.specs.declared.read_table.ReadEntry.{ReadEntry}
use Rattle.participant_waves.specs.declared.kept_input.KeptInput.{KeptInput}

-- a constant, or a wave from that time on until then
abbrev pub IsReadable : (from until : ℕ) → Wave → Type 0
IsReadable from until wave = (length wave ≡ 1) ⊎ ((first_time wave ≤ from) × (until ≤ last_time wave))

-- the input of an entry has values for all vertices of its mesh
abbrev pub HasRowsOf : (own : List AnyMesh) → (inputs : List KeptInput) → ReadEntry → Type 0
HasRowsOf own inputs entry = (mesh : AnyMesh) (input : KeptInput) → slice_get own entry.mesh ≡ Some mesh
    → slice_get inputs entry.received ≡ Some input → All (λ s. length s.field.values ≡ length (vertices_of mesh) * entry.components) input.wave

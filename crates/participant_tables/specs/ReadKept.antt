-- What is kept of an entry that a participant reads: which of the exchanges that it receives serves the entry. After the coupling documentation's read entries.
use Rattle.std.specs.Prelude.{ℕ, ◌&&◌, nat_eq, List, map, position, unwrap_or, Option}
use Rattle.cpl_plan.specs.PlanWords.{passes}
use Rattle.cpl_plan.specs.declared.parts.PlanParts.{PlanParts}
use Rattle.cpl_plan.specs.declared.parts.PlanEntry.{PlanEntry}
use Rattle.wave_coupling.specs.Posts.{received}
use Rattle.wave_coupling.specs.Known.{read_entries, read_mesh, serves}
use Rattle.wave_coupling.specs.MappedInputs.{degree_of}
use Rattle.participant_tables.specs.WriteSteps.{place_of, entry_components}
use Rattle.participant_tables.specs.declared.read_table.ReadEntry.{ReadEntry}

-- the place, among the exchanges that a participant receives, of the one that serves an entry
abbrev pub served_from : PlanParts → (part : ℕ) → PlanEntry → Option ℕ
served_from plan part entry =
    position (λ x. passes plan.exchanges x (λ e. serves plan part e (read_mesh plan part e) entry)) (received plan part)

abbrev pub opening_read : PlanParts → (part : ℕ) → PlanEntry → ReadEntry
opening_read plan part entry = record {
  data_id = entry.data_id;
  mesh = place_of plan part entry.mesh;
  components = entry_components plan entry;
  degree = degree_of plan part entry;
  received = unwrap_or (served_from plan part entry) 0;
}

abbrev pub opening_reads : PlanParts → (part : ℕ) → List ReadEntry
opening_reads plan part = map (opening_read plan part) (read_entries plan part)

-- the place of the first entry with these data on the mesh at a place
abbrev pub read_at : (place data_id : ℕ) → List ReadEntry → Option ℕ
read_at place data_id entries = position (λ e. nat_eq e.mesh place && nat_eq e.data_id data_id) entries

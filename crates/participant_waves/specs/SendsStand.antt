-- What is kept of the exchanges that a participant sends, and what it stands for: which entry each sends, over which mapping. After the coupling documentation's write entries and write mappings.
use Rattle.std.specs.Prelude.{◌≡◌, ℕ, ◌<◌, ◌≤◌, List, [], ◌∷◌, All, map, length, position, slice_get, Some, IfSome}
use Rattle.cpl_plan.specs.PlanWords.{components_on}
use Rattle.cpl_plan.specs.declared.parts.PlanParts.{PlanParts}
use Rattle.wave_coupling.specs.Posts.{Wave, sent}
use Rattle.wave_coupling.specs.Mapped.{mapped_wave}
use Rattle.wave_coupling.specs.Known.{Known, map_at, points_of, serves, write_entries, write_mesh}
use Rattle.participant_tables.specs.WriteKept.{WriteKept, field_of}
use Rattle.participant_waves.specs.Passages.{CanPass, HasSources, through}
use Rattle.participant_waves.specs.declared.sending.Sending.{Sending}
use Rattle.participant_waves.specs.declared.sends.Sends.{Sends}

-- an exchange of a plan, as its sender sends it between the meshes that it knows
pub record IsSending (plan : PlanParts) (part : ℕ) (known : Known) (s : Sending) : Type 0 where
  pub exchange : slice_get plan.exchanges s.exchange ≡ Some s.sent
  pub entry : position (serves plan part s.sent (write_mesh plan part s.sent)) (write_entries plan part) ≡ Some s.entry
  pub components : components_on plan s.sent.data_id s.sent.mesh ≡ Some s.components
  pub written : components_on plan s.sent.data_id (write_mesh plan part s.sent) ≡ Some s.components
  pub vertices : length (points_of plan part known s.sent.mesh) ≡ s.vertices
  pub sources : HasSources (length (points_of plan part known (write_mesh plan part s.sent))) s.map
  pub mapped : (wave : Wave)
      → mapped_wave (map_at plan part s.sent.write_map) (points_of plan part known (write_mesh plan part s.sent)) (points_of plan part known s.sent.mesh) wave ≡ through s.map wave

-- all exchanges that the participant sends, in order
pub record AreSends (plan : PlanParts) (part : ℕ) (known : Known) (sends : Sends) : Type 0 where
  pub sender : sends.part ≡ part
  pub numbers : map (λ s. s.exchange) sends.sendings ≡ sent plan part
  pub each : All (IsSending plan part known) sends.sendings

-- the entry that is sent is there; it has some sample, and each of its samples has values for the vertices that are mapped from
pub record CanSend (writes : List WriteKept) (s : Sending) : Type 0 where
  pub there : s.entry < length writes
  pub some : IfSome (slice_get writes s.entry) (λ e. 1 ≤ length e.samples)
  pub fields : IfSome (slice_get writes s.entry) (λ e. CanPass s.map e.samples)

-- the same of its values as they stand
pub record CanSendInitial (writes : List WriteKept) (s : Sending) : Type 0 where
  pub there : s.entry < length writes
  pub field : IfSome (slice_get writes s.entry) (λ e. CanPass s.map (record { time = 0; field = field_of e } ∷ []))

-- What a participant posts: the samples that it has written, mapped where the exchange has a write mapping. After the coupling documentation's write mappings, initial data and substeps.
use Rattle.std.specs.Prelude.{ℕ, ◌-◌, ◌*◌, Bool, ◌&&◌, nat_eq, if◌then◌else◌, List, [], ◌∷◌, map, take, drop, length, replicate, slice_get, Option, Some, None, Result, Ok, Err, ℤ, pos}
use Rattle.cpl_plan.specs.PlanWords.{components_of}
use Rattle.cpl_plan.specs.declared.parts.PlanParts.{PlanParts}
use Rattle.cpl_plan.specs.declared.parts.PlanEntry.{PlanEntry}
use Rattle.cpl_plan.specs.declared.parts.Exchange.{Exchange}
use Rattle.cpl_plan.specs.declared.words.Fault.{Fault}
use Rattle.cpl_plan.specs.declared.words.Fault.TheVariants.{WriteMap}
use Rattle.waveform.specs.declared.sample.Sample.{Sample}
use Rattle.wave_coupling.specs.Posts.{Wave, Post, sent}
use Rattle.wave_coupling.specs.Mapped.{OutOfRange, mapped_wave, all_or_first}
use Rattle.wave_coupling.specs.Noted.{Written}
use Rattle.wave_coupling.specs.Known.{Known, points_of, write_mesh, write_entries, map_at, width_of}

module _ (plan : PlanParts) (part : ℕ) where
  -- the values of a write entry among all that are written
  abbrev pub values_at : Known → (entries : List PlanEntry) → PlanEntry → List ℤ → List ℤ
  values_at known [] entry values = []
  values_at known (one ∷ rest) entry values =
      if nat_eq one.data_id entry.data_id && nat_eq one.mesh entry.mesh then take (width_of plan part known one) values
      else values_at known rest entry (drop (width_of plan part known one) values)

  -- what is written of an exchange at a time
  abbrev pub sample_of : Known → Exchange → Written → Sample
  sample_of known e written = record {
    time = written.time;
    field = record {
      components = components_of plan e;
      values = values_at known (write_entries plan part) (record { data_id = e.data_id; mesh = write_mesh plan part e }) written.values;
    };
  }

  -- all samples of a window, or the one at its end
  abbrev pub posted_samples : (substeps : Bool) → List Sample → List Sample
  posted_samples substeps samples = if substeps then samples else drop (length samples - 1) samples

  abbrev pub write_fault : (w k x : ℕ) → Result Wave OutOfRange → Result Wave (Option Fault)
  write_fault w k x (Ok wave) = Ok wave
  write_fault w k x (Err at) = Err (Some (WriteMap part w k x at.time at.vertex at.component))

  abbrev pub written_wave : Known → (w k : ℕ) → List Written → (x : ℕ) → Option Exchange → Result Wave (Option Fault)
  written_wave known w k written x None = Ok []
  written_wave known w k written x (Some e) =
      write_fault w k x
      (mapped_wave (map_at plan part e.write_map) (points_of plan part known (write_mesh plan part e)) (points_of plan part known e.mesh)
      (posted_samples e.substeps (map (sample_of known e) written)))

  -- what is posted of the samples that were written: each exchange's wave, mapped where it has a write mapping; or the first place that is out of range
  abbrev pub post_of : Known → (w k : ℕ) → List Written → Result Post (Option Fault)
  post_of known w k written = all_or_first (map (λ x. written_wave known w k written x (slice_get plan.exchanges x)) (sent plan part))

  -- zeros, for an exchange whose initial data are not written
  abbrev pub zeros : Known → Exchange → Wave
  zeros known e = record {
    time = 0;
    field = record { components = components_of plan e; values = replicate (components_of plan e * length (points_of plan part known e.mesh)) (pos 0) };
  } ∷ []

  abbrev pub initial_wave : Known → Written → (x : ℕ) → Option Exchange → Result Wave (Option Fault)
  initial_wave known first x None = Ok []
  initial_wave known first x (Some e) = if e.initialize then written_wave known 0 0 (first ∷ []) x (Some e) else Ok (zeros known e)

  -- the initial post
  abbrev pub initial_post : Known → List ℤ → Result Post (Option Fault)
  initial_post known values =
      all_or_first (map (λ x. initial_wave known (record { window = 0; iteration = 0; step = 0; time = 0; values = values }) x (slice_get plan.exchanges x)) (sent plan part))

-- What fits is told by what is kept: it fits in each state for which that stands.
use Rattle.std.proofs.Common.{◌≡◌, ℕ, zero, suc, ◌*◌, ◌<◌, Bool, true, false, if◌then◌else◌, List, [], length, slice_get, Option, Some, None, refl, sym, ap, subst, ◌∙◌, arith}
use Rattle.std.specs.Option.{option_map_or, option_and_then}
use Rattle.std.proofs.Math.Path.{fun_ext}
use Rattle.std.proofs.lemmas.List.Elements.{All-weaker}
use Rattle.mesh_data.specs.AnyMeshes.{vertices_of}
use Rattle.mesh_data.specs.declared.any_mesh.AnyMesh.{AnyMesh}
use Rattle.waveform.specs.IsWave.{last_time}
use Rattle.waveform.specs.declared.sample.Sample.{Sample}
use Rattle.cpl_plan.specs.PlanWords.{components_of}
use Rattle.cpl_plan.specs.Windows.{window_end, latest_end}
use Rattle.cpl_plan.specs.declared.parts.PlanParts.{PlanParts}
use Rattle.cpl_plan.specs.declared.parts.Exchange.{Exchange}
use Rattle.coupled_loop.specs.CoreState.{Place, sending, collecting, opening, taking, within, judging, look_in}
use Rattle.coupled_loop.specs.CoreStep.{sends_meshes, takes_meshes, posts, takes, judges, stops, lacks_memory, ends, is_cut}
use Rattle.coupled_loop.specs.PlanFrames.{window_maker, ends_made}
use Rattle.wave_coupling.specs.Posts.{Wave, Post, newest_time}
use Rattle.wave_coupling.specs.Coupling.{makes_windows, start_of, latest_of}
use Rattle.core_sides.specs.CoreWords.{WaveState, WaveAct}
use Rattle.core_sides.specs.PostedMeshes.{mesh_among, values_in}
use Rattle.core_sides.specs.FittingPosts.{AreWaves, IsOfExchange, IsInitialWave, EndsAs, IsWindowWave}
use Rattle.core_sides.specs.Fitting.{FitsAt, IsFitting}
use Rattle.core_sides.specs.SidesStand.{AreStanding}
use Rattle.core_sides.specs.declared.sides.Sides.{Sides}
use Rattle.core_sides.specs.declared.standing.Standing.{Standing}
use Rattle.core_sides.proofs.KeptTells.{ended_is, there_is}
use Rattle.core_sides.proofs.Telling.{starts_as, window_end_is}

module _ (plan : PlanParts) (kept : Sides) (sides other : WaveState) (here : AreStanding plan kept sides) (there : AreStanding plan kept other) where
  sent_same : (q : ℕ) → (sides q).sent ≡ (other q).sent
  sent_same q = by (slice_get kept.standings.items q) refl where
    by : (o : Option Standing) → slice_get kept.standings.items q ≡ o → (sides q).sent ≡ (other q).sent
    by (Some s) e = sym (here.each q s e).sent ∙ (there.each q s e).sent
    by None e = ap (λ side. side.sent) (here.others q e ∙ sym (there.others q e))

  place_same : (q : ℕ) → (sides q).place ≡ (other q).place
  place_same q = by (slice_get kept.standings.items q) refl where
    by : (o : Option Standing) → slice_get kept.standings.items q ≡ o → (sides q).place ≡ (other q).place
    by (Some s) e = (here.each q s e).place ∙ sym (there.each q s e).place
    by None e = ap (λ side. side.place) (here.others q e ∙ sym (there.others q e))

  values_same : (e : Exchange) → values_in plan sides e ≡ values_in plan other e
  values_same e =
      ap (λ (sent : ℕ → Option (List AnyMesh)). components_of plan e * length (option_map_or vertices_of
      (option_and_then (λ m. option_and_then (mesh_among plan m.owner e.mesh) (sent m.owner)) (slice_get plan.meshes e.mesh)) []))
      (fun_ext sent_same)

  start_same : (w : ℕ) → start_of plan (look_in sides) w ≡ start_of plan (look_in other) w
  start_same w = ap (λ o. option_map_or (λ start. start) o 0) (starts_as plan kept sides here w ∙ sym (starts_as plan kept other there w))

  ends_same : (w : ℕ) → window_end plan (ends_made newest_time (look_in sides) (window_maker plan) w) w ≡ window_end plan (ends_made newest_time (look_in other) (window_maker plan) w) w
  ends_same zero = refl
  ends_same (suc w) = sym (window_end_is plan kept sides here (suc w) (omega arith)) ∙ window_end_is plan kept other there (suc w) (omega arith)

  latest_same : (part w : ℕ) → latest_of plan (look_in sides) part w ≡ latest_of plan (look_in other) part w
  latest_same part w =
      ap (λ (start : ℕ). if makes_windows plan part then latest_end plan start
      else option_map_or (λ end. end) (window_end plan (ends_made newest_time (look_in sides) (window_maker plan) w) w) 0) (start_same w)
      ∙ ap (λ (end : Option ℕ). if makes_windows plan part then latest_end plan (start_of plan (look_in other) w) else option_map_or (λ e. e) end 0) (ends_same w)

  of_exchange : (e : Exchange) (sample : Sample) → IsOfExchange plan sides e sample → IsOfExchange plan other e sample
  of_exchange e sample is = record { components = is.components; values = is.values ∙ values_same e; in_range = is.in_range }

  initial_wave : (e : Exchange) (wave : Wave) → IsInitialWave plan sides e wave → IsInitialWave plan other e wave
  initial_wave e wave is = record {
    is_wave = is.is_wave;
    one = is.one;
    start = is.start;
    lengths = All-weaker (IsOfExchange plan sides e) (IsOfExchange plan other e) (of_exchange e) wave is.lengths;
  }

  ends_so : (makes : Bool) (last latest : ℕ) → EndsAs plan sides makes last latest → EndsAs plan other makes last latest
  ends_so true last latest is = is
  ends_so false last latest is = is

  window_wave : (part w : ℕ) (e : Exchange) (wave : Wave) → IsWindowWave plan sides part w e wave → IsWindowWave plan other part w e wave
  window_wave part w e wave is = record {
    is_wave = is.is_wave;
    few = is.few;
    later = All-weaker (λ s. start_of plan (look_in sides) w < s.time) (λ s. start_of plan (look_in other) w < s.time)
        (λ s less. subst (λ (n : ℕ). n < s.time) (start_same w) less) wave is.later;
    end = ends_so (makes_windows plan part) (last_time wave) (latest_of plan (look_in other) part w)
        (subst (EndsAs plan sides (makes_windows plan part) (last_time wave)) (latest_same part w) is.end);
    without_substeps = is.without_substeps;
    of_one_step = is.of_one_step;
    lengths = All-weaker (IsOfExchange plan sides e) (IsOfExchange plan other e) (of_exchange e) wave is.lengths;
  }

  waves_so : (part : ℕ) (Fits Also : Exchange → Wave → Type 0) → ((e : Exchange) (wave : Wave) → Fits e wave → Also e wave) → (post : Post)
      → AreWaves plan part Fits post → AreWaves plan part Also post
  waves_so part Fits Also so post are = record { count = are.count; each = λ i x e wave sends is_e at. so e wave (are.each i x e wave sends is_e at) }

  fits_at : (part : ℕ) (place : Place) (act : WaveAct) → FitsAt plan sides part place act → FitsAt plan other part place act
  fits_at part place (stops fault) fits = tt
  fits_at part place lacks_memory fits = tt
  fits_at part place ends fits = tt
  fits_at part place is_cut fits = tt
  fits_at part sending (sends_meshes meshes) fits = fits
  fits_at part collecting takes_meshes fits = tt
  fits_at part opening (posts post) fits = waves_so part (IsInitialWave plan sides) (IsInitialWave plan other) initial_wave post fits
  fits_at part (taking w k) takes fits = sym (sym (there_is plan kept sides here w) ∙ there_is plan kept other there w) ∙ fits
  fits_at part (within w k) (posts post) fits = record {
    waves = waves_so part (IsWindowWave plan sides part w) (IsWindowWave plan other part w) (window_wave part w) post fits.waves;
    together = fits.together;
  }
  fits_at part (judging scheme w k) judges fits = tt
  fits_at part place act fits = absurd fits

  -- what fits in one state fits in the other
  pub fits_alike : (part : ℕ) (act : WaveAct) → IsFitting plan sides part act → IsFitting plan other part act
  fits_alike part act is = record {
    participant = is.participant;
    running = sym (ended_is plan kept other there part) ∙ ended_is plan kept sides here part ∙ is.running;
    fits = subst (λ (p : Place). FitsAt plan other part p act) (place_same part) (fits_at part (sides part).place act is.fits);
  }

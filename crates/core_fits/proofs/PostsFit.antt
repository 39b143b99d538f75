-- What is posted where it fits has a fitting wave for each exchange that is sent, and ends where its window may.
use Rattle.std.proofs.Common.{◌≡◌, inl, inr, ℕ, suc, ◌-◌, ◌<◌, ◌≤◌, Bool, true, false, nat_eq, cond, List, [], ◌∷◌, length, get_or, find, slice_get, Some, All, Contains, refl, ap, sym, subst, ◌∙◌, arith}
use Rattle.std.specs.List.{zip}
use Rattle.std.specs.Option.{option_map_or}
use Rattle.std.proofs.lemmas.Bool.{cases_Bool, eq-eqb, eqb-true, false≢true}
use Rattle.std.proofs.lemmas.List.{get_or-map}
use Rattle.std.proofs.lemmas.List.Elements.{All-weaker}
use Rattle.std.proofs.lemmas.Option.{same_Some, slice_get-get_or, slice_get_within}
use Rattle.plan_order.proofs.Loops.{in_cons}
use Rattle.plan_order.proofs.Orders.{none_in_nil}
use Rattle.waveform.specs.IsWave.{last_time}
use Rattle.waveform.specs.declared.sample.Sample.{Sample}
use Rattle.waveform.proofs.Places.{no_sample}
use Rattle.cpl_plan.specs.PlanWords.{components_of}
use Rattle.cpl_plan.specs.ValidPlan.{IsValidPlan}
use Rattle.cpl_plan.specs.declared.parts.PlanParts.{PlanParts}
use Rattle.cpl_plan.specs.declared.parts.Exchange.{Exchange}
use Rattle.coupled_loop.specs.CoreState.{look_in}
use Rattle.wave_coupling.specs.Posts.{Wave, Post, newest_time, sent, wave_of}
use Rattle.wave_coupling.specs.Coupling.{latest_of, makes_windows, start_of}
use Rattle.wave_laws.specs.Fitting.{AreSamplesOf, IsInitialWave, IsPostedWave, IsSampleOf, count_of}
use Rattle.wave_values.specs.Fits.{EndsInTime}
use Rattle.wave_values.proofs.WritesFit.{sent_in}
use Rattle.core_sides.specs.CoreWords.{WaveState}
use Rattle.core_sides.specs.FittingPosts.{AreWaves, EndsAs, IsInitialPost, IsOfExchange, IsWindowPost, IsInitialWave as IsFirstWave, IsWindowWave}
use Rattle.core_fits.specs.VerticesIn.{vertices_in}

-- the wave of a number beside others
zip_found : (ns : List ℕ) (post : Post) (x : ℕ) → length post ≡ length ns → Contains ns x
    → (i : ℕ) × (wave : Wave) × (slice_get ns i ≡ Some x) × (slice_get post i ≡ Some wave)
    × (option_map_or (λ (pair : ℕ × Wave). pair.1) (find (λ (pair : ℕ × Wave). nat_eq pair.0 x) (zip ns post)) [] ≡ wave)
zip_found [] post x many inside = absurd (none_in_nil x inside)
zip_found (n ∷ ns) [] x many inside = absurd (omega (arith, many))
zip_found (n ∷ ns) (wave ∷ post) x many inside =
    elim (cases_Bool (nat_eq n x)) [
      | inl same ↦ (
        0,
        wave,
        ap (λ (m : ℕ). Some m) (eqb-true n x same),
        refl,
        ap (λ (b : Bool). option_map_or (λ (pair : ℕ × Wave). pair.1) (cond b (Some (n, wave)) (find (λ (pair : ℕ × Wave). nat_eq pair.0 x) (zip ns post))) []) same,
      )
      | inr other ↦
          let rest = zip_found ns post x (omega (arith, many)) (elim (in_cons n ns x inside) [
            | inl same ↦ absurd (false≢true (sym other ∙ eq-eqb n x same))
            | inr later ↦ later
          ]) in (
            suc rest.0,
            rest.1,
            rest.2,
            rest.3,
            ap (λ (b : Bool). option_map_or (λ (pair : ℕ × Wave). pair.1) (cond b (Some (n, wave)) (find (λ (pair : ℕ × Wave). nat_eq pair.0 x) (zip ns post))) []) other ∙ rest.4,
          )
    ]

item_at : {X : Type 0} (xs : List X) (i : ℕ) (x d : X) → slice_get xs i ≡ Some x → get_or xs i d ≡ x
item_at xs i x d at = same_Some (get_or xs i d) x (sym (slice_get-get_or xs i d (slice_get_within xs i x at)) ∙ at)

-- what is posted for an exchange
module _ (plan : PlanParts) (valid : IsValidPlan plan) (part : ℕ) (post : Post) (x : ℕ) (e : Exchange) (at : slice_get plan.exchanges x ≡ Some e) (sends : e.from ≡ part) where
  placed : length post ≡ length (sent plan part) → (i : ℕ) × (wave : Wave) × (slice_get (sent plan part) i ≡ Some x) × (slice_get post i ≡ Some wave) × (wave_of plan e x post ≡ wave)
  placed many =
      let found = zip_found (sent plan part) post x many (sent_in plan valid (record { own = []; received = [] }) x e at part sends) in (
        found.0,
        found.1,
        found.2,
        found.3,
        ap (λ (p : ℕ). option_map_or (λ (pair : ℕ × Wave). pair.1) (find (λ (pair : ℕ × Wave). nat_eq pair.0 x) (zip (sent plan p) post)) []) sends ∙ found.4,
      )

  wave_fits : (Fits : Exchange → Wave → Type 0) → AreWaves plan part Fits post → Fits e (wave_of plan e x post)
  wave_fits Fits are =
      let found = placed are.count in subst (λ (wave : Wave). Fits e wave) (sym found.4) (are.each found.0 x e found.1 found.2 at found.3)

  wave_holds : (P : Wave → Type 0) → length post ≡ length (sent plan part) → All P post → P (wave_of plan e x post)
  wave_holds P many all =
      let found = placed many in
      subst P (item_at post found.0 found.1 [] found.3 ∙ sym found.4) (all found.0 [] (slice_get_within post found.0 found.1 found.3))

module _ (plan : PlanParts) (sides : WaveState) (e : Exchange) (wave : Wave) where
  samples_of : All (IsOfExchange plan sides e) wave → AreSamplesOf (components_of plan e) (count_of plan (vertices_in plan sides) e) wave
  samples_of all =
      All-weaker (IsOfExchange plan sides e) (IsSampleOf (components_of plan e) (count_of plan (vertices_in plan sides) e))
      (λ sample is. record { at_vertex = is.components; in_all = is.values; values = is.in_range }) wave all

  first_of : IsFirstWave plan sides e wave → IsInitialWave (components_of plan e) (count_of plan (vertices_in plan sides) e) wave
  first_of is =
      let within : 0 < length wave = let one = is.one in omega (arith, one) in
      record {
        one = is.one;
        at_start = get_or-map (λ (s : Sample). s.time) wave 0 no_sample 0 within ∙ is.start 0 no_sample within;
        samples = samples_of is.lengths;
      }

  window_of : (part w : ℕ) → IsWindowWave plan sides part w e wave
      → IsPostedWave (start_of plan (look_in sides) w) (last_time wave) (components_of plan e) (count_of plan (vertices_in plan sides) e) wave
  window_of part w is = record {
    least = is.is_wave.least;
    most = is.few;
    rising = is.is_wave.rising;
    after_start = is.later;
    at_end = refl;
    samples = samples_of is.lengths;
  }

-- a posted wave ends after it starts
later_end : (start end components count : ℕ) (wave : Wave) → IsPostedWave start end components count wave → start < end
later_end start end components count wave is =
    let within : length wave - 1 < length wave = let least = is.least in omega (arith, least) in
    let last : (get_or wave (length wave - 1) no_sample).time ≡ end = sym (get_or-map (λ (s : Sample). s.time) wave (length wave - 1) no_sample 0 within) ∙ is.at_end in
    omega (arith, last, is.after_start (length wave - 1) no_sample within)

module _ (plan : PlanParts) (valid : IsValidPlan plan) (sides : WaveState) (part : ℕ) (post : Post) where
  -- initial data
  pub initial_post_fits : IsInitialPost plan sides part post → (x : ℕ) (e : Exchange) → slice_get plan.exchanges x ≡ Some e → e.from ≡ part
      → IsInitialWave (components_of plan e) (count_of plan (vertices_in plan sides) e) (wave_of plan e x post)
  initial_post_fits is x e at sends =
      first_of plan sides e (wave_of plan e x post) (wave_fits plan valid part post x e at sends (IsFirstWave plan sides) is)

  module _ (w : ℕ) (is : IsWindowPost plan sides part w post) where
    own : (x : ℕ) (e : Exchange) → slice_get plan.exchanges x ≡ Some e → e.from ≡ part → IsWindowWave plan sides part w e (wave_of plan e x post)
    own x e at sends = wave_fits plan valid part post x e at sends (IsWindowWave plan sides part w) is.waves

    ends_with : (x : ℕ) (e : Exchange) → slice_get plan.exchanges x ≡ Some e → e.from ≡ part → last_time (wave_of plan e x post) ≡ newest_time post
    ends_with x e at sends = wave_holds plan valid part post x e at sends (λ wave. last_time wave ≡ newest_time post) is.waves.count is.together

    posted : (x : ℕ) (e : Exchange) → slice_get plan.exchanges x ≡ Some e → e.from ≡ part
        → IsPostedWave (start_of plan (look_in sides) w) (newest_time post) (components_of plan e) (count_of plan (vertices_in plan sides) e) (wave_of plan e x post)
    posted x e at sends =
        subst (λ (end : ℕ). IsPostedWave (start_of plan (look_in sides) w) end (components_of plan e) (count_of plan (vertices_in plan sides) e) (wave_of plan e x post))
        (ends_with x e at sends) (window_of plan sides e (wave_of plan e x post) part w (own x e at sends))

    in_time : (makes : Bool) (end latest : ℕ) → EndsAs plan sides makes end latest → (end ≤ latest) × (makes ≡ false → end ≡ latest)
    in_time true end latest is = (is, λ never. absurd (false≢true (sym never)))
    in_time false end latest is = (omega (arith, is), λ many. is)

    -- data of a window, where an exchange is sent
    pub window_post_fits : (x : ℕ) (e : Exchange) → slice_get plan.exchanges x ≡ Some e → e.from ≡ part
        → EndsInTime plan (vertices_in plan sides) part (start_of plan (look_in sides) w) (latest_of plan (look_in sides) part w) (makes_windows plan part) post
    window_post_fits x e at sends =
        let ends = in_time (makes_windows plan part) (newest_time post) (latest_of plan (look_in sides) part w)
        (subst (λ (end : ℕ). EndsAs plan sides (makes_windows plan part) end (latest_of plan (look_in sides) part w)) (ends_with x e at sends) (own x e at sends).end) in
        record {
          end = newest_time post;
          after = later_end (start_of plan (look_in sides) w) (newest_time post) (components_of plan e) (count_of plan (vertices_in plan sides) e) (wave_of plan e x post) (posted x e at sends);
          before = ends.0;
          reached = ends.1;
          waves = posted;
        }

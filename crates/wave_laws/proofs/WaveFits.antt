-- The value at a window's start alone, and followed by what was posted for the window, is an input that fits.
use Rattle.std.proofs.Common.{◌≡◌, ◌⊎◌, inl, inr, ℕ, suc, ◌-◌, ◌<◌, ◌≤◌, [], ◌∷◌, ◌++◌, length, Option, refl, ap, sym, subst, ◌∙◌, arith, append-nil}
use Rattle.std.specs.Prelude.{option_map, option_to_list, slice_index}
use Rattle.std.proofs.lemmas.List.Elements.{All-cons, All-nil, All-weaker, All-get_or}
use Rattle.std.proofs.lemmas.List.Kept.{AllPairs-cons}
use Rattle.std.proofs.lemmas.Option.{get_or_from_slice_get}
use Rattle.cpl_plan.proofs.Readings.{there}
use Rattle.waveform.specs.declared.sample.Sample.{Sample}
use Rattle.waveform.specs.IsWave.{IsWave, last_time, times}
use Rattle.wave_coupling.specs.Posts.{Wave, moved_to, at_time}
use Rattle.wave_laws.specs.Fitting.{IsSampleOf, AreSamplesOf, IsPostedWave, IsInputWave}

abbrev comes_before : Sample → Sample → Type 0
comes_before sample later = sample.time < later.time

-- some samples that fit
pub record SomeSamples (components count : ℕ) (wave : Wave) : Type 0 where
  pub least : 1 ≤ length wave
  pub samples : AreSamplesOf components count wave

pub some_posted : (start end components count : ℕ) (wave : Wave) → IsPostedWave start end components count wave → SomeSamples components count wave
some_posted start end components count wave is = record { least = is.least; samples = is.samples }

pub some_read : (start end components count : ℕ) (wave : Wave) → IsInputWave start end components count wave → SomeSamples components count wave
some_read start end components count wave is = record { least = is.least; samples = is.samples }

-- the newest sample at another time
newest : (start components count : ℕ) (wave : Wave) → SomeSamples components count wave → (s : Sample) × (at_time start wave ≡ s ∷ []) × (s.time ≡ start) × IsSampleOf components count s
newest start components count wave is =
    let at = there wave (length wave - 1) (omega (arith, is.least)) in
    let own = All-get_or (IsSampleOf components count) wave (length wave - 1) at.0 (omega (arith, is.least)) is.samples in
    let same : IsSampleOf components count at.0 = subst (λ (s : Sample). IsSampleOf components count s) (get_or_from_slice_get wave (length wave - 1) at.0 at.0 at.1) own in (
      moved_to start at.0,
      ap (λ (o : Option Sample). option_to_list (option_map (moved_to start) o)) at.1,
      refl,
      record { at_vertex = same.at_vertex; in_all = same.in_all; values = same.values },
    )

-- one sample before others does not change the last time
last_after : (s r : Sample) (more : Wave) → last_time (s ∷ r ∷ more) ≡ last_time (r ∷ more)
last_after s r more =
    let place : length (s ∷ r ∷ more) - 1 ≡ suc (length (r ∷ more) - 1) = omega arith in
    ap (λ (k : ℕ). slice_index (times (s ∷ r ∷ more)) k) place

last_cons : (s : Sample) (wave : Wave) → 1 ≤ length wave → last_time (s ∷ wave) ≡ last_time wave
last_cons s [] least = absurd (omega (arith, least))
last_cons s (r ∷ more) least = last_after s r more

module _ (start end components count : ℕ) where
  alone : (s : Sample) → s.time ≡ start → IsSampleOf components count s → IsInputWave start end components count (s ∷ [])
  alone s at is = record {
    least = omega arith;
    most = omega arith;
    rising = AllPairs-cons comes_before s [] (All-nil (comes_before s)) (λ i j d less within. absurd (omega (arith, within)));
    at_start = at;
    at_end = inl refl;
    samples = All-cons (IsSampleOf components count) s [] is (All-nil (IsSampleOf components count));
  }

  followed : (s : Sample) (wave : Wave) → s.time ≡ start → IsSampleOf components count s → IsPostedWave start end components count wave → IsInputWave start end components count (s ∷ wave)
  followed s wave at is posts = record {
    least = omega arith;
    most = omega (arith, posts.most);
    rising = AllPairs-cons comes_before s wave
        (All-weaker (λ (r : Sample). start < r.time) (comes_before s) (λ r after. omega (arith, after, at)) wave posts.after_start) posts.rising;
    at_start = at;
    at_end = inr (last_cons s wave posts.least ∙ posts.at_end);
    samples = All-cons (IsSampleOf components count) s wave is posts.samples;
  }

  -- an input of the value at the start, with nothing more or with what was posted
  pub with_more : (before more : Wave) → SomeSamples components count before → (more ≡ []) ⊎ IsPostedWave start end components count more
      → IsInputWave start end components count (at_time start before ++ more)
  with_more before more is rest =
      let one = newest start components count before is in
      subst (λ (wave : Wave). IsInputWave start end components count (wave ++ more)) (sym one.1)
      (elim rest [
        | inl none ↦ subst (λ (wave : Wave). IsInputWave start end components count (one.0 ∷ wave)) (sym none) (alone one.0 one.2 one.3)
        | inr posts ↦ followed one.0 more one.2 one.3 posts
      ])

  pub value_alone : (before : Wave) → SomeSamples components count before → IsInputWave start end components count (at_time start before)
  value_alone before is =
      subst (λ (wave : Wave). IsInputWave start end components count wave) (append-nil (at_time start before)) (with_more before [] is (inl refl))

-- an input is a wave
pub input_is_wave : (start end components count : ℕ) (wave : Wave) → IsInputWave start end components count wave → IsWave wave
input_is_wave start end components count wave is = record {
  least = is.least;
  most = is.most;
  rising = is.rising;
  alike = λ i j d less within.
      let one = is.samples i d (omega (arith, less, within)) in
      let other = is.samples j d within in
      record { components = one.at_vertex ∙ sym other.at_vertex; len = one.in_all ∙ sym other.in_all };
}

pub posted_is_wave : (start end components count : ℕ) (wave : Wave) → IsPostedWave start end components count wave → IsWave wave
posted_is_wave start end components count wave is = record {
  least = is.least;
  most = omega (arith, is.most);
  rising = is.rising;
  alike = λ i j d less within.
      let one = is.samples i d (omega (arith, less, within)) in
      let other = is.samples j d within in
      record { components = one.at_vertex ∙ sym other.at_vertex; len = one.in_all ∙ sym other.in_all };
}

-- A wave that is mapped sample by sample: what is mapped so far, and what is left.
use Rattle.std.proofs.Common.{◌≡◌, ℕ, ◌+◌, ◌<◌, ◌≤◌, Result, Ok, Err, List, [], ◌∷◌, ◌++◌, drop, map, length, get_or, rules, refl, sym, ap, ◌∙◌}
use Rattle.std.proofs.lemmas.List.{drop_more, drop_all, append_assoc, append-nil}
use Rattle.waveform.specs.declared.sample.Sample.{Sample}
use Rattle.waveform.proofs.Places.{no_sample}
use Rattle.wave_coupling.specs.Posts.{Wave}
use Rattle.wave_coupling.specs.Mapped.{OutOfRange as Place, before_all, all_or_first}
use Rattle.wave_maps.specs.declared.wave_map.WaveMap.{WaveMap}
use Rattle.wave_maps.specs.declared.map_errors.WaveRefusal.{WaveRefusal}
use Rattle.wave_maps.specs.declared.map_errors.WaveRefusal.TheVariants.{OutOfRange, Memory}
use Rattle.wave_maps.specs.MappedThrough.{mapped_at, mapped_through}
use Rattle.wave_maps.specs.Refusals.{IsSampleCause, IsWaveCause}

-- what is done, before what the rest gives
abbrev pub joined : List Sample → Result (List Sample) Place → Result (List Sample) Place
joined done (Ok rest) = Ok (done ++ rest)
joined done (Err at) = Err at

-- what is mapped so far goes on to what the whole wave gives
abbrev pub GoesOn : WaveMap → Wave → (done : List Sample) → (i : ℕ) → Type 0
GoesOn m wave done i = joined done (all_or_first (map (mapped_at m) (drop i wave))) ≡ mapped_through m wave

joined_nothing : (result : Result (List Sample) Place) → joined [] result ≡ result
joined_nothing (Ok rest) = refl
joined_nothing (Err at) = refl

joined_more : (done : List Sample) (s : Sample) (result : Result (List Sample) Place) → joined done (before_all (Ok s) result) ≡ joined (done ++ s ∷ []) result
joined_more done s (Ok rest) = ap Ok (sym (append_assoc done (s ∷ []) rest))
joined_more done s (Err at) = refl

pub starts : (m : WaveMap) (wave : Wave) → GoesOn m wave [] 0
starts m wave = joined_nothing (mapped_through m wave)

rest_is : (m : WaveMap) (wave : Wave) (i : ℕ) → i < length wave
    → all_or_first (map (mapped_at m) (drop i wave)) ≡ before_all (mapped_at m (get_or wave i no_sample)) (all_or_first (map (mapped_at m) (drop (i + 1) wave)))
rest_is m wave i inside = ap (λ rest. all_or_first (map (mapped_at m) rest)) (drop_more wave i no_sample inside)

-- one more sample
pub more : (m : WaveMap) (wave : Wave) (done : List Sample) (i : ℕ) (s : Sample) → i < length wave → mapped_at m (get_or wave i no_sample) ≡ Ok s → GoesOn m wave done i
    → GoesOn m wave (done ++ s ∷ []) (i + 1)
more m wave done i s inside is before =
    sym (joined_more done s (all_or_first (map (mapped_at m) (drop (i + 1) wave))))
    ∙ sym (ap (joined done) (rest_is m wave i inside ∙ ap (λ r. before_all r (all_or_first (map (mapped_at m) (drop (i + 1) wave)))) is))
    ∙ before

-- all of them
pub whole : (m : WaveMap) (wave : Wave) (done : List Sample) (i : ℕ) → length wave ≤ i → GoesOn m wave done i → mapped_through m wave ≡ Ok done
whole m wave done i past before =
    sym before ∙ ap (λ rest. joined done (all_or_first (map (mapped_at m) rest))) (drop_all i wave past) ∙ ap Ok (append-nil done)

-- one that is refused
pub refused : (m : WaveMap) (wave : Wave) (done : List Sample) (i : ℕ) (refusal : WaveRefusal) → i < length wave → IsSampleCause m (get_or wave i no_sample) refusal → GoesOn m wave done i
    → IsWaveCause m wave refusal
refused m wave done i (OutOfRange time vertex component) inside cause before =
    sym before ∙ ap (joined done) (rest_is m wave i inside ∙ ap (λ r. before_all r (all_or_first (map (mapped_at m) (drop (i + 1) wave)))) cause)
refused m wave done i Memory inside cause before = search rules

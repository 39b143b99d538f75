-- Relaxed waves, exchange by exchange: what stands of them so far, and one more.
use Rattle.std.proofs.Common.{◌≡◌, ℕ, ◌+◌, ◌<◌, Some, None, List, [], ◌∷◌, ◌++◌, length, get_or, take, drop, ℤ, arith, sym, ap, ◌∙◌}
use Rattle.std.specs.List.{enumerate_from, flat_map}
use Rattle.std.proofs.lemmas.List.{append-nil, length-map, length-take-le, get_or-map, take_more, take-append-drop}
use Rattle.std.proofs.lemmas.List.Concat.{flat_map-append}
use Rattle.waveform.specs.declared.sample.Sample.{Sample}
use Rattle.acceleration.specs.Exchanged.{Exchanged}
use Rattle.acceleration.specs.RelaxedWaves.{relaxed_wave, relaxed_waves}
use Rattle.acceleration.specs.Outside.{Location, located_wave, located, first_outside}
use Rattle.acceleration.proofs.Locations.{first_outside-none, first_outside-some}
use Rattle.acceleration.proofs.Exchanges.{no_exchange}

abbrev Wave : Type 0
Wave = List Sample

-- the first i waves, all in range
pub record AreFront (factor : ℤ) (i : ℕ) (exchanges : List Exchanged) (waves : List (List Sample)) : Type 0 where
  pub made : waves ≡ take i (relaxed_waves factor exchanges)
  pub inside : first_outside (located waves) ≡ None

enumerate_from-append : (n : ℕ) (xs ys : List Wave) → enumerate_from n (xs ++ ys) ≡ enumerate_from n xs ++ enumerate_from (n + length xs) ys
enumerate_from-append n [] ys = ap (λ (k : ℕ). enumerate_from k ys) (omega arith)
enumerate_from-append n (x ∷ xs) ys =
    let at : n + 1 + length xs ≡ n + length (x ∷ xs) = omega arith in
    ap (λ (rest : List (ℕ × Wave)). (n, x) ∷ rest)
    (enumerate_from-append (n + 1) xs ys ∙ ap (λ (k : ℕ). enumerate_from (n + 1) xs ++ enumerate_from k ys) at)

abbrev locations_at : ℕ × Wave → List (Location × ℤ)
locations_at w = located_wave w.0 w.1

abbrev locations_from : ℕ → List Wave → List (Location × ℤ)
locations_from n waves = flat_map locations_at (enumerate_from n waves)

located-append : (xs ys : List Wave) → located (xs ++ ys) ≡ located xs ++ locations_from (length xs) ys
located-append xs ys =
    ap (λ (ws : List (ℕ × Wave)). flat_map locations_at ws) (enumerate_from-append 0 xs ys)
    ∙ flat_map-append locations_at (enumerate_from 0 xs) (enumerate_from (0 + length xs) ys)
    ∙ ap (λ (k : ℕ). located xs ++ locations_from k ys) (omega arith)

first_outside-same : (a b : List (Location × ℤ)) → a ≡ b → first_outside a ≡ first_outside b
first_outside-same a b is = ap first_outside is

wave_made : (factor : ℤ) (exchanges : List Exchanged) (i : ℕ) (e : Exchanged) → i < length exchanges → get_or exchanges i no_exchange ≡ e
    → take (i + 1) (relaxed_waves factor exchanges) ≡ take i (relaxed_waves factor exchanges) ++ relaxed_wave factor e ∷ []
wave_made factor exchanges i e inside is =
    take_more (relaxed_waves factor exchanges) i [] (rw length-map inside)
    ∙ ap (λ (w : Wave). take i (relaxed_waves factor exchanges) ++ w ∷ [])
    (get_or-map (relaxed_wave factor) exchanges i no_exchange [] inside ∙ ap (relaxed_wave factor) is)

locations_push : (i : ℕ) (waves : List Wave) (wave : Wave) → length waves ≡ i → located (waves ++ wave ∷ []) ≡ located waves ++ located_wave i wave
locations_push i waves wave is =
    located-append waves (wave ∷ [])
    ∙ ap (λ (k : ℕ). located waves ++ (located_wave k wave ++ [])) is
    ∙ ap (λ (locations : List (Location × ℤ)). located waves ++ locations) (append-nil (located_wave i wave))

-- so many stand
length-are : (factor : ℤ) (i : ℕ) (exchanges : List Exchanged) (waves : List Wave) → i < length exchanges → waves ≡ take i (relaxed_waves factor exchanges) → length waves ≡ i
length-are factor i exchanges waves inside made =
    ap (λ (ws : List Wave). length ws) made ∙ length-take-le i (relaxed_waves factor exchanges) (rw length-map (omega arith))

-- one wave more
pub AreFront-next : (factor : ℤ) (i : ℕ) (exchanges : List Exchanged) (e : Exchanged) (waves more : List (List Sample)) → i < length exchanges → get_or exchanges i no_exchange ≡ e
    → first_outside (located_wave i (relaxed_wave factor e)) ≡ None → more ≡ waves ++ relaxed_wave factor e ∷ []
    → AreFront factor i exchanges waves → AreFront factor (i + 1) exchanges more
AreFront-next factor i exchanges e waves more inside is fits pushed front =
    record {
      made = pushed ∙ ap (λ (ws : List Wave). ws ++ relaxed_wave factor e ∷ []) front.made ∙ sym (wave_made factor exchanges i e inside is);
      inside = ap (λ (ws : List Wave). first_outside (located ws)) pushed
          ∙ first_outside-same (located (waves ++ relaxed_wave factor e ∷ [])) (located waves ++ located_wave i (relaxed_wave factor e)) (locations_push i waves (relaxed_wave factor e) (length-are factor i exchanges waves inside front.made))
          ∙ first_outside-none (located waves) (located_wave i (relaxed_wave factor e)) front.inside ∙ fits;
    }

-- what is first outside in wave i, with none before it, is so in all of them
pub outside_in : (factor : ℤ) (i : ℕ) (exchanges : List Exchanged) (e : Exchanged) (waves : List (List Sample)) (location : Location) → i < length exchanges → get_or exchanges i no_exchange ≡ e
    → AreFront factor i exchanges waves → first_outside (located_wave i (relaxed_wave factor e)) ≡ Some location → first_outside (located (relaxed_waves factor exchanges)) ≡ Some location
outside_in factor i exchanges e waves location inside is front outside =
    let all = relaxed_waves factor exchanges in
    let front_is = ap (λ (ws : List Wave). ws ++ relaxed_wave factor e ∷ []) front.made ∙ sym (wave_made factor exchanges i e inside is) in
    let here : first_outside (located (take (i + 1) all)) ≡ Some location =
    ap (λ (ws : List Wave). first_outside (located ws)) (sym front_is)
    ∙ first_outside-same (located (waves ++ relaxed_wave factor e ∷ [])) (located waves ++ located_wave i (relaxed_wave factor e)) (locations_push i waves (relaxed_wave factor e) (length-are factor i exchanges waves inside front.made))
    ∙ first_outside-none (located waves) (located_wave i (relaxed_wave factor e)) front.inside ∙ outside in
    ap (λ (ws : List Wave). first_outside (located ws)) (sym (take-append-drop (i + 1) all))
    ∙ first_outside-same (located (take (i + 1) all ++ drop (i + 1) all)) (located (take (i + 1) all) ++ locations_from (length (take (i + 1) all)) (drop (i + 1) all)) (located-append (take (i + 1) all) (drop (i + 1) all))
    ∙ first_outside-some (located (take (i + 1) all)) (locations_from (length (take (i + 1) all)) (drop (i + 1) all)) location here

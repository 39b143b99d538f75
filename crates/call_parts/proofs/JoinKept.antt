-- Inputs with the waves that are read, one after another.
use Rattle.std.proofs.Common.{◌≡◌, ℕ, suc, ◌+◌, ◌<◌, ◌≤◌, List, [], ◌∷◌, ◌++◌, drop, get_or, length, map, refl, ap, sym, ◌∙◌, arith}
use Rattle.std.proofs.lemmas.List.{drop_more, drop_all, append_assoc, append-nil}
use Rattle.core_sides.specs.declared.event.Input.{Input}
use Rattle.wave_coupling.specs.Posts.{Wave}
use Rattle.wave_coupling.specs.InputWave.{InputWave}
use Rattle.participant_waves.specs.TakenWaves.{with_waves}
use Rattle.participant_waves.specs.declared.kept_input.KeptInput.{KeptInput}
use Rattle.participant_waves.specs.CanShow.{input_kept}

map_append : {X Y : Type 0} (f : X → Y) (xs ys : List X) → map f (xs ++ ys) ≡ map f xs ++ map f ys
map_append f [] ys = refl
map_append f (x ∷ xs) ys = ap (λ all. f x ∷ all) (map_append f xs ys)

with_none : (inputs : List Input) → with_waves inputs [] ≡ []
with_none [] = refl
with_none (input ∷ inputs) = refl

module _ (inputs : List Input) (waves : List Wave) where
  -- what is kept so far and what is made of the rest is the whole
  pub record AreKept (i : ℕ) (kept : List KeptInput) (rest : List Wave) (many : ℕ) : Type 0 where
    pub whole : map input_kept kept ++ with_waves (drop i inputs) rest ≡ with_waves inputs waves
    pub held : many ≡ length rest

  -- one more
  pub kept_more : (i : ℕ) (kept : List KeptInput) (rest more : List Wave) (many fewer : ℕ) (input : Input) (wave : Wave) (one : KeptInput) → i < length inputs → input ≡ get_or inputs i input
      → one ≡ record { source_window = input.source_window; source_iteration = input.source_iteration; wave = wave }
      → rest ≡ wave ∷ more → fewer + 1 ≡ many → AreKept i kept rest many → AreKept (i + 1) (kept ++ one ∷ []) more fewer
  kept_more i kept rest more many fewer input wave one inside is made taken less so_far =
      let longer : length rest ≡ suc (length more) = ap (λ (all : List Wave). length all) taken in
      let held : many ≡ length rest = so_far.held in
      let at : drop i inputs ≡ input ∷ drop (i + 1) inputs = drop_more inputs i input inside ∙ ap (λ (x : Input). x ∷ drop (i + 1) inputs) (sym is) in
      let next : with_waves (drop i inputs) rest ≡ input_kept one ∷ with_waves (drop (i + 1) inputs) more =
      ap (λ (xs : List Input). with_waves xs rest) at ∙ ap (λ (ws : List Wave). with_waves (input ∷ drop (i + 1) inputs) ws) taken
      ∙ ap (λ (o : KeptInput). input_kept o ∷ with_waves (drop (i + 1) inputs) more) (sym made) in
      record {
        whole =
            ap (λ (all : List InputWave). all ++ with_waves (drop (i + 1) inputs) more) (map_append input_kept kept (one ∷ []))
            ∙ append_assoc (map input_kept kept) (input_kept one ∷ []) (with_waves (drop (i + 1) inputs) more)
            ∙ ap (λ (all : List InputWave). map input_kept kept ++ all) (sym next)
            ∙ so_far.whole;
        held = omega (arith, less, longer, held);
      }

  -- where no wave is left all are kept
  pub kept_short : (i : ℕ) (kept : List KeptInput) (rest : List Wave) (many : ℕ) → many ≡ 0 → AreKept i kept rest many → map input_kept kept ≡ with_waves inputs waves
  kept_short i kept [] many none so_far =
      sym (ap (λ (all : List InputWave). map input_kept kept ++ all) (with_none (drop i inputs)) ∙ append-nil (map input_kept kept)) ∙ so_far.whole
  kept_short i kept (wave ∷ rest) many none so_far = let held : many ≡ suc (length rest) = so_far.held in absurd (omega (arith, none, held))

  pub kept_all : (i : ℕ) (kept : List KeptInput) (rest : List Wave) (many : ℕ) → length inputs ≤ i → AreKept i kept rest many → map input_kept kept ≡ with_waves inputs waves
  kept_all i kept rest many past so_far =
      sym (append-nil (map input_kept kept))
      ∙ ap (λ (xs : List Input). map input_kept kept ++ with_waves xs rest) (sym (drop_all i inputs past)) ∙ so_far.whole

-- A wave of initial data has one sample; stores are opened one after another.
use Rattle.std.proofs.Common.{◌≡◌, ℕ, zero, suc, ◌+◌, ◌<◌, inl, inr, List, [], ◌∷◌, ◌++◌, length, take, slice_get, Some, refl, sym, ap, subst, ◌∙◌, arith, length-append}
use Rattle.std.proofs.lemmas.Bool.{cases_lt}
use Rattle.std.proofs.lemmas.List.{take_more}
use Rattle.std.proofs.lemmas.List.Elements.{All-head}
use Rattle.std.proofs.lemmas.Option.{same_Some, slice_get_within, get_or_from_slice_get}
use Rattle.waveform.specs.IsWave.{fields}
use Rattle.waveform.specs.declared.field.Field.{Field}
use Rattle.waveform.specs.declared.sample.Sample.{Sample}
use Rattle.cpl_plan.specs.declared.words.Item.TheVariants.{Completed}
use Rattle.coupled_loop.specs.Given.{gives}
use Rattle.sample_store.specs.Kept.{Kept as StoreKept}
use Rattle.sample_store.specs.StandsFor.{StandsFor}
use Rattle.core_stores.specs.StoreMoves.{IsInitial, AreOpened}

module _ {X : Type 0} where
  slice_get_first : (xs ys : List X) (i : ℕ) → i < length xs → slice_get (xs ++ ys) i ≡ slice_get xs i
  slice_get_first [] ys i below = absurd (omega (arith, below))
  slice_get_first (x ∷ xs) ys zero below = refl
  slice_get_first (x ∷ xs) ys (suc i) below = slice_get_first xs ys i (omega (arith, below))

  slice_get_seam : (xs : List X) (x : X) → slice_get (xs ++ x ∷ []) (length xs) ≡ Some x
  slice_get_seam [] x = refl
  slice_get_seam (y ∷ xs) x = slice_get_seam xs x

pub one_initial : (wave : List Sample) (field : Field) → IsInitial wave → slice_get (fields wave) 0 ≡ Some field → wave ≡ record { time = 0; field = field } ∷ []
one_initial [] field is at = absurd (omega (arith, is.one))
one_initial (s ∷ []) field is at =
    let here : s.time ≡ 0 = All-head (λ sample. sample.time ≡ 0) s [] is.start in
    let own : s.field ≡ field = same_Some s.field field at in
    ap (λ (t : ℕ). record { time = t; field = s.field } ∷ []) here ∙ ap (λ (f : Field). record { time = 0; field = f } ∷ []) own
one_initial (s ∷ t ∷ more) field is at = absurd (omega (arith, is.one))

-- one more store
pub opened_more : (waves : List (List Sample)) (stores : List StoreKept) (i : ℕ) (wave : List Sample) (store : StoreKept) → i < length waves → slice_get waves i ≡ Some wave
    → AreOpened (take i waves) stores → StandsFor (gives (Completed 0) 0 wave []) store → AreOpened (take (i + 1) waves) (stores ++ store ∷ [])
opened_more waves stores i wave store below at are stands = record {
  count = length-append stores (store ∷ []) ∙ ap (λ (n : ℕ). n + 1) are.count ∙ sym (ap (λ (xs : List (List Sample)). length xs) taken ∙ length-append (take i waves) (wave ∷ []));
  each = λ j one kept one_at kept_at. elim (cases_lt j (length stores)) [
    | inl less ↦
        are.each j one kept
        (sym (slice_get_first (take i waves) (wave ∷ []) j (omega (arith, less, are.count))) ∙ ap (λ (xs : List (List Sample)). slice_get xs j) (sym taken) ∙ one_at)
        (sym (slice_get_first stores (store ∷ []) j less) ∙ kept_at)
    | inr past ↦
        let within : j < length (stores ++ store ∷ []) = slice_get_within (stores ++ store ∷ []) j kept kept_at in
        let last : j ≡ length stores = omega (arith, past, within, length-append stores (store ∷ [])) in
        let last_wave : j ≡ length (take i waves) = last ∙ are.count in
        let same_wave : wave ≡ one = same_Some wave one
        (sym (slice_get_seam (take i waves) wave) ∙ ap (slice_get (take i waves ++ wave ∷ [])) (sym last_wave) ∙ ap (λ (xs : List (List Sample)). slice_get xs j) (sym taken) ∙ one_at) in
        let same_store : store ≡ kept = same_Some store kept (sym (slice_get_seam stores store) ∙ ap (slice_get (stores ++ store ∷ [])) (sym last) ∙ kept_at) in
        subst (λ (w : List Sample). StandsFor (gives (Completed 0) 0 w []) kept) same_wave
        (subst (λ (s : StoreKept). StandsFor (gives (Completed 0) 0 wave []) s) same_store stands)
  ];
} where
  taken : take (i + 1) waves ≡ take i waves ++ wave ∷ []
  taken = take_more waves i wave below ∙ ap (λ (w : List Sample). take i waves ++ w ∷ []) (get_or_from_slice_get waves i wave wave at)

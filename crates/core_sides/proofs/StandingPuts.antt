-- One participant stands otherwise, in what is kept as in the state.
use Rattle.std.proofs.Common.{◌≡◌, ℕ, zero, suc, ◌<◌, inl, inr, List, [], ◌∷◌, length, set, take, slice_get, Some, refl, sym, ap, subst, ◌∙◌, arith}
use Rattle.std.proofs.Math.Path.{fun_ext}
use Rattle.std.proofs.lemmas.Bool.{cases_eq}
use Rattle.std.proofs.lemmas.List.{length-set}
use Rattle.std.proofs.lemmas.Option.{same_Some, none-some}
use Rattle.cpl_plan.specs.declared.parts.PlanParts.{PlanParts}
use Rattle.cpl_plan.specs.declared.parts.WindowMethod.TheVariants.{FirstParticipant}
use Rattle.coupled_loop.specs.Numbered.{put}
use Rattle.coupled_loop.specs.Given.{Gift, found}
use Rattle.coupled_loop.specs.CoreState.{look_in}
use Rattle.coupled_loop.specs.PlanFrames.{window_maker, ends_made}
use Rattle.core_laws.proofs.Puts.{put_same, put_other}
use Rattle.wave_coupling.specs.Posts.{Post, newest_time}
use Rattle.core_sides.specs.CoreWords.{WaveState, WaveSide}
use Rattle.core_sides.specs.SidesStand.{IsStanding, AreStanding}
use Rattle.core_sides.specs.declared.sides.Sides.{Sides}
use Rattle.core_sides.specs.declared.standing.Standing.{Standing}

module _ {X : Type 0} where
  pub set_here : (xs : List X) (i : ℕ) (x : X) → i < length xs → slice_get (set xs i x) i ≡ Some x
  set_here [] i x below = absurd (omega (arith, below))
  set_here (y ∷ xs) zero x below = refl
  set_here (y ∷ xs) (suc i) x below = set_here xs i x (omega (arith, below))

  pub set_apart : (xs : List X) (i j : ℕ) (x : X) → ¬ (j ≡ i) → slice_get (set xs i x) j ≡ slice_get xs j
  set_apart [] i j x apart = refl
  set_apart (y ∷ xs) zero zero x apart = absurd (apart refl)
  set_apart (y ∷ xs) zero (suc j) x apart = refl
  set_apart (y ∷ xs) (suc i) zero x apart = refl
  set_apart (y ∷ xs) (suc i) (suc j) x apart = set_apart xs i j x (λ same. apart (ap suc same))

-- nothing more is given
pub looks_same : (sides : WaveState) (p : ℕ) (side : WaveSide) → side.given ≡ (sides p).given → look_in (put sides p side) ≡ look_in sides
looks_same sides p side same = fun_ext (λ one. fun_ext (λ item. ap (λ (given : List (Gift Post)). found given item) (by one))) where
  by : (one : ℕ) → (put sides p side one).given ≡ (sides one).given
  by one = elim (cases_eq one p) [
    | inl here ↦ subst (λ (q : ℕ). (put sides p side q).given ≡ (sides q).given) (sym here) (ap (λ (s : WaveSide). s.given) (put_same sides p side) ∙ same)
    | inr apart ↦ ap (λ (s : WaveSide). s.given) (put_other sides p side one apart)
  ]

module _ (plan : PlanParts) (kept now : Sides) (sides : WaveState) (standing : AreStanding plan kept sides) (p : ℕ) (next : Standing) (side : WaveSide)
    (below : p < length plan.parts) (is_set : now.standings.items ≡ set kept.standings.items p next) (is : IsStanding next side) where
  -- one participant stands otherwise
  pub standing_put : (plan.method ≡ FirstParticipant → (n : ℕ) → ends_made newest_time (look_in (put sides p side)) (window_maker plan) n ≡ take n now.ends.items)
      → AreStanding plan now (put sides p side)
  standing_put ends = record {
    count = ap (λ (xs : List Standing). length xs) is_set ∙ length-set kept.standings.items p next ∙ standing.count;
    each = λ q s at. elim (cases_eq q p) [
      | inl here ↦
          let same : next ≡ s = same_Some next s
          (sym (set_here kept.standings.items p next (omega (arith, below, standing.count)))
          ∙ ap (λ (xs : List Standing). slice_get xs p) (sym is_set) ∙ ap (slice_get now.standings.items) (sym here) ∙ at) in
          subst (λ (u : ℕ). IsStanding s (put sides p side u)) (sym here)
          (subst (IsStanding s) (sym (put_same sides p side)) (subst (λ (t : Standing). IsStanding t side) same is))
      | inr apart ↦
          subst (IsStanding s) (sym (put_other sides p side q apart))
          (standing.each q s (sym (set_apart kept.standings.items p q next apart) ∙ ap (λ (xs : List Standing). slice_get xs q) (sym is_set) ∙ at))
    ];
    others = λ q at. elim (cases_eq q p) [
      | inl here ↦ absurd (none-some next
          (sym at ∙ ap (slice_get now.standings.items) here ∙ ap (λ (xs : List Standing). slice_get xs p) is_set
          ∙ set_here kept.standings.items p next (omega (arith, below, standing.count))))
      | inr apart ↦ put_other sides p side q apart
          ∙ standing.others q (sym (set_apart kept.standings.items p q next apart) ∙ ap (λ (xs : List Standing). slice_get xs q) (sym is_set) ∙ at)
    ];
    ends = ends;
  }

  -- where it gives nothing more, no window has been made
  pub standing_moved : now.ends.items ≡ kept.ends.items → side.given ≡ (sides p).given → AreStanding plan now (put sides p side)
  standing_moved same given = standing_put (λ first n.
      ap (λ look. ends_made newest_time look (window_maker plan) n) (looks_same sides p side given) ∙ standing.ends first n
      ∙ ap (λ (ends : List ℕ). take n ends) (sym same))

-- One participant stands otherwise, in what is kept as in the state.
use Rattle.std.proofs.Common.{◌≡◌, ℕ, ◌<◌, inl, inr, List, length, set, take, slice_get, Some, refl, sym, ap, subst, ◌∙◌, arith}
use Rattle.std.proofs.lemmas.Bool.{cases_eq}
use Rattle.std.proofs.lemmas.List.{length-set}
use Rattle.std.proofs.lemmas.Option.{same_Some, none-some}
use Rattle.cpl_plan.specs.declared.parts.PlanParts.{PlanParts}
use Rattle.cpl_plan.specs.declared.parts.WindowMethod.TheVariants.{FirstParticipant}
use Rattle.coupled_loop.specs.Numbered.{put}
use Rattle.coupled_loop.specs.CoreState.{look_in}
use Rattle.coupled_loop.specs.PlanFrames.{window_maker, ends_made}
use Rattle.core_laws.proofs.Puts.{put_same, put_other}
use Rattle.wave_coupling.specs.Posts.{newest_time}
use Rattle.core_sides.specs.CoreWords.{WaveState, WaveSide}
use Rattle.core_sides.specs.SidesStand.{IsStanding, AreStanding}
use Rattle.core_sides.specs.declared.sides.Sides.{Sides}
use Rattle.core_sides.specs.declared.standing.Standing.{Standing}
use Rattle.core_sides.proofs.StandingPuts.{looks_same, set_here, set_apart}
use Rattle.coupling_core.specs.Placed.{ArePlaced}

-- the same, said of the fields
pub as_standing : (plan : PlanParts) (kept : Sides) (sides : WaveState) → ArePlaced plan kept.standings.items kept.ends.items sides → AreStanding plan kept sides
as_standing plan kept sides are = record { count = are.count; each = are.each; others = are.others; ends = are.ends }

module _ (plan : PlanParts) (standings : List Standing) (windows : List ℕ) (now : List Standing) (ends : List ℕ) (sides : WaveState) (are : ArePlaced plan standings windows sides) (p : ℕ) (next : Standing)
    (side : WaveSide) (below : p < length plan.parts) (is_set : now ≡ set standings p next) (is : IsStanding next side) where
  here : slice_get now p ≡ Some next
  here = ap (λ (xs : List Standing). slice_get xs p) is_set ∙ set_here standings p next (omega (arith, below, are.count))

  apart_same : (q : ℕ) → ¬ (q ≡ p) → slice_get now q ≡ slice_get standings q
  apart_same q apart = ap (λ (xs : List Standing). slice_get xs q) is_set ∙ set_apart standings p q next apart

  -- one participant stands otherwise
  pub placed_put : (plan.method ≡ FirstParticipant → (n : ℕ) → ends_made newest_time (look_in (put sides p side)) (window_maker plan) n ≡ take n ends)
      → ArePlaced plan now ends (put sides p side)
  placed_put ended = record {
    count = ap (λ (xs : List Standing). length xs) is_set ∙ length-set standings p next ∙ are.count;
    each = λ q s at. elim (cases_eq q p) [
      | inl same ↦
          let own : next ≡ s = same_Some next s (sym here ∙ ap (slice_get now) (sym same) ∙ at) in
          subst (λ (u : ℕ). IsStanding s (put sides p side u)) (sym same)
          (subst (IsStanding s) (sym (put_same sides p side)) (subst (λ (t : Standing). IsStanding t side) own is))
      | inr apart ↦ subst (IsStanding s) (sym (put_other sides p side q apart)) (are.each q s (sym (apart_same q apart) ∙ at))
    ];
    others = λ q at. elim (cases_eq q p) [
      | inl same ↦ absurd (none-some next (sym at ∙ ap (slice_get now) same ∙ here))
      | inr apart ↦ put_other sides p side q apart ∙ are.others q (sym (apart_same q apart) ∙ at)
    ];
    ends = ended;
  }

  -- where it gives nothing more, no window has been made
  pub placed_moved : ends ≡ windows → side.given ≡ (sides p).given → ArePlaced plan now ends (put sides p side)
  placed_moved same given = placed_put (λ first n.
      ap (λ look. ends_made newest_time look (window_maker plan) n) (looks_same sides p side given) ∙ are.ends first n ∙ ap (take n) (sym same))

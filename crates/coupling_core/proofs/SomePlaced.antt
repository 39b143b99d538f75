-- What a core keeps of the participants of a state that events come to.
use Rattle.std.proofs.Common.{◌≡◌, ℕ, zero, suc, ◌+◌, ◌-◌, ◌<◌, ◌≤◌, inl, inr, List, [], ◌∷◌, length, take, slice_get, Option, Some, None, IsSome, option_map, refl, sym, ap, subst, ◌∙◌, arith}
use Rattle.std.proofs.lemmas.Bool.{cases_lt}
use Rattle.std.proofs.lemmas.Option.{same_Some, none-some}
use Rattle.cpl_plan.specs.ValidPlan.{IsValidPlan}
use Rattle.cpl_plan.specs.declared.parts.PlanParts.{PlanParts}
use Rattle.cpl_plan.specs.declared.words.Item.TheVariants.{Completed}
use Rattle.coupled_loop.specs.Given.{Gift, found}
use Rattle.coupled_loop.specs.Numbered.{put}
use Rattle.coupled_loop.specs.CoreState.{Place, sending, collecting, opening, taking, within, judging, look_in, start_side}
use Rattle.coupled_loop.specs.LegalHistory.{Happens, opening_state}
use Rattle.coupled_loop.specs.PlanFrames.{window_maker, ends_made}
use Rattle.core_laws.proofs.Puts.{put_other}
use Rattle.core_laws.proofs.Well.{Stands, IsBefore}
use Rattle.wave_coupling.specs.Coupling.{wave_frame}
use Rattle.wave_coupling.specs.Posts.{Post, newest_time}
use Rattle.wave_laws.proofs.Settling.{wave_settled}
use Rattle.core_sides.specs.Answers.{ending_of}
use Rattle.core_sides.specs.CoreWords.{WaveState, WaveSide, WaveEntry}
use Rattle.core_sides.specs.Reached.{IsReached}
use Rattle.core_sides.specs.SidesStand.{place_of, IsStanding}
use Rattle.core_sides.specs.declared.standing.Place.{Place as KeptPlace}
use Rattle.core_sides.specs.declared.standing.Place.TheVariants.{Sending, Collecting, Opening, Taking, Within, Judging}
use Rattle.core_sides.specs.declared.standing.Standing.{Standing}
use Rattle.core_sides.proofs.Aligned.{IsTold}
use Rattle.core_sides.proofs.Histories.{reached_told}
use Rattle.core_sides.proofs.PlaceTells.{completed_before}
use Rattle.coupling_core.specs.Placed.{ArePlaced}
use Rattle.coupling_core.proofs.Ends.{ends_taken}

-- a place, as it is kept
record HasPlace (place : Place) : Type 0 where
  kept : KeptPlace
  same : place ≡ place_of kept

kept_place : (place : Place) → HasPlace place
kept_place sending = record { kept = Sending; same = refl }
kept_place collecting = record { kept = Collecting; same = refl }
kept_place opening = record { kept = Opening; same = refl }
kept_place (taking w k) = record { kept = Taking w k; same = refl }
kept_place (within w k) = record { kept = Within w k; same = refl }
kept_place (judging scheme w k) = record { kept = Judging scheme w k; same = refl }

record HasStanding (side : WaveSide) : Type 0 where
  kept : Standing
  stands : IsStanding kept side

kept_side : (side : WaveSide) → HasStanding side
kept_side side =
    let place = kept_place side.place in record {
      kept = record { place = place.kept; ending = option_map ending_of side.ending; sent = side.sent };
      stands = record { place = place.same; ending = refl; sent = refl };
    }

-- so many of them, from a number on
record HasStandings (sides : WaveState) (from n : ℕ) : Type 0 where
  kept : List Standing
  count : length kept ≡ n
  each : (i : ℕ) (s : Standing) → slice_get kept i ≡ Some s → IsStanding s (sides (from + i))
  none : (i : ℕ) → slice_get kept i ≡ None → n ≤ i

kept_sides : (sides : WaveState) (from n : ℕ) → HasStandings sides from n
kept_sides sides from zero = record { kept = []; count = refl; each = λ i s is. absurd (none-some s is); none = λ i is. omega arith }
kept_sides sides from (suc n) =
    let first = kept_side (sides from) in
    let rest = kept_sides sides (suc from) n in record {
      kept = first.kept ∷ rest.kept;
      count = ap suc rest.count;
      each = each_of first rest;
      none = none_of first rest;
    } where
      each_of : (first : HasStanding (sides from)) (rest : HasStandings sides (suc from) n) (i : ℕ) (s : Standing) → slice_get (first.kept ∷ rest.kept) i ≡ Some s → IsStanding s (sides (from + i))
      each_of first rest zero s is =
          let here : from ≡ from + 0 = omega arith in
          subst (λ (p : ℕ). IsStanding s (sides p)) here (subst (λ (t : Standing). IsStanding t (sides from)) (same_Some first.kept s is) first.stands)
      each_of first rest (suc i) s is =
          let next : suc from + i ≡ from + suc i = omega arith in
          subst (λ (p : ℕ). IsStanding s (sides p)) next (rest.each i s is)

      none_of : (first : HasStanding (sides from)) (rest : HasStandings sides (suc from) n) (i : ℕ) → slice_get (first.kept ∷ rest.kept) i ≡ None → suc n ≤ i
      none_of first rest zero is = absurd (none-some first.kept (sym is))
      none_of first rest (suc i) is = let less = rest.none i is in omega (arith, less)

-- nobody else does anything
unmoved : (plan : PlanParts) (history : List WaveEntry) (from to : WaveState) → Happens (wave_frame plan) from history to → (p : ℕ) → length plan.parts ≤ p → to p ≡ from p
unmoved plan [] from to happens p past = ap (λ (s : WaveState). s p) (sym happens)
unmoved plan (entry ∷ rest) from to happens p past =
    unmoved plan rest (put from entry.part happens.1) to happens.4 p past
    ∙ put_other from entry.part happens.1 p (λ same. let below = happens.2 in absurd (omega (arith, same, below, past)))

module _ (plan : PlanParts) (valid : IsValidPlan plan) (history : List WaveEntry) (sides : WaveState) (reached : IsReached plan history sides) where
  told : IsTold (wave_frame plan) sides
  told = reached_told plan history sides valid (wave_settled plan valid) reached

  -- the ends of the windows that a participant has completed
  record HasEnds (maker : ℕ) : Type 0 where
    ends : List ℕ
    all : (n : ℕ) → ends_made newest_time (look_in sides) maker n ≡ take n ends

  nothing_ended : (maker : ℕ) → (sides maker).given ≡ [] → HasEnds maker
  nothing_ended maker empty = record {
    ends = ends_made newest_time (look_in sides) maker 0;
    all = ends_taken newest_time maker (look_in sides) 0 (λ v below. absurd (omega (arith, below)))
        (λ v past. ap (λ (given : List (Gift Post)). found given (Completed (suc v))) empty);
  }

  never : (o : Option (Gift Post)) → (IsSome o → ⊥) → o ≡ None
  never None is = refl
  never (Some gift) is = absurd (is refl)

  ended_before : (maker w k : ℕ) → IsBefore (wave_frame plan) (look_in sides) maker w k → HasEnds maker
  ended_before maker w k before = record {
    ends = ends_made newest_time (look_in sides) maker (w - 1);
    all = ends_taken newest_time maker (look_in sides) (w - 1)
        (λ v below. completed_before (wave_frame plan) (look_in sides) told.well.in_order maker (w - 1) before.completed (suc v) (omega (arith, below)))
        (λ v past. never (look_in sides maker (Completed (suc v))) (λ some.
        let less = before.uncompleted (suc v) some in let window = before.window in omega (arith, less, past, window)));
  }

  has_ends : (maker : ℕ) → HasEnds maker
  has_ends maker = by (sides maker).place (told.well.stands maker) where
    by : (place : Place) → Stands (wave_frame plan) (look_in sides) maker place (sides maker).given → HasEnds maker
    by sending stands = nothing_ended maker stands
    by collecting stands = nothing_ended maker stands
    by opening stands = nothing_ended maker stands
    by (taking w k) stands = ended_before maker w k stands.0
    by (within w k) stands = ended_before maker w k stands.0
    by (judging scheme w k) stands = ended_before maker w k stands.1

  pub record HasPlaced : Type 0 where
    pub standings : List Standing
    pub windows : List ℕ
    pub are : ArePlaced plan standings windows sides

  pub some_placed : HasPlaced
  some_placed =
      let kept = kept_sides sides 0 (length plan.parts) in
      let ended = has_ends (window_maker plan) in record {
        standings = kept.kept;
        windows = ended.ends;
        are = record {
          count = kept.count;
          each = λ p s at. (let here : 0 + p ≡ p = omega arith in subst (λ (q : ℕ). IsStanding s (sides q)) here (kept.each p s at));
          others = λ p at. unmoved plan history opening_state sides reached.legal p (kept.none p at);
          ends = λ method n. ended.all n;
        };
      }

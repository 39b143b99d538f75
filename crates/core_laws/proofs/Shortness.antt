-- No schedule lets participants go on more often than they have entries left at first.
use Rattle.std.proofs.Common.{◌≡◌, ℕ, zero, suc, ◌+◌, ◌*◌, ◌<◌, ◌≤◌, inl, inr, List, [], ◌∷◌, Some, refl, sym, ap, subst, arith}
use Rattle.coupled_loop.specs.Numbered.{put}
use Rattle.std.proofs.lemmas.Bool.{cases_eq}
use Rattle.coupled_loop.specs.Frames.{Frame}
use Rattle.coupled_loop.specs.CoreStep.{ends, lacks_memory}
use Rattle.coupled_loop.specs.Settled.{IsSettled}
use Rattle.coupled_loop.specs.Solving.{Solvers}
use Rattle.coupled_loop.specs.Schedules.{Actor, Actors, Entry, go, quit, run_out, participant_of, sides_of, opening_actors, enabled, Leads}
use Rattle.core_laws.specs.Laws.{goes, most_goes}
use Rattle.core_laws.proofs.Sound.{IsSound}
use Rattle.core_laws.proofs.Well.{IsWell}
use Rattle.core_laws.proofs.Puts.{put_same, put_other}
use Rattle.core_laws.proofs.Wellness.{opening_well}
use Rattle.core_laws.proofs.Stays.{enabled_well}
use Rattle.core_laws.proofs.StepKinds.{event_of}
use Rattle.core_laws.proofs.Measures.{place_fits, entries_left}
use Rattle.core_laws.proofs.Lessening.{IsLess, event_less, next_less}

-- the sum over the numbers below n
total : (n : ℕ) → (ℕ → ℕ) → ℕ
total zero f = 0
total (suc n) f = total n f + f n

total_same : (n part : ℕ) (f g : ℕ → ℕ) → ((other : ℕ) → ¬ (other ≡ part) → g other ≡ f other) → n ≤ part → total n g ≡ total n f
unfolding total
total_same zero part f g same above = refl
total_same (suc n) part f g same above =
    let before = total_same n part f g same (omega (arith, above)) in
    let here = same n (λ e. omega (arith, e, above)) in
    omega (arith, before, here)

-- one of them is less
total_less : (n part : ℕ) (f g : ℕ → ℕ) → ((other : ℕ) → ¬ (other ≡ part) → g other ≡ f other) → part < n → g part < f part → total n g < total n f
unfolding total
total_less zero part f g same inside less = absurd (omega (arith, inside))
total_less (suc n) part f g same inside less = elim (cases_eq n part) [
  | inl e ↦
      let before = total_same n part f g same (omega (arith, e)) in
      let here : g n < f n = subst (λ one. g one < f one) (sym e) less in
      omega (arith, before, here)
  | inr apart ↦
      let before = total_less n part f g same (omega (arith, inside, apart)) less in
      let here = same n apart in
      omega (arith, before, here)
]

total_alike : (n c : ℕ) → total n (λ one. c) ≡ n * c
unfolding total
total_alike zero c = omega arith
total_alike (suc n) c = let before = total_alike n c in omega (arith, before)

module _ {Mesh Post Inputs Fault State Run Note : Type 0} (frame : Frame Post Inputs Fault) (solvers : Solvers Mesh Post Inputs Fault State Run Note)
    (sound : IsSound frame) (settled : IsSettled frame)
    (iterations : ℕ) (some : 1 ≤ iterations) (few : (scheme : ℕ) → frame.most_iterations scheme ≤ iterations) where
  all_left : Actors Mesh Post Fault State Run Note → ℕ
  all_left actors = total frame.parts (λ one. entries_left frame solvers iterations (actors one))

  entry_less : (actors : Actors Mesh Post Fault State Run Note) (entry : Entry) (actor : Actor Mesh Post Fault State Run Note)
      → IsWell frame (sides_of frame solvers actors) → enabled frame solvers actors entry ≡ Some actor
      → IsLess frame solvers sound iterations actors (participant_of entry) actor
  entry_less actors (go part) actor well e = next_less frame solvers sound iterations actors part actor
      (place_fits frame iterations few some _ part (actors part).side.place (actors part).side.given (well.stands part)) some e
  entry_less actors (quit part) actor well e = event_less frame solvers sound iterations actors part actor ends
      (place_fits frame iterations few some _ part (actors part).side.place (actors part).side.given (well.stands part)) some (event_of frame solvers actors part ends actor e)
  entry_less actors (run_out part) actor well e = event_less frame solvers sound iterations actors part actor lacks_memory
      (place_fits frame iterations few some _ part (actors part).side.place (actors part).side.given (well.stands part)) some (event_of frame solvers actors part lacks_memory actor e)

  all_less : (actors : Actors Mesh Post Fault State Run Note) (part : ℕ) (actor : Actor Mesh Post Fault State Run Note) → part < frame.parts
      → IsLess frame solvers sound iterations actors part actor → all_left (put actors part actor) < all_left actors
  unfolding all_left
  all_less actors part actor inside less =
      total_less frame.parts part (λ one. entries_left frame solvers iterations (actors one)) (λ one. entries_left frame solvers iterations (put actors part actor one))
      (λ other apart. ap (entries_left frame solvers iterations) (put_other actors part actor other apart)) inside
      (subst (λ (one : Actor Mesh Post Fault State Run Note). entries_left frame solvers iterations one < entries_left frame solvers iterations (actors part)) (sym (put_same actors part actor)) less)

  goes_le : (entry : Entry) (rest : List Entry) → goes (entry ∷ rest) ≤ 1 + goes rest
  goes_le (go part) rest = omega arith
  goes_le (quit part) rest = omega arith
  goes_le (run_out part) rest = omega arith

  goes_few : (list : List Entry) (from to : Actors Mesh Post Fault State Run Note) → IsWell frame (sides_of frame solvers from) → Leads frame solvers from list to → goes list ≤ all_left from
  goes_few [] from to well leads = omega arith
  goes_few (entry ∷ rest) from to well leads =
      let on = put from (participant_of entry) leads.0 in
      let further = goes_few rest on to (enabled_well frame solvers sound settled from entry leads.0 well leads.1 leads.2) leads.3 in
      let less = all_less from (participant_of entry) leads.0 leads.1 (entry_less from entry leads.0 well leads.2) in
      let one = goes_le entry rest in
      omega (arith, further, less, one)

  pub short : (list : List Entry) (to : Actors Mesh Post Fault State Run Note) → Leads frame solvers (opening_actors frame solvers) list to
      → goes list ≤ most_goes frame.parts frame.most_windows iterations solvers.most_steps
  unfolding all_left
  short list to leads =
      let few_goes = goes_few list (opening_actors frame solvers) to (opening_well frame) leads in
      let all = total_alike frame.parts (frame.most_windows * iterations * (solvers.most_steps + 4) + 4) in
      let turned : frame.parts * (frame.most_windows * iterations * (solvers.most_steps + 4) + 4) ≡ most_goes frame.parts frame.most_windows iterations solvers.most_steps =
      ap (λ n. frame.parts * n) (omega arith) in
      omega (arith, few_goes, all, turned)

-- The net of a system's participants: the core's invariant is kept along each schedule, and what one can do next stays while others go on.
use Rattle.std.proofs.Common.{◌≡◌, ℕ, ◌<◌, List, [], ◌∷◌, length, map, Some, refl, ap, subst}
use Rattle.coupled_loop.specs.Numbered.{put}
use Rattle.coupled_loop.specs.Frames.{Frame}
use Rattle.coupled_loop.specs.Settled.{IsSettled}
use Rattle.coupled_loop.specs.Solving.{Solvers}
use Rattle.coupled_loop.specs.Schedules.{Actors, Entry, go, participant_of, sides_of, opening_actors, next, enabled, Leads}
use Rattle.core_laws.specs.Laws.{HasNoQuits}
use Rattle.core_laws.proofs.Sound.{IsSound}
use Rattle.core_laws.proofs.Well.{IsWell}
use Rattle.core_laws.proofs.Nets.{Goes, IsAtEnd, Rest, IsKept, IsPersistent, net, ends_same}
use Rattle.core_laws.proofs.Wellness.{opening_well}
use Rattle.core_laws.proofs.Stays.{next_well, enabled_well, next_stays}

module _ {Mesh Post Inputs Fault State Run Note : Type 0} (frame : Frame Post Inputs Fault) (solvers : Solvers Mesh Post Inputs Fault State Run Note)
    (sound : IsSound frame) (settled : IsSettled frame) where
  -- the core's invariant, of a system
  abbrev pub AreWell : Actors Mesh Post Fault State Run Note → Type 0
  AreWell actors = IsWell frame (sides_of frame solvers actors)

  pub opening_are_well : AreWell (opening_actors frame solvers)
  opening_are_well = opening_well frame

  pub system_kept : IsKept frame.parts (next frame solvers) AreWell
  system_kept actors part actor well is_part e = next_well frame solvers actors part actor sound settled well is_part e

  pub system_persists : IsPersistent frame.parts (next frame solvers) AreWell
  system_persists actors part other actor beside well is_part is_other apart e others =
      next_stays frame solvers sound settled actors part other actor beside well is_part is_other apart e others

  -- along every schedule
  pub leads_well : (schedule : List Entry) (from to : Actors Mesh Post Fault State Run Note) → AreWell from → Leads frame solvers from schedule to → AreWell to
  leads_well [] from to well leads = subst (λ (s : Actors Mesh Post Fault State Run Note). AreWell s) leads well
  leads_well (entry ∷ rest) from to well leads =
      leads_well rest (put from (participant_of entry) leads.0) to (enabled_well frame solvers sound settled from entry leads.0 well leads.1 leads.2) leads.3

  -- from the opening, every list of goes can be continued to a complete one's end
  pub system_net : (done list : List ℕ) (to now : Actors Mesh Post Fault State Run Note) → Goes frame.parts (next frame solvers) (opening_actors frame solvers) list to
      → IsAtEnd frame.parts (next frame solvers) to → Goes frame.parts (next frame solvers) (opening_actors frame solvers) done now
      → Rest frame.parts (next frame solvers) now to (length list) (length done)
  system_net done list to now complete end went =
      net frame.parts (next frame solvers) AreWell system_kept system_persists done list (opening_actors frame solvers) to now opening_are_well complete end went

  pub system_ends_same : (done list : List ℕ) (to now : Actors Mesh Post Fault State Run Note) → Goes frame.parts (next frame solvers) (opening_actors frame solvers) list to
      → IsAtEnd frame.parts (next frame solvers) to → Goes frame.parts (next frame solvers) (opening_actors frame solvers) done now
      → IsAtEnd frame.parts (next frame solvers) now → now ≡ to
  system_ends_same done list to now complete end went stuck =
      ends_same frame.parts (next frame solvers) AreWell system_kept system_persists done list (opening_actors frame solvers) to now opening_are_well complete end went stuck

  -- a schedule in which all entries are goes is a list of goes
  abbrev pub Gone : List Entry → (from to : Actors Mesh Post Fault State Run Note) → Type 0
  Gone schedule from to = (list : List ℕ) × (schedule ≡ map go list) × Goes frame.parts (next frame solvers) from list to

  go_first : (entry : Entry) (part : ℕ) (rest : List Entry) (from to : Actors Mesh Post Fault State Run Note) → entry ≡ go part
      → (leads : Leads frame solvers from (entry ∷ rest) to) → Gone rest (put from (participant_of entry) leads.0) to → Gone (entry ∷ rest) from to
  go_first entry part rest from to is leads further =
      let same : participant_of entry ≡ part = ap participant_of is in
      let below : part < frame.parts = subst (λ (u : ℕ). u < frame.parts) same leads.1 in
      let can : next frame solvers from part ≡ Some leads.0 = subst (λ (one : Entry). enabled frame solvers from one ≡ Some leads.0) is leads.2 in
      let on : Goes frame.parts (next frame solvers) (put from part leads.0) further.0 to =
      subst (λ (u : ℕ). Goes frame.parts (next frame solvers) (put from u leads.0) further.0 to) same further.2 in
      let is_list : entry ∷ rest ≡ map go (part ∷ further.0) = let tail = further.1 in cc in
      (part ∷ further.0, is_list, (leads.0, below, can, on))

  pub no_quits_gone : (schedule : List Entry) (from to : Actors Mesh Post Fault State Run Note) → HasNoQuits schedule → Leads frame solvers from schedule to → Gone schedule from to
  no_quits_gone [] from to none leads = ([], refl, leads)
  no_quits_gone (entry ∷ rest) from to none leads =
      let first = none [] rest entry refl in
      go_first entry first.0 rest from to first.1 leads
      (no_quits_gone rest (put from (participant_of entry) leads.0) to (λ before after one e. none (entry ∷ before) after one (ap (λ (xs : List Entry). entry ∷ xs) e)) leads.3)

  -- and the other way round
  pub gone_leads : (list : List ℕ) (from to : Actors Mesh Post Fault State Run Note) → Goes frame.parts (next frame solvers) from list to → Leads frame solvers from (map go list) to
  gone_leads [] from to gone = gone
  gone_leads (part ∷ rest) from to gone = (gone.0, gone.1, gone.2, gone_leads rest (put from part gone.0) to gone.3)

-- A legal list of events at the core is a schedule of the system that is fed with what the core has been given at its end: so what is told in it is the beginning of what the fed loop tells.
use Rattle.std.proofs.Common.{◌≡◌, ℕ, ◌<◌, inl, inr, Bool, nat_eq, if◌then◌else◌, List, [], ◌∷◌, ◌++◌, Some, refl, sym, ap, subst, ◌∙◌, append-nil, append_assoc}
use Rattle.coupled_loop.specs.Numbered.{put}
use Rattle.std.proofs.lemmas.Bool.{cases_eq, eq-eqb, ne_eqb}
use Rattle.coupled_loop.specs.Given.{Look}
use Rattle.coupled_loop.specs.Frames.{Frame}
use Rattle.coupled_loop.specs.CoreState.{Side, CoreState, look_in}
use Rattle.coupled_loop.specs.CoreStep.{Reply, core_step}
use Rattle.coupled_loop.specs.LegalHistory.{Entry as CoreEntry, Told, told_at, opening_state, Happens, IsLegal, told_then, told}
use Rattle.coupled_loop.specs.Settled.{Extends, IsSettled}
use Rattle.coupled_loop.specs.FedLoop.{fed, fed_told}
use Rattle.coupled_loop.specs.Schedules.{Entry, participant_of, opening_actors, Leads}
use Rattle.core_laws.specs.Laws.{IsPrefix}
use Rattle.core_laws.proofs.Sound.{IsSound}
use Rattle.core_laws.proofs.Well.{IsWell}
use Rattle.core_laws.proofs.Wellness.{opening_well, step_well}
use Rattle.core_laws.proofs.Growth.{step_extends}
use Rattle.core_laws.proofs.Puts.{put_same, put_other}
use Rattle.core_laws.proofs.Looks.{extends_itself, extends_further}
use Rattle.core_laws.proofs.StepKinds.{made_from}
use Rattle.core_laws.proofs.Shadows.{put_related}
use Rattle.core_laws.proofs.NotesGrow.{begins_moved}
use Rattle.core_laws.proofs.Tracks.{IsTracked}
use Rattle.core_laws.proofs.FedSteps.{FedActor}
use Rattle.core_laws.proofs.FedTurns.{event_mirrored}
use Rattle.core_laws.proofs.Ends.{prefix}

-- what one is told where one or another is
abbrev told_one : {X : Type 0} → Bool → List X → List X
told_one is told_there = if is then told_there else []

module _ {Post Inputs Fault : Type 0} (frame : Frame Post Inputs Fault) (look : Look Post) where
  leads_joined : (first second : List Entry) (from between to : ℕ → FedActor Post Inputs Fault) → Leads frame (fed look) from first between → Leads frame (fed look) between second to
      → Leads frame (fed look) from (first ++ second) to
  leads_joined [] second from between to before after = subst (λ (s : ℕ → FedActor Post Inputs Fault). Leads frame (fed look) s second to) (sym before) after
  leads_joined (entry ∷ first) second from between to before after =
      (before.0, before.1, before.2, leads_joined first second (put from (participant_of entry) before.0) between to before.3 after)

  noted : (actors : ℕ → FedActor Post Inputs Fault) (part one : ℕ) (actor : FedActor Post Inputs Fault) (told_there : List (Told Inputs Fault))
      → actor.held.notes ≡ (actors part).held.notes ++ told_there
      → (put actors part actor one).held.notes ≡ (actors one).held.notes ++ told_one (nat_eq part one) told_there
  noted actors part one actor told_there is = elim (cases_eq part one) [
    | inl same ↦
        let here = subst (λ (n : ℕ). (put actors part actor n).held.notes ≡ (actors n).held.notes ++ told_there) same
        (ap (λ (a : FedActor Post Inputs Fault). a.held.notes) (put_same actors part actor) ∙ is) in
        here ∙ ap (λ (b : Bool). (actors one).held.notes ++ told_one b told_there) (sym (eq-eqb part one same))
    | inr apart ↦
        ap (λ (a : FedActor Post Inputs Fault). a.held.notes) (put_other actors part actor one (λ e. apart (sym e)))
        ∙ (sym (append-nil (actors one).held.notes) ∙ ap (λ (b : Bool). (actors one).held.notes ++ told_one b told_there) (sym (ne_eqb part one apart)))
  ]

  -- a history, mirrored by a schedule
  record IsFollowed (one : ℕ) (actors : ℕ → FedActor Post Inputs Fault) (all_told : List (Told Inputs Fault)) : Type 0 where
    list : List Entry
    end : ℕ → FedActor Post Inputs Fault
    leads : Leads frame (fed look) actors list end
    notes : (end one).held.notes ≡ (actors one).held.notes ++ all_told

module _ {Mesh Post Inputs Fault : Type 0} (frame : Frame Post Inputs Fault) (sound : IsSound frame) (settled : IsSettled frame) where
  happens_extends : (history : List (CoreEntry Mesh Post Fault)) (from to : CoreState Mesh Post Fault) → Happens frame from history to → Extends (look_in from) (look_in to)
  happens_extends [] from to happens = subst (λ (s : CoreState Mesh Post Fault). Extends (look_in from) (look_in s)) happens (extends_itself (look_in from))
  happens_extends (entry ∷ rest) from to happens =
      extends_further (look_in from) (look_in (put from entry.part happens.1)) (look_in to)
      (step_extends frame from entry.part entry.act happens.0 happens.1 happens.3)
      (happens_extends rest (put from entry.part happens.1) to happens.4)

  module _ (look : Look Post) where
    follows : (one : ℕ) (history : List (CoreEntry Mesh Post Fault)) (sides to : CoreState Mesh Post Fault) (actors : ℕ → FedActor Post Inputs Fault)
        → ((other : ℕ) → IsTracked (sides other) (actors other)) → IsWell frame sides → Happens frame sides history to → Extends (look_in to) look
        → IsFollowed frame look one actors (told frame one history sides)
    follows one [] sides to actors all well happens extends = record { list = []; end = actors; leads = refl; notes = sym (append-nil (actors one).held.notes) }
    follows one (entry ∷ rest) sides to actors all well happens extends =
        let part = entry.part in
        let reply = happens.0 in
        let side = happens.1 in
        let now = put sides part side in
        let made = made_from frame sides part entry.act (reply, side) happens.3 in
        let on : Extends (look_in now) look = extends_further (look_in now) (look_in to) look (happens_extends rest now to happens.4) extends in
        let mirrored = event_mirrored frame look sides actors all part happens.2 made.0 entry.act (reply, side) made.1 well on in
        let more = follows one rest now to (put actors part mirrored.actor)
        (put_related (λ (s : Side Mesh Post Fault) (a : FedActor Post Inputs Fault). IsTracked s a) sides actors part side mirrored.actor all mirrored.tracked)
        (step_well frame sound settled sides part entry.act reply side happens.2 well happens.3) happens.4 extends in
        record {
          list = mirrored.list ++ more.list;
          end = more.end;
          leads = leads_joined frame look mirrored.list more.list actors (put actors part mirrored.actor) more.end mirrored.leads more.leads;
          notes = told_more one entry rest sides reply side (actors one).held.notes (put actors part mirrored.actor one).held.notes (more.end one).held.notes happens.3
              (noted frame look actors part one mirrored.actor (told_at (sides part).place reply) mirrored.notes) more.notes;
        }
      where
        told_more : (one : ℕ) (entry : CoreEntry Mesh Post Fault) (rest : List (CoreEntry Mesh Post Fault)) (sides : CoreState Mesh Post Fault) (reply : Reply Mesh Inputs Fault) (side : Side Mesh Post Fault)
            (before between after : List (Told Inputs Fault)) → core_step frame sides entry.part entry.act ≡ Some (reply, side)
            → between ≡ before ++ told_one (nat_eq entry.part one) (told_at (sides entry.part).place reply)
            → after ≡ between ++ told frame one rest (put sides entry.part side)
            → after ≡ before ++ told frame one (entry ∷ rest) sides
        told_more one entry rest sides reply side before between after made first second =
            second ∙ (ap (λ l. l ++ told frame one rest (put sides entry.part side)) first
            ∙ (append_assoc before (told_one (nat_eq entry.part one) (told_at (sides entry.part).place reply)) (told frame one rest (put sides entry.part side))
            ∙ ap (λ o. before ++ told_then frame (told frame one rest) sides entry.part one o) (sym made)))

  opening_tracked : (look : Look Post) (other : ℕ) → IsTracked (opening_state {Mesh = Mesh} {Post = Post} {Fault = Fault} other) (opening_actors frame (fed look) other)
  opening_tracked look other = record { like = record { place = refl; given = refl; sent = refl; ended = refl }; stage = λ w k e unended. cc }

  -- what is told is the beginning of what the fed loop tells
  pub told_prefix : (history : List (CoreEntry Mesh Post Fault)) (sides : CoreState Mesh Post Fault) (part : ℕ) → IsLegal frame history sides → part < frame.parts
      → IsPrefix (told frame part history opening_state) (fed_told frame (look_in sides) part)
  told_prefix history sides part legal inside =
      let look = look_in sides in
      let all = follows look part history opening_state sides (opening_actors frame (fed look)) (opening_tracked look) (opening_well frame) legal (extends_itself look) in
      begins_moved (told frame part history opening_state) (all.end part).held.notes (fed_told frame look part) (fed_told frame look part) (sym all.notes)
      (prefix frame (fed look) sound settled all.list all.end part all.leads inside) refl

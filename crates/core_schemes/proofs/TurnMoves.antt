-- How an event moves the turn of a scheme's member: by its initial data, by a judgement that it is told, or not at all.
use Rattle.std.proofs.Common.{◌≡◌, ℕ, ◌⊎◌, inl, inr, Option, Some, refl, sym, ap, ◌∙◌}
use Rattle.std.proofs.lemmas.Option.{same_Some}
use Rattle.coupled_loop.specs.Endings.{Ending, faulted, no_memory, cut}
use Rattle.coupled_loop.specs.Frames.{Frame}
use Rattle.coupled_loop.specs.CoreState.{Place, sending, collecting, opening, taking, within, judging, Side, CoreState, look_in, turn_at}
use Rattle.coupled_loop.specs.CoreStep.{Act, sends_meshes, takes_meshes, posts, takes, judges, stops, lacks_memory, ends, is_cut, Reply, cut_off, after_post, ends_with, after_judgement, is_cut_off, ending_at, made_at}
use Rattle.core_laws.proofs.GoodSteps.{second_same}
use Rattle.core_laws.proofs.Steps.{guarded}
use Rattle.core_laws.proofs.Well.{Stands}

module _ {Mesh Post Inputs Fault : Type 0} (frame : Frame Post Inputs Fault) (sides : CoreState Mesh Post Fault) (part scheme : ℕ) where
  -- it is told the judgement of the turn at which it stands
  pub record Hears (act : Act Mesh Post Fault) (side : Side Mesh Post Fault) : Type 0 where
    pub window : ℕ
    pub iteration : ℕ
    pub place : (sides part).place ≡ judging scheme window iteration
    pub act_is : act ≡ judges
    pub side_is : side ≡ after_judgement (frame.judge (look_in sides) scheme window iteration) window iteration (sides part)

  abbrev pub Stays : Side Mesh Post Fault → Type 0
  Stays side = turn_at side.place ≡ turn_at (sides part).place

  abbrev pub Opens : Side Mesh Post Fault → Type 0
  Opens side = (turn_at (sides part).place ≡ (0, 0)) × (turn_at side.place ≡ (1, 1))

  abbrev pub Moves : Act Mesh Post Fault → Side Mesh Post Fault → Type 0
  Moves act side = Stays side ⊎ (Opens side ⊎ Hears act side)

  turn_of : Side Mesh Post Fault → ℕ × ℕ
  turn_of side = turn_at side.place

  stays_there : (place : Place) (other side : Side Mesh Post Fault) (act : Act Mesh Post Fault) → (sides part).place ≡ place → turn_at other.place ≡ turn_at place → other ≡ side → Moves act side
  stays_there place other side act at same is = inl (ap (λ (s : Side Mesh Post Fault). turn_at s.place) (sym is) ∙ same ∙ sym (ap turn_at at))

  ends_there : (ending : Ending Fault) (side : Side Mesh Post Fault) (act : Act Mesh Post Fault) → ends_with ending (sides part) ≡ side → Moves act side
  ends_there ending side act is = inl (ap (λ (s : Side Mesh Post Fault). turn_at s.place) (sym is))

  module _ (grouped : frame.group part ≡ Some scheme) where
    pub turn_moves : (place : Place) → (sides part).place ≡ place → Stands frame (look_in sides) part place (sides part).given
        → (act : Act Mesh Post Fault) (reply : Reply Mesh Inputs Fault) (side : Side Mesh Post Fault) → made_at frame sides part place act ≡ Some (reply, side) → Moves act side
    turn_moves sending at stands (sends_meshes own) reply side made = stays_there sending _ side (sends_meshes own) at refl (second_same _ _ made)
    turn_moves collecting at stands takes_meshes reply side made =
        stays_there collecting _ side takes_meshes at refl (ap (λ (pair : Reply Mesh Inputs Fault × Side Mesh Post Fault). pair.1) (guarded _ _ _ made).1)
    turn_moves opening at stands (posts post) reply side made =
        inr (inl (ap turn_at at, ap (λ (s : Side Mesh Post Fault). turn_at s.place) (sym (second_same _ _ made))))
    turn_moves (taking w k) at stands takes reply side made =
        stays_there (taking w k) _ side takes at refl (ap (λ (pair : Reply Mesh Inputs Fault × Side Mesh Post Fault). pair.1) (guarded _ _ _ made).1)
    turn_moves (within w k) at stands (posts post) reply side made =
        stays_there (within w k) (after_post (Some scheme) w k post (sides part)) side (posts post) at refl
        (ap (λ (group : Option ℕ). after_post group w k post (sides part)) (sym grouped) ∙ second_same _ _ made)
    turn_moves (judging own w k) at stands judges reply side made =
        let same : own ≡ scheme = same_Some own scheme (sym stands.0 ∙ grouped) in
        inr (inr (record {
          window = w;
          iteration = k;
          place = at ∙ ap (λ (s : ℕ). judging s w k) same;
          act_is = refl;
          side_is = sym (ap (λ (pair : Reply Mesh Inputs Fault × Side Mesh Post Fault). pair.1) (guarded _ _ _ made).1)
              ∙ ap (λ (s : ℕ). after_judgement (frame.judge (look_in sides) s w k) w k (sides part)) same;
        }))
    turn_moves place at stands (stops fault) reply side made = ends_there (faulted fault) side (stops fault) (second_same _ _ made)
    turn_moves place at stands lacks_memory reply side made = ends_there no_memory side lacks_memory (second_same _ _ made)
    turn_moves place at stands ends reply side made = ends_there (ending_at frame sides part place) side ends (second_same _ _ made)
    turn_moves place at stands is_cut reply side made =
        ends_there cut side is_cut
        (ap (λ (pair : Reply Mesh Inputs Fault × Side Mesh Post Fault). pair.1)
        (guarded (is_cut_off frame sides part place) (cut_off, ends_with cut (sides part)) (reply, side) made).1)
    turn_moves place at stands act reply side made = cc

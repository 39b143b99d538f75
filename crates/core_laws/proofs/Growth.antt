-- Each event of the core adds to what its participant has given, or leaves it.
use Rattle.std.proofs.Common.{◌≡◌, ℕ, inl, inr, List, [], ◌∷◌, ◌++◌, Option, Some, None, option_map, option_to_list, refl, sym, ap, subst, ◌∙◌, append-nil, append_assoc}
use Rattle.coupled_loop.specs.Numbered.{put}
use Rattle.std.proofs.lemmas.Bool.{cases_eq}
use Rattle.cpl_plan.specs.declared.words.Item.TheVariants.{Completed, Posted}
use Rattle.coupled_loop.specs.Given.{Gift, found, gives, accepted_for}
use Rattle.coupled_loop.specs.Endings.{cut, Judgement, again, converged, at_limit, refused}
use Rattle.coupled_loop.specs.Frames.{Frame}
use Rattle.coupled_loop.specs.CoreState.{Place, sending, collecting, opening, taking, within, judging, Side, CoreState, look_in}
use Rattle.coupled_loop.specs.CoreStep.{Act, sends_meshes, takes_meshes, posts, takes, judges, stops, lacks_memory, ends, is_cut, Reply, cut_off, completes, after_post, ends_with, after_judgement, is_cut_off, made_at, core_step}
use Rattle.coupled_loop.specs.Settled.{Extends}
use Rattle.core_laws.proofs.Puts.{put_same, put_other}
use Rattle.core_laws.proofs.Looks.{found_stays}
use Rattle.core_laws.proofs.Steps.{guarded, made_by}
use Rattle.core_laws.proofs.GoodSteps.{second_same}

module _ {Mesh Post Fault : Type 0} where
  -- what a participant has given begins with what it had given
  abbrev pub HasGrown : (before after : Side Mesh Post Fault) → Type 0
  HasGrown before after = (more : List (Gift Post)) × (after.given ≡ before.given ++ more)

  nothing_more : (before : Side Mesh Post Fault) → HasGrown before before
  nothing_more before = ([], sym (append-nil before.given))

  pub completes_grows : (w k : ℕ) (before : Side Mesh Post Fault) → HasGrown before (completes w k before)
  completes_grows w k before = (option_to_list (option_map (accepted_for w) (found before.given (Posted w k))), refl)

  pub post_grows : (group : Option ℕ) (w k : ℕ) (post : Post) (before : Side Mesh Post Fault) → HasGrown before (after_post group w k post before)
  post_grows None w k post before =
      (gift ∷ [] ++ accepted, append_assoc before.given (gift ∷ []) accepted) where
        gift : Gift Post
        gift = record { item = Posted w k; iteration = k; post = post }

        accepted : List (Gift Post)
        accepted = option_to_list (option_map (accepted_for w) (found (gives (Posted w k) k post before.given) (Posted w k)))
  post_grows (Some scheme) w k post before = (record { item = Posted w k; iteration = k; post = post } ∷ [], refl)

  pub judgement_grows : (judgement : Judgement Fault) (w k : ℕ) (before : Side Mesh Post Fault) → HasGrown before (after_judgement judgement w k before)
  judgement_grows again w k before = nothing_more before
  judgement_grows converged w k before = completes_grows w k before
  judgement_grows at_limit w k before = completes_grows w k before
  judgement_grows (refused fault) w k before = nothing_more before

module _ {Mesh Post Inputs Fault : Type 0} (frame : Frame Post Inputs Fault) (sides : CoreState Mesh Post Fault) (part : ℕ) where
  abbrev Grown : Side Mesh Post Fault → Type 0
  Grown side = HasGrown (sides part) side

  -- where the side is that of a pair
  of_pair : (x : Reply Mesh Inputs Fault × Side Mesh Post Fault) (reply : Reply Mesh Inputs Fault) (side : Side Mesh Post Fault) → x ≡ (reply, side) → Grown x.1 → Grown side
  of_pair x reply side e grown = subst (λ (pair : Reply Mesh Inputs Fault × Side Mesh Post Fault). Grown pair.1) e grown

  grows_at : (place : Place) (act : Act Mesh Post Fault) (reply : Reply Mesh Inputs Fault) (side : Side Mesh Post Fault)
      → made_at frame sides part place act ≡ Some (reply, side) → Grown side
  grows_at sending (sends_meshes own) reply side made = subst Grown (second_same _ _ made) (nothing_more (sides part))
  grows_at collecting takes_meshes reply side made = of_pair _ reply side (guarded _ _ _ made).1 (nothing_more (sides part))
  grows_at opening (posts post) reply side made =
      subst Grown (second_same _ _ made) (record { item = Completed 0; iteration = 0; post = post } ∷ [], refl)
  grows_at (taking w k) takes reply side made = of_pair _ reply side (guarded _ _ _ made).1 (nothing_more (sides part))
  grows_at (within w k) (posts post) reply side made = subst Grown (second_same _ _ made) (post_grows (frame.group part) w k post (sides part))
  grows_at (judging scheme w k) judges reply side made =
      of_pair _ reply side (guarded _ _ _ made).1 (judgement_grows (frame.judge (look_in sides) scheme w k) w k (sides part))
  grows_at place (stops fault) reply side made = subst Grown (second_same _ _ made) (nothing_more (sides part))
  grows_at place lacks_memory reply side made = subst Grown (second_same _ _ made) (nothing_more (sides part))
  grows_at place ends reply side made = subst Grown (second_same _ _ made) (nothing_more (sides part))
  grows_at place is_cut reply side made =
      of_pair _ reply side (guarded (is_cut_off frame sides part place) (cut_off, ends_with cut (sides part)) (reply, side) made).1 (nothing_more (sides part))
  grows_at place act reply side made = cc

  -- one event adds to what its participant has given
  pub step_grows : (act : Act Mesh Post Fault) (reply : Reply Mesh Inputs Fault) (side : Side Mesh Post Fault)
      → core_step frame sides part act ≡ Some (reply, side) → HasGrown (sides part) side
  step_grows act reply side made = grows_at (sides part).place act reply side (made_by frame sides part act (reply, side) made).1

-- so looks extend
pub grown_extends : {Mesh Post Fault : Type 0} (sides : CoreState Mesh Post Fault) (part : ℕ) (side : Side Mesh Post Fault)
    → HasGrown (sides part) side → Extends (look_in sides) (look_in (put sides part side))
grown_extends {Mesh} {Post} {Fault} sides part side grown one item gift is = elim (cases_eq one part) [
  | inl same ↦ ap (λ (s : Side Mesh Post Fault). found s.given item) (ap (put sides part side) same ∙ put_same sides part side)
      ∙ ap (λ (xs : List (Gift Post)). found xs item) grown.1
      ∙ found_stays (sides part).given grown.0 item gift (ap (λ (u : ℕ). found (sides u).given item) (sym same) ∙ is)
  | inr apart ↦ ap (λ (s : Side Mesh Post Fault). found s.given item) (put_other sides part side one apart) ∙ is
]

pub step_extends : {Mesh Post Inputs Fault : Type 0} (frame : Frame Post Inputs Fault) (sides : CoreState Mesh Post Fault) (part : ℕ)
    (act : Act Mesh Post Fault) (reply : Reply Mesh Inputs Fault) (side : Side Mesh Post Fault)
    → core_step frame sides part act ≡ Some (reply, side) → Extends (look_in sides) (look_in (put sides part side))
step_extends frame sides part act reply side made = grown_extends sides part side (step_grows frame sides part act reply side made)

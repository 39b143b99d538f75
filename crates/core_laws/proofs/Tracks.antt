-- A participant of the fed system stands where one of the core does: the same place, the same gifts, meshes sent or not, ended or not.
use Rattle.std.proofs.Common.{◌≡◌, ℕ, false, List, Option, Some, None, is_some, refl, ap}
use Rattle.cpl_plan.specs.declared.words.Item.TheVariants.{Posted}
use Rattle.coupled_loop.specs.Endings.{Ending, Judgement, again, converged, at_limit, refused}
use Rattle.coupled_loop.specs.Given.{Gift, found, gives, accepts}
use Rattle.coupled_loop.specs.CoreState.{within, judging, Side, CoreState, has_ended, look_in}
use Rattle.coupled_loop.specs.CoreStep.{after_post, after_judgement, ends_with}
use Rattle.coupled_loop.specs.Schedules.{running, Actor}

module _ {Mesh Own Post Fault : Type 0} where
  pub record IsLike (side : Side Mesh Post Fault) (own : Side Own Post Fault) : Type 0 where
    pub place : own.place ≡ side.place
    pub given : own.given ≡ side.given
    pub sent : is_some own.sent ≡ is_some side.sent
    pub ended : has_ended own ≡ has_ended side

  pub post_like : (side : Side Mesh Post Fault) (own : Side Own Post Fault) → IsLike side own → (group : Option ℕ) (w k : ℕ) (post : Post)
      → IsLike (after_post group w k post side) (after_post group w k post own)
  post_like side own like None w k post = record {
    place = refl;
    given = ap (λ (g : List (Gift Post)). accepts w k (gives (Posted w k) k post g)) like.given;
    sent = like.sent;
    ended = like.ended;
  }
  post_like side own like (Some scheme) w k post = record {
    place = refl;
    given = ap (λ (g : List (Gift Post)). gives (Posted w k) k post g) like.given;
    sent = like.sent;
    ended = like.ended;
  }

  pub end_like : (side : Side Mesh Post Fault) (own : Side Own Post Fault) → IsLike side own → (ending other : Ending Fault) → IsLike (ends_with ending side) (ends_with other own)
  end_like side own like ending other = record { place = like.place; given = like.given; sent = like.sent; ended = refl }

  pub judgement_like : (side : Side Mesh Post Fault) (own : Side Own Post Fault) → IsLike side own → (judgement : Judgement Fault) (w k : ℕ)
      → IsLike (after_judgement judgement w k side) (after_judgement judgement w k own)
  judgement_like side own like again w k = record { place = refl; given = like.given; sent = like.sent; ended = like.ended }
  judgement_like side own like converged w k = record { place = refl; given = ap (λ (g : List (Gift Post)). accepts w k g) like.given; sent = like.sent; ended = like.ended }
  judgement_like side own like at_limit w k = record { place = refl; given = ap (λ (g : List (Gift Post)). accepts w k g) like.given; sent = like.sent; ended = like.ended }
  judgement_like side own like (refused fault) w k = end_like side own like _ _

  pub like_looks : (sides : CoreState Mesh Post Fault) (own : CoreState Own Post Fault) → ((other : ℕ) → IsLike (sides other) (own other)) → look_in own ≡ look_in sides
  like_looks sides own all = λ i other item. found ((all other).given i) item

module _ {Mesh Own Post Fault State Note : Type 0} where
  -- within a turn it makes its one step
  pub record IsTracked (side : Side Mesh Post Fault) (actor : Actor Own Post Fault State (ℕ × ℕ) Note) : Type 0 where
    pub like : IsLike side actor.side
    pub stage : (w k : ℕ) → side.place ≡ within w k → has_ended side ≡ false → actor.stage ≡ running (w, k) 0

module _ {Mesh Post Fault : Type 0} (side : Side Mesh Post Fault) where
  -- who has posted, or judged, is in no turn
  pub post_leaves : (group : Option ℕ) (w k v j : ℕ) (post : Post) → ¬ ((after_post group w k post side).place ≡ within v j)
  post_leaves None w k v j post e = cc
  post_leaves (Some scheme) w k v j post e = cc

  pub judgement_leaves : (judgement : Judgement Fault) (scheme w k v j : ℕ) → side.place ≡ judging scheme w k
      → (after_judgement judgement w k side).place ≡ within v j → has_ended (after_judgement judgement w k side) ≡ false → ⊥
  judgement_leaves again scheme w k v j at e un = cc
  judgement_leaves converged scheme w k v j at e un = cc
  judgement_leaves at_limit scheme w k v j at e un = cc
  judgement_leaves (refused fault) scheme w k v j at e un = cc

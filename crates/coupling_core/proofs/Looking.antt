-- What is given by the one who posts, and by all others.
use Rattle.std.proofs.Common.{◌≡◌, ◌⊎◌, ℕ, zero, suc, ◌+◌, ◌<◌, ◌≤◌, inl, inr, Bool, true, false, cond, List, [], ◌∷◌, ◌++◌, length, Option, Some, None, IsSome, option_map, option_to_list, append-nil, slice_get, refl, sym, ap, subst, ◌∙◌, arith}
use Rattle.std.specs.Option.{option_map_or, option_or}
use Rattle.std.proofs.lemmas.Bool.{cases_eq}
use Rattle.std.proofs.lemmas.Option.{none-some, same_Some}
use Rattle.plan_order.specs.declared.node.Node.{Node}
use Rattle.plan_order.specs.declared.node.Node.TheVariants.{Group}
use Rattle.plan_order.proofs.Orders.{none_in_nil}
use Rattle.cpl_plan.specs.ExchangeKinds.{is_implicit}
use Rattle.cpl_plan.specs.PlanNodes.{node_members, members_if_implicit}
use Rattle.cpl_plan.specs.ValidPlan.{IsValidPlan}
use Rattle.cpl_plan.specs.declared.parts.PlanParts.{PlanParts}
use Rattle.cpl_plan.specs.declared.parts.Scheme.{Scheme}
use Rattle.cpl_plan.specs.declared.parts.WindowMethod.TheVariants.{FirstParticipant}
use Rattle.cpl_plan.specs.declared.words.Item.{Item}
use Rattle.cpl_plan.specs.declared.words.Item.TheVariants.{Completed, Posted}
use Rattle.cpl_plan.proofs.FirstStep.{one_scheme}
use Rattle.coupled_loop.specs.Given.{Gift, found, gives, accepts, accepted_for}
use Rattle.coupled_loop.specs.Numbered.{put}
use Rattle.coupled_loop.specs.CoreState.{look_in}
use Rattle.coupled_loop.specs.PlanFrames.{group_of}
use Rattle.core_laws.proofs.PlanPlaces.{own_node}
use Rattle.core_laws.proofs.Puts.{put_same, put_other}
use Rattle.core_laws.proofs.Sound.{node_by}
use Rattle.wave_coupling.specs.Posts.{Post}
use Rattle.sample_store.proofs.Looks.{found_stays, found_new, still_none}
use Rattle.core_sides.specs.CoreWords.{WaveState, WaveSide}
use Rattle.std.proofs.Common.{Contains}

-- where windows are made by steps nobody repeats them
no_member : (scheme : Scheme) (s p : ℕ) → is_implicit scheme.kind ≡ false → Contains (option_map_or members_if_implicit (slice_get (scheme ∷ []) s) []) p → ⊥
no_member scheme zero p explicit inside = none_in_nil p (subst (λ (b : Bool). Contains (cond b scheme.members []) p) explicit inside)
no_member scheme (suc s) p explicit inside = none_in_nil p inside

pub alone : (plan : PlanParts) → IsValidPlan plan → plan.method ≡ FirstParticipant → (p : ℕ) → p < length plan.parts → group_of plan p ≡ None
alone plan valid method p below = by (group_of plan p) refl where
  by : (o : Option ℕ) → group_of plan p ≡ o → group_of plan p ≡ None
  by None e = e
  by (Some s) e =
      let one = one_scheme plan valid method in
      let inside : Contains (node_members plan (Group s)) p = subst (λ (o : Option ℕ). Contains (node_members plan (node_by p o)) p) e (own_node plan valid p below) in
      absurd (no_member one.0 s p (ap is_implicit one.2)
      (subst (λ (ss : List Scheme). Contains (option_map_or members_if_implicit (slice_get ss s) []) p) one.1 inside))

-- what the one who posts has given, and what the others have
pub look_own : (sides : WaveState) (p : ℕ) (side : WaveSide) (item : Item) → look_in (put sides p side) p item ≡ found side.given item
look_own sides p side item = ap (λ (s : WaveSide). found s.given item) (put_same sides p side)

pub look_other : (sides : WaveState) (p : ℕ) (side : WaveSide) (q : ℕ) (item : Item) → ¬ (q ≡ p) → look_in (put sides p side) q item ≡ look_in sides q item
look_other sides p side q item apart = ap (λ (s : WaveSide). found s.given item) (put_other sides p side q apart)

module _ (given : List (Gift Post)) (gift : Gift Post) (item : Item) where
  -- a gift of another item
  pub found_past : (gift.item ≡ item → ⊥) → found (given ++ gift ∷ []) item ≡ found given item
  found_past apart = by (found given item) refl where
    by : (o : Option (Gift Post)) → found given item ≡ o → found (given ++ gift ∷ []) item ≡ found given item
    by (Some one) e = found_stays given (gift ∷ []) item one e ∙ sym e
    by None e = still_none given gift item e apart ∙ sym e

-- a window that is completed with its post
module _ (w k : ℕ) (post : Post) (given : List (Gift Post)) (none : found given (Posted w k) ≡ None) where
  turn : Gift Post
  turn = record { item = Posted w k; iteration = k; post = post }

  pub completed_gift : Gift Post
  completed_gift = record { item = Completed w; iteration = k; post = post }

  pub completed_post : completed_gift.post ≡ post
  unfolding completed_gift
  completed_post = refl

  pub accepts_post : accepts w k (gives (Posted w k) k post given) ≡ gives (Posted w k) k post given ++ completed_gift ∷ []
  unfolding completed_gift turn
  accepts_post = ap (λ (o : Option (Gift Post)). gives (Posted w k) k post given ++ option_to_list (option_map (accepted_for w) o))
      (found_new given turn (Posted w k) none refl)

  -- another window
  pub other_window : (v : ℕ) → ¬ (v ≡ w) → found (accepts w k (gives (Posted w k) k post given)) (Completed v) ≡ found given (Completed v)
  unfolding completed_gift turn
  other_window v apart =
      ap (λ (xs : List (Gift Post)). found xs (Completed v)) accepts_post
      ∙ found_past (gives (Posted w k) k post given) completed_gift (Completed v) (λ is. apart (let same : w ≡ v = cc in sym same))
      ∙ found_past given turn (Completed v) (λ is. cc)

  -- that window
  pub this_window : found given (Completed w) ≡ None → found (accepts w k (gives (Posted w k) k post given)) (Completed w) ≡ Some completed_gift
  unfolding completed_gift turn
  this_window not_yet =
      ap (λ (xs : List (Gift Post)). found xs (Completed w)) accepts_post
      ∙ found_new (gives (Posted w k) k post given) completed_gift (Completed w) (found_past given turn (Completed w) (λ is. cc) ∙ not_yet) refl

-- a completed window, whatever it is completed with: other windows stay
pub accepts_other : (w k v : ℕ) (given : List (Gift Post)) → ¬ (v ≡ w) → found (accepts w k given) (Completed v) ≡ found given (Completed v)
accepts_other w k v given apart = by (found given (Posted w k)) where
  by : (o : Option (Gift Post)) → found (given ++ option_to_list (option_map (accepted_for w) o)) (Completed v) ≡ found given (Completed v)
  by None = ap (λ (xs : List (Gift Post)). found xs (Completed v)) (append-nil given)
  by (Some gift) = found_past given (accepted_for w gift) (Completed v) (λ is. apart (let same : w ≡ v = cc in sym same))

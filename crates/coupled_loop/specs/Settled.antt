-- Inputs and judgements that look only at what was asked for: once that is given, nothing that is given later changes them. The project's own.
use Rattle.std.specs.Prelude.{◌≡◌, ℕ, suc, ◌-◌, ◌<◌, ◌≤◌, IsTrue, IsSome, Some, Contains}
use Rattle.plan_order.specs.declared.node.Node.TheVariants.{Group}
use Rattle.cpl_plan.specs.declared.words.Need.{Need}
use Rattle.cpl_plan.specs.declared.words.Item.{Item}
use Rattle.cpl_plan.specs.declared.words.Item.TheVariants.{Completed, Posted}
use Rattle.coupled_loop.specs.Given.{Gift, Look}
use Rattle.coupled_loop.specs.Endings.{again}
use Rattle.coupled_loop.specs.Frames.{Frame}

-- what is given in the first is given in the second, and is the same
abbrev pub Extends : {Post : Type 0} → Look Post → Look Post → Type 0
Extends {Post} f g = (part : ℕ) (item : Item) (gift : Gift Post) → f part item ≡ Some gift → g part item ≡ Some gift

-- each participant gives in order: windows one after another, the iterations of a window after the window before, and one after another
pub record IsInOrder {Post : Type 0} (f : Look Post) : Type 0 where
  pub windows : (part w : ℕ) → IsSome (f part (Completed (suc w))) → IsSome (f part (Completed w))
  pub turns : (part w k : ℕ) → IsSome (f part (Posted w k)) → (1 ≤ w) × (1 ≤ k) × IsSome (f part (Completed (w - 1)))
  pub iterations : (part w k : ℕ) → IsSome (f part (Posted w (suc (suc k)))) → IsSome (f part (Posted w (suc k)))

module _ {Post Inputs Fault : Type 0} (frame : Frame Post Inputs Fault) where
  -- what a participant needs for window w and iteration k is given
  abbrev pub AreNeedsGiven : Look Post → (part w k : ℕ) → Type 0
  AreNeedsGiven f part w k = (need : Need) → Contains (frame.needs part w k) need → IsSome (f need.owner need.item)

  -- the members of a scheme have posted the iterations of window w below a number
  abbrev pub HavePostedBelow : Look Post → (scheme w k : ℕ) → Type 0
  HavePostedBelow f scheme w k =
      (member j : ℕ) → Contains (frame.members scheme) member → 1 ≤ j → j < k → IsSome (f member (Posted w j))

  -- the turn of a participant may begin: the window is there, the participant has completed the one before, what it needs is given, and its scheme has posted the iterations before
  pub record IsProvided (f : Look Post) (part w k : ℕ) : Type 0 where
    pub window : IsTrue (frame.is_there f w)
    pub iteration : 1 ≤ k
    pub before : IsSome (f part (Completed (w - 1)))
    pub needed : AreNeedsGiven f part w k
    pub group : (scheme : ℕ) → frame.group part ≡ Some scheme → HavePostedBelow f scheme w k

  pub record IsSettled : Type 0 where
    -- inputs stay as they are
    pub inputs : (f g : Look Post) (part w k : ℕ) → part < frame.parts → Extends f g → IsInOrder f → IsInOrder g
        → IsProvided f part w k → frame.inputs f part w k ≡ frame.inputs g part w k
    -- so do judgements, once all members have posted
    pub judgements : (f g : Look Post) (scheme w k : ℕ) → Contains frame.nodes (Group scheme) → Extends f g → IsInOrder f → IsInOrder g
        → 1 ≤ k → IsTrue (frame.is_there f w) → HavePostedBelow f scheme w (suc k)
        → frame.judge f scheme w k ≡ frame.judge g scheme w k
    -- the last iteration is not repeated
    pub last : (f : Look Post) (scheme w : ℕ) → Contains frame.nodes (Group scheme)
        → ¬ (frame.judge f scheme w (frame.most_iterations scheme) ≡ again)

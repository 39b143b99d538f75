-- What a place tells stays true while others give more.
use Rattle.std.proofs.Common.{◌≡◌, ℕ, suc, ◌-◌, List, IsSome, IsTrue, sym, ap, ◌∙◌, is_some}
use Rattle.cpl_plan.specs.declared.words.Item.{Item}
use Rattle.cpl_plan.specs.declared.words.Item.TheVariants.{Completed, Posted}
use Rattle.coupled_loop.specs.Given.{Gift, Look}
use Rattle.coupled_loop.specs.Frames.{Frame}
use Rattle.coupled_loop.specs.CoreState.{Place, sending, collecting, opening, taking, within, judging}
use Rattle.coupled_loop.specs.Settled.{Extends, IsInOrder, IsProvided, HavePostedBelow}
use Rattle.core_laws.proofs.Looks.{extends_further, still_given}
use Rattle.core_laws.proofs.Well.{IsDecided, HasPostedBefore, IsBefore, Stands}

module _ {Post Inputs Fault : Type 0} (frame : Frame Post Inputs Fault) (f g : Look Post) (extends : Extends f g) (order : IsInOrder g) where
  pub decided_kept : (w : ℕ) → IsDecided frame f w → IsDecided frame g w
  decided_kept w decided h further in_order = sym (decided g extends order) ∙ decided h (extends_further f g h extends further) in_order

  -- a window that is there stays there
  pub there_kept : (w : ℕ) → IsDecided frame f w → IsTrue (frame.is_there f w) → IsTrue (frame.is_there g w)
  there_kept w decided there = sym (decided g extends order) ∙ there

  pub posted_below_kept : (scheme w k : ℕ) → HavePostedBelow frame f scheme w k → HavePostedBelow frame g scheme w k
  posted_below_kept scheme w k have member j among from below = still_given f g member (Posted w j) extends (have member j among from below)

  pub provided_kept : (part w k : ℕ) → IsDecided frame f w → IsProvided frame f part w k → IsProvided frame g part w k
  provided_kept part w k decided provided = record {
    window = there_kept w decided provided.window;
    iteration = provided.iteration;
    before = still_given f g part (Completed (w - 1)) extends provided.before;
    needed = λ need among. still_given f g need.owner need.item extends (provided.needed need among);
    group = λ scheme is. posted_below_kept scheme w k (provided.group scheme is);
  }

  -- the participant itself has given nothing more
  module _ (part : ℕ) (own : (item : Item) → g part item ≡ f part item) where
    given_before : (item : Item) → IsSome (g part item) → IsSome (f part item)
    given_before item is = ap is_some (sym (own item)) ∙ is

    pub posted_before_kept : (w k : ℕ) → HasPostedBefore frame f part w k → HasPostedBefore frame g part w k
    posted_before_kept w k has v j is = has v j (given_before (Posted v j) is)

    pub before_kept : (w k : ℕ) → IsBefore frame f part w k → IsBefore frame g part w k
    before_kept w k is = record {
      window = is.window;
      iteration = is.iteration;
      completed = still_given f g part (Completed (w - 1)) extends is.completed;
      uncompleted = λ v some. is.uncompleted v (given_before (Completed v) some);
      decided = decided_kept w is.decided;
      repeated = λ more. there_kept w is.decided (is.repeated more);
      group = λ scheme e. posted_below_kept scheme w k (is.group scheme e);
    }

    pub stands_kept : (place : Place) (given : List (Gift Post)) → Stands frame f part place given → Stands frame g part place given
    stands_kept sending given is = is
    stands_kept collecting given is = is
    stands_kept opening given is = is
    stands_kept (taking w k) given is = (before_kept w k is.0, posted_before_kept w k is.1)
    stands_kept (within w k) given is = (before_kept w k is.0, provided_kept part w k is.0.decided is.1, posted_before_kept w k is.2)
    stands_kept (judging scheme w k) given is =
        (is.0, before_kept w k is.1, provided_kept part w k is.1.decided is.2, still_given f g part (Posted w k) extends is.3, posted_before_kept w (suc k) is.4)

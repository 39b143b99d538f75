-- Each move of one participant leaves a place that tells what has been given.
use Rattle.std.proofs.Common.{◌≡◌, ℕ, suc, ◌+◌, ◌-◌, ◌<◌, ◌≤◌, inl, List, [], ◌∷◌, ◌++◌, Option, Some, None, IsSome, IsTrue, is_some, option_map, option_to_list, refl, sym, ap, subst, ◌∙◌, arith, Contains, append-nil, append_assoc}
use Rattle.plan_order.specs.declared.node.Node.TheVariants.{Group}
use Rattle.cpl_plan.specs.declared.words.Item.{Item}
use Rattle.cpl_plan.specs.declared.words.Item.TheVariants.{Completed, Posted}
use Rattle.coupled_loop.specs.Given.{Gift, Look, found, gives, accepts, accepted_for}
use Rattle.coupled_loop.specs.Frames.{Frame}
use Rattle.coupled_loop.specs.CoreState.{Place, taking, judging}
use Rattle.coupled_loop.specs.Settled.{Extends, IsInOrder, AreNeedsGiven, IsProvided, HavePostedBelow, IsSettled}
use Rattle.core_laws.proofs.Sound.{IsSound, parts_in, node_by}
use Rattle.core_laws.proofs.Well.{IsDecided, HasPostedBefore, IsIteration, IsBefore, Stands}
use Rattle.core_laws.proofs.GiftOrders.{IsGivenInOrder}
use Rattle.core_laws.proofs.Completions.{HasTurn, HasWindow, opened, turn_posted, window_accepted}
use Rattle.core_laws.proofs.KeptPlaces.{decided_kept, there_kept, posted_below_kept, provided_kept, stands_kept}

module _ {Post Inputs Fault : Type 0} (frame : Frame Post Inputs Fault) where
  -- who is in a scheme is in its node, which is solved, and among its members
  pub group_solved : IsSound frame → (part scheme : ℕ) → part < frame.parts → frame.group part ≡ Some scheme → Contains frame.nodes (Group scheme)
  group_solved sound part scheme is_part is =
      subst (λ (o : Option ℕ). Contains frame.nodes (node_by part o)) is (sound.placed part is_part)

  pub among_members : IsSound frame → (part scheme : ℕ) → part < frame.parts → frame.group part ≡ Some scheme → Contains (frame.members scheme) part
  among_members sound part scheme is_part is =
      subst (λ (o : Option ℕ). Contains (parts_in frame (node_by part o)) part) is (sound.inside part is_part)

  -- the first iteration is one that each may come to
  pub first_iteration : IsSound frame → (part : ℕ) → part < frame.parts → IsIteration frame (frame.group part) 1
  first_iteration sound part is_part = by (frame.group part) refl where
    by : (o : Option ℕ) → frame.group part ≡ o → IsIteration frame o 1
    by None is = refl
    by (Some scheme) is = (omega arith, sound.iterations scheme (group_solved sound part scheme is_part is))

  pub positive : (group : Option ℕ) (k : ℕ) → IsIteration frame group k → 1 ≤ k
  positive None k is = omega (arith, is)
  positive (Some scheme) k is = is.0

  -- more is given than before, in order, and the new place tells what has been given
  pub record IsGoodMove (f : Look Post) (part : ℕ) (before : List (Gift Post)) (place : Place) (now : List (Gift Post)) : Type 0 where
    pub more : List (Gift Post)
    pub grows : now ≡ before ++ more
    pub order : IsGivenInOrder now
    pub stands : (g : Look Post) → ((item : Item) → g part item ≡ found now item) → Extends f g → IsInOrder g → Stands frame g part place now

  module _ (f : Look Post) (part : ℕ) (given : List (Gift Post)) (own : (item : Item) → f part item ≡ found given item) (order : IsGivenInOrder given) where
    -- nothing is given
    pub good_stay : (place : Place) → Stands frame f part place given → IsGoodMove f part given place given
    good_stay place is = record {
      more = [];
      grows = sym (append-nil given);
      order = order;
      stands = λ g same extends ordered. stands_kept frame f g extends ordered part (λ item. same item ∙ sym (own item)) place given is;
    }

    -- it stands before the first iteration of a window once it has completed the one before
    pub before_first : (g : Look Post) (now : List (Gift Post)) (w next : ℕ) → IsSound frame → part < frame.parts → next ≡ suc w → HasWindow now w
        → ((item : Item) → g part item ≡ found now item) → IsDecided frame g next → IsBefore frame g part next 1 × HasPostedBefore frame g part next 1
    before_first g now w next sound is_part is has same decided = (
      record {
        window = omega arith;
        iteration = first_iteration sound part is_part;
        completed = let e : w ≡ next - 1 = omega arith in
            subst (λ (u : ℕ). IsSome (g part (Completed u))) e (ap is_some (same (Completed w)) ∙ has.completed);
        uncompleted = λ v some. let less = has.uncompleted v (ap is_some (sym (same (Completed v))) ∙ some) in omega arith;
        decided = decided;
        repeated = λ more. let never : ⊥ = omega arith in absurd never;
        group = λ scheme e member j among from below. let never : ⊥ = omega arith in absurd never;
      },
      λ v j some. inl (let less = has.posted v j (ap is_some (sym (same (Posted v j))) ∙ some) in omega arith),
    )

    -- the initial post
    pub good_opened : (post : Post) → IsSound frame → part < frame.parts → given ≡ [] → IsGoodMove f part given (taking 1 1) (gives (Completed 0) 0 post given)
    good_opened post sound is_part none = record {
      more = record { item = Completed 0; iteration = 0; post = post } ∷ [];
      grows = refl;
      order = has.order;
      stands = λ g same extends ordered.
          before_first g (gives (Completed 0) 0 post given) 0 1 sound is_part refl has same (λ h further in_order. sound.first_told g h);
    } where
      has : HasWindow (gives (Completed 0) 0 post given) 0
      has = subst (λ (xs : List (Gift Post)). HasWindow (gives (Completed 0) 0 post xs) 0) (sym none) (opened post)

    -- the inputs are taken
    pub good_taken : (w k : ℕ) → IsBefore frame f part w k → HasPostedBefore frame f part w k → IsTrue (frame.is_there f w) → AreNeedsGiven frame f part w k
        → IsProvided frame f part w k
    good_taken w k is posted there needed = record {
      window = there;
      iteration = positive (frame.group part) k is.iteration;
      before = is.completed;
      needed = needed;
      group = is.group;
    }

    -- a turn is posted
    pub good_turn : (w k : ℕ) (post : Post) → IsSound frame → part < frame.parts → IsBefore frame f part w k → HasPostedBefore frame f part w k
        → HasTurn (gives (Posted w k) k post given) w k
    good_turn w k post sound is_part is posted = turn_posted given w k post order is.window (positive (frame.group part) k is.iteration)
        (ap is_some (sym (own (Completed (w - 1)))) ∙ is.completed)
        (λ v some. is.uncompleted v (ap is_some (own (Completed v)) ∙ some))
        (λ v j some. posted v j (ap is_some (own (Posted v j)) ∙ some))
        (λ j e. ap is_some (sym (own (Posted w (suc j)))) ∙ by (frame.group part) refl j e is.iteration) where
          by : (o : Option ℕ) → frame.group part ≡ o → (j : ℕ) → k ≡ suc (suc j) → IsIteration frame o k → IsSome (f part (Posted w (suc j)))
          by None e j later first = let never : ⊥ = omega (arith, first, later) in absurd never
          by (Some scheme) e j later iteration =
              is.group scheme e part (suc j) (among_members sound part scheme is_part e) (omega arith) (omega (arith, later))

    -- and is then judged
    pub good_posted : (scheme w k : ℕ) (post : Post) → IsSound frame → part < frame.parts → frame.group part ≡ Some scheme
        → IsBefore frame f part w k → IsProvided frame f part w k → HasPostedBefore frame f part w k
        → IsGoodMove f part given (judging scheme w k) (gives (Posted w k) k post given)
    good_posted scheme w k post sound is_part grouped is provided posted = record {
      more = record { item = Posted w k; iteration = k; post = post } ∷ [];
      grows = refl;
      order = has.order;
      stands = λ g same extends ordered. (
        grouped,
        again g same extends ordered,
        provided_kept frame f g extends ordered part w k is.decided provided,
        ap is_some (same (Posted w k)) ∙ has.turn,
        λ v j some. has.posted v j (ap is_some (sym (same (Posted v j))) ∙ some),
      );
    } where
      now : List (Gift Post)
      now = gives (Posted w k) k post given

      has : HasTurn (gives (Posted w k) k post given) w k
      has = good_turn w k post sound is_part is posted

      again : (g : Look Post) → ((item : Item) → g part item ≡ found (gives (Posted w k) k post given) item) → Extends f g → IsInOrder g → IsBefore frame g part w k
      again g same extends ordered = record {
        window = is.window;
        iteration = is.iteration;
        completed = ap is_some (same (Completed (w - 1))) ∙ has.completed;
        uncompleted = λ v some. has.uncompleted v (ap is_some (sym (same (Completed v))) ∙ some);
        decided = decided_kept frame f g extends ordered w is.decided;
        repeated = λ more. there_kept frame f g extends ordered w is.decided (is.repeated more);
        group = λ one e. posted_below_kept frame f g extends ordered one w k (is.group one e);
      }

    -- a post is accepted for its window
    pub good_accepted : (w k : ℕ) (now more : List (Gift Post)) → IsSound frame → part < frame.parts → now ≡ given ++ more → HasTurn now w k
        → IsBefore frame f part w k → IsProvided frame f part w k → IsGoodMove f part given (taking (w + 1) 1) (accepts w k now)
    good_accepted w k now more sound is_part grows has is provided = record {
      more = more ++ accepted;
      grows = ap (λ (xs : List (Gift Post)). xs ++ accepted) grows ∙ append_assoc given more accepted;
      order = full.order;
      stands = λ g same extends ordered. before_first g (accepts w k now) w (w + 1) sound is_part (omega arith) full same
          (λ h further in_order. sound.next_told g h part w k is_part further ordered in_order
          (there_kept frame f g extends ordered w is.decided provided.window)
          (provided_kept frame f g extends ordered part w k is.decided provided).needed
          (ap is_some (same (Completed w)) ∙ full.completed));
    } where
      accepted : List (Gift Post)
      accepted = option_to_list (option_map (accepted_for w) (found now (Posted w k)))

      full : HasWindow (accepts w k now) w
      full = window_accepted now w k is.window has

    -- a window is repeated
    pub good_again : (scheme w k : ℕ) → IsSound frame → IsSettled frame → part < frame.parts → frame.group part ≡ Some scheme
        → IsBefore frame f part w k → IsProvided frame f part w k → HasPostedBefore frame f part w (suc k)
        → HavePostedBelow frame f scheme w (suc k) → ¬ (k ≡ frame.most_iterations scheme) → IsGoodMove f part given (taking w (k + 1)) given
    good_again scheme w k sound settled is_part grouped is provided posted have more = good_stay (taking w (k + 1)) (
      record {
        window = is.window;
        iteration = subst (λ (o : Option ℕ). IsIteration frame o (k + 1)) (sym grouped)
            (let now : IsIteration frame (Some scheme) k = subst (λ (o : Option ℕ). IsIteration frame o k) grouped is.iteration in
            (omega arith, omega (arith, now.1, more)));
        completed = is.completed;
        uncompleted = is.uncompleted;
        decided = is.decided;
        repeated = λ later. provided.window;
        group = λ one e. let same : scheme ≡ one = cc in
            subst (λ (u : ℕ). HavePostedBelow frame f u w (k + 1)) same (subst (λ (u : ℕ). HavePostedBelow frame f scheme w u) next have);
      },
      subst (λ (u : ℕ). HasPostedBefore frame f part w u) next posted,
    ) where
      next : suc k ≡ k + 1
      next = omega arith

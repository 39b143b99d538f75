-- Participants that go on one after another, whatever they are: where what one can do stays as it is while others go on, every list of goes can be continued to the end of one that is complete.
use Rattle.std.proofs.Common.{◌≡◌, ℕ, ◌+◌, ◌<◌, inl, inr, List, [], ◌∷◌, ◌++◌, length, Option, Some, None, sym, subst, ◌∙◌, arith}
use Rattle.coupled_loop.specs.Numbered.{put}
use Rattle.std.proofs.lemmas.Bool.{cases_eq}
use Rattle.core_laws.proofs.Puts.{put_swapped}

module _ {X : Type 0} (parts : ℕ) (next : (ℕ → X) → ℕ → Option X) where
  -- these go on one after another, and lead from here to there
  abbrev pub Goes : (from : ℕ → X) → List ℕ → (to : ℕ → X) → Type 0
  Goes from [] to = from ≡ to
  Goes from (part ∷ rest) to =
      (side : X) × (part < parts) × (next from part ≡ Some side) × Goes (put from part side) rest to

  -- nobody can go on
  abbrev pub IsAtEnd : (ℕ → X) → Type 0
  IsAtEnd state = (part : ℕ) → part < parts → next state part ≡ None

  -- a list from here to there, with so many fewer entries than another
  abbrev pub Rest : (from to : ℕ → X) → (all fewer : ℕ) → Type 0
  Rest from to all fewer = (rest : List ℕ) × Goes from rest to × (all ≡ fewer + length rest)

  -- what holds of states stays when one goes on
  abbrev pub IsKept : ((ℕ → X) → Type 0) → Type 0
  IsKept Holds = (state : ℕ → X) (part : ℕ) (side : X) → Holds state → part < parts → next state part ≡ Some side → Holds (put state part side)

  -- what one can do is the same after another has gone on
  abbrev pub IsPersistent : ((ℕ → X) → Type 0) → Type 0
  IsPersistent Holds = (state : ℕ → X) (part other : ℕ) (side beside : X) → Holds state → part < parts → other < parts → ¬ (other ≡ part)
      → next state part ≡ Some side → next state other ≡ Some beside → next (put state other beside) part ≡ Some side

  pub goes_joined : (first : List ℕ) (from between to : ℕ → X) (second : List ℕ) → Goes from first between → Goes between second to → Goes from (first ++ second) to
  goes_joined [] from between to second before after = subst (λ (s : ℕ → X). Goes s second to) (sym before) after
  goes_joined (part ∷ rest) from between to second before after =
      (before.0, before.1, before.2, goes_joined rest (put from part before.0) between to second before.3 after)

  module _ (Holds : (ℕ → X) → Type 0) (kept : IsKept Holds) (persists : IsPersistent Holds) where
    pub goes_kept : (list : List ℕ) (from to : ℕ → X) → Holds from → Goes from list to → Holds to
    goes_kept [] from to holds goes = subst Holds goes holds
    goes_kept (part ∷ rest) from to holds goes =
        goes_kept rest (put from part goes.0) to (kept from part goes.0 holds goes.1 goes.2) goes.3

    -- the first of the list is the one that goes on
    at_head : (part : ℕ) (rest : List ℕ) (from to : ℕ → X) (other : ℕ) (beside : X) → Goes from (part ∷ rest) to
        → next from other ≡ Some beside → other ≡ part → Rest (put from other beside) to (length (part ∷ rest)) 1
    at_head part rest from to other beside goes can same =
        let can_here : next from part ≡ Some beside = subst (λ (one : ℕ). next from one ≡ Some beside) same can in
        let before : next from part ≡ Some goes.0 = goes.2 in
        let is : goes.0 ≡ beside = cc in
        let on : Goes (put from part beside) rest to = subst (λ (x : X). Goes (put from part x) rest to) is goes.3 in
        (rest, subst (λ (one : ℕ). Goes (put from one beside) rest to) (sym same) on, omega arith)

    -- it is another
    past_head : (part : ℕ) (rest : List ℕ) (from to : ℕ → X) (other : ℕ) (beside : X) → Holds from → (goes : Goes from (part ∷ rest) to)
        → other < parts → next from other ≡ Some beside → ¬ (other ≡ part)
        → Rest (put (put from part goes.0) other beside) to (length rest) 1 → Rest (put from other beside) to (length (part ∷ rest)) 1
    past_head part rest from to other beside holds goes is_part can apart further =
        let first : next (put from other beside) part ≡ Some goes.0 = persists from part other goes.0 beside holds goes.1 is_part apart goes.2 can in
        let on : Goes (put (put from other beside) part goes.0) further.0 to =
        subst (λ (s : ℕ → X). Goes s further.0 to) (put_swapped from part other goes.0 beside apart) further.1 in
        (part ∷ further.0, (goes.0, goes.1, first, on), omega (arith, further.2))

    -- one goes on at first, and what is left of a complete list leads to its end
    pub after_one : (list : List ℕ) (from to : ℕ → X) (other : ℕ) (beside : X) → Holds from → Goes from list to → IsAtEnd to
        → other < parts → next from other ≡ Some beside → Rest (put from other beside) to (length list) 1
    after_one [] from to other beside holds goes end is_part can =
        let none : next from other ≡ None = subst (λ (s : ℕ → X). next s other ≡ None) (sym goes) (end other is_part) in
        let never : None ≡ Some beside = sym none ∙ can in
        cc
    after_one (part ∷ rest) from to other beside holds goes end is_part can = elim (cases_eq other part) [
      | inl same ↦ at_head part rest from to other beside goes can same
      | inr apart ↦ past_head part rest from to other beside holds goes is_part can apart
          (after_one rest (put from part goes.0) to other beside (kept from part goes.0 holds goes.1 goes.2) goes.3 end is_part
          (persists from other part beside goes.0 holds is_part goes.1 (λ e. apart (sym e)) can goes.2))
    ]

    -- every list of goes can be continued to the end of one that is complete, and with what follows it has as many entries
    pub net : (done list : List ℕ) (from to now : ℕ → X) → Holds from → Goes from list to → IsAtEnd to
        → Goes from done now → Rest now to (length list) (length done)
    net [] list from to now holds goes end went = (list, subst (λ (s : ℕ → X). Goes s list to) went goes, omega arith)
    net (part ∷ more) list from to now holds goes end went =
        let one = after_one list from to part went.0 holds goes end went.1 went.2 in
        let rest = net more one.0 (put from part went.0) to now (kept from part went.0 holds went.1 went.2) one.1 end went.3 in
        (rest.0, rest.1, omega (arith, one.2, rest.2))

    -- where nobody can go on, that end is reached
    pub ends_same : (done list : List ℕ) (from to now : ℕ → X) → Holds from → Goes from list to → IsAtEnd to
        → Goes from done now → IsAtEnd now → now ≡ to
    ends_same done list from to now holds goes end went stuck = only (net done list from to now holds goes end went) where
      only : Rest now to (length list) (length done) → now ≡ to
      only rest = by rest.0 rest.1 where
        by : (left : List ℕ) → Goes now left to → now ≡ to
        by [] on = on
        by (part ∷ more) on = let never : None ≡ Some on.0 = sym (stuck part on.1) ∙ on.2 in cc

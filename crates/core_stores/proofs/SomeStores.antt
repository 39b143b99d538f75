-- For whatever was given in a state that events come to there are stores that stand for it.
use Rattle.std.proofs.Common.{◌≡◌, ℕ, ◌+◌, Bool, true, false, List, [], Option, Some, None, refl, sym, ap, subst, ◌∙◌, arith}
use Rattle.std.proofs.lemmas.Option.{same_Some, none-some}
use Rattle.waveform.specs.declared.sample.Sample.{Sample}
use Rattle.cpl_plan.specs.declared.words.Item.TheVariants.{Completed, Posted}
use Rattle.coupled_loop.specs.Given.{Gift, gives, accepts}
use Rattle.sample_store.specs.declared.store.Iterate.{Iterate}
use Rattle.sample_store.specs.Kept.{Kept as StoreKept, IsKept as IsStoreKept}
use Rattle.sample_store.specs.KeptSteps.{newest_kept, in_next_window, in_next_iteration, after_acceptance}
use Rattle.sample_store.specs.NextTurn.{next_turn}
use Rattle.sample_store.specs.StandsFor.{StandsFor as StoreStandsFor}
use Rattle.sample_store.proofs.Orders.{opened_in_order}
use Rattle.sample_store.proofs.Stands.{next_window_stands, next_iteration_stands, acceptance_stands}
use Rattle.core_stores.specs.StoresStand.{IsStoreOf}
use Rattle.core_stores.specs.StoreMoves.{IsPosted}

-- a store that is there has what has to be there
abbrev pub IsKeptThere : Option StoreKept → Type 0
IsKeptThere None = Unit {0}
IsKeptThere (Some store) = IsStoreKept store

-- there is one for what was given of an exchange
pub record HasStore (given : List (Gift (List Sample))) : Type 0 where
  pub store : Option StoreKept
  pub stands : IsStoreOf given store
  pub kept : IsKeptThere store

-- and the newest post is of turn (w, k), not accepted yet
pub record HasPosted (w k : ℕ) (given : List (Gift (List Sample))) : Type 0 where
  pub store : StoreKept
  pub stands : StoreStandsFor given store
  pub kept : IsStoreKept store
  pub posted : IsPosted (Some store) w k

pub has_store : (w k : ℕ) (given : List (Gift (List Sample))) → HasPosted w k given → HasStore given
has_store w k given has = record { store = Some has.store; stands = has.stands; kept = has.kept }

-- after the initial values
opened : List Sample → StoreKept
opened wave = record { progress = record { window = 0; iteration = 0; is_accepted = true }; newest = wave; previous = None; last = None; older = None }

pub opened_has : (wave : List Sample) → HasStore (gives (Completed 0) 0 wave [])
unfolding opened
opened_has wave = record {
  store = Some (opened wave);
  stands = record {
    progress = refl;
    order = opened_in_order wave;
    newest = λ some. absurd (omega (arith, some));
    accepted = λ is. refl;
    previous = λ one is. absurd (none-some one is);
    last = λ v one before is. absurd (none-some one is);
    older = λ v one before is. absurd (none-some one is);
  };
  kept = record {
    last = λ some. absurd (omega (arith, some));
    older = λ is some. absurd (omega (arith, some));
    previous = λ some. absurd (omega (arith, some));
    one_before = λ one is. absurd (none-some one is);
  };
}

module _ (given : List (Gift (List Sample))) (store : StoreKept) (stands : StoreStandsFor given store) (kept : IsStoreKept store) (w k : ℕ) where
  module _ (wave : List Sample) (next : next_turn store.progress ≡ (w, k)) where
    next_by : (b : Bool) → store.progress.is_accepted ≡ b → next_turn (record store.progress { is_accepted = b }) ≡ (w, k)
    next_by b is = ap (λ (t : Bool). next_turn (record store.progress { is_accepted = t })) (sym is) ∙ next

    posted_by : (b : Bool) → store.progress.is_accepted ≡ b → HasPosted w k (gives (Posted w k) k wave given)
    posted_by true is =
        let window : store.progress.window + 1 ≡ w = ap (λ (t : ℕ × ℕ). t.0) (next_by true is) in
        let first : 1 ≡ k = ap (λ (t : ℕ × ℕ). t.1) (next_by true is) in
        record {
          store = in_next_window store w wave;
          stands = next_window_stands given store stands w k wave is next;
          kept = record {
            last = λ some. refl;
            older = λ open_still more. kept.last (omega (arith, window, more));
            previous = λ more. absurd (omega (arith, more));
            one_before = λ one before. absurd (none-some one before);
          };
          posted = (refl, first, refl);
        }
    posted_by false is =
        let window : store.progress.window ≡ w = ap (λ (t : ℕ × ℕ). t.0) (next_by false is) in
        let iteration : store.progress.iteration + 1 ≡ k = ap (λ (t : ℕ × ℕ). t.1) (next_by false is) in
        record {
          store = in_next_iteration store k wave;
          stands = next_iteration_stands given store stands w k wave is next;
          kept = record {
            last = kept.last;
            older = λ open_still more. kept.older is more;
            previous = λ more. refl;
            one_before = λ one before. ap (λ (post : Iterate). post.iteration + 1) (sym (same_Some (newest_kept store) one before)) ∙ iteration;
          };
          posted = (window, refl, refl);
        }

    -- after the post of the next turn
    pub posted_has : HasPosted w k (gives (Posted w k) k wave given)
    posted_has = posted_by store.progress.is_accepted refl

  -- after the newest post is accepted
  pub accepted_has : IsPosted (Some store) w k → HasStore (accepts w k given)
  accepted_has posted = record {
    store = Some (after_acceptance store);
    stands = subst (λ (j : ℕ). StoreStandsFor (accepts w j given) (after_acceptance store)) posted.1
        (acceptance_stands given store stands w posted.0 posted.2);
    kept = record {
      last = kept.last;
      older = λ never more. cc;
      previous = kept.previous;
      one_before = kept.one_before;
    };
  }

-- After the last window all end that have not stopped; so the windows from one on lead to the loop's end.
use Rattle.std.proofs.Common.{◌≡◌, ℕ, zero, suc, ◌+◌, ◌<◌, ◌≤◌, ◌⊎◌, inl, inr, Bool, true, false, List, [], ◌∷◌, ◌++◌, fold, Option, Some, None, refl, sym, ap, subst, ◌∙◌, arith, Contains}
use Rattle.std.proofs.lemmas.Bool.{cases_eq}
use Rattle.plan_order.proofs.Loops.{head_in, tail_in, in_cons}
use Rattle.plan_order.proofs.Orders.{none_in_nil}
use Rattle.coupled_loop.specs.Endings.{Ending, done}
use Rattle.coupled_loop.specs.Frames.{Frame}
use Rattle.coupled_loop.specs.CoreState.{taking}
use Rattle.coupled_loop.specs.CoreStep.{ends_with}
use Rattle.coupled_loop.specs.Solving.{Solvers}
use Rattle.coupled_loop.specs.CoupledLoop.{Part, Parts, ending_in, node_does, go_on_if, go_through}
use Rattle.coupled_loop.specs.Schedules.{Actor, Actors, next}
use Rattle.coupled_loop.specs.Settled.{IsSettled}
use Rattle.core_laws.proofs.Sound.{IsSound, node_of}
use Rattle.core_laws.proofs.Nets.{goes_joined}
use Rattle.core_laws.proofs.Members.{Distinct}
use Rattle.core_laws.proofs.NextSteps.{rests, next_ends}
use Rattle.core_laws.proofs.Views.{IsAt, look_of, IsWellNow, GoesTo, view, view_is}
use Rattle.core_laws.proofs.Rows.{EachIs, each_goes}
use Rattle.core_laws.proofs.Standing.{completed_at}
use Rattle.core_laws.proofs.WindowRows.{NodesGone, nodes_go}

-- the numbers below another, the greatest first
abbrev pub numbers_below : ℕ → List ℕ
numbers_below zero = []
numbers_below (suc n) = n ∷ numbers_below n

pub is_below : (n part : ℕ) → Contains (numbers_below n) part → part < n
is_below zero part inside = absurd (none_in_nil part inside)
is_below (suc n) part inside = elim (in_cons n (numbers_below n) part inside) [
  | inl same ↦ omega arith
  | inr further ↦ let less = is_below n part further in omega arith
]

pub below_in : (n part : ℕ) → part < n → Contains (numbers_below n) part
below_in zero part less = absurd (omega arith)
below_in (suc n) part less = by (cases_eq n part) (λ below. below_in n part below) where
  by : (n ≡ part) ⊎ ¬ (n ≡ part) → (part < n → Contains (numbers_below n) part) → Contains (n ∷ numbers_below n) part
  by (inl same) further = subst (λ (q : ℕ). Contains (n ∷ numbers_below n) q) same (head_in n (numbers_below n))
  by (inr off) further = tail_in n (numbers_below n) part (further (omega arith))

pub below_distinct : (n : ℕ) → Distinct (numbers_below n)
below_distinct zero = tt
below_distinct (suc n) = ((λ inside. let less = is_below n n inside in omega arith), below_distinct n)

module _ {Mesh Post Inputs Fault State Run Note : Type 0} (frame : Frame Post Inputs Fault) (solvers : Solvers Mesh Post Inputs Fault State Run Note) where
  -- all have ended as in the loop
  abbrev pub IsLoopsEnd : Actors Mesh Post Fault State Run Note → Parts Mesh Post Fault State Note → Type 0
  IsLoopsEnd actors loop = (part : ℕ) → part < frame.parts
      → ((actors part).held ≡ (loop part).held) × ((actors part).side.given ≡ (loop part).given) × ((actors part).side.ending ≡ Some (ending_in (loop part)))

  pub record LoopEnds (from : Actors Mesh Post Fault State Run Note) (loop : Parts Mesh Post Fault State Note) : Type 0 where
    pub list : List ℕ
    pub to : Actors Mesh Post Fault State Run Note
    pub goes : GoesTo frame solvers from list to
    pub as_loop : IsLoopsEnd to loop

  -- all stand before window w, or have ended
  pub record AllStand (actors : Actors Mesh Post Fault State Run Note) (w : ℕ) : Type 0 where
    pub well : IsWellNow frame solvers actors
    pub at : (part : ℕ) → part < frame.parts → IsAt (taking w 1) w 1 (actors part)

  module _ (sound : IsSound frame) (settled : IsSettled frame) where
    module _ (w : ℕ) (actors : Actors Mesh Post Fault State Run Note) (all : AllStand actors w) (over : frame.is_there (look_of frame solvers actors) w ≡ false) where
      abbrev end_one : Option (Ending Fault) → Actor Mesh Post Fault State Run Note → Actor Mesh Post Fault State Run Note
      end_one (Some ending) actor = actor
      end_one None actor = rests (ends_with done actor.side) actor.held

      abbrev at_end : ℕ → Actor Mesh Post Fault State Run Note
      at_end part = end_one (actors part).side.ending (actors part)

      can_end : (part : ℕ) → part < frame.parts → (next frame solvers actors part ≡ Some (at_end part)) ⊎ (actors part ≡ at_end part)
      can_end part is_part = by (actors part).side.ending refl where
        by : (ending : Option (Ending Fault)) → (actors part).side.ending ≡ ending
            → (next frame solvers actors part ≡ Some (end_one ending (actors part))) ⊎ (actors part ≡ end_one ending (actors part))
        by (Some ending) is = inr refl
        by None is = inl (next_ends frame solvers actors part is w 1 ((all.at part is_part).stands is).0 over)

      each_ends : EachIs frame solvers actors (numbers_below frame.parts) at_end
      each_ends = each_goes frame solvers sound settled at_end (numbers_below frame.parts) actors (below_distinct frame.parts) all.well
          (λ part inside. is_below frame.parts part inside) (λ part inside. can_end part (is_below frame.parts part inside))

      ended_as : (part : ℕ) (ending : Option (Ending Fault)) → (actors part).side.ending ≡ ending
          → ((end_one ending (actors part)).held ≡ (actors part).held) × ((end_one ending (actors part)).side.given ≡ (actors part).side.given)
          × ((end_one ending (actors part)).side.ending ≡ Some (ending_in (view frame solvers actors part)))
      ended_as part (Some ending) is = (refl, refl, rw is refl)
      ended_as part None is = (refl, refl, rw is refl)

      pub all_end : LoopEnds actors (view frame solvers actors)
      all_end = record {
        list = each_ends.list;
        to = each_ends.to;
        goes = each_ends.goes;
        as_loop = λ part is_part.
            let own = each_ends.inside part (below_in frame.parts part is_part) in
            let end = ended_as part (actors part).side.ending refl in
            let held : (actors part).held ≡ (view frame solvers actors part).held =
            sym (ap (λ (p : Part Mesh Post Fault State Note). p.held) (view_is frame solvers part (actors part) is_part)) in (
              ap (λ (a : Actor Mesh Post Fault State Run Note). a.held) own ∙ (end.0 ∙ held),
              ap (λ (a : Actor Mesh Post Fault State Run Note). a.side.given) own ∙ end.1,
              ap (λ (a : Actor Mesh Post Fault State Run Note). a.side.ending) own ∙ end.2,
            );
      }

    -- a window that is there
    window_goes : (w : ℕ) (actors : Actors Mesh Post Fault State Run Note) → 1 ≤ w → AllStand actors w → frame.is_there (look_of frame solvers actors) w ≡ true
        → NodesGone frame solvers w actors frame.nodes
    window_goes w actors window all there = nodes_go frame solvers w sound settled window frame.nodes [] actors refl (record {
      well = all.well;
      windows = λ part is_part. completed_at frame solvers actors all.well part w 1 w 1 (all.at part is_part);
      passed = λ part is_part inside. absurd (none_in_nil (node_of frame part) inside);
      waiting = λ part is_part inside. all.at part is_part;
      there = λ part is_part inside going. there;
    })

    after_window : (w : ℕ) (actors : Actors Mesh Post Fault State Run Note) (gone : NodesGone frame solvers w actors frame.nodes) → AllStand gone.to (w + 1)
    after_window w actors gone = record { well = gone.mid.well; at = λ part is_part. gone.mid.passed part is_part (sound.placed part is_part) }

    pub windows_go : (windows w : ℕ) (actors : Actors Mesh Post Fault State Run Note) → 1 ≤ w → w + windows ≡ frame.most_windows + 1 → AllStand actors w
        → LoopEnds actors (go_through frame solvers w windows (view frame solvers actors))
    windows_go zero w actors window count all = by (frame.is_there (look_of frame solvers actors) w) refl where
      by : (there : Bool) → frame.is_there (look_of frame solvers actors) w ≡ there → LoopEnds actors (view frame solvers actors)
      by true is = let bound = sound.bounded (look_of frame solvers actors) w is in absurd (omega (arith, bound.1))
      by false is = all_end w actors all is
    windows_go (suc windows) w actors window count all =
        by (frame.is_there (look_of frame solvers actors) w) refl (λ now stand. windows_go windows (w + 1) now (omega arith) (omega arith) stand)
      where
        by : (there : Bool) → frame.is_there (look_of frame solvers actors) w ≡ there
            → ((now : Actors Mesh Post Fault State Run Note) → AllStand now (w + 1) → LoopEnds now (go_through frame solvers (w + 1) windows (view frame solvers now)))
            → LoopEnds actors (go_on_if frame solvers there (λ before. go_through frame solvers (w + 1) windows (fold (node_does frame solvers w) before frame.nodes)) (view frame solvers actors))
        by true is further =
            let gone = window_goes w actors window all is in
            let rest = further gone.to (after_window w actors gone) in
            let on : LoopEnds gone.to (go_through frame solvers (w + 1) windows (fold (node_does frame solvers w) (view frame solvers actors) frame.nodes)) =
            subst (λ (parts : Parts Mesh Post Fault State Note). LoopEnds gone.to (go_through frame solvers (w + 1) windows parts)) gone.seen rest in
            record {
              list = gone.list ++ on.list;
              to = on.to;
              goes = goes_joined frame.parts (next frame solvers) gone.list actors gone.to on.to on.list gone.goes on.goes;
              as_loop = on.as_loop;
            }
        by false is further = all_end w actors all is

-- A scheme in one window: iterations, as many as the loop makes, until all members have gone on or have stopped.
use Rattle.std.proofs.Common.{◌≡◌, ℕ, zero, suc, ◌+◌, ◌≤◌, inl, Bool, true, false, List, [], ◌∷◌, ◌++◌, Option, None, refl, subst, ◌∙◌, arith, Contains}
use Rattle.plan_order.specs.declared.node.Node.{Node}
use Rattle.plan_order.specs.declared.node.Node.TheVariants.{Group}
use Rattle.coupled_loop.specs.Endings.{again}
use Rattle.coupled_loop.specs.Frames.{Frame}
use Rattle.coupled_loop.specs.CoreState.{taking}
use Rattle.coupled_loop.specs.Solving.{Solvers}
use Rattle.coupled_loop.specs.CoupledLoop.{Parts, hear, have_posted, after_turns, iterate}
use Rattle.coupled_loop.specs.Schedules.{Actors, next}
use Rattle.coupled_loop.specs.Settled.{IsSettled}
use Rattle.core_laws.proofs.Sound.{IsSound}
use Rattle.core_laws.proofs.Well.{IsIteration}
use Rattle.core_laws.proofs.Nets.{goes_joined}
use Rattle.plan_order.proofs.Orders.{none_in_nil}
use Rattle.core_laws.proofs.Views.{look_of, IsWellNow, GoesTo, view, goes_stay_well}
use Rattle.core_laws.proofs.Standing.{stands_at, posted_longer, served_still}
use Rattle.core_laws.proofs.GroupTurns.{MidTurns, TurnsTaken, is_member, turns_go}
use Rattle.core_laws.proofs.Judging.{AllAt, judged_again, judged_on, all_cut}

module _ {Mesh Post Inputs Fault State Run Note : Type 0} (frame : Frame Post Inputs Fault) (solvers : Solvers Mesh Post Inputs Fault State Run Note)
    (scheme w : ℕ) (before : List Node) where
  -- a row, and then what comes of another
  at_joined : (list : List ℕ) (from to : Actors Mesh Post Fault State Run Note) (v j : ℕ) (loop : Parts Mesh Post Fault State Note)
      → GoesTo frame solvers from list to → ((other : ℕ) → ¬ Contains (frame.members scheme) other → to other ≡ from other)
      → AllAt frame solvers scheme w before to (taking v j) v j loop → AllAt frame solvers scheme w before from (taking v j) v j loop
  at_joined list from to v j loop goes apart further = record {
    list = list ++ further.list;
    to = further.to;
    goes = goes_joined frame.parts (next frame solvers) list from to further.to further.list goes further.goes;
    apart = λ other none. further.apart other none ∙ apart other none;
    seen = further.seen;
    at = further.at;
  }

  module _ (sound : IsSound frame) (settled : IsSettled frame) (after : List Node) (stands : frame.nodes ≡ before ++ Group scheme ∷ after) (window : 1 ≤ w) where
    -- all members stand before iteration k
    abbrev pub Begins : Actors Mesh Post Fault State Run Note → (k : ℕ) → Type 0
    Begins actors k = MidTurns frame solvers scheme w before actors k [] (frame.members scheme)

    abbrev pub Completes : Actors Mesh Post Fault State Run Note → Parts Mesh Post Fault State Note → Type 0
    Completes actors loop = AllAt frame solvers scheme w before actors (taking (w + 1) 1) (w + 1) 1 loop

    -- with no iteration left all have stopped
    none_left : (k : ℕ) (actors : Actors Mesh Post Fault State Run Note) → k ≡ frame.most_iterations scheme + 1 → Begins actors k → Completes actors (view frame solvers actors)
    none_left k actors last mid = record {
      list = [];
      to = actors;
      goes = refl;
      apart = λ other none. refl;
      seen = refl;
      at = λ member inside. record {
        stands = λ going. absurd (too_many member inside going);
        posted = λ ending is. posted_longer (actors member).side.given w k (w + 1) 1 (inl (omega arith)) ((mid.waiting member inside).posted ending is);
      };
    } where
      too_many : (member : ℕ) → Contains (frame.members scheme) member → (actors member).side.ending ≡ None → ⊥
      too_many member inside going =
          let group = (is_member frame solvers scheme w before sound settled after stands member inside).1 in
          let at = ((mid.waiting member inside).stands going).0 in
          let bound : (1 ≤ k) × (k ≤ frame.most_iterations scheme) =
          subst (λ (g : Option ℕ). IsIteration frame g k) group (stands_at frame solvers actors mid.well member (taking w k) at).0.iteration in
          omega (arith, bound.1)

    -- after a judgement to repeat the window, the next iteration begins
    begins_again : (k : ℕ) (iteration : 1 ≤ k) (actors : Actors Mesh Post Fault State Run Note) (loop : Parts Mesh Post Fault State Note)
        → MidTurns frame solvers scheme w before actors k (frame.members scheme) []
        → (all : AllAt frame solvers scheme w before actors (taking w (k + 1)) w (k + 1) loop) → Begins all.to (k + 1)
    begins_again k iteration actors loop mid all = record {
      well = well;
      served = served_still frame solvers all.list actors all.to w before all.goes mid.served;
      taken = λ member inside. absurd (none_in_nil member inside);
      waiting = λ member inside. all.at member inside;
      there = λ member inside going.
          (stands_at frame solvers all.to well member (taking w (k + 1)) ((all.at member inside).stands going).0).0.repeated (omega arith);
    } where
      well : IsWellNow frame solvers all.to
      well = goes_stay_well frame solvers sound settled all.list actors all.to mid.well all.goes

    pub iterations_go : (iterations k : ℕ) (actors : Actors Mesh Post Fault State Run Note) → 1 ≤ k → k + iterations ≡ frame.most_iterations scheme + 1
        → Begins actors k → Completes actors (iterate frame solvers scheme w k iterations (view frame solvers actors))
    iterations_go zero k actors iteration count mid = none_left k actors (omega arith) mid
    iterations_go (suc iterations) k actors iteration count mid =
        after_all (turns_go frame solvers scheme w before sound settled after stands window k iteration (frame.members scheme) [] actors refl mid)
        (λ now begins. iterations_go iterations (k + 1) now (omega arith) (omega arith) begins)
      where
        after_all : TurnsTaken frame solvers scheme w before actors k (frame.members scheme)
            → ((now : Actors Mesh Post Fault State Run Note) → Begins now (k + 1) → Completes now (iterate frame solvers scheme w (k + 1) iterations (view frame solvers now)))
            → Completes actors (iterate frame solvers scheme w k (suc iterations) (view frame solvers actors))
        after_all turned further =
            at_joined turned.list actors turned.to (w + 1) 1 _ turned.goes turned.apart
            (subst
            (λ (parts : Parts Mesh Post Fault State Note). AllAt frame solvers scheme w before turned.to (taking (w + 1) 1) (w + 1) 1
            (after_turns frame solvers (iterate frame solvers scheme w (k + 1) iterations) scheme w k parts (have_posted frame solvers parts (frame.members scheme) w k)))
            turned.seen (by (have_posted frame solvers (view frame solvers turned.to) (frame.members scheme) w k) refl))
          where
            repeats : (all : have_posted frame solvers (view frame solvers turned.to) (frame.members scheme) w k ≡ true)
                → (is : frame.judge (look_of frame solvers turned.to) scheme w k ≡ again)
                → AllAt frame solvers scheme w before turned.to (taking (w + 1) 1) (w + 1) 1
                (iterate frame solvers scheme w (k + 1) iterations (hear frame solvers (frame.members scheme) w k again (view frame solvers turned.to)))
            repeats all is =
                let heard = judged_again frame solvers scheme w before sound settled after stands k turned.to turned.mid all again is refl in
                at_joined heard.list turned.to heard.to (w + 1) 1 _ heard.goes heard.apart
                (subst (λ (parts : Parts Mesh Post Fault State Note). AllAt frame solvers scheme w before heard.to (taking (w + 1) 1) (w + 1) 1 (iterate frame solvers scheme w (k + 1) iterations parts))
                heard.seen (further heard.to (begins_again k iteration turned.to _ turned.mid heard)))

            by : (posted : Bool) → have_posted frame solvers (view frame solvers turned.to) (frame.members scheme) w k ≡ posted
                → AllAt frame solvers scheme w before turned.to (taking (w + 1) 1) (w + 1) 1
                (after_turns frame solvers (iterate frame solvers scheme w (k + 1) iterations) scheme w k (view frame solvers turned.to) posted)
            by true all = judged_on frame solvers scheme w before sound settled after stands k turned.to turned.mid all
                (iterate frame solvers scheme w (k + 1) iterations) (λ is. repeats all is) (frame.judge (look_of frame solvers turned.to) scheme w k) refl
            by false none = all_cut frame solvers scheme w before sound settled after stands k turned.to turned.mid none

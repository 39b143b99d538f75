-- When a participant can take its inputs, and by which senders' gifts. The project's own.
use Rattle.std.specs.Prelude.{◌≡◌, ℕ, ◌-◌, ◌≤◌, List, Option, Some, length, slice_get}
use Rattle.cpl_plan.specs.declared.parts.PlanParts.{PlanParts}
use Rattle.cpl_plan.specs.declared.parts.Exchange.{Exchange}
use Rattle.cpl_plan.specs.declared.parts.Scheme.{Scheme}
use Rattle.cpl_plan.specs.declared.parts.Kind.TheVariants.{Iterated}
use Rattle.coupled_loop.specs.Given.{Look}
use Rattle.sample_store.specs.Kept.{Kept}
use Rattle.wave_coupling.specs.Posts.{Post}
use Rattle.wave_coupling.specs.Coupling.{start_of}
use Rattle.wave_laws.specs.Fitting.{IsFittingLook}
use Rattle.group_course.specs.StoresTell.{StoreTells}
use Rattle.group_course.specs.CourseTells.{CourseTells}
use Rattle.core_schemes.specs.declared.schemes.SchemeState.{SchemeState}
use Rattle.core_takes.specs.Held.{IsHeld}
use Rattle.core_takes.specs.declared.takes.TakeTurn.{TakeTurn}

module _ (plan : PlanParts) (stores : List (Option Kept)) (schemes : List SchemeState) (turn : TakeTurn) where
  -- what is kept tells what the senders gave, what their schemes have made of the iteration before, and when the window starts
  pub record Tells (look : Look Post) : Type 0 where
    pub start : turn.start ≡ start_of plan look turn.window
    pub posts : (x : ℕ) (e : Exchange) (store : Kept) → slice_get plan.exchanges x ≡ Some e → e.to ≡ turn.part
        → slice_get stores x ≡ Some (Some store) → StoreTells plan look x e store
    pub repeated : (x : ℕ) (e : Exchange) (scheme : Scheme) (state : SchemeState) → slice_get plan.exchanges x ≡ Some e → e.to ≡ turn.part
        → e.kind ≡ Iterated → 2 ≤ turn.iteration → slice_get plan.schemes e.scheme ≡ Some scheme → slice_get schemes e.scheme ≡ Some state
        → CourseTells plan look scheme turn.window turn.start (turn.iteration - 1) state.course

  -- it does so of gifts that fit, and holds what is read
  pub record IsReady : Type 0 where
    pub look : Look Post
    pub tells : Tells look
    pub iteration : 1 ≤ turn.iteration
    pub count : length schemes ≡ length plan.schemes
    pub held : (x : ℕ) (e : Exchange) → slice_get plan.exchanges x ≡ Some e → e.to ≡ turn.part → IsHeld stores x e.kind turn.window turn.iteration
    -- on so many vertices of each mesh
    pub vertices : (mesh : ℕ) → ℕ
    pub fits : IsFittingLook plan vertices look

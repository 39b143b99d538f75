-- What a core keeps of its participants, and what it tells of what they ask for. The project's own.
use Rattle.std.specs.Prelude.{ℕ, Bool, false, if◌then◌else◌, List, [], map, slice_get, Option, Some, None, is_some}
use Rattle.std.specs.Option.{option_map_or}
use Rattle.cpl_plan.specs.Needs.{needs}
use Rattle.cpl_plan.specs.Windows.{is_window}
use Rattle.cpl_plan.specs.declared.parts.PlanParts.{PlanParts}
use Rattle.cpl_plan.specs.declared.words.Item.{Item}
use Rattle.cpl_plan.specs.declared.words.Item.TheVariants.{Posted}
use Rattle.coupled_loop.specs.PlanFrames.{owners_of, members_of}
use Rattle.core_sides.specs.declared.event.Ending.{Ending}
use Rattle.core_sides.specs.declared.event.Ending.TheVariants.{Done, Early}
use Rattle.core_sides.specs.declared.event.Enabled.{Enabled}
use Rattle.core_sides.specs.declared.event.Enabled.TheVariants.{Yes, CutBy, Missing, Ended}
use Rattle.core_sides.specs.declared.event.NextKind.{NextKind}
use Rattle.core_sides.specs.declared.event.NextKind.TheVariants.{PostMesh, TakeMeshes, Post, Judge, Take, End, None as NoNext}
use Rattle.core_sides.specs.declared.standing.Place.{Place}
use Rattle.core_sides.specs.declared.standing.Place.TheVariants.{Sending, Collecting, Opening, Taking, Within, Judging}
use Rattle.core_sides.specs.declared.standing.Standing.{Standing}
use Rattle.core_sides.specs.declared.search.Search.{Search}
use Rattle.core_sides.specs.declared.sides.Sides.{Sides}
use Rattle.core_sides.specs.KeptPlaces.{given_at, turn_of}
use Rattle.core_sides.specs.Searched.{searched}

module _ (sides : Sides) where
  abbrev pub kept_ended : (part : ℕ) → Bool
  kept_ended part = option_map_or (λ s. is_some s.ending) (slice_get sides.standings.items part) false

  abbrev pub kept_sent : (part : ℕ) → Bool
  kept_sent part = option_map_or (λ s. is_some s.sent) (slice_get sides.standings.items part) false

  abbrev pub kept_given : (part : ℕ) → Item → Bool
  kept_given part item = option_map_or (λ s. given_at s.place item) (slice_get sides.standings.items part) false

  abbrev pub kept_turn : (part : ℕ) → ℕ × ℕ
  kept_turn part = option_map_or (λ s. turn_of s.place) (slice_get sides.standings.items part) (0, 0)

module _ (plan : PlanParts) (sides : Sides) (part : ℕ) where
  -- whose meshes, whose items and whose posts are asked for
  abbrev pub kept_asked_at : Place → List (ℕ × Bool)
  kept_asked_at Collecting = map (λ owner. (owner, kept_sent sides owner)) (owners_of plan part)
  kept_asked_at (Taking w k) =
      if is_window plan sides.ends.items w then map (λ need. (need.owner, kept_given sides need.owner need.item)) (needs plan part w k) else []
  kept_asked_at (Judging scheme w k) = map (λ member. (member, kept_given sides member (Posted w k))) (members_of plan scheme)
  kept_asked_at _ = []

  abbrev pub kept_search_at : Place → Search
  kept_search_at place = searched (kept_ended sides) (kept_asked_at place)

  abbrev pub kept_next_kind_at : Place → NextKind
  kept_next_kind_at Sending = PostMesh
  kept_next_kind_at Collecting = TakeMeshes
  kept_next_kind_at Opening = Post
  kept_next_kind_at (Taking w k) = if is_window plan sides.ends.items w then Take else End
  kept_next_kind_at (Within w k) = Post
  kept_next_kind_at (Judging scheme w k) = Judge

  abbrev pub kept_next_kind : Standing → NextKind
  kept_next_kind standing = if is_some standing.ending then NoNext else kept_next_kind_at standing.place

  abbrev pub kept_enabled_by : (cut waits : Option ℕ) → Enabled
  kept_enabled_by (Some who) owner = CutBy who
  kept_enabled_by None (Some owner) = Missing owner (kept_turn sides owner).0 (kept_turn sides owner).1
  kept_enabled_by None None = Yes

  abbrev pub kept_enabled : Standing → Enabled
  kept_enabled standing =
      if is_some standing.ending then Ended
      else kept_enabled_by (kept_search_at standing.place).cut (kept_search_at standing.place).waits

-- an End after the last window is done, any other early
abbrev pub kept_end_at : PlanParts → Sides → Place → Ending
kept_end_at plan sides (Taking w k) = if is_window plan sides.ends.items w then Early else Done
kept_end_at plan sides _ = Early

-- What a participant waits for before it takes its inputs. After the coupling documentation's serial and parallel schemes, where partners move in step; the table is the project's own.
use Rattle.std.specs.Prelude.{ℕ, ◌-◌, Bool, true, false, ◌&&◌, not, nat_eq, List, [], length, filter, map, flat_map, if◌then◌else◌}
use Rattle.std.specs.List.{range_with_len}
use Rattle.cpl_plan.specs.PlanWords.{is_among, passes}
use Rattle.cpl_plan.specs.declared.parts.PlanParts.{PlanParts}
use Rattle.cpl_plan.specs.declared.parts.Scheme.{Scheme}
use Rattle.cpl_plan.specs.declared.parts.SchemeKind.{SchemeKind}
use Rattle.cpl_plan.specs.declared.parts.SchemeKind.TheVariants.{SerialExplicit, ParallelExplicit, SerialImplicit, ParallelImplicit, Multi}
use Rattle.cpl_plan.specs.declared.words.Need.{Need}
use Rattle.cpl_plan.specs.declared.words.Item.{Item}
use Rattle.cpl_plan.specs.declared.words.Item.TheVariants.{Completed, Posted}

-- a participant is the second of a scheme of two
abbrev pub is_second : Scheme → ℕ → Bool
is_second scheme part = passes scheme.members 1 (λ member. nat_eq member part)

-- what a member asks of each partner in window w and iteration k, by whether it is the second
abbrev pub asked : SchemeKind → Bool → (w k : ℕ) → Item
asked SerialExplicit true w k = Completed w
asked SerialExplicit false w k = Completed (w - 1)
asked ParallelExplicit _ w k = Completed (w - 1)
asked SerialImplicit true w k = Posted w k
asked SerialImplicit false w k = Completed (w - 1)
asked ParallelImplicit _ w k = Completed (w - 1)
asked Multi _ w k = Completed (w - 1)

-- the other members, by number, where there are so many participants
abbrev pub partners : (members : List ℕ) → (parts part : ℕ) → List ℕ
partners members parts part = filter (λ other. not (nat_eq other part) && is_among other members) (range_with_len 0 parts)

-- the needs for the sake of one scheme: one of each partner, and none of who is no member
abbrev pub needs_in : Scheme → (parts part w k : ℕ) → List Need
needs_in scheme parts part w k =
    if is_among part scheme.members then
    map (λ other. record { owner = other; item = asked scheme.kind (is_second scheme part) w k })
    (partners scheme.members parts part)
    else []

-- the needs of a participant for the take of window w and iteration k, scheme by scheme
abbrev pub needs_of : List Scheme → (parts part w k : ℕ) → List Need
needs_of schemes parts part w k = flat_map (λ scheme. needs_in scheme parts part w k) schemes

abbrev pub needs : PlanParts → (part w k : ℕ) → List Need
needs plan part w k = needs_of plan.schemes (length plan.parts) part w k

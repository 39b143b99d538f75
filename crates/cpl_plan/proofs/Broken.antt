-- In each broken plan what is said of it does not hold, and nothing else.
use Rattle.std.proofs.Common.{◌≡◌, ℕ, zero, suc, ◌<◌, List, [], ◌∷◌, length, map, refl, ap, sym, ◌∙◌, arith, lit<, get_or, All}
use Rattle.std.specs.Prelude.{Contains}
use Rattle.cpl_plan.specs.PlanFacts.{Fact, broken_facts, Window, EndTime, Windows, WindowsReach, Parts, Meshes, DataItems, Schemes, Exchanges, Watches, Names, PartsNamedOnce, MeshesNamedOnce, DataNamedOnce, WatchesNamedOnce, OneProvider, Dimensions, DataDeclared, DataOnce, Degrees, ProvidedDeclared, ProvidedOnce, ReceivedDeclared, ReceivedFromOthers, ReceivedOnce, WrittenOnOwnMeshes, ReadOnOwnMeshes, WrittenOnce, ReadOnce, FedOnce, MapsJoin, MapsOnce, WatchedOnOwnMeshes, FewReceived, FewWritten, FewRead, FewMaps, InAScheme, InOneGroup, MembersDeclared, MembersOnce, MembersCounted, MeetOnce, Iterations, Measures, MeasuredFirst, Limits, Accelerations, FirstStep, ByScheme, TwoMembers, Carried, Crossing, Kinds, Written, Read}
use Rattle.cpl_plan.specs.BrokenPlans.{plans_without, broken_with}
use Rattle.cpl_plan.specs.ValidPlan.{IsValidPlan}
use Rattle.cpl_plan.proofs.FactsTold.{nothing_broken}

pub as_told : (fact : Fact) → map broken_facts (plans_without fact) ≡ map (λ _. broken_with fact) (plans_without fact)
as_told Window = refl
as_told EndTime = refl
as_told Windows = refl
as_told WindowsReach = refl
as_told Parts = refl
as_told Meshes = refl
as_told DataItems = refl
as_told Schemes = refl
as_told Exchanges = refl
as_told Watches = refl
as_told Names = refl
as_told PartsNamedOnce = refl
as_told MeshesNamedOnce = refl
as_told DataNamedOnce = refl
as_told WatchesNamedOnce = refl
as_told OneProvider = refl
as_told Dimensions = refl
as_told DataDeclared = refl
as_told DataOnce = refl
as_told Degrees = refl
as_told ProvidedDeclared = refl
as_told ProvidedOnce = refl
as_told ReceivedDeclared = refl
as_told ReceivedFromOthers = refl
as_told ReceivedOnce = refl
as_told WrittenOnOwnMeshes = refl
as_told ReadOnOwnMeshes = refl
as_told WrittenOnce = refl
as_told ReadOnce = refl
as_told FedOnce = refl
as_told MapsJoin = refl
as_told MapsOnce = refl
as_told WatchedOnOwnMeshes = refl
as_told FewReceived = refl
as_told FewWritten = refl
as_told FewRead = refl
as_told FewMaps = refl
as_told InAScheme = refl
as_told InOneGroup = refl
as_told MembersDeclared = refl
as_told MembersOnce = refl
as_told MembersCounted = refl
as_told MeetOnce = refl
as_told Iterations = refl
as_told Measures = refl
as_told MeasuredFirst = refl
as_told Limits = refl
as_told Accelerations = refl
as_told FirstStep = refl
as_told ByScheme = refl
as_told TwoMembers = refl
as_told Carried = refl
as_told Crossing = refl
as_told Kinds = refl
as_told Written = refl
as_told Read = refl

pub some_plans : (fact : Fact) → 0 < length (plans_without fact)
some_plans Window = lit< tt
some_plans EndTime = lit< tt
some_plans Windows = lit< tt
some_plans WindowsReach = lit< tt
some_plans Parts = lit< tt
some_plans Meshes = lit< tt
some_plans DataItems = lit< tt
some_plans Schemes = lit< tt
some_plans Exchanges = lit< tt
some_plans Watches = lit< tt
some_plans Names = lit< tt
some_plans PartsNamedOnce = lit< tt
some_plans MeshesNamedOnce = lit< tt
some_plans DataNamedOnce = lit< tt
some_plans WatchesNamedOnce = lit< tt
some_plans OneProvider = lit< tt
some_plans Dimensions = lit< tt
some_plans DataDeclared = lit< tt
some_plans DataOnce = lit< tt
some_plans Degrees = lit< tt
some_plans ProvidedDeclared = lit< tt
some_plans ProvidedOnce = lit< tt
some_plans ReceivedDeclared = lit< tt
some_plans ReceivedFromOthers = lit< tt
some_plans ReceivedOnce = lit< tt
some_plans WrittenOnOwnMeshes = lit< tt
some_plans ReadOnOwnMeshes = lit< tt
some_plans WrittenOnce = lit< tt
some_plans ReadOnce = lit< tt
some_plans FedOnce = lit< tt
some_plans MapsJoin = lit< tt
some_plans MapsOnce = lit< tt
some_plans WatchedOnOwnMeshes = lit< tt
some_plans FewReceived = lit< tt
some_plans FewWritten = lit< tt
some_plans FewRead = lit< tt
some_plans FewMaps = lit< tt
some_plans InAScheme = lit< tt
some_plans InOneGroup = lit< tt
some_plans MembersDeclared = lit< tt
some_plans MembersOnce = lit< tt
some_plans MembersCounted = lit< tt
some_plans MeetOnce = lit< tt
some_plans Iterations = lit< tt
some_plans Measures = lit< tt
some_plans MeasuredFirst = lit< tt
some_plans Limits = lit< tt
some_plans Accelerations = lit< tt
some_plans FirstStep = lit< tt
some_plans ByScheme = lit< tt
some_plans TwoMembers = lit< tt
some_plans Carried = lit< tt
some_plans Crossing = lit< tt
some_plans Kinds = lit< tt
some_plans Written = lit< tt
some_plans Read = lit< tt

pub told_too : (fact : Fact) → Contains (broken_with fact) fact
told_too Window = (0, lit< tt, refl)
told_too EndTime = (0, lit< tt, refl)
told_too Windows = (0, lit< tt, refl)
told_too WindowsReach = (0, lit< tt, refl)
told_too Parts = (0, lit< tt, refl)
told_too Meshes = (0, lit< tt, refl)
told_too DataItems = (0, lit< tt, refl)
told_too Schemes = (0, lit< tt, refl)
told_too Exchanges = (0, lit< tt, refl)
told_too Watches = (0, lit< tt, refl)
told_too Names = (0, lit< tt, refl)
told_too PartsNamedOnce = (0, lit< tt, refl)
told_too MeshesNamedOnce = (0, lit< tt, refl)
told_too DataNamedOnce = (0, lit< tt, refl)
told_too WatchesNamedOnce = (0, lit< tt, refl)
told_too OneProvider = (0, lit< tt, refl)
told_too Dimensions = (0, lit< tt, refl)
told_too DataDeclared = (0, lit< tt, refl)
told_too DataOnce = (0, lit< tt, refl)
told_too Degrees = (0, lit< tt, refl)
told_too ProvidedDeclared = (0, lit< tt, refl)
told_too ProvidedOnce = (0, lit< tt, refl)
told_too ReceivedDeclared = (0, lit< tt, refl)
told_too ReceivedFromOthers = (0, lit< tt, refl)
told_too ReceivedOnce = (0, lit< tt, refl)
told_too WrittenOnOwnMeshes = (0, lit< tt, refl)
told_too ReadOnOwnMeshes = (0, lit< tt, refl)
told_too WrittenOnce = (0, lit< tt, refl)
told_too ReadOnce = (0, lit< tt, refl)
told_too FedOnce = (0, lit< tt, refl)
told_too MapsJoin = (0, lit< tt, refl)
told_too MapsOnce = (0, lit< tt, refl)
told_too WatchedOnOwnMeshes = (0, lit< tt, refl)
told_too FewReceived = (1, lit< tt, refl)
told_too FewWritten = (1, lit< tt, refl)
told_too FewRead = (1, lit< tt, refl)
told_too FewMaps = (0, lit< tt, refl)
told_too InAScheme = (0, lit< tt, refl)
told_too InOneGroup = (0, lit< tt, refl)
told_too MembersDeclared = (0, lit< tt, refl)
told_too MembersOnce = (0, lit< tt, refl)
told_too MembersCounted = (0, lit< tt, refl)
told_too MeetOnce = (0, lit< tt, refl)
told_too Iterations = (0, lit< tt, refl)
told_too Measures = (0, lit< tt, refl)
told_too MeasuredFirst = (0, lit< tt, refl)
told_too Limits = (0, lit< tt, refl)
told_too Accelerations = (0, lit< tt, refl)
told_too FirstStep = (0, lit< tt, refl)
told_too ByScheme = (0, lit< tt, refl)
told_too TwoMembers = (0, lit< tt, refl)
told_too Carried = (1, lit< tt, refl)
told_too Crossing = (0, lit< tt, refl)
told_too Kinds = (0, lit< tt, refl)
told_too Written = (0, lit< tt, refl)
told_too Read = (0, lit< tt, refl)

-- what is equal all along is equal at each place
along : {X Y : Type 0} (f g : X → Y) (xs : List X) → map f xs ≡ map g xs → (k : ℕ) (d : X) → k < length xs → f (get_or xs k d) ≡ g (get_or xs k d)
along f g [] same k d within = absurd (omega (arith, within))
along f g (x ∷ xs) same zero d within = cc
along f g (x ∷ xs) same (suc k) d within = let rest : map f xs ≡ map g xs = cc in along f g xs rest k d (omega (arith, within))

pub not_valid : (fact : Fact) → All (λ plan. IsValidPlan plan → ⊥) (plans_without fact)
not_valid fact k d within = λ valid.
    let told = along broken_facts (λ _. broken_with fact) (plans_without fact) (as_told fact) k d within in
    let none : broken_with fact ≡ [] = sym told ∙ nothing_broken (get_or (plans_without fact) k d) valid in
    let some = told_too fact in
    omega (arith, some.1, ap length none)

-- What a Take reads is the value that the partner posted last.
use Rattle.std.proofs.Common.{◌≡◌, ℕ, zero, suc, ◌+◌, ◌<◌, ◌≤◌, length, Bool, Option, Some, None, nat_lt, if◌then◌else◌, arith, refl}
use Rattle.std.proofs.lemmas.Option.{slice_get_past}
use Rattle.std.proofs.lemmas.Grind.{common_steps}
use Rattle.std.proofs.lemmas.Bool.Decides.{nat_tests}
use Rattle.pair_core.specs.Kept.{KeptSide, Kept, kept_of, kept_next_kind}
use Rattle.pair_core.specs.InStep.{IsKept}
use Rattle.pair_core.specs.CoreState.{PartState, History, accepted, state_after, partner_of, position_of, next_kind_of}
use Rattle.pair_core.specs.CoreStep.{needed_window, take_in, take_step}
use Rattle.pair_core.specs.StandsFor.{SideStandsFor, StandsFor}
use Rattle.pair_core.specs.TakeTurn.{kept_take}
use Rattle.pair_core.specs.declared.event.Ending.{Ending}
use Rattle.pair_core.specs.declared.event.NextKind.TheVariants.{Take as TakeNext}

-- the accepted value of a window, where a window that has one is the last
accepted-kept : (kept : KeptSide) (part : PartState) (window : ℕ) → SideStandsFor kept part → (window < kept.posts → window + 1 ≡ kept.posts) → accepted part window ≡ (if nat_lt window kept.posts then Some kept.last else None)
accepted-kept kept part window stands is_last =
    grind (arith, nat_tests, common_steps, slice_get_past, stands.last, stands.posts)

-- a participant whose Take comes next has made its initial post
posted_before_take : (windows posts : ℕ) (taken : Bool) (ending : Option Ending) → next_kind_of windows posts taken ending ≡ TakeNext → 1 ≤ posts
posted_before_take windows posts taken None next = grind (arith, nat_tests)
posted_before_take windows posts taken (Some _) next = absurd cc

-- what becomes of a Take, of two sides of which the partner's needed value is its last
take_step-kept : (p : ℕ) (own partner : KeptSide) (own_part partner_part : PartState) → SideStandsFor own own_part → SideStandsFor partner partner_part → (needed_window p own.posts < partner.posts → needed_window p own.posts + 1 ≡ partner.posts) → take_step (accepted partner_part (needed_window p (length own_part.posts))) partner_part.ending (partner_of p) (position_of (length partner_part.posts)) ≡ kept_take p own partner
take_step-kept p own partner own_part partner_part own_stands partner_stands is_last =
    rw (← own_stands.posts, ← partner_stands.posts, ← partner_stands.ending, accepted-kept partner partner_part (needed_window p own.posts) partner_stands is_last) refl

-- what becomes of a Take, by what is kept
pub take_in-kept : (windows : ℕ) (kept : Kept) (history : History) (p : ℕ) → p < 2 → IsKept kept → kept_next_kind kept p ≡ TakeNext → StandsFor windows kept history → take_in (state_after windows history) p ≡ kept_take p (kept_of kept p) (kept_of kept (partner_of p))
take_in-kept windows kept history zero participant is_kept next stands =
    let posted : 1 ≤ kept.first.posts = posted_before_take kept.windows kept.first.posts kept.first.taken kept.first.ending next in
    take_step-kept 0 kept.first kept.second _ _ stands.first stands.second (λ within. omega arith)
take_in-kept windows kept history (suc zero) participant is_kept next stands =
    let posted : 1 ≤ kept.second.posts = posted_before_take kept.windows kept.second.posts kept.second.taken kept.second.ending next in
    take_step-kept 1 kept.second kept.first _ _ stands.second stands.first (λ within. omega arith)
take_in-kept windows kept history (suc (suc p)) participant is_kept next stands = absurd (omega arith)

-- The state after one more entry, and what stands for it.
use Rattle.std.proofs.Common.{◌≡◌, ℕ, zero, suc, ◌+◌, ◌-◌, ◌<◌, ℤ, List, [], ◌∷◌, ◌++◌, length, Some, refl, ap, ◌∙◌, arith, length-append}
use Rattle.std.specs.List.{slice_get}
use Rattle.std.proofs.lemmas.List.Sums.{fold-append}
use Rattle.std.proofs.lemmas.Option.{slice_get-get_or}
use Rattle.std.proofs.Math.Seq.{get_or-append_seam}
use Rattle.pair_core.specs.Kept.{KeptSide, Kept, kept_of, kept_with, kept_next_kind, side_posted, side_taken, side_ended}
use Rattle.pair_core.specs.CoreState.{Act, Made, CutOff, Entry, PartState, History, opening, part_of, part_after, state_with, state_after}
use Rattle.pair_core.specs.CoreStep.{next_kind_in}
use Rattle.pair_core.specs.StandsFor.{SideStandsFor, StandsFor}
use Rattle.pair_core.specs.declared.event.Event.TheVariants.{Post, Take}
use Rattle.pair_core.specs.declared.event.Ending.TheVariants.{Cut}

-- the state after one more entry is the step of the state before it
pub state_after-more : (windows : ℕ) (history : History) (entry : Entry) → state_after windows (history ++ entry ∷ []) ≡ state_with windows (state_after windows history) entry
state_after-more windows history entry = fold-append (state_with windows) opening history (entry ∷ [])

-- the accepted value of the last post
pub slice_get-last : (posts : List ℤ) (value : ℤ) → slice_get (posts ++ value ∷ []) (length posts) ≡ Some value
slice_get-last posts value =
    let within : length posts < length (posts ++ value ∷ []) = omega (arith, length-append posts (value ∷ [])) in
    slice_get-get_or (posts ++ value ∷ []) (length posts) value within ∙ ap Some (get_or-append_seam posts value [] value)

-- what is kept of each participant stands for its state
pub StandsFor-at : (windows : ℕ) (kept : Kept) (history : History) (p : ℕ) → p < 2 → StandsFor windows kept history → SideStandsFor (kept_of kept p) (part_of (state_after windows history) p)
StandsFor-at windows kept history zero participant stands = stands.first
StandsFor-at windows kept history (suc zero) participant stands = stands.second
StandsFor-at windows kept history (suc (suc p)) participant stands = absurd (omega arith)

-- what is kept and the state have the same next kind
pub kept_next_kind-after : (windows : ℕ) (kept : Kept) (history : History) (p : ℕ) → p < 2 → StandsFor windows kept history → kept_next_kind kept p ≡ next_kind_in windows (state_after windows history) p
kept_next_kind-after windows kept history p participant stands =
    let side = StandsFor-at windows kept history p participant stands in
    rw (stands.windows_are, side.posts, side.taken, side.ending) refl

-- one more act of participant p, of which the new side stands for the participant after it
pub StandsFor-more : (windows : ℕ) (kept : Kept) (history : History) (p : ℕ) (side : KeptSide) (act : Act) → p < 2 → StandsFor windows kept history → SideStandsFor side (part_after windows (part_of (state_after windows history) p) act) → StandsFor windows (kept_with kept p side) (history ++ record { participant = p; act = act } ∷ [])
StandsFor-more windows kept history zero side act participant stands side_stands =
    record {
      windows_are = stands.windows_are;
      first = rw (state_after-more windows history (record { participant = 0; act = act })) side_stands;
      second = rw (state_after-more windows history (record { participant = 0; act = act })) stands.second;
    }
StandsFor-more windows kept history (suc zero) side act participant stands side_stands =
    record {
      windows_are = stands.windows_are;
      first = rw (state_after-more windows history (record { participant = 1; act = act })) stands.first;
      second = rw (state_after-more windows history (record { participant = 1; act = act })) side_stands;
    }
StandsFor-more windows kept history (suc (suc p)) side act participant stands side_stands = absurd (omega arith)

-- a participant after a post
pub SideStandsFor-post : (windows : ℕ) (side : KeptSide) (part : PartState) (value : ℤ) → SideStandsFor side part → SideStandsFor (side_posted side value) (part_after windows part (Made (Post value)))
SideStandsFor-post windows side part value stands =
    record {
      posts = omega (arith, length-append part.posts (value ∷ []), stands.posts);
      taken = refl;
      last = λ _. (let at : side.posts + 1 - 1 ≡ length part.posts = omega (arith, stands.posts) in rw at (slice_get-last part.posts value));
      ending = stands.ending;
    }

-- a participant after a Take
pub SideStandsFor-take : (windows : ℕ) (side : KeptSide) (part : PartState) → SideStandsFor side part → SideStandsFor (side_taken side) (part_after windows part (Made Take))
SideStandsFor-take windows side part stands =
    record { posts = stands.posts; taken = refl; last = stands.last; ending = stands.ending }

-- a participant after a cut
pub SideStandsFor-cut : (windows : ℕ) (side : KeptSide) (part : PartState) (who : ℕ) → SideStandsFor side part → SideStandsFor (side_ended side Cut) (part_after windows part (CutOff who))
SideStandsFor-cut windows side part who stands =
    record { posts = stands.posts; taken = stands.taken; last = stands.last; ending = refl }

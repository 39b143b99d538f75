-- A core's record stands for every legal list of events.
use Rattle.std.proofs.Common.{◌≡◌, ℕ, zero, suc, ◌+◌, ◌≤◌, ◌<◌, ◌^◌, ℤ, pos, Bool, true, false, [], ◌∷◌, ◌++◌, length, Option, Some, None, nat_lt, refl, sym, ◌∙◌, arith, append_assoc, append-nil, max, subst, if◌then◌else◌}
use Rattle.std.proofs.lemmas.Bool.{ltb-true}
use Rattle.std.proofs.lemmas.Bool.Decides.{nat_tests}
use Rattle.pair_core.specs.Kept.{KeptSide, Kept, kept_of, kept_with, kept_next_kind, side_posted, side_taken, side_ended}
use Rattle.pair_core.specs.InStep.{IsKept}
use Rattle.pair_core.specs.CoreState.{Act, Made, CutOff, History, part_of, partner_of, position_of, next_kind_of, end_at, state_after}
use Rattle.pair_core.specs.CoreStep.{Reads, next_kind_in, take_in, take_step, needed_window}
use Rattle.pair_core.specs.StandsFor.{StandsFor}
use Rattle.pair_core.specs.TakeTurn.{kept_take}
use Rattle.pair_core.specs.LegalHistory.{IsAllowedAct, IsAllowed, IsLegal}
use Rattle.pair_core.specs.declared.event.Event.TheVariants.{Post, Take, Stop, End}
use Rattle.pair_core.specs.declared.event.Ending.{Ending}
use Rattle.pair_core.specs.declared.event.Ending.TheVariants.{Faulted, Cut}
use Rattle.pair_core.specs.declared.event.NextKind.TheVariants.{Post as PostNext, Take as TakeNext}
use Rattle.pair_core.proofs.Histories.{StandsFor-at, kept_next_kind-after, StandsFor-more, SideStandsFor-post, SideStandsFor-take, SideStandsFor-cut}
use Rattle.pair_core.proofs.Takes.{take_in-kept}

-- some record that a core may hold stands for the events
abbrev pub HasCore : ℕ → History → Type 0
HasCore windows history = (kept : Kept) × IsKept kept × StandsFor windows kept history

-- a Post that comes next is the initial one, or that of a window whose input was taken
post_within : (windows posts : ℕ) (taken : Bool) (ending : Option Ending) → next_kind_of windows posts taken ending ≡ PostNext → posts ≤ windows
post_within windows posts taken None next = grind (arith, nat_tests)
post_within windows posts taken (Some _) next = absurd cc

post_taken : (windows posts : ℕ) (taken : Bool) (ending : Option Ending) → next_kind_of windows posts taken ending ≡ PostNext → 1 ≤ posts → taken ≡ true
post_taken windows posts true ending next posted = refl
post_taken windows posts false None next posted = grind (arith, nat_tests)
post_taken windows posts false (Some _) next posted = absurd cc

-- what a Take waited for, of a participant that has taken unless it has not begun
first_waited : (first second : ℕ) → (1 ≤ first → first ≤ second) → first ≤ second
first_waited zero second waited = omega arith
first_waited (suc first) second waited = waited (omega arith)

second_waited : (first second : ℕ) → (1 ≤ second → second + 1 ≤ first) → second + 1 ≤ max first 1
second_waited first zero waited = omega arith
second_waited first (suc second) waited = let ahead : suc second + 1 ≤ first = waited (omega arith) in omega arith

-- the participants stay in step over a post, a Take that reads, and an ending
IsKept-post : (kept : Kept) (p : ℕ) (value : ℤ) → p < 2 → IsKept kept → kept_next_kind kept p ≡ PostNext → IsKept (kept_with kept p (side_posted (kept_of kept p) value))
IsKept-post kept zero value participant is_kept next =
    let within : kept.first.posts ≤ kept.windows = post_within kept.windows kept.first.posts kept.first.taken kept.first.ending next in
    let waited : kept.first.posts ≤ kept.second.posts =
    first_waited _ _ (λ posted. is_kept.in_step.first_took (post_taken kept.windows kept.first.posts kept.first.taken kept.first.ending next posted)) in
    record {
      some_window = is_kept.some_window;
      windows_within = is_kept.windows_within;
      first_within = omega arith;
      second_within = is_kept.second_within;
      in_step = record {
        first_ahead = omega arith;
        second_ahead = omega arith;
        first_took = λ false_is. absurd cc;
        second_took = λ taken. (let ahead : kept.second.posts + 1 ≤ kept.first.posts = is_kept.in_step.second_took taken in omega arith);
      };
    }
IsKept-post kept (suc zero) value participant is_kept next =
    let within : kept.second.posts ≤ kept.windows = post_within kept.windows kept.second.posts kept.second.taken kept.second.ending next in
    let waited : kept.second.posts + 1 ≤ max kept.first.posts 1 =
    second_waited _ _ (λ posted. is_kept.in_step.second_took (post_taken kept.windows kept.second.posts kept.second.taken kept.second.ending next posted)) in
    record {
      some_window = is_kept.some_window;
      windows_within = is_kept.windows_within;
      first_within = is_kept.first_within;
      second_within = omega arith;
      in_step = record {
        first_ahead = omega arith;
        second_ahead = omega arith;
        first_took = λ taken. (let behind : kept.first.posts ≤ kept.second.posts = is_kept.in_step.first_took taken in omega arith);
        second_took = λ false_is. absurd cc;
      };
    }
IsKept-post kept (suc (suc p)) value participant is_kept next = absurd (omega arith)

-- a Take that reads has what it needs
given_of : (given : Bool) (last value : ℤ) (ending : Option Ending) (partner : ℕ) (at : ℕ × ℕ) → take_step (if given then Some last else None) ending partner at ≡ Reads value → given ≡ true
given_of true last value ending partner at reads = refl
given_of false last value (Some _) partner at reads = absurd cc
given_of false last value None partner at reads = absurd cc

reads_given : (p : ℕ) (own partner : KeptSide) (value : ℤ) → kept_take p own partner ≡ Reads value → needed_window p own.posts < partner.posts
reads_given p own partner value reads =
    ltb-true (needed_window p own.posts) partner.posts
    (given_of (nat_lt (needed_window p own.posts) partner.posts) partner.last value partner.ending (partner_of p) (position_of partner.posts) reads)

IsKept-take : (kept : Kept) (p : ℕ) → p < 2 → IsKept kept → needed_window p (kept_of kept p).posts < (kept_of kept (partner_of p)).posts → IsKept (kept_with kept p (side_taken (kept_of kept p)))
IsKept-take kept zero participant is_kept given =
    record {
      some_window = is_kept.some_window;
      windows_within = is_kept.windows_within;
      first_within = is_kept.first_within;
      second_within = is_kept.second_within;
      in_step = record {
        first_ahead = is_kept.in_step.first_ahead;
        second_ahead = is_kept.in_step.second_ahead;
        first_took = λ _. omega arith;
        second_took = is_kept.in_step.second_took;
      };
    }
IsKept-take kept (suc zero) participant is_kept given =
    record {
      some_window = is_kept.some_window;
      windows_within = is_kept.windows_within;
      first_within = is_kept.first_within;
      second_within = is_kept.second_within;
      in_step = record {
        first_ahead = is_kept.in_step.first_ahead;
        second_ahead = is_kept.in_step.second_ahead;
        first_took = is_kept.in_step.first_took;
        second_took = λ _. omega arith;
      };
    }
IsKept-take kept (suc (suc p)) participant is_kept given = absurd (omega arith)

IsKept-ended : (kept : Kept) (p : ℕ) (ending : Ending) → p < 2 → IsKept kept → IsKept (kept_with kept p (side_ended (kept_of kept p) ending))
IsKept-ended kept zero ending participant is_kept =
    record {
      some_window = is_kept.some_window;
      windows_within = is_kept.windows_within;
      first_within = is_kept.first_within;
      second_within = is_kept.second_within;
      in_step = record { first_ahead = is_kept.in_step.first_ahead; second_ahead = is_kept.in_step.second_ahead; first_took = is_kept.in_step.first_took; second_took = is_kept.in_step.second_took };
    }
IsKept-ended kept (suc zero) ending participant is_kept =
    record {
      some_window = is_kept.some_window;
      windows_within = is_kept.windows_within;
      first_within = is_kept.first_within;
      second_within = is_kept.second_within;
      in_step = record { first_ahead = is_kept.in_step.first_ahead; second_ahead = is_kept.in_step.second_ahead; first_took = is_kept.in_step.first_took; second_took = is_kept.in_step.second_took };
    }
IsKept-ended kept (suc (suc p)) ending participant is_kept = absurd (omega arith)

-- one more allowed act of participant p
HasCore-act : (windows : ℕ) (history : History) (kept : Kept) (p : ℕ) (act : Act) → p < 2 → IsKept kept → StandsFor windows kept history → IsAllowedAct (next_kind_in windows (state_after windows history) p) (take_in (state_after windows history) p) act → HasCore windows (history ++ record { participant = p; act = act } ∷ [])
HasCore-act windows history kept p (Made (Post value)) participant is_kept stands allowed = (
  kept_with kept p (side_posted (kept_of kept p) value),
  IsKept-post kept p value participant is_kept (kept_next_kind-after windows kept history p participant stands ∙ allowed),
  StandsFor-more windows kept history p (side_posted (kept_of kept p) value) (Made (Post value)) participant stands
      (SideStandsFor-post windows (kept_of kept p) (part_of (state_after windows history) p) value (StandsFor-at windows kept history p participant stands)),
)
HasCore-act windows history kept p (Made Take) participant is_kept stands allowed =
    let next : kept_next_kind kept p ≡ TakeNext = kept_next_kind-after windows kept history p participant stands ∙ allowed.0 in (
      kept_with kept p (side_taken (kept_of kept p)),
      IsKept-take kept p participant is_kept
          (reads_given p (kept_of kept p) (kept_of kept (partner_of p)) (allowed.1.0)
          (sym (take_in-kept windows kept history p participant is_kept next stands) ∙ allowed.1.1)),
      StandsFor-more windows kept history p (side_taken (kept_of kept p)) (Made Take) participant stands
          (SideStandsFor-take windows (kept_of kept p) (part_of (state_after windows history) p) (StandsFor-at windows kept history p participant stands)),
    )
HasCore-act windows history kept p (Made (Stop code)) participant is_kept stands allowed =
    let part = part_of (state_after windows history) p in
    let ending : Ending = Faulted ((position_of (length part.posts)).0) code in
    let side = StandsFor-at windows kept history p participant stands in (
      kept_with kept p (side_ended (kept_of kept p) ending),
      IsKept-ended kept p ending participant is_kept,
      StandsFor-more windows kept history p (side_ended (kept_of kept p) ending) (Made (Stop code)) participant stands
          (record { posts = side.posts; taken = side.taken; last = side.last; ending = refl }),
    )
HasCore-act windows history kept p (Made End) participant is_kept stands allowed =
    let part = part_of (state_after windows history) p in
    let ending : Ending = end_at (next_kind_of windows (length part.posts) part.taken part.ending) in
    let side = StandsFor-at windows kept history p participant stands in (
      kept_with kept p (side_ended (kept_of kept p) ending),
      IsKept-ended kept p ending participant is_kept,
      StandsFor-more windows kept history p (side_ended (kept_of kept p) ending) (Made End) participant stands
          (record { posts = side.posts; taken = side.taken; last = side.last; ending = refl }),
    )
HasCore-act windows history kept p (CutOff who) participant is_kept stands allowed = (
  kept_with kept p (side_ended (kept_of kept p) Cut),
  IsKept-ended kept p Cut participant is_kept,
  StandsFor-more windows kept history p (side_ended (kept_of kept p) Cut) (CutOff who) participant stands
      (SideStandsFor-cut windows (kept_of kept p) (part_of (state_after windows history) p) who (StandsFor-at windows kept history p participant stands)),
)

-- the events after those that a core stands for
HasCore-from : (windows : ℕ) (done rest : History) → IsLegal windows (done ++ rest) → HasCore windows done → HasCore windows (done ++ rest)
HasCore-from windows done [] legal core = rw append-nil core
HasCore-from windows done (entry ∷ rest) legal (kept, is_kept, stands) =
    let allowed : IsAllowed windows (state_after windows done) entry = legal done rest entry refl in
    let joined : (done ++ entry ∷ []) ++ rest ≡ done ++ entry ∷ rest = append_assoc done (entry ∷ []) rest in
    subst (HasCore windows) joined
    (HasCore-from windows (done ++ entry ∷ []) rest (subst (IsLegal windows) (sym joined) legal)
    (HasCore-act windows done kept entry.participant entry.act allowed.participant is_kept stands allowed.act))

-- every legal list of events has a core that stands for it
pub law : (windows : ℕ) (history : History) → 1 ≤ windows → windows ≤ 10 ^ 6 → IsLegal windows history → HasCore windows history
law windows history some_window windows_within legal =
    let side : KeptSide = record { posts = 0; taken = false; last = pos 0; ending = None } in
    HasCore-from windows [] history legal (
      record { windows = windows; first = side; second = side },
      record {
        some_window = some_window;
        windows_within = windows_within;
        first_within = omega arith;
        second_within = omega arith;
        in_step = record { first_ahead = omega arith; second_ahead = omega arith; first_took = λ _. omega arith; second_took = λ false_is. absurd cc };
      },
      record {
        windows_are = refl;
        first = record { posts = refl; taken = refl; last = λ positive. absurd (omega arith); ending = refl };
        second = record { posts = refl; taken = refl; last = λ positive. absurd (omega arith); ending = refl };
      },
    )

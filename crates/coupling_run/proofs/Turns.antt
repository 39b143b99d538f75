-- The turn of a participant, in the core's state and in the loop: what a Take reads is the loop's input, and what
-- follows it is the loop's turn.
use Rattle.std.proofs.Common.{◌≡◌, ℕ, zero, suc, ◌+◌, ◌<◌, ◌≤◌, ℤ, pos, [], ◌∷◌, ◌++◌, length, Option, Some, None, true, false, IsTrue, is_some, ◌||◌, rules, refl, sym, ap, subst, ◌∙◌, arith, length-append}
use Rattle.std.specs.List.{slice_index_or}
use Rattle.std.proofs.lemmas.Option.{get_or_from_slice_get}
use Rattle.std.proofs.Math.Nat.{add-sub_cancel}
use Rattle.pair_core.specs.CoreState.{Act, Made, CutOff, CoreState, PartState, History, partner_of, part_of, part_after, state_with, state_after, accepted}
use Rattle.pair_core.specs.CoreStep.{entry_in, position_in, needed_window, take_in, take_step, take_act}
use Rattle.pair_core.specs.Kept.{Kept, kept_of}
use Rattle.pair_core.specs.StandsFor.{StandsFor}
use Rattle.pair_core.proofs.Histories.{state_after-more, StandsFor-at}
use Rattle.pair_core.specs.declared.event.Event.TheVariants.{Post, Take, Stop}
use Rattle.pair_core.specs.declared.event.Ending.{Ending}
use Rattle.solver_trait.specs.Behaviour.{Behaviour}
use Rattle.coupling_run.specs.CoupledLoop.{turn, turn_on, after_solve, fault_in}
use Rattle.coupling_run.specs.InputWave.{input_wave}
use Rattle.coupling_run.specs.Solve.{Solved, reaches, fails, solve}
use Rattle.coupling_run.specs.Turn.{needed_value, wave_read, member_of, Remembers, IsAtTurn, SolveLeaves, HasSolved, Turned}
use Rattle.coupling_run.specs.declared.turn.Tally.{Tally}

-- an entry changes its own participant
pub part_of-own : (windows p : ℕ) (state : CoreState) (act : Act) → p < 2 → part_of (state_with windows state (record { participant = p; act = act })) p ≡ part_after windows (part_of state p) act
part_of-own windows zero state act h = refl
part_of-own windows (suc zero) state act h = refl
part_of-own windows (suc (suc p)) state act h = absurd (omega arith)

-- and leaves the other as it is
pub part_of-partner : (windows p : ℕ) (state : CoreState) (act : Act) → p < 2 → part_of (state_with windows state (record { participant = p; act = act })) (partner_of p) ≡ part_of state (partner_of p)
part_of-partner windows zero state act h = refl
part_of-partner windows (suc zero) state act h = refl
part_of-partner windows (suc (suc p)) state act h = absurd (omega arith)

-- without the needed value there is no input
input_wave-missing : (p window : ℕ) (partner : PartState) → p < 2 → accepted partner (needed_window p window) ≡ None → input_wave p partner.posts window ≡ None
input_wave-missing zero window partner h e = rw e
input_wave-missing (suc zero) window partner h e = rw e
input_wave-missing (suc (suc p)) window partner h e = absurd (omega arith)

-- with it the input is the wave that is read
input_wave-given : (p : ℕ) (own partner : PartState) (before value : ℤ) → p < 2 → accepted partner (needed_window p (length own.posts)) ≡ Some value → Remembers p own partner before → input_wave p partner.posts (length own.posts) ≡ Some (wave_read p before value)
input_wave-given zero own partner before value h e remembers = rw e
input_wave-given (suc zero) own partner before value h e remembers = rw e (ap (λ (x : ℤ). Some (record { at_start = x; at_end = value })) (sym (remembers (omega arith))))
input_wave-given (suc (suc p)) own partner before value h e remembers = absurd (omega arith)

-- the value that the second read is the one from which its next window starts
remembers-next : (p window : ℕ) (partner : PartState) (value : ℤ) → p < 2 → accepted partner (needed_window p window) ≡ Some value → 1 ≤ p → value ≡ slice_index_or partner.posts window (pos 0)
remembers-next zero window partner value h e second = absurd (omega arith)
remembers-next (suc zero) window partner value h e second = sym (get_or_from_slice_get partner.posts window value (pos 0) e)
remembers-next (suc (suc p)) window partner value h e second = absurd (omega arith)

-- a Take of which the partner gave nothing and ended is cut
take_act-cut : (who : ℕ) (at : ℕ × ℕ) (ending : Option Ending) → IsTrue (is_some {T = ℤ} None || is_some ending) → (by : ℕ) × (take_act (take_step None ending who at) ≡ CutOff by)
take_act-cut who at None h = absurd (search rules)
take_act-cut who at (Some e) h = (who, refl)

module _ {State : Type 0} (solver : Behaviour State) (p : ℕ) (own partner : PartState) (state : State) (tally : Tally) (participant : p < 2) (running : own.ending ≡ None) where
  -- a cut is the turn without an input
  turn-cut : (windows who : ℕ) → accepted partner (needed_window p (length own.posts)) ≡ None → member_of state tally (part_after windows own (CutOff who)) ≡ turn solver p (length own.posts) partner.posts (member_of state tally own)
  turn-cut windows who missing = rw (running, input_wave-missing p (length own.posts) partner participant missing)

  -- a turn with an input is its solve
  turn-solve : (value : ℤ) → accepted partner (needed_window p (length own.posts)) ≡ Some value → Remembers p own partner tally.before → turn solver p (length own.posts) partner.posts (member_of state tally own) ≡ turn_on solver p (length own.posts) (member_of state tally own) (Some (wave_read p tally.before value))
  turn-solve value given remembers = rw (running, input_wave-given p own partner tally.before value participant given remembers)

-- the participants after one more entry
module _ (windows : ℕ) (h : History) (p : ℕ) (act : Act) (participant : p < 2) where
  own_after : part_of (state_after windows (h ++ record { participant = p; act = act } ∷ [])) p ≡ part_after windows (part_of (state_after windows h) p) act
  own_after = rw (state_after-more windows h (record { participant = p; act = act })) (part_of-own windows p (state_after windows h) act participant)

  partner_after : part_of (state_after windows (h ++ record { participant = p; act = act } ∷ [])) (partner_of p) ≡ part_of (state_after windows h) (partner_of p)
  partner_after = rw (state_after-more windows h (record { participant = p; act = act })) (part_of-partner windows p (state_after windows h) act participant)

-- an act in the place of the entry's
same_entry : (windows : ℕ) (core : Kept) (h : History) (p : ℕ) (act other : Act) → act ≡ other → StandsFor windows core (h ++ record { participant = p; act = act } ∷ []) → StandsFor windows core (h ++ record { participant = p; act = other } ∷ [])
same_entry windows core h p act other same stands = rw (← same) stands

-- a Take without its input
pub turned-cut : {State : Type 0} (solver : Behaviour State) (windows : ℕ) (h : History) (core : Kept) (p : ℕ) (state : State) (tally : Tally) → p < 2 → (part_of (state_after windows h) p).ending ≡ None → needed_value (state_after windows h) p ≡ None → IsAtTurn windows p (state_after windows h) tally.before → StandsFor windows core (h ++ entry_in (state_after windows h) p Take ∷ []) → Turned solver windows h core p state tally state tally
turned-cut solver windows h core p state tally participant running missing at_turn stands =
    let s = state_after windows h in
    let own = part_of s p in
    let partner = part_of s (partner_of p) in
    let answered = rw missing at at_turn.answered in
    let (by, cut) = take_act-cut (partner_of p) (position_in s (partner_of p)) partner.ending answered in
    let act_is : take_act (take_in s p) ≡ CutOff by = rw missing cut in
    let history = h ++ record { participant = p; act = CutOff by } ∷ [] in
    let own_is = own_after windows h p (CutOff by) participant in (
      history,
      same_entry windows core h p _ _ act_is stands,
      record {
        turned = rw own_is (turn-cut solver p own partner state tally participant running windows by missing);
        partner = partner_after windows h p (CutOff by) participant;
        untaken = λ e. absurd (let f = rw own_is at e in cc);
        remembers = λ e. absurd (let f = rw own_is at e in cc);
      },
    )

-- a solve that goes on
turned-reaches : {State : Type 0} (solver : Behaviour State) (windows : ℕ) (h : History) (core : Kept) (p : ℕ) (state reached : State) (tally : Tally) (input value : ℤ) → p < 2 → (part_of (state_after windows h) p).ending ≡ None → needed_value (state_after windows h) p ≡ Some input → IsAtTurn windows p (state_after windows h) tally.before → solve solver state (wave_read p tally.before input) ≡ reaches reached value → StandsFor windows core ((h ++ record { participant = p; act = Made Take } ∷ []) ++ record { participant = p; act = Made (Post value) } ∷ []) → Turned solver windows h core p state tally reached (record tally { before = input; steps = tally.steps + 1 })
turned-reaches solver windows h core p state reached tally input value participant running given at_turn solved stands =
    let s = state_after windows h in
    let own = part_of s p in
    let partner = part_of s (partner_of p) in
    let taken = h ++ record { participant = p; act = Made Take } ∷ [] in
    let posted = taken ++ record { participant = p; act = Made (Post value) } ∷ [] in
    let own_taken = own_after windows h p (Made Take) participant in
    let own_posted = own_after windows taken p (Made (Post value)) participant in
    let own_is : part_of (state_after windows posted) p ≡ record { posts = own.posts ++ value ∷ []; taken = false; ending = own.ending } = rw own_taken at own_posted in
    let partner_is : part_of (state_after windows posted) (partner_of p) ≡ partner = partner_after windows taken p (Made (Post value)) participant ∙ partner_after windows h p (Made Take) participant in (
      posted,
      stands,
      record {
        turned = rw own_is (sym (turn-solve solver p own partner state tally participant running input given at_turn.remembers ∙ ap (after_solve p (length own.posts) (member_of state tally own)) solved));
        partner = partner_is;
        untaken = λ e. rw own_is refl;
        remembers = λ e second. rw (own_is, partner_is, length-append, add-sub_cancel) (remembers-next p (length own.posts) partner input participant given second);
      },
    )

-- a solve that faults
turned-fails : {State : Type 0} (solver : Behaviour State) (windows : ℕ) (h : History) (core : Kept) (p : ℕ) (state : State) (tally : Tally) (input : ℤ) (code : ℕ) → p < 2 → (part_of (state_after windows h) p).ending ≡ None → needed_value (state_after windows h) p ≡ Some input → IsAtTurn windows p (state_after windows h) tally.before → solve solver state (wave_read p tally.before input) ≡ fails code → StandsFor windows core ((h ++ record { participant = p; act = Made Take } ∷ []) ++ record { participant = p; act = Made (Stop code) } ∷ []) → Turned solver windows h core p state tally state (record tally { fault = Some (fault_in p (length (part_of (state_after windows (h ++ record { participant = p; act = Made Take } ∷ [])) p).posts) code) })
turned-fails solver windows h core p state tally input code participant running given at_turn solved stands =
    let s = state_after windows h in
    let own = part_of s p in
    let partner = part_of s (partner_of p) in
    let taken = h ++ record { participant = p; act = Made Take } ∷ [] in
    let stopped = taken ++ record { participant = p; act = Made (Stop code) } ∷ [] in
    let own_taken = own_after windows h p (Made Take) participant in
    let own_stopped = own_after windows taken p (Made (Stop code)) participant in
    let partner_is : part_of (state_after windows stopped) (partner_of p) ≡ partner = partner_after windows taken p (Made (Stop code)) participant ∙ partner_after windows h p (Made Take) participant in (
      stopped,
      stands,
      record {
        turned = rw (own_stopped, own_taken) (sym (turn-solve solver p own partner state tally participant running input given at_turn.remembers ∙ ap (after_solve p (length own.posts) (member_of state tally own)) solved));
        partner = partner_is;
        untaken = λ e. absurd (let f = rw own_stopped at e in cc);
        remembers = λ e. absurd (let f = rw own_stopped at e in cc);
      },
    )

-- a Take with its input, and the solve after it
pub turned-solved : {State : Type 0} (solver : Behaviour State) (windows : ℕ) (h : History) (core : Kept) (p : ℕ) (state next : State) (tally after : Tally) (input : ℤ) → p < 2 → (part_of (state_after windows h) p).ending ≡ None → needed_value (state_after windows h) p ≡ Some input → IsAtTurn windows p (state_after windows h) tally.before → HasSolved solver windows (h ++ entry_in (state_after windows h) p Take ∷ []) core p state tally next after input → Turned solver windows h core p state tally next after
turned-solved {State} solver windows h core p state next tally after input participant running given at_turn has_solved =
    let taken = h ++ record { participant = p; act = Made Take } ∷ [] in
    let act_is : take_act (take_in (state_after windows h) p) ≡ Made Take = rw given refl in
    let solved : HasSolved solver windows taken core p state tally next after input =
    subst (λ (act : Act). HasSolved solver windows (h ++ record { participant = p; act = act } ∷ []) core p state tally next after input) act_is has_solved in
    let by_result : (r : Solved State) → solve solver state (wave_read p tally.before input) ≡ r → SolveLeaves windows taken core p state tally next after input r → Turned solver windows h core p state tally next after =
    λ r. elim r as (λ r. solve solver state (wave_read p tally.before input) ≡ r → SolveLeaves windows taken core p state tally next after input r → Turned solver windows h core p state tally next after) [
      | reaches reached value ↦ λ is leaves. rw (leaves.1, leaves.2) (turned-reaches solver windows h core p state reached tally input value participant running given at_turn is leaves.0)
      | fails code ↦ λ is leaves. rw (leaves.1, leaves.2) (turned-fails solver windows h core p state tally input code participant running given at_turn is leaves.0)
    ] in
    by_result _ refl solved

-- what a core keeps of a participant that has not ended
pub running_in : (windows : ℕ) (kept : Kept) (h : History) (p : ℕ) → p < 2 → StandsFor windows kept h → (kept_of kept p).ending ≡ None → (part_of (state_after windows h) p).ending ≡ None
running_in windows kept h p participant stands running = sym (StandsFor-at windows kept h p participant stands).ending ∙ running

-- a participant that has ended has no turn
pub turned-ended : {State : Type 0} (solver : Behaviour State) (windows : ℕ) (h : History) (core : Kept) (p : ℕ) (state : State) (tally : Tally) → is_some (part_of (state_after windows h) p).ending ≡ true → StandsFor windows core h → Turned solver windows h core p state tally state tally
turned-ended solver windows h core p state tally ended stands = (
  h,
  stands,
  record {
    turned = rw ended refl;
    partner = refl;
    untaken = λ e. absurd (let f = rw e at ended in cc);
    remembers = λ e. absurd (let f = rw e at ended in cc);
  },
)

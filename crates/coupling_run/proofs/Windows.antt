-- The windows of the driver, one after another, beside those of the loop.
use Rattle.std.proofs.Common.{◌≡◌, ℕ, zero, suc, ◌+◌, ◌-◌, ◌<◌, ◌≤◌, ℤ, pos, List, [], ◌∷◌, length, Option, Some, None, Bool, true, false, IsTrue, is_some, ◌||◌, refl, sym, ap, subst, ◌∙◌, arith, length-append, add-zero, add-suc}
use Rattle.std.specs.List.{slice_get, slice_index_or}
use Rattle.std.proofs.lemmas.Bool.{or_left, or_right}
use Rattle.std.proofs.lemmas.List.{get_or_append_left}
use Rattle.std.proofs.lemmas.Option.{slice_get-get_or}
use Rattle.pair_core.specs.CoreState.{CoreState, PartState}
use Rattle.pair_core.specs.declared.event.Ending.{Ending}
use Rattle.solver_trait.specs.Behaviour.{Behaviour}
use Rattle.coupling_run.specs.CoupledLoop.{Member, Coupled, turn, turn_on, after_solve, coupled_window, coupled_loop}
use Rattle.coupling_run.specs.InputWave.{InputWave, input_wave}
use Rattle.coupling_run.specs.Solve.{Solved, reaches, fails, solve}
use Rattle.coupling_run.specs.Turn.{member_of, ComesToTurn, HasTurned}
use Rattle.coupling_run.specs.declared.fault.Fault.{Fault}
use Rattle.coupling_run.specs.declared.turn.Tally.{Tally}

-- a participant that runs on after its turn ran before it, and has given one value more
after_solve-grows : {State : Type 0} (p window : ℕ) (m : Member State) (r : Solved State) → (after_solve p window m r).has_stopped ≡ false → length (after_solve p window m r).given ≡ length m.given + 1
after_solve-grows p window m (reaches state value) runs = length-append m.given (value ∷ [])
after_solve-grows p window m (fails code) runs = absurd cc

turn_on-grows : {State : Type 0} (solver : Behaviour State) (p window : ℕ) (m : Member State) (i : Option InputWave) → (turn_on solver p window m i).has_stopped ≡ false → length (turn_on solver p window m i).given ≡ length m.given + 1
turn_on-grows solver p window m None runs = absurd cc
turn_on-grows solver p window m (Some wave) runs = after_solve-grows p window m (solve solver m.state wave) runs

turn-grows_by : {State : Type 0} (solver : Behaviour State) (p window : ℕ) (given : List ℤ) (state : State) (own : List ℤ) (stopped : Bool) (steps : ℕ) (fault : Option Fault) → let m : Member State = record { state = state; given = own; has_stopped = stopped; steps = steps; fault = fault } in (turn solver p window given m).has_stopped ≡ false → (stopped ≡ false) × (length (turn solver p window given m).given ≡ length own + 1)
turn-grows_by solver p window given state own true steps fault runs = absurd cc
turn-grows_by solver p window given state own false steps fault runs =
    (refl, turn_on-grows solver p window (record { state = state; given = own; has_stopped = false; steps = steps; fault = fault }) (input_wave p given window) runs)

pub turn-grows : {State : Type 0} (solver : Behaviour State) (p window : ℕ) (given : List ℤ) (m : Member State) → (turn solver p window given m).has_stopped ≡ false → (m.has_stopped ≡ false) × (length (turn solver p window given m).given ≡ length m.given + 1)
turn-grows solver p window given m = turn-grows_by solver p window given m.state m.given m.has_stopped m.steps m.fault

-- a turn keeps what a participant has given
after_solve-keeps : {State : Type 0} (p window n : ℕ) (m : Member State) (r : Solved State) → n < length m.given → slice_index_or (after_solve p window m r).given n (pos 0) ≡ slice_index_or m.given n (pos 0)
after_solve-keeps p window n m (reaches state value) within = get_or_append_left m.given (value ∷ []) (pos 0) n within
after_solve-keeps p window n m (fails code) within = refl

turn_on-keeps : {State : Type 0} (solver : Behaviour State) (p window n : ℕ) (m : Member State) (i : Option InputWave) → n < length m.given → slice_index_or (turn_on solver p window m i).given n (pos 0) ≡ slice_index_or m.given n (pos 0)
turn_on-keeps solver p window n m None within = refl
turn_on-keeps solver p window n m (Some wave) within = after_solve-keeps p window n m (solve solver m.state wave) within

turn-keeps_by : {State : Type 0} (solver : Behaviour State) (p window n : ℕ) (given : List ℤ) (state : State) (own : List ℤ) (stopped : Bool) (steps : ℕ) (fault : Option Fault) → (stopped ≡ false → n < length own) → slice_index_or (turn solver p window given (record { state = state; given = own; has_stopped = stopped; steps = steps; fault = fault })).given n (pos 0) ≡ slice_index_or own n (pos 0)
turn-keeps_by solver p window n given state own true steps fault within = refl
turn-keeps_by solver p window n given state own false steps fault within =
    turn_on-keeps solver p window n (record { state = state; given = own; has_stopped = false; steps = steps; fault = fault }) (input_wave p given window) (within refl)

pub turn-keeps : {State : Type 0} (solver : Behaviour State) (p window n : ℕ) (given : List ℤ) (m : Member State) → (m.has_stopped ≡ false → n < length m.given) → slice_index_or (turn solver p window given m).given n (pos 0) ≡ slice_index_or m.given n (pos 0)
turn-keeps solver p window n given m = turn-keeps_by solver p window n given m.state m.given m.has_stopped m.steps m.fault

-- the window of a turn counts only for a participant that runs
turn-window_by : {State : Type 0} (solver : Behaviour State) (p window other : ℕ) (given : List ℤ) (state : State) (own : List ℤ) (stopped : Bool) (steps : ℕ) (fault : Option Fault) → let m : Member State = record { state = state; given = own; has_stopped = stopped; steps = steps; fault = fault } in (stopped ≡ false → window ≡ other) → turn solver p window given m ≡ turn solver p other given m
turn-window_by solver p window other given state own true steps fault same = refl
turn-window_by solver p window other given state own false steps fault same =
    ap (λ w. turn solver p w given (record { state = state; given = own; has_stopped = false; steps = steps; fault = fault })) (same refl)

pub turn-window : {State : Type 0} (solver : Behaviour State) (p window other : ℕ) (given : List ℤ) (m : Member State) → (m.has_stopped ≡ false → window ≡ other) → turn solver p window given m ≡ turn solver p other given m
turn-window solver p window other given m = turn-window_by solver p window other given m.state m.given m.has_stopped m.steps m.fault

same_pair : {First Second : Type 0} (x x' : Member First) (y y' : Member Second) → x ≡ x' → y ≡ y' → record { first = x; second = y } ≡ (let pair : Coupled First Second = record { first = x'; second = y' } in pair)
same_pair x x' y y' e f = rw (e, f) refl

-- what is needed is there, or the partner has ended
answered_by : (needed : ℕ) (posts : List ℤ) (ending : Option Ending) → (ending ≡ None → needed < length posts) → IsTrue (is_some (slice_get posts needed) || is_some ending)
answered_by needed posts None within = or_left (is_some (slice_get posts needed)) (is_some {T = Ending} None) (rw (slice_get-get_or posts needed (pos 0) (within refl)) refl)
answered_by needed posts (Some e) within = or_right (is_some (slice_get posts needed)) true refl

running_from : (o : Option Ending) → is_some o ≡ false → o ≡ None
running_from None h = refl
running_from (Some e) h = absurd cc

running_is : (o : Option Ending) → o ≡ None → is_some o ≡ false
running_is o h = rw h refl

-- a participant that runs has given the values of windows 0 to n, and has taken nothing since
pub record IsInPlace (n : ℕ) (part : PartState) : Type 0 where
  pub posted : length part.posts ≡ n + 1
  pub untaken : part.taken ≡ false

-- n windows are over: the participants are those of the loop
pub record Progress {First Second : Type 0} (first : Behaviour First) (second : Behaviour Second) (start : Coupled First Second) (n : ℕ) (state : CoreState) (both : Coupled First Second) (remembered : ℤ) : Type 0 where
  pub loop : both ≡ coupled_loop first second start n
  pub first_place : state.first.ending ≡ None → IsInPlace n state.first
  pub second_place : state.second.ending ≡ None → IsInPlace n state.second
  pub remembers : state.second.ending ≡ None → remembered ≡ slice_index_or state.first.posts n (pos 0)

module _ {First Second : Type 0} (first : Behaviour First) (second : Behaviour Second) (start : Coupled First Second) (windows n : ℕ) (state : CoreState) (a : First) (b : Second) (a_tally b_tally : Tally) (left : n < windows) (progress : Progress first second start n state (record { first = member_of a a_tally state.first; second = member_of b b_tally state.second }) b_tally.before) where
  -- the first comes to its turn
  pub first_ready : (before : ℤ) → ComesToTurn windows 0 state before
  first_ready before running =
      let place = progress.first_place running in
      record {
        posted = omega (arith, place.posted);
        within = omega (arith, place.posted);
        untaken = place.untaken;
        answered = answered_by (length state.first.posts - 1) state.second.posts state.second.ending (λ e. omega (arith, place.posted, (progress.second_place e).posted));
        remembers = λ h. absurd (omega arith);
      }

  module _ (next : CoreState) (a' : First) (a_tally' : Tally) (turned : HasTurned first 0 state (member_of a a_tally state.first) next (member_of a' a_tally' next.first) a_tally'.before) where
    -- the first that runs on has given the value of this window
    first_gave : next.first.ending ≡ None → length next.first.posts ≡ n + 2
    first_gave running =
        let runs : (member_of a' a_tally' next.first).has_stopped ≡ false = running_is next.first.ending running in
        let grows = turn-grows first 0 (length state.first.posts) state.second.posts (member_of a a_tally state.first) (ap (λ (m : Member First). m.has_stopped) (sym turned.turned) ∙ runs) in
        let place = progress.first_place (running_from state.first.ending grows.0) in
        let given = ap (λ (m : Member First). length m.given) turned.turned in
        omega (arith, place.posted, grows.1, given)

    -- then the second comes to its turn
    pub second_ready : ComesToTurn windows 1 next b_tally.before
    second_ready running =
        let still : state.second.ending ≡ None = ap (λ (part : PartState). part.ending) (sym turned.partner) ∙ running in
        let place = progress.second_place still in
        let same = ap (λ (part : PartState). length part.posts) turned.partner in
        let kept = turn-keeps first 0 (length state.first.posts) n state.second.posts (member_of a a_tally state.first) (λ runs. omega (arith, (progress.first_place (running_from state.first.ending runs)).posted)) in
        let given = ap (λ (m : Member First). slice_index_or m.given n (pos 0)) turned.turned in
        let at : length next.second.posts - 1 ≡ n = omega (arith, place.posted, same) in
        record {
          posted = omega (arith, place.posted, same);
          within = omega (arith, place.posted, same);
          untaken = ap (λ (part : PartState). part.taken) turned.partner ∙ place.untaken;
          answered = answered_by (length next.second.posts) next.first.posts next.first.ending (λ e. omega (arith, first_gave e, place.posted, same));
          remembers = λ h. rw at (progress.remembers still ∙ sym (given ∙ kept));
        }

    -- both turns make a window of the loop
    pub window_done : (last : CoreState) (b' : Second) (b_tally' : Tally) → HasTurned second 1 next (member_of b b_tally next.second) last (member_of b' b_tally' last.second) b_tally'.before → Progress first second start (suc n) last (record { first = member_of a' a_tally' last.first; second = member_of b' b_tally' last.second }) b_tally'.before
    window_done last b' b_tally' turned_2 =
        let same_first : last.first ≡ next.first = turned_2.partner in
        let same_second : next.second ≡ state.second = turned.partner in
        let m = member_of a a_tally state.first in
        let k = member_of b b_tally state.second in
        let first_loop : member_of a' a_tally' next.first ≡ turn first 0 (suc n) state.second.posts m =
        turned.turned ∙ turn-window first 0 (length state.first.posts) (suc n) state.second.posts m (λ runs. omega (arith, (progress.first_place (running_from state.first.ending runs)).posted)) in
        let second_turned : member_of b' b_tally' last.second ≡ turn second 1 (length state.second.posts) next.first.posts k =
        subst (λ (part : PartState). member_of b' b_tally' last.second ≡ turn second 1 (length part.posts) next.first.posts (member_of b b_tally part)) same_second turned_2.turned in
        let second_loop : member_of b' b_tally' last.second ≡ turn second 1 (suc n) next.first.posts k =
        second_turned ∙ turn-window second 1 (length state.second.posts) (suc n) next.first.posts k (λ runs. omega (arith, (progress.second_place (running_from state.second.ending runs)).posted)) in
        let next_first = turn first 0 (suc n) state.second.posts m in
        let first_last : member_of a' a_tally' last.first ≡ next_first = ap (member_of a' a_tally') same_first ∙ first_loop in
        let second_last : member_of b' b_tally' last.second ≡ turn second 1 (suc n) next_first.given k =
        second_loop ∙ ap (λ (posts : List ℤ). turn second 1 (suc n) posts k) (ap (λ (x : Member First). x.given) first_loop) in
        let loop_next = same_pair (member_of a' a_tally' last.first) next_first (member_of b' b_tally' last.second) (turn second 1 (suc n) next_first.given k) first_last second_last in
        record {
          loop = loop_next ∙ ap (coupled_window first second (suc n)) progress.loop;
          first_place = λ running. (let runs : next.first.ending ≡ None = ap (λ (part : PartState). part.ending) (sym same_first) ∙ running in
              let posts = ap (λ (part : PartState). length part.posts) same_first in
              record { posted = omega (arith, first_gave runs, posts); untaken = ap (λ (part : PartState). part.taken) same_first ∙ turned.untaken runs });
          second_place = λ running. (let runs : (member_of b' b_tally' last.second).has_stopped ≡ false = running_is last.second.ending running in
              let grows = turn-grows second 1 (length next.second.posts) next.first.posts (member_of b b_tally next.second) (ap (λ (x : Member Second). x.has_stopped) (sym turned_2.turned) ∙ runs) in
              let still : state.second.ending ≡ None = ap (λ (part : PartState). part.ending) (sym same_second) ∙ running_from next.second.ending grows.0 in
              let given = ap (λ (x : Member Second). length x.given) turned_2.turned in
              let posts = ap (λ (part : PartState). length part.posts) same_second in
              record { posted = omega (arith, (progress.second_place still).posted, grows.1, given, posts); untaken = turned_2.untaken running });
          remembers = λ running. (let runs : (member_of b' b_tally' last.second).has_stopped ≡ false = running_is last.second.ending running in
              let grows = turn-grows second 1 (length next.second.posts) next.first.posts (member_of b b_tally next.second) (ap (λ (x : Member Second). x.has_stopped) (sym turned_2.turned) ∙ runs) in
              let still : state.second.ending ≡ None = ap (λ (part : PartState). part.ending) (sym same_second) ∙ running_from next.second.ending grows.0 in
              let given = ap (λ (x : Member Second). length x.given) turned_2.turned in
              let posts = ap (λ (part : PartState). length part.posts) same_second in
              let at : length last.second.posts - 1 ≡ suc n = omega (arith, (progress.second_place still).posted, grows.1, given, posts) in
              rw at at (turned_2.remembers running (omega arith)));
        }

-- a participant that has stopped has no turn
turn-stopped_by : {State : Type 0} (solver : Behaviour State) (p window : ℕ) (given : List ℤ) (state : State) (own : List ℤ) (stopped : Bool) (steps : ℕ) (fault : Option Fault) → let m : Member State = record { state = state; given = own; has_stopped = stopped; steps = steps; fault = fault } in stopped ≡ true → turn solver p window given m ≡ m
turn-stopped_by solver p window given state own true steps fault is = refl
turn-stopped_by solver p window given state own false steps fault is = absurd cc

turn-stopped : {State : Type 0} (solver : Behaviour State) (p window : ℕ) (given : List ℤ) (m : Member State) → m.has_stopped ≡ true → turn solver p window given m ≡ m
turn-stopped solver p window given m = turn-stopped_by solver p window given m.state m.given m.has_stopped m.steps m.fault

window_stays : {First Second : Type 0} (first : Behaviour First) (second : Behaviour Second) (window : ℕ) (both : Coupled First Second) → both.first.has_stopped ≡ true → both.second.has_stopped ≡ true → coupled_window first second window both ≡ both
window_stays first second window both stopped_1 stopped_2 =
    same_pair _ both.first _ both.second (turn-stopped first 0 window both.second.given both.first stopped_1) (turn-stopped second 1 window (turn first 0 window both.second.given both.first).given both.second stopped_2)

-- the windows after both have stopped change nothing
loop_stays : {First Second : Type 0} (first : Behaviour First) (second : Behaviour Second) (start : Coupled First Second) (n k : ℕ) → (coupled_loop first second start n).first.has_stopped ≡ true → (coupled_loop first second start n).second.has_stopped ≡ true → coupled_loop first second start (n + k) ≡ coupled_loop first second start n
loop_stays first second start n zero stopped_1 stopped_2 = rw add-zero refl
loop_stays first second start n (suc k) stopped_1 stopped_2 =
    rw add-suc (ap (coupled_window first second (suc (n + k))) (loop_stays first second start n k stopped_1 stopped_2) ∙ window_stays first second (suc (n + k)) (coupled_loop first second start n) stopped_1 stopped_2)

pub ended_loop : {First Second : Type 0} (first : Behaviour First) (second : Behaviour Second) (start : Coupled First Second) (windows n : ℕ) (state : CoreState) (a : First) (b : Second) (a_tally b_tally : Tally) (remembered : ℤ) → n ≤ windows → Progress first second start n state (record { first = member_of a a_tally state.first; second = member_of b b_tally state.second }) remembered → is_some state.first.ending ≡ true → is_some state.second.ending ≡ true → record { first = member_of a a_tally state.first; second = member_of b b_tally state.second } ≡ coupled_loop first second start windows
ended_loop {First} {Second} first second start windows n state a b a_tally b_tally remembered within progress ended_1 ended_2 =
    let stopped_1 = ap (λ (both : Coupled First Second). both.first.has_stopped) (sym progress.loop) ∙ ended_1 in
    let stopped_2 = ap (λ (both : Coupled First Second). both.second.has_stopped) (sym progress.loop) ∙ ended_2 in
    let count : n + (windows - n) ≡ windows = omega arith in
    progress.loop ∙ sym (loop_stays first second start n (windows - n) stopped_1 stopped_2) ∙ ap (coupled_loop first second start) count

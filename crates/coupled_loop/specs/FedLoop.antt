-- The loop over posts that are given, without solvers: each turn is answered by what was posted there. The project's own.
use Rattle.std.specs.Prelude.{ℕ, List, [], ◌∷◌, Option, Some, None, Result, Ok, Err}
use Rattle.cpl_plan.specs.declared.words.Item.TheVariants.{Completed, Posted}
use Rattle.coupled_loop.specs.Given.{Gift, Look}
use Rattle.coupled_loop.specs.Frames.{Frame}
use Rattle.coupled_loop.specs.LegalHistory.{Told, told_inputs, told_judgement}
use Rattle.coupled_loop.specs.Solving.{Solvers, Stepped, arrives, breaks}
use Rattle.coupled_loop.specs.CoupledLoop.{coupled}

-- what is given as the post of a turn, if it is given
abbrev pub fed_post : {Post Fault : Type 0} → Option (Gift Post) → Result Post (Option Fault)
fed_post (Some gift) = Ok gift.post
fed_post None = Err None

abbrev pub fed_step : {Post Fault : Type 0} → Option (Gift Post) → Stepped (Unit {0}) (ℕ × ℕ) Post Fault
fed_step (Some gift) = arrives tt gift.post
fed_step None = breaks tt None

module _ {Post Inputs Fault : Type 0} where
  -- participants that post what is given, and stop where nothing is; they note what they are told
  abbrev pub fed : Look Post → Solvers (Unit {0}) Post Inputs Fault (Unit {0}) (ℕ × ℕ) (Told Inputs Fault)
  fed look = record {
    meshes = λ part. tt;
    start = λ part. tt;
    first = λ part received state. fed_post (look part (Completed 0));
    begin = λ part w k received state inputs. Ok (w, k);
    step = λ part run. ([], fed_step (look part (Posted run.0 run.1)));
    state_of = λ run. tt;
    most_steps = 1;
    too_many = λ part w k. None;
    note_inputs = λ part w k inputs. told_inputs w k inputs ∷ [];
    note_judgement = λ part w k judgement. told_judgement w k judgement ∷ [];
  }

  -- what a participant is told by the loop over given posts
  abbrev pub fed_told : Frame Post Inputs Fault → Look Post → (part : ℕ) → List (Told Inputs Fault)
  fed_told frame look part = (coupled frame (fed look) part).held.notes

-- An event that a core makes: who may ask for it, what it answers, and for which list it then stands. The project's own.
use Rattle.std.specs.Prelude.{◌≡◌, ℕ, List, [], ◌∷◌, ◌++◌, Result, None}
use Rattle.coupled_loop.specs.CoreStep.{waits_for}
use Rattle.wave_coupling.specs.Coupling.{wave_frame}
use Rattle.core_sides.specs.CoreWords.{WaveState, WaveAct, WaveEntry}
use Rattle.core_sides.specs.Fitting.{IsFitting}
use Rattle.core_sides.specs.Answers.{answer_in, entry_in, state_after}
use Rattle.core_sides.specs.declared.event.Reply.{Reply}
use Rattle.core_sides.specs.declared.event.CoreErr.{CoreErr}
use Rattle.coupling_core.specs.CoreKept.{CoreKept}
use Rattle.coupling_core.specs.StandsFor.{StandsFor}

-- the participant may ask for it in each state that the core stands for
abbrev pub MayMake : CoreKept → (part : ℕ) → WaveAct → Type 0
MayMake core part act = (history : List WaveEntry) (sides : WaveState) → StandsFor core history sides → IsFitting core.plan sides part act

-- nobody is waited for there
abbrev pub IsGranted : CoreKept → (part : ℕ) → Type 0
IsGranted core part = (history : List WaveEntry) (sides : WaveState) → StandsFor core history sides → waits_for (wave_frame core.plan) sides part ≡ None

-- what is answered is the answer there
abbrev pub Answers : CoreKept → (part : ℕ) → WaveAct → Result Reply CoreErr → Type 0
Answers core part act answer = (history : List WaveEntry) (sides : WaveState) → StandsFor core history sides → answer_in core.plan sides part act ≡ answer

-- what is kept after it stands for the list with the event, or with its cut
abbrev pub Makes : (before after : CoreKept) → (part : ℕ) → WaveAct → Type 0
Makes before after part act = (history : List WaveEntry) (sides : WaveState) → StandsFor before history sides
    → StandsFor after (history ++ entry_in before.plan sides part act ∷ []) (state_after before.plan sides part act)

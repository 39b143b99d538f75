-- A store that is opened, has one post more, or has that accepted stands for what its sender gives then.
use Rattle.std.proofs.Common.{◌≡◌, ℕ, ◌+◌, ◌<◌, Bool, true, List, [], Option, Some, None, length, sym, ap, subst, ◌∙◌, arith}
use Rattle.std.proofs.lemmas.Option.{same_Some, slice_get_within}
use Rattle.cpl_plan.specs.declared.parts.PlanParts.{PlanParts}
use Rattle.cpl_plan.specs.declared.parts.Exchange.{Exchange}
use Rattle.cpl_plan.specs.declared.words.Item.TheVariants.{Completed, Posted}
use Rattle.coupled_loop.specs.Given.{Gift, gives, accepts}
use Rattle.coupled_loop.specs.Numbered.{put}
use Rattle.wave_coupling.specs.Posts.{Wave, Post, sent, wave_of}
use Rattle.sample_store.specs.declared.progress.Progress.{Progress}
use Rattle.sample_store.specs.Kept.{Kept as StoreKept}
use Rattle.sample_store.specs.NextTurn.{next_turn}
use Rattle.sample_store.specs.StandsFor.{StandsFor as StoreStandsFor}
use Rattle.sample_store.proofs.Mapped.{gives_part, accepts_part}
use Rattle.core_sides.specs.CoreWords.{WaveState, WaveSide}
use Rattle.core_stores.specs.StoresStand.{gifts_of, IsStoreOf, AreStores}
use Rattle.core_stores.specs.StoreMoves.{AreOpened, IsNext, AreNext, IsPosted, ArePosted, IsOpen, AreOpen, IsPut, IsAccepted}
use Rattle.core_stores.proofs.Changes.{at_place, AreChanged, stores_changed}
use Rattle.core_stores.proofs.Rests.{beside, beside_both, wave_found}

-- how far an exchange has come with its initial values
abbrev at_start : Progress
at_start = record { window = 0; iteration = 0; is_accepted = true }

-- who has posted is open for acceptance
pub posted_open : (exchanges : List Exchange) (stores : List (Option StoreKept)) (p w k : ℕ) → ArePosted exchanges stores p w k → AreOpen exchanges stores p w
posted_open exchanges stores p w k are x e store at own there = by store (are x e store at own there) where
  by : (o : Option StoreKept) → IsPosted o w k → IsOpen o w
  by None none = none
  by (Some one) is = (is.0, is.2)

-- the turn after a post is the next iteration
pub posted_next : (exchanges : List Exchange) (stores : List (Option StoreKept)) (p w k : ℕ) → ArePosted exchanges stores p w k → AreNext exchanges stores p w (k + 1)
posted_next exchanges stores p w k are x e store at own there = by store (are x e store at own there) where
  by : (o : Option StoreKept) → IsPosted o w k → IsNext o w (k + 1)
  by None none = none
  by (Some one) is =
      ap (λ (b : Bool). next_turn (record one.progress { is_accepted = b })) is.2
      ∙ ap (λ (v : ℕ). (v, one.progress.iteration + 1)) is.0 ∙ ap (λ (j : ℕ). (w, j + 1)) is.1

module _ (plan : PlanParts) (p : ℕ) where
  -- the store of an exchange that p sends is the opened one beside its number
  abbrev pub IsInstalled : (opened : List StoreKept) → (x : ℕ) → Exchange → (before after : Option StoreKept) → Type 0
  IsInstalled opened x e before after = (store : StoreKept) × (beside (sent plan p) opened x ≡ Some (x, store)) × (after ≡ Some store)

  -- the wave beside its number is put into it
  abbrev pub IsPutOf : (w k : ℕ) → Post → (x : ℕ) → Exchange → (before after : Option StoreKept) → Type 0
  IsPutOf w k post x e before after = IsPut w k (wave_of plan e x post) before after

  -- its newest post is accepted
  abbrev pub IsAcceptedOf : (w : ℕ) → (x : ℕ) → Exchange → (before after : Option StoreKept) → Type 0
  IsAcceptedOf w x e before after = IsAccepted w before after

  module _ (before after : List (Option StoreKept)) (sides : WaveState) (side : WaveSide) (are : AreStores plan before sides) where
    pub installed_stand : (opened : List StoreKept) (post : Post) → AreChanged plan.exchanges p (IsInstalled opened) (length plan.exchanges) before after
        → (sides p).given ≡ [] → AreOpened post opened → side.given ≡ gives (Completed 0) 0 post (sides p).given → AreStores plan after (put sides p side)
    installed_stand opened post changed none opens given =
        stores_changed plan p (IsInstalled opened) before after sides side changed are
        (λ x e one next at own was installed stands.
        let found = beside_both (sent plan p) opened post x installed.0 opens.count installed.1 in
        let wave : wave_of plan e x post ≡ found.1 = wave_found plan p e x post found.1 own found.4 in
        let fresh : side.given ≡ gives (Completed 0) 0 post [] = given ∙ ap (gives (Completed 0) 0 post) none in
        subst (λ (o : Option StoreKept). IsStoreOf (gifts_of plan e x side.given) o) (sym installed.2)
        (subst (λ (list : List (Gift Post)). StoreStandsFor (gifts_of plan e x list) installed.0) (sym fresh)
        (subst (λ (w : Wave). StoreStandsFor (gives (Completed 0) 0 w []) installed.0) (sym wave)
        (opens.each found.0 found.1 installed.0 found.3 found.2))))

    put_one : (w k : ℕ) (post : Post) (e : Exchange) (x : ℕ) (given : List (Gift Post)) (one next : Option StoreKept) → IsPut w k (wave_of plan e x post) one next
        → IsStoreOf (gifts_of plan e x given) one → IsStoreOf (gifts_of plan e x (gives (Posted w k) k post given)) next
    put_one w k post e x given (Some one) (Some next) is stands =
        subst (λ (list : List (Gift Wave)). StoreStandsFor list next) (gives_part (wave_of plan e x) (Posted w k) k post given) (is.0 (gifts_of plan e x given) stands)
    put_one w k post e x given (Some one) None is stands = absurd is
    put_one w k post e x given None next is stands = absurd is

    pub put_stand : (w k : ℕ) (post : Post) → AreChanged plan.exchanges p (IsPutOf w k post) (length plan.exchanges) before after
        → side.given ≡ gives (Posted w k) k post (sides p).given → AreStores plan after (put sides p side)
    put_stand w k post changed given =
        stores_changed plan p (IsPutOf w k post) before after sides side changed are
        (λ x e one next at own was is stands.
        subst (λ (list : List (Gift Post)). IsStoreOf (gifts_of plan e x list) next) (sym given) (put_one w k post e x (sides p).given one next is stands))

    accept_one : (w k : ℕ) (e : Exchange) (x : ℕ) (given : List (Gift Post)) (one next : Option StoreKept) → IsPosted one w k → IsAccepted w one next
        → IsStoreOf (gifts_of plan e x given) one → IsStoreOf (gifts_of plan e x (accepts w k given)) next
    accept_one w k e x given (Some one) (Some next) posted is stands =
        subst (λ (list : List (Gift Wave)). StoreStandsFor list next) (accepts_part (wave_of plan e x) w k given)
        (subst (λ (j : ℕ). StoreStandsFor (accepts w j (gifts_of plan e x given)) next) posted.1 (is.0 (gifts_of plan e x given) stands))
    accept_one w k e x given (Some one) None posted is stands = absurd is
    accept_one w k e x given None next posted is stands = absurd is

    pub accept_stand : (w k : ℕ) → AreChanged plan.exchanges p (IsAcceptedOf w) (length plan.exchanges) before after → ArePosted plan.exchanges before p w k
        → side.given ≡ accepts w k (sides p).given → AreStores plan after (put sides p side)
    accept_stand w k changed posted given =
        stores_changed plan p (IsAcceptedOf w) before after sides side changed are
        (λ x e one next at own was is stands.
        subst (λ (list : List (Gift Post)). IsStoreOf (gifts_of plan e x list) next) (sym given)
        (accept_one w k e x (sides p).given one next (posted x e one at own was) is stands))

  -- after a post each exchange's newest is that turn's
  pub put_posted : (w k : ℕ) (post : Post) (before after : List (Option StoreKept)) → AreChanged plan.exchanges p (IsPutOf w k post) (length plan.exchanges) before after
      → ArePosted plan.exchanges after p w k
  put_posted w k post before after changed x e store at own there =
      let within : x < length before = let last = slice_get_within after x store there in let many = changed.count in omega (arith, last, many) in
      let was = at_place before x within in
      by was.0 store (changed.sent x e was.0 store (slice_get_within plan.exchanges x e at) at own was.1 there) where
        by : (one next : Option StoreKept) → IsPut w k (wave_of plan e x post) one next → IsPosted next w k
        by (Some one) (Some next) is = (
          ap (λ (progress : Progress). progress.window) is.1,
          ap (λ (progress : Progress). progress.iteration) is.1,
          ap (λ (progress : Progress). progress.is_accepted) is.1,
        )
        by (Some one) None is = absurd is
        by None next is = absurd is

  -- the turn after an acceptance is the first of the next window
  pub accept_next : (w : ℕ) (before after : List (Option StoreKept)) → AreChanged plan.exchanges p (IsAcceptedOf w) (length plan.exchanges) before after
      → AreOpen plan.exchanges before p w → AreNext plan.exchanges after p (w + 1) 1
  accept_next w before after changed open_before x e store at own there =
      let within : x < length before = let last = slice_get_within after x store there in let many = changed.count in omega (arith, last, many) in
      let was = at_place before x within in
      by was.0 store (changed.sent x e was.0 store (slice_get_within plan.exchanges x e at) at own was.1 there) (open_before x e was.0 at own was.1) where
        by : (one next : Option StoreKept) → IsAccepted w one next → IsOpen one w → IsNext next (w + 1) 1
        by (Some one) (Some next) is opens = ap next_turn is.1 ∙ ap (λ (v : ℕ). (v + 1, 1)) opens.0
        by (Some one) None is opens = absurd is
        by None next is opens = absurd is

  -- the first turn is the next of a store that was opened
  pub install_next : (opened : List StoreKept) (post : Post) (before after : List (Option StoreKept)) → AreChanged plan.exchanges p (IsInstalled opened) (length plan.exchanges) before after
      → AreOpened post opened → AreNext plan.exchanges after p 1 1
  install_next opened post before after changed opens x e store at own there =
      let within : x < length before = let last = slice_get_within after x store there in let many = changed.count in omega (arith, last, many) in
      let was = at_place before x within in
      let is = changed.sent x e was.0 store (slice_get_within plan.exchanges x e at) at own was.1 there in
      let found = beside_both (sent plan p) opened post x is.0 opens.count is.1 in
      let stands = opens.each found.0 found.1 is.0 found.3 found.2 in
      let own_progress : at_start ≡ is.0.progress = same_Some at_start is.0.progress stands.progress in
      subst (λ (o : Option StoreKept). IsNext o 1 1) (sym is.2) (ap next_turn (sym own_progress))

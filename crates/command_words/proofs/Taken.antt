-- The forms are taken by the command, and their parts are what it finds.
use Rattle.std.proofs.Common.{◌≡◌, ◌==◌, ℕ, true, false, refl, ap, List, [], ◌∷◌, ◌∙◌, Option, Some, None, codes}
use Rattle.clap.specs.Words.{App, HasMatchesOf, is_simple, subcommand_of, subcommand_rows_of, takes}
use Rattle.clap.specs.declared.ArgMatches.{ArgMatches}
use Rattle.clap.proofs.OnLiterals.{clap_on_literals}
use Rattle.command_words.specs.Asking.{Text}
use Rattle.command_words.specs.Lines.{Parts, joined}
use Rattle.command_words.specs.Parsed.{parts_met, words_app}

-- the command takes the words
abbrev pub AreTaken : List Text → Type 0
AreTaken words = takes words_app words ≡ true

-- what it finds in them are these parts
abbrev pub AreFound : List Text → Parts → Type 0
AreFound words parts = parts_met (subcommand_of words_app words) ≡ Some parts

abbrev pub solo_parts : Text → Option Text → Parts
solo_parts config schedule = record { command = codes "solo"; config = config; schedule = schedule }

abbrev pub check_parts : Text → Parts
check_parts config = record { command = codes "check"; config = config; schedule = None }

check_taken : (x : ℕ) (xs : Text) → (x == 45) ≡ false → AreTaken (codes "check" ∷ (x ∷ xs) ∷ [])
unfolding clap_on_literals
check_taken x xs h = simp h

check_found : (x : ℕ) (xs : Text) → (x == 45) ≡ false → AreFound (codes "check" ∷ (x ∷ xs) ∷ []) (check_parts (x ∷ xs))
unfolding clap_on_literals
check_found x xs h = simp h

alone_taken : (x : ℕ) (xs : Text) → (x == 45) ≡ false → AreTaken (codes "solo" ∷ (x ∷ xs) ∷ [])
unfolding clap_on_literals
alone_taken x xs h = simp h

alone_found : (x : ℕ) (xs : Text) → (x == 45) ≡ false → AreFound (codes "solo" ∷ (x ∷ xs) ∷ []) (solo_parts (x ∷ xs) None)
unfolding clap_on_literals
alone_found x xs h = simp h

joined_behind_taken : (x : ℕ) (xs text : Text) → (x == 45) ≡ false → AreTaken (codes "solo" ∷ (x ∷ xs) ∷ joined text ∷ [])
unfolding clap_on_literals
joined_behind_taken x xs text h = simp h

joined_behind_found : (x : ℕ) (xs text : Text) → (x == 45) ≡ false
    → AreFound (codes "solo" ∷ (x ∷ xs) ∷ joined text ∷ []) (solo_parts (x ∷ xs) (Some text))
unfolding clap_on_literals
joined_behind_found x xs text h = simp h

joined_before_taken : (x : ℕ) (xs text : Text) → (x == 45) ≡ false → AreTaken (codes "solo" ∷ joined text ∷ (x ∷ xs) ∷ [])
unfolding clap_on_literals
joined_before_taken x xs text h = simp h

joined_before_found : (x : ℕ) (xs text : Text) → (x == 45) ≡ false
    → AreFound (codes "solo" ∷ joined text ∷ (x ∷ xs) ∷ []) (solo_parts (x ∷ xs) (Some text))
unfolding clap_on_literals
joined_before_found x xs text h = simp h

apart_behind_taken : (x : ℕ) (xs : Text) (d : ℕ) (ds : Text) → (x == 45) ≡ false → (d == 45) ≡ false
    → AreTaken (codes "solo" ∷ (x ∷ xs) ∷ codes "--schedule" ∷ (d ∷ ds) ∷ [])
unfolding clap_on_literals
apart_behind_taken x xs d ds h g = simp (h, g)

apart_behind_found : (x : ℕ) (xs : Text) (d : ℕ) (ds : Text) → (x == 45) ≡ false → (d == 45) ≡ false
    → AreFound (codes "solo" ∷ (x ∷ xs) ∷ codes "--schedule" ∷ (d ∷ ds) ∷ []) (solo_parts (x ∷ xs) (Some (d ∷ ds)))
unfolding clap_on_literals
apart_behind_found x xs d ds h g = simp (h, g)

apart_before_taken : (x : ℕ) (xs : Text) (d : ℕ) (ds : Text) → (x == 45) ≡ false → (d == 45) ≡ false
    → AreTaken (codes "solo" ∷ codes "--schedule" ∷ (d ∷ ds) ∷ (x ∷ xs) ∷ [])
unfolding clap_on_literals
apart_before_taken x xs d ds h g = simp (h, g)

apart_before_found : (x : ℕ) (xs : Text) (d : ℕ) (ds : Text) → (x == 45) ≡ false → (d == 45) ≡ false
    → AreFound (codes "solo" ∷ codes "--schedule" ∷ (d ∷ ds) ∷ (x ∷ xs) ∷ []) (solo_parts (x ∷ xs) (Some (d ∷ ds)))
unfolding clap_on_literals
apart_before_found x xs d ds h g = simp (h, g)

-- the words are taken, and what is found in them are these parts
abbrev pub Finds : List Text → Parts → Type 0
Finds words parts = AreTaken words × AreFound words parts

pub check_alone : (x : ℕ) (xs : Text) → (x == 45) ≡ false → Finds (codes "check" ∷ (x ∷ xs) ∷ []) (check_parts (x ∷ xs))
check_alone x xs h = (check_taken x xs h, check_found x xs h)

pub solo_alone : (x : ℕ) (xs : Text) → (x == 45) ≡ false → Finds (codes "solo" ∷ (x ∷ xs) ∷ []) (solo_parts (x ∷ xs) None)
solo_alone x xs h = (alone_taken x xs h, alone_found x xs h)

pub solo_joined_behind : (text : Text) (x : ℕ) (xs : Text) → (x == 45) ≡ false
    → Finds (codes "solo" ∷ (x ∷ xs) ∷ joined text ∷ []) (solo_parts (x ∷ xs) (Some text))
solo_joined_behind text x xs h = (joined_behind_taken x xs text h, joined_behind_found x xs text h)

pub solo_joined_before : (text : Text) (x : ℕ) (xs : Text) → (x == 45) ≡ false
    → Finds (codes "solo" ∷ joined text ∷ (x ∷ xs) ∷ []) (solo_parts (x ∷ xs) (Some text))
solo_joined_before text x xs h = (joined_before_taken x xs text h, joined_before_found x xs text h)

pub solo_apart_behind : (x : ℕ) (xs : Text) (d : ℕ) (ds : Text) → (x == 45) ≡ false → (d == 45) ≡ false
    → Finds (codes "solo" ∷ (x ∷ xs) ∷ codes "--schedule" ∷ (d ∷ ds) ∷ []) (solo_parts (x ∷ xs) (Some (d ∷ ds)))
solo_apart_behind x xs d ds h g = (apart_behind_taken x xs d ds h g, apart_behind_found x xs d ds h g)

pub solo_apart_before : (x : ℕ) (xs : Text) (d : ℕ) (ds : Text) → (x == 45) ≡ false → (d == 45) ≡ false
    → Finds (codes "solo" ∷ codes "--schedule" ∷ (d ∷ ds) ∷ (x ∷ xs) ∷ []) (solo_parts (x ∷ xs) (Some (d ∷ ds)))
solo_apart_before x xs d ds h g = (apart_before_taken x xs d ds h g, apart_before_found x xs d ds h g)

is_simple_app : is_simple words_app ≡ true
unfolding clap_on_literals
is_simple_app = refl

-- a parse by the command has what is found in the words
pub found_in : (app : App) (words : List Text) (m : ArgMatches) (parts : Parts) → app ≡ words_app → HasMatchesOf app words m
    → Finds words parts → parts_met (subcommand_rows_of m) ≡ Some parts
found_in app words m parts is has finds =
    ap parts_met ((has (ap is_simple is ∙ is_simple_app)).1 ∙ ap (λ a. subcommand_of a words) is) ∙ finds.1

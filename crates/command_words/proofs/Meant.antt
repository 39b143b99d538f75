-- What the line that is read means is what the words ask for.
use Rattle.std.proofs.Common.{◌≡◌, ◌&&◌, ◌||◌, ◌++◌, ◌⊎◌, inl, inr, ℕ, Bool, true, false, true≢false, cond, refl, sym, subst, ap, List, [], ◌∷◌, ◌∙◌, take, drop, Option, Some, None, codes, take-append-drop}
use Rattle.std.specs.Option.{option_and_then, option_or}
use Rattle.std.specs.Str.{bytes_eq}
use Rattle.command_words.specs.Asking.{Request, Text, asked_of, is_check, is_name, is_solo, look, of_name, of_three_words, of_two_words, run_of, schedule_apart, schedule_joined, schedule_of}
use Rattle.command_words.specs.Lines.{Parts, check_line, joined, meant_by, meant_in, solo_line, writes, writes_rest}
use Rattle.command_words.specs.Parsed.{ReadsFrom}
use Rattle.command_words.proofs.Digits.{both}
use Rattle.command_words.proofs.Ways.{by_way, itself, same, some≢none}

-- ---- what a line means, the words ask for that write it

solo_sound : (r : Request) (config : Text) (rest : List Text) (schedule : Option Text) → writes_rest rest config schedule ≡ true
    → solo_line config schedule ≡ Some r → asked_of (codes "solo" ∷ rest) ≡ Some r
solo_sound r config rest schedule h = by_way (λ ws s. solo_line config s ≡ Some r → asked_of (codes "solo" ∷ ws) ≡ Some r) config
    (λ e. e)
    (λ text e. ap (λ o. option_or o (run_of (joined text) (schedule_joined config))) e)
    (λ text e. e)
    (λ text e. ap (λ o. option_or o (run_of text (schedule_apart config (codes "--schedule")))) e)
    (λ text e. e)
    rest schedule h

check_sound : (r : Request) (config : Text) (rest : List Text) (schedule : Option Text) → writes_rest rest config schedule ≡ true
    → check_line config schedule ≡ Some r → asked_of (codes "check" ∷ rest) ≡ Some r
check_sound r config rest schedule h = by_way (λ ws s. check_line config s ≡ Some r → asked_of (codes "check" ∷ ws) ≡ Some r) config
    (λ e. e)
    (λ text e. absurd (some≢none r (sym e)))
    (λ text e. absurd (some≢none r (sym e)))
    (λ text e. absurd (some≢none r (sym e)))
    (λ text e. absurd (some≢none r (sym e)))
    rest schedule h

rest_sound : (r : Request) (command config : Text) (rest : List Text) (schedule : Option Text) → writes_rest rest config schedule ≡ true
    → meant_by (record { command = command; config = config; schedule = schedule }) ≡ Some r → asked_of (command ∷ rest) ≡ Some r
rest_sound r command config rest schedule h = solo (is_solo command) refl
  where
    check : (b : Bool) → is_check command ≡ b → cond b (check_line config schedule) None ≡ Some r → asked_of (command ∷ rest) ≡ Some r
    check true e is = subst (λ c. asked_of (c ∷ rest) ≡ Some r) (sym (same command (codes "check") e)) (check_sound r config rest schedule h is)
    check false e is = absurd (some≢none r (sym is))

    solo : (b : Bool) → is_solo command ≡ b
        → cond b (solo_line config schedule) (cond (is_check command) (check_line config schedule) None) ≡ Some r
        → asked_of (command ∷ rest) ≡ Some r
    solo true e is = subst (λ c. asked_of (c ∷ rest) ≡ Some r) (sym (same command (codes "solo") e)) (solo_sound r config rest schedule h is)
    solo false e is = check (is_check command) refl is

line_sound : (words : List Text) (parts : Parts) (r : Request) → writes words parts ≡ true → meant_by parts ≡ Some r → asked_of words ≡ Some r
line_sound [] parts r h is = absurd (true≢false (sym h))
line_sound (command ∷ rest) parts r h is =
    let p = both _ _ h in
    subst (λ c. asked_of (c ∷ rest) ≡ Some r) (sym (same command parts.command p.0))
    (rest_sound r parts.command parts.config rest parts.schedule p.1 is)

-- ---- words that ask for something write a line that means it

abbrev Writes : List Text → Request → Type 0
Writes words r = (parts : Parts) × (writes words parts ≡ true) × (meant_by parts ≡ Some r)

one_of : {X : Type 0} (a b : Option X) (x : X) → option_or a b ≡ Some x → (a ≡ Some x) ⊎ (b ≡ Some x)
one_of None b x h = inr h
one_of (Some y) b x h = inl h

-- a choice that is something
picked : {X : Type 0} (b : Bool) (o : Option X) (x : X) → cond b o None ≡ Some x → (b ≡ true) × (o ≡ Some x)
picked true o x h = (refl, h)
picked false o x h = absurd (some≢none x (sym h))

-- a run has a schedule
scheduled : (config : Text) (b : Bool) (o : Option ℕ) (r : Request) → run_of config (cond b o None) ≡ Some r
    → (b ≡ true) × (run_of config o ≡ Some r)
scheduled config true o r h = (refl, h)
scheduled config false o r h = absurd (some≢none r (sym (picked (is_name config) None r h).1))

-- a word that begins so is the option and what is behind it
is_joined_of : (word : Text) → bytes_eq (take 11 word) (codes "--schedule=") ≡ true → word ≡ joined (drop 11 word)
is_joined_of word h = sym (take-append-drop 11 word) ∙ ap (λ t. t ++ drop 11 word) (same _ _ h)

all_true : (a b : Bool) → a ≡ true → b ≡ true → (a && b) ≡ true
all_true a b e f = rw e f

left_true : (a b : Bool) → a ≡ true → (a || b) ≡ true
left_true a b e = rw e refl

right_true : (a b : Bool) → b ≡ true → (a || b) ≡ true
right_true true b e = refl
right_true false b e = e

equal : (xs ys : Text) → xs ≡ ys → bytes_eq xs ys ≡ true
equal xs ys e = subst (λ y. bytes_eq xs y ≡ true) e (itself xs)

solo_writes : (command config text : Text) (rest : List Text) (r : Request) → is_solo command ≡ true
    → writes_rest rest config (Some text) ≡ true → run_of config (schedule_of text) ≡ Some r → Writes (command ∷ rest) r
solo_writes command config text rest r solo h is =
    (record { command = command; config = config; schedule = Some text }, all_true _ _ (itself command) h, rw solo is)

name_writes : (command config : Text) (r : Request) → of_name command config ≡ Some r → Writes (command ∷ config ∷ []) r
name_writes command config r h = (
  record { command = command; config = config; schedule = None },
  all_true _ _ (itself command) (itself config),
  same_meaning (is_solo command) (is_check command) ∙ h,
)
  where
    nested : (b c : Bool) → cond b (cond c (Some (look config)) None) None ≡ cond (b && c) (Some (look config)) None
    nested true c = refl
    nested false c = refl

    same_meaning : (s b : Bool) → cond s (run_of config (Some 0)) (cond b (cond (is_name config) (Some (look config)) None) None)
        ≡ cond s (run_of config (Some 0)) (cond (b && is_name config) (Some (look config)) None)
    same_meaning s b = ap (λ o. cond s (run_of config (Some 0)) o) (nested b (is_name config))

two_write : (command first second : Text) (r : Request) → is_solo command ≡ true → of_two_words first second ≡ Some r
    → Writes (command ∷ first ∷ second ∷ []) r
two_write command first second r solo h = elim (one_of _ _ r h) [
  | inl a ↦
      let p = scheduled first (bytes_eq (take 11 second) (codes "--schedule=")) (schedule_of (drop 11 second)) r a in
      solo_writes command first (drop 11 second) (first ∷ second ∷ []) r solo
      (left_true _ _ (all_true _ _ (itself first) (equal second _ (is_joined_of second p.0)))) p.1
  | inr b ↦
      let p = scheduled second (bytes_eq (take 11 first) (codes "--schedule=")) (schedule_of (drop 11 first)) r b in
      solo_writes command second (drop 11 first) (first ∷ second ∷ []) r solo
      (right_true _ _ (all_true _ _ (itself second) (equal first _ (is_joined_of first p.0)))) p.1
]

three_write : (command first second third : Text) (r : Request) → is_solo command ≡ true → of_three_words first second third ≡ Some r
    → Writes (command ∷ first ∷ second ∷ third ∷ []) r
three_write command first second third r solo h = elim (one_of _ _ r h) [
  | inl a ↦
      let p = scheduled first (bytes_eq second (codes "--schedule")) (schedule_of third) r a in
      solo_writes command first third (first ∷ second ∷ third ∷ []) r solo
      (left_true _ _ (all_true _ _ (itself first) (all_true _ _ p.0 (itself third)))) p.1
  | inr b ↦
      let p = scheduled third (bytes_eq first (codes "--schedule")) (schedule_of second) r b in
      solo_writes command third second (first ∷ second ∷ third ∷ []) r solo
      (right_true _ _ (all_true _ _ (itself third) (all_true _ _ p.0 (itself second)))) p.1
]

words_write : (words : List Text) (r : Request) → asked_of words ≡ Some r → Writes words r
words_write [] r h = absurd (some≢none r (sym h))
words_write (a ∷ []) r h = absurd (some≢none r (sym h))
words_write (command ∷ config ∷ []) r h = name_writes command config r h
words_write (command ∷ first ∷ second ∷ []) r h =
    let p = picked (is_solo command) _ r h in
    two_write command first second r p.0 p.1
words_write (command ∷ first ∷ second ∷ third ∷ []) r h =
    let p = picked (is_solo command) _ r h in
    three_write command first second third r p.0 p.1
words_write (a ∷ b ∷ d ∷ e ∷ f ∷ rest) r h = absurd (some≢none r (sym h))

-- ---- both ways

pub meaning_of : (words : List Text) (read : Option Parts) → ReadsFrom words read → option_and_then (meant_in words) read ≡ asked_of words
meaning_of words read reads = go (asked_of words) refl
  where
    something : (r : Request) → Writes words r → option_and_then (meant_in words) read ≡ Some r
    something r w =
        let here : read ≡ Some w.0 = reads w.0 w.1 (λ none. some≢none r (sym w.2 ∙ none)) in
        ap (option_and_then (meant_in words)) here ∙ ap (λ b. cond b (meant_by w.0) None) w.1 ∙ w.2

    nothing : asked_of words ≡ None → (o : Option Parts) → option_and_then (meant_in words) o ≡ None
    nothing e None = refl
    nothing e (Some parts) = by_writes (writes words parts) refl
      where
        by_meant : writes words parts ≡ true → (m : Option Request) → meant_by parts ≡ m → m ≡ None
        by_meant w None is = refl
        by_meant w (Some r) is = absurd (some≢none r (sym (line_sound words parts r w is) ∙ e))

        by_writes : (b : Bool) → writes words parts ≡ b → cond b (meant_by parts) None ≡ None
        by_writes true w = by_meant w (meant_by parts) refl
        by_writes false w = refl

    go : (o : Option Request) → asked_of words ≡ o → option_and_then (meant_in words) read ≡ o
    go (Some r) e = something r (words_write words r e)
    go None e = nothing e read

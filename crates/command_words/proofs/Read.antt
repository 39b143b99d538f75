-- A line that asks for something is found in each way to write it.
use Rattle.std.proofs.Common.{◌≡◌, ◌≢◌, Bool, true, false, true≢false, cond, refl, sym, subst, ap, ap₂, List, [], ◌∷◌, ◌∙◌, Option, Some, None, option_map, codes}
use Rattle.clap.specs.Words.{first_of, first_value, found_of, rows_of}
use Rattle.clap.proofs.WalkLemmas.{first_value-rows}
use Rattle.clap.specs.declared.ArgMatches.{ArgMatches}
use Rattle.command_words.specs.Asking.{Text, is_check, is_name, is_solo, look, run, run_of, schedule_of, is_schedule}
use Rattle.command_words.specs.Lines.{Parts, check_line, meant_by, solo_line, writes, writes_rest, joined}
use Rattle.command_words.specs.Parsed.{parts_in}
use Rattle.command_words.proofs.Digits.{both, by_digits}
use Rattle.command_words.proofs.Ways.{by_name, by_way, chosen, named, same}
use Rattle.command_words.proofs.Taken.{Finds, check_parts, check_alone, solo_parts, solo_alone, solo_joined_behind, solo_joined_before, solo_apart_behind, solo_apart_before}

-- the text of a schedule that runs something is one
spelled : (config text : Text) → run_of config (schedule_of text) ≢ None → is_schedule text ≡ true
spelled config text h = go (is_schedule text) refl
  where
    nothing : (b : Bool) → cond b (option_map (run config) None) None ≡ None
    nothing true = refl
    nothing false = refl

    go : (b : Bool) → is_schedule text ≡ b → is_schedule text ≡ true
    go true e = e
    go false e = absurd (h (rw e (nothing (is_name config))))

solo_read : (config : Text) (rest : List Text) (schedule : Option Text) → writes_rest rest config schedule ≡ true
    → solo_line config schedule ≢ None → Finds (codes "solo" ∷ rest) (solo_parts config schedule)
solo_read config rest schedule h = by_way (λ ws s. solo_line config s ≢ None → Finds (codes "solo" ∷ ws) (solo_parts config s)) config
    (λ some. by_name (λ n. Finds (codes "solo" ∷ n ∷ []) (solo_parts n None)) solo_alone config (named config (Some 0) some))
    (λ text some. by_name (λ n. Finds (codes "solo" ∷ n ∷ joined text ∷ []) (solo_parts n (Some text))) (solo_joined_behind text) config (named config (schedule_of text) some))
    (λ text some. by_name (λ n. Finds (codes "solo" ∷ joined text ∷ n ∷ []) (solo_parts n (Some text))) (solo_joined_before text) config (named config (schedule_of text) some))
    (λ text some. by_digits (λ t. Finds (codes "solo" ∷ config ∷ codes "--schedule" ∷ t ∷ []) (solo_parts config (Some t)))
    (λ d ds g. by_name (λ n. Finds (codes "solo" ∷ n ∷ codes "--schedule" ∷ (d ∷ ds) ∷ []) (solo_parts n (Some (d ∷ ds))))
    (λ x xs f. solo_apart_behind x xs d ds f g) config (named config (schedule_of text) some)) text (spelled config text some))
    (λ text some. by_digits (λ t. Finds (codes "solo" ∷ codes "--schedule" ∷ t ∷ config ∷ []) (solo_parts config (Some t)))
    (λ d ds g. by_name (λ n. Finds (codes "solo" ∷ codes "--schedule" ∷ (d ∷ ds) ∷ n ∷ []) (solo_parts n (Some (d ∷ ds))))
    (λ x xs f. solo_apart_before x xs d ds f g) config (named config (schedule_of text) some)) text (spelled config text some))
    rest schedule h

check_read : (config : Text) (rest : List Text) (schedule : Option Text) → writes_rest rest config schedule ≡ true
    → check_line config schedule ≢ None
    → Finds (codes "check" ∷ rest) (record { command = codes "check"; config = config; schedule = schedule })
check_read config rest schedule h = by_way
    (λ ws s. check_line config s ≢ None → Finds (codes "check" ∷ ws) (record { command = codes "check"; config = config; schedule = s })) config
    (λ some. by_name (λ n. Finds (codes "check" ∷ n ∷ []) (check_parts n)) check_alone config (chosen (is_name config) (Some (look config)) some).0)
    (λ text some. absurd (some refl))
    (λ text some. absurd (some refl))
    (λ text some. absurd (some refl))
    (λ text some. absurd (some refl))
    rest schedule h

rest_read : (command config : Text) (rest : List Text) (schedule : Option Text) → writes_rest rest config schedule ≡ true
    → meant_by (record { command = command; config = config; schedule = schedule }) ≢ None
    → Finds (command ∷ rest) (record { command = command; config = config; schedule = schedule })
rest_read command config rest schedule h = solo (is_solo command) refl
  where
    check : (b : Bool) → is_check command ≡ b → cond b (check_line config schedule) None ≢ None
        → Finds (command ∷ rest) (record { command = command; config = config; schedule = schedule })
    check true e some = subst (λ c. Finds (c ∷ rest) (record { command = c; config = config; schedule = schedule }))
        (sym (same command (codes "check") e)) (check_read config rest schedule h some)
    check false e some = absurd (some refl)

    solo : (b : Bool) → is_solo command ≡ b
        → cond b (solo_line config schedule) (cond (is_check command) (check_line config schedule) None) ≢ None
        → Finds (command ∷ rest) (record { command = command; config = config; schedule = schedule })
    solo true e some = subst (λ c. Finds (c ∷ rest) (record { command = c; config = config; schedule = schedule }))
        (sym (same command (codes "solo") e)) (solo_read config rest schedule h some)
    solo false e some = check (is_check command) refl some

-- a line that asks for something is found in what writes it
pub line_read : (words : List Text) (parts : Parts) → writes words parts ≡ true → meant_by parts ≢ None → Finds words parts
line_read [] parts h some = absurd (true≢false (sym h))
line_read (command ∷ rest) parts h some =
    let p = both _ _ h in
    subst (λ c. Finds (c ∷ rest) parts) (sym (same command parts.command p.0))
    (rest_read parts.command parts.config rest parts.schedule p.1 some)

-- what the getters give are the parts
pub parts_here : (m : ArgMatches) (command : Text) (config schedule : Option Text)
    → config ≡ first_value (found_of m) (codes "config") → schedule ≡ first_value (found_of m) (codes "schedule")
    → option_map (λ c. record { command = command; config = c; schedule = schedule }) config ≡ parts_in command (rows_of (found_of m))
parts_here m command config schedule e f =
    ap₂ (λ c s. option_map (λ n. record { command = command; config = n; schedule = s }) c)
    (e ∙ first_value-rows (found_of m) (codes "config")) (f ∙ first_value-rows (found_of m) (codes "schedule"))

pub none_here : (m : ArgMatches) (command : Text) → None ≡ first_value (found_of m) (codes "config")
    → None ≡ parts_in command (rows_of (found_of m))
none_here m command e = ap (λ c. option_map (λ n. record { command = command; config = n; schedule = first_of (codes "schedule") (rows_of (found_of m)) }) c)
    (e ∙ first_value-rows (found_of m) (codes "config"))

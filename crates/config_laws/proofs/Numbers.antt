-- The number of a participant: its place among the participants, which stands for its name.
use Rattle.std.proofs.Common.{◌≡◌, ℕ, suc, ◌+◌, ◌<◌, Bool, true, false, not, cond, List, [], ◌∷◌, length, get_or, find, Some, None, refl, ap, sym, ◌∙◌, arith}
use Rattle.std.specs.Prelude.{is_some, unwrap_or, nat_lt}
use Rattle.std.specs.List.{position_or_len}
use Rattle.std.specs.Str.{bytes_eq}
use Rattle.std.proofs.lemmas.Bool.{lt-ltb}
use Rattle.cpl_config.specs.declared.config.Config.{Config}
use Rattle.cpl_config.specs.declared.config.PartTable.{PartTable}
use Rattle.mesh_rules.specs.Named.{is_participant}
use Rattle.config_rules.specs.Circles.{number_of}
use Rattle.config_laws.proofs.Truths.{same_text}
use Rattle.config_laws.proofs.Pairs.{item_at}

-- the first place that passes
record IsPlace {X : Type 0} (p : X → Bool) (xs : List X) (place : ℕ) : Type 0 where
  within : place < length xs
  passes : (d : X) → p (get_or xs place d) ≡ true

one_more : (n : ℕ) → 1 + n ≡ suc n
one_more n = omega arith

place_here : {X : Type 0} (p : X → Bool) (x : X) (xs : List X) (b : Bool) → p x ≡ b → is_some (cond b (Some x) (find p xs)) ≡ true → (is_some (find p xs) ≡ true → IsPlace p xs (position_or_len p xs))
    → IsPlace p (x ∷ xs) (cond (not b) (1 + position_or_len p xs) 0)
place_here p x xs true is found rest = record { within = omega arith; passes = λ d. is }
place_here p x xs false is found rest =
    let later = rest found in
    record { within = omega (arith, later.within); passes = λ d. ap (λ (n : ℕ). p (get_or (x ∷ xs) n d)) (one_more (position_or_len p xs)) ∙ later.passes d }

first_place : {X : Type 0} (p : X → Bool) (xs : List X) → is_some (find p xs) ≡ true → IsPlace p xs (position_or_len p xs)
first_place p [] found = cc
first_place p (x ∷ xs) found = place_here p x xs (p x) refl found (first_place p xs)

placed : (place count : ℕ) → place < count → unwrap_or (cond (nat_lt place count) (Some place) None) 0 ≡ place
placed place count less = ap (λ b. unwrap_or (cond b (Some place) None) 0) (lt-ltb place count less)

-- a declared name has a number, at which the participant of this name stands
pub record IsNumbered (config : Config) (name : List ℕ) : Type 0 where
  pub within : number_of config name < length config.participant
  pub named : (d : PartTable) → (get_or config.participant (number_of config name) d).name ≡ name

pub numbered : (config : Config) (name : List ℕ) → is_participant config name ≡ true → IsNumbered config name
numbered config name declared =
    let test : PartTable → Bool = λ table. bytes_eq table.name name in
    let place : IsPlace test config.participant (position_or_len test config.participant) = first_place test config.participant declared in
    let is : number_of config name ≡ position_or_len test config.participant = placed (position_or_len test config.participant) (length config.participant) place.within in
    record {
      within = omega (arith, is, place.within);
      named = λ d. same_text (get_or config.participant (number_of config name) d).name name (ap (λ (n : ℕ). test (get_or config.participant n d)) is ∙ place.passes d);
    }

-- two declared names of one number are the same
pub same_name : (config : Config) (one other : List ℕ) → is_participant config one ≡ true → is_participant config other ≡ true → number_of config one ≡ number_of config other → one ≡ other
same_name config one other one_there other_there same =
    let first = numbered config one one_there in
    let second = numbered config other other_there in
    let item : PartTable = (item_at config.participant (number_of config one) first.within).0 in
    sym (first.named item) ∙ (ap (λ (n : ℕ). (get_or config.participant n item).name) same ∙ second.named item)

-- Where no rule is broken at any table, each table has what its kind asks for.
use Rattle.std.proofs.Common.{◌≡◌, Bool, false, ◌&&◌, List, [], ◌∷◌, ◌++◌, IsFalse, Option, Some, None, is_some, not, refl, sym, ap, subst, append_assoc, append-nil}
use Rattle.std.specs.List.{list_any, AllByRecursion}
use Rattle.std.specs.Option.{option_map_or}
use Rattle.std.proofs.lemmas.Bool.{or_parts, not-false, true≢false}
use Rattle.toml.specs.Data.{Data, Members, get_member}
use Rattle.cpl_tables.specs.declared.kinds.TableKind.{TableKind}
use Rattle.cpl_tables.specs.declared.shapes.Presence.{Presence}
use Rattle.cpl_tables.specs.declared.shapes.Presence.TheVariants.{Required, Optional}
use Rattle.cpl_tables.specs.declared.shapes.Shape.{Shape}
use Rattle.cpl_tables.specs.KeyRule.{KeyRule}
use Rattle.cpl_tables.specs.Keys.{keys_of}
use Rattle.cpl_tables.specs.Values.{has_type, is_spelled, has_length, has_no_repeat}
use Rattle.cpl_rules.specs.declared.rules.Rule.TheVariants.{UnknownKey, MissingKey, WrongType, BadSpelling, BadLength, Repeated}
use Rattle.cpl_rules.specs.Seen.{Seen, value_at}
use Rattle.cpl_rules.specs.BrokenRules.{names_in, is_listed, is_required, lacks, key_breaks, is_over_limit, is_second, breaks}
use Rattle.cpl_rules.specs.FirstBroken.{IsUnbroken}
use Rattle.cpl_config.proofs.SoundValues.{IsRightAt}

-- Rules, one entry after another

-- the rule is kept at each entry, after those before it
abbrev pub IsKept : {E : Type 0} → (List E → E → Bool) → List E → List E → Type 0
IsKept breaks before [] = Unit {0}
IsKept breaks before (entry ∷ entries) = IsFalse (breaks before entry) × IsKept breaks (before ++ entry ∷ []) entries

kept_after : {E : Type 0} (breaks : List E → E → Bool) (before entries : List E)
    → ((first : List E) (at : E) (after : List E) → entries ≡ first ++ at ∷ after → IsFalse (breaks (before ++ first) at)) → IsKept breaks before entries
kept_after breaks before [] unbroken = tt
kept_after {E} breaks before (entry ∷ entries) unbroken = (
  subst (λ (b : List E). IsFalse (breaks b entry)) (append-nil before) (unbroken [] entry entries refl),
  kept_after breaks (before ++ entry ∷ []) entries (λ first at after e.
      subst (λ (b : List E). IsFalse (breaks b at)) (sym (append_assoc before (entry ∷ []) first)) (unbroken (entry ∷ first) at after (ap (λ rest. entry ∷ rest) e))),
)

-- a rule that is broken nowhere is kept at each entry
pub each_kept : {E : Type 0} (breaks : List E → E → Bool) (entries : List E) → IsUnbroken breaks entries → IsKept breaks [] entries
each_kept breaks entries unbroken = kept_after breaks [] entries unbroken

-- Tables

-- what a table has under each of the keys
abbrev pub AreRight : List KeyRule → Members → Type 0
AreRight [] _ = Unit {0}
AreRight (key ∷ keys) members = IsRightAt key.presence key.shape (get_member key.name members) × AreRight keys members

pub record IsRightTable (kind : TableKind) (members : Members) : Type 0 where
  pub keys : AreRight (keys_of kind) members
  pub known : IsFalse (list_any (λ name. not (is_listed kind name)) (names_in members))

abbrev pub IsRightSeen : Seen → Type 0
IsRightSeen seen = IsRightTable seen.kind seen.members

right_at : (presence : Presence) (shape : Shape) (value : Option Data)
    → IsFalse (is_required presence && not (is_some value))
    → IsFalse (option_map_or (λ v. not (has_type shape v)) value false)
    → IsFalse (option_map_or (λ v. not (is_spelled shape v)) value false)
    → IsFalse (option_map_or (λ v. not (has_length shape v)) value false)
    → IsFalse (option_map_or (λ v. not (has_no_repeat shape v)) value false)
    → IsRightAt presence shape value
right_at Required shape None there typed spelled long once = absurd (true≢false there)
right_at Optional shape None there typed spelled long once = record { fits = refl }
right_at presence shape (Some value) there typed spelled long once =
    record { fits = record { typed = not-false _ typed; spelled = not-false _ spelled; long = not-false _ long; once = not-false _ once } }

right_keys : (seen : Seen) (keys : List KeyRule)
    → IsFalse (list_any (lacks seen) keys)
    → IsFalse (list_any (key_breaks WrongType seen) keys)
    → IsFalse (list_any (key_breaks BadSpelling seen) keys)
    → IsFalse (list_any (key_breaks BadLength seen) keys)
    → IsFalse (list_any (key_breaks Repeated seen) keys)
    → AreRight keys seen.members
right_keys seen [] there typed spelled long once = tt
right_keys seen (key ∷ keys) there typed spelled long once =
    let there' = or_parts (lacks seen key) (list_any (lacks seen) keys) there in
    let typed' = or_parts (key_breaks WrongType seen key) (list_any (key_breaks WrongType seen) keys) typed in
    let spelled' = or_parts (key_breaks BadSpelling seen key) (list_any (key_breaks BadSpelling seen) keys) spelled in
    let long' = or_parts (key_breaks BadLength seen key) (list_any (key_breaks BadLength seen) keys) long in
    let once' = or_parts (key_breaks Repeated seen key) (list_any (key_breaks Repeated seen) keys) once in (
      right_at key.presence key.shape (value_at seen key) there'.0 typed'.0 spelled'.0 long'.0 once'.0,
      right_keys seen keys there'.1 typed'.1 spelled'.1 long'.1 once'.1,
    )

-- no rule is broken at a table of the list: each of them is right
pub all_right : (before tables : List Seen)
    → IsKept (breaks UnknownKey) before tables
    → IsKept (breaks MissingKey) before tables
    → IsKept (breaks WrongType) before tables
    → IsKept (breaks BadSpelling) before tables
    → IsKept (breaks BadLength) before tables
    → IsKept (breaks Repeated) before tables
    → AllByRecursion IsRightSeen tables
all_right before [] known there typed spelled long once = tt
all_right before (table ∷ tables) known there typed spelled long once = (
  record {
    keys = right_keys table (keys_of table.kind) there.0 typed.0 spelled.0
        (or_parts (list_any (key_breaks BadLength table) (keys_of table.kind)) (is_over_limit before table) long.0).0
        (or_parts (list_any (key_breaks Repeated table) (keys_of table.kind)) (is_second before table) once.0).0;
    known = known.0;
  },
  all_right (before ++ table ∷ []) tables known.1 there.1 typed.1 spelled.1 long.1 once.1,
)

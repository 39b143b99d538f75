-- The first broken rule, and its first place: each rule is tried over all entries before the next rule. The project's own.
use Rattle.std.specs.Prelude.{◌≡◌, Bool, IsTrue, IsFalse, List, [], ◌∷◌, ◌++◌, All, Option, Some, None, if◌then◌else◌}

-- the first of the entries that breaks a rule, which looks at an entry and those before it
abbrev pub first_place_after : {E : Type 0} → (List E → E → Bool) → (before : List E) → List E → Option E
first_place_after breaks before [] = None
first_place_after breaks before (entry ∷ entries) =
    if breaks before entry then Some entry else first_place_after breaks (before ++ entry ∷ []) entries

abbrev pub first_place : {E : Type 0} → (List E → E → Bool) → List E → Option E
first_place breaks entries = first_place_after breaks [] entries

-- the place at which a rule is broken, or else what later rules say
abbrev pub at_or : {R E : Type 0} → R → Option E → Option (R × E) → Option (R × E)
at_or rule (Some entry) _ = Some (rule, entry)
at_or rule None later = later

-- the first of the rules that is broken, and the first entry that breaks it
abbrev pub first_broken : {R E : Type 0} → (R → List E → E → Bool) → List R → List E → Option (R × E)
first_broken breaks [] entries = None
first_broken breaks (rule ∷ rules) entries = at_or rule (first_place (breaks rule) entries) (first_broken breaks rules entries)

-- no entry breaks the rule
abbrev pub IsUnbroken : {E : Type 0} → (List E → E → Bool) → List E → Type 0
IsUnbroken {E} breaks entries = (before : List E) (at : E) (after : List E) → entries ≡ before ++ at ∷ after → IsFalse (breaks before at)

-- at this entry, after those before it, the rule is broken, and at no earlier one
pub record IsFirstPlace {E : Type 0} (breaks : List E → E → Bool) (entries : List E) (at : E) : Type 0 where
  pub before : List E
  pub after : List E
  pub stands : entries ≡ before ++ at ∷ after
  pub broken : IsTrue (breaks before at)
  pub first : IsUnbroken breaks before

-- this rule is broken first at this entry, and no earlier rule is broken at any
pub record IsFirstBroken {R E : Type 0} (breaks : R → List E → E → Bool) (rules : List R) (entries : List E) (rule : R) (at : E) : Type 0 where
  pub earlier : List R
  pub later : List R
  pub stands : rules ≡ earlier ++ rule ∷ later
  pub place : IsFirstPlace (breaks rule) entries at
  pub kept : All (λ other. IsUnbroken (breaks other) entries) earlier

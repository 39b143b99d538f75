-- The first place and the first broken rule, as functions and as relations.
use Rattle.std.proofs.Common.{◌≡◌, Bool, true, false, List, [], ◌∷◌, ◌++◌, append_assoc, append-nil, Option, Some, None, All, refl, ap, sym, ◌∙◌, subst, inl, inr}
use Rattle.std.proofs.lemmas.Bool.{cases_Bool}
use Rattle.std.proofs.lemmas.List.Elements.{All-nil, All-cons, All-head, All-tail}
use Rattle.cpl_rules.specs.FirstBroken.{first_place_after, first_place, at_or, first_broken, IsUnbroken, IsFirstPlace, IsFirstBroken}

-- no entry of the list breaks the rule, after some before it
abbrev pub IsUnbrokenAfter : {E : Type 0} → (List E → E → Bool) → (before entries : List E) → Type 0
IsUnbrokenAfter {E} breaks before entries = (first : List E) (at : E) (after : List E) → entries ≡ first ++ at ∷ after → breaks (before ++ first) at ≡ false

no_split : {E : Type 0} (first : List E) (at : E) (after : List E) → [] ≡ first ++ at ∷ after → ⊥
no_split [] at after h = cc
no_split (e ∷ first) at after h = cc

pub unbroken-nil : {E : Type 0} (breaks : List E → E → Bool) (before : List E) → IsUnbrokenAfter breaks before []
unbroken-nil breaks before first at after h = absurd (no_split first at after h)

-- one entry that keeps the rule, and those after it
pub unbroken-cons : {E : Type 0} (breaks : List E → E → Bool) (before : List E) (entry : E) (entries : List E) → breaks before entry ≡ false → IsUnbrokenAfter breaks (before ++ entry ∷ []) entries
    → IsUnbrokenAfter breaks before (entry ∷ entries)
unbroken-cons {E} breaks before entry entries kept more [] at after h =
    let heads : entry ≡ at = cc in
    ap (λ (b : List E). breaks b at) (append-nil before) ∙ (ap (breaks before) (sym heads) ∙ kept)
unbroken-cons {E} breaks before entry entries kept more (e ∷ first) at after h =
    let heads : entry ≡ e = cc in
    let tails : entries ≡ first ++ at ∷ after = cc in
    ap (λ (b : List E). breaks b at) (sym (append_assoc before (entry ∷ []) first ∙ ap (λ x. before ++ x ∷ first) heads)) ∙ more first at after tails

unbroken-head : {E : Type 0} (breaks : List E → E → Bool) (before : List E) (entry : E) (entries : List E) → IsUnbrokenAfter breaks before (entry ∷ entries) → breaks before entry ≡ false
unbroken-head {E} breaks before entry entries h = ap (λ (b : List E). breaks b entry) (sym (append-nil before)) ∙ h [] entry entries refl

unbroken-tail : {E : Type 0} (breaks : List E → E → Bool) (before : List E) (entry : E) (entries : List E) → IsUnbrokenAfter breaks before (entry ∷ entries)
    → IsUnbrokenAfter breaks (before ++ entry ∷ []) entries
unbroken-tail {E} breaks before entry entries h first at after e =
    ap (λ (b : List E). breaks b at) (append_assoc before (entry ∷ []) first) ∙ h (entry ∷ first) at after (ap (λ es. entry ∷ es) e)

-- where no entry breaks the rule there is no first place
pub first_place_after-unbroken : {E : Type 0} (breaks : List E → E → Bool) (before entries : List E) → IsUnbrokenAfter breaks before entries → first_place_after breaks before entries ≡ None
first_place_after-unbroken breaks before [] h = refl
first_place_after-unbroken breaks before (entry ∷ entries) h =
    rw (unbroken-head breaks before entry entries h) (first_place_after-unbroken breaks (before ++ entry ∷ []) entries (unbroken-tail breaks before entry entries h))

-- an entry at which the rule is broken, after some that keep it, is the first place
pub first_place_after-at : {E : Type 0} (breaks : List E → E → Bool) (before first : List E) (at : E) (after : List E) → IsUnbrokenAfter breaks before first → breaks (before ++ first) at ≡ true
    → first_place_after breaks before (first ++ at ∷ after) ≡ Some at
first_place_after-at {E} breaks before [] at after h broken =
    let here : breaks before at ≡ true = ap (λ (b : List E). breaks b at) (sym (append-nil before)) ∙ broken in
    rw here refl
first_place_after-at {E} breaks before (entry ∷ first) at after h broken =
    rw (unbroken-head breaks before entry first h)
    (first_place_after-at breaks (before ++ entry ∷ []) first at after (unbroken-tail breaks before entry first h)
    (ap (λ (b : List E). breaks b at) (append_assoc before (entry ∷ []) first) ∙ broken))

-- what the first place tells, in a list after some entries
pub record IsPlaceAfter {E : Type 0} (breaks : List E → E → Bool) (before entries : List E) (at : E) : Type 0 where
  pub first : List E
  pub after : List E
  pub stands : entries ≡ first ++ at ∷ after
  pub broken : breaks (before ++ first) at ≡ true
  pub kept : IsUnbrokenAfter breaks before first

abbrev pub Tells : {E : Type 0} → (List E → E → Bool) → (before entries : List E) → Option E → Type 0
Tells breaks before entries None = IsUnbrokenAfter breaks before entries
Tells breaks before entries (Some at) = IsPlaceAfter breaks before entries at

tells-next : {E : Type 0} (breaks : List E → E → Bool) (before : List E) (entry : E) (entries : List E) (found : Option E) → breaks before entry ≡ false → Tells breaks (before ++ entry ∷ []) entries found
    → Tells breaks before (entry ∷ entries) found
tells-next breaks before entry entries None kept more = unbroken-cons breaks before entry entries kept more
tells-next {E} breaks before entry entries (Some at) kept more = record {
  first = entry ∷ more.first;
  after = more.after;
  stands = ap (λ es. entry ∷ es) more.stands;
  broken = ap (λ (b : List E). breaks b at) (sym (append_assoc before (entry ∷ []) more.first)) ∙ more.broken;
  kept = unbroken-cons breaks before entry more.first kept more.kept;
}

tells-here : {E : Type 0} (breaks : List E → E → Bool) (before : List E) (entry : E) (entries : List E) → breaks before entry ≡ true → IsPlaceAfter breaks before (entry ∷ entries) entry
tells-here {E} breaks before entry entries broken = record {
  first = [];
  after = entries;
  stands = refl;
  broken = ap (λ (b : List E). breaks b entry) (append-nil before) ∙ broken;
  kept = unbroken-nil breaks before;
}

pub first_place_after-tells : {E : Type 0} (breaks : List E → E → Bool) (before entries : List E) → Tells breaks before entries (first_place_after breaks before entries)
first_place_after-tells breaks before [] = unbroken-nil breaks before
first_place_after-tells breaks before (entry ∷ entries) =
    elim (cases_Bool (breaks before entry)) [
      | inl broken ↦ rw broken (tells-here breaks before entry entries broken)
      | inr kept ↦ rw kept (tells-next breaks before entry entries _ kept (first_place_after-tells breaks (before ++ entry ∷ []) entries))
    ]

-- where there is no first place no entry breaks the rule
pub first_place-none : {E : Type 0} (breaks : List E → E → Bool) (entries : List E) → first_place breaks entries ≡ None → IsUnbroken breaks entries
first_place-none breaks entries h = subst (Tells breaks [] entries) h (first_place_after-tells breaks [] entries)

-- the first place is one that stands in the list, breaks the rule there, and has none before it that does
pub first_place-some : {E : Type 0} (breaks : List E → E → Bool) (entries : List E) (at : E) → first_place breaks entries ≡ Some at → IsFirstPlace breaks entries at
first_place-some breaks entries at h =
    let told : IsPlaceAfter breaks [] entries at = subst (Tells breaks [] entries) h (first_place_after-tells breaks [] entries) in
    record { before = told.first; after = told.after; stands = told.stands; broken = told.broken; first = told.kept }

pub first_place-unbroken : {E : Type 0} (breaks : List E → E → Bool) (entries : List E) → IsUnbroken breaks entries → first_place breaks entries ≡ None
first_place-unbroken breaks entries h = first_place_after-unbroken breaks [] entries h

pub first_place-at : {E : Type 0} (breaks : List E → E → Bool) (entries : List E) (at : E) → IsFirstPlace breaks entries at → first_place breaks entries ≡ Some at
first_place-at breaks entries at h = ap (first_place breaks) h.stands ∙ first_place_after-at breaks [] h.before at h.after h.first h.broken

-- what the first broken rule tells
abbrev pub TellsRule : {R E : Type 0} → (R → List E → E → Bool) → List R → List E → Option (R × E) → Type 0
TellsRule breaks rules entries None = All (λ rule. IsUnbroken (breaks rule) entries) rules
TellsRule breaks rules entries (Some found) = IsFirstBroken breaks rules entries found.0 found.1

tells_rule-next : {R E : Type 0} (breaks : R → List E → E → Bool) (rule : R) (rules : List R) (entries : List E) (found : Option (R × E)) → IsUnbroken (breaks rule) entries → TellsRule breaks rules entries found
    → TellsRule breaks (rule ∷ rules) entries found
tells_rule-next {R} breaks rule rules entries None kept more = All-cons (λ (other : R). IsUnbroken (breaks other) entries) rule rules kept more
tells_rule-next {R} breaks rule rules entries (Some found) kept more = record {
  earlier = rule ∷ more.earlier;
  later = more.later;
  stands = ap (λ rs. rule ∷ rs) more.stands;
  place = more.place;
  kept = All-cons (λ (other : R). IsUnbroken (breaks other) entries) rule more.earlier kept more.kept;
}

tells_rule-at : {R E : Type 0} (breaks : R → List E → E → Bool) (rule : R) (rules : List R) (entries : List E) (place : Option E) → first_place (breaks rule) entries ≡ place → (later : Option (R × E)) → TellsRule breaks rules entries later
    → TellsRule breaks (rule ∷ rules) entries (at_or rule place later)
tells_rule-at breaks rule rules entries None h later more = tells_rule-next breaks rule rules entries later (first_place-none (breaks rule) entries h) more
tells_rule-at {R} breaks rule rules entries (Some at) h later more = record {
  earlier = [];
  later = rules;
  stands = refl;
  place = first_place-some (breaks rule) entries at h;
  kept = All-nil (λ (other : R). IsUnbroken (breaks other) entries);
}

pub first_broken-tells : {R E : Type 0} (breaks : R → List E → E → Bool) (rules : List R) (entries : List E) → TellsRule breaks rules entries (first_broken breaks rules entries)
first_broken-tells {R} breaks [] entries = All-nil (λ (other : R). IsUnbroken (breaks other) entries)
first_broken-tells breaks (rule ∷ rules) entries = tells_rule-at breaks rule rules entries (first_place (breaks rule) entries) refl (first_broken breaks rules entries) (first_broken-tells breaks rules entries)

-- where no rule is told, no rule is broken at any entry
pub first_broken-none : {R E : Type 0} (breaks : R → List E → E → Bool) (rules : List R) (entries : List E) → first_broken breaks rules entries ≡ None → All (λ rule. IsUnbroken (breaks rule) entries) rules
first_broken-none breaks rules entries h = subst (TellsRule breaks rules entries) h (first_broken-tells breaks rules entries)

-- the rule that is told is the first broken one, at its first place
pub first_broken-some : {R E : Type 0} (breaks : R → List E → E → Bool) (rules : List R) (entries : List E) (rule : R) (at : E) → first_broken breaks rules entries ≡ Some (rule, at) → IsFirstBroken breaks rules entries rule at
first_broken-some breaks rules entries rule at h = subst (TellsRule breaks rules entries) h (first_broken-tells breaks rules entries)

at_later : {R E : Type 0} (breaks : R → List E → E → Bool) (earlier : List R) (rule : R) (later : List R) (entries : List E) (at : E) → All (λ other. IsUnbroken (breaks other) entries) earlier → first_place (breaks rule) entries ≡ Some at
    → first_broken breaks (earlier ++ rule ∷ later) entries ≡ Some (rule, at)
at_later breaks [] rule later entries at kept place = rw place refl
at_later {R} breaks (other ∷ earlier) rule later entries at kept place =
    rw (first_place-unbroken (breaks other) entries (All-head (λ (r : R). IsUnbroken (breaks r) entries) other earlier kept))
    (at_later breaks earlier rule later entries at (All-tail (λ (r : R). IsUnbroken (breaks r) entries) other earlier kept) place)

-- what is broken first is told
pub first_broken-at : {R E : Type 0} (breaks : R → List E → E → Bool) (rules : List R) (entries : List E) (rule : R) (at : E) → IsFirstBroken breaks rules entries rule at → first_broken breaks rules entries ≡ Some (rule, at)
first_broken-at breaks rules entries rule at h =
    ap (λ rs. first_broken breaks rs entries) h.stands ∙ at_later breaks h.earlier rule h.later entries at h.kept (first_place-at (breaks rule) entries at h.place)

same_pair : {R E : Type 0} (p q : R × E) → Some p ≡ Some q → (p.0 ≡ q.0) × (p.1 ≡ q.1)
same_pair p q h =
    let same : p ≡ q = cc in
    (ap (λ t. t.0) same, ap (λ t. t.1) same)

-- there is at most one rule that is broken first, and one place
pub only_first_broken : {R E : Type 0} (breaks : R → List E → E → Bool) (rules : List R) (entries : List E) (r s : R) (d e : E) → IsFirstBroken breaks rules entries r d → IsFirstBroken breaks rules entries s e → (r ≡ s) × (d ≡ e)
only_first_broken {R} {E} breaks rules entries r s d e one other =
    let p : R × E = (r, d) in
    let q : R × E = (s, e) in
    same_pair p q (sym (first_broken-at breaks rules entries r d one) ∙ first_broken-at breaks rules entries s e other)

all_kept_after : {E : Type 0} (breaks : E → Bool) (before entries : List E) → IsUnbrokenAfter (λ _. breaks) before entries → All (λ at. breaks at ≡ false) entries
all_kept_after {E} breaks before [] h = All-nil (λ (at : E). breaks at ≡ false)
all_kept_after {E} breaks before (entry ∷ entries) h =
    All-cons (λ (at : E). breaks at ≡ false) entry entries (unbroken-head (λ _. breaks) before entry entries h) (all_kept_after breaks (before ++ entry ∷ []) entries (unbroken-tail (λ _. breaks) before entry entries h))

-- a rule that looks at an entry alone is kept by each entry of a list that nowhere breaks it
pub all_kept : {E : Type 0} (breaks : E → Bool) (entries : List E) → IsUnbroken (λ _. breaks) entries → All (λ at. breaks at ≡ false) entries
all_kept breaks entries h = all_kept_after breaks [] entries h

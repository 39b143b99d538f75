-- The nodes of an accepted configuration, numbered as its plan numbers them.
use Rattle.std.proofs.Common.{◌≡◌, ℕ, zero, suc, ◌+◌, ◌<◌, ◌≤◌, Bool, true, false, not, ◌&&◌, ◌||◌, cond, nat_eq, nat_lt, inl, inr, List, [], ◌∷◌, length, map, Option, Some, None, refl, ap, sym, ◌∙◌, arith}
use Rattle.std.specs.Prelude.{slice_get, filter, slice_index_or}
use Rattle.std.specs.List.{list_any, enumerate_from}
use Rattle.std.specs.Option.{option_map_or}
use Rattle.std.proofs.lemmas.Bool.{and_parts, lt-ltb, ltb-true, cases_Bool, cases_lt}
use Rattle.std.proofs.lemmas.Option.{slice_get_within, slice_get_past, get_or_from_slice_get}
use Rattle.std.proofs.lemmas.List.{length-map, map-id, get_or_past}
use Rattle.cpl_config.specs.declared.config.Config.{Config}
use Rattle.cpl_config.specs.declared.config.PartTable.{PartTable}
use Rattle.cpl_config.specs.declared.config.SchemeTable.{SchemeTable}
use Rattle.cpl_config.specs.SoundConfig.{IsSoundConfig}
use Rattle.cpl_plan.specs.PlanNodes.{node_members, members_if_implicit, itself_if_alone}
use Rattle.cpl_plan.specs.declared.parts.Scheme.{Scheme}
use Rattle.cpl_plan.proofs.Readings.{there}
use Rattle.plan_order.specs.Groups.{is_grouped}
use Rattle.plan_order.specs.Renaming.{IsRenumbering}
use Rattle.plan_order.specs.declared.node.Node.{Node}
use Rattle.plan_order.specs.declared.node.Node.TheVariants.{Single, Group}
use Rattle.config_rules.specs.ConfigRules.{IsAccepted}
use Rattle.config_rules.specs.Members.{is_implicit, is_member, members}
use Rattle.config_laws.specs.Numbered.{numbers_in, groups_in, node_numbers}
use Rattle.config_laws.proofs.Truths.{first_found}
use Rattle.scheme_parts.specs.NumbersOf.{part_number, exchanges_before}
use Rattle.scheme_parts.specs.SchemeOf.{scheme_of}
use Rattle.scheme_parts.proofs.Tables.{same_some, none_some, map_at, numbered_at, at_numbered, found_place}
use Rattle.scheme_parts.proofs.NamedTables.{among_same, place_is_number}
use Rattle.plan_build.specs.Nodes.{implicit_numbers, node_name}
use Rattle.plan_build.specs.PartOf.{part_of, group_of}
use Rattle.plan_build.specs.PlanOf.{plan_of, schemes_of}
use Rattle.plan_build.proofs.GroupFacts.{nowhere}
use Rattle.plan_build.proofs.PlanReadings.{part_name, any_map, part_at, part_all, part_itself, members_declared}

-- what a filter keeps, and its number

abbrev passing : {X : Type 0} → (X → Bool) → ℕ → List X → List ℕ
passing test start xs = map (λ numbered. numbered.0) (filter (λ numbered. test numbered.1) (enumerate_from start xs))

record IsKept {X : Type 0} (test : X → Bool) (start : ℕ) (xs : List X) (g : ℕ) : Type 0 where
  place : ℕ
  item : X
  kept : slice_get (filter test xs) g ≡ Some item
  number : slice_get (passing test start xs) g ≡ Some (start + place)
  at : slice_get xs place ≡ Some item
  holds : test item ≡ true

-- both lists at an item that passes, and at one that fails
yes_lists : {X : Type 0} (test : X → Bool) (start : ℕ) (x : X) (xs : List X) → test x ≡ true → (filter test (x ∷ xs) ≡ x ∷ filter test xs) × (passing test start (x ∷ xs) ≡ start ∷ passing test (start + 1) xs)
yes_lists test start x xs is = (
  ap (λ b. cond b (x ∷ filter test xs) (filter test xs)) is,
  ap (λ b. map (λ numbered. numbered.0) (cond b ((start, x) ∷ filter (λ numbered. test numbered.1) (enumerate_from (start + 1) xs)) (filter (λ numbered. test numbered.1) (enumerate_from (start + 1) xs)))) is,
)

no_lists : {X : Type 0} (test : X → Bool) (start : ℕ) (x : X) (xs : List X) → test x ≡ false → (filter test (x ∷ xs) ≡ filter test xs) × (passing test start (x ∷ xs) ≡ passing test (start + 1) xs)
no_lists test start x xs is = (
  ap (λ b. cond b (x ∷ filter test xs) (filter test xs)) is,
  ap (λ b. map (λ numbered. numbered.0) (cond b ((start, x) ∷ filter (λ numbered. test numbered.1) (enumerate_from (start + 1) xs)) (filter (λ numbered. test numbered.1) (enumerate_from (start + 1) xs)))) is,
)

kept_later : {X : Type 0} (test : X → Bool) (start : ℕ) (x : X) (xs : List X) (g : ℕ) (h : ℕ) → slice_get (filter test (x ∷ xs)) h ≡ slice_get (filter test xs) g → slice_get (passing test start (x ∷ xs)) h ≡ slice_get (passing test (start + 1) xs) g
    → IsKept test (start + 1) xs g → IsKept test start (x ∷ xs) h
kept_later test start x xs g h same same' is =
    let on : start + 1 + is.place ≡ start + suc is.place = omega (arith) in
    record { place = suc is.place; item = is.item; kept = same ∙ is.kept; number = same' ∙ (is.number ∙ ap (λ (n : ℕ). Some n) on); at = is.at; holds = is.holds }

-- what is kept at a place
kept_at : {X : Type 0} (test : X → Bool) (start : ℕ) (xs : List X) (g : ℕ) → g < length (filter test xs) → IsKept test start xs g
kept_at test start [] g less = absurd (omega (arith, less))
kept_at test start (x ∷ xs) zero less = elim (cases_Bool (test x)) [
  | inl is ↦
      let lists = yes_lists test start x xs is in
      let on : start ≡ start + 0 = omega (arith) in
      record { place = 0; item = x; kept = ap (λ ys. slice_get ys 0) lists.0; number = ap (λ ys. slice_get ys 0) lists.1 ∙ ap (λ (n : ℕ). Some n) on; at = refl; holds = is }
  | inr is ↦
      let lists = no_lists test start x xs is in
      kept_later test start x xs 0 0 (ap (λ ys. slice_get ys 0) lists.0) (ap (λ ys. slice_get ys 0) lists.1) (kept_at test (start + 1) xs 0 (omega (arith, less, ap length lists.0)))
]
kept_at test start (x ∷ xs) (suc g) less = elim (cases_Bool (test x)) [
  | inl is ↦
      let lists = yes_lists test start x xs is in
      kept_later test start x xs g (suc g) (ap (λ ys. slice_get ys (suc g)) lists.0) (ap (λ ys. slice_get ys (suc g)) lists.1) (kept_at test (start + 1) xs g (omega (arith, less, ap length lists.0)))
  | inr is ↦
      let lists = no_lists test start x xs is in
      kept_later test start x xs (suc g) (suc g) (ap (λ ys. slice_get ys (suc g)) lists.0) (ap (λ ys. slice_get ys (suc g)) lists.1) (kept_at test (start + 1) xs (suc g) (omega (arith, less, ap length lists.0)))
]

-- the place of what passes among what is kept
record IsKeptAs {X : Type 0} (test : X → Bool) (start : ℕ) (xs : List X) (k : ℕ) (x : X) : Type 0 where
  among : ℕ
  kept : slice_get (filter test xs) among ≡ Some x
  number : slice_get (passing test start xs) among ≡ Some (start + k)

place_kept : {X : Type 0} (test : X → Bool) (start : ℕ) (xs : List X) (k : ℕ) (x : X) → slice_get xs k ≡ Some x → test x ≡ true → IsKeptAs test start xs k x
place_kept test start [] k x at holds = absurd (none_some at)
place_kept test start (y ∷ xs) zero x at holds =
    let lists = yes_lists test start y xs (ap test (same_some at) ∙ holds) in
    let on : start ≡ start + 0 = omega (arith) in
    record { among = 0; kept = ap (λ ys. slice_get ys 0) lists.0 ∙ at; number = ap (λ ys. slice_get ys 0) lists.1 ∙ ap (λ (n : ℕ). Some n) on }
place_kept test start (y ∷ xs) (suc k) x at holds =
    let later = place_kept test (start + 1) xs k x at holds in
    let on : start + 1 + k ≡ start + suc k = omega (arith) in
    elim (cases_Bool (test y)) [
      | inl is ↦
          let lists = yes_lists test start y xs is in
          record { among = suc later.among; kept = ap (λ ys. slice_get ys (suc later.among)) lists.0 ∙ later.kept; number = ap (λ ys. slice_get ys (suc later.among)) lists.1 ∙ (later.number ∙ ap (λ (n : ℕ). Some n) on) }
      | inr is ↦
          let lists = no_lists test start y xs is in
          record { among = later.among; kept = ap (λ ys. slice_get ys later.among) lists.0 ∙ later.kept; number = ap (λ ys. slice_get ys later.among) lists.1 ∙ (later.number ∙ ap (λ (n : ℕ). Some n) on) }
    ]

-- numbers rise, so each stands once
low : {X : Type 0} (test : X → Bool) (start : ℕ) (xs : List X) (g n : ℕ) → slice_get (passing test start xs) g ≡ Some n → start ≤ n
low test start [] g n at = absurd (none_some at)
low test start (x ∷ xs) zero n at = elim (cases_Bool (test x)) [
  | inl is ↦ omega (arith, same_some (sym (ap (λ ys. slice_get ys 0) (yes_lists test start x xs is).1) ∙ at))
  | inr is ↦ let later = low test (start + 1) xs 0 n (sym (ap (λ ys. slice_get ys 0) (no_lists test start x xs is).1) ∙ at) in omega (arith, later)
]
low test start (x ∷ xs) (suc g) n at = elim (cases_Bool (test x)) [
  | inl is ↦ let later = low test (start + 1) xs g n (sym (ap (λ ys. slice_get ys (suc g)) (yes_lists test start x xs is).1) ∙ at) in omega (arith, later)
  | inr is ↦ let later = low test (start + 1) xs (suc g) n (sym (ap (λ ys. slice_get ys (suc g)) (no_lists test start x xs is).1) ∙ at) in omega (arith, later)
]

once : {X : Type 0} (test : X → Bool) (start : ℕ) (xs : List X) (g h n : ℕ) → slice_get (passing test start xs) g ≡ Some n → slice_get (passing test start xs) h ≡ Some n → g ≡ h
once test start [] g h n at at' = absurd (none_some at)
once {X} test start (x ∷ xs) g h n at at' = elim (cases_Bool (test x)) [
  | inl is ↦
      let list : passing test start (x ∷ xs) ≡ start ∷ passing test (start + 1) xs = (yes_lists test start x xs is).1 in
      at_front (passing test (start + 1) xs) g h (sym (ap (λ ys. slice_get ys g) list) ∙ at) (sym (ap (λ ys. slice_get ys h) list) ∙ at') (low test (start + 1) xs) (λ i j one other. once test (start + 1) xs i j n one other)
  | inr is ↦
      let list : passing test start (x ∷ xs) ≡ passing test (start + 1) xs = (no_lists test start x xs is).1 in
      once test (start + 1) xs g h n (sym (ap (λ ys. slice_get ys g) list) ∙ at) (sym (ap (λ ys. slice_get ys h) list) ∙ at')
]
  where
    at_front : (rest : List ℕ) (g h : ℕ) → slice_get (start ∷ rest) g ≡ Some n → slice_get (start ∷ rest) h ≡ Some n → ((i m : ℕ) → slice_get rest i ≡ Some m → start + 1 ≤ m)
        → ((i j : ℕ) → slice_get rest i ≡ Some n → slice_get rest j ≡ Some n → i ≡ j) → g ≡ h
    at_front rest zero zero one other up same = refl
    at_front rest zero (suc h) one other up same = absurd (omega (arith, up h n other, same_some one))
    at_front rest (suc g) zero one other up same = absurd (omega (arith, up g n one, same_some other))
    at_front rest (suc g) (suc h) one other up same = ap suc (same g h one other)

-- what is found among what is kept
any_kept : {X : Type 0} (p q : X → Bool) (xs : List X) → list_any q (filter p xs) ≡ list_any (λ x. p x && q x) xs
any_kept p q [] = refl
any_kept {X} p q (x ∷ xs) = elim (cases_Bool (p x)) [
  | inl is ↦
      ap (λ b. list_any q (cond b (x ∷ filter p xs) (filter p xs))) is
      ∙ (ap (λ b. q x || b) (any_kept p q xs) ∙ sym (ap (λ b. (b && q x) || list_any (λ y. p y && q y) xs) is))
  | inr is ↦
      ap (λ b. list_any q (cond b (x ∷ filter p xs) (filter p xs))) is
      ∙ (any_kept p q xs ∙ sym (ap (λ b. (b && q x) || list_any (λ y. p y && q y) xs) is))
]

any_agree : {X : Type 0} (p q : X → Bool) (xs : List X) → ((k : ℕ) (x : X) → slice_get xs k ≡ Some x → p x ≡ q x) → list_any p xs ≡ list_any q xs
any_agree p q [] same = refl
any_agree p q (x ∷ xs) same = ap (λ b. b || list_any p xs) (same 0 x refl) ∙ ap (λ b. q x || b) (any_agree p q xs (λ k y at. same (suc k) y at))

has_length : {X : Type 0} (b : Bool) (x : X) → 0 < length (cond b (x ∷ []) []) → b ≡ true
has_length true x some = refl
has_length false x some = absurd (omega (arith, some))

some_members : (b : Bool) (xs : List ℕ) → 0 < length (cond b xs []) → b ≡ true
some_members true xs some = refl
some_members false xs some = absurd (omega (arith, some))

module _ (config : Config) (sound : IsSoundConfig config) (accepted : IsAccepted config) (nodes : List Node) where
  abbrev numbers : List ℕ
  numbers = implicit_numbers config.scheme

  -- a participant is in a group where it has one by its name
  grouped_is : (p : ℕ) (table : PartTable) → slice_get config.participant p ≡ Some table → is_grouped (groups_in config) p ≡ list_any (λ scheme. is_implicit scheme && is_member table.name scheme) config.scheme
  grouped_is p table at =
      let number : part_number config table.name ≡ p = place_is_number part_name config.participant p table sound.participant_once at in
      any_map (λ group. list_any (λ member. nat_eq member p) group) (numbers_in config) (filter is_implicit config.scheme)
      ∙ (any_kept is_implicit (λ scheme. list_any (λ member. nat_eq member p) (numbers_in config scheme)) config.scheme
      ∙ any_agree (λ scheme. is_implicit scheme && list_any (λ member. nat_eq member p) (numbers_in config scheme)) (λ scheme. is_implicit scheme && is_member table.name scheme) config.scheme
      (λ s scheme at_scheme.
      ap (λ b. is_implicit scheme && b)
      (ap (λ (k : ℕ). list_any (λ member. nat_eq member k) (numbers_in config scheme)) (sym number)
      ∙ among_same part_name config.participant table.name (members scheme) (part_at config table.name (part_itself config p table at)) (part_all config (members scheme) (members_declared config accepted s scheme at_scheme)))))

  -- a participant alone is a node in both
  alone_is : (p : ℕ) (table : PartTable) → slice_get config.participant p ≡ Some table → node_numbers config (Single p) ≡ node_members (plan_of config nodes) (Single p)
  alone_is p table at =
      let test : SchemeTable → Bool = λ scheme. is_implicit scheme && is_member table.name scheme in
      let less : nat_lt p (length config.participant) ≡ true = lt-ltb p (length config.participant) (slice_get_within config.participant p table at) in
      let plan_side : node_members (plan_of config nodes) (Single p) ≡ itself_if_alone p (group_of config table.name) = ap (λ o. option_map_or (λ part. itself_if_alone p part.group) o []) (map_at (part_of config) config.participant p table at) in
      let by_any : (b : Bool) → list_any test config.scheme ≡ b → cond (not b) (p ∷ []) [] ≡ itself_if_alone p (group_of config table.name) =
      λ b is. grouped_or_not b is in
      ap (λ b. cond (b && not (is_grouped (groups_in config) p)) (p ∷ []) []) less
      ∙ (ap (λ b. cond (not b) (p ∷ []) []) (grouped_is p table at) ∙ (by_any (list_any test config.scheme) refl ∙ sym plan_side))
    where
      grouped_or_not : (b : Bool) → list_any (λ scheme. is_implicit scheme && is_member table.name scheme) config.scheme ≡ b → cond (not b) (p ∷ []) [] ≡ itself_if_alone p (group_of config table.name)
      grouped_or_not true is =
          let found = first_found (λ scheme. is_implicit scheme && is_member table.name scheme) config.scheme is in
          let place = found_place (λ scheme. is_implicit scheme && is_member table.name scheme) config.scheme found.0 found.1 in
          sym (ap (itself_if_alone p) place.1)
      grouped_or_not false is = sym (ap (itself_if_alone p) (nowhere (λ scheme. is_implicit scheme && is_member table.name scheme) config.scheme is))

  -- so is a group, by its number
  abbrev IsGroup : ℕ → Type 0
  IsGroup g = IsKept is_implicit 0 config.scheme g

  group_there : (g : ℕ) → 0 < length (node_numbers config (Group g)) → IsGroup g
  group_there g some = elim (cases_lt g (length (groups_in config))) [
    | inl less ↦ kept_at is_implicit 0 config.scheme g (omega (arith, less, length-map (filter is_implicit config.scheme) (numbers_in config)))
    | inr past ↦ absurd (omega (arith, some, ap length (get_or_past (groups_in config) g [] past)))
  ]

  group_number : (g : ℕ) (is : IsGroup g) → slice_index_or numbers g 0 ≡ is.place
  group_number g is = let on : 0 + is.place ≡ is.place = omega (arith) in get_or_from_slice_get numbers g (0 + is.place) 0 is.number ∙ on

  group_members : (g : ℕ) (table : SchemeTable) → slice_get (filter is_implicit config.scheme) g ≡ Some table → node_numbers config (Group g) ≡ numbers_in config table
  group_members g table at = get_or_from_slice_get (groups_in config) g (numbers_in config table) [] (map_at (numbers_in config) (filter is_implicit config.scheme) g table at)

  scheme_members : (s : ℕ) (table : SchemeTable) → slice_get config.scheme s ≡ Some table → is_implicit table ≡ true → node_members (plan_of config nodes) (Group s) ≡ numbers_in config table
  scheme_members s table at implicit =
      ap (λ o. option_map_or members_if_implicit o []) (numbered_at (λ (numbered : ℕ × SchemeTable). scheme_of config (exchanges_before config numbered.0) numbered.1) config.scheme s table at)
      ∙ ap (λ b. cond b (numbers_in config table) []) implicit

  same_members : (node : Node) → 0 < length (node_numbers config node) → node_members (plan_of config nodes) (node_name numbers node) ≡ map (λ n. n) (node_numbers config node)
  same_members (Single p) some =
      let parts = and_parts (nat_lt p (length config.participant)) (not (is_grouped (groups_in config) p)) (has_length (nat_lt p (length config.participant) && not (is_grouped (groups_in config) p)) p some) in
      let item = there config.participant p (ltb-true p (length config.participant) parts.0) in
      sym (alone_is p item.0 item.1) ∙ sym (map-id (node_numbers config (Single p)))
  same_members (Group g) some =
      let is = group_there g some in
      ap (λ (s : ℕ). node_members (plan_of config nodes) (Group s)) (group_number g is)
      ∙ (scheme_members is.place is.item is.at is.holds ∙ (sym (group_members g is.item is.kept) ∙ sym (map-id (node_numbers config (Group g)))))

  record IsOnto (node : Node) : Type 0 where
    from : Node
    some : 0 < length (node_numbers config from)
    named : node_name numbers from ≡ node

  onto : (node : Node) → 0 < length (node_members (plan_of config nodes) node) → IsOnto node
  onto (Single p) some = elim (cases_lt p (length config.participant)) [
    | inl less ↦
        let item = there config.participant p less in
        record { from = Single p; some = omega (arith, some, ap length (alone_is p item.0 item.1)); named = refl }
    | inr past ↦ absurd (omega (arith, some, ap (λ o. length (option_map_or (λ part. itself_if_alone p part.group) o [])) (slice_get_past (map (part_of config) config.participant) p (omega (arith, past, length-map config.participant (part_of config))))))
  ]
  onto (Group s) some = of_scheme (slice_get (schemes_of config) s) refl some
    where
      of_scheme : (o : Option Scheme) → slice_get (schemes_of config) s ≡ o → 0 < length (option_map_or members_if_implicit o []) → IsOnto (Group s)
      of_scheme None is some = absurd (omega (arith, some))
      of_scheme (Some scheme) is some =
          let item = at_numbered (λ (numbered : ℕ × SchemeTable). scheme_of config (exchanges_before config numbered.0) numbered.1) config.scheme s scheme is in
          let members_there : 0 < length (cond (is_implicit item.0) (numbers_in config item.0) []) = omega (arith, some, ap (λ (t : Scheme). length (members_if_implicit t)) item.2) in
          let implicit : is_implicit item.0 ≡ true = some_members (is_implicit item.0) (numbers_in config item.0) members_there in
          let as_kept = place_kept is_implicit 0 config.scheme s item.0 item.1 implicit in
          let on : 0 + s ≡ s = omega (arith) in
          let listed : 0 < length (numbers_in config item.0) = omega (arith, members_there, ap (λ b. length (cond b (numbers_in config item.0) [])) implicit) in
          record {
            from = Group as_kept.among;
            some = omega (arith, listed, ap length (group_members as_kept.among item.0 as_kept.kept));
            named = ap (λ (n : ℕ). Group n) (get_or_from_slice_get numbers as_kept.among (0 + s) 0 as_kept.number ∙ on);
          }

  apart : (x y : Node) → 0 < length (node_numbers config x) → 0 < length (node_numbers config y) → node_name numbers x ≡ node_name numbers y → x ≡ y
  apart (Single p) (Single q) some some' same = same
  apart (Single p) (Group h) some some' same = absurd (cc)
  apart (Group g) (Single q) some some' same = absurd (cc)
  apart (Group g) (Group h) some some' same =
      let one = group_there g some in
      let other = group_there h some' in
      let number : one.place ≡ other.place = sym (group_number g one) ∙ (same_group (slice_index_or numbers g 0) (slice_index_or numbers h 0) same ∙ group_number h other) in
      ap (λ (n : ℕ). Group n) (once is_implicit 0 config.scheme g h (0 + one.place) one.number (other.number ∙ ap (λ (n : ℕ). Some (0 + n)) (sym number)))
    where
      same_group : (n m : ℕ) → Group n ≡ Group m → n ≡ m
      same_group n m e = cc

  pub renumbering : IsRenumbering (node_numbers config) (node_members (plan_of config nodes)) (λ n. n) (node_name numbers)
  renumbering = record {
    rises = λ a b less. less;
    same = same_members;
    onto = λ y some. let is = onto y some in (is.from, is.some, is.named);
    apart = apart;
  }

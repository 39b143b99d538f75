-- What participants have given one another. After the coupling documentation, where a participant's data are there for others once it has written and advanced; the items are the project's own.
use Rattle.std.specs.Prelude.{ℕ, Bool, false, ◌&&◌, nat_eq, List, [], ◌∷◌, ◌++◌, find, Option, is_some, option_map, option_to_list}
use Rattle.cpl_plan.specs.declared.words.Item.{Item}
use Rattle.cpl_plan.specs.declared.words.Item.TheVariants.{Completed, Posted}

-- an item that a participant has given, with what it posted: that of one iteration, or what it has accepted for a window and the iteration that it comes from, which is 0 for initial data
pub record Gift (Post : Type 0) : Type 0 where
  pub item : Item
  pub iteration : ℕ
  pub post : Post

abbrev pub is_item : Item → Item → Bool
is_item (Completed v) (Completed w) = nat_eq v w
is_item (Posted v j) (Posted w k) = nat_eq v w && nat_eq j k
is_item _ _ = false

-- the first gift of an item
abbrev pub found : {Post : Type 0} → List (Gift Post) → Item → Option (Gift Post)
found given item = find (λ gift. is_item gift.item item) given

-- what each participant has given of each item
abbrev pub Look : Type 0 → Type 0
Look Post = ℕ → Item → Option (Gift Post)

abbrev pub has_given : {Post : Type 0} → Look Post → ℕ → Item → Bool
has_given look part item = is_some (look part item)

-- what was given, and one gift more
abbrev pub gives : {Post : Type 0} → Item → (iteration : ℕ) → Post → List (Gift Post) → List (Gift Post)
gives item iteration post given = given ++ record { item = item; iteration = iteration; post = post } ∷ []

-- a post as what completes window w
abbrev pub accepted_for : {Post : Type 0} → (w : ℕ) → Gift Post → Gift Post
accepted_for w gift = record gift { item = Completed w }

-- the post of iteration k is accepted for window w, as it is
abbrev pub accepts : {Post : Type 0} → (w k : ℕ) → List (Gift Post) → List (Gift Post)
accepts w k given = given ++ option_to_list (option_map (accepted_for w) (found given (Posted w k)))

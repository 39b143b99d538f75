-- The partners that are left of a member, from a participant on.
use Rattle.std.proofs.Common.{◌≡◌, sym, ap, ◌∙◌, ℕ, suc, ◌+◌, ◌-◌, ◌<◌, ◌≤◌, Bool, true, false, ◌&&◌, not, nat_eq, List, [], ◌∷◌, cond, arith, subst}
use Rattle.std.specs.Prelude.{filter}
use Rattle.std.specs.List.{range_with_len}
use Rattle.cpl_plan.specs.PlanWords.{is_among}
use Rattle.cpl_plan.specs.Needs.{partners}
use Rattle.cpl_plan.specs.Looks.{IsLook}
use Rattle.cpl_plan.specs.declared.needs.Look.{Look}
use Rattle.cpl_plan.proofs.LooksThrough.{look-next, range-next}

-- whether a participant is a partner of a member
abbrev pub is_partner : (members : List ℕ) → (part other : ℕ) → Bool
is_partner members part other = not (nat_eq other part) && is_among other members

-- the partners from a participant on
abbrev pub partners_from : (members : List ℕ) → (parts part from : ℕ) → List ℕ
partners_from members parts part from = filter (is_partner members part) (range_with_len from (parts - from))

-- a partner is the first of those from it on
pub partners_from-partner : (members : List ℕ) (parts part from : ℕ) → from < parts → is_partner members part from ≡ true
    → partners_from members parts part from ≡ from ∷ partners_from members parts part (from + 1)
partners_from-partner members parts part from below is =
    ap (filter (is_partner members part)) (range-next from parts below)
    ∙ ap (λ b. cond b (from ∷ partners_from members parts part (from + 1)) (partners_from members parts part (from + 1))) is

-- another is left out
pub partners_from-other : (members : List ℕ) (parts part from : ℕ) → from < parts → is_partner members part from ≡ false
    → partners_from members parts part from ≡ partners_from members parts part (from + 1)
partners_from-other members parts part from below is =
    ap (filter (is_partner members part)) (range-next from parts below)
    ∙ ap (λ b. cond b (from ∷ partners_from members parts part (from + 1)) (partners_from members parts part (from + 1))) is

-- none is left past the last
pub partners_from-last : (members : List ℕ) (parts part from : ℕ) → parts ≤ from → partners_from members parts part from ≡ []
partners_from-last members parts part from past =
    ap (λ n. filter (is_partner members part) (range_with_len from n)) {y = 0} (omega (arith, past))

-- those from the first participant on are all
pub look-all : (members : List ℕ) (parts part place : ℕ) (found : Look ℕ) → IsLook (partners_from members parts part 0) place found → IsLook (partners members parts part) place found
look-all members parts part place found is =
    subst (λ n. IsLook (filter (is_partner members part) (range_with_len 0 n)) place found) {x = parts - 0} {y = parts} (omega (arith)) is

-- what is found past a participant is found from it on
pub look-past : (members : List ℕ) (parts part from place left : ℕ) (found : Look ℕ) → from < parts
    → (is_partner members part from ≡ true) → place ≡ suc left
    → IsLook (partners_from members parts part (from + 1)) left found → IsLook (partners_from members parts part from) place found
look-past members parts part from place left found below is more look =
    subst (λ n. IsLook (partners_from members parts part from) n found) (sym more)
    (subst (λ ps. IsLook ps (suc left) found) (sym (partners_from-partner members parts part from below is))
    (look-next from (partners_from members parts part (from + 1)) left found look))

-- and so it is where the participant is none
pub look-other : (members : List ℕ) (parts part from place : ℕ) (found : Look ℕ) → from < parts
    → (is_partner members part from ≡ false)
    → IsLook (partners_from members parts part (from + 1)) place found → IsLook (partners_from members parts part from) place found
look-other members parts part from place found below is look =
    subst (λ ps. IsLook ps place found) (sym (partners_from-other members parts part from below is)) look

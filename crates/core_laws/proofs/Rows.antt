-- Rows of entries: of one participant alone, and one of each of several participants, whatever the others do.
use Rattle.std.proofs.Common.{◌≡◌, ℕ, ◌<◌, ◌⊎◌, inl, inr, Bool, true, false, not, ◌&&◌, ◌||◌, List, [], ◌∷◌, ◌++◌, map, Some, IsTrue, refl, sym, subst, ◌∙◌, Contains}
use Rattle.coupled_loop.specs.Numbered.{put}
use Rattle.std.specs.List.{list_all, list_any}
use Rattle.std.proofs.lemmas.Bool.{cases_eq}
use Rattle.plan_order.proofs.Loops.{head_in, tail_in, in_cons}
use Rattle.plan_order.proofs.Orders.{none_in_nil}
use Rattle.coupled_loop.specs.Frames.{Frame}
use Rattle.coupled_loop.specs.Solving.{Solvers}
use Rattle.coupled_loop.specs.Schedules.{Actor, Actors, next}
use Rattle.coupled_loop.specs.Settled.{IsSettled}
use Rattle.core_laws.proofs.Sound.{IsSound}
use Rattle.core_laws.proofs.Puts.{put_same, put_other, put_there, put_twice}
use Rattle.core_laws.proofs.Nets.{goes_joined}
use Rattle.core_laws.proofs.Members.{Distinct}
use Rattle.core_laws.proofs.Views.{GoesTo, IsWellNow}
use Rattle.core_laws.proofs.Stays.{next_well, next_stays}

-- where not all have what each has unless somebody is off, somebody is off that has it not
module _ {X : Type 0} (who : X → ℕ) (has : X → Bool) (off : ℕ → Bool) where
  abbrev some_off : List X → Bool
  some_off xs = list_any (λ (asked : ℕ × Bool). not asked.1 && off asked.0) (map (λ x. (who x, has x)) xs)

  pub someone_off : (xs : List X) → ((x : X) → Contains xs x → IsTrue (off (who x)) ⊎ IsTrue (has x)) → list_all has xs ≡ false → some_off xs ≡ true
  someone_off [] each none = cc
  someone_off (x ∷ xs) each none =
      by (has x) (off (who x)) (λ rest. someone_off xs (λ y inside. each y (tail_in x xs y inside)) rest) (each x (head_in x xs)) none where
        by : (b o : Bool) → (list_all has xs ≡ false → some_off xs ≡ true) → IsTrue o ⊎ IsTrue b → (b && list_all has xs) ≡ false → (not b && o) || some_off xs ≡ true
        by true o further either rest = further rest
        by false true further either rest = refl
        by false false further (inl never) rest = cc
        by false false further (inr never) rest = cc

module _ {Mesh Post Inputs Fault State Run Note : Type 0} (frame : Frame Post Inputs Fault) (solvers : Solvers Mesh Post Inputs Fault State Run Note) where
  -- a row of one participant's entries, after which it is so
  abbrev pub Row : Actors Mesh Post Fault State Run Note → (part : ℕ) → Actor Mesh Post Fault State Run Note → Type 0
  Row actors part actor = (list : List ℕ) × GoesTo frame solvers actors list (put actors part actor)

  module _ (actors : Actors Mesh Post Fault State Run Note) (part : ℕ) where
    pub row_stays : (actor : Actor Mesh Post Fault State Run Note) → actors part ≡ actor → Row actors part actor
    row_stays actor is = ([], sym (put_there actors part actor is))

    pub row_joined : (between actor : Actor Mesh Post Fault State Run Note) → Row actors part between → Row (put actors part between) part actor → Row actors part actor
    row_joined between actor before after = (
      before.0 ++ after.0,
      goes_joined frame.parts (next frame solvers) before.0 actors (put actors part between) (put actors part actor) after.0 before.1
          (subst (λ (s : Actors Mesh Post Fault State Run Note). GoesTo frame solvers (put actors part between) after.0 s) (put_twice actors part between actor) after.1),
    )

    pub row_one : (actor : Actor Mesh Post Fault State Run Note) → part < frame.parts → next frame solvers actors part ≡ Some actor → Row actors part actor
    row_one actor is_part goes = (part ∷ [], (actor, is_part, goes, refl))

  -- what each of these becomes
  pub record EachIs (from : Actors Mesh Post Fault State Run Note) (members : List ℕ) (become : ℕ → Actor Mesh Post Fault State Run Note) : Type 0 where
    pub list : List ℕ
    pub to : Actors Mesh Post Fault State Run Note
    pub goes : GoesTo frame solvers from list to
    pub inside : (member : ℕ) → Contains members member → to member ≡ become member
    pub apart : (other : ℕ) → ¬ Contains members other → to other ≡ from other

  module _ (sound : IsSound frame) (settled : IsSettled frame) (become : ℕ → Actor Mesh Post Fault State Run Note) where
    -- a participant can go on to what it becomes, or is so already
    abbrev pub Becomes : Actors Mesh Post Fault State Run Note → ℕ → Type 0
    Becomes actors part = (next frame solvers actors part ≡ Some (become part)) ⊎ (actors part ≡ become part)

    -- the others can still do so after one has gone on
    still_becomes : (actors : Actors Mesh Post Fault State Run Note) (part other : ℕ) → IsWellNow frame solvers actors → part < frame.parts → other < frame.parts → ¬ (other ≡ part)
        → next frame solvers actors part ≡ Some (become part) → Becomes actors other → Becomes (put actors part (become part)) other
    still_becomes actors part other well is_part other_part apart goes (inl can) =
        inl (next_stays frame solvers sound settled actors other part (become other) (become part) well other_part is_part (λ e. apart (sym e)) can goes)
    still_becomes actors part other well is_part other_part apart goes (inr is) = inr (put_other actors part (become part) other apart ∙ is)

    pub each_goes : (members : List ℕ) (actors : Actors Mesh Post Fault State Run Note) → Distinct members → IsWellNow frame solvers actors
        → ((member : ℕ) → Contains members member → member < frame.parts) → ((member : ℕ) → Contains members member → Becomes actors member)
        → EachIs actors members become
    each_goes [] actors distinct well are_parts each =
        record { list = []; to = actors; goes = refl; inside = λ member inside. absurd (none_in_nil member inside); apart = λ other none. refl }
    each_goes (member ∷ rest) actors distinct well are_parts each = by (each member (head_in member rest))
        (λ from well' still. each_goes rest from distinct.1 well' (λ one inside. are_parts one (tail_in member rest one inside)) still)
      where
        is_part : member < frame.parts
        is_part = are_parts member (head_in member rest)

        -- what the rest becomes after the first is so
        joined : (from : Actors Mesh Post Fault State Run Note) → (list : List ℕ) → GoesTo frame solvers actors list from → from member ≡ become member
            → ((other : ℕ) → ¬ (other ≡ member) → from other ≡ actors other) → EachIs from rest become → EachIs actors (member ∷ rest) become
        joined from list goes is others after = record {
          list = list ++ after.list;
          to = after.to;
          goes = goes_joined frame.parts (next frame solvers) list actors from after.to after.list goes after.goes;
          inside = λ one inside. elim (cases_eq one member) [
            | inl e ↦ subst (λ (q : ℕ). after.to q ≡ become q) (sym e) (after.apart member distinct.0 ∙ is)
            | inr off ↦ elim (in_cons member rest one inside) [
              | inl same ↦ absurd (off (sym same))
              | inr further ↦ after.inside one further
            ]
          ];
          apart = λ other none. after.apart other (λ inside. none (tail_in member rest other inside))
              ∙ others other (λ e. none (subst (λ (q : ℕ). Contains (member ∷ rest) q) (sym e) (head_in member rest)));
        }

        by : Becomes actors member
            → ((from : Actors Mesh Post Fault State Run Note) → IsWellNow frame solvers from → ((one : ℕ) → Contains rest one → Becomes from one) → EachIs from rest become)
            → EachIs actors (member ∷ rest) become
        by (inl can) further =
            joined (put actors member (become member)) (member ∷ []) (become member, is_part, can, refl) (put_same actors member (become member))
            (λ other off. put_other actors member (become member) other off)
            (further (put actors member (become member))
            (next_well frame solvers actors member (become member) sound settled well is_part can)
            (λ one inside. still_becomes actors member one well is_part (are_parts one (tail_in member rest one inside))
            (λ e. distinct.0 (subst (λ (q : ℕ). Contains rest q) e inside)) can (each one (tail_in member rest one inside))))
        by (inr is) further =
            joined actors [] refl is (λ other off. refl)
            (further actors well (λ one inside. each one (tail_in member rest one inside)))

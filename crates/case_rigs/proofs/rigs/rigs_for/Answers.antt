use Rattle.std.proofs.Common.{◌≡◌, ◌⊎◌, inl, inr, List, [], ◌∷◌, ◌++◌, map, refl, ap, sym, ◌∙◌}
use Rattle.std.specs.List.{zip}
use Rattle.std.proofs.Common.{append-nil}
use Rattle.std.proofs.lemmas.Slice.Zip.{either_empty_from_Zip}
use Rattle.case_rigs.specs.CaseRigs.{own_rig_of}
use Rattle.case_rigs.proofs.rigs.rigs_for.Goals as goal

zip_nothing : {X Y : Type 0} (xs : List X) → zip xs (let none : List Y = [] in none) ≡ []
zip_nothing [] = refl
zip_nothing (x ∷ xs) = refl

-- no pair is left
none_left : {X Y : Type 0} (xs : List X) (ys : List Y) → (xs ≡ []) ⊎ (ys ≡ []) → zip xs ys ≡ []
none_left {X} {Y} xs ys (inl h) = ap (λ (zs : List X). zip zs ys) h
none_left {X} {Y} xs ys (inr h) = ap (λ (zs : List Y). zip xs zs) h ∙ zip_nothing xs

-- so what was made is all
all_made : {X Y Z : Type 0} (f : X × Y → Z) (done all : List Z) (xs : List X) (ys : List Y) → (xs ≡ []) ⊎ (ys ≡ []) → done ++ map f (zip xs ys) ≡ all → done ≡ all
all_made {X} {Y} {Z} f done all xs ys none made =
    sym (append-nil done) ∙ ap (λ (rest : List Z). done ++ rest) (sym (ap (λ (pairs : List (X × Y)). map f pairs) (none_left xs ys none))) ∙ made

pub returns : goal.returns
returns c = all_made (own_rig_of c.args.config.now) _ _ _ _ (either_empty_from_Zip c.parts.part-iterator c.next.new.self _ c.in-None.is c.next.ensures.steps) c.parts.invariant.made

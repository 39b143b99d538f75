-- The text of a number and its parts.
use Rattle.std.proofs.Common.{◌≡◌, ℕ, ◌/◌, ◌%◌, ◌^◌, List, ◌++◌, ℤ, pos, negsuc, unsigned_abs, codes, decimal, ◌∙◌, ap, true, false, arith, append_assoc}
use Rattle.std.specs.Int.Signed.{lt_z}
use Rattle.std.proofs.lemmas.Bool.{ltb-true, true≢false}
use Rattle.line_text.specs.Printing.{value_text, decimals_of}
use Rattle.line_text.specs.Spelling.{text_of, point_text}

-- a minus, the whole part, and the rest
pub negative_text : (units : ℤ) (m : ℕ) (sign old new : List ℕ) → lt_z units (pos 0) ≡ true → m ≡ unsigned_abs units → sign ≡ codes "-"
    → old ≡ sign ++ decimal (m / 10 ^ 6) → new ≡ old ++ point_text (decimals_of (m % 10 ^ 6)) → new ≡ value_text units
unfolding value_text text_of
negative_text (pos n) m sign old new lt em es eo en = absurd (omega (arith, ltb-true n 0 lt))
negative_text (negsuc n) m sign old new lt em es eo en =
    en ∙ ap (λ x. x ++ point_text (decimals_of (m % 10 ^ 6))) (eo ∙ ap (λ x. x ++ decimal (m / 10 ^ 6)) es)
    ∙ append_assoc (codes "-") (decimal (m / 10 ^ 6)) (point_text (decimals_of (m % 10 ^ 6)))
    ∙ ap (λ x. codes "-" ++ (decimal (x / 10 ^ 6) ++ point_text (decimals_of (x % 10 ^ 6)))) em

-- the whole part, and the rest
pub positive_text : (units : ℤ) (m : ℕ) (sign old new : List ℕ) → lt_z units (pos 0) ≡ false → m ≡ unsigned_abs units → sign ≡ codes ""
    → old ≡ sign ++ decimal (m / 10 ^ 6) → new ≡ old ++ point_text (decimals_of (m % 10 ^ 6)) → new ≡ value_text units
unfolding value_text text_of
positive_text (negsuc n) m sign old new lt em es eo en = absurd (true≢false lt)
positive_text (pos n) m sign old new lt em es eo en =
    en ∙ ap (λ x. x ++ point_text (decimals_of (m % 10 ^ 6))) (eo ∙ ap (λ x. x ++ decimal (m / 10 ^ 6)) es)
    ∙ ap (λ x. decimal (x / 10 ^ 6) ++ point_text (decimals_of (x % 10 ^ 6))) em

-- What a sink has taken after the next piece.
use Rattle.std.proofs.Common.{◌≡◌, ℕ, ◌+◌, ◌-◌, ◌≤◌, List, ◌++◌, length, take, drop, Option, Some, None, refl, sym, ap, ◌∙◌, append_assoc, arith}
use Rattle.std.proofs.lemmas.List.{length-drop, drop-drop}
use Rattle.std.proofs.Math.Seq.{take-add}
use Rattle.io_edge.specs.Taken.{taken_more}

taken_more-append : (old : Option (List ℕ)) (first second : List ℕ) → taken_more (taken_more old first) second ≡ taken_more old (first ++ second)
taken_more-append None first second = refl
taken_more-append (Some taken) first second = ap Some (append_assoc taken first second)

-- after the first n bytes, a part of the rest is taken: then it is the first bytes of all, a few more
pub took_next : (old mid new : Option (List ℕ)) (bytes rest : List ℕ) (n count : ℕ)
    → n ≤ length bytes → rest ≡ drop n bytes → mid ≡ taken_more old (take n bytes)
    → count ≤ length rest → new ≡ taken_more mid (take count rest)
    → (m : ℕ) × (m ≤ length bytes) × (drop count rest ≡ drop m bytes) × (new ≡ taken_more old (take m bytes))
took_next old mid new bytes rest n count within is_rest is_mid fits is_new =
    let left : length rest ≡ length bytes - n = ap length is_rest ∙ length-drop n bytes in (
      n + count,
      omega arith,
      ap (drop count) is_rest ∙ drop-drop count n bytes,
      is_new
          ∙ ap (λ taken. taken_more taken (take count rest)) is_mid
          ∙ taken_more-append old (take n bytes) (take count rest)
          ∙ ap (λ xs. taken_more old (take n bytes ++ take count xs)) is_rest
          ∙ ap (taken_more old) (sym (take-add n count bytes)),
    )

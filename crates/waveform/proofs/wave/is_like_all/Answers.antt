use Rattle.std.proofs.Common.{◌<◌, inl, inr, List, length, get_or, arith, sym, ◌∙◌, All}
use Rattle.std.specs.List.{AllPairs}
use Rattle.std.proofs.lemmas.Bool.{cases_eq}
use Rattle.std.proofs.lemmas.List.{get_or_default}
use Rattle.waveform.specs.declared.field.Field.{Field}
use Rattle.waveform.specs.declared.sample.Sample.{Sample}
use Rattle.waveform.specs.Shape.{IsLike}
use Rattle.waveform.proofs.wave.is_like_all.Goals as goal

-- a field of the first one's shape is of the shape of all
like_all : (samples : List Sample) (field : Field) (d : Sample) → AllPairs (λ (s later : Sample). IsLike s.field later.field) samples → 0 < length samples
    → IsLike (get_or samples 0 d).field field → All (λ (s : Sample). IsLike s.field field) samples
like_all samples field d alike some like = λ k e inside.
    let first : IsLike (get_or samples 0 e).field field = rw (get_or_default samples 0 d e some) at like in
    elim (cases_eq k 0) [
      | inl same ↦ rw same first
      | inr other ↦
          let pair : IsLike (get_or samples 0 e).field (get_or samples k e).field = alike 0 k e (omega arith) inside in
          record { components = sym pair.components ∙ first.components; len = sym pair.len ∙ first.len }
    ]

pub returns : goal.returns
returns c = (
  λ like. like_all c.args.samples.now c.args.field.now c.index-samples-0.result c.requires.alike (omega (arith, c.requires.least)) (c.is_like.ensures.0 like),
  λ all. c.is_like.ensures.1 (all 0 c.index-samples-0.result (omega (arith, c.requires.least))),
)

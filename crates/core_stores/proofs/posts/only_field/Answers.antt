use Rattle.std.proofs.Common.{◌≡◌, ◌∷◌, [], ap, sym, ◌∙◌, Some}
use Rattle.std.proofs.lemmas.Result.{IfOk-weaker}
use Rattle.core_stores.proofs.Initials.{one_initial}
use Rattle.core_stores.proofs.posts.only_field.Goals as goal

pub returns : goal.returns
returns c =
    IfOk-weaker c.copy.result (λ copy. copy ≡ c.field.result.now) (λ field. c.args.wave.now ≡ record { time = 0; field = field } ∷ [])
    (λ field same. one_initial c.args.wave.now field c.requires (c.field.ensures ∙ ap Some (sym same))) c.copy.ensures

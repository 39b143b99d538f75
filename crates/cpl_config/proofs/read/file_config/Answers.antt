use Rattle.std.proofs.Common.{◌≡◌, false, refl}
use Rattle.std.proofs.lemmas.Bool.{le-leb, false_from_ne_true}
use Rattle.std.proofs.lemmas.Str.{IsUtf8-from_is_utf8, is_utf8-from_IsUtf8}
use Rattle.std.specs.Str.{is_utf8}
use Rattle.cpl_config.proofs.read.file_config.Goals as goal

pub returns-in-Ok : goal.returns-in-Ok
returns-in-Ok c =
    let (same, utf8) = c.in-Ok.ensures.cases in
    rw (le-leb _ _ c.if-bytes-gt-MOST_BYTES.false, is_utf8-from_IsUtf8 _ utf8, ← same) c.text_config.ensures

pub returns-in-Err : goal.returns-in-Err
returns-in-Err c =
    let not_utf8 : is_utf8 c.args.bytes.now ≡ false = false_from_ne_true _ (λ e. c.in-Err.ensures.cases.0 (IsUtf8-from_is_utf8 _ e)) in
    rw (c.refused_at_config-in-Err.ensures, le-leb _ _ c.if-bytes-gt-MOST_BYTES.false, not_utf8) refl

-- What a clause says of a result that a test has told.
use Rattle.std.proofs.Common.{◌≡◌, true, false, Result, Ok, Err, OnOk, OnErr}
use Rattle.std.specs.Result.{is_err}

pub told_ok : {A E : Type 0} (result : Result A E) (P : Type 0) → is_err result ≡ false → OnOk result P → P
told_ok (Ok value) P is holds = holds
told_ok (Err why) P is holds = absurd (cc)

pub told_err : {A E : Type 0} (result : Result A E) (P : Type 0) → is_err result ≡ true → OnErr result P → P
told_err (Ok value) P is holds = absurd (cc)
told_err (Err why) P is holds = holds

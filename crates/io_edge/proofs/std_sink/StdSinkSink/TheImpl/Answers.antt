-- The sink never tells what it has taken, so each clause on the bytes taken is that None is None.
use Rattle.std.proofs.Common.{refl}
use Rattle.std.proofs.lemmas.Result.{IfOk-weaker, on_err_weaker}
use Rattle.io_edge.proofs.std_sink.StdSinkSink.TheImpl.Goals as goal

pub put-tells : goal.put-tells
put-tells g c =
    let told = c.ensures in
    record {
      within = told.within;
      progress = told.progress;
      ok = IfOk-weaker c.result _ _ (λ _ _. refl) told.within;
      failed = told.failed;
      err = on_err_weaker c.result (λ _. refl) told.failed;
      never_falls = told.never_falls;
    }

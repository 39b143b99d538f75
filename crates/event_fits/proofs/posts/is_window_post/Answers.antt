use Rattle.std.proofs.Common.{◌≡◌, true}
use Rattle.event_fits.proofs.InSpans.{window_post}
use Rattle.event_fits.proofs.posts.is_window_post.Goals as goal

pub returns : goal.returns
returns c = λ yes state are.
    let together : c.end_together.result ≡ true = cc in
    window_post c.args.plan.now state c.args.p c.args.w c.in-Some.span (c.in-Some.ensures state are) c.args.waves.now
    (c.are_waves.ensures yes state are) (c.end_together.ensures together)

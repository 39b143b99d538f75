use Rattle.std.proofs.Common.{ℕ, List, sym, ap, subst, ◌∙◌}
use Rattle.cpl_plan.specs.Windows.{is_window}
use Rattle.wave_coupling.specs.Posts.{Post}
use Rattle.core_sides.specs.FittingPosts.{IsInitialPost, IsWindowPost}
use Rattle.core_sides.proofs.KeptTells.{there_is}
use Rattle.event_fits.proofs.AtPlaces.{fits_opening, fits_within, fits_taking}
use Rattle.event_fits.proofs.events.fits_at.Goals as goal

pub returns-in-Opening-Post : goal.returns-in-Opening-Post
returns-in-Opening-Post c = λ fit state are.
    fits_opening c.args.plan.now state c.args.p c.args.place c.args.event.now _ c.in-Opening-Post.is-0 c.in-Opening-Post.is-1
    (subst (λ (post : Post). IsInitialPost c.args.plan.now state c.args.p post) c.as_slice-in-Opening-Post.ensures (c.is_initial_post.ensures fit state are))

pub returns-in-Within-Post : goal.returns-in-Within-Post
returns-in-Within-Post c = λ fit state are.
    fits_within c.args.plan.now state c.args.p c.args.place c.args.event.now c.in-Within-Post.window _ _ c.in-Within-Post.is-0 c.in-Within-Post.is-1
    (subst (λ (post : Post). IsWindowPost c.args.plan.now state c.args.p c.in-Within-Post.window post) c.as_slice-in-Within-Post.ensures (c.is_window_post.ensures fit state are))

pub returns-in-Taking-Take : goal.returns-in-Taking-Take
returns-in-Taking-Take c = λ fit state are.
    let w = c.in-Taking-Take.window in
    fits_taking c.args.plan.now state c.args.p c.args.place c.args.event.now w _ c.in-Taking-Take.is-0 c.in-Taking-Take.is-1
    (sym (there_is c.args.plan.now c.args.sides.now state are w) ∙ ap (λ (ends : List ℕ). is_window c.args.plan.now ends w) (sym c.as_slice-in-Taking-Take.ensures.value)
    ∙ sym c.is_there.ensures ∙ fit)

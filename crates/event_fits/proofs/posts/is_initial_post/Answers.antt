use Rattle.event_fits.proofs.posts.is_initial_post.Goals as goal

pub returns : goal.returns
returns c = λ fit state are.
    let all = c.are_waves.ensures fit state are in
    record { count = all.count; each = λ i x e wave sends is_e at. all.each i x e wave sends is_e at }

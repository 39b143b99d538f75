use Rattle.participant_words.proofs.KnownAlike.{points_same, post_same, first_same, inputs_same}
use Rattle.participant_words.specs.KnownByReply.{known_by}
use Rattle.participant_words.proofs.laws.the_reply_tells_the_meshes.Goals as goal

pub returns-clause-points : goal.returns-clause-points
returns-clause-points c plan part all given mesh told = points_same plan part all given told mesh

pub returns-clause-posts : goal.returns-clause-posts
returns-clause-posts c plan part all given w k written told =
    post_same plan part all (known_by plan part all.own given) (points_same plan part all given told) w k written

pub returns-clause-initial_posts : goal.returns-clause-initial_posts
returns-clause-initial_posts c plan part all given values told =
    first_same plan part all (known_by plan part all.own given) (points_same plan part all given told) values

pub returns-clause-inputs : goal.returns-clause-inputs
returns-clause-inputs c plan part all given w k waves told =
    inputs_same plan part all (known_by plan part all.own given) (points_same plan part all given told) w k waves

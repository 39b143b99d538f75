use Rattle.std.proofs.Common.{◌≡◌, ℕ, ◌<◌, Some, List, ℤ, [], ◌∷◌, ◌++◌, length, get_or, map, take, sym, ap, ◌∙◌, arith}
use Rattle.std.specs.List.{slice_get}
use Rattle.std.proofs.lemmas.List.{map_more}
use Rattle.std.proofs.lemmas.List.Elements.{All-push}
use Rattle.std.proofs.lemmas.Option.{slice_get-get_or}
use Rattle.edge_projection.specs.declared.edge.Foot.{Foot}
use Rattle.edge_projection.specs.NearestFoot.{nearest_foot, IsFootIn}
use Rattle.edge_projection.proofs.feet_between.feet_of.Goals as goal

-- what is there
read : (points : List (List ℤ)) (v : ℕ) (point : List ℤ) → v < length points → slice_get points v ≡ Some point → point ≡ get_or points v []
read points v point inside is = some_is (sym is ∙ slice_get-get_or points v [] inside)
  where
    some_is : {x y : List ℤ} → Some x ≡ Some y → x ≡ y
    some_is e = cc

pub loop-v-preserved : goal.loop-v-preserved
loop-v-preserved g c =
    let inside : c.loop-v.v < length c.args.points.now = omega (arith, c.loop-v-test.true, c.len-v-end.ensures.count) in
    let more = map_more (nearest_foot c.args.mesh.now c.args.edges.now) c.args.points.now c.loop-v.v [] inside in
    let point = read c.args.points.now c.loop-v.v c.point.result.now inside c.point.ensures in
    let foot = c.foot_of.ensures.foot ∙ ap (nearest_foot c.args.mesh.now c.args.edges.now) point in
    record {
      feet =
          c.in_ok-push.ensures.items
          ∙ ap (λ (feet : List Foot). feet ++ c.foot_of.result ∷ []) c.loop-v.invariant.feet
          ∙ ap (λ (foot : Foot). map (nearest_foot c.args.mesh.now c.args.edges.now) (take c.loop-v.v c.args.points.now) ++ foot ∷ []) foot
          ∙ sym more;
      inside = rw c.in_ok-push.ensures.items (All-push (IsFootIn (length c.args.mesh.now)) c.loop-v.feet.items c.foot_of.result c.loop-v.invariant.inside c.foot_of.ensures.inside);
    }

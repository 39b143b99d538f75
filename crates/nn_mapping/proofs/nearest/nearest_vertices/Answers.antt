use Rattle.std.proofs.Common.{◌≡◌, ℕ, ◌+◌, ◌<◌, ◌++◌, ◌∷◌, [], List, ℤ, get_or, length, subst, sym, ap, ◌∙◌, inl, inr, arith, rules}
use Rattle.std.proofs.lemmas.Bool.{cases_lt}
use Rattle.std.proofs.lemmas.Grind.{common_steps}
use Rattle.std.proofs.lemmas.List.{get_or_append_left, get_or_push, length_push}
use Rattle.std.proofs.lemmas.Option.{slice_get-get_or}
use Rattle.mesh_data.specs.Nearest.{IsNearest}
use Rattle.nn_mapping.proofs.nearest.nearest_vertices.Goals as goal

-- one point more
one_more : (mesh points : List (List ℤ)) (nearest : List ℕ) (v vertex : ℕ) → length nearest ≡ v → ((i : ℕ) → i < v → IsNearest mesh (get_or points i []) (get_or nearest i 0))
    → IsNearest mesh (get_or points v []) vertex → (i : ℕ) → i < v + 1 → IsNearest mesh (get_or points i []) (get_or (nearest ++ vertex ∷ []) i 0)
one_more mesh points nearest v vertex len each here i inside =
    elim (cases_lt i v) [
      | inl before ↦ subst (IsNearest mesh (get_or points i [])) (sym (get_or_append_left nearest (vertex ∷ []) 0 i (omega (arith, len, before)))) (each i before)
      | inr last ↦
          let same : i ≡ v = omega arith in
          rw same (subst (IsNearest mesh (get_or points v [])) (sym (get_or_push nearest vertex 0 v len)) here)
    ]

pub loop-v-preserved : goal.loop-v-preserved
loop-v-preserved g c =
    let inv = c.loop-v.invariant in
    let inside : c.loop-v.v < length c.args.points.now = omega (arith, c.len.ensures.count) in
    let there = slice_get-get_or c.args.points.now c.loop-v.v [] inside in
    let read = c.point.ensures in
    let point : c.point.result.now ≡ get_or c.args.points.now c.loop-v.v [] = cc in
    let found = subst (λ (at : List ℤ). IsNearest c.in_ok-grid.grid.mesh at c.nearest.result) point c.nearest.ensures.nearest in
    let here = subst (λ (mesh : List (List ℤ)). IsNearest mesh (get_or c.args.points.now c.loop-v.v []) c.nearest.result) c.in_ok-grid.ensures.mesh found in
    let items : c.push.new.self.items ≡ c.loop-v.nearest.items ++ c.nearest.result ∷ [] = grind (arith, common_steps) in
    record {
      len = ap length items ∙ length_push c.loop-v.nearest.items c.nearest.result ∙ ap (λ (n : ℕ). n + 1) inv.len;
      each = subst (λ (l : List ℕ). (i : ℕ) → i < c.loop-v.v + 1 → IsNearest c.args.mesh.now (get_or c.args.points.now i []) (get_or l i 0)) (sym items)
          (one_more c.args.mesh.now c.args.points.now c.loop-v.nearest.items c.loop-v.v c.nearest.result inv.len inv.each here);
    }

use Rattle.std.proofs.Common.{◌≡◌, ◌+◌, ◌*◌, ◌^◌, ◌<◌, ◌≤◌, ℕ, ℤ, List, [], ◌∷◌, ◌++◌, get_or, length, sym, ap, ◌∙◌, arith, rules}
use Rattle.std.proofs.lemmas.Grind.{common_steps}
use Rattle.std.proofs.lemmas.List.{get_or-map, length-map, take_more}
use Rattle.std.proofs.lemmas.Option.{slice_get-get_or}
use Rattle.grid_index.specs.Cells.{Cells}
use Rattle.grid_index.specs.Places.{place_from, place_in, places_in}
use Rattle.grid_index.proofs.Searches.{vertex_digits, place_below}
use Rattle.grid_index.proofs.Vertices.{cells_cut}
use Rattle.grid_index.proofs.grid.places_of.Goals as goal

pub place_from-requires-clause-digits : goal.place_from-requires-clause-digits
place_from-requires-clause-digits g c =
    let cells : Cells = record { per_axis = c.args.per_axis; axes = c.args.axes.now } in
    let inside : c.loop-v.v < length c.args.mesh.now = omega (arith, c.len.ensures.count) in
    let there = slice_get-get_or c.args.mesh.now c.loop-v.v [] inside in
    let read = c.point.ensures in
    let vertex : c.point.result.now ≡ get_or c.args.mesh.now c.loop-v.v [] = cc in
    vertex_digits g.row.D c.args.mesh.now cells c.loop-v.v c.at.result.now c.requires.dimensions c.len.ensures.mesh inside c.requires.cells (c.at.ensures.coordinates ∙ vertex)

pub place_from-requires-clause-room : goal.place_from-requires-clause-room
place_from-requires-clause-room g c =
    let cells : Cells = record { per_axis = c.args.per_axis; axes = c.args.axes.now } in
    let inside : c.loop-v.v < length c.args.mesh.now = omega (arith, c.len.ensures.count) in
    let cut = cells_cut g.row.D c.args.mesh.now cells c.requires.dimensions c.len.ensures.mesh (omega arith) c.requires.cells in
    let power = ap (λ (k : ℕ). c.args.per_axis ^ k) cut.one_for_each in
    omega (arith, power, cut.few, c.len.ensures.mesh.few)

pub overflow_cast-place_from : goal.overflow_cast-place_from
overflow_cast-place_from g c =
    let cells : Cells = record { per_axis = c.args.per_axis; axes = c.args.axes.now } in
    let inside : c.loop-v.v < length c.args.mesh.now = omega (arith, c.len.ensures.count) in
    let there = slice_get-get_or c.args.mesh.now c.loop-v.v [] inside in
    let read = c.point.ensures in
    let vertex : c.point.result.now ≡ get_or c.args.mesh.now c.loop-v.v [] = cc in
    let below = place_below g.row.D c.args.mesh.now cells c.loop-v.v c.at.result.now c.requires.dimensions c.len.ensures.mesh inside c.requires.cells (c.at.ensures.coordinates ∙ vertex) in
    omega (arith, below, c.place_from.ensures, c.requires.cells.few, c.len.ensures.mesh.few)

pub loop-v-preserved : goal.loop-v-preserved
loop-v-preserved g c =
    let cells : Cells = record { per_axis = c.args.per_axis; axes = c.args.axes.now } in
    let inside : c.loop-v.v < length c.args.mesh.now = omega (arith, c.len.ensures.count) in
    let there = slice_get-get_or c.args.mesh.now c.loop-v.v [] inside in
    let read = c.point.ensures in
    let vertex : c.point.result.now ≡ get_or c.args.mesh.now c.loop-v.v [] = cc in
    let value = c.place_from.ensures ∙ ap (λ (at : List ℤ). place_from c.args.per_axis c.args.axes.now at 0) (c.at.ensures.coordinates ∙ vertex)
    ∙ sym (get_or-map (place_in cells) c.args.mesh.now c.loop-v.v [] 0 inside) in
    let items : c.push.new.self.items ≡ c.loop-v.places.items ++ c.place_from.result ∷ [] = grind (arith, common_steps) in
    items
    ∙ ap (λ (n : ℕ). c.loop-v.places.items ++ n ∷ []) value
    ∙ ap (λ (l : List ℕ). l ++ get_or (places_in cells c.args.mesh.now) c.loop-v.v 0 ∷ []) c.loop-v.invariant
    ∙ sym (take_more (places_in cells c.args.mesh.now) c.loop-v.v 0 (omega (arith, inside, length-map c.args.mesh.now (place_in cells))))

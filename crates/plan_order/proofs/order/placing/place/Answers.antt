use Rattle.std.proofs.Common.{Bool, true, false, not, nat_lt, count_by, ◌≡◌, ℕ, ◌<◌, ◌≤◌, length, All, Contains, List, [], ◌∷◌, ◌++◌, slice_index, get_or, IsTrue, ap, sym, subst, ◌∙◌, arith, Vec, Global}
use Rattle.std.specs.Vec.{with_items}
use Rattle.std.specs.List.{list_any}
use Rattle.std.proofs.lemmas.Bool.{false≢true}
use Rattle.plan_order.proofs.Waiting.{is_in}
use Rattle.std.specs.Ordering.{nat_cmp}
use Rattle.std.specs.BTreeMap.{is_at}
use Rattle.std.specs.BTreeSet.{BTreeSet, contains}
use Rattle.std.proofs.lemmas.List.{with_items_is}
use Rattle.std.proofs.lemmas.List.Elements.{All-contains, Contains-get_or}
use Rattle.std.proofs.lemmas.Map.Keys.{le_from_not_gt}
use Rattle.plan_order.specs.Edges.{edges_between}
use Rattle.plan_order.proofs.EdgeSteps.{times}
use Rattle.plan_order.proofs.Placing.{Placing, placing_more, others_left, stuck, finished, fewer_left, enough, ends_inside}
use Rattle.plan_order.proofs.order.placing.place.Goals as goal

-- what is among the numbers is below their number
below : (ids : List ℕ) → All (λ id. id < length ids) ids → (b : ℕ) → Contains ids b → b < length ids
below ids all b inside = All-contains (λ id. id < length ids) ids b all inside

pub ends_after-requires : goal.ends_after-requires
ends_after-requires c = λ k d within. below c.args.ids.now c.requires.ids _ (c.requires.edges k d within).0

pub counts_before-requires : goal.counts_before-requires
counts_before-requires c = λ k d within. below c.args.ids.now c.requires.ids _ (c.requires.edges k d within).1

-- the number that is placed is one of them
placed_inside : (c : goal.After-deref-in-Some) → Contains c.args.ids.now c.in-Some.id
placed_inside c = ((c.loop-id.invariant.0.free c.in-Some.id).0 c.in-Some.ensures.member).0

-- where its edges lead
ends_are : (edges : List (ℕ × ℕ)) (after : List (Vec ℕ Global)) (id count : ℕ) (v : Vec ℕ Global) (ends : List ℕ) → ends ≡ v.items → v ≡ get_or after id v
    → ((a b : ℕ) → a < count → (d : Vec ℕ Global) → times b (get_or after a d).items ≡ edges_between edges a b)
    → id < count → (b : ℕ) → times b ends ≡ edges_between edges id b
ends_are edges after id count v ends is at all within b =
    ap (times b) (is ∙ ap (λ (w : Vec ℕ Global). w.items) at) ∙ all id b within v

pub release-requires-clause-in_range : goal.release-requires-clause-in_range
release-requires-clause-in_range c = λ k d within.
    let end : ℕ = get_or c.deref-in-Some.result.now k d in
    let inside = ends_inside c.args.ids.now c.args.edges.now c.requires.edges c.loop-id.order.items c.loop-id.waits.items c.loop-id.ready c.loop-id.invariant.0
    c.in-Some.id c.in-Some.ensures.member c.deref-in-Some.result.now (ends_are c.args.edges.now c.in_ok-after.after.items c.in-Some.id (length c.args.ids.now) c.index.result.now c.deref-in-Some.result.now c.deref-in-Some.ensures.value c.index.ensures c.in_ok-after.ensures.ends (below c.args.ids.now c.requires.ids c.in-Some.id (placed_inside c))) end (Contains-get_or c.deref-in-Some.result.now k d within) in
    omega (arith, below c.args.ids.now c.requires.ids end inside, ap length c.deref_mut.ensures.value, c.loop-id.invariant.1)

pub release-requires-clause-enough : goal.release-requires-clause-enough
release-requires-clause-enough c = λ b.
    subst (λ (waits : List ℕ). times b c.deref-in-Some.result.now ≤ slice_index waits b) (sym c.deref_mut.ensures.value)
    (enough c.args.ids.now c.args.edges.now c.requires.edges c.loop-id.order.items c.loop-id.waits.items c.loop-id.ready c.loop-id.invariant.0
    c.in-Some.id c.in-Some.ensures.member c.deref-in-Some.result.now (ends_are c.args.edges.now c.in_ok-after.after.items c.in-Some.id (length c.args.ids.now) c.index.result.now c.deref-in-Some.result.now c.deref-in-Some.ensures.value c.index.ensures c.in_ok-after.ensures.ends (below c.args.ids.now c.requires.ids c.in-Some.id (placed_inside c))) b)

pub loop-id-smaller : goal.loop-id-smaller
loop-id-smaller c =
    let own = (c.loop-id.invariant.0.free c.in-Some.id).0 c.in-Some.ensures.member in
    let P : List ℕ → Type 0 = λ xs.
    count_by (λ b. not (is_in xs b)) c.args.ids.now < count_by (λ b. not (is_in c.loop-id.order.items b)) c.args.ids.now in
    subst P (sym c.in_ok-push.ensures.items) (fewer_left c.args.ids.now c.loop-id.order.items c.in-Some.id own.0 own.1)

pub loop-id-preserved : goal.loop-id-preserved
loop-id-preserved c =
    let inside = ((c.loop-id.invariant.0.free c.in-Some.id).0 c.in-Some.ensures.member).0 in
    let wrote : (with_items c.loop-id.waits c.release.new.waits).items ≡ c.release.new.waits =
    with_items_is c.loop-id.waits c.release.new.waits (omega (arith, c.release.auto.waits, c.deref_mut.ensures.len)) in
    let more : Placing c.args.ids.now c.args.edges.now (c.loop-id.order.items ++ c.in-Some.id ∷ []) c.release.new.waits c.release.new.ready =
    placing_more c.args.ids.now c.args.edges.now c.requires.edges c.loop-id.order.items c.loop-id.waits.items c.loop-id.ready c.loop-id.invariant.0
    c.in-Some.id c.in-Some.ensures.member c.deref-in-Some.result.now
    (ends_are c.args.edges.now c.in_ok-after.after.items c.in-Some.id (length c.args.ids.now) c.index.result.now c.deref-in-Some.result.now c.deref-in-Some.ensures.value c.index.ensures c.in_ok-after.ensures.ends (below c.args.ids.now c.requires.ids c.in-Some.id inside))
    c.pop_first.new.self c.release.new.waits c.release.new.ready
    (λ q is. le_from_not_gt c.in-Some.id q (c.in-Some.ensures.least q is))
    (others_left c.loop-id.ready c.pop_first.new.self c.in-Some.id c.in-Some.ensures.updates)
    (λ b. c.in_ok-release.ensures.waits b ∙ ap (λ ws. slice_index ws b) c.deref_mut.ensures.value)
    (λ b. c.in_ok-release.ensures.ready b) in (
      subst (λ (ws : List ℕ). Placing c.args.ids.now c.args.edges.now c.push.new.self.items ws c.release.new.ready) (sym wrote)
          (subst (λ (xs : List ℕ). Placing c.args.ids.now c.args.edges.now xs c.release.new.waits c.release.new.ready) (sym c.in_ok-push.ensures.items) more),
      ap length wrote ∙ omega (arith, c.release.auto.waits, c.deref_mut.ensures.len, c.loop-id.invariant.1, ap length c.deref_mut.ensures.value),
    )

-- none is ready once none is taken
none_left : (ready : BTreeSet ℕ) → length ready.keys ≡ 0 → (b : ℕ) → IsTrue (contains nat_cmp ready b) → ⊥
none_left ready none b is = none_in (is_at (nat_cmp b)) ready.keys none is
  where
    none_in : (test : ℕ → Bool) (keys : List ℕ) → length keys ≡ 0 → list_any test keys ≡ true → ⊥
    none_in test [] none is = false≢true is
    none_in test (key ∷ keys) none is = omega arith

pub returns-then-has_waiting : goal.returns-then-has_waiting
returns-then-has_waiting c =
    stuck c.args.ids.now c.args.edges.now c.requires.edges c.loop-id.order.items c.loop-id.waits.items c.loop-id.ready c.loop-id.invariant.0
    (none_left c.loop-id.ready (grind (arith, c.in_default.ensures.variant, c.in_default.is)))
    (subst (λ (ws : List ℕ). list_any (λ id. nat_lt 0 (slice_index ws id)) c.args.ids.now ≡ true) c.deref-2.ensures.value (sym c.has_waiting.ensures ∙ c.if-has_waiting.true))

pub returns : goal.returns
returns c =
    finished c.args.ids.now c.args.edges.now c.requires.edges c.loop-id.order.items c.loop-id.waits.items c.loop-id.ready c.loop-id.invariant.0
    (none_left c.loop-id.ready (grind (arith, c.in_default.ensures.variant, c.in_default.is)))
    (subst (λ (ws : List ℕ). list_any (λ id. nat_lt 0 (slice_index ws id)) c.args.ids.now ≡ false) c.deref-2.ensures.value (sym c.has_waiting.ensures ∙ c.if-has_waiting.false))

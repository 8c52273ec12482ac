use Rattle.digraph.proofs.Prelude.{◌≡◌, ◌+◌, ◌-◌, max, ◌<◌, length, set, take, ap, refl, arith, rules, with_item, Open, Done, mark_at, is_open}
use Rattle.digraph.proofs.Results.{tells_weaker}
use Rattle.digraph.proofs.Stepping.{below_fits, finished, less_finishing, less_raising, next_arc, opened, raised, read_at, step_of, top_follows, top_is_open, top_read, top_within}
use Rattle.digraph.proofs.Turning.{circle_on_trail}
use Rattle.digraph.proofs.walks.Search.look.Goals as goal
use Rattle.digraph.proofs.walks.Search.look.Goals.{In-Open}

marked : (c : In-Open) → mark_at c.args.self.now.marks.items c.args.v ≡ Open c.in-Open.left c.in-Open.height
marked c = top_read _ _ _ _ c.requires.search c.args.v c.requires.not_empty c.requires.last c.index.result.now _ c.index.ensures c.in-Open.is

pub index-requires : goal.index-requires
index-requires c = let h = top_within _ _ _ _ c.requires.search c.args.v c.requires.not_empty c.requires.last in omega (arith, h, c.args.self.now.marks.ok.0)

pub unreachable-requires : goal.unreachable-requires
unreachable-requires c = top_is_open _ _ _ _ c.requires.search c.args.v c.requires.not_empty c.requires.last c.index.result.now c.index.ensures c.in_default.not-Open

pub index_mut-requires : goal.index_mut-requires
index_mut-requires c = let h = top_within _ _ _ _ c.requires.search c.args.v c.requires.not_empty c.requires.last in omega (arith, h, c.args.self.now.marks.ok.0)

pub returns-then-left-eq0-clause-step : goal.returns-then-left-eq0-clause-step
returns-then-left-eq0-clause-step c =
    let r = c.requires in
    let m = marked (goal.at.returns-then-left-eq0-clause-step c).In-Open in
    let is : mark_at c.args.self.now.marks.items c.args.v ≡ Open 0 c.in-Open.height = rw c.if-left-eq0.true at m in
    let marks : (with_item c.args.self.now.marks c.args.v (Done c.in-Open.height)).items ≡ set c.args.self.now.marks.items c.args.v (Done c.in-Open.height) = search rules in
    let trail : c.pop.new.self.items ≡ take (length c.args.self.now.trail.items - 1) c.args.self.now.trail.items = search rules in
    step_of _ _ _ _ _ marks trail (finished _ _ _ _ r.search _ _ is r.not_empty r.last) (less_finishing _ _ _ _ r.search _ _ is)

pub target-w-requires-clause-vertex : goal.target-w-requires-clause-vertex
target-w-requires-clause-vertex c = let h = top_within _ _ _ _ c.requires.search c.args.v c.requires.not_empty c.requires.last in omega (arith, h, c.requires.search.marks_len)

pub target-w-requires-clause-place : goal.target-w-requires-clause-place
target-w-requires-clause-place c =
    let o = opened _ _ _ _ c.requires.search _ _ _ (marked (goal.at.target-w-requires-clause-place c).In-Open) in
    omega (arith, o.within)

pub enter-requires-clause-follows : goal.enter-requires-clause-follows
enter-requires-clause-follows c =
    let r = c.requires in
    top_follows _ _ _ _ r.search _ r.not_empty r.last _ (next_arc _ _ _ _ r.search _ _ _ (marked (goal.at.enter-requires-clause-follows c).In-Open) c.if-left-eq0.false _ c.target-w.ensures.value)

pub circle_of-requires : goal.circle_of-requires
circle_of-requires c =
    let s = c.requires.search in
    let within : c.target-w.result < length c.args.self.now.marks.items = rw s.marks_len c.target-w.ensures.within in
    rw c.deref.ensures.value (s.walked.listed _ (ap is_open (read_at _ _ _ _ s c.target-w.result c.index-2.result.now _ within c.index-2.ensures c.in-Open-index.is)))

pub overflow_add-below : goal.overflow_add-below
overflow_add-below c =
    let s = c.requires.search in
    let within : c.target-w.result < length c.args.self.now.marks.items = rw s.marks_len c.target-w.ensures.within in
    let h = below_fits _ _ _ _ s _ _ (read_at _ _ _ _ s c.target-w.result c.index-2.result.now _ within c.index-2.ensures c.in-Done.is) in
    omega (arith, h)

pub index_mut-requires-in-Done : goal.index_mut-requires-in-Done
index_mut-requires-in-Done c = let h = top_within _ _ _ _ c.requires.search c.args.v c.requires.not_empty c.requires.last in omega (arith, h, c.args.self.now.marks.ok.0)

pub returns-in-Open-index-clause-circle : goal.returns-in-Open-index-clause-circle
returns-in-Open-index-clause-circle c =
    let r = c.requires in
    let arc = next_arc _ _ _ _ r.search _ _ _ (marked (goal.at.returns-in-Open-index-clause-circle c).In-Open) c.if-left-eq0.false _ c.target-w.ensures.value in
    tells_weaker _ _ (λ vs turned. circle_on_trail c.args.rows.now c.args.self.now.trail.items c.target-w.result vs r.search.walked.arcs r.search.walked.distinct (rw r.last arc) turned) _ (rw c.deref.ensures.value at c.circle_of.ensures)

pub returns-in-Done-clause-step : goal.returns-in-Done-clause-step
returns-in-Done-clause-step c =
    let r = c.requires in
    let is = marked (goal.at.returns-in-Done-clause-step c).In-Open in
    let within : c.target-w.result < length c.args.self.now.marks.items = rw r.search.marks_len c.target-w.ensures.within in
    let done = read_at _ _ _ _ r.search c.target-w.result c.index-2.result.now _ within c.index-2.ensures c.in-Done.is in
    let marks : (with_item c.args.self.now.marks c.args.v (Open (c.in-Open.left - 1) c.larger.result)).items ≡ set c.args.self.now.marks.items c.args.v (Open (c.in-Open.left - 1) (max c.in-Open.height (c.in-Done.below + 1))) = search rules in
    step_of _ _ _ _ _ marks refl (raised _ _ _ _ r.search _ _ _ is _ _ c.if-left-eq0.false c.target-w.ensures.value done) (less_raising _ _ _ _ r.search _ _ _ is _ _ c.if-left-eq0.false c.target-w.ensures.value done)

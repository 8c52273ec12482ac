use Rattle.conformance.proofs.Prelude.{ℕ, List, length, rules, subst, sym, pair_at, RunsOutside, AllAccept, AreInside, IsFirstOutside, RefusesAt, follow_step}
use Rattle.conformance.proofs.Following.{all_inside, conforms, leaves_outside, refuses_after}
use Rattle.conformance.proofs.conforming.conform.Goals as goal

pub returns-in-Some-clause-told : goal.returns-in-Some-clause-told
returns-in-Some-clause-told c =
    let p = c.args.part.now in
    let q = c.args.specified.now in
    let found = c.in_ok-explored.explored in
    let origins = c.in_ok-explored.ensures.found in
    let from = c.origin-earlier.result in
    let first : IsFirstOutside c.args.specified.now.table c.in_ok-explored.explored.pairs c.in-Some.place = search rules in
    subst (λ (s : List ℕ). RunsOutside p.table q.table s) (sym c.in_ok-push.ensures.ok)
    (leaves_outside p q c.requires.form c.requires.specified_form c.in_ok-trace.trace (pair_at found.pairs from.0) (pair_at found.pairs c.in-Some.place) from.1 (c.in_ok-trace.ensures p.table (follow_step p.alphabet q.table) 0 origins)
    (c.origin-earlier.ensures.leads p.table (follow_step p.alphabet q.table) 0 origins) (first.before from.0 c.origin-earlier.ensures.earlier) first.outside)

pub returns-in-Some-2-clause-told : goal.returns-in-Some-2-clause-told
returns-in-Some-2-clause-told c =
    let p = c.args.part.now in
    let q = c.args.specified.now in
    let found = c.in_ok-explored.explored in
    let inside : AreInside c.args.specified.now.table c.in_ok-explored.explored.pairs (length c.in_ok-explored.explored.pairs) = search rules in
    let refuses : RefusesAt c.args.part.now.table c.args.specified.now.table (pair_at c.in_ok-explored.explored.pairs c.in-Some-2.place) = search rules in
    refuses_after p q c.requires.form c.requires.specified_form found c.in_ok-explored.ensures.pairs (all_inside p q c.requires.form c.requires.specified_form found c.in_ok-explored.ensures.pairs inside)
    c.in_ok-trace-2.trace (pair_at found.pairs c.in-Some-2.place) (c.in_ok-trace-2.ensures p.table (follow_step p.alphabet q.table) 0 c.in_ok-explored.ensures.found) refuses

pub returns-clause-conforms : goal.returns-clause-conforms
returns-clause-conforms c =
    let p = c.args.part.now in
    let q = c.args.specified.now in
    let found = c.in_ok-explored.explored in
    let inside : AreInside c.args.specified.now.table c.in_ok-explored.explored.pairs (length c.in_ok-explored.explored.pairs) = search rules in
    let accept : AllAccept c.args.part.now.table c.args.specified.now.table c.in_ok-explored.explored.pairs (length c.in_ok-explored.explored.pairs) = search rules in
    conforms p q c.requires.form c.requires.specified_form found c.in_ok-explored.ensures.pairs (all_inside p q c.requires.form c.requires.specified_form found c.in_ok-explored.ensures.pairs inside) accept

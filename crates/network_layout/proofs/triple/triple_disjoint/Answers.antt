use Rattle.network_layout.proofs.Prelude.{arith, ap, length, get_or, sym, subst, Some, None, take, ◌≤◌, ◌≡◌, ◌∙◌, nat_le, find, TripleDisjoint, SharesEvent, alphabets}
use Rattle.network_layout.proofs.Triples.{apart, first_three, shared, three}
use Rattle.network_layout.proofs.triple.triple_disjoint.Goals as goal

pub returns-in_default-clause-ok : goal.returns-in_default-clause-ok
returns-in_default-clause-ok c =
    let none : find (nat_le 0) c.in_ok-crowded.crowded ≡ None = sym c.in_default.ensures.least in
    subst (λ cs. TripleDisjoint (alphabets cs)) c.seats-seats.ensures.seats (apart (alphabets c.seats-seats.result.now) c.in_ok-crowded.crowded c.in_ok-crowded.ensures none)

pub bounds-found-0 : goal.bounds-found-0
bounds-found-0 c =
    let many = three (alphabets c.seats-seats.result.now) c.in_ok-crowded.crowded c.in_ok-crowded.ensures c.in-Some.event c.first_from.ensures.rising (sym c.in-Some.ensures.least) in
    let all : 3 ≤ length c.as_slice-found.result.now = subst (λ hs. 3 ≤ length hs) (sym (c.as_slice-found.ensures ∙ c.in_ok-holders.ensures)) many in
    omega arith

pub bounds-found-1 : goal.bounds-found-1
bounds-found-1 c =
    let many = three (alphabets c.seats-seats.result.now) c.in_ok-crowded.crowded c.in_ok-crowded.ensures c.in-Some.event c.first_from.ensures.rising (sym c.in-Some.ensures.least) in
    let all : 3 ≤ length c.as_slice-found.result.now = subst (λ hs. 3 ≤ length hs) (sym (c.as_slice-found.ensures ∙ c.in_ok-holders.ensures)) many in
    omega arith

pub bounds-found-2 : goal.bounds-found-2
bounds-found-2 c =
    let many = three (alphabets c.seats-seats.result.now) c.in_ok-crowded.crowded c.in_ok-crowded.ensures c.in-Some.event c.first_from.ensures.rising (sym c.in-Some.ensures.least) in
    let all : 3 ≤ length c.as_slice-found.result.now = subst (λ hs. 3 ≤ length hs) (sym (c.as_slice-found.ensures ∙ c.in_ok-holders.ensures)) many in
    omega arith

pub returns-clause-shared : goal.returns-clause-shared
returns-clause-shared c =
    let rows = alphabets c.seats-seats.result.now in
    let found : find (nat_le 0) c.in_ok-crowded.crowded ≡ Some c.in-Some.event = sym c.in-Some.ensures.least in
    let many = three rows c.in_ok-crowded.crowded c.in_ok-crowded.ensures c.in-Some.event c.first_from.ensures.rising found in
    let is = c.as_slice-found.ensures ∙ c.in_ok-holders.ensures in
    let hs = c.as_slice-found.result.now in
    subst (λ cs. SharesEvent (alphabets cs) (record { event = c.in-Some.event; parts = (get_or hs 0 0, get_or hs 1 0, get_or hs 2 0) })) c.seats-seats.ensures.seats
    (shared rows c.in_ok-crowded.crowded c.in_ok-crowded.ensures c.in-Some.event c.first_from.ensures.rising found (get_or hs 0 0) (get_or hs 1 0) (get_or hs 2 0)
    (ap (take 3) (sym is) ∙ first_three c.as_slice-found.result.now (subst (λ hs. 3 ≤ length hs) (sym is) many)))

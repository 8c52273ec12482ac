use Rattle.digraph.proofs.Prelude.{◌≡◌, ◌<◌, ◌≤◌, ℕ, List, length, get_or, nat_eq, refl, sym, ap, ◌∙◌, subst, arith, eq-eqb, list_any_at, length-le_from_distinct_below, targets_of, found_after}
use Rattle.digraph.proofs.Listing.{same_has}
use Rattle.digraph.proofs.Reaching.{searched_first, searched_more, whole, members_found, all_below}
use Rattle.digraph.proofs.reach.add_reached.Goals as goal

pub loop-place-init : goal.loop-place-init
loop-place-init c = searched_first c.args.rows.now c.args.sources.now c.add_all.new.found c.requires.sources (c.in_ok-add_all.ensures ∙ ap (λ (xs : List ℕ). found_after xs c.args.sources.now) c.requires.none)

pub targets-requires : goal.targets-requires
targets-requires c =
    let found = c.loop-place.found in
    let below : c.loop-place.place < length found = omega arith in
    let inside : get_or found c.loop-place.place 0 < length c.args.rows.now = c.loop-place.invariant.below (get_or found c.loop-place.place 0) (list_any_at (λ y. nat_eq y (get_or found c.loop-place.place 0)) found c.loop-place.place 0 below (eq-eqb _ _ refl)) in
    subst (λ (xs : List ℕ). get_or xs c.loop-place.place 0 < length c.args.rows.now) (sym c.as_slice.ensures.value) inside

pub loop-place-smaller : goal.loop-place-smaller
loop-place-smaller c =
    let few : length c.loop-place.found ≤ length c.args.rows.now = length-le_from_distinct_below c.loop-place.found (length c.args.rows.now) c.as_slice.ensures.distinct (λ q h. c.loop-place.invariant.below q (same_has c.loop-place.found q ∙ h)) in
    omega arith

pub loop-place-preserved : goal.loop-place-preserved
loop-place-preserved c =
    let g = c.args.rows.now in
    let place = c.loop-place.place in
    let old = c.loop-place.found in
    let row : c.targets.result.now ≡ targets_of g (get_or old place 0) = c.targets.ensures.value ∙ ap (λ (xs : List ℕ). targets_of g (get_or xs place 0)) c.as_slice.ensures.value in
    let below : place < length old = omega arith in
    searched_more g c.args.sources.now old c.add_all-in-loop-place.new.found place (rw row at c.targets.ensures.in_range) below (c.in_ok-add_all-2.ensures ∙ ap (found_after old) row) c.loop-place.invariant

pub returns-clause-members : goal.returns-clause-members
returns-clause-members c = members_found c.args.rows.now c.args.sources.now c.loop-place.found c.loop-place.place (omega arith) c.loop-place.invariant

pub returns-clause-order : goal.returns-clause-order
returns-clause-order c = whole c.args.rows.now c.args.sources.now c.loop-place.found c.loop-place.place (omega arith) c.loop-place.invariant

pub returns-clause-below : goal.returns-clause-below
returns-clause-below c = all_below c.args.rows.now c.args.sources.now c.loop-place.found c.loop-place.place (omega arith) c.loop-place.invariant

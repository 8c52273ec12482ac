use Rattle.numbered_walks.proofs.Prelude.{◌<◌, ℕ, [], IsTrue, length, sym, subst, ◌∙◌, get_or_default, on_ok_weaker, GoesOn, Has, has_owner, Move}
use Rattle.numbered_walks.proofs.Stepping.{all_go, one_does, one_within, row_there}
use Rattle.numbered_walks.specs.declared.moves.Move.TheVariants as move
use Rattle.numbered_walks.proofs.standing.take.Goals as goal

pub bounds-owners-event-inside : goal.bounds-owners-event-inside
bounds-owners-event-inside c =
    let has_it = subst (λ (m : Move). Has c.args.movers.now c.args.standing.now.terms.items m) c.in-Event.is c.requires.has in
    subst (λ (n : ℕ). n < length c.args.owners.now) (sym c.event.view_is) (row_there c.args.movers.now c.args.owners.now c.in-Event.event c.requires.owners has_it.0)

pub do_together-requires-clause-owners : goal.do_together-requires-clause-owners
do_together-requires-clause-owners c =
    let has_it = subst (λ (m : Move). Has c.args.movers.now c.args.standing.now.terms.items m) c.in-Event.is c.requires.has in
    let below = subst (λ (n : ℕ). n < length c.args.owners.now) (sym c.event.view_is) (row_there c.args.movers.now c.args.owners.now c.in-Event.event c.requires.owners has_it.0) in
    c.as_slice.ensures ∙ c.index-owners-event.is ∙ get_or_default c.args.owners.now c.event.inside.0 c.index-owners-event.result [] below ∙ c.requires.owners c.event.inside.0

pub returns-in-Silent-clause-goes : goal.returns-in-Silent-clause-goes
returns-in-Silent-clause-goes c =
    let cs = c.args.movers.now in
    let old = c.args.standing.now in
    let new = c.move_silently.new.standing in
    let has_it = subst (λ (m : Move). Has cs old.terms.items m) c.in-Silent.is c.requires.has in
    on_ok_weaker c.move_silently.result
    (λ does. subst (λ (m : Move). GoesOn cs m old new) (sym c.in-Silent.is)
    (one_does cs old new c.in-Silent.place (one_within cs old.terms.items c.in-Silent.place has_it) c.requires.form.one_each does)) c.move_silently.ensures.does

pub returns-in-Event-clause-goes : goal.returns-in-Event-clause-goes
returns-in-Event-clause-goes c =
    let cs = c.args.movers.now in
    let old = c.args.standing.now in
    let new = c.do_together.new.standing in
    let e = c.event.inside.0 in
    let owned : IsTrue (has_owner cs e) = subst (λ n. IsTrue (has_owner cs n)) (sym c.event.view_is) (subst (λ (m : Move). Has cs old.terms.items m) c.in-Event.is c.requires.has).0 in
    let below = row_there cs c.args.owners.now e c.requires.owners owned in
    let places = c.as_slice.ensures ∙ c.index-owners-event.is ∙ get_or_default c.args.owners.now e c.index-owners-event.result [] below ∙ c.requires.owners e in
    on_ok_weaker c.do_together.result
    (λ gone. subst (λ (m : Move). GoesOn cs m old new) (sym c.in-Event.is)
    (subst (λ n. GoesOn cs (move.Event n) old new) c.event.view_is (all_go e cs c.as_slice.result.now old new owned c.requires.form.one_each places gone))) c.do_together.ensures.gone

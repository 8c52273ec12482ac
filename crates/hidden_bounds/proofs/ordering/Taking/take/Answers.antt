use Rattle.hidden_bounds.proofs.Prelude.{◌≡◌, ap, ◌∙◌, diff_of, alphabet_at}
use Rattle.hidden_bounds.proofs.Steps.{alphabet_read, fewer_now, taken_now}
use Rattle.hidden_bounds.proofs.ordering.Taking.take.Goals as goal

pub returns-clause-so_far : goal.returns-clause-so_far
returns-clause-so_far c =
    let rest : c.in_ok-rest.rest ≡ diff_of c.args.self.now.left (alphabet_at c.args.scope.now.seats.now c.args.placed.part) =
    c.in_ok-rest.ensures.value ∙ ap (diff_of c.args.self.now.left) (c.alphabet-alphabet.ensures ∙ alphabet_read c.args.scope.now.seats.now c.args.placed.part _ c.requires.least.within) in
    taken_now _ _ _ _ _ _ c.requires.so_far _ c.requires.least _ _ _ c.in_ok-events.ensures rest c.reopen.ensures.as_many c.reopen.ensures.reopened _ c.in_ok-push.ensures.items

pub returns-clause-fewer : goal.returns-clause-fewer
returns-clause-fewer c =
    let rest : c.in_ok-rest.rest ≡ diff_of c.args.self.now.left (alphabet_at c.args.scope.now.seats.now c.args.placed.part) =
    c.in_ok-rest.ensures.value ∙ ap (diff_of c.args.self.now.left) (c.alphabet-alphabet.ensures ∙ alphabet_read c.args.scope.now.seats.now c.args.placed.part _ c.requires.least.within) in
    fewer_now _ _ _ _ _ _ c.requires.so_far _ c.requires.least _ _ _ c.in_ok-events.ensures rest c.reopen.ensures.as_many c.reopen.ensures.reopened

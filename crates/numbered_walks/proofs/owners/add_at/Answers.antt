use Rattle.std.proofs.Common.{ℕ, List, [], ◌++◌, nat_eq, get_or, ap, ◌∙◌}
use Rattle.numbered_walks.proofs.Owning.{owned, owner_more}
use Rattle.numbered_walks.proofs.owners.add_at.Goals as goal

pub returns-clause-rows : goal.returns-clause-rows
returns-clause-rows c e =
    owner_more c.grow.new.rows.items c.push_at.new.rows.items c.event.inside.0 c.args.owner c.in_ok-grow.ensures.within c.in_ok-push_at.ensures e
    ∙ ap (λ (row : List ℕ). row ++ owned (nat_eq c.event.inside.0 e) c.args.owner) (c.in_ok-grow.ensures.rows e)
    ∙ ap (λ (n : ℕ). get_or c.args.rows.now.items e [] ++ owned (nat_eq n e) c.args.owner) c.event.view_is

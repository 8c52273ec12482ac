use Rattle.client_server_conditions.proofs.Prelude.{or_comm, ◌∙◌, ◌&&◌, ◌||◌, Bool, List, ℕ, nat_eq, ap, sym, has-with_member, has}
use Rattle.client_server_conditions.proofs.open_links.insert_if.Goals as goal

pub returns : goal.returns
returns c l =
    ap (λ (xs : List ℕ). has xs l) c.in_ok-insert.ensures.ok ∙ has-with_member c.args.link c.args.set.now l
    ∙ or_comm (nat_eq c.args.link l) (has c.args.set.now l)
    ∙ ap (λ (b : Bool). has c.args.set.now l || (b && nat_eq c.args.link l)) (sym c.if-not-wanted.false)

use Rattle.numbered_walks.proofs.Prelude.{◌<◌, ℕ, List, [], length, sym, subst, ◌∙◌, IsNonDecreasingBy, get_or_default, Numbered}
use Rattle.numbered_walks.proofs.Rowing.{by_event}
use Rattle.numbered_walks.proofs.mover.Mover.steps_by.Goals as goal

pub steps_by-requires : goal.steps_by-requires
steps_by-requires c =
    let rows = c.self.invariant.3 in
    let below : c.args.term < c.self.inside.table.now.count = subst (λ (m : Numbered). c.args.term < m.table.count) (sym c.self.view_is) c.requires in
    let within : c.args.term < length c.self.inside.steps.items = subst (λ n. c.args.term < n) (sym rows.one_each) below in
    let row = c.as_slice.ensures ∙ c.index.ensures ∙ get_or_default c.self.inside.steps.items c.args.term c.index.result.now [] within in
    subst (λ (l : List (ℕ × ℕ)). IsNonDecreasingBy by_event l) (sym row) (rows.order c.args.term below)

use Rattle.numbered_walks.proofs.Prelude.{◌<◌, List, ℕ, length, sym, subst, length-map, step_listed, visible, IsDrawn}
use Rattle.numbered_walks.proofs.Drawing.{drawn_steps, has_target}
use Rattle.numbered_walks.proofs.mover.Mover.draw_by.Goals as goal

pub drawn_by-requires : goal.drawn_by-requires
drawn_by-requires c =
    subst (λ n. 0 < n) (length-map c.steps_by.result.now (λ s. s.1))
    (subst (λ (l : List ℕ). 0 < length l) (sym c.steps_by.ensures.value) (has_target c.args.self.now.table c.args.term c.requires.can.0 (visible c.args.event) c.requires.can.1))

pub returns-clause-within : goal.returns-clause-within
returns-clause-within c =
    let step = drawn_steps c.args.self.now.table c.args.term (visible c.args.event) c.args.number c.drawn_by.result.to c.drawn_by.result.number
    (subst (λ (l : List ℕ). IsDrawn l c.args.number c.drawn_by.result.to c.drawn_by.result.number) c.steps_by.ensures.value c.drawn_by.ensures) in
    (c.steps_by.ensures.form.steps_within c.args.term c.args.event c.drawn_by.result.to (step_listed c.args.self.now.table c.args.term c.args.event c.drawn_by.result.to step)).1

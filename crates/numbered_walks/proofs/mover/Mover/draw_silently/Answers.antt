use Rattle.numbered_walks.proofs.Prelude.{◌<◌, List, ℕ, length, sym, subst, silent_listed, silent, IsDrawn}
use Rattle.numbered_walks.proofs.Drawing.{drawn_steps, has_target}
use Rattle.numbered_walks.proofs.mover.Mover.draw_silently.Goals as goal

pub drawn_silently-requires : goal.drawn_silently-requires
drawn_silently-requires c =
    subst (λ (l : List ℕ). 0 < length l) (sym c.silent_targets.ensures.value) (has_target c.args.self.now.table c.args.term c.requires.can.0 silent c.requires.can.1)

pub returns-clause-within : goal.returns-clause-within
returns-clause-within c =
    let step = drawn_steps c.args.self.now.table c.args.term silent c.args.number c.drawn_silently.result.to c.drawn_silently.result.number
    (subst (λ (l : List ℕ). IsDrawn l c.args.number c.drawn_silently.result.to c.drawn_silently.result.number) c.silent_targets.ensures.value c.drawn_silently.ensures) in
    (c.silent_targets.ensures.form.silent_within c.args.term c.drawn_silently.result.to (silent_listed c.args.self.now.table c.args.term c.drawn_silently.result.to step)).1

use Rattle.csp_atoms.proofs.Prelude.{sym, ◌∙◌, ap, arith, same}
use Rattle.csp_atoms.proofs.SearchLaws.{stands_beyond, stands_within}
use Rattle.csp_atoms.proofs.sorted.is_at.Goals as goal

pub returns-then-place-atoms : goal.returns-then-place-atoms
returns-then-place-atoms c = sym (stands_beyond c.args.atoms.now c.args.place c.args.atom.now (omega arith))

pub returns : goal.returns
returns c =
    c.equal.ensures ∙ ap (λ z. same z c.args.atom.now) c.index-atoms-place.is
    ∙ sym (stands_within c.args.atoms.now c.args.place c.args.atom.now c.index-atoms-place.result (omega arith))

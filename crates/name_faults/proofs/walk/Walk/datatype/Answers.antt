use Rattle.name_faults.proofs.Prelude.{[], ◌∷◌, ◌++◌, ap, append_assoc, ◌∙◌, is_among, declared_after, Declares, after}
use Rattle.name_faults.proofs.KnownLemmas.{each_same}
use Rattle.name_faults.proofs.walk.Walk.datatype.Goals as goal

pub returns-clause-said : goal.returns-clause-said
returns-clause-said c =
    let w = c.args.self.now in
    let x = c.args.x.now in
    let named = c.args.declared.now ++ x ∷ [] in
    c.in_ok-declare_all.ensures.said
    ∙ (λ j. after (c.in_ok-declare.ensures.said j) (each_same Declares c.declare.new.declared named c.args.ks.now c.in_ok-declare.ensures.declared j))
    ∙ ap (λ os. record w { list = os }) (append_assoc w.list (Declares x (is_among c.args.declared.now x) ∷ []) (declared_after named c.args.ks.now))

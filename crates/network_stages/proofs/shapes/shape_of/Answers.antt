use Rattle.network_stages.proofs.Prelude.{List, length, sym, subst, Part, IsLinked, AreLinksBefore, IsVocabulary}
use Rattle.network_stages.proofs.Forming.{is_linked, ordered}
use Rattle.network_stages.proofs.shapes.shape_of.Goals as goal

pub new-requires : goal.new-requires
new-requires c =
    ordered c.args.parts.items c.in_ok-links.links.items c.in_ok-links.vocabulary c.requires.most
    (subst (λ (ps : List Part). AreLinksBefore ps (length ps) 0 c.in_ok-links.links.items) c.deref.ensures.value c.in_ok-links.ensures.links)

pub returns-clause-linked : goal.returns-clause-linked
returns-clause-linked c =
    subst IsLinked (sym c.new.ensures)
    (is_linked c.args.parts.items c.in_ok-links.links.items c.in_ok-links.vocabulary c.requires.least c.requires.most
    (subst (λ (ps : List Part). AreLinksBefore ps (length ps) 0 c.in_ok-links.links.items) c.deref.ensures.value c.in_ok-links.ensures.links)
    (subst (λ (ps : List Part). IsVocabulary ps c.in_ok-links.vocabulary) c.deref.ensures.value c.in_ok-links.ensures.vocabulary))

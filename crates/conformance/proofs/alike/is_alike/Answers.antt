use Rattle.conformance.proofs.Prelude.{◌∙◌, ap, sym, Node}
use Rattle.conformance.proofs.Standing.{same_sets}
use Rattle.conformance.proofs.alike.is_alike.Goals as goal

pub returns : goal.returns
returns c h = record {
  within = ((λ _. c.in-Some-node_of.ensures.there), (λ _. c.in-Some.ensures.there));
  same =
      ap (λ (node : Node). node.accept) (sym c.in-Some.ensures.node) ∙ sym c.accept.ensures ∙ same_sets c.accept.result.now c.accept-2.result.now (sym c.eq.ensures ∙ h)
      ∙ c.accept-2.ensures ∙ ap (λ (node : Node). node.accept) c.in-Some-node_of.ensures.node;
}

use Rattle.csp_resolve.proofs.Prelude.{◌≤◌, IsTrue, length, map, sym, ◌∙◌, subst, Content, MOST_BYTES, Answer, Answers}
use Rattle.csp_program.specs.Prelude.{lacks_sets, all_true}
use Rattle.resolved_laws.proofs.Whole.{plain_lacks}
use Rattle.csp_resolve.proofs.Few.{few_channels}
use Rattle.csp_resolve.proofs.ResolvedLaws.{faultless}
use Rattle.csp_resolve.proofs.resolution.content_by_names.Goals as goal

pub returns-in_ok-content-in-None : goal.returns-in_ok-content-in-None
returns-in_ok-content-in-None c =
    subst (λ (whole : Answer Content). Answers (λ (p : Content). p) c.with_events.result whole)
    (sym (faultless c.args.decls.now c.args.meanings.now.kinds.now c.in-Some.root.now c.args.meanings.now.names.now c.in_ok-content-in-None.content c.requires.names (sym c.in-Some.ensures) (sym c.in_ok-fault.ensures ∙ c.in-None.is)
    c.in_ok-content-in-None.ensures))
    c.with_events.ensures

pub with_events-requires : goal.with_events-requires
with_events-requires c = record {
  few = c.requires.small.few;
  channels = subst (λ (p : Content). length p.channels ≤ MOST_BYTES) (sym c.in_ok-content-in-None.ensures) (few_channels c.args.decls.now c.args.meanings.now.kinds.now c.requires.small.few);
  plain = subst (λ (p : Content). IsTrue (all_true (map lacks_sets p.channels))) (sym c.in_ok-content-in-None.ensures) (plain_lacks c.args.decls.now c.args.meanings.now.kinds.now);
}

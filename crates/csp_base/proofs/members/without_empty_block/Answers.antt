use Rattle.csp_base.proofs.Prelude.{◌++◌, ◌*◌, ap, sym, ◌∙◌, arith, events_of, word_events}
use Rattle.csp_base.proofs.BlockMembers.{AreBlocksFrom-weaken}
use Rattle.csp_base.proofs.Words.{word_events-zero}
use Rattle.csp_base.proofs.members.without_empty_block.Goals as goal

pub first_block-requires : goal.first_block-requires
first_block-requires c = AreBlocksFrom-weaken 0 _ _ (omega arith) c.requires.rest

pub returns-clause-events : goal.returns-clause-events
returns-clause-events c =
    let none = ap (word_events 64 (64 * c.args.number)) c.if-word-ne0.false ∙ word_events-zero 64 (64 * c.args.number) in
    c.first_block.ensures.events ∙ ap (λ xs. xs ++ events_of c.args.rest.now) (sym none)

pub returns-clause-none : goal.returns-clause-none
returns-clause-none c =
    let none = ap (word_events 64 (64 * c.args.number)) c.if-word-ne0.false ∙ word_events-zero 64 (64 * c.args.number) in
    λ z. ap (λ xs. xs ++ events_of c.args.rest.now) none ∙ c.first_block.ensures.none z

use Rattle.csp_lexer.proofs.Prelude.{length, rules, tests, YieldsList-at, YieldsList-from_filter, map_from_collect, YieldsList-from_slice_split, nat_lt, is_space, words_of}
use Rattle.csp_lexer.proofs.annotations.words_of.Goals as goal

pub returns : goal.returns
unfolding words_of
returns c =
    map_from_collect _ c.collect.ensures.ran
    (YieldsList-from_filter _ (λ word. nat_lt 0 (length word))
    (YieldsList-at c.filter.ensures.source
    (YieldsList-from_slice_split _ is_space _ c.split.ensures.rest c.split.ensures.done c.split.ensures.closure (λ x b q k. search (rules, tests))))
    c.filter.ensures.closure (λ x b q k. search (rules, tests)))

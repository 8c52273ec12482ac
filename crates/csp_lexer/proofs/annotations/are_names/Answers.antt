use Rattle.csp_lexer.proofs.Prelude.{sym, ◌∙◌, rules, tests, YieldsList-from_slice, all_from_yields_List, list_all-map, is_name}
use Rattle.csp_lexer.proofs.annotations.are_names.Goals as goal

pub returns : goal.returns
returns c =
    all_from_yields_List (λ word. is_name word.now) _ _ _ c.all.ensures.ran (YieldsList-from_slice _ c.iter.ensures.rest) (λ x b q k. search (rules, tests))
    ∙ sym (list_all-map is_name (λ word. word.now) c.args.words.now)

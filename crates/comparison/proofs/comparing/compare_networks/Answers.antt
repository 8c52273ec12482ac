use Rattle.comparison.proofs.Prelude.{rules, at_refusal, at_shortfall, goes_on, passed, ConformanceDecides, IsCompared, PartsOr, ComponentsConform}
use Rattle.comparison.proofs.Components.{inherits}
use Rattle.comparison.proofs.Walk.{at_parts, past_agreement, past_parts}
use Rattle.comparison.proofs.comparing.compare_networks.Goals as goal

pub returns-in_err-check_events : goal.returns-in_err-check_events
unfolding IsCompared
returns-in_err-check_events c = search (rules, at_refusal)

pub returns-in_err-check_alphabets : goal.returns-in_err-check_alphabets
unfolding IsCompared
returns-in_err-check_alphabets c = goes_on _ _ _ _ (tt {0}) (search rules) _ (search (rules, at_refusal))

pub returns-in_err-parted : goal.returns-in_err-parted
returns-in_err-parted c = past_agreement _ _ _ (search rules) (search rules) (search (rules, at_parts))

pub returns-in_err-others : goal.returns-in_err-others
returns-in_err-others c =
    past_agreement _ _ _ (search rules) (search rules) (past_parts _ _ _ _ c.in_ok-parted.ensures.tables.0 _ c.in_ok-parted.ensures.tables.1 c.in_ok-parted.ensures.parts (search (rules, at_parts)))

pub check_components-requires : goal.check_components-requires
check_components-requires c = search rules

pub returns-in_err-check_components : goal.returns-in_err-check_components
unfolding ConformanceDecides
returns-in_err-check_components c =
    past_agreement _ _ _ (search rules) (search rules) (past_parts _ _ _ _ c.in_ok-parted.ensures.tables.0 _ c.in_ok-parted.ensures.tables.1 c.in_ok-parted.ensures.parts
    (past_parts _ _ _ _ c.in_ok-others.ensures.tables.0 _ c.in_ok-others.ensures.tables.1 c.in_ok-others.ensures.parts (search (rules, at_shortfall))))

pub returns : goal.returns
unfolding IsCompared PartsOr ConformanceDecides
returns c =
    let conform : ComponentsConform c.args.network.now c.args.specified.now = search rules in
    passed (tt {0}) (search rules) (passed (tt {0}) (search rules)
    (passed c.in_ok-parted.ensures.tables.0 c.in_ok-parted.ensures.tables.1 (passed c.in_ok-parted.parted.parts c.in_ok-parted.ensures.parts
    (passed c.in_ok-others.ensures.tables.0 c.in_ok-others.ensures.tables.1 (passed c.in_ok-others.others.parts c.in_ok-others.ensures.parts
    (passed (tt {0}) conform (record {
      bound = c.in_ok-parted.bound;
      exact = c.in_ok-parted.ensures.bound;
      inherits = inherits c.args.network.now c.args.specified.now c.program.ensures.spelled c.program-2.ensures.spelled c.in_ok-parted.parted.parts c.in_ok-parted.ensures.parts conform
          c.in_ok-parted.bound c.in_ok-parted.ensures.bound;
      is = search rules;
    })))))))

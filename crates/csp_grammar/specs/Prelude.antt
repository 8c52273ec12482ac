-- What is defined here, under one name for those who import it.
pub use Rattle.csp_grammar.specs.Declarations.{AssertedText, DeclarationText, DeclarationsText, ModelText, NamesText, ParametersText, ScriptText, TypesText}
pub use Rattle.csp_grammar.specs.Examples.{DifferencesNestFromTheLeft, FieldsAreArithmetic, HidingsNestFromTheLeft, OpenFormsReachToTheRight, ParenthesesLeaveNoTrace, PrefixBindsTighterThanChoice, PrefixBindsTighterThanSequence, SequencesNestFromTheRight, SetOfOneNegativeNumber, plain_prefix, prefix_tokens}
pub use Rattle.csp_grammar.specs.Grammar.{AtomText, Choice, ChoiceText, ConditionsText, DotsText, DottedText, EventText, ExpressionText, FieldsText, GenText, GensText, HidingText, ItemText, ItemsText, OpenText, PairsText, PartText, PartsText, PrefixText, Reach, SequenceText, SideText, TreeText, choice_of, choice_sign, event_tree, part_tree}
pub use Rattle.csp_grammar.specs.Grammar.Choice.{external, internal}
pub use Rattle.csp_grammar.specs.Grammar.Reach.{closed, opened}
pub use Rattle.csp_grammar.specs.Precedence.{IsComparison, IsLeftOperator, IsNext, Level}
pub use Rattle.csp_grammar.specs.Precedence.IsLeftOperator.{minus-sign, percent, plus}
pub use Rattle.csp_grammar.specs.Precedence.IsNext.{comparison-sum, conjunction-negation, disjunction-conjunction, minus-renaming, negation-comparison, product-minus, sum-product}
pub use Rattle.csp_grammar.specs.Precedence.Level.{comparison, conjunction, disjunction, minus, negation, product, renaming, sum}
pub use Rattle.csp_grammar.specs.Reader.{Reading, and_then, begins_event, case, dotted_tree, only, with_first}
pub use Rattle.csp_grammar.specs.Tokens.{begins, behind_name, binding, first_token, skip, skip_word}

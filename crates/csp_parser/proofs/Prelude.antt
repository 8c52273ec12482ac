-- What the proofs of this crate cite of the crates below, and of its own definitions.
pub use Rattle.csp_base.proofs.Standard.{IfOk-weaker, take-append-drop}
pub use Rattle.csp_base.specs.Prelude.{greatest}
pub use Rattle.csp_base.specs.declared.place.Place.{Place}
pub use Rattle.csp_base.specs.Stops.{Tells}
pub use Rattle.csp_base.specs.declared.stop.Stop.{Stop}
pub use Rattle.csp_text.specs.declared.fault.NoScript.{NoScript}
pub use Rattle.csp_grammar.specs.Declarations.{AssertedText, DeclarationText, DeclarationsText, ModelText, NamesText, ParametersText, ScriptText, TypesText}
pub use Rattle.csp_grammar.specs.Prelude.{AtomText, Choice, ChoiceText, ConditionsText, DotsText, DottedText, EventText, ExpressionText, FieldsText, GenText, GensText, HidingText, ItemText, ItemsText, Level, OpenText, PairsText, PartText, PartsText, PrefixText, Reach, SequenceText, SideText, TreeText, choice_of, event_tree, external, internal, part_tree}
pub use Rattle.csp_grammar.specs.Reader.{and_then}
pub use Rattle.csp_lexer.proofs.SymbolsLemmas.{symbol_has_byte}
pub use Rattle.csp_lexer.specs.Prelude.{Cut, Lexeme, LineCut, PlacedTokens, lexed, line_len, rest_len, tokens_of}
pub use Rattle.csp_parser.specs.Sizes.{SpelledScriptsAreSmall}
pub use Rattle.csp_parser.specs.Spells.{EachTextSpellsOneScript, Spells}
pub use Rattle.csp_text.specs.Prelude.{tree_depth}
pub use Rattle.csp_text.specs.declared.tree.FieldTree.{FieldTree}
pub use Rattle.csp_text.specs.declared.tree.GenTree.{GenTree}
pub use Rattle.csp_text.specs.declared.tree.PartTree.{PartTree}
pub use Rattle.csp_text.specs.declared.tree.FieldTree.TheViews.{out-EventTree, out-roll-EventTree, out-roll-PartTree}
pub use Rattle.csp_text.specs.declared.script.Decl.{Decl}
pub use Rattle.csp_text.specs.declared.script.Script.{Script}
pub use Rattle.csp_text.specs.declared.token.Symbol.{Symbol}
pub use Rattle.csp_text.specs.declared.token.Token.{Token}
pub use Rattle.csp_text.specs.declared.tree.Tree.{Tree}
pub use Rattle.dl_limits.specs.declared.TheConstants.{MOST_BYTES, MOST_TREE_DEPTH}
pub use Rattle.script_sizes.proofs.TokenForms.{field_tokens-Dot, field_tokens-Input, field_tokens-Output, gen_tokens-Cond, gen_tokens-From, part_tokens-is, tokens-Binary, tokens-Call, tokens-Comp, tokens-Display, tokens-Dot, tokens-EachExternal, tokens-EachInternal, tokens-EachParallel, tokens-External, tokens-False, tokens-Guard, tokens-Hide, tokens-If, tokens-Internal, tokens-Name, tokens-Neg, tokens-Not, tokens-Num, tokens-Parallel, tokens-Prefix, tokens-Product, tokens-Range, tokens-Rename, tokens-Seq, tokens-SetOp, tokens-Skip, tokens-Stop, tokens-True}
pub use Rattle.script_sizes.specs.BindingTokens.{all_tokens, fields_tokens, gen_tokens, gens_tokens, pairs_tokens, part_tokens, parts_tokens, tokens}
pub use Rattle.script_sizes.specs.Size.{AreSmall, declaration_depth, declaration_size, depth, size}
pub use Rattle.std.proofs.Common.{Bool, Err, List, None, Option, Some, [], ap, append-nil, append_assoc, arith, drop, eqb, false, length, length-append, length-drop, map, max, refl, subst, suc, sym, take, true, ℕ, ◌*◌, ◌++◌, ◌+◌, ◌-◌, ◌<◌, ◌∙◌, ◌∷◌, ◌≡◌, ◌≤◌}
pub use Rattle.std.proofs.lemmas.Bool.{eqb-true}
pub use Rattle.std.specs.Prelude.{IfErr, IfOk, Ok, Result}
pub use Rattle.tree_parser.proofs.ListSteps.{item_missing, last_item_read, later, next_item}
pub use Rattle.tree_parser.proofs.SoFar.{Comes, SoFar}
pub use Rattle.tree_parser.specs.Reads.{Reads}
pub use Rattle.tree_reading.proofs.Unique.{one_script, settled_nothing, settled_script}
pub use Rattle.tree_reading.specs.Nesting.{whole}
pub use Rattle.tree_reading.specs.Prelude.{Limited, Settles, limited, name_that, named, read_declaration, sure}
pub use Rattle.tree_reading.specs.declared.fault.NoText.{NoText}

use Rattle.script_printer.proofs.Prelude.{◌≡◌, ◌+◌, ◌*◌, ◌++◌, ◌∷◌, drop, max, flat_map, Comma, Dot, spaced, field_tokens, gen_tokens, item_tokens, operand_tokens, part_tokens, renamed_tokens, separated}
use Rattle.csp_text.proofs.tree.Tree.TheLaws.{the_size}
use denote.Param.Weighed as weighed
use Rattle.csp_text.proofs.tree.GenTree.TheLaws as generator
use Rattle.csp_text.specs.declared.token.Token.TheVariants as token
use Rattle.script_printer.proofs.Written.{left_separated}
use Rattle.script_printer.proofs.trees.+trees.Given as goal

-- In each loop, what is written and what is left are all of them.
abbrev pub invariant-put_items-loop-place : goal.invariant-put_items-loop-place
invariant-put_items-loop-place l =
    l.text ++ spaced (left_separated item_tokens (token.Symbol Comma) l.place l.items)
    ≡ l.fn.text ++ spaced (separated item_tokens (token.Symbol Comma) l.items)

abbrev pub invariant-put_operands-loop-place : goal.invariant-put_operands-loop-place
invariant-put_operands-loop-place l =
    l.text ++ spaced (left_separated operand_tokens (token.Symbol l.sign) l.place l.operands)
    ≡ l.fn.text ++ spaced (separated operand_tokens (token.Symbol l.sign) l.operands)

abbrev pub invariant-put_gens-loop-place : goal.invariant-put_gens-loop-place
invariant-put_gens-loop-place l =
    l.text ++ spaced (left_separated gen_tokens (token.Symbol Comma) l.place l.gens)
    ≡ l.fn.text ++ spaced (separated gen_tokens (token.Symbol Comma) l.gens)

abbrev pub invariant-put_parts-loop-place : goal.invariant-put_parts-loop-place
invariant-put_parts-loop-place l =
    l.text ++ spaced (left_separated part_tokens (token.Symbol Comma) l.place l.parts)
    ≡ l.fn.text ++ spaced (separated part_tokens (token.Symbol Comma) l.parts)

abbrev pub invariant-put_pairs-loop-place : goal.invariant-put_pairs-loop-place
invariant-put_pairs-loop-place l =
    l.text ++ spaced (left_separated renamed_tokens (token.Symbol Comma) l.place l.pairs)
    ≡ l.fn.text ++ spaced (separated renamed_tokens (token.Symbol Comma) l.pairs)

abbrev pub invariant-put_dotted-loop-field : goal.invariant-put_dotted-loop-field
invariant-put_dotted-loop-field l =
    l.text ++ spaced (flat_map (λ x. token.Symbol Dot ∷ operand_tokens x) (drop l.field-index l.fields))
    ≡ l.fn.text ++ spaced (flat_map (λ x. token.Symbol Dot ∷ operand_tokens x) l.fields)

abbrev pub invariant-put_fields-loop-field : goal.invariant-put_fields-loop-field
invariant-put_fields-loop-field l =
    l.text ++ spaced (flat_map field_tokens (drop l.field-index l.fields))
    ≡ l.fn.text ++ spaced (flat_map field_tokens l.fields)

-- how deep what is left is, eight for each level: what writes a tree in parentheses, behind a sign or in a list comes above what writes it, and a form above those
abbrev pub decreases-put_tree : goal.decreases-put_tree
decreases-put_tree l = 8 * goal.size-put_tree l

abbrev pub decreases-put_field : goal.decreases-put_field
decreases-put_field l = 8 * goal.size-put_field l

abbrev pub decreases-put_gen : goal.decreases-put_gen
decreases-put_gen l = 8 * goal.size-put_gen l

abbrev pub decreases-put_part : goal.decreases-put_part
decreases-put_part l = 8 * goal.size-put_part l

abbrev pub decreases-put_event : goal.decreases-put_event
decreases-put_event l = 8 * goal.size-put_event l

abbrev pub decreases-put_in_parentheses : goal.decreases-put_in_parentheses
decreases-put_in_parentheses l = 8 * goal.size-put_in_parentheses l + 1

abbrev pub decreases-put_gens : goal.decreases-put_gens
decreases-put_gens l = 8 * goal.size-put_gens l + 1

abbrev pub decreases-put_parts : goal.decreases-put_parts
decreases-put_parts l = 8 * goal.size-put_parts l + 1

abbrev pub decreases-put_pair : goal.decreases-put_pair
decreases-put_pair l = 8 * goal.size-put_pair l + 1

abbrev pub decreases-put_pairs : goal.decreases-put_pairs
decreases-put_pairs l = 8 * goal.size-put_pairs l + 2

abbrev pub decreases-put_branch : goal.decreases-put_branch
decreases-put_branch l = 8 * goal.size-put_branch l + 1

abbrev pub decreases-put_tree_after : goal.decreases-put_tree_after
decreases-put_tree_after l = 8 * goal.size-put_tree_after l + 1

abbrev pub decreases-put_input : goal.decreases-put_input
decreases-put_input l = 8 * goal.size-put_input l + 4

abbrev pub decreases-put_fields : goal.decreases-put_fields
decreases-put_fields l = 8 * goal.size-put_fields l + 1

abbrev pub decreases-put_operand : goal.decreases-put_operand
decreases-put_operand l = 8 * goal.size-put_operand l + 2

abbrev pub decreases-put_item : goal.decreases-put_item
decreases-put_item l = 8 * goal.size-put_item l + 2

abbrev pub decreases-put_generators : goal.decreases-put_generators
decreases-put_generators l = 8 * goal.size-put_generators l + 2

abbrev pub decreases-put_conditions : goal.decreases-put_conditions
decreases-put_conditions l = 8 * goal.size-put_conditions l + 3

abbrev pub decreases-put_after : goal.decreases-put_after
decreases-put_after l = 8 * goal.size-put_after l + 3

abbrev pub decreases-put_after_word : goal.decreases-put_after_word
decreases-put_after_word l = 8 * goal.size-put_after_word l + 3

abbrev pub decreases-put_item_after : goal.decreases-put_item_after
decreases-put_item_after l = 8 * goal.size-put_item_after l + 3

abbrev pub decreases-put_items : goal.decreases-put_items
decreases-put_items l = 8 * goal.size-put_items l + 3

abbrev pub decreases-put_operands : goal.decreases-put_operands
decreases-put_operands l = 8 * goal.size-put_operands l + 3

abbrev pub decreases-put_replicated : goal.decreases-put_replicated
decreases-put_replicated l = 8 * goal.size-put_replicated l + 4

abbrev pub decreases-put_dotted : goal.decreases-put_dotted
decreases-put_dotted l = 8 * goal.size-put_dotted l + 4

abbrev pub decreases-put_enclosed : goal.decreases-put_enclosed
decreases-put_enclosed l = 8 * goal.size-put_enclosed l + 4

abbrev pub decreases-put_front : goal.decreases-put_front
decreases-put_front l = 8 * goal.size-put_front l + 5

abbrev pub decreases-put_call : goal.decreases-put_call
decreases-put_call l = 8 * goal.size-put_call l + 5

abbrev pub decreases-put_binary : goal.decreases-put_binary
decreases-put_binary l = 8 * (max (the_size l.a.now) (the_size l.b.now)) + 5

abbrev pub decreases-put_infix : goal.decreases-put_infix
decreases-put_infix l = 8 * (max (the_size l.a.now) (the_size l.b.now)) + 5

abbrev pub decreases-put_conditional : goal.decreases-put_conditional
decreases-put_conditional l = 8 * (max (the_size l.condition.now) (max (the_size l.a.now) (the_size l.b.now))) + 5

abbrev pub decreases-put_range : goal.decreases-put_range
decreases-put_range l = 8 * (max (the_size l.a.now) (the_size l.b.now)) + 5

abbrev pub decreases-put_set_operation : goal.decreases-put_set_operation
decreases-put_set_operation l = 8 * (max (the_size l.a.now) (the_size l.b.now)) + 5

abbrev pub decreases-put_each : goal.decreases-put_each
decreases-put_each l = 8 * (max (the_size l.s.now) (the_size l.p.now)) + 5

abbrev pub decreases-put_parallel : goal.decreases-put_parallel
decreases-put_parallel l = 8 * (max (the_size l.p.now) (max (the_size l.a.now) (max (the_size l.b.now) (the_size l.q.now)))) + 6

abbrev pub decreases-put_each_parallel : goal.decreases-put_each_parallel
decreases-put_each_parallel l = 8 * (max (the_size l.s.now) (max (the_size l.a.now) (the_size l.p.now))) + 5

abbrev pub decreases-put_prefix : goal.decreases-put_prefix
decreases-put_prefix l = 8 * (max (goal.size-put_prefix l) (the_size l.p.now)) + 5

abbrev pub decreases-put_comprehension : goal.decreases-put_comprehension
decreases-put_comprehension l = 8 * (max (goal.size-put_comprehension l) (weighed.most (λ x. generator.the_size x) l.gens.now)) + 5

abbrev pub decreases-put_production : goal.decreases-put_production
decreases-put_production l = 8 * (max (goal.size-put_production l) (weighed.most (λ x. generator.the_size x) l.gens.now)) + 5

abbrev pub decreases-put_renaming : goal.decreases-put_renaming
decreases-put_renaming l = 8 * (max (goal.size-put_renaming l) (max (the_size l.p.now) (weighed.most (λ x. generator.the_size x) l.gens.now))) + 5

use Rattle.tree_parser.proofs.Prelude.{ℕ, ◌+◌, ◌*◌, ◌≤◌, ◌∷◌, Some, length, read_operands}
use Rattle.tree_parser.proofs.SoFar.{ChoicesSoFar, ItemsSoFar, SoFar}
use Rattle.tree_parser.proofs.+reading.Given as goal

-- sixteen for each token that is left, and what a function calls on the same tokens stands below it

abbrev pub decreases-atoms::atom : goal.decreases-atoms::atom
decreases-atoms::atom l = 16 * length l.tokens.now

abbrev pub decreases-atoms::atom_rest : goal.decreases-atoms::atom_rest
decreases-atoms::atom_rest l = 16 * length l.tokens.now + 9

abbrev pub decreases-processes::binder : goal.decreases-processes::binder
decreases-processes::binder l = 16 * length l.tokens.now

abbrev pub decreases-processes::branches : goal.decreases-processes::branches
decreases-processes::branches l = 16 * length l.tokens.now + 8

abbrev pub decreases-atoms::call : goal.decreases-atoms::call
decreases-atoms::call l = 16 * length l.tokens.now + 4

abbrev pub decreases-processes::chain : goal.decreases-processes::chain
decreases-processes::chain l = 16 * length l.sign.rest.now + 8

abbrev pub decreases-processes::choices : goal.decreases-processes::choices
decreases-processes::choices l = 16 * length l.sign.rest.now + 7

abbrev pub decreases-expressions::complement : goal.decreases-expressions::complement
decreases-expressions::complement l = 16 * length l.tokens.now + 2

abbrev pub decreases-atoms::comprehension : goal.decreases-atoms::comprehension
decreases-atoms::comprehension l = 16 * length l.tokens.now + 5

abbrev pub decreases-lists::condition : goal.decreases-lists::condition
decreases-lists::condition l = 16 * length l.tokens.now + 2

abbrev pub decreases-processes::conditional : goal.decreases-processes::conditional
decreases-processes::conditional l = 16 * length l.tokens.now + 2

abbrev pub decreases-lists::conditions : goal.decreases-lists::conditions
decreases-lists::conditions l = 16 * length l.tokens.now

abbrev pub decreases-lists::dots : goal.decreases-lists::dots
decreases-lists::dots l = 16 * length l.tokens.now

abbrev pub decreases-lists::dotted_event : goal.decreases-lists::dotted_event
decreases-lists::dotted_event l = 16 * length l.tokens.now

abbrev pub decreases-processes::each : goal.decreases-processes::each
decreases-processes::each l = 16 * length l.tokens.now + 1

abbrev pub decreases-processes::each_parallel : goal.decreases-processes::each_parallel
decreases-processes::each_parallel l = 16 * length l.tokens.now + 1

abbrev pub decreases-events::event : goal.decreases-events::event
decreases-events::event l = 16 * length l.tokens.now

abbrev pub decreases-expressions::expression : goal.decreases-expressions::expression
decreases-expressions::expression l = 16 * length l.tokens.now + 1

abbrev pub decreases-events::field : goal.decreases-events::field
decreases-events::field l = 16 * length l.tokens.now

abbrev pub decreases-events::fields : goal.decreases-events::fields
decreases-events::fields l = 16 * length l.tokens.now + 1

abbrev pub decreases-atoms::set_rest : goal.decreases-atoms::set_rest
decreases-atoms::set_rest l = 16 * length l.tokens.now + 4

abbrev pub decreases-processes::sequence_rest : goal.decreases-processes::sequence_rest
decreases-processes::sequence_rest l = 16 * length l.tokens.now + 6

abbrev pub decreases-lists::generator : goal.decreases-lists::generator
decreases-lists::generator l = 16 * length l.tokens.now + 3

abbrev pub decreases-lists::gens : goal.decreases-lists::gens
decreases-lists::gens l = 16 * length l.tokens.now + 4

abbrev pub decreases-processes::guard : goal.decreases-processes::guard
decreases-processes::guard l = 16 * length l.tokens.now + 2

abbrev pub decreases-processes::guard_rest : goal.decreases-processes::guard_rest
decreases-processes::guard_rest l = 16 * length l.tokens.now + 5

abbrev pub decreases-processes::hiding : goal.decreases-processes::hiding
decreases-processes::hiding l = 16 * length l.tokens.now + 1

abbrev pub decreases-processes::hidings : goal.decreases-processes::hidings
decreases-processes::hidings l = 16 * length l.tokens.now

abbrev pub decreases-events::input : goal.decreases-events::input
decreases-events::input l = 16 * length l.tokens.now

abbrev pub decreases-lists::item : goal.decreases-lists::item
decreases-lists::item l = 16 * length l.tokens.now + 2

abbrev pub decreases-lists::items : goal.decreases-lists::items
decreases-lists::items l = 16 * length l.tokens.now + 3

abbrev pub decreases-expressions::negative : goal.decreases-expressions::negative
decreases-expressions::negative l = 16 * length l.tokens.now + 2

abbrev pub decreases-processes::prefix_rest : goal.decreases-processes::prefix_rest
decreases-processes::prefix_rest l = 16 * length l.tokens.now + 3

abbrev pub decreases-processes::operand : goal.decreases-processes::operand
decreases-processes::operand l = 16 * length l.tokens.now + 6

abbrev pub decreases-expressions::operators : goal.decreases-expressions::operators
decreases-expressions::operators l = 16 * length l.left.rest.now

abbrev pub decreases-lists::pair : goal.decreases-lists::pair
decreases-lists::pair l = 16 * length l.tokens.now + 1

abbrev pub decreases-lists::pairs : goal.decreases-lists::pairs
decreases-lists::pairs l = 16 * length l.tokens.now + 2

abbrev pub decreases-processes::parallel : goal.decreases-processes::parallel
decreases-processes::parallel l = 16 * length l.tokens.now + 1

abbrev pub decreases-atoms::parentheses : goal.decreases-atoms::parentheses
decreases-atoms::parentheses l = 16 * length l.tokens.now + 8

abbrev pub decreases-lists::part : goal.decreases-lists::part
decreases-lists::part l = 16 * length l.tokens.now

abbrev pub decreases-lists::parts : goal.decreases-lists::parts
decreases-lists::parts l = 16 * length l.tokens.now + 1

abbrev pub decreases-processes::prefix : goal.decreases-processes::prefix
decreases-processes::prefix l = 16 * length l.tokens.now + 4

abbrev pub decreases-events::event_rest : goal.decreases-events::event_rest
decreases-events::event_rest l = 16 * length l.tokens.now + 5

abbrev pub decreases-atoms::product : goal.decreases-atoms::product
decreases-atoms::product l = 16 * length l.tokens.now + 2

abbrev pub decreases-atoms::range : goal.decreases-atoms::range
decreases-atoms::range l = 16 * length l.tokens.now + 2

abbrev pub decreases-expressions::renaming : goal.decreases-expressions::renaming
decreases-expressions::renaming l = 16 * length l.tokens.now + 3

abbrev pub decreases-processes::sequence : goal.decreases-processes::sequence
decreases-processes::sequence l = 16 * length l.tokens.now + 5

abbrev pub decreases-atoms::set : goal.decreases-atoms::set
decreases-atoms::set l = 16 * length l.tokens.now + 5

abbrev pub decreases-atoms::set_operator : goal.decreases-atoms::set_operator
decreases-atoms::set_operator l = 16 * length l.tokens.now

abbrev pub decreases-processes::side : goal.decreases-processes::side
decreases-processes::side l = 16 * length l.tokens.now + 6

abbrev pub decreases-lists::source : goal.decreases-lists::source
decreases-lists::source l = 16 * length l.tokens.now + 1

abbrev pub decreases-processes::tree : goal.decreases-processes::tree
decreases-processes::tree l = 16 * length l.tokens.now + 7

abbrev pub decreases-expressions::with : goal.decreases-expressions::with
decreases-expressions::with l = 16 * length l.sign.rest.now + 4

-- LISTS: what is read and what is left are the whole

abbrev pub invariant-lists::dots-loop-behind : goal.invariant-lists::dots-loop-behind
invariant-lists::dots-loop-behind l =
    SoFar (8 * length l.fn.tokens + 1) (λ L. L.dots l.limits l.fn.tokens) l.fields (8 * length l.rest + 1) (λ L. L.dots l.limits l.rest) × (length l.rest ≤ length l.fn.tokens)

abbrev pub decreases-lists::dots-loop-behind : goal.decreases-lists::dots-loop-behind
decreases-lists::dots-loop-behind l = length l.rest

abbrev pub invariant-lists::gens-loop-found : goal.invariant-lists::gens-loop-found
invariant-lists::gens-loop-found l =
    SoFar (8 * length l.fn.tokens + 3) (λ L. L.gens l.limits l.fn.tokens) l.all (8 * length l.rest + 3) (λ L. L.gens l.limits l.rest) × (length l.rest ≤ length l.fn.tokens)

abbrev pub decreases-lists::gens-loop-found : goal.decreases-lists::gens-loop-found
decreases-lists::gens-loop-found l = length l.rest

abbrev pub invariant-lists::items-loop-found : goal.invariant-lists::items-loop-found
invariant-lists::items-loop-found l =
    ItemsSoFar (8 * length l.fn.tokens + 3) (λ L. L.items l.limits l.fn.tokens) l.items (8 * length l.rest + 3) (λ L. L.items l.limits l.rest) × (length l.rest ≤ length l.fn.tokens)

abbrev pub decreases-lists::items-loop-found : goal.decreases-lists::items-loop-found
decreases-lists::items-loop-found l = length l.rest

abbrev pub invariant-lists::pairs-loop-found : goal.invariant-lists::pairs-loop-found
invariant-lists::pairs-loop-found l =
    SoFar (8 * length l.fn.tokens + 1) (λ L. L.pairs l.limits l.fn.tokens) l.all (8 * length l.rest + 1) (λ L. L.pairs l.limits l.rest) × (length l.rest ≤ length l.fn.tokens)

abbrev pub decreases-lists::pairs-loop-found : goal.decreases-lists::pairs-loop-found
decreases-lists::pairs-loop-found l = length l.rest

abbrev pub invariant-lists::parts-loop-found : goal.invariant-lists::parts-loop-found
invariant-lists::parts-loop-found l =
    SoFar (8 * length l.fn.tokens + 1) (λ L. L.parts l.limits l.fn.tokens) l.all (8 * length l.rest + 1) (λ L. L.parts l.limits l.rest) × (length l.rest ≤ length l.fn.tokens)

abbrev pub decreases-lists::parts-loop-found : goal.decreases-lists::parts-loop-found
decreases-lists::parts-loop-found l = length l.rest

abbrev pub invariant-events::fields-loop-next : goal.invariant-events::fields-loop-next
invariant-events::fields-loop-next l =
    SoFar (8 * length l.fn.tokens + 1) (λ L. L.fields l.limits l.fn.dot l.fn.tokens) l.all (8 * length l.rest + 1) (λ L. L.fields l.limits l.may_dot l.rest) × (length l.rest ≤ length l.fn.tokens)

abbrev pub decreases-events::fields-loop-next : goal.decreases-events::fields-loop-next
decreases-events::fields-loop-next l = length l.rest

abbrev pub invariant-processes::choices-loop-read : goal.invariant-processes::choices-loop-read
invariant-processes::choices-loop-read l =
    ChoicesSoFar (8 * length l.fn.sign.rest.now + 5) (λ L. read_operands L l.limits l.fn.sign.part l.fn.left l.fn.sign.rest.now) l.operands (8 * length l.rest + 5) (λ L. L.choices l.limits l.chain l.rest)
    × (length l.rest ≤ length l.fn.sign.rest.now)

abbrev pub decreases-processes::choices-loop-read : goal.decreases-processes::choices-loop-read
decreases-processes::choices-loop-read l = length l.rest

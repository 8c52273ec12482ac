use Rattle.csp_steps.proofs.Prelude.{◌≡◌, ◌≤◌, ℕ, List, [], length, refl, subst, Atom, with_bound, number_of, turn_ways, weight, IsAfter, Next}
use Rattle.csp_steps.specs.Walked.{next_ways, next_weight}
use Rattle.csp_steps.proofs.Walking.{input_under, turned_to_input, turned_to_way}
use Rattle.csp_steps.proofs.prefix.go_on.Goals as goal

pub take-requires : goal.take-requires
take-requires c =
    input_under c.args.walk.now (record { bound = c.args.walk.now.bound; values = c.next_of.new.values; frames = c.args.walk.now.frames; turn = c.args.walk.now.turn }) c.in-Input.input c.requires.sound refl refl
    c.in_ok-next_of.ensures.longer (subst (λ (found : Next). IsAfter (length c.next_of.new.values.items) found) c.in-Input.is c.in_ok-next_of.ensures.before)

pub returns-in-End-clause-turned : goal.returns-in-End-clause-turned
returns-in-End-clause-turned c =
    let p = c.args.filling.now.program.now in
    let old : ℕ = number_of c.args.walk.now.values.items in
    let new : ℕ = number_of c.next_of.new.values.items in
    turned_to_way p c.args.walk.now _ c.args.turn.now c.requires.sound c.requires.turn refl refl refl c.in_ok-next_of.ensures.longer
    (subst (λ (found : Next). turn_ways p (with_bound c.args.walk.now.bound.items []) old c.args.turn.now ≡ next_ways p (with_bound c.args.walk.now.bound.items []) new found) c.in-End.is
    (subst (λ (bs : List (ℕ × Atom)). turn_ways p (with_bound bs []) old c.args.turn.now ≡ next_ways p (with_bound bs []) new c.in_ok-next_of.field-0) c.as_slice.ensures c.in_ok-next_of.ensures.next))
    (subst (λ (found : Next). next_weight found ≤ weight c.args.turn.now.sets.now) c.in-End.is c.in_ok-next_of.ensures.less)

pub returns-in_ok-take-in-Input-clause-turned : goal.returns-in_ok-take-in-Input-clause-turned
returns-in_ok-take-in-Input-clause-turned c =
    let p = c.args.filling.now.program.now in
    let old : ℕ = number_of c.args.walk.now.values.items in
    let new : ℕ = number_of c.next_of.new.values.items in
    turned_to_input p c.args.walk.now c.take.new.walk c.args.turn.now c.in-Input.input
    (record { bound = c.args.walk.now.bound; values = c.next_of.new.values; frames = c.args.walk.now.frames; turn = c.args.walk.now.turn }) c.requires.sound c.requires.turn refl refl c.in_ok-next_of.ensures.longer
    (subst (λ (found : Next). IsAfter (length c.next_of.new.values.items) found) c.in-Input.is c.in_ok-next_of.ensures.before)
    (subst (λ (found : Next). turn_ways p (with_bound c.args.walk.now.bound.items []) old c.args.turn.now ≡ next_ways p (with_bound c.args.walk.now.bound.items []) new found) c.in-Input.is
    (subst (λ (bs : List (ℕ × Atom)). turn_ways p (with_bound bs []) old c.args.turn.now ≡ next_ways p (with_bound bs []) new c.in_ok-next_of.field-0) c.as_slice.ensures c.in_ok-next_of.ensures.next))
    (subst (λ (found : Next). next_weight found ≤ weight c.args.turn.now.sets.now) c.in-Input.is c.in_ok-next_of.ensures.less)
    c.in_ok-take-in-Input.ensures

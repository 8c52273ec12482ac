use Rattle.name_tables.proofs.Prelude.{◌≡◌, ℕ, ◌+◌, ◌++◌, ◌∙◌, ap, length, refl, arith, constants_from, Numbers}
use Rattle.name_tables.proofs.DeclaredLemmas.{constants_step, nothing_left}
use Rattle.name_tables.proofs.declared.declare_constants.Goals as goal

pub loop-x-preserved : goal.loop-x-preserved
loop-x-preserved c =
    let so_far = c.loop-x.invariant.numbers in
    let here : c.loop-x.numbers.constants ≡ c.args.numbers.now.constants + c.loop-x.x-index = ap (λ (n : Numbers). n.constants) so_far in
    let more : c.loop-x.numbers.constants + 1 ≡ c.args.numbers.now.constants + (c.loop-x.x-index + 1) = omega arith in
    let put : ℕ → Numbers = λ n. record c.args.numbers.now { constants = n } in
    record {
      names = constants_step c.declare.new.self c.loop-x.names (c.args.names.now ++ constants_from c.args.numbers.now.constants c.args.xs.now)
          c.loop-x.numbers.constants (c.loop-x.numbers.constants + 1) c.loop-x.x-index c.args.xs.now c.x-item.result c.loop-x-test.true c.x-item.is refl
          c.in_ok-declare.ensures c.loop-x.invariant.names;
      numbers = ap (λ (n : Numbers). record n { constants = c.loop-x.numbers.constants + 1 }) so_far ∙ ap put more;
    }

pub returns-clause-names : goal.returns-clause-names
returns-clause-names c =
    nothing_left (λ xs. constants_from c.loop-x.numbers.constants xs) c.loop-x.names (c.args.names.now ++ constants_from c.args.numbers.now.constants c.args.xs.now) c.loop-x.x-index c.args.xs.now refl (omega arith) c.loop-x.invariant.names

pub returns-clause-numbers : goal.returns-clause-numbers
returns-clause-numbers c =
    let all : c.loop-x.x-index ≡ length c.args.xs.now = omega arith in
    let put : ℕ → Numbers = λ n. record c.args.numbers.now { constants = c.args.numbers.now.constants + n } in
    c.loop-x.invariant.numbers ∙ ap put all

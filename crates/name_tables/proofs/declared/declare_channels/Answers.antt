use Rattle.name_tables.proofs.Prelude.{◌≡◌, ℕ, ◌+◌, ◌++◌, ◌∙◌, ap, length, refl, arith, channels_from, Numbers}
use Rattle.name_tables.proofs.DeclaredLemmas.{channels_step, nothing_left}
use Rattle.name_tables.proofs.declared.declare_channels.Goals as goal

pub loop-x-preserved : goal.loop-x-preserved
loop-x-preserved c =
    let so_far = c.loop-x.invariant.numbers in
    let here : c.loop-x.numbers.channels ≡ c.args.numbers.now.channels + c.loop-x.x-index = ap (λ (n : Numbers). n.channels) so_far in
    let more : c.loop-x.numbers.channels + 1 ≡ c.args.numbers.now.channels + (c.loop-x.x-index + 1) = omega arith in
    let put : ℕ → Numbers = λ n. record c.args.numbers.now { channels = n } in
    record {
      names = channels_step c.declare.new.self c.loop-x.names (c.args.names.now ++ channels_from c.args.numbers.now.channels c.args.fields c.args.xs.now)
          c.loop-x.numbers.channels (c.loop-x.numbers.channels + 1) c.args.fields c.loop-x.x-index c.args.xs.now c.x-item.result c.loop-x-test.true c.x-item.is refl
          c.in_ok-declare.ensures c.loop-x.invariant.names;
      numbers = ap (λ (n : Numbers). record n { channels = c.loop-x.numbers.channels + 1 }) so_far ∙ ap put more;
    }

pub returns-clause-names : goal.returns-clause-names
returns-clause-names c =
    nothing_left (λ xs. channels_from c.loop-x.numbers.channels c.args.fields xs) c.loop-x.names (c.args.names.now ++ channels_from c.args.numbers.now.channels c.args.fields c.args.xs.now) c.loop-x.x-index c.args.xs.now refl (omega arith) c.loop-x.invariant.names

pub returns-clause-numbers : goal.returns-clause-numbers
returns-clause-numbers c =
    let all : c.loop-x.x-index ≡ length c.args.xs.now = omega arith in
    let put : ℕ → Numbers = λ n. record c.args.numbers.now { channels = c.args.numbers.now.channels + n } in
    c.loop-x.invariant.numbers ∙ ap put all

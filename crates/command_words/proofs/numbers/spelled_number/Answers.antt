use Rattle.command_words.proofs.Prelude.{◌<◌, subst, sym, ap, ◌∙◌, decimal}
use Rattle.std.proofs.lemmas.Bool.{false≢true}
use Rattle.command_words.proofs.Digits.{decimal_is_numeral, numeral_is_decimal, numeral_is_small}
use Rattle.command_words.proofs.numbers.spelled_number.Goals as goal

pub returns-then-not-is_short_numeral-clause-none : goal.returns-then-not-is_short_numeral-clause-none
returns-then-not-is_short_numeral-clause-none c n few is =
    false≢true (sym c.if-not-is_short_numeral.true ∙ c.is_short_numeral.ensures.1 (decimal_is_numeral n c.args.word.now few is))

pub value_of-requires : goal.value_of-requires
value_of-requires c = numeral_is_small c.args.word.now (c.is_short_numeral.ensures.0 c.if-not-is_short_numeral.false)

pub returns-clause-number : goal.returns-clause-number
returns-clause-number c =
    let word = c.is_short_numeral.ensures.0 c.if-not-is_short_numeral.false in (
      subst (λ n. n < 1000000) (sym c.value_of.ensures) (numeral_is_small c.args.word.now word),
      numeral_is_decimal c.args.word.now word ∙ ap decimal (sym c.value_of.ensures),
    )

-- What stands behind the process of an assertion.
use Rattle.std.specs.Prelude.{ℕ, Bool, ◌||◌, Option, Some, List, codes}
use Rattle.std.specs.Str.{bytes_eq}
use Rattle.csp_text.specs.declared.token.Symbol.TheVariants.{Colon, OpenBracket, CloseBracket}
use Rattle.csp_text.specs.declared.token.Token.{Token}
use Rattle.csp_grammar.specs.Prelude.{and_then, case, skip}
use Rattle.tree_reading.specs.Nesting.{sure}
use Rattle.tree_reading.specs.Starts.{named}

-- what follows a name that passes the test, where one stands at the front
abbrev pub name_that : (List ℕ → Bool) → List Token → Option (List Token)
name_that passes ts = and_then (named ts) λ x. and_then (sure (passes x.0)) λ _. Some x.1

-- what follows `: [ deadlock free`
abbrev pub deadlock_free : List Token → Option (List Token)
deadlock_free ts =
    and_then (skip Colon ts) λ us. and_then (skip OpenBracket us) λ vs.
    and_then (name_that (λ x. bytes_eq x (codes "deadlock")) vs) λ ws. name_that (λ x. bytes_eq x (codes "free")) ws

-- the models: failures, and failures with divergences
abbrev pub is_model : List ℕ → Bool
is_model x = bytes_eq x (codes "F") || bytes_eq x (codes "FD")

-- what follows a model in brackets, or nothing where no bracket stands
abbrev pub model : List Token → Option (List Token)
model ts = case (skip OpenBracket ts) (λ us. and_then (name_that is_model us) λ vs. skip CloseBracket vs) (λ _. Some ts)

-- what follows the rest of an assertion, behind its process
unfoldable pub ending : List Token → Option (List Token)
ending ts = and_then (deadlock_free ts) λ us. and_then (model us) λ vs. skip CloseBracket vs

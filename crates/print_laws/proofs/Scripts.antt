-- The printed tokens of a script that some text spells are a text of it.
use Rattle.print_laws.proofs.Prelude.{ℕ, List, Decl, Token, DeclarationsText, PrintedTokensAreAText, MadeDecls}
use Rattle.print_laws.proofs.ScriptTexts.{declarations_text}
use Rattle.print_laws.proofs.WalkScripts.{walk_declarations}

-- nothing is asked of the tokens
abbrev any_token : Token → Type 0
any_token t = Unit {0}

abbrev any_tokens : ℕ → List Token → Type 0
any_tokens k ts = Unit {0}

made_decls : {ts : List Token} {ds : List Decl} → DeclarationsText ts ds → MadeDecls any_token any_token ds
made_decls p =
    walk_declarations any_token any_tokens (λ k t ts e s. (tt, tt)) (λ k ts s. tt) (λ k ts s. tt)
    any_token any_tokens (λ k t ts e s. (tt, tt)) (λ k ts s. tt) (λ k ts s. tt) (λ x ts s. (tt, tt)) (λ x ts s. (tt, tt)) (λ ts s. tt) p tt

pub printed_text : PrintedTokensAreAText
printed_text tokens script p = declarations_text (made_decls p)

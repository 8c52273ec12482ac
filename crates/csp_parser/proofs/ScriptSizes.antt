-- A script is no larger than each of its texts is long: each of its declarations begins with a token that is none of its names, parameters, types and
-- binding tokens. And no tree of it is deeper than the grammar allows.
use Rattle.csp_parser.proofs.Prelude.{◌≡◌, ℕ, ◌+◌, ◌≤◌, Spells, max, List, length, map, arith, IfOk-weaker, Result, IfOk, Ok, NamesText, TypesText, ParametersText, AssertedText, ModelText, DeclarationText, DeclarationsText, ScriptText, lexed, PlacedTokens, tokens_of, Decl, Script, Symbol, Token, Tree, all_tokens, tokens, tokens-Call, tokens-Name, greatest, tree_depth, MOST_BYTES, MOST_TREE_DEPTH, SpelledScriptsAreSmall, AreSmall, declaration_depth, declaration_size, depth, size}
use Rattle.csp_grammar.specs.Declarations as d
use Rattle.csp_parser.proofs.Scripts.{text_spells}
use Rattle.csp_parser.proofs.TokenCounts.{no_more_than_bytes}
use Rattle.csp_parser.proofs.TreeTokens.{atom_tokens, items_tokens, tree_tokens}

-- SIZES

names_fit : {sign : Symbol} {ts : List Token} {xs : List (List ℕ)} {r : List Token} → NamesText sign ts xs r → length xs + length r ≤ length ts
names_fit d.one = omega arith
names_fit (d.more xs) = omega (arith, names_fit xs)

types_fit : {ts : List Token} {types : List Tree} {r : List Token} → TypesText ts types r → length types + all_tokens types + length r ≤ length ts
types_fit (d.one a shallow) = omega (arith, atom_tokens a)
types_fit (d.more a shallow types) = omega (arith, atom_tokens a, types_fit types)

parameters_fit : {ts : List Token} {xs : List (List ℕ)} {r : List Token} → ParametersText ts xs r → length xs + length r ≤ length ts
parameters_fit d.none = omega arith
parameters_fit (d.some xs) = omega (arith, names_fit xs)

asserted_fits : {ts : List Token} {t : Tree} {r : List Token} → AssertedText ts t r → 1 + tokens t + length r ≤ length ts
asserted_fits (d.name {x = x}) = omega (arith, tokens-Name x)
asserted_fits (d.call {x = x} {items = items'} items) = omega (arith, tokens-Call x items', items_tokens items)

model_fits : {ts r : List Token} → ModelText ts r → length r ≤ length ts
model_fits d.none = omega arith
model_fits d.failures = omega arith
model_fits d.failures-divergences = omega arith

declaration_fits : {ts : List Token} {x : Decl} {r : List Token} → DeclarationText ts x r → declaration_size x + length r ≤ length ts
declaration_fits (d.channel xs) = omega (arith, names_fit xs)
declaration_fits (d.channel-of xs types) = omega (arith, names_fit xs, types_fit types)
declaration_fits (d.datatype xs) = omega (arith, names_fit xs)
declaration_fits (d.nametype a shallow) = omega (arith, atom_tokens a)
declaration_fits (d.define xs t shallow) = omega (arith, parameters_fit xs, tree_tokens t)
declaration_fits (d.assertion t shallow m) = omega (arith, asserted_fits t, model_fits m)
declaration_fits d.roles = omega arith
declaration_fits d.resource = omega arith

pub declarations_fit : {ts : List Token} {ds : List Decl} → DeclarationsText ts ds → size ds ≤ length ts
declarations_fit d.none = omega arith
declarations_fit (d.more x ds) = omega (arith, declaration_fits x, declarations_fit ds)

-- DEPTHS

at_most : (a b limit : ℕ) → a ≤ b → b ≤ limit → a ≤ limit
at_most a b limit h k = omega arith

no_deeper : (a b limit : ℕ) → a ≤ limit → b ≤ limit → max a b ≤ limit
no_deeper a b limit h k = grind arith

types_shallow : {ts : List Token} {types : List Tree} {r : List Token} → TypesText ts types r → greatest (map tree_depth types) ≤ MOST_TREE_DEPTH
types_shallow (d.one {a = a'} a shallow) = no_deeper (tree_depth a') 0 MOST_TREE_DEPTH shallow (omega arith)
types_shallow (d.more {a = a'} {types = types'} a shallow types) = no_deeper (tree_depth a') (greatest (map tree_depth types')) MOST_TREE_DEPTH shallow (types_shallow types)

declaration_shallow : {ts : List Token} {x : Decl} {r : List Token} → DeclarationText ts x r → declaration_depth x ≤ MOST_TREE_DEPTH
declaration_shallow (d.channel xs) = omega arith
declaration_shallow (d.channel-of xs types) = types_shallow types
declaration_shallow (d.datatype xs) = omega arith
declaration_shallow (d.nametype a shallow) = shallow
declaration_shallow (d.define xs t shallow) = shallow
declaration_shallow (d.assertion t shallow m) = shallow
declaration_shallow d.roles = omega arith
declaration_shallow d.resource = omega arith

pub declarations_shallow : {ts : List Token} {ds : List Decl} → DeclarationsText ts ds → depth ds ≤ MOST_TREE_DEPTH
declarations_shallow d.none = omega arith
declarations_shallow (d.more {d = x'} {ds = ds'} x ds) = no_deeper (declaration_depth x') (depth ds') MOST_TREE_DEPTH (declaration_shallow x) (declarations_shallow ds)

-- TEXTS

pub spelled_small : SpelledScriptsAreSmall
spelled_small text script s within =
    let few : size script.decls ≤ length s.tokens = declarations_fit s.spelled in
    let spelled : length s.tokens ≤ length text = no_more_than_bytes s.cut in
    let fits : size script.decls ≤ length text = omega arith in
    record { few = at_most (size script.decls) (length text) MOST_BYTES fits within; shallow = declarations_shallow s.spelled }

-- what the script owes that was read of the tokens of a text
pub read_small : {E : Type 0} (text : List ℕ) (found : PlacedTokens) (r : Result Script E) → lexed text ≡ Ok found → IfOk r (λ script. ScriptText (tokens_of found.placed) script)
    → IfOk r (λ script. length text ≤ MOST_BYTES → AreSmall script.decls)
read_small text found r is spelled = IfOk-weaker r (Spells text) _ (λ script s. spelled_small text script s) (text_spells text found r is spelled)

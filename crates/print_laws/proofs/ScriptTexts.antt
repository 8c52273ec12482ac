-- A script is spelled by its printed tokens.
use Rattle.print_laws.proofs.Prelude.{◌≡◌, ℕ, ◌+◌, ◌-◌, ◌*◌, ◌≤◌, List, [], ◌∷◌, ◌++◌, map, sym, subst, append_assoc, arith, flat_map, greatest, tree_depth, Decl, Colon, Dot, Defines, Comma, OpenParen, CloseParen, Token, Name, Symbol, Tree, NamesText, TypesText, ParametersText, AssertedText, DeclarationText, DeclarationsText, operand_tokens, printed_tokens, separated, deadlock_free_tokens, decl_tokens, names_tokens, parameters_tokens, types_tokens, MadeTrees, MadeNames, MadeTypes, MadeParameters, MadeDecl, MadeDecls, Assert, Channel, MOST_BRACKETS, MOST_TREE_DEPTH, trees_fit}
use Rattle.csp_text.specs.declared.token.Token.TheVariants.{Word}
use Rattle.csp_text.specs.declared.token.Symbol as symbols
use Rattle.csp_text.specs.declared.tree.Tree.TheVariants as tree
use Rattle.csp_text.specs.declared.script.Decl.TheVariants as decl
use Rattle.csp_grammar.specs.Declarations as g
use Rattle.print_laws.specs.Made as m
use Rattle.print_laws.proofs.Onto as onto
use Rattle.print_laws.proofs.Forms.{Texted}
use Rattle.print_laws.proofs.Texts.{texted, texted_trees}
use Rattle.tree_reading.proofs.NodeDepths as depths

twice : (depth most brackets : ℕ) → depth ≤ most → 2 * most ≤ brackets → 2 * depth ≤ brackets
twice depth most brackets fits room = omega arith

-- what is no deeper than a tree may be has room for its brackets, and its parts for theirs
has_room : {depth : ℕ} → depth ≤ MOST_TREE_DEPTH → 2 * depth ≤ MOST_BRACKETS
has_room {depth} fits = twice depth MOST_TREE_DEPTH MOST_BRACKETS fits trees_fit

room_inside : {depth most : ℕ} (below : ℕ) → depth ≡ 1 + below → 2 * depth ≤ most → 2 * below ≤ most - 1
room_inside {depth} {most} below is room = omega arith

-- a name by itself
abbrev pub name_alone : List ℕ → List Token
name_alone x = Name x ∷ []

names_more_text : {sign : symbols.Symbol} (x : List ℕ) (xs : List (List ℕ)) (r : List Token) → NamesText sign (separated name_alone (Symbol sign) xs ++ r) xs r →
    NamesText sign (separated name_alone (Symbol sign) (x ∷ xs) ++ r) (x ∷ xs) r
names_more_text {sign} x [] r p = g.one
names_more_text {sign} x (y ∷ ys) r p = g.more p

names_separated : {P : Token → Type 0} {sign : symbols.Symbol} {xs : List (List ℕ)} → MadeNames P xs → (r : List Token) → NamesText sign (separated name_alone (Symbol sign) xs ++ r) xs r
names_separated (m.made-one-name p) r = g.one
names_separated (m.made-more-names {x = x} {xs = xs} p ps) r = names_more_text x xs r (names_separated ps r)

names_text : {P : Token → Type 0} {sign : symbols.Symbol} {xs : List (List ℕ)} → MadeNames P xs → (r : List Token) → NamesText sign (names_tokens (Symbol sign) xs ++ r) xs r
unfolding names_tokens
names_text p r = names_separated p r

-- types

one_type : (a : Tree) → Texted a → tree_depth a ≤ MOST_TREE_DEPTH → (r : List Token) → TypesText (separated operand_tokens (Symbol Dot) (a ∷ []) ++ r) (a ∷ []) r
one_type a p d r = subst (λ l. TypesText l (a ∷ []) r) (sym (onto.separated_one operand_tokens (Symbol Dot) a r)) (g.one (p.operand MOST_BRACKETS r (has_room d)) d)

more_types : (a : Tree) (types : List Tree) → Texted a → tree_depth a ≤ MOST_TREE_DEPTH → (r : List Token) → TypesText (separated operand_tokens (Symbol Dot) types ++ r) types r →
    TypesText (separated operand_tokens (Symbol Dot) (a ∷ types) ++ r) (a ∷ types) r
more_types a [] p d r ps = one_type a p d r
more_types a (b ∷ bs) p d r ps =
    subst (λ l. TypesText l (a ∷ b ∷ bs) r) (sym (onto.separated_more operand_tokens (Symbol Dot) a b bs r)) (g.more (p.operand MOST_BRACKETS _ (has_room d)) d ps)

types_separated : {P : Token → Type 0} {types : List Tree} → MadeTypes P types → (r : List Token) → TypesText (separated operand_tokens (Symbol Dot) types ++ r) types r
types_separated (m.made-one-type {a = a} p d) r = one_type a (texted p) d r
types_separated (m.made-more-types {a = a} {types = types} p d ps) r = more_types a types (texted p) d r (types_separated ps r)

-- declarations

channel_text : {P : Token → Type 0} (cs : List (List ℕ)) → MadeNames P cs → (r : List Token) → DeclarationText (decl_tokens (decl.Channel cs []) ++ r) (decl.Channel cs []) r
unfolding types_tokens
channel_text cs p r =
    subst (λ l. DeclarationText l (decl.Channel cs []) r) (sym (append_assoc (Word Channel ∷ names_tokens (Symbol Comma) cs) [] r)) (g.channel (names_text p r))

channel_of_text : {P : Token → Type 0} (cs : List (List ℕ)) (types : List Tree) → MadeNames P cs → MadeTypes P types → (r : List Token) →
    DeclarationText (decl_tokens (decl.Channel cs types) ++ r) (decl.Channel cs types) r
unfolding types_tokens
channel_of_text cs [] p ps r = channel_text cs p r
channel_of_text cs (a ∷ types) p ps r =
    subst (λ l. DeclarationText l (decl.Channel cs (a ∷ types)) r)
    (sym (append_assoc (Word Channel ∷ names_tokens (Symbol Comma) cs) (Symbol Colon ∷ separated operand_tokens (Symbol Dot) (a ∷ types)) r))
    (g.channel-of (names_text p _) (types_separated ps r))

parameters_text : {P : Token → Type 0} (xs : List (List ℕ)) → MadeNames P xs → (r : List Token) → ParametersText (parameters_tokens xs ++ r) xs r
unfolding parameters_tokens
parameters_text [] p r = g.none
parameters_text (x ∷ xs) p r =
    subst (λ l. ParametersText (Symbol OpenParen ∷ l) (x ∷ xs) r) (sym (append_assoc (names_tokens (Symbol Comma) (x ∷ xs)) (Symbol CloseParen ∷ []) r))
    (g.some (names_text p (Symbol CloseParen ∷ r)))

no_parameters_text : (r : List Token) → ParametersText (parameters_tokens [] ++ r) [] r
unfolding parameters_tokens
no_parameters_text r = g.none

all_parameters_text : {P : Token → Type 0} {xs : List (List ℕ)} → MadeParameters P xs → (r : List Token) → ParametersText (parameters_tokens xs ++ r) xs r
all_parameters_text m.made-no-parameters r = no_parameters_text r
all_parameters_text (m.made-parameters {xs = xs} p) r = parameters_text xs p r

define_text : (f : List ℕ) (xs : List (List ℕ)) (t : Tree) → ((r : List Token) → ParametersText (parameters_tokens xs ++ r) xs r) → Texted t → tree_depth t ≤ MOST_TREE_DEPTH → (r : List Token) →
    DeclarationText (decl_tokens (decl.Define f xs t) ++ r) (decl.Define f xs t) r
define_text f xs t ps p d r =
    subst (λ l. DeclarationText l (decl.Define f xs t) r) (sym (append_assoc (Name f ∷ parameters_tokens xs) (Symbol Defines ∷ printed_tokens t) r))
    (g.define (ps _) (p.bare MOST_BRACKETS r (omega (arith, has_room d))) d)

assert_text : (t : Tree) → ((r : List Token) → AssertedText (printed_tokens t ++ r) t r) → tree_depth t ≤ MOST_TREE_DEPTH → (r : List Token) →
    DeclarationText (decl_tokens (decl.Assert t) ++ r) (decl.Assert t) r
assert_text t a d r =
    subst (λ l. DeclarationText l (decl.Assert t) r) (sym (append_assoc (Word Assert ∷ printed_tokens t) deadlock_free_tokens r))
    (g.assertion (a _) d g.none)

name_depth : (x : List ℕ) → tree_depth (tree.Name x) ≤ MOST_TREE_DEPTH
name_depth x = omega (arith, depths.of_tree _ (tree.rolls-Name x))

asserted_name : (x : List ℕ) (r : List Token) → AssertedText (printed_tokens (tree.Name x) ++ r) (tree.Name x) r
asserted_name x r = subst (λ l. AssertedText l (tree.Name x) r) (sym (onto.onto _ (tree.rolls-Name x) r)) g.name

asserted_call : {Q : Token → Type 0} (x : List ℕ) (items : List Tree) → MadeTrees Q items → tree_depth (tree.Call x items) ≤ MOST_TREE_DEPTH → (r : List Token) →
    AssertedText (printed_tokens (tree.Call x items) ++ r) (tree.Call x items) r
asserted_call x items p d r =
    subst (λ l. AssertedText l (tree.Call x items) r) (sym (onto.onto _ (tree.rolls-Call x items) r))
    (g.call ((texted_trees p).items (MOST_BRACKETS - 1) (Symbol CloseParen ∷ r) (room_inside (greatest (map tree_depth items)) (depths.of_tree _ (tree.rolls-Call x items)) (has_room d))))

declaration_text : {P Q : Token → Type 0} {d : Decl} → MadeDecl P Q d → (r : List Token) → DeclarationText (decl_tokens d ++ r) d r
declaration_text (m.made-channel {cs = cs} p) r = channel_text cs p r
declaration_text (m.made-channel-of {cs = cs} {types = types} p ps) r = channel_of_text cs types p ps r
declaration_text (m.made-datatype p ps) r = g.datatype (names_text ps r)
declaration_text (m.made-nametype x p d) r = g.nametype ((texted p).operand MOST_BRACKETS r (has_room d)) d
declaration_text (m.made-define {f = f} {xs = xs} {t = t} x ps p d) r = define_text f xs t (all_parameters_text ps) (texted p) d r
declaration_text (m.made-assert-name {x = x} p) r = assert_text (tree.Name x) (asserted_name x) (name_depth x) r
declaration_text (m.made-assert-call {x = x} {items = items} p ps d) r = assert_text (tree.Call x items) (asserted_call x items ps d) d r
declaration_text (m.made-roles p) r = g.roles
declaration_text (m.made-resource p) r = g.resource

pub declarations_text : {P Q : Token → Type 0} {ds : List Decl} → MadeDecls P Q ds → DeclarationsText (flat_map decl_tokens ds) ds
declarations_text m.made-no-decls = g.none
declarations_text (m.made-decls p ps) = g.more (declaration_text p _) (declarations_text ps)

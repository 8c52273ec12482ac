-- The tokens of each form of tree in front of a rest: `onto _ (tree.rolls-V ..)` is that of a tree V ..
use Rattle.print_laws.proofs.Prelude.{◌≡◌, ℕ, Some, None, List, [], ◌∷◌, ◌++◌, ap, refl, ◌∙◌, append_assoc, append-nil, flat_map, set_op_word, Arrow, ExternalChoice, InternalChoice, Parallel, OpenRename, CloseRename, OpenProduct, CloseProduct, LeftArrow, DotDot, Dot, Bang, Question, Colon, At, OpenParen, CloseParen, OpenBrace, CloseBrace, OpenBracket, CloseBracket, Comma, Ampersand, Bar, Backslash, Semicolon, Token, Name, Symbol, EventTree, FieldTree, Tree-F, roll-Tree, GenTree, PartTree, Tree, event_tree, part_tree, Printed, form_tokens, operand, operator_token, separated, dotted, conditions, printed, printed_tokens, shape_of, operand_tokens, item_tokens, field_tokens, gen_tokens, event_tokens, part_tokens, renamed_tokens, tree_layer_printed, field_layer_printed, gen_layer_printed, event_layer_printed, part_layer_printed, flat_map-map, fold-roll-EventTree, fold-roll-PartTree}
use Rattle.csp_text.specs.declared.token.Token.TheVariants.{Word}
use Rattle.csp_text.specs.declared.token.Word.TheVariants as word
use Rattle.csp_text.specs.declared.tree.FieldTree.TheVariants as field
use Rattle.csp_text.specs.declared.tree.GenTree.TheVariants as generator
use Rattle.script_printer.proofs.PrintedEquations as equation

two : (a b r : List Token) → a ++ b ++ r ≡ a ++ (b ++ r)
two a b r = append_assoc a b r

-- lists with a sign between two

pub separated_one : {X : Type 0} (shown : X → List Token) (sign : Token) (x : X) (r : List Token) → separated shown sign (x ∷ []) ++ r ≡ shown x ++ r
separated_one shown sign x r = ap (λ l. l ++ r) (append-nil (shown x))

pub separated_more : {X : Type 0} (shown : X → List Token) (sign : Token) (x y : X) (ys : List X) (r : List Token) →
    separated shown sign (x ∷ y ∷ ys) ++ r ≡ shown x ++ (sign ∷ (separated shown sign (y ∷ ys) ++ r))
separated_more shown sign x y ys r = append_assoc (shown x) (sign ∷ separated shown sign (y ∷ ys)) r

pub dotted_more : (a : Tree) (fields : List Tree) (r : List Token) → dotted operand_tokens (a ∷ fields) ++ r ≡ Symbol Dot ∷ (operand_tokens a ++ (dotted operand_tokens fields ++ r))
dotted_more a fields r = append_assoc (Symbol Dot ∷ operand_tokens a) (dotted operand_tokens fields) r

-- a form in front of others: each part, and what stands behind it
abbrev pub form_onto : Tree-F FieldTree GenTree Tree EventTree PartTree → List Token → List Token
form_onto (Tree-F.Call x items) r = Name x ∷ (Symbol OpenParen ∷ (separated item_tokens (Symbol Comma) items ++ (Symbol CloseParen ∷ r)))
form_onto (Tree-F.Binary op a b) r = operand_tokens a ++ (operator_token op ∷ (operand_tokens b ++ r))
form_onto (Tree-F.If c p q) r = Word word.If ∷ (operand_tokens c ++ (Word word.Then ∷ (printed_tokens p ++ (Word word.Else ∷ (printed_tokens q ++ r)))))
form_onto (Tree-F.Display items) r = Symbol OpenBrace ∷ (separated item_tokens (Symbol Comma) items ++ (Symbol CloseBrace ∷ r))
form_onto (Tree-F.Range a b) r = Symbol OpenBrace ∷ (operand_tokens a ++ (Symbol DotDot ∷ (operand_tokens b ++ (Symbol CloseBrace ∷ r))))
form_onto (Tree-F.Comp items gs) r = Symbol OpenBrace ∷ (separated item_tokens (Symbol Comma) items ++ (Symbol Bar ∷ (separated gen_tokens (Symbol Comma) gs ++ (Symbol CloseBrace ∷ r))))
form_onto (Tree-F.Product parts gs) r = Symbol OpenProduct ∷ (separated part_tokens (Symbol Comma) parts ++ (conditions gen_tokens gs ++ (Symbol CloseProduct ∷ r)))
form_onto (Tree-F.SetOp op a b) r = set_op_word op ∷ (Symbol OpenParen ∷ (item_tokens a ++ (Symbol Comma ∷ (item_tokens b ++ (Symbol CloseParen ∷ r)))))
form_onto (Tree-F.Prefix event p) r = event_tokens event ++ (Symbol Arrow ∷ (operand_tokens p ++ r))
form_onto (Tree-F.Guard c p) r = operand_tokens c ++ (Symbol Ampersand ∷ (operand_tokens p ++ r))
form_onto (Tree-F.EachExternal x s p) r = Symbol ExternalChoice ∷ (Name x ∷ (Symbol Colon ∷ (operand_tokens s ++ (Symbol At ∷ (printed_tokens p ++ r)))))
form_onto (Tree-F.EachInternal x s p) r = Symbol InternalChoice ∷ (Name x ∷ (Symbol Colon ∷ (operand_tokens s ++ (Symbol At ∷ (printed_tokens p ++ r)))))
form_onto (Tree-F.Parallel p a b q) r = operand_tokens p ++ (Symbol OpenBracket ∷ (operand_tokens a ++ (Symbol Parallel ∷ (operand_tokens b ++ (Symbol CloseBracket ∷ (operand_tokens q ++ r))))))
form_onto (Tree-F.EachParallel x s a p) r = Symbol Parallel ∷ (Name x ∷ (Symbol Colon ∷ (operand_tokens s ++ (Symbol At ∷ (Symbol OpenBracket ∷ (operand_tokens a ++ (Symbol CloseBracket ∷ (printed_tokens p ++ r))))))))
form_onto (Tree-F.Seq p q) r = operand_tokens p ++ (Symbol Semicolon ∷ (operand_tokens q ++ r))
form_onto (Tree-F.Hide p s) r = operand_tokens p ++ (Symbol Backslash ∷ (operand_tokens s ++ r))
form_onto (Tree-F.Rename p pairs gs) r = operand_tokens p ++ (Symbol OpenRename ∷ (separated renamed_tokens (Symbol Comma) pairs ++ (conditions gen_tokens gs ++ (Symbol CloseRename ∷ r))))
form_onto d r = form_tokens d ++ r

over_rest : (d : Tree-F FieldTree GenTree Tree EventTree PartTree) (r : List Token) → form_tokens d ++ r ≡ form_onto d r
over_rest Tree-F.Stop r = refl
over_rest _ r = first_of (simp append_assoc, cc)

pub onto : (d : Tree-F FieldTree GenTree Tree EventTree PartTree) {t : Tree} → roll-Tree d ≡ t → (r : List Token) → printed_tokens t ++ r ≡ form_onto d r
onto d is r = ap (λ l. l ++ r) (equation.tokens_of d is) ∙ over_rest d r

pub fields-Dot : (a : Tree) (fs : List FieldTree) (r : List Token) → flat_map field_tokens (field.Dot a ∷ fs) ++ r ≡ Symbol Dot ∷ (operand_tokens a ++ (flat_map field_tokens fs ++ r))
fields-Dot a fs r = ap (λ l. l ++ flat_map field_tokens fs ++ r) (equation.field-Dot a) ∙ two (Symbol Dot ∷ operand_tokens a) (flat_map field_tokens fs) r

pub fields-Output : (a : Tree) (fs : List FieldTree) (r : List Token) → flat_map field_tokens (field.Output a ∷ fs) ++ r ≡ Symbol Bang ∷ (operand_tokens a ++ (flat_map field_tokens fs ++ r))
fields-Output a fs r = ap (λ l. l ++ flat_map field_tokens fs ++ r) (equation.field-Output a) ∙ two (Symbol Bang ∷ operand_tokens a) (flat_map field_tokens fs) r

pub fields-Input : (x : List ℕ) (fs : List FieldTree) (r : List Token) → flat_map field_tokens (field.Input x None ∷ fs) ++ r ≡ Symbol Question ∷ (Name x ∷ (flat_map field_tokens fs ++ r))
fields-Input x fs r = ap (λ l. l ++ flat_map field_tokens fs ++ r) (equation.field-Input x) ∙ two (Symbol Question ∷ Name x ∷ []) (flat_map field_tokens fs) r

pub fields-Input-from : (x : List ℕ) (s : Tree) (fs : List FieldTree) (r : List Token) → flat_map field_tokens (field.Input x (Some s) ∷ fs) ++ r ≡ Symbol Question ∷ (Name x ∷ (Symbol Colon ∷ (operand_tokens s ++ (flat_map field_tokens fs ++ r))))
fields-Input-from x s fs r = ap (λ l. l ++ flat_map field_tokens fs ++ r) (equation.field-Input-from x s) ∙ two (Symbol Question ∷ Name x ∷ Symbol Colon ∷ operand_tokens s) (flat_map field_tokens fs) r

pub onto-From : (x : List ℕ) (s : Tree) (r : List Token) → gen_tokens (generator.From x s) ++ r ≡ Name x ∷ (Symbol LeftArrow ∷ (operand_tokens s ++ r))
onto-From x s r = ap (λ l. l ++ r) (equation.gen-From x s)

pub onto-Cond : (c : Tree) (r : List Token) → gen_tokens (generator.Cond c) ++ r ≡ operand_tokens c ++ r
onto-Cond c r = ap (λ l. l ++ r) (equation.gen-Cond c)

pub onto-event : (c : List ℕ) (fs : List FieldTree) (r : List Token) → event_tokens (event_tree c fs) ++ r ≡ Name c ∷ (flat_map field_tokens fs ++ r)
unfolding field_tokens event_tokens
onto-event c fs r =
    ap (λ l. l ++ r) (fold-roll-EventTree (List Token) (List Token) Printed (List Token) (List Token) field_layer_printed gen_layer_printed tree_layer_printed event_layer_printed part_layer_printed (record { name = c; fields = fs }))
    ∙ ap (λ l. Name c ∷ l ++ r) (flat_map-map (λ tokens. tokens) field_tokens fs)

pub onto-part : (c : List ℕ) (fields : List Tree) (r : List Token) → part_tokens (part_tree c fields) ++ r ≡ Name c ∷ (dotted operand_tokens fields ++ r)
unfolding part_tokens operand_tokens shape_of printed_tokens printed
onto-part c fields r =
    ap (λ l. l ++ r) (fold-roll-PartTree (List Token) (List Token) Printed (List Token) (List Token) field_layer_printed gen_layer_printed tree_layer_printed event_layer_printed part_layer_printed (record { name = c; fields = fields }))
    ∙ ap (λ l. Name c ∷ l ++ r) (flat_map-map (λ x. Symbol Dot ∷ operand x) printed fields)

pub onto-pair : (c d : PartTree) (r : List Token) → renamed_tokens (c, d) ++ r ≡ part_tokens c ++ (Symbol LeftArrow ∷ (part_tokens d ++ r))
unfolding renamed_tokens
onto-pair c d r = append_assoc (part_tokens c) (Symbol LeftArrow ∷ part_tokens d) r

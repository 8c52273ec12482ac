-- How each form is printed, in terms of its parts: `tokens_of _ (tree.rolls-V ..)` are the tokens of a tree V .., `shape_is _ (tree.rolls-V ..)` is
-- its shape. A form that is new gets a clause of `form_printed`, and here one of `over_parts` where it has a list of parts; a field or a generator
-- gets an equation with its name in `other_forms`.
use Rattle.script_printer.proofs.Prelude.{◌≡◌, ℕ, Some, None, List, [], ◌∷◌, ◌++◌, map, ap, sym, refl, ◌∙◌, flat_map, ExternalChoice, InternalChoice, OpenRename, CloseRename, OpenProduct, CloseProduct, LeftArrow, Dot, Bang, Question, OpenParen, CloseParen, OpenBrace, CloseBrace, Comma, Bar, Token, Name, Symbol, Tree, Printed, atom, compound, form, form_tokens, operand, item, separated, dotted, conditions, bound_in, pair_tokens, renamed_tokens, printed, printed_tokens, shape_of, operand_tokens, item_tokens, field_tokens, gen_tokens, event_tokens, part_tokens, tree_layer_printed, field_layer_printed, gen_layer_printed, event_layer_printed, part_layer_printed, flat_map-map, EventTree, FieldTree, map-FieldTree, map-GenTree, map-Tree, fold-roll-FieldTree, fold-roll-GenTree, fold-roll-Tree, fold-roll-EventTree, fold-roll-PartTree, FieldTree-F, GenTree-F, Tree-F, roll-FieldTree, roll-GenTree, roll-Tree, out-Tree, roll-out-Tree, out-EventTree, roll-out-EventTree, out-PartTree, roll-out-PartTree, GenTree, PartTree, Dotted}
use Rattle.csp_text.specs.declared.tree.FieldTree.TheVariants as field
use Rattle.csp_text.specs.declared.tree.GenTree.TheVariants as generator

separated_map : {X Y : Type 0} (shown : Y → List Token) (f : X → Y) (sign : Token) (xs : List X) → separated shown sign (map f xs) ≡ separated (λ x. shown (f x)) sign xs
separated_map shown f sign [] = refl
separated_map shown f sign (x ∷ xs) = ap (λ l. shown (f x) ++ l) (flat_map-map (λ y. sign ∷ shown y) f xs)

conditions_map : {X Y : Type 0} (shown : Y → List Token) (f : X → Y) (xs : List X) → conditions shown (map f xs) ≡ conditions (λ x. shown (f x)) xs
conditions_map shown f [] = refl
conditions_map shown f (x ∷ xs) = ap (λ l. Symbol Bar ∷ l) (separated_map shown f (Symbol Comma) (x ∷ xs))

-- printed parts are the parts, printed
over_parts : (d : Tree-F FieldTree GenTree Tree EventTree PartTree) →
    tree_layer_printed (map-Tree FieldTree GenTree Tree EventTree PartTree (List Token) (List Token) Printed (List Token) (List Token) field_tokens gen_tokens printed event_tokens part_tokens d) ≡ form d
unfolding printed_tokens operand_tokens item_tokens shape_of renamed_tokens
over_parts (Tree-F.Call f items) = ap (λ l. atom (Name f ∷ Symbol OpenParen ∷ l ++ Symbol CloseParen ∷ [])) (separated_map item printed (Symbol Comma) items)
over_parts (Tree-F.«Tree::Dot» c fields) = ap (λ l. record { shape = Dotted; tokens = Name c ∷ l }) (flat_map-map (λ x. Symbol Dot ∷ operand x) printed fields)
over_parts (Tree-F.Display items) = ap (λ l. atom (Symbol OpenBrace ∷ l ++ Symbol CloseBrace ∷ [])) (separated_map item printed (Symbol Comma) items)
over_parts (Tree-F.Comp items gens) =
    (λ i. atom (Symbol OpenBrace ∷ separated_map item printed (Symbol Comma) items i ++ Symbol Bar ∷ separated_map (λ tokens. tokens) gen_tokens (Symbol Comma) gens i ++ Symbol CloseBrace ∷ []))
over_parts (Tree-F.Product parts gens) =
    (λ i. atom (Symbol OpenProduct ∷ separated_map (λ tokens. tokens) part_tokens (Symbol Comma) parts i ++ conditions_map (λ tokens. tokens) gen_tokens gens i ++ Symbol CloseProduct ∷ []))
over_parts (Tree-F.External ps) = ap compound (separated_map operand printed (Symbol ExternalChoice) ps)
over_parts (Tree-F.Internal ps) = ap compound (separated_map operand printed (Symbol InternalChoice) ps)
over_parts (Tree-F.Rename p pairs gens) =
    (λ i. compound (operand_tokens p ++ Symbol OpenRename ∷ separated_map pair_tokens (λ pair. (part_tokens pair.0, part_tokens pair.1)) (Symbol Comma) pairs i
    ++ conditions_map (λ tokens. tokens) gen_tokens gens i ++ Symbol CloseRename ∷ []))
over_parts _ = refl

printed_of : (d : Tree-F FieldTree GenTree Tree EventTree PartTree) {t : Tree} → roll-Tree d ≡ t → printed t ≡ form d
unfolding printed field_tokens gen_tokens event_tokens part_tokens
printed_of d e =
    ap printed (sym e)
    ∙ fold-roll-Tree (List Token) (List Token) Printed (List Token) (List Token) field_layer_printed gen_layer_printed tree_layer_printed event_layer_printed part_layer_printed d
    ∙ over_parts d

pub tokens_of : (d : Tree-F FieldTree GenTree Tree EventTree PartTree) {t : Tree} → roll-Tree d ≡ t → printed_tokens t ≡ form_tokens d
unfolding printed_tokens
tokens_of d e = ap (λ p. p.tokens) (printed_of d e)

pub shape_is : (d : Tree-F FieldTree GenTree Tree EventTree PartTree) {t : Tree} → roll-Tree d ≡ t → shape_of t ≡ (form d).shape
unfolding shape_of
shape_is d e = ap (λ p. p.shape) (printed_of d e)

field_is : (d : FieldTree-F FieldTree GenTree Tree EventTree PartTree) {a : FieldTree} → roll-FieldTree d ≡ a → field_tokens a
    ≡ field_layer_printed (map-FieldTree FieldTree GenTree Tree EventTree PartTree (List Token) (List Token) Printed (List Token) (List Token) field_tokens gen_tokens printed event_tokens part_tokens d)
unfolding printed field_tokens gen_tokens event_tokens part_tokens
field_is d e =
    ap field_tokens (sym e)
    ∙ fold-roll-FieldTree (List Token) (List Token) Printed (List Token) (List Token) field_layer_printed gen_layer_printed tree_layer_printed event_layer_printed part_layer_printed d

gen_is : (d : GenTree-F FieldTree GenTree Tree EventTree PartTree) {x : GenTree} → roll-GenTree d ≡ x → gen_tokens x
    ≡ gen_layer_printed (map-GenTree FieldTree GenTree Tree EventTree PartTree (List Token) (List Token) Printed (List Token) (List Token) field_tokens gen_tokens printed event_tokens part_tokens d)
unfolding printed field_tokens gen_tokens event_tokens part_tokens
gen_is d e =
    ap gen_tokens (sym e)
    ∙ fold-roll-GenTree (List Token) (List Token) Printed (List Token) (List Token) field_layer_printed gen_layer_printed tree_layer_printed event_layer_printed part_layer_printed d

pub field-Dot : (a : Tree) → field_tokens (field.Dot a) ≡ Symbol Dot ∷ operand_tokens a
unfolding operand_tokens shape_of printed_tokens
field-Dot a = field_is _ (field.rolls-Dot a)

pub field-Output : (a : Tree) → field_tokens (field.Output a) ≡ Symbol Bang ∷ operand_tokens a
unfolding operand_tokens shape_of printed_tokens
field-Output a = field_is _ (field.rolls-Output a)

pub field-Input : (x : List ℕ) → field_tokens (field.Input x None) ≡ Symbol Question ∷ Name x ∷ []
field-Input x = field_is _ (field.rolls-Input x None)

pub field-Input-from : (x : List ℕ) (s : Tree) → field_tokens (field.Input x (Some s)) ≡ Symbol Question ∷ bound_in x (operand_tokens s)
unfolding operand_tokens shape_of printed_tokens
field-Input-from x s = field_is _ (field.rolls-Input x (Some s))

pub gen-From : (x : List ℕ) (s : Tree) → gen_tokens (generator.From x s) ≡ Name x ∷ Symbol LeftArrow ∷ operand_tokens s
unfolding operand_tokens shape_of printed_tokens
gen-From x s = gen_is _ (generator.rolls-From x s)

pub gen-Cond : (c : Tree) → gen_tokens (generator.Cond c) ≡ operand_tokens c
unfolding operand_tokens shape_of printed_tokens
gen-Cond c = gen_is _ (generator.rolls-Cond c)

pub event-is : (event : EventTree) → event_tokens event ≡ Name (out-EventTree event).name ∷ flat_map field_tokens (out-EventTree event).fields
unfolding field_tokens gen_tokens event_tokens part_tokens operand_tokens shape_of printed_tokens printed
event-is event =
    ap event_tokens (sym (roll-out-EventTree event))
    ∙ fold-roll-EventTree (List Token) (List Token) Printed (List Token) (List Token) field_layer_printed gen_layer_printed tree_layer_printed event_layer_printed part_layer_printed (out-EventTree event)
    ∙ ap (λ l. Name (out-EventTree event).name ∷ l) (flat_map-map (λ tokens. tokens) field_tokens (out-EventTree event).fields)

pub part-is : (part : PartTree) → part_tokens part ≡ Name (out-PartTree part).name ∷ dotted operand_tokens (out-PartTree part).fields
unfolding field_tokens gen_tokens event_tokens part_tokens operand_tokens shape_of printed_tokens printed
part-is part =
    ap part_tokens (sym (roll-out-PartTree part))
    ∙ fold-roll-PartTree (List Token) (List Token) Printed (List Token) (List Token) field_layer_printed gen_layer_printed tree_layer_printed event_layer_printed part_layer_printed (out-PartTree part)
    ∙ ap (λ l. Name (out-PartTree part).name ∷ l) (flat_map-map (λ x. Symbol Dot ∷ operand x) printed (out-PartTree part).fields)

-- for a tree that is matched on: its form is its outermost layer
pub printed_out : (t : Tree) → printed t ≡ form (out-Tree t)
printed_out t = printed_of (out-Tree t) (roll-out-Tree t)

pub ruleset other_forms = (field-Dot, field-Output, field-Input, field-Input-from, gen-From, gen-Cond, event-is, part-is)

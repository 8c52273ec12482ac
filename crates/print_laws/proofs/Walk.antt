-- A walk through a text of the grammar: what is known of the list of tokens is known of each list on the way, where `k` parentheses are open, and
-- each tree is made of tokens of which P is known.
use Rattle.print_laws.proofs.Prelude.{◌≡◌, ℕ, suc, Bool, true, false, List, ◌∷◌, refl, not, set_op_word, Token, FieldTree, GenTree, PartTree, Tree, BinOp, SetOp, Choice, choice_of, choice_sign, TreeText, Reach, SideText, HidingText, ChoiceText, SequenceText, PrefixText, OpenText, FieldsText, DottedText, DotsText, ExpressionText, PairsText, PartText, PartsText, ConditionsText, GensText, GenText, ItemText, ItemsText, AtomText, Level, IsLeftOperator, IsComparison, is_common, MadeTree, MadeTrees, MadeDots, MadeFields, MadePart, MadeParts, MadePairs, MadeGen, MadeGens, MadeConditions}
use Rattle.csp_text.specs.declared.token.Token.TheVariants as token
use Rattle.csp_text.specs.declared.token.Symbol.TheVariants as symbol
use Rattle.csp_base.specs.declared.operators.SetOp.TheVariants as set_op
use Rattle.csp_grammar.specs.Grammar as g
use Rattle.csp_grammar.specs.Precedence as table
use Rattle.print_laws.specs.Made as m

-- a parenthesis, or the word of an assertion
abbrev pub is_special : Token → Bool
is_special (token.Symbol symbol.OpenParen) = true
is_special (token.Symbol symbol.CloseParen) = true
is_special (token.Word w) = not (is_common w)
is_special _ = false

left_plain : {l : Level} {sign : Token} {op : BinOp} → IsLeftOperator l sign op → is_special sign ≡ false
left_plain table.or = refl
left_plain _ = refl

comparison_plain : {sign : Token} {op : BinOp} → IsComparison sign op → is_special sign ≡ false
comparison_plain table.equal = refl
comparison_plain _ = refl

choice_plain : (c : Choice) → is_special (choice_sign c) ≡ false
choice_plain g.external = refl
choice_plain g.internal = refl

set_op_plain : (op : SetOp) → is_special (set_op_word op) ≡ false
set_op_plain set_op.Union = refl
set_op_plain _ = refl

-- parts that stand behind one another, each walked from where the one before it ends
pub two : {A B C X Y : Type 0} → A × X → (X → B × Y) → (A → B → C) → C × Y
two a b f = let y = b a.1 in (f a.0 y.0, y.1)

three : {A B C D X Y Z : Type 0} → A × X → (X → B × Y) → (Y → C × Z) → (A → B → C → D) → D × Z
three a b c f =
    let y = b a.1 in
    let z = c y.1 in
    (f a.0 y.0 z.0, z.1)

module _ (P : Token → Type 0) (S : ℕ → List Token → Type 0)
    (step : (k : ℕ) (t : Token) (ts : List Token) → is_special t ≡ false → S k (t ∷ ts) → P t × S k ts)
    (opens : (k : ℕ) (ts : List Token) → S k (token.Symbol symbol.OpenParen ∷ ts) → S (suc k) ts)
    (closes : (k : ℕ) (ts : List Token) → S (suc k) (token.Symbol symbol.CloseParen ∷ ts) → S k ts) where
  -- the token is passed
  past : {k : ℕ} {t : Token} {ts : List Token} → is_special t ≡ false → S k (t ∷ ts) → S k ts
  past {k} {t} {ts} e s = (step k t ts e s).1

  has : {k : ℕ} {t : Token} {ts : List Token} → is_special t ≡ false → S k (t ∷ ts) → P t
  has {k} {t} {ts} e s = (step k t ts e s).0

  opened : {k : ℕ} {ts : List Token} → S k (token.Symbol symbol.OpenParen ∷ ts) → S (suc k) ts
  opened {k} {ts} s = opens k ts s

  closed : {k : ℕ} {ts : List Token} → S (suc k) (token.Symbol symbol.CloseParen ∷ ts) → S k ts
  closed {k} {ts} s = closes k ts s

  mutual
    pub walk_tree : {n : ℕ} {ts : List Token} {t : Tree} {r : List Token} {k : ℕ} → TreeText n ts t r → S k ts → MadeTree P t × S k r
    walk_tree (g.tree-dotted d) s = walk_dotted d s
    walk_tree (g.tree-side p) s = walk_side p s
    walk_tree (g.tree-parallel p a b q) s =
        let p' = walk_side p s in
        let a' = walk_atom a (past refl p'.1) in
        let b' = walk_atom b (past refl a'.1) in
        let q' = walk_side q (past refl b'.1) in
        (m.made-parallel p'.0 a'.0 b'.0 q'.0, q'.1)

    walk_side : {n : ℕ} {e : Reach} {ts : List Token} {t : Tree} {r : List Token} {k : ℕ} → SideText n e ts t r → S k ts → MadeTree P t × S k r
    walk_side (g.side-sequence p) s = walk_sequence p s
    walk_side (g.side-choice c ps) s = let ps' = walk_choice ps s in (ps'.0.0, ps'.1)
    walk_side (g.side-hiding h) s = walk_hiding h s

    walk_hiding : {n : ℕ} {ts : List Token} {t : Tree} {r : List Token} {k : ℕ} → HidingText n ts t r → S k ts → MadeTree P t × S k r
    walk_hiding (g.hiding-one p a) s = two (walk_expression p s) (λ s. walk_atom a (past refl s)) m.made-hiding
    walk_hiding (g.hiding-more p a) s = two (walk_hiding p s) (λ s. walk_atom a (past refl s)) m.made-hiding

    walk_choice : {n : ℕ} {e : Reach} {c : Choice} {ts : List Token} {ps : List Tree} {r : List Token} {k : ℕ} → ChoiceText n e c ts ps r → S k ts → (MadeTree P (choice_of c ps) × MadeTrees P ps) × S k r
    walk_choice {c = c} (g.choice-two p q) s =
        let p' = walk_sequence p s in
        let q' = walk_sequence q (past (choice_plain c) p'.1) in
        ((m.made-choice c (has (choice_plain c) p'.1) p'.0 (m.made-one q'.0), m.made-more p'.0 (m.made-one q'.0)), q'.1)
    walk_choice {c = c} (g.choice-more p ps) s =
        let p' = walk_sequence p s in
        let ps' = walk_choice ps (past (choice_plain c) p'.1) in
        ((m.made-choice c (has (choice_plain c) p'.1) p'.0 ps'.0.1, m.made-more p'.0 ps'.0.1), ps'.1)

    walk_sequence : {n : ℕ} {e : Reach} {ts : List Token} {t : Tree} {r : List Token} {k : ℕ} → SequenceText n e ts t r → S k ts → MadeTree P t × S k r
    walk_sequence (g.sequence-one p) s = walk_prefix p s
    walk_sequence (g.sequence-more p q) s = two (walk_prefix p s) (λ s. walk_sequence q (past refl s)) m.made-sequence

    walk_prefix : {n : ℕ} {e : Reach} {ts : List Token} {t : Tree} {r : List Token} {k : ℕ} → PrefixText n e ts t r → S k ts → MadeTree P t × S k r
    walk_prefix (g.prefix-event (g.event-fields fs) p) s =
        two (walk_fields fs (past refl s)) (λ s. walk_prefix p (past refl s)) (m.made-prefix (has refl s))
    walk_prefix (g.prefix-guard c p) s = two (walk_expression c s) (λ s. walk_prefix p (past refl s)) m.made-guard
    walk_prefix (g.prefix-expression e) s = walk_expression e s
    walk_prefix (g.prefix-open-form p) s = walk_open p s

    walk_open : {n : ℕ} {ts : List Token} {t : Tree} {r : List Token} {k : ℕ} → OpenText n ts t r → S k ts → MadeTree P t × S k r
    walk_open (g.open-if-then-else c p q) s = three (walk_expression c (past refl s)) (λ s. walk_tree p (past refl s)) (λ s. walk_tree q (past refl s)) m.made-if
    walk_open (g.open-external a p) s =
        let x = past refl s in two (walk_atom a (past refl (past refl x))) (λ s. walk_tree p (past refl s)) (m.made-each-external (has refl s) (has refl x))
    walk_open (g.open-internal a p) s =
        let x = past refl s in two (walk_atom a (past refl (past refl x))) (λ s. walk_tree p (past refl s)) (m.made-each-internal (has refl s) (has refl x))
    walk_open (g.open-parallel a b p) s =
        let x = past refl s in three (walk_atom a (past refl (past refl x))) (λ s. walk_atom b (past refl (past refl s))) (λ s. walk_tree p (past refl s)) (m.made-each-parallel (has refl x))

    walk_fields : {n : ℕ} {dot : Bool} {ts : List Token} {fs : List FieldTree} {r : List Token} {k : ℕ} → FieldsText n dot ts fs r → S k ts → MadeFields P dot fs × S k r
    walk_fields g.fields-none s = (m.made-no-fields, s)
    walk_fields (g.fields-dot a fs) s = two (walk_expression a (past refl s)) (λ s. walk_fields fs s) m.made-field-dot
    walk_fields (g.fields-output a fs) s = two (walk_expression a (past refl s)) (λ s. walk_fields fs s) m.made-field-output
    walk_fields (g.fields-input fs) s =
        let x = past refl s in
        let fs' = walk_fields fs (past refl x) in
        (m.made-field-input (has refl x) fs'.0, fs'.1)
    walk_fields (g.fields-input-from a fs) s =
        let x = past refl s in two (walk_atom a (past refl (past refl x))) (λ s. walk_fields fs s) (m.made-field-input-from (has refl x))

    walk_dotted : {n : ℕ} {ts : List Token} {t : Tree} {r : List Token} {k : ℕ} → DottedText n ts t r → S k ts → MadeTree P t × S k r
    walk_dotted (g.dotted-fields a d) s = two (walk_expression a (past refl (past refl s))) (λ s. walk_dots d s) (m.made-dotted (has refl s))

    walk_dots : {n : ℕ} {ts : List Token} {fields : List Tree} {r : List Token} {k : ℕ} → DotsText n ts fields r → S k ts → MadeDots P fields × S k r
    walk_dots g.dots-none s = (m.made-no-dots, s)
    walk_dots (g.dots-more a d) s = two (walk_expression a (past refl s)) (λ s. walk_dots d s) m.made-dots

    walk_expression : {n : ℕ} {l : Level} {ts : List Token} {t : Tree} {r : List Token} {k : ℕ} → ExpressionText n l ts t r → S k ts → MadeTree P t × S k r
    walk_expression (g.expression-tighter next e) s = walk_expression e s
    walk_expression (g.expression-left-operator next op a b) s = two (walk_expression a s) (λ s. walk_expression b (past (left_plain op) s)) m.made-binary
    walk_expression (g.expression-negated a) s = let a' = walk_expression a (past refl s) in (m.made-negated a'.0, a'.1)
    walk_expression (g.expression-compare c a b) s = two (walk_expression a s) (λ s. walk_expression b (past (comparison_plain c) s)) m.made-binary
    walk_expression (g.expression-negative a) s = let a' = walk_expression a (past refl s) in (m.made-negative a'.0, a'.1)
    walk_expression (g.expression-rename p pairs gens) s =
        let p' = walk_expression p s in
        let pairs' = walk_pairs pairs (past refl p'.1) in
        let gens' = walk_conditions gens pairs'.1 in
        (m.made-renaming (has refl p'.1) (has refl gens'.1) p'.0 pairs'.0 gens'.0, past refl gens'.1)
    walk_expression (g.expression-atom a) s = walk_atom a s

    walk_pairs : {n : ℕ} {ts : List Token} {pairs : List (PartTree × PartTree)} {r : List Token} {k : ℕ} → PairsText n ts pairs r → S k ts → MadePairs P pairs × S k r
    walk_pairs (g.pairs-one c d) s = two (walk_part c s) (λ s. walk_part d (past refl s)) m.made-one-pair
    walk_pairs (g.pairs-more c d pairs) s = three (walk_part c s) (λ s. walk_part d (past refl s)) (λ s. walk_pairs pairs (past refl s)) m.made-more-pairs

    walk_part : {n : ℕ} {ts : List Token} {c : PartTree} {r : List Token} {k : ℕ} → PartText n ts c r → S k ts → MadePart P c × S k r
    walk_part (g.part-dots d) s = let d' = walk_dots d (past refl s) in (m.made-part (has refl s) d'.0, d'.1)

    walk_parts : {n : ℕ} {ts : List Token} {cs : List PartTree} {r : List Token} {k : ℕ} → PartsText n ts cs r → S k ts → MadeParts P cs × S k r
    walk_parts (g.parts-one c) s = let c' = walk_part c s in (m.made-one-part c'.0, c'.1)
    walk_parts (g.parts-more c cs) s = two (walk_part c s) (λ s. walk_parts cs (past refl s)) m.made-more-parts

    walk_conditions : {n : ℕ} {ts : List Token} {gs : List GenTree} {r : List Token} {k : ℕ} → ConditionsText n ts gs r → S k ts → MadeConditions P gs × S k r
    walk_conditions g.conditions-none s = (m.made-no-gens, s)
    walk_conditions (g.conditions-some gs) s = let gs' = walk_gens gs (past refl s) in (m.made-gens gs'.0, gs'.1)

    walk_gens : {n : ℕ} {ts : List Token} {gs : List GenTree} {r : List Token} {k : ℕ} → GensText n ts gs r → S k ts → MadeGens P gs × S k r
    walk_gens (g.gens-one x) s = let x' = walk_gen x s in (m.made-one-gen x'.0, x'.1)
    walk_gens (g.gens-more x xs) s = two (walk_gen x s) (λ s. walk_gens xs (past refl s)) m.made-more-gens

    walk_gen : {n : ℕ} {ts : List Token} {x : GenTree} {r : List Token} {k : ℕ} → GenText n ts x r → S k ts → MadeGen P x × S k r
    walk_gen (g.gen-from a) s = let a' = walk_atom a (past refl (past refl s)) in (m.made-from (has refl s) a'.0, a'.1)
    walk_gen (g.gen-condition c) s = let c' = walk_expression c s in (m.made-condition c'.0, c'.1)

    walk_item : {n : ℕ} {ts : List Token} {t : Tree} {r : List Token} {k : ℕ} → ItemText n ts t r → S k ts → MadeTree P t × S k r
    walk_item (g.item-dotted d) s = walk_dotted d s
    walk_item (g.item-expression e) s = walk_expression e s

    pub walk_items : {n : ℕ} {ts : List Token} {items : List Tree} {r : List Token} {k : ℕ} → ItemsText n ts items r → S k ts → MadeTrees P items × S k r
    walk_items (g.items-one i) s = let i' = walk_item i s in (m.made-one i'.0, i'.1)
    walk_items (g.items-more i is) s = two (walk_item i s) (λ s. walk_items is (past refl s)) m.made-more

    pub walk_atom : {n : ℕ} {ts : List Token} {t : Tree} {r : List Token} {k : ℕ} → AtomText n ts t r → S k ts → MadeTree P t × S k r
    walk_atom g.atom-stop s = (m.made-stop, past refl s)
    walk_atom g.atom-skip s = (m.made-skip, past refl s)
    walk_atom g.atom-truth s = (m.made-truth, past refl s)
    walk_atom g.atom-falsehood s = (m.made-falsehood, past refl s)
    walk_atom g.atom-number s = (m.made-number (has refl s), past refl s)
    walk_atom g.atom-name s = (m.made-name (has refl s), past refl s)
    walk_atom (g.atom-call i) s = let i' = walk_items i (opened (past refl s)) in (m.made-call (has refl s) i'.0, closed i'.1)
    walk_atom (g.atom-parentheses t) s = let t' = walk_tree t (opened s) in (t'.0, closed t'.1)
    walk_atom g.atom-empty s = (m.made-empty, past refl (past refl s))
    walk_atom (g.atom-display i) s = let i' = walk_items i (past refl s) in (m.made-display i'.0, past refl i'.1)
    walk_atom (g.atom-range a b) s =
        let a' = walk_expression a (past refl s) in
        let b' = walk_expression b (past refl a'.1) in
        (m.made-range a'.0 b'.0, past refl b'.1)
    walk_atom (g.atom-comprehension i gs) s =
        let i' = walk_items i (past refl s) in
        let gs' = walk_gens gs (past refl i'.1) in
        (m.made-comprehension i'.0 gs'.0, past refl gs'.1)
    walk_atom (g.atom-production cs gs) s =
        let cs' = walk_parts cs (past refl s) in
        let gs' = walk_conditions gs cs'.1 in
        (m.made-production cs'.0 gs'.0, past refl gs'.1)
    walk_atom (g.atom-set-operator {op = op} a b) s =
        let a' = walk_item a (opened (past (set_op_plain op) s)) in
        let b' = walk_item b (past refl a'.1) in
        (m.made-set-operator a'.0 b'.0, closed b'.1)

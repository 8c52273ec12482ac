-- The grammar of expressions and processes (Scattergood and Armstrong, CSPm), as a relation: one family for each rule, one constructor for each of
-- its alternatives. `TreeText n tokens t rest` says that the list of tokens is a text of the tree t and then `rest`; the other families say the
-- same of their kind of tree. In each, n is the number of brackets that may still be opened: a text within a bracket has one fewer.
--
-- A closed form may have something to its right. An open one (`if`, and the replicated forms) reaches as far right as it can, so it stands only at
-- the right end, and what ends with one is open too. Parentheses leave no trace in the tree.
use Rattle.std.specs.Prelude.{ℕ, suc, Bool, true, false, Some, None, List, [], ◌∷◌}
use Rattle.csp_text.specs.Prelude.{set_op_word}
use Rattle.csp_text.specs.declared.token.Symbol.TheVariants.{Arrow, ExternalChoice, InternalChoice, Parallel, OpenRename, CloseRename, OpenProduct, CloseProduct, LeftArrow, DotDot, Dot, Bang, Question, Colon, At, Minus, OpenParen, CloseParen, OpenBrace, CloseBrace, OpenBracket, CloseBracket, Comma, Ampersand, Bar, Backslash, Semicolon}
use Rattle.csp_text.specs.declared.token.Token.{Token}
use Rattle.csp_text.specs.declared.token.Token.TheVariants.{Name, Num, Word, Symbol}
use Rattle.csp_text.specs.declared.tree.EventTree.{EventTree, roll-EventTree}
use Rattle.csp_text.specs.declared.tree.FieldTree.{FieldTree}
use Rattle.csp_text.specs.declared.tree.GenTree.{GenTree}
use Rattle.csp_text.specs.declared.tree.PartTree.{PartTree, roll-PartTree}
use Rattle.csp_text.specs.declared.tree.Tree.{Tree}
use Rattle.csp_text.specs.declared.token.Word.TheVariants as word
use Rattle.csp_text.specs.declared.tree.Tree.TheVariants as tree
use Rattle.csp_base.specs.declared.operators.BinOp.{BinOp}
use Rattle.csp_base.specs.declared.operators.SetOp.{SetOp}
use Rattle.csp_text.specs.declared.tree.FieldTree.TheVariants as field
use Rattle.csp_text.specs.declared.tree.GenTree.TheVariants as generator
use Rattle.csp_grammar.specs.Precedence.{Level, IsNext, IsLeftOperator, IsComparison}
use Rattle.csp_grammar.specs.Precedence.Level.{disjunction, negation, comparison, sum, minus, renaming}

-- the two choices, which are written in the same way
pub data Choice : Type 0 where
  external : Choice
  internal : Choice

abbrev pub choice_sign : Choice → Token
choice_sign external = Symbol ExternalChoice
choice_sign internal = Symbol InternalChoice

abbrev pub choice_of : Choice → List Tree → Tree
choice_of external ps = tree.External ps
choice_of internal ps = tree.Internal ps

abbrev pub event_tree : List ℕ → List FieldTree → EventTree
event_tree c fields = roll-EventTree (record { name = c; fields = fields })

abbrev pub part_tree : List ℕ → List Tree → PartTree
part_tree c fields = roll-PartTree (record { name = c; fields = fields })

-- Whether something may follow a form on its right.
pub data Reach : Type 0 where
  closed : Reach
  opened : Reach

mutual
  -- A tree: a dotted event, a process or an expression, or two processes in parallel.
  pub data TreeText : ℕ → List Token → Tree → List Token → Type 0 where
    tree-dotted : {n : ℕ} {ts : List Token} {t : Tree} {r : List Token} → DottedText n ts t r → TreeText n ts t r
    tree-side : {n : ℕ} {e : Reach} {ts : List Token} {t : Tree} {r : List Token} → SideText n e ts t r → TreeText n ts t r
    tree-parallel : {n : ℕ} {e : Reach} {ts : List Token} {p : Tree} {us : List Token} {a : Tree} {vs : List Token} {b : Tree} {ws : List Token} {q : Tree} {r : List Token} →
        SideText (suc n) closed ts p (Symbol OpenBracket ∷ us) → AtomText n us a (Symbol Parallel ∷ vs) → AtomText n vs b (Symbol CloseBracket ∷ ws) →
        SideText (suc n) e ws q r → TreeText (suc n) ts (tree.Parallel p a b q) r

  -- A process or an expression that stands alone or beside a parallel. A chain is of one choice: a mixed one needs parentheses.
  pub data SideText : ℕ → Reach → List Token → Tree → List Token → Type 0 where
    side-sequence : {n : ℕ} {e : Reach} {ts : List Token} {t : Tree} {r : List Token} → SequenceText n e ts t r → SideText n e ts t r
    side-choice : {n : ℕ} {e : Reach} {ts : List Token} {ps : List Tree} {r : List Token} → (c : Choice) → ChoiceText n e c ts ps r → SideText n e ts (choice_of c ps) r
    side-hiding : {n : ℕ} {ts : List Token} {t : Tree} {r : List Token} → HidingText n ts t r → SideText n closed ts t r

  -- P \ A \ B: a chain of hidings nests from the left.
  pub data HidingText : ℕ → List Token → Tree → List Token → Type 0 where
    hiding-one : {n : ℕ} {ts : List Token} {p : Tree} {us : List Token} {a : Tree} {r : List Token} →
        ExpressionText n renaming ts p (Symbol Backslash ∷ us) → AtomText n us a r → HidingText n ts (tree.Hide p a) r
    hiding-more : {n : ℕ} {ts : List Token} {p : Tree} {us : List Token} {a : Tree} {r : List Token} →
        HidingText n ts p (Symbol Backslash ∷ us) → AtomText n us a r → HidingText n ts (tree.Hide p a) r

  -- P [] Q [] R: two operands or more, all closed but for the last one.
  pub data ChoiceText : ℕ → Reach → Choice → List Token → List Tree → List Token → Type 0 where
    choice-two : {n : ℕ} {e : Reach} {c : Choice} {ts : List Token} {p : Tree} {us : List Token} {q : Tree} {r : List Token} →
        SequenceText n closed ts p (choice_sign c ∷ us) → SequenceText n e us q r → ChoiceText n e c ts (p ∷ q ∷ []) r
    choice-more : {n : ℕ} {e : Reach} {c : Choice} {ts : List Token} {p : Tree} {us : List Token} {ps : List Tree} {r : List Token} →
        SequenceText n closed ts p (choice_sign c ∷ us) → ChoiceText n e c us ps r → ChoiceText n e c ts (p ∷ ps) r

  -- P ; Q ; R nests from the right.
  pub data SequenceText : ℕ → Reach → List Token → Tree → List Token → Type 0 where
    sequence-one : {n : ℕ} {e : Reach} {ts : List Token} {t : Tree} {r : List Token} → PrefixText n e ts t r → SequenceText n e ts t r
    sequence-more : {n : ℕ} {e : Reach} {ts : List Token} {p : Tree} {us : List Token} {q : Tree} {r : List Token} →
        PrefixText n closed ts p (Symbol Semicolon ∷ us) → SequenceText n e us q r → SequenceText n e ts (tree.Seq p q) r

  -- Prefixes and guards before an expression or an open form.
  pub data PrefixText : ℕ → Reach → List Token → Tree → List Token → Type 0 where
    prefix-event : {n : ℕ} {e : Reach} {ts : List Token} {event : EventTree} {us : List Token} {p : Tree} {r : List Token} →
        EventText n ts event (Symbol Arrow ∷ us) → PrefixText n e us p r → PrefixText n e ts (tree.Prefix event p) r
    prefix-guard : {n : ℕ} {e : Reach} {ts : List Token} {c : Tree} {us : List Token} {p : Tree} {r : List Token} →
        ExpressionText n disjunction ts c (Symbol Ampersand ∷ us) → PrefixText n e us p r → PrefixText n e ts (tree.Guard c p) r
    prefix-expression : {n : ℕ} {ts : List Token} {t : Tree} {r : List Token} → ExpressionText n disjunction ts t r → PrefixText n closed ts t r
    prefix-open-form : {n : ℕ} {ts : List Token} {t : Tree} {r : List Token} → OpenText n ts t r → PrefixText n opened ts t r

  -- if c then P else Q, [] x:S @ P, |~| x:S @ P and || x:S @ [A] P
  pub data OpenText : ℕ → List Token → Tree → List Token → Type 0 where
    open-if-then-else : {n : ℕ} {ts : List Token} {c : Tree} {us : List Token} {p : Tree} {vs : List Token} {q : Tree} {r : List Token} →
        ExpressionText n disjunction ts c (Word word.Then ∷ us) → TreeText n us p (Word word.Else ∷ vs) → TreeText n vs q r → OpenText n (Word word.If ∷ ts) (tree.If c p q) r
    open-external : {n : ℕ} {x : List ℕ} {ts : List Token} {s : Tree} {us : List Token} {p : Tree} {r : List Token} →
        AtomText n ts s (Symbol At ∷ us) → TreeText n us p r → OpenText n (Symbol ExternalChoice ∷ Name x ∷ Symbol Colon ∷ ts) (tree.EachExternal x s p) r
    open-internal : {n : ℕ} {x : List ℕ} {ts : List Token} {s : Tree} {us : List Token} {p : Tree} {r : List Token} →
        AtomText n ts s (Symbol At ∷ us) → TreeText n us p r → OpenText n (Symbol InternalChoice ∷ Name x ∷ Symbol Colon ∷ ts) (tree.EachInternal x s p) r
    open-parallel : {n : ℕ} {x : List ℕ} {ts : List Token} {s : Tree} {us : List Token} {a : Tree} {vs : List Token} {p : Tree} {r : List Token} →
        AtomText (suc n) ts s (Symbol At ∷ Symbol OpenBracket ∷ us) → AtomText n us a (Symbol CloseBracket ∷ vs) → TreeText (suc n) vs p r →
        OpenText (suc n) (Symbol Parallel ∷ Name x ∷ Symbol Colon ∷ ts) (tree.EachParallel x s a p) r

  -- The event of a prefix: a channel and its fields.
  pub data EventText : ℕ → List Token → EventTree → List Token → Type 0 where
    event-fields : {n : ℕ} {c : List ℕ} {ts : List Token} {fs : List FieldTree} {r : List Token} → FieldsText n true ts fs r → EventText n (Name c ∷ ts) (event_tree c fs) r

  -- The fields of a prefix. A `.` field may not stand directly after a `?` field: the truth value tells whether one may begin here.
  pub data FieldsText : ℕ → Bool → List Token → List FieldTree → List Token → Type 0 where
    fields-none : {n : ℕ} {dot : Bool} {r : List Token} → FieldsText n dot r [] r
    fields-dot : {n : ℕ} {ts : List Token} {a : Tree} {us : List Token} {fs : List FieldTree} {r : List Token} →
        ExpressionText n sum ts a us → FieldsText n true us fs r → FieldsText n true (Symbol Dot ∷ ts) (field.Dot a ∷ fs) r
    fields-output : {n : ℕ} {dot : Bool} {ts : List Token} {a : Tree} {us : List Token} {fs : List FieldTree} {r : List Token} →
        ExpressionText n sum ts a us → FieldsText n true us fs r → FieldsText n dot (Symbol Bang ∷ ts) (field.Output a ∷ fs) r
    fields-input : {n : ℕ} {dot : Bool} {x : List ℕ} {ts : List Token} {fs : List FieldTree} {r : List Token} →
        FieldsText n false ts fs r → FieldsText n dot (Symbol Question ∷ Name x ∷ ts) (field.Input x None ∷ fs) r
    fields-input-from : {n : ℕ} {dot : Bool} {x : List ℕ} {ts : List Token} {s : Tree} {us : List Token} {fs : List FieldTree} {r : List Token} →
        AtomText n ts s us → FieldsText n false us fs r → FieldsText n dot (Symbol Question ∷ Name x ∷ Symbol Colon ∷ ts) (field.Input x (Some s) ∷ fs) r

  -- c.a.b: a channel and one field or more.
  pub data DottedText : ℕ → List Token → Tree → List Token → Type 0 where
    dotted-fields : {n : ℕ} {c : List ℕ} {ts : List Token} {a : Tree} {us : List Token} {fields : List Tree} {r : List Token} →
        ExpressionText n sum ts a us → DotsText n us fields r → DottedText n (Name c ∷ Symbol Dot ∷ ts) (tree.Dot c (a ∷ fields)) r

  -- .a.b: none or more.
  pub data DotsText : ℕ → List Token → List Tree → List Token → Type 0 where
    dots-none : {n : ℕ} {r : List Token} → DotsText n r [] r
    dots-more : {n : ℕ} {ts : List Token} {a : Tree} {us : List Token} {fields : List Tree} {r : List Token} →
        ExpressionText n sum ts a us → DotsText n us fields r → DotsText n (Symbol Dot ∷ ts) (a ∷ fields) r

  -- An expression whose loosest operator outside brackets binds as tightly as the level, or tighter.
  pub data ExpressionText : ℕ → Level → List Token → Tree → List Token → Type 0 where
    expression-tighter : {n : ℕ} {l : Level} {m : Level} {ts : List Token} {t : Tree} {r : List Token} → IsNext l m → ExpressionText n m ts t r → ExpressionText n l ts t r
    expression-left-operator : {n : ℕ} {l : Level} {m : Level} {sign : Token} {op : BinOp} {ts : List Token} {a : Tree} {us : List Token} {b : Tree} {r : List Token} →
        IsNext l m → IsLeftOperator l sign op → ExpressionText n l ts a (sign ∷ us) → ExpressionText n m us b r → ExpressionText n l ts (tree.Binary op a b) r
    expression-negated : {n : ℕ} {ts : List Token} {a : Tree} {r : List Token} → ExpressionText n negation ts a r → ExpressionText n negation (Word word.Not ∷ ts) (tree.Not a) r
    expression-compare : {n : ℕ} {sign : Token} {op : BinOp} {ts : List Token} {a : Tree} {us : List Token} {b : Tree} {r : List Token} →
        IsComparison sign op → ExpressionText n sum ts a (sign ∷ us) → ExpressionText n sum us b r → ExpressionText n comparison ts (tree.Binary op a b) r
    expression-negative : {n : ℕ} {ts : List Token} {a : Tree} {r : List Token} → ExpressionText n minus ts a r → ExpressionText n minus (Symbol Minus ∷ ts) (tree.Neg a) r
    expression-rename : {n : ℕ} {ts : List Token} {p : Tree} {us : List Token} {pairs : List (PartTree × PartTree)} {vs : List Token} {gs : List GenTree} {r : List Token} →
        ExpressionText (suc n) renaming ts p (Symbol OpenRename ∷ us) → PairsText n us pairs vs → ConditionsText n vs gs (Symbol CloseRename ∷ r) →
        ExpressionText (suc n) renaming ts (tree.Rename p pairs gs) r
    expression-atom : {n : ℕ} {ts : List Token} {t : Tree} {r : List Token} → AtomText n ts t r → ExpressionText n renaming ts t r

  -- c <- d, e <- f: one pair or more.
  pub data PairsText : ℕ → List Token → List (PartTree × PartTree) → List Token → Type 0 where
    pairs-one : {n : ℕ} {ts : List Token} {c : PartTree} {us : List Token} {d : PartTree} {r : List Token} →
        PartText n ts c (Symbol LeftArrow ∷ us) → PartText n us d r → PairsText n ts ((c, d) ∷ []) r
    pairs-more : {n : ℕ} {ts : List Token} {c : PartTree} {us : List Token} {d : PartTree} {vs : List Token} {pairs : List (PartTree × PartTree)} {r : List Token} →
        PartText n ts c (Symbol LeftArrow ∷ us) → PartText n us d (Symbol Comma ∷ vs) → PairsText n vs pairs r → PairsText n ts ((c, d) ∷ pairs) r

  -- c.a: a channel and some of its fields.
  pub data PartText : ℕ → List Token → PartTree → List Token → Type 0 where
    part-dots : {n : ℕ} {c : List ℕ} {ts : List Token} {fields : List Tree} {r : List Token} → DotsText n ts fields r → PartText n (Name c ∷ ts) (part_tree c fields) r

  -- one part or more
  pub data PartsText : ℕ → List Token → List PartTree → List Token → Type 0 where
    parts-one : {n : ℕ} {ts : List Token} {c : PartTree} {r : List Token} → PartText n ts c r → PartsText n ts (c ∷ []) r
    parts-more : {n : ℕ} {ts : List Token} {c : PartTree} {us : List Token} {cs : List PartTree} {r : List Token} →
        PartText n ts c (Symbol Comma ∷ us) → PartsText n us cs r → PartsText n ts (c ∷ cs) r

  -- Generators behind a bar, or nothing.
  pub data ConditionsText : ℕ → List Token → List GenTree → List Token → Type 0 where
    conditions-none : {n : ℕ} {r : List Token} → ConditionsText n r [] r
    conditions-some : {n : ℕ} {ts : List Token} {gs : List GenTree} {r : List Token} → GensText n ts gs r → ConditionsText n (Symbol Bar ∷ ts) gs r

  -- one generator or more
  pub data GensText : ℕ → List Token → List GenTree → List Token → Type 0 where
    gens-one : {n : ℕ} {ts : List Token} {g : GenTree} {r : List Token} → GenText n ts g r → GensText n ts (g ∷ []) r
    gens-more : {n : ℕ} {ts : List Token} {g : GenTree} {us : List Token} {gs : List GenTree} {r : List Token} →
        GenText n ts g (Symbol Comma ∷ us) → GensText n us gs r → GensText n ts (g ∷ gs) r

  -- x <- S, or a condition
  pub data GenText : ℕ → List Token → GenTree → List Token → Type 0 where
    gen-from : {n : ℕ} {x : List ℕ} {ts : List Token} {s : Tree} {r : List Token} → AtomText n ts s r → GenText n (Name x ∷ Symbol LeftArrow ∷ ts) (generator.From x s) r
    gen-condition : {n : ℕ} {ts : List Token} {c : Tree} {r : List Token} → ExpressionText n disjunction ts c r → GenText n ts (generator.Cond c) r

  -- an item: a dotted event or an expression
  pub data ItemText : ℕ → List Token → Tree → List Token → Type 0 where
    item-dotted : {n : ℕ} {ts : List Token} {t : Tree} {r : List Token} → DottedText n ts t r → ItemText n ts t r
    item-expression : {n : ℕ} {ts : List Token} {t : Tree} {r : List Token} → ExpressionText n disjunction ts t r → ItemText n ts t r

  -- one item or more
  pub data ItemsText : ℕ → List Token → List Tree → List Token → Type 0 where
    items-one : {n : ℕ} {ts : List Token} {t : Tree} {r : List Token} → ItemText n ts t r → ItemsText n ts (t ∷ []) r
    items-more : {n : ℕ} {ts : List Token} {t : Tree} {us : List Token} {items : List Tree} {r : List Token} →
        ItemText n ts t (Symbol Comma ∷ us) → ItemsText n us items r → ItemsText n ts (t ∷ items) r

  -- An atom: what needs no parentheses as an operand.
  pub data AtomText : ℕ → List Token → Tree → List Token → Type 0 where
    atom-stop : {n : ℕ} {r : List Token} → AtomText n (Word word.Stop ∷ r) tree.Stop r
    atom-skip : {n : ℕ} {r : List Token} → AtomText n (Word word.Skip ∷ r) tree.Skip r
    atom-truth : {n : ℕ} {r : List Token} → AtomText n (Word word.True ∷ r) tree.True r
    atom-falsehood : {n : ℕ} {r : List Token} → AtomText n (Word word.False ∷ r) tree.False r
    atom-number : {n : ℕ} {x : ℕ} {r : List Token} → AtomText n (Num x ∷ r) (tree.Num x) r
    atom-name : {n : ℕ} {x : List ℕ} {r : List Token} → AtomText n (Name x ∷ r) (tree.Name x) r
    atom-call : {n : ℕ} {x : List ℕ} {ts : List Token} {items : List Tree} {r : List Token} →
        ItemsText n ts items (Symbol CloseParen ∷ r) → AtomText (suc n) (Name x ∷ Symbol OpenParen ∷ ts) (tree.Call x items) r
    atom-parentheses : {n : ℕ} {ts : List Token} {t : Tree} {r : List Token} → TreeText n ts t (Symbol CloseParen ∷ r) → AtomText (suc n) (Symbol OpenParen ∷ ts) t r
    atom-empty : {n : ℕ} {r : List Token} → AtomText (suc n) (Symbol OpenBrace ∷ Symbol CloseBrace ∷ r) (tree.Display []) r
    atom-display : {n : ℕ} {ts : List Token} {items : List Tree} {r : List Token} →
        ItemsText n ts items (Symbol CloseBrace ∷ r) → AtomText (suc n) (Symbol OpenBrace ∷ ts) (tree.Display items) r
    atom-range : {n : ℕ} {ts : List Token} {a : Tree} {us : List Token} {b : Tree} {r : List Token} →
        ExpressionText n sum ts a (Symbol DotDot ∷ us) → ExpressionText n sum us b (Symbol CloseBrace ∷ r) → AtomText (suc n) (Symbol OpenBrace ∷ ts) (tree.Range a b) r
    atom-comprehension : {n : ℕ} {ts : List Token} {items : List Tree} {us : List Token} {gs : List GenTree} {r : List Token} →
        ItemsText n ts items (Symbol Bar ∷ us) → GensText n us gs (Symbol CloseBrace ∷ r) → AtomText (suc n) (Symbol OpenBrace ∷ ts) (tree.Comp items gs) r
    atom-production : {n : ℕ} {ts : List Token} {parts : List PartTree} {us : List Token} {gs : List GenTree} {r : List Token} →
        PartsText n ts parts us → ConditionsText n us gs (Symbol CloseProduct ∷ r) → AtomText (suc n) (Symbol OpenProduct ∷ ts) (tree.Product parts gs) r
    atom-set-operator : {n : ℕ} {op : SetOp} {ts : List Token} {a : Tree} {us : List Token} {b : Tree} {r : List Token} →
        ItemText n ts a (Symbol Comma ∷ us) → ItemText n us b (Symbol CloseParen ∷ r) → AtomText (suc n) (set_op_word op ∷ Symbol OpenParen ∷ ts) (tree.SetOp op a b) r

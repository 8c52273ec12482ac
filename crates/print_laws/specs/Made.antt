-- Trees by the forms that the grammar gives them: one constructor a form. Choices have two operands or more, a dotted event a field, calls and
-- comprehensions an item, and no field with a dot stands directly behind one with a question mark. `P` is a fact about the tokens that such a tree
-- is written with: of its names, its numbers, and the signs of its choices and renamings.
use Rattle.std.specs.Prelude.{ℕ, ◌≤◌, Bool, true, false, Some, None, List, [], ◌∷◌}
use Rattle.csp_text.specs.Prelude.{tree_depth}
use Rattle.csp_text.specs.declared.script.Decl.{Decl}
use Rattle.csp_text.specs.declared.token.ResourceNames.{ResourceNames}
use Rattle.csp_text.specs.declared.token.RolesNames.{RolesNames}
use Rattle.csp_text.specs.declared.token.Symbol.TheVariants.{ExternalChoice, InternalChoice, OpenRename, CloseRename}
use Rattle.csp_text.specs.declared.token.Token.{Token}
use Rattle.csp_text.specs.declared.token.Token.TheVariants.{Name, Num, Symbol}
use Rattle.csp_text.specs.declared.tree.FieldTree.{FieldTree}
use Rattle.csp_text.specs.declared.tree.GenTree.{GenTree}
use Rattle.csp_text.specs.declared.tree.PartTree.{PartTree}
use Rattle.csp_text.specs.declared.tree.Tree.{Tree}
use Rattle.csp_text.specs.declared.token.Token.TheVariants as token
use Rattle.csp_text.specs.declared.script.Decl.TheVariants as decl
use Rattle.csp_text.specs.declared.tree.Tree.TheVariants as tree
use Rattle.csp_base.specs.declared.operators.BinOp.{BinOp}
use Rattle.csp_base.specs.declared.operators.SetOp.{SetOp}
use Rattle.csp_text.specs.declared.tree.FieldTree.TheVariants as field
use Rattle.csp_text.specs.declared.tree.GenTree.TheVariants as generator
use Rattle.csp_grammar.specs.Grammar.{Choice, choice_sign, choice_of, event_tree, part_tree}
use Rattle.dl_limits.specs.declared.TheConstants.{MOST_TREE_DEPTH}

mutual
  pub data MadeTree (P : Token → Type 0) : Tree → Type 0 where
    made-stop : MadeTree P tree.Stop
    made-skip : MadeTree P tree.Skip
    made-truth : MadeTree P tree.True
    made-falsehood : MadeTree P tree.False
    made-number : {n : ℕ} → P (Num n) → MadeTree P (tree.Num n)
    made-name : {x : List ℕ} → P (Name x) → MadeTree P (tree.Name x)
    made-call : {x : List ℕ} {items : List Tree} → P (Name x) → MadeTrees P items → MadeTree P (tree.Call x items)
    made-dotted : {c : List ℕ} {a : Tree} {fields : List Tree} → P (Name c) → MadeTree P a → MadeDots P fields → MadeTree P (tree.Dot c (a ∷ fields))
    made-negative : {a : Tree} → MadeTree P a → MadeTree P (tree.Neg a)
    made-negated : {a : Tree} → MadeTree P a → MadeTree P (tree.Not a)
    made-binary : {op : BinOp} {a b : Tree} → MadeTree P a → MadeTree P b → MadeTree P (tree.Binary op a b)
    made-if : {c p q : Tree} → MadeTree P c → MadeTree P p → MadeTree P q → MadeTree P (tree.If c p q)
    made-empty : MadeTree P (tree.Display [])
    made-display : {items : List Tree} → MadeTrees P items → MadeTree P (tree.Display items)
    made-range : {a b : Tree} → MadeTree P a → MadeTree P b → MadeTree P (tree.Range a b)
    made-comprehension : {items : List Tree} {gs : List GenTree} → MadeTrees P items → MadeGens P gs → MadeTree P (tree.Comp items gs)
    made-production : {parts : List PartTree} {gs : List GenTree} → MadeParts P parts → MadeConditions P gs → MadeTree P (tree.Product parts gs)
    made-set-operator : {op : SetOp} {a b : Tree} → MadeTree P a → MadeTree P b → MadeTree P (tree.SetOp op a b)
    made-prefix : {c : List ℕ} {fs : List FieldTree} {p : Tree} → P (Name c) → MadeFields P true fs → MadeTree P p → MadeTree P (tree.Prefix (event_tree c fs) p)
    made-guard : {c p : Tree} → MadeTree P c → MadeTree P p → MadeTree P (tree.Guard c p)
    made-choice : {p : Tree} {ps : List Tree} → (c : Choice) → P (choice_sign c) → MadeTree P p → MadeTrees P ps → MadeTree P (choice_of c (p ∷ ps))
    made-each-external : {x : List ℕ} {s p : Tree} → P (Symbol ExternalChoice) → P (Name x) → MadeTree P s → MadeTree P p → MadeTree P (tree.EachExternal x s p)
    made-each-internal : {x : List ℕ} {s p : Tree} → P (Symbol InternalChoice) → P (Name x) → MadeTree P s → MadeTree P p → MadeTree P (tree.EachInternal x s p)
    made-parallel : {p a b q : Tree} → MadeTree P p → MadeTree P a → MadeTree P b → MadeTree P q → MadeTree P (tree.Parallel p a b q)
    made-each-parallel : {x : List ℕ} {s a p : Tree} → P (Name x) → MadeTree P s → MadeTree P a → MadeTree P p → MadeTree P (tree.EachParallel x s a p)
    made-sequence : {p q : Tree} → MadeTree P p → MadeTree P q → MadeTree P (tree.Seq p q)
    made-hiding : {p s : Tree} → MadeTree P p → MadeTree P s → MadeTree P (tree.Hide p s)
    made-renaming : {p : Tree} {pairs : List (PartTree × PartTree)} {gs : List GenTree} → P (Symbol OpenRename) → P (Symbol CloseRename) →
        MadeTree P p → MadePairs P pairs → MadeConditions P gs → MadeTree P (tree.Rename p pairs gs)

  -- one tree or more
  pub data MadeTrees (P : Token → Type 0) : List Tree → Type 0 where
    made-one : {t : Tree} → MadeTree P t → MadeTrees P (t ∷ [])
    made-more : {t : Tree} {ts : List Tree} → MadeTree P t → MadeTrees P ts → MadeTrees P (t ∷ ts)

  -- none or more
  pub data MadeDots (P : Token → Type 0) : List Tree → Type 0 where
    made-no-dots : MadeDots P []
    made-dots : {t : Tree} {ts : List Tree} → MadeTree P t → MadeDots P ts → MadeDots P (t ∷ ts)

  -- the fields of a prefix; the truth value tells whether one with a dot may be the first
  pub data MadeFields (P : Token → Type 0) : Bool → List FieldTree → Type 0 where
    made-no-fields : {dot : Bool} → MadeFields P dot []
    made-field-dot : {a : Tree} {fs : List FieldTree} → MadeTree P a → MadeFields P true fs → MadeFields P true (field.Dot a ∷ fs)
    made-field-output : {dot : Bool} {a : Tree} {fs : List FieldTree} → MadeTree P a → MadeFields P true fs → MadeFields P dot (field.Output a ∷ fs)
    made-field-input : {dot : Bool} {x : List ℕ} {fs : List FieldTree} → P (Name x) → MadeFields P false fs → MadeFields P dot (field.Input x None ∷ fs)
    made-field-input-from : {dot : Bool} {x : List ℕ} {s : Tree} {fs : List FieldTree} → P (Name x) → MadeTree P s → MadeFields P false fs →
        MadeFields P dot (field.Input x (Some s) ∷ fs)

  pub data MadePart (P : Token → Type 0) : PartTree → Type 0 where
    made-part : {c : List ℕ} {fields : List Tree} → P (Name c) → MadeDots P fields → MadePart P (part_tree c fields)

  -- one part or more
  pub data MadeParts (P : Token → Type 0) : List PartTree → Type 0 where
    made-one-part : {c : PartTree} → MadePart P c → MadeParts P (c ∷ [])
    made-more-parts : {c : PartTree} {cs : List PartTree} → MadePart P c → MadeParts P cs → MadeParts P (c ∷ cs)

  -- one pair or more
  pub data MadePairs (P : Token → Type 0) : List (PartTree × PartTree) → Type 0 where
    made-one-pair : {c d : PartTree} → MadePart P c → MadePart P d → MadePairs P ((c, d) ∷ [])
    made-more-pairs : {c d : PartTree} {pairs : List (PartTree × PartTree)} → MadePart P c → MadePart P d → MadePairs P pairs → MadePairs P ((c, d) ∷ pairs)

  pub data MadeGen (P : Token → Type 0) : GenTree → Type 0 where
    made-from : {x : List ℕ} {s : Tree} → P (Name x) → MadeTree P s → MadeGen P (generator.From x s)
    made-condition : {c : Tree} → MadeTree P c → MadeGen P (generator.Cond c)

  -- one generator or more
  pub data MadeGens (P : Token → Type 0) : List GenTree → Type 0 where
    made-one-gen : {g : GenTree} → MadeGen P g → MadeGens P (g ∷ [])
    made-more-gens : {g : GenTree} {gs : List GenTree} → MadeGen P g → MadeGens P gs → MadeGens P (g ∷ gs)

  -- none or more
  pub data MadeConditions (P : Token → Type 0) : List GenTree → Type 0 where
    made-no-gens : MadeConditions P []
    made-gens : {gs : List GenTree} → MadeGens P gs → MadeConditions P gs

-- names, one or more
pub data MadeNames (P : Token → Type 0) : List (List ℕ) → Type 0 where
  made-one-name : {x : List ℕ} → P (Name x) → MadeNames P (x ∷ [])
  made-more-names : {x : List ℕ} {xs : List (List ℕ)} → P (Name x) → MadeNames P xs → MadeNames P (x ∷ xs)

-- types, one or more
pub data MadeTypes (P : Token → Type 0) : List Tree → Type 0 where
  made-one-type : {a : Tree} → MadeTree P a → tree_depth a ≤ MOST_TREE_DEPTH → MadeTypes P (a ∷ [])
  made-more-types : {a : Tree} {types : List Tree} → MadeTree P a → tree_depth a ≤ MOST_TREE_DEPTH → MadeTypes P types → MadeTypes P (a ∷ types)

pub data MadeParameters (P : Token → Type 0) : List (List ℕ) → Type 0 where
  made-no-parameters : MadeParameters P []
  made-parameters : {xs : List (List ℕ)} → MadeNames P xs → MadeParameters P xs

-- Declarations, within the limit of depth. `Q` is the fact about the tokens of an assertion's arguments.
pub data MadeDecl (P Q : Token → Type 0) : Decl → Type 0 where
  made-channel : {cs : List (List ℕ)} → MadeNames P cs → MadeDecl P Q (decl.Channel cs [])
  made-channel-of : {cs : List (List ℕ)} {types : List Tree} → MadeNames P cs → MadeTypes P types → MadeDecl P Q (decl.Channel cs types)
  made-datatype : {d : List ℕ} {xs : List (List ℕ)} → P (Name d) → MadeNames P xs → MadeDecl P Q (decl.Datatype d xs)
  made-nametype : {x : List ℕ} {s : Tree} → P (Name x) → MadeTree P s → tree_depth s ≤ MOST_TREE_DEPTH → MadeDecl P Q (decl.Nametype x s)
  made-define : {f : List ℕ} {xs : List (List ℕ)} {t : Tree} → P (Name f) → MadeParameters P xs → MadeTree P t → tree_depth t ≤ MOST_TREE_DEPTH → MadeDecl P Q (decl.Define f xs t)
  made-assert-name : {x : List ℕ} → P (Name x) → MadeDecl P Q (decl.Assert (tree.Name x))
  made-assert-call : {x : List ℕ} {items : List Tree} → P (Name x) → MadeTrees Q items → tree_depth (tree.Call x items) ≤ MOST_TREE_DEPTH → MadeDecl P Q (decl.Assert (tree.Call x items))
  made-roles : {names : RolesNames} → P (token.Roles names) → MadeDecl P Q (decl.Roles names)
  made-resource : {names : ResourceNames} → P (token.Resource names) → MadeDecl P Q (decl.Resource names)

-- none or more
pub data MadeDecls (P Q : Token → Type 0) : List Decl → Type 0 where
  made-no-decls : MadeDecls P Q []
  made-decls : {d : Decl} {ds : List Decl} → MadeDecl P Q d → MadeDecls P Q ds → MadeDecls P Q (d ∷ ds)

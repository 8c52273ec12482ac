-- What trees mean: which expression, process or network each is, by one rule for each form. A tree that no rule fits means nothing.
--
-- `IsExpr scope n t e m` says that the tree t is the expression e under these bound names; the other families say the same of their kind of tree. Bound
-- names are numbered in the order of their binding tokens: those of t have the numbers from n on, and m is the number of the next one after t. The
-- items of a comprehension, the parts of `{| |}` and the pairs of a renaming stand before its generators and under the names that these bind.
--
-- A rule holds for all that its letters in braces can stand for: of what type each is, its places in the rule say.
use Rattle.std.specs.Prelude.{◌≡◌, ◌+◌, ◌∷◌}
use Rattle.script_names.specs.Sources.{ℕ, pos, true, false, Some, None, List, [], length, slice_get, Tree, EventPart, Expr, roll-EventPart, Gen, Net, Field, Proc, Entity, Kind, Head, Class}
use Rattle.csp_base.specs.declared.operators.BinOp.{BinOp}
use Rattle.csp_base.specs.declared.operators.SetOp.{SetOp}
use Rattle.csp_text.specs.declared.tree.EventTree.{EventTree, roll-EventTree}
use Rattle.csp_text.specs.declared.tree.FieldTree.{FieldTree}
use Rattle.csp_text.specs.declared.tree.GenTree.{GenTree}
use Rattle.csp_text.specs.declared.tree.PartTree.{PartTree, roll-PartTree}
use Rattle.csp_text.specs.declared.tree.FieldTree.TheVariants as text
use Rattle.csp_text.specs.declared.tree.GenTree.TheVariants as generator
use Rattle.csp_text.specs.declared.tree.Tree.TheVariants as tree
use Rattle.csp_program.specs.declared.expressions.Expr.TheVariants as expr
use Rattle.csp_program.specs.declared.expressions.Gen.TheVariants as gen_of
use Rattle.csp_program.specs.declared.networks.Net.TheVariants as net
use Rattle.csp_program.specs.declared.processes.Proc.TheVariants as proc
use Rattle.script_names.specs.Names.{Name, Meanings}
use Rattle.script_names.specs.Scopes.{Scope, number_of, with}

abbrev pub event_tree : Name → List FieldTree → EventTree
event_tree c fields = roll-EventTree (record { name = c; fields = fields })

abbrev pub part_tree : Name → List Tree → PartTree
part_tree c fields = roll-PartTree (record { name = c; fields = fields })

abbrev pub event_part : ℕ → List Expr → EventPart
event_part c fields = roll-EventPart (record { channel = c; fields = fields })

module _ (meanings : Meanings) (kinds : List Kind) where
  -- the name is not bound, and it is declared as this
  abbrev pub Means : Scope → Name → Entity → Type 0
  Means scope x e = (number_of scope x ≡ None) × (meanings x ≡ Some e)

  -- the name may be bound: it is no constant
  abbrev pub MayBind : Name → Type 0
  MayBind x = (k : ℕ) → meanings x ≡ Some (Entity.Constant k) → ⊥

  -- the definition with the number d is one of data, of a process that is no network, or of a network
  abbrev pub IsData : ℕ → Type 0
  IsData d = slice_get kinds d ≡ Some (record { class = Class.Data; network = false })

  abbrev pub IsProcess : ℕ → Type 0
  IsProcess d = slice_get kinds d ≡ Some (record { class = Class.Process; network = false })

  abbrev pub IsNetwork : ℕ → Type 0
  IsNetwork d = slice_get kinds d ≡ Some (record { class = Class.Process; network = true })

  mutual
    pub data IsExpr : Scope → ℕ → Tree → Expr → ℕ → Type 0 where
      number : {scope n k : _} → IsExpr scope n (tree.Num k) (expr.Num (pos k)) n
      truth : {scope n : _} → IsExpr scope n tree.True (expr.Truth true) n
      falsehood : {scope n : _} → IsExpr scope n tree.False (expr.Truth false) n
      -- a name alone: a bound one, a channel without fields, a constant, a definition without parameters, a nametype or datatype
      bound : {scope n b x : _} → number_of scope x ≡ Some b → IsExpr scope n (tree.Name x) (expr.Bound b) n
      event : {scope n c x : _} → Means scope x (Entity.Channel c 0) → IsExpr scope n (tree.Name x) (expr.Event c []) n
      constant : {scope n k x : _} → Means scope x (Entity.Constant k) → IsExpr scope n (tree.Name x) (expr.Const k) n
      datum : {scope n d x : _} → Means scope x (Entity.Definition d 0) → IsData d → IsExpr scope n (tree.Name x) (expr.Call d []) n
      named_set : {scope n d x : _} → Means scope x (Entity.Set d) → IsExpr scope n (tree.Name x) (expr.SetName d) n
      call : {scope n m d f args es : _} → Means scope f (Entity.Definition d (length args)) → IsData d → AreExprs scope n args es m →
          IsExpr scope n (tree.Call f args) (expr.Call d es) m
      dotted : {scope n m c x fields es : _} → Means scope x (Entity.Channel c (length fields)) → AreExprs scope n fields es m →
          IsExpr scope n (tree.Dot x fields) (expr.Event c es) m
      negative : {scope n m a e : _} → IsExpr scope n a e m → IsExpr scope n (tree.Neg a) (expr.Neg e) m
      negation : {scope n m a e : _} → IsExpr scope n a e m → IsExpr scope n (tree.Not a) (expr.Not e) m
      binary : {scope n i m op a b e f : _} → IsExpr scope n a e i → IsExpr scope i b f m → IsExpr scope n (tree.Binary op a b) (expr.Binary op e f) m
      expr_if : {scope n i j m c a b g e f : _} → IsExpr scope n c g i → IsExpr scope i a e j → IsExpr scope j b f m →
          IsExpr scope n (tree.If c a b) (expr.If g e f) m
      display : {scope n m items es : _} → AreExprs scope n items es m → IsExpr scope n (tree.Display items) (expr.Display es) m
      range : {scope n i m a b e f : _} → IsExpr scope n a e i → IsExpr scope i b f m → IsExpr scope n (tree.Range a b) (expr.Range e f) m
      comprehension : {scope inner n i m items gens es gs : _} → AreExprs inner n items es i → AreGens scope i gens gs inner m →
          IsExpr scope n (tree.Comp items gens) (expr.Comp es gs) m
      product : {scope inner n i m parts gens fronts gs : _} → AreFronts inner n parts fronts i → AreGens scope i gens gs inner m →
          IsExpr scope n (tree.Product parts gens) (expr.Product fronts gs) m
      set_operator : {scope n i m op a b e f : _} → IsExpr scope n a e i → IsExpr scope i b f m → IsExpr scope n (tree.SetOp op a b) (expr.SetOp op e f) m

    pub data AreExprs : Scope → ℕ → List Tree → List Expr → ℕ → Type 0 where
      no_exprs : {scope n : _} → AreExprs scope n [] [] n
      more_exprs : {scope n i m t e ts es : _} → IsExpr scope n t e i → AreExprs scope i ts es m → AreExprs scope n (t ∷ ts) (e ∷ es) m

    -- generators, and the scope of what stands under them
    pub data AreGens : Scope → ℕ → List GenTree → List Gen → Scope → ℕ → Type 0 where
      no_gens : {scope n : _} → AreGens scope n [] [] scope n
      from : {scope inner n i m x s e gens gs : _} → MayBind x → IsExpr scope (n + 1) s e i → AreGens (with scope x n) i gens gs inner m →
          AreGens scope n (generator.From x s ∷ gens) (gen_of.From n e ∷ gs) inner m
      condition : {scope inner n i m c e gens gs : _} → IsExpr scope n c e i → AreGens scope i gens gs inner m →
          AreGens scope n (generator.Cond c ∷ gens) (gen_of.Cond e ∷ gs) inner m

    -- the front of an event, which leaves so many fields of its channel
    pub data IsFront : Scope → ℕ → PartTree → EventPart → ℕ → ℕ → Type 0 where
      front : {scope n m c fields left x items es : _} → Means scope x (Entity.Channel c fields) → length items + left ≡ fields → AreExprs scope n items es m →
          IsFront scope n (part_tree x items) (event_part c es) left m

    pub data AreFronts : Scope → ℕ → List PartTree → List EventPart → ℕ → Type 0 where
      no_fronts : {scope n : _} → AreFronts scope n [] [] n
      more_fronts : {scope n i m left t f ts fs : _} → IsFront scope n t f left i → AreFronts scope i ts fs m → AreFronts scope n (t ∷ ts) (f ∷ fs) m

  -- the fields of a prefix, and the scope of what stands behind them
  pub data AreFields : Scope → ℕ → List FieldTree → List Field → Scope → ℕ → Type 0 where
    no_fields : {scope n : _} → AreFields scope n [] [] scope n
    dot : {scope inner n i m a e ts fs : _} → IsExpr scope n a e i → AreFields scope i ts fs inner m →
        AreFields scope n (text.Dot a ∷ ts) (Field.Put e ∷ fs) inner m
    output : {scope inner n i m a e ts fs : _} → IsExpr scope n a e i → AreFields scope i ts fs inner m →
        AreFields scope n (text.Output a ∷ ts) (Field.Put e ∷ fs) inner m
    input : {scope inner n m x ts fs : _} → MayBind x → AreFields (with scope x n) (n + 1) ts fs inner m →
        AreFields scope n (text.Input x None ∷ ts) (Field.Get n None ∷ fs) inner m
    input_from : {scope inner n i m x s e ts fs : _} → MayBind x → IsExpr scope (n + 1) s e i → AreFields (with scope x n) i ts fs inner m →
        AreFields scope n (text.Input x (Some s) ∷ ts) (Field.Get n (Some e) ∷ fs) inner m

  -- the pairs of a renaming: both fronts of a pair leave the same number of fields
  pub data ArePairs : Scope → ℕ → List (PartTree × PartTree) → List (EventPart × EventPart) → ℕ → Type 0 where
    no_pairs : {scope n : _} → ArePairs scope n [] [] n
    more_pairs : {scope n i j m left old new f g ts fs : _} → IsFront scope n old f left i → IsFront scope i new g left j → ArePairs scope j ts fs m →
        ArePairs scope n ((old, new) ∷ ts) ((f, g) ∷ fs) m

  mutual
    pub data IsProc : Scope → ℕ → Tree → Proc → ℕ → Type 0 where
      stop : {scope n : _} → IsProc scope n tree.Stop proc.Stop n
      skip : {scope n : _} → IsProc scope n tree.Skip proc.Skip n
      process : {scope n d x : _} → Means scope x (Entity.Definition d 0) → IsProcess d → IsProc scope n (tree.Name x) (proc.Call d []) n
      process_call : {scope n m d f args es : _} → Means scope f (Entity.Definition d (length args)) → IsProcess d → AreExprs scope n args es m →
          IsProc scope n (tree.Call f args) (proc.Call d es) m
      proc_if : {scope n i j m c p q e r s : _} → IsExpr scope n c e i → IsProc scope i p r j → IsProc scope j q s m →
          IsProc scope n (tree.If c p q) (proc.If e r s) m
      -- a prefix: a channel with all of its fields, or a bound name, which is worth an event
      prefix : {scope inner n i m c x ts fs p q : _} → Means scope x (Entity.Channel c (length ts)) → AreFields scope n ts fs inner i → IsProc inner i p q m →
          IsProc scope n (tree.Prefix (event_tree x ts) p) (proc.Prefix (Head.Channel c) fs q) m
      bound_prefix : {scope n m b x p q : _} → number_of scope x ≡ Some b → IsProc scope n p q m →
          IsProc scope n (tree.Prefix (event_tree x []) p) (proc.Prefix (Head.Bound b) [] q) m
      guard : {scope n i m c p e q : _} → IsExpr scope n c e i → IsProc scope i p q m → IsProc scope n (tree.Guard c p) (proc.Guard e q) m
      external : {scope n m ps qs : _} → AreProcs scope n ps qs m → IsProc scope n (tree.External ps) (proc.External qs) m
      internal : {scope n m ps qs : _} → AreProcs scope n ps qs m → IsProc scope n (tree.Internal ps) (proc.Internal qs) m
      each_external : {scope n i m x s p e q : _} → MayBind x → IsExpr scope (n + 1) s e i → IsProc (with scope x n) i p q m →
          IsProc scope n (tree.EachExternal x s p) (proc.EachExternal n e q) m
      each_internal : {scope n i m x s p e q : _} → MayBind x → IsExpr scope (n + 1) s e i → IsProc (with scope x n) i p q m →
          IsProc scope n (tree.EachInternal x s p) (proc.EachInternal n e q) m
      sequence : {scope n i m p q r s : _} → IsProc scope n p r i → IsProc scope i q s m → IsProc scope n (tree.Seq p q) (proc.Seq r s) m
      hide : {scope n i m p s q e : _} → IsProc scope n p q i → IsExpr scope i s e m → IsProc scope n (tree.Hide p s) (proc.Hide q e) m
      rename : {scope inner n i j m p q pairs fs gens gs : _} → IsProc scope n p q i → ArePairs inner i pairs fs j → AreGens scope j gens gs inner m →
          IsProc scope n (tree.Rename p pairs gens) (proc.Rename q fs gs) m

    pub data AreProcs : Scope → ℕ → List Tree → List Proc → ℕ → Type 0 where
      no_procs : {scope n : _} → AreProcs scope n [] [] n
      more_procs : {scope n i m t q ts qs : _} → IsProc scope n t q i → AreProcs scope i ts qs m → AreProcs scope n (t ∷ ts) (q ∷ qs) m

  mutual
    -- a network: a component alone, or a composition
    pub data IsNet : Scope → ℕ → Tree → Net → ℕ → Type 0 where
      component : {scope n m t q : _} → IsProc scope n t q m → IsNet scope n t (net.Leaf q) m
      composition : {scope n m t w : _} → IsComposition scope n t w m → IsNet scope n t w m

    pub data IsComposition : Scope → ℕ → Tree → Net → ℕ → Type 0 where
      network : {scope n d x : _} → Means scope x (Entity.Definition d 0) → IsNetwork d → IsComposition scope n (tree.Name x) (net.Call d []) n
      network_call : {scope n m d f args es : _} → Means scope f (Entity.Definition d (length args)) → IsNetwork d → AreExprs scope n args es m →
          IsComposition scope n (tree.Call f args) (net.Call d es) m
      -- an `if` of which a part is a composition
      if_first : {scope n i j m c p q e v w : _} → IsExpr scope n c e i → IsComposition scope i p v j → IsNet scope j q w m →
          IsComposition scope n (tree.If c p q) (net.If e v w) m
      if_second : {scope n i j m c p q e r w : _} → IsExpr scope n c e i → IsProc scope i p r j → IsComposition scope j q w m →
          IsComposition scope n (tree.If c p q) (net.If e (net.Leaf r) w) m
      parallel : {scope n i j k m p a b q e f v w : _} → IsNet scope n p v i → IsExpr scope i a e j → IsExpr scope j b f k → IsNet scope k q w m →
          IsComposition scope n (tree.Parallel p a b q) (net.Pair v e f w) m
      each_parallel : {scope n i j m x s a p e f w : _} → MayBind x → IsExpr scope (n + 1) s e i → IsExpr (with scope x n) i a f j →
          IsNet (with scope x n) j p w m → IsComposition scope n (tree.EachParallel x s a p) (net.Each n e f w) m

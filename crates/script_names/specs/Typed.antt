-- Trees as expressions, processes and networks, once each of their names has its meaning. Bound names are numbered in the order of their binding
-- tokens: a tree whose first binding token has the number n binds the numbers from n on. A tree of which a name has no meaning at its place is
-- given some expression or process; no faultless script has one.
use Rattle.std.specs.Prelude.{◌+◌, ◌||◌, if◌then◌else◌, ◌∷◌}
use Rattle.script_names.specs.Sources.{ℕ, pos, Bool, true, false, Option, Some, None, List, [], fold-Tree, FieldTree-F, GenTree-F, Tree-F, EventTree-F, PartTree-F, Tree, EventPart, Expr, roll-EventPart, Gen, Net, Field, Proc, Entity, Kind, Head}
use Rattle.csp_program.specs.declared.expressions.Expr.TheVariants as expr
use Rattle.csp_program.specs.declared.expressions.Gen.TheVariants as generator
use Rattle.csp_program.specs.declared.networks.Net.TheVariants as net
use Rattle.csp_program.specs.declared.processes.Proc.TheVariants as proc
use Rattle.script_names.specs.Faults.{is_network}
use Rattle.script_names.specs.Names.{Name, Meanings, sense_in}
pub use Rattle.script_names.specs.Scopes.{Scope, names_of, number_of, or_else, with}

-- what is no expression, process or channel of a faultless script
abbrev pub no_expr : Expr
no_expr = expr.Num (pos 0)

abbrev pub channel_number : Option Entity → ℕ
channel_number (Some (Entity.Channel c n)) = c
channel_number _ = 0

abbrev pub definition_number : Option Entity → ℕ
definition_number (Some (Entity.Definition d n)) = d
definition_number _ = 0

-- a name by itself
abbrev pub named : Option ℕ → Option Entity → Expr
named (Some x) e = expr.Bound x
named None (Some (Entity.Channel c n)) = expr.Event c []
named None (Some (Entity.Constant k)) = expr.Const k
named None (Some (Entity.Definition d n)) = expr.Call d []
named None (Some (Entity.Set d)) = expr.SetName d
named None None = no_expr

abbrev pub head_of : Option ℕ → Option Entity → Head
head_of (Some x) e = Head.Bound x
head_of None e = Head.Channel (channel_number e)

-- a tree as an expression, as a process and as a network: under a scope, with the number of its first binding token
pub record Reading : Type 0 where
  -- how many binding tokens it has
  pub binds : ℕ
  pub expr : Scope → ℕ → Expr
  pub proc : Scope → ℕ → Proc
  pub net : Scope → ℕ → Net
  -- whether it holds, through the parts of `if`s, a parallel or the use of a network definition
  pub networked : Scope → Bool

-- a field or a generator, and the scope of those after it
pub record Binding (B : Type 0) : Type 0 where
  pub binds : ℕ
  pub here : Scope → ℕ → B
  pub after : Scope → ℕ → Scope

-- a channel with the fields after it
pub record Front (F : Type 0) : Type 0 where
  pub name : Name
  pub fields : List F

abbrev pub all_bind : List Reading → ℕ
all_bind [] = 0
all_bind (r ∷ rs) = r.binds + all_bind rs

-- a list of expressions, and one of processes
abbrev pub exprs : List Reading → Scope → ℕ → List Expr
exprs [] scope n = []
exprs (r ∷ rs) scope n = r.expr scope n ∷ exprs rs scope (n + r.binds)

abbrev pub procs : List Reading → Scope → ℕ → List Proc
procs [] scope n = []
procs (r ∷ rs) scope n = r.proc scope n ∷ procs rs scope (n + r.binds)

module _ {B : Type 0} where
  abbrev pub bindings_bind : List (Binding B) → ℕ
  bindings_bind [] = 0
  bindings_bind (b ∷ bs) = b.binds + bindings_bind bs

  -- a list of fields or of generators, and the scope of what stands under them
  abbrev pub bindings : List (Binding B) → Scope → ℕ → List B
  bindings [] scope n = []
  bindings (b ∷ bs) scope n = b.here scope n ∷ bindings bs (b.after scope n) (n + b.binds)

  abbrev pub under : List (Binding B) → Scope → ℕ → Scope
  under [] scope n = scope
  under (b ∷ bs) scope n = under bs (b.after scope n) (n + b.binds)

abbrev pub parts_bind : List (Front Reading) → ℕ
parts_bind [] = 0
parts_bind (part ∷ parts) = all_bind part.fields + parts_bind parts

abbrev pub pairs_bind : List (Front Reading × Front Reading) → ℕ
pairs_bind [] = 0
pairs_bind (pair ∷ pairs) = all_bind pair.0.fields + all_bind pair.1.fields + pairs_bind pairs

module _ (meanings : Meanings) (kinds : List Kind) where
  -- the front of an event
  abbrev pub part : Front Reading → Scope → ℕ → EventPart
  part front scope n = roll-EventPart (record { channel = channel_number (meanings front.name); fields = exprs front.fields scope n })

  abbrev pub parts : List (Front Reading) → Scope → ℕ → List EventPart
  parts [] scope n = []
  parts (f ∷ fs) scope n = part f scope n ∷ parts fs scope (n + all_bind f.fields)

  abbrev pub pairs : List (Front Reading × Front Reading) → Scope → ℕ → List (EventPart × EventPart)
  pairs [] scope n = []
  pairs (p ∷ ps) scope n =
      (part p.0 scope n, part p.1 scope (n + all_bind p.0.fields)) ∷ pairs ps scope (n + all_bind p.0.fields + all_bind p.1.fields)

  abbrev pub Layer : Type 0
  Layer = Tree-F (Binding Field) (Binding Gen) Reading (Front (Binding Field)) (Front Reading)

  abbrev pub binds_of_layer : Layer → ℕ
  binds_of_layer (Tree-F.Call f args) = all_bind args
  binds_of_layer (Tree-F.«Tree::Dot» c fields) = all_bind fields
  binds_of_layer (Tree-F.Neg a) = a.binds
  binds_of_layer (Tree-F.Not a) = a.binds
  binds_of_layer (Tree-F.Binary op a b) = a.binds + b.binds
  binds_of_layer (Tree-F.If c a b) = c.binds + a.binds + b.binds
  binds_of_layer (Tree-F.Display items) = all_bind items
  binds_of_layer (Tree-F.Range a b) = a.binds + b.binds
  binds_of_layer (Tree-F.Comp items gens) = all_bind items + bindings_bind gens
  binds_of_layer (Tree-F.Product fronts gens) = parts_bind fronts + bindings_bind gens
  binds_of_layer (Tree-F.SetOp op a b) = a.binds + b.binds
  binds_of_layer (Tree-F.Prefix event p) = bindings_bind event.fields + p.binds
  binds_of_layer (Tree-F.Guard c p) = c.binds + p.binds
  binds_of_layer (Tree-F.External ps) = all_bind ps
  binds_of_layer (Tree-F.Internal ps) = all_bind ps
  binds_of_layer (Tree-F.EachExternal x s p) = 1 + s.binds + p.binds
  binds_of_layer (Tree-F.EachInternal x s p) = 1 + s.binds + p.binds
  binds_of_layer (Tree-F.Parallel p a b q) = p.binds + a.binds + b.binds + q.binds
  binds_of_layer (Tree-F.EachParallel x s a p) = 1 + s.binds + a.binds + p.binds
  binds_of_layer (Tree-F.Seq p q) = p.binds + q.binds
  binds_of_layer (Tree-F.Hide p s) = p.binds + s.binds
  binds_of_layer (Tree-F.Rename p fronts gens) = p.binds + pairs_bind fronts + bindings_bind gens
  binds_of_layer _ = 0

  abbrev pub expr_of_layer : Layer → Scope → ℕ → Expr
  expr_of_layer (Tree-F.Num k) scope n = expr.Num (pos k)
  expr_of_layer Tree-F.True scope n = expr.Truth true
  expr_of_layer Tree-F.False scope n = expr.Truth false
  expr_of_layer (Tree-F.Name x) scope n = named (number_of scope x) (meanings x)
  expr_of_layer (Tree-F.Call f args) scope n = expr.Call (definition_number (meanings f)) (exprs args scope n)
  expr_of_layer (Tree-F.«Tree::Dot» c fields) scope n = expr.Event (channel_number (meanings c)) (exprs fields scope n)
  expr_of_layer (Tree-F.Neg a) scope n = expr.Neg (a.expr scope n)
  expr_of_layer (Tree-F.Not a) scope n = expr.Not (a.expr scope n)
  expr_of_layer (Tree-F.Binary op a b) scope n = expr.Binary op (a.expr scope n) (b.expr scope (n + a.binds))
  expr_of_layer (Tree-F.If c a b) scope n = expr.If (c.expr scope n) (a.expr scope (n + c.binds)) (b.expr scope (n + c.binds + a.binds))
  expr_of_layer (Tree-F.Display items) scope n = expr.Display (exprs items scope n)
  expr_of_layer (Tree-F.Range a b) scope n = expr.Range (a.expr scope n) (b.expr scope (n + a.binds))
  expr_of_layer (Tree-F.Comp items gens) scope n =
      expr.Comp (exprs items (under gens scope (n + all_bind items)) n) (bindings gens scope (n + all_bind items))
  expr_of_layer (Tree-F.Product fronts gens) scope n =
      expr.Product (parts fronts (under gens scope (n + parts_bind fronts)) n) (bindings gens scope (n + parts_bind fronts))
  expr_of_layer (Tree-F.SetOp op a b) scope n = expr.SetOp op (a.expr scope n) (b.expr scope (n + a.binds))
  expr_of_layer _ scope n = no_expr

  abbrev pub proc_of_layer : Layer → Scope → ℕ → Proc
  proc_of_layer Tree-F.Stop scope n = proc.Stop
  proc_of_layer Tree-F.Skip scope n = proc.Skip
  proc_of_layer (Tree-F.Name x) scope n = proc.Call (definition_number (meanings x)) []
  proc_of_layer (Tree-F.Call f args) scope n = proc.Call (definition_number (meanings f)) (exprs args scope n)
  proc_of_layer (Tree-F.If c p q) scope n = proc.If (c.expr scope n) (p.proc scope (n + c.binds)) (q.proc scope (n + c.binds + p.binds))
  proc_of_layer (Tree-F.Prefix event p) scope n =
      proc.Prefix (head_of (number_of scope event.name) (meanings event.name)) (bindings event.fields scope n)
      (p.proc (under event.fields scope n) (n + bindings_bind event.fields))
  proc_of_layer (Tree-F.Guard c p) scope n = proc.Guard (c.expr scope n) (p.proc scope (n + c.binds))
  proc_of_layer (Tree-F.External ps) scope n = proc.External (procs ps scope n)
  proc_of_layer (Tree-F.Internal ps) scope n = proc.Internal (procs ps scope n)
  proc_of_layer (Tree-F.EachExternal x s p) scope n = proc.EachExternal n (s.expr scope (n + 1)) (p.proc (with scope x n) (n + 1 + s.binds))
  proc_of_layer (Tree-F.EachInternal x s p) scope n = proc.EachInternal n (s.expr scope (n + 1)) (p.proc (with scope x n) (n + 1 + s.binds))
  proc_of_layer (Tree-F.Seq p q) scope n = proc.Seq (p.proc scope n) (q.proc scope (n + p.binds))
  proc_of_layer (Tree-F.Hide p s) scope n = proc.Hide (p.proc scope n) (s.expr scope (n + p.binds))
  proc_of_layer (Tree-F.Rename p fronts gens) scope n =
      proc.Rename (p.proc scope n) (pairs fronts (under gens scope (n + p.binds + pairs_bind fronts)) (n + p.binds))
      (bindings gens scope (n + p.binds + pairs_bind fronts))
  proc_of_layer _ scope n = proc.Stop

  abbrev pub networked_of_layer : Layer → Scope → Bool
  networked_of_layer (Tree-F.Name x) scope = is_network kinds (sense_in meanings (names_of scope) x)
  networked_of_layer (Tree-F.Call f args) scope = is_network kinds (sense_in meanings (names_of scope) f)
  networked_of_layer (Tree-F.If c p q) scope = p.networked scope || q.networked scope
  networked_of_layer (Tree-F.Parallel p a b q) scope = true
  networked_of_layer (Tree-F.EachParallel x s a p) scope = true
  networked_of_layer _ scope = false

  -- a network that holds no parallel is a leaf
  abbrev pub network_of_layer : Layer → Scope → ℕ → Net
  network_of_layer (Tree-F.Name x) scope n = net.Call (definition_number (meanings x)) []
  network_of_layer (Tree-F.Call f args) scope n = net.Call (definition_number (meanings f)) (exprs args scope n)
  network_of_layer (Tree-F.If c p q) scope n = net.If (c.expr scope n) (p.net scope (n + c.binds)) (q.net scope (n + c.binds + p.binds))
  network_of_layer (Tree-F.Parallel p a b q) scope n =
      net.Pair (p.net scope n) (a.expr scope (n + p.binds)) (b.expr scope (n + p.binds + a.binds)) (q.net scope (n + p.binds + a.binds + b.binds))
  network_of_layer (Tree-F.EachParallel x s a p) scope n =
      net.Each n (s.expr scope (n + 1)) (a.expr (with scope x n) (n + 1 + s.binds)) (p.net (with scope x n) (n + 1 + s.binds + a.binds))
  network_of_layer t scope n = net.Leaf (proc_of_layer t scope n)

  abbrev pub net_of_layer : Layer → Scope → ℕ → Net
  net_of_layer t scope n = if networked_of_layer t scope then network_of_layer t scope n else net.Leaf (proc_of_layer t scope n)

  abbrev pub reading_of_layer : Layer → Reading
  reading_of_layer t = record {
    binds = binds_of_layer t;
    expr = expr_of_layer t;
    proc = proc_of_layer t;
    net = net_of_layer t;
    networked = networked_of_layer t;
  }

  abbrev pub put : Reading → Binding Field
  put a = record { binds = a.binds; here = λ scope n. Field.Put (a.expr scope n); after = λ scope n. scope }

  abbrev pub field_of_layer : FieldTree-F (Binding Field) (Binding Gen) Reading (Front (Binding Field)) (Front Reading) → Binding Field
  field_of_layer (FieldTree-F.«FieldTree::Dot» a) = put a
  field_of_layer (FieldTree-F.Output a) = put a
  field_of_layer (FieldTree-F.Input x None) = record { binds = 1; here = λ scope n. Field.Get n None; after = λ scope n. with scope x n }
  field_of_layer (FieldTree-F.Input x (Some s)) =
      record { binds = 1 + s.binds; here = λ scope n. Field.Get n (Some (s.expr scope (n + 1))); after = λ scope n. with scope x n }

  abbrev pub gen_of_layer : GenTree-F (Binding Field) (Binding Gen) Reading (Front (Binding Field)) (Front Reading) → Binding Gen
  gen_of_layer (GenTree-F.From x s) =
      record { binds = 1 + s.binds; here = λ scope n. generator.From n (s.expr scope (n + 1)); after = λ scope n. with scope x n }
  gen_of_layer (GenTree-F.Cond c) = record { binds = c.binds; here = λ scope n. generator.Cond (c.expr scope n); after = λ scope n. scope }

  abbrev pub event_of_layer : EventTree-F (Binding Field) (Binding Gen) Reading (Front (Binding Field)) (Front Reading) → Front (Binding Field)
  event_of_layer event = record { name = event.name; fields = event.fields }

  abbrev pub part_of_layer : PartTree-F (Binding Field) (Binding Gen) Reading (Front (Binding Field)) (Front Reading) → Front Reading
  part_of_layer p = record { name = p.name; fields = p.fields }

  abbrev pub reading : Tree → Reading
  reading = fold-Tree (Binding Field) (Binding Gen) Reading (Front (Binding Field)) (Front Reading)
      field_of_layer gen_of_layer reading_of_layer event_of_layer part_of_layer

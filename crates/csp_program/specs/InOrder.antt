-- What it means that a program is in order: every number in it is in range; each use has the class and the number of arguments or fields that its
-- declaration asks; sets rise and are of one kind; each body is closed but for its parameters; within a definition no number is bound twice; no
-- definition of data reaches itself; and the event table is that of the channels, each of which keeps the number of its first event, or empty while
-- no channel has its field sets.
use Rattle.std.specs.Prelude.{◌≡◌, ◌⊎◌, ℕ, ◌-◌, ◌<◌, ◌^◌, Bool, true, false, ◌&&◌, nat_eq, nat_lt, nat_le, is_none, is_some, IsTrue, Option, Some, None, List, [], ◌∷◌, map, length, slice_get}
use Rattle.csp_atoms.specs.Prelude.{is_set}
use Rattle.csp_atoms.specs.declared.atom.Atom.{Atom}
use Rattle.csp_atoms.specs.declared.value.Value.{Value}
use Rattle.csp_atoms.specs.declared.value.Value.TheVariants.{One, Many}
use Rattle.csp_program.specs.Bound.{def_bound, exprs_bound, net_bound}
use Rattle.csp_program.specs.EventNumber.{KeepFirsts}
use Rattle.csp_program.specs.EventTable.{event_table}
use Rattle.csp_program.specs.Free.{Names, IsClosed, expr_free, proc_free, net_free}
use Rattle.csp_program.specs.Lists.{all_true}
use Rattle.csp_program.specs.Uses.{Reaches}
use Rattle.csp_atoms.specs.declared.atom.Atom.TheVariants as atom
use Rattle.csp_program.specs.declared.expressions.Expr.{Expr, fold-Expr}
use Rattle.csp_program.specs.declared.expressions.Expr.TheFolds.{fold-Gen, fold-EventPart}
use Rattle.csp_program.specs.declared.expressions.Expr.TheOpen.{Expr-F, Gen-F, EventPart-F}
use Rattle.csp_program.specs.declared.expressions.EventPart.{EventPart, out-EventPart}
use Rattle.csp_program.specs.declared.expressions.Gen.{Gen}
use Rattle.csp_program.specs.declared.networks.Net.{Net, fold-Net}
use Rattle.csp_program.specs.declared.networks.Net.TheOpen.{Net-F}
use Rattle.csp_program.specs.declared.processes.Field.{Field}
use Rattle.csp_program.specs.declared.processes.Field.TheVariants as field
use Rattle.csp_program.specs.declared.processes.Head.{Head}
use Rattle.csp_program.specs.declared.processes.Head.TheVariants as head
use Rattle.csp_program.specs.declared.processes.Proc.{Proc, fold-Proc}
use Rattle.csp_program.specs.declared.processes.Proc.TheOpen.{Proc-F}
use Rattle.csp_program.specs.declared.programs.Body.{Body}
use Rattle.csp_program.specs.declared.programs.Body.TheVariants as body
use Rattle.csp_program.specs.declared.programs.Channel.{Channel}
use Rattle.csp_program.specs.declared.programs.Content.{Content}
use Rattle.csp_program.specs.declared.programs.Def.{Def}
use Rattle.csp_program.specs.declared.programs.ResourceNote.{ResourceNote}
use Rattle.csp_program.specs.declared.programs.RolesNote.{RolesNote}
use Rattle.csp_base.specs.Prelude.{EachOnce, has}

-- The classes of definitions.
abbrev pub is_datum : Body → Bool
is_datum (body.Datum e) = true
is_datum _ = false

abbrev pub is_set_name : Body → Bool
is_set_name (body.Nametype e) = true
is_set_name (body.Datatype ks) = true
is_set_name _ = false

abbrev pub is_process : Body → Bool
is_process (body.Process p) = true
is_process _ = false

abbrev pub is_network : Body → Bool
is_network (body.Network n) = true
is_network _ = false

-- a process that may be annotated: a network counts as one
abbrev pub is_component : Body → Bool
is_component (body.Process p) = true
is_component (body.Network n) = true
is_component _ = false

-- whether there is a definition, of this class and with this number of parameters
abbrev pub takes : (Body → Bool) → ℕ → Option Def → Bool
takes of_class count None = false
takes of_class count (Some def) = of_class def.body && nat_eq (length def.params) count

-- the number of parameters of a definition
abbrev pub param_count : Option Def → ℕ
param_count None = 0
param_count (Some def) = length def.params

-- whether there is a channel, and its number of fields passes the test
abbrev pub with_fields : (ℕ → Bool) → Option Channel → Bool
with_fields test None = false
with_fields test (Some channel) = test (length channel.types)

-- the number of fields of a channel
abbrev pub field_count : Option Channel → ℕ
field_count None = 0
field_count (Some channel) = length channel.types

module _ (p : Content) where
  abbrev pub atom_in_order : Atom → Bool
  atom_in_order (atom.Num n) = true
  atom_in_order (atom.Truth b) = true
  atom_in_order (atom.Const k) = nat_lt k (length p.consts)
  atom_in_order (atom.Event e) = nat_lt e (length p.events)

  abbrev pub value_in_order : Value → Bool
  value_in_order (One a) = atom_in_order a
  value_in_order (Many atoms) = all_true (map atom_in_order atoms) && is_set atoms

  abbrev pub expr_in_order_of_layer : Expr-F Bool Bool Bool → Bool
  expr_in_order_of_layer (Expr-F.Num n) = true
  expr_in_order_of_layer (Expr-F.Truth b) = true
  expr_in_order_of_layer (Expr-F.Const k) = nat_lt k (length p.consts)
  expr_in_order_of_layer (Expr-F.Bound x) = true
  expr_in_order_of_layer (Expr-F.Lit v) = value_in_order v
  expr_in_order_of_layer (Expr-F.Neg a) = a
  expr_in_order_of_layer (Expr-F.Not a) = a
  expr_in_order_of_layer (Expr-F.Binary op a b) = a && b
  expr_in_order_of_layer (Expr-F.If c a b) = c && (a && b)
  expr_in_order_of_layer (Expr-F.Call d args) = takes is_datum (length args) (slice_get p.defs d) && all_true args
  expr_in_order_of_layer (Expr-F.SetName d) = takes is_set_name 0 (slice_get p.defs d)
  expr_in_order_of_layer (Expr-F.Event c fields) = with_fields (λ n. nat_eq n (length fields)) (slice_get p.channels c) && all_true fields
  expr_in_order_of_layer (Expr-F.Display items) = all_true items
  expr_in_order_of_layer (Expr-F.Range a b) = a && b
  expr_in_order_of_layer (Expr-F.Comp items gens) = all_true items && all_true gens
  expr_in_order_of_layer (Expr-F.Product parts gens) = all_true parts && all_true gens
  expr_in_order_of_layer (Expr-F.SetOp op a b) = a && b

  abbrev pub gen_in_order_of_layer : Gen-F Bool Bool Bool → Bool
  gen_in_order_of_layer (Gen-F.From x s) = s
  gen_in_order_of_layer (Gen-F.Cond c) = c

  abbrev pub part_in_order_of_layer : EventPart-F Bool Bool Bool → Bool
  part_in_order_of_layer part = with_fields (nat_le (length part.fields)) (slice_get p.channels part.channel) && all_true part.fields

  abbrev pub expr_in_order : Expr → Bool
  expr_in_order = fold-Expr Bool Bool Bool expr_in_order_of_layer gen_in_order_of_layer part_in_order_of_layer

  abbrev pub gen_in_order : Gen → Bool
  gen_in_order = fold-Gen Bool Bool Bool expr_in_order_of_layer gen_in_order_of_layer part_in_order_of_layer

  abbrev pub part_in_order : EventPart → Bool
  part_in_order = fold-EventPart Bool Bool Bool expr_in_order_of_layer gen_in_order_of_layer part_in_order_of_layer

  -- a channel has all of its fields beside it, and a name or a value has none
  abbrev pub head_in_order : Head → ℕ → Bool
  head_in_order (head.Channel c) count = with_fields (λ n. nat_eq n count) (slice_get p.channels c)
  head_in_order (head.Bound x) count = nat_eq count 0
  head_in_order (head.Put v) count = nat_eq count 0 && value_in_order v

  abbrev pub field_in_order : Field → Bool
  field_in_order (field.Put e) = expr_in_order e
  field_in_order (field.Get x None) = true
  field_in_order (field.Get x (Some s)) = expr_in_order s

  -- how many fields an event that begins with the part has after it
  abbrev pub fields_left : EventPart → ℕ
  fields_left part = field_count (slice_get p.channels (out-EventPart part).channel) - length (out-EventPart part).fields

  -- the two sides of a renaming leave the same number of fields
  abbrev pub pair_in_order : EventPart × EventPart → Bool
  pair_in_order pair = part_in_order pair.0 && (part_in_order pair.1 && nat_eq (fields_left pair.0) (fields_left pair.1))

  abbrev pub proc_in_order_of_layer : Proc-F Bool → Bool
  proc_in_order_of_layer Proc-F.Stop = true
  proc_in_order_of_layer (Proc-F.Prefix h fields q) = head_in_order h (length fields) && (all_true (map field_in_order fields) && q)
  proc_in_order_of_layer (Proc-F.Guard c q) = expr_in_order c && q
  proc_in_order_of_layer (Proc-F.If c q r) = expr_in_order c && (q && r)
  proc_in_order_of_layer (Proc-F.External qs) = all_true qs
  proc_in_order_of_layer (Proc-F.Internal qs) = all_true qs
  proc_in_order_of_layer (Proc-F.EachExternal x s q) = expr_in_order s && q
  proc_in_order_of_layer (Proc-F.EachInternal x s q) = expr_in_order s && q
  proc_in_order_of_layer (Proc-F.Hide q s) = q && expr_in_order s
  proc_in_order_of_layer (Proc-F.Rename q pairs gens) = q && (all_true (map pair_in_order pairs) && all_true (map gen_in_order gens))
  proc_in_order_of_layer (Proc-F.Call d args) = takes is_process (length args) (slice_get p.defs d) && all_true (map expr_in_order args)
  proc_in_order_of_layer Proc-F.Skip = true
  proc_in_order_of_layer (Proc-F.Seq q r) = q && r
  proc_in_order_of_layer Proc-F.Ended = true

  abbrev pub proc_in_order : Proc → Bool
  proc_in_order = fold-Proc Bool proc_in_order_of_layer

  abbrev pub net_in_order_of_layer : Net-F Bool → Bool
  net_in_order_of_layer (Net-F.Leaf q) = proc_in_order q
  net_in_order_of_layer (Net-F.Call d args) = takes is_network (length args) (slice_get p.defs d) && all_true (map expr_in_order args)
  net_in_order_of_layer (Net-F.If c n m) = expr_in_order c && (n && m)
  net_in_order_of_layer (Net-F.Pair n a b m) = n && (expr_in_order a && (expr_in_order b && m))
  net_in_order_of_layer (Net-F.Each x s a n) = expr_in_order s && (expr_in_order a && n)

  abbrev pub net_in_order : Net → Bool
  net_in_order = fold-Net Bool net_in_order_of_layer

  -- a nametype and a datatype have no parameters
  abbrev pub body_in_order : List ℕ → Body → Bool
  body_in_order params (body.Datum e) = expr_in_order e
  body_in_order params (body.Nametype e) = nat_eq (length params) 0 && expr_in_order e
  body_in_order params (body.Datatype ks) = nat_eq (length params) 0 && all_true (map (λ k. nat_lt k (length p.consts)) ks)
  body_in_order params (body.Process q) = proc_in_order q
  body_in_order params (body.Network n) = net_in_order n

  abbrev pub def_in_order : Def → Bool
  def_in_order def = body_in_order def.params def.body

  -- the values of a field are numbers or constants
  abbrev pub is_field_value : Atom → Bool
  is_field_value (atom.Num n) = true
  is_field_value (atom.Truth b) = false
  is_field_value (atom.Const k) = nat_lt k (length p.consts)
  is_field_value (atom.Event e) = false

  abbrev pub set_in_order : List Atom → Bool
  set_in_order atoms = all_true (map is_field_value atoms) && is_set atoms

  -- a channel has a set for each of its fields, or no sets yet
  abbrev pub sets_in_order : ℕ → Option (List (List Atom)) → Bool
  sets_in_order count None = true
  sets_in_order count (Some sets) = nat_eq (length sets) count && all_true (map set_in_order sets)

  abbrev pub channel_in_order : Channel → Bool
  channel_in_order channel = all_true (map expr_in_order channel.types) && sets_in_order (length channel.types) channel.fields

  -- an annotated set has the parameters of the process
  abbrev pub set_fits : ℕ → ℕ → Bool
  set_fits process set = takes is_datum (param_count (slice_get p.defs process)) (slice_get p.defs set)

  abbrev pub note_fits : ℕ → Bool
  note_fits process = takes is_component (param_count (slice_get p.defs process)) (slice_get p.defs process)

  abbrev pub roles_in_order : RolesNote → Bool
  roles_in_order note = note_fits note.process &&
      (set_fits note.process note.creq && (set_fits note.process note.cack && (set_fits note.process note.sreq && set_fits note.process note.sack)))

  abbrev pub resource_in_order : ResourceNote → Bool
  resource_in_order note = note_fits note.process && (set_fits note.process note.acquire && set_fits note.process note.release)

-- the names that are free in a body
abbrev pub body_free : Body → Names
body_free (body.Datum e) = expr_free e
body_free (body.Nametype e) = expr_free e
body_free (body.Datatype ks) = λ x. false
body_free (body.Process q) = proc_free q
body_free (body.Network n) = net_free n

-- no name is free in the body but the parameters
abbrev pub IsClosedBody : Def → Type 0
IsClosedBody def = (x : ℕ) → IsTrue (body_free def.body x) → IsTrue (has def.params x)

abbrev pub AllClosed : List Expr → Type 0
AllClosed [] = Unit {0}
AllClosed (e ∷ es) = IsClosed (expr_free e) × AllClosed es

abbrev pub AllClosedBodies : List Def → Type 0
AllClosedBodies [] = Unit {0}
AllClosedBodies (def ∷ defs) = IsClosedBody def × AllClosedBodies defs

abbrev pub AllClosedTypes : List Channel → Type 0
AllClosedTypes [] = Unit {0}
AllClosedTypes (channel ∷ channels) = AllClosed channel.types × AllClosedTypes channels

abbrev pub has_sets : Channel → Bool
has_sets channel = is_some channel.fields

abbrev pub lacks_sets : Channel → Bool
lacks_sets channel = is_none channel.fields

-- the event table is that of the channels, or empty while none of them has its field sets
abbrev pub IsEventTable : Content → Type 0
IsEventTable p =
    (IsTrue (all_true (map has_sets p.channels)) × (p.events ≡ event_table p.channels)) ⊎
    (IsTrue (all_true (map lacks_sets p.channels)) × (p.events ≡ []))

pub record IsInOrder (p : Content) : Type 0 where
  -- each list is numbered by 32 bits
  pub few_events : length p.events < 2 ^ 32
  pub few_channels : length p.channels < 2 ^ 32
  pub few_consts : length p.consts < 2 ^ 32
  pub few_defs : length p.defs < 2 ^ 32
  -- numbers are in range, and uses have their class and their number of arguments or fields
  pub channels_used : IsTrue (all_true (map (channel_in_order p) p.channels))
  pub defs_used : IsTrue (all_true (map (def_in_order p) p.defs))
  pub roles_used : IsTrue (all_true (map (roles_in_order p) p.roles))
  pub resources_used : IsTrue (all_true (map (resource_in_order p) p.resources))
  pub root_used : IsTrue (net_in_order p p.root)
  -- bodies are closed but for their parameters
  pub closed_types : AllClosedTypes p.channels
  pub closed_bodies : AllClosedBodies p.defs
  pub closed_root : IsClosed (net_free p.root)
  -- Within a definition, in the root and in the types of a channel no number is bound twice, so that no bound name hides another. What puts an
  -- expression with free names into a body would have to number them anew, lest one be captured; what is put in here are values, which have none.
  pub bound_once : (d : ℕ) (def : Def) → slice_get p.defs d ≡ Some def → EachOnce (def_bound def)
  pub root_bound_once : EachOnce (net_bound p.root)
  pub types_bound_once : (c : ℕ) (channel : Channel) → slice_get p.channels c ≡ Some channel → EachOnce (exprs_bound channel.types)
  -- no definition of data reaches itself
  pub no_circle : (n : ℕ) → Reaches p.defs n n → ⊥
  -- events are numbered by their places
  pub table : IsEventTable p
  pub firsts : KeepFirsts p.channels

-- How a pool keeps nodes: as entries, whose own parts are numbers in stores.
use Rattle.std.specs.Prelude.{ℕ, ◌<◌, List, [], length, map, slice_index_or}
use Rattle.csp_program.specs.declared.expressions.EventPart.{EventPart}
use Rattle.csp_program.specs.declared.expressions.Expr.{Expr}
use Rattle.csp_program.specs.declared.expressions.Gen.{Gen}
use Rattle.csp_program.specs.declared.processes.Field.{Field}
use Rattle.csp_program.specs.declared.processes.Head.{Head}
use Rattle.csp_program.specs.declared.processes.Proc.TheOpen.{Proc-F}
use Rattle.csp_program.specs.declared.expressions.Expr.TheVariants as expr
use Rattle.csp_program.specs.declared.processes.Head.TheVariants as head
use Rattle.term_pool.specs.Layers.{Layer}
use Rattle.pool_parts.specs.Prelude.{IsStart}
use Rattle.pool_parts.specs.declared.place.ProcId.{ProcId}
use Rattle.term_pool.specs.declared.entry.Entry.{Entry}
use Rattle.term_pool.specs.declared.entry.Entry.TheVariants as entry
use Rattle.term_pool.specs.declared.own_parts.OwnParts.{OwnParts}
use Rattle.csp_base.specs.Lists.{EachOnce, StandsIn}

-- the part with a number, where there is one
abbrev pub head_at : OwnParts → ℕ → Head
head_at parts k = slice_index_or parts.heads k (head.Channel 0)

abbrev pub fields_at : OwnParts → ℕ → List Field
fields_at parts k = slice_index_or parts.fields k []

abbrev pub expr_at : OwnParts → ℕ → Expr
expr_at parts k = slice_index_or parts.exprs k (expr.Const 0)

abbrev pub arguments_at : OwnParts → ℕ → List Expr
arguments_at parts k = slice_index_or parts.arguments k []

abbrev pub pairs_at : OwnParts → ℕ → List (EventPart × EventPart)
pairs_at parts k = slice_index_or parts.pairs k []

abbrev pub gens_at : OwnParts → ℕ → List Gen
gens_at parts k = slice_index_or parts.gens k []

abbrev pub choice_at : OwnParts → ℕ → List ProcId
choice_at parts k = slice_index_or parts.choices k []

-- the layer that an entry stands for
abbrev pub entry_layer : OwnParts → Entry → Layer
entry_layer parts entry.Stop = Proc-F.Stop
entry_layer parts (entry.Prefix h f p) = Proc-F.Prefix (head_at parts h) (fields_at parts f) p
entry_layer parts (entry.Guard c p) = Proc-F.Guard (expr_at parts c) p
entry_layer parts (entry.If c p q) = Proc-F.If (expr_at parts c) p q
entry_layer parts (entry.External ps) = Proc-F.External (choice_at parts ps)
entry_layer parts (entry.Internal ps) = Proc-F.Internal (choice_at parts ps)
entry_layer parts (entry.EachExternal x s p) = Proc-F.EachExternal x (expr_at parts s) p
entry_layer parts (entry.EachInternal x s p) = Proc-F.EachInternal x (expr_at parts s) p
entry_layer parts (entry.Hide p s) = Proc-F.Hide p (expr_at parts s)
entry_layer parts (entry.Rename p pairs gens) = Proc-F.Rename p (pairs_at parts pairs) (gens_at parts gens)
entry_layer parts (entry.Call d args) = Proc-F.Call d (arguments_at parts args)
entry_layer parts entry.Skip = Proc-F.Skip
entry_layer parts (entry.Seq p q) = Proc-F.Seq p q
entry_layer parts entry.Ended = Proc-F.Ended

abbrev pub layers : OwnParts → List Entry → List Layer
layers parts entries = map (entry_layer parts) entries

-- whether the numbers of an entry are those of parts that are there
abbrev pub Fits : OwnParts → Entry → Type 0
Fits parts (entry.Prefix h f p) = (h < length parts.heads) × (f < length parts.fields)
Fits parts (entry.Guard c p) = c < length parts.exprs
Fits parts (entry.If c p q) = c < length parts.exprs
Fits parts (entry.External ps) = ps < length parts.choices
Fits parts (entry.Internal ps) = ps < length parts.choices
Fits parts (entry.EachExternal x s p) = s < length parts.exprs
Fits parts (entry.EachInternal x s p) = s < length parts.exprs
Fits parts (entry.Hide p s) = s < length parts.exprs
Fits parts (entry.Rename p pairs gens) = (pairs < length parts.pairs) × (gens < length parts.gens)
Fits parts (entry.Call d args) = args < length parts.arguments
Fits parts other = Unit {0}

-- the own parts of a layer are kept
abbrev pub HasParts : OwnParts → Layer → Type 0
HasParts parts (Proc-F.Prefix h fields p) = StandsIn parts.heads h × StandsIn parts.fields fields
HasParts parts (Proc-F.Guard c p) = StandsIn parts.exprs c
HasParts parts (Proc-F.If c p q) = StandsIn parts.exprs c
HasParts parts (Proc-F.External ps) = StandsIn parts.choices ps
HasParts parts (Proc-F.Internal ps) = StandsIn parts.choices ps
HasParts parts (Proc-F.EachExternal x s p) = StandsIn parts.exprs s
HasParts parts (Proc-F.EachInternal x s p) = StandsIn parts.exprs s
HasParts parts (Proc-F.Hide p s) = StandsIn parts.exprs s
HasParts parts (Proc-F.Rename p pairs gens) = StandsIn parts.pairs pairs × StandsIn parts.gens gens
HasParts parts (Proc-F.Call d args) = StandsIn parts.arguments args
HasParts parts other = Unit {0}

-- each part stands once
pub record ArePartsOnce (parts : OwnParts) : Type 0 where
  pub heads : EachOnce parts.heads
  pub fields : EachOnce parts.fields
  pub exprs : EachOnce parts.exprs
  pub arguments : EachOnce parts.arguments
  pub pairs : EachOnce parts.pairs
  pub gens : EachOnce parts.gens
  pub choices : EachOnce parts.choices

-- each part keeps its number
pub record PartsStart (old : OwnParts) (new : OwnParts) : Type 0 where
  pub heads : IsStart old.heads new.heads
  pub fields : IsStart old.fields new.fields
  pub exprs : IsStart old.exprs new.exprs
  pub arguments : IsStart old.arguments new.arguments
  pub pairs : IsStart old.pairs new.pairs
  pub gens : IsStart old.gens new.gens
  pub choices : IsStart old.choices new.choices

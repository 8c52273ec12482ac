-- What trees and their parts are where a walk stands, and where it stands behind them, in words that proofs keep
-- closed: Typed.antt says the same by one fold. Lists are taken from the left. This serves the contracts of private
-- functions.
use Rattle.std.specs.Prelude.{◌+◌, ◌∷◌, ℕ, Bool, Option, Some, None, List, []}
use Rattle.csp_text.specs.declared.tree.Tree.{Tree}
use Rattle.script_names.specs.Prelude.{is_network, Entities, Name, first_of, sense_in, Binding, Front, Reading, Scope, field_of_layer, gen_of_layer, reading_of_layer, event_of_layer, names_of, part_of_layer, with}
use Rattle.script_names.specs.declared.kinds.Kind.{Kind}
use Rattle.csp_text.specs.declared.tree.FieldTree.{FieldTree, fold-FieldTree}
use Rattle.csp_text.specs.declared.tree.FieldTree.TheFolds.{fold-GenTree, fold-PartTree}
use Rattle.csp_text.specs.declared.tree.GenTree.{GenTree}
use Rattle.csp_text.specs.declared.tree.PartTree.{PartTree}
use Rattle.csp_program.specs.declared.expressions.EventPart.{EventPart}
use Rattle.csp_program.specs.declared.expressions.Expr.{Expr}
use Rattle.csp_program.specs.declared.expressions.Gen.{Gen}
use Rattle.csp_program.specs.declared.networks.Net.{Net}
use Rattle.csp_program.specs.declared.processes.Field.{Field}
use Rattle.csp_program.specs.declared.processes.Proc.{Proc}
use Rattle.script_names.specs.Typed as typed
use Rattle.script_sizes.specs.BindingTokens.{tokens, field_tokens, fields_tokens, gen_tokens, gens_tokens, pairs_tokens, part_tokens}
use Rattle.typed_trees.specs.Walked.{Walked, past, read_at}

module _ (es : Entities) (ks : List Kind) where
  abbrev pub field_read : FieldTree → Binding Field
  field_read = fold-FieldTree (Binding Field) (Binding Gen) Reading (Front (Binding Field)) (Front Reading)
      (field_of_layer (first_of es) ks) (gen_of_layer (first_of es) ks) (reading_of_layer (first_of es) ks) (event_of_layer (first_of es) ks) (part_of_layer (first_of es) ks)

  abbrev pub gen_read : GenTree → Binding Gen
  gen_read = fold-GenTree (Binding Field) (Binding Gen) Reading (Front (Binding Field)) (Front Reading)
      (field_of_layer (first_of es) ks) (gen_of_layer (first_of es) ks) (reading_of_layer (first_of es) ks) (event_of_layer (first_of es) ks) (part_of_layer (first_of es) ks)

  abbrev pub part_read : PartTree → Front Reading
  part_read = fold-PartTree (Binding Field) (Binding Gen) Reading (Front (Binding Field)) (Front Reading)
      (field_of_layer (first_of es) ks) (gen_of_layer (first_of es) ks) (reading_of_layer (first_of es) ks) (event_of_layer (first_of es) ks) (part_of_layer (first_of es) ks)

unfoldable pub expr_at : Walked → Tree → Expr
expr_at w t = (read_at w t).expr w.scope w.next

unfoldable pub proc_at : Walked → Tree → Proc
proc_at w t = (read_at w t).proc w.scope w.next

unfoldable pub net_at : Walked → Tree → Net
net_at w t = (read_at w t).net w.scope w.next

unfoldable pub networked_at : Walked → Tree → Bool
networked_at w t = (read_at w t).networked w.scope

unfoldable pub part_at : Walked → PartTree → EventPart
part_at w p = typed.part (first_of w.names) w.kinds (part_read w.names w.kinds p) w.scope w.next

unfoldable pub field_at : Walked → FieldTree → Field
field_at w f = (field_read w.names w.kinds f).here w.scope w.next

unfoldable pub field_scope : Walked → FieldTree → Scope
field_scope w f = (field_read w.names w.kinds f).after w.scope w.next

unfoldable pub gen_at : Walked → GenTree → Gen
gen_at w g = (gen_read w.names w.kinds g).here w.scope w.next

unfoldable pub gen_scope : Walked → GenTree → Scope
gen_scope w g = (gen_read w.names w.kinds g).after w.scope w.next

-- behind a field, and behind a generator
abbrev pub after_field : Walked → FieldTree → Walked
after_field w f = record w { scope = field_scope w f; next = w.next + field_tokens f }

abbrev pub after_gen : Walked → GenTree → Walked
after_gen w g = record w { scope = gen_scope w g; next = w.next + gen_tokens g }

-- with the name bound that has the next number
abbrev pub bound : Walked → Name → Walked
bound w x = record w { scope = with w.scope x w.next; next = w.next + 1 }

-- the set of a field, where it has one
abbrev pub set_at : Walked → Option Tree → Option Expr
set_at w None = None
set_at w (Some t) = Some (expr_at w t)

-- lists
abbrev pub exprs_at : Walked → List Tree → List Expr
exprs_at w [] = []
exprs_at w (t ∷ ts) = expr_at w t ∷ exprs_at (past w (tokens t)) ts

abbrev pub procs_at : Walked → List Tree → List Proc
procs_at w [] = []
procs_at w (t ∷ ts) = proc_at w t ∷ procs_at (past w (tokens t)) ts

abbrev pub parts_at : Walked → List PartTree → List EventPart
parts_at w [] = []
parts_at w (p ∷ ps) = part_at w p ∷ parts_at (past w (part_tokens p)) ps

abbrev pub pairs_at : Walked → List (PartTree × PartTree) → List (EventPart × EventPart)
pairs_at w [] = []
pairs_at w (p ∷ ps) =
    (part_at w p.0, part_at (past w (part_tokens p.0)) p.1)
    ∷ pairs_at (past (past w (part_tokens p.0)) (part_tokens p.1)) ps

abbrev pub fields_at : Walked → List FieldTree → List Field
fields_at w [] = []
fields_at w (f ∷ fs) = field_at w f ∷ fields_at (after_field w f) fs

abbrev pub fields_scope : Walked → List FieldTree → Scope
fields_scope w [] = w.scope
fields_scope w (f ∷ fs) = fields_scope (after_field w f) fs

abbrev pub after_fields : Walked → List FieldTree → Walked
after_fields w fs = record w { scope = fields_scope w fs; next = w.next + fields_tokens fs }

abbrev pub gens_at : Walked → List GenTree → List Gen
gens_at w [] = []
gens_at w (g ∷ gs) = gen_at w g ∷ gens_at (after_gen w g) gs

abbrev pub gens_scope : Walked → List GenTree → Scope
gens_scope w [] = w.scope
gens_scope w (g ∷ gs) = gens_scope (after_gen w g) gs

abbrev pub after_gens : Walked → List GenTree → Walked
after_gens w gs = record w { scope = gens_scope w gs; next = w.next + gens_tokens gs }

-- under generators whose tokens come after so many others
abbrev pub under_gens : Walked → ℕ → List GenTree → Walked
under_gens w count gs = record w { scope = gens_scope (past w count) gs }

-- the pairs of a renaming, under its generators
abbrev pub sides_at : Walked → List (PartTree × PartTree) → List GenTree → List (EventPart × EventPart)
sides_at w sides gens = pairs_at (under_gens w (pairs_tokens sides) gens) sides

-- whether a name stands for a network definition
abbrev pub names_network : Walked → Name → Bool
names_network w x = is_network w.kinds (sense_in (first_of w.names) (names_of w.scope) x)

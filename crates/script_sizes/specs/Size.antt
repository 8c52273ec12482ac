-- How much a script holds. Each declaration counts one, and so do the names that it declares, its parameters and types, and the binding tokens of its
-- trees. A script has no more of them than its text has tokens, and a text no more tokens than bytes; so those of a script that a text within its limit
-- spells are as few as here, and 32 bits number them. This serves the contracts of functions that number what a script declares.
use Rattle.std.specs.Prelude.{ℕ, ◌+◌, ◌≤◌, max, List, [], ◌∷◌, length, map}
use Rattle.csp_base.specs.Lists.{greatest}
use Rattle.csp_text.specs.Prelude.{tree_depth}
use Rattle.csp_text.specs.declared.script.Decl.{Decl}
use Rattle.csp_text.specs.declared.script.Decl.TheVariants as decl
use Rattle.dl_limits.specs.declared.TheConstants.{MOST_BYTES, MOST_TREE_DEPTH}
use Rattle.script_sizes.specs.BindingTokens.{all_tokens, tokens}

abbrev pub declaration_size : Decl → ℕ
declaration_size (decl.Channel xs types) = 1 + length xs + length types + all_tokens types
declaration_size (decl.Datatype x ks) = 1 + length ks
declaration_size (decl.Nametype x t) = 1 + tokens t
declaration_size (decl.Define x params t) = 1 + length params + tokens t
declaration_size (decl.Assert t) = 1 + tokens t
declaration_size (decl.Roles names) = 1
declaration_size (decl.Resource names) = 1

-- of all declarations
abbrev pub size : List Decl → ℕ
size [] = 0
size (d ∷ decls) = declaration_size d + size decls

-- the greatest depth of a tree of a declaration
abbrev pub declaration_depth : Decl → ℕ
declaration_depth (decl.Channel xs types) = greatest (map tree_depth types)
declaration_depth (decl.Nametype x t) = tree_depth t
declaration_depth (decl.Define x params t) = tree_depth t
declaration_depth (decl.Assert t) = tree_depth t
declaration_depth _ = 0

-- of all declarations
abbrev pub depth : List Decl → ℕ
depth [] = 0
depth (d ∷ decls) = max (declaration_depth d) (depth decls)

-- They hold no more than the declarations that a text within the limit spells.
pub record AreSmall (decls : List Decl) : Type 0 where
  pub few : size decls ≤ MOST_BYTES
  pub shallow : depth decls ≤ MOST_TREE_DEPTH

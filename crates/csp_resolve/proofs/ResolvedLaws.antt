-- The answer for a script, from its parts.
use Rattle.csp_resolve.proofs.Prelude.{◌≡◌, List, sym, ap, ◌∙◌, Some, None, Err, Content, Decl, Tree, types_read, first_assertion, plain_content, Entities, declared, first_of, meanings_of, and_next, channel_sets, resolved, with_names, with_root, with_table, name_fault, Kind, ResolveFault}
use Rattle.std.proofs.Math.Path.{fun_ext}
use Rattle.name_tables.specs.Firsts.{SameFirsts}

module _ (decls : List Decl) (kinds : List Kind) where
  pub no_assert : first_assertion decls ≡ None → resolved decls kinds ≡ Err ResolveFault.NoAssert
  no_assert none = ap (with_root decls kinds) none

  pub faultless : (root : Tree) (names : Entities) (content : Content) → SameFirsts names (declared decls) → first_assertion decls ≡ Some root → name_fault decls kinds ≡ None
      → content ≡ plain_content decls kinds
      → resolved decls kinds ≡ and_next (channel_sets content (types_read (first_of names) kinds) 0 decls) (λ all. with_table content all)
  faultless root names content same asserted told is =
      let means : first_of names ≡ meanings_of decls = fun_ext same in
      ap (with_root decls kinds) asserted ∙ ap (with_names decls kinds) told
      ∙ (λ i. and_next (channel_sets (sym is i) (types_read (sym means i) kinds) 0 decls) (λ all. with_table (sym is i) all))

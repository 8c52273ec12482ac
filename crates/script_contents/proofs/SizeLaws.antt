-- What a script puts into its program is no more than the size of its declarations.
use Rattle.script_contents.proofs.Prelude.{◌≡◌, ◌≤◌, List, [], ◌∷◌, ap, arith, Some, Decl, Tree, first_assertion, tokens, size}

-- the tree that is asserted is one of the script's
pub root_tokens : (decls : List Decl) (root : Tree) → first_assertion decls ≡ Some root → tokens root ≤ size decls
root_tokens [] root asserted = cc
root_tokens (Decl.Assert t ∷ decls) root asserted = let same : t ≡ root = cc in let tokens_same : tokens t ≡ tokens root = ap tokens same in omega arith
root_tokens (_ ∷ decls) root asserted = let later = root_tokens decls root asserted in omega arith

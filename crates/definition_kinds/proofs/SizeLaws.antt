-- There are no more definitions than declarations.
use Rattle.definition_kinds.proofs.Prelude.{◌≡◌, ◌≤◌, List, [], ◌∷◌, length, sym, ap, ◌∙◌, arith, flat_map, Global, Vec, Decl, body_ends, first_ends, Meanings, End, declaration_size, size, rows}
use Rattle.std.proofs.Common.{length-append}
use Rattle.definition_kinds.proofs.FoundLaws.{firsts-length, rows-length}

-- a declaration makes at most one definition
one_definition : (meanings : Meanings) (d : Decl) → length (body_ends meanings d) ≤ declaration_size d
one_definition meanings (Decl.Channel xs types) = omega arith
one_definition meanings _ = omega arith

pub few_definitions : (meanings : Meanings) (decls : List Decl) → length (flat_map (body_ends meanings) decls) ≤ size decls
few_definitions meanings [] = omega arith
few_definitions meanings (d ∷ decls) =
    let here : length (body_ends meanings d) ≤ declaration_size d = one_definition meanings d in
    let later : length (flat_map (body_ends meanings) decls) ≤ size decls = few_definitions meanings decls in
    let both = length-append (body_ends meanings d) (flat_map (body_ends meanings) decls) in
    omega arith

-- each definition has one first end
pub one_first_each : (all firsts : List (Vec End Global)) → rows firsts ≡ first_ends (rows all) → length firsts ≡ length all
one_first_each all firsts same = sym (rows-length firsts) ∙ ap length same ∙ firsts-length (rows all) ∙ rows-length all

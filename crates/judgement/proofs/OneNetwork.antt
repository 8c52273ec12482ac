-- A script has one program, and a program one network.
use Rattle.judgement.proofs.Prelude.{◌≡◌, Ok, ap, ◌∙◌, Proc, IsProgram, Answer, resolved, Content, Tree, Script, Walked, network_of, spelled_is_walked, program_resolves, EachScriptHasOneNetwork}
use Rattle.judgement.proofs.KindsUnique.{kinds_are_unique}

same_ok : (p q : Content) (x y : Answer Content) → x ≡ y → x ≡ Ok p → y ≡ Ok q → p ≡ q
same_ok p q x y e is other = cc

same_tree : (t u : Tree Proc) (x y : Walked (Tree Proc)) → x ≡ y → x ≡ Ok t → y ≡ Ok u → t ≡ u
same_tree t u x y e is other = cc

pub one_program : (script : Script) (p q : Content) → IsProgram script p → IsProgram script q → p ≡ q
one_program script p q a b =
    same_ok p q (resolved script.decls a.kinds) (resolved script.decls b.kinds)
    (ap (resolved script.decls) (kinds_are_unique script.decls a.kinds b.kinds a.are b.are)) (program_resolves script p a) (program_resolves script q b)

pub one_network : EachScriptHasOneNetwork
one_network script network other a b =
    let program = one_program script network.program other.program a.program b.program in
    let tree = same_tree network.tree other.tree (network_of network.program) (network_of other.program) (ap network_of program)
    (spelled_is_walked network.program network.tree a.tree) (spelled_is_walked other.program other.tree b.tree) in
    let programs : network ≡ record { program = other.program; tree = network.tree } = ap (λ (p : Content). record { program = p; tree = network.tree }) program in
    let trees : record { program = other.program; tree = network.tree } ≡ other = ap (λ (t : Tree Proc). record { program = other.program; tree = t }) tree in
    programs ∙ trees

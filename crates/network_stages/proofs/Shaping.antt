-- The parts of a network's components, linked, are its shape.
use Rattle.network_stages.proofs.Prelude.{◌≡◌, ℕ, zero, suc, ◌<◌, ◌≤◌, List, [], ◌∷◌, length, refl, sym, ap, subst, ◌∙◌, arith, Proc, Content, HaveForm, Component, leaves, Part, TripleDisjoint, alphabets_of, part_at, IsLinked, Shape, ArePartsOf, one_part_each, IsSpelled, Network, IsApart, HasParts, ProcessStep, alphabets, MOST_COMPONENTS, MOST_SETS}
use Rattle.network_stages.proofs.Spelling.{few_components}

-- parts have the alphabets of their components
same_alphabets : (p : Content) (cs : List (Component Proc)) (ps : List Part) → ArePartsOf (ProcessStep p) cs ps → alphabets cs ≡ alphabets_of ps
same_alphabets p [] [] are = refl
same_alphabets p [] (q ∷ ps) are = absurd are
same_alphabets p (c ∷ cs) [] are = absurd are
same_alphabets p (c ∷ cs) (q ∷ ps) are = ap (λ (al : List ℕ). al ∷ alphabets cs) are.0.alphabet ∙ ap (λ (als : List (List ℕ)). q.alphabet ∷ als) (same_alphabets p cs ps are.1)

pub parts_apart : (p : Content) (cs : List (Component Proc)) (ps : List Part) → ArePartsOf (ProcessStep p) cs ps → TripleDisjoint (alphabets cs) → TripleDisjoint (alphabets_of ps)
parts_apart p cs ps are apart = subst (λ (als : List (List ℕ)). TripleDisjoint als) (same_alphabets p cs ps are) apart

-- what was found of the layout of a network
pub no_three : (network other : Network) (seats : List (Component Proc)) → other ≡ network → seats ≡ leaves other.tree → TripleDisjoint (alphabets seats) → TripleDisjoint (alphabets (leaves network.tree))
no_three network other seats same laid apart =
    subst (λ (n : Network). TripleDisjoint (alphabets (leaves n.tree))) same (subst (λ (cs : List (Component Proc)). TripleDisjoint (alphabets cs)) laid apart)

-- there are at most 512 parts
pub few_parts : (network : Network) (ps : List Part) → IsSpelled network → HasParts network ps → length ps ≤ MOST_COMPONENTS
few_parts network ps spelled has =
    let few = few_components network spelled in
    let many = one_part_each (ProcessStep network.program) (leaves network.tree) ps has.are in
    omega (arith, few, many)

-- and there is one
pub some_parts : (network : Network) (ps : List Part) → IsSpelled network → HasParts network ps → 1 ≤ length ps
some_parts network ps spelled has =
    let some : 1 ≤ length (leaves network.tree) = spelled.some in
    let many = one_part_each (ProcessStep network.program) (leaves network.tree) ps has.are in
    omega (arith, many)

-- tables that have their form have few nodes
few_nodes : (ps : List Part) (i : ℕ) → HaveForm ps → i < length ps → length (part_at ps i).table ≤ MOST_SETS
few_nodes [] i have below = absurd (omega arith)
few_nodes (q ∷ ps) zero have below = have.0.most
few_nodes (q ∷ ps) (suc i) have below = few_nodes ps i have.1 (omega (arith, below))

pub is_apart : (network : Network) (ps : List Part) (shape : Shape) → HasParts network ps → HaveForm ps → TripleDisjoint (alphabets (leaves network.tree)) → shape.parts ≡ ps → IsLinked shape
    → IsApart network shape
is_apart network ps shape has form apart same linked = record {
  apart = apart;
  is = record {
    linked = linked;
    nodes = λ i below. few_nodes shape.parts i (subst HaveForm (sym same) form) below;
    parts = subst (λ (qs : List Part). ArePartsOf (ProcessStep network.program) (leaves network.tree) qs) (sym same) has.are;
  };
}

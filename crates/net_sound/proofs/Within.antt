-- In parts that have the form of tables, each acceptance is within the part's alphabet.
use Rattle.net_sound.proofs.Prelude.{ℕ, zero, suc, ◌<◌, List, [], ◌∷◌, length, get_or, arith, false≢true, IsWithin, Node, node_at, end_of, HasForm, HaveForm, AreWithin, NodesHaveForm, Part, part_at, project, acceptance}

one_within : (a : List ℕ) (Ms : List (List ℕ)) (k : ℕ) → AreWithin a Ms → IsWithin (get_or Ms k []) a
one_within a [] k form e h = absurd (false≢true h)
one_within a (M ∷ Ms) zero form e h = form.0 e h
one_within a (M ∷ Ms) (suc k) form e h = one_within a Ms k form.1 e h

node_within : (a : List ℕ) (m : ℕ) (ns : List Node) (n : ℕ) → NodesHaveForm a m ns → AreWithin a (node_at ns n).accept
node_within a m [] n form = tt
node_within a m (node ∷ ns) zero form = form.1
node_within a m (node ∷ ns) (suc n) form = node_within a m ns n form.2

pub part_form : (ps : List Part) (i : ℕ) → i < length ps → HaveForm ps → HasForm (part_at ps i)
part_form [] i h form = absurd (omega arith)
part_form (p ∷ ps) zero h form = form.0
part_form (p ∷ ps) (suc i) h form = part_form ps i (omega arith) form.1

pub acceptance_within : (ps : List Part) (s : List ℕ) (i k : ℕ) → i < length ps → HaveForm ps → IsWithin (acceptance (part_at ps i) s k) (part_at ps i).alphabet
acceptance_within ps s i k h form =
    let p = part_at ps i in
    let n = end_of p.table 0 (project p.alphabet s) in
    one_within p.alphabet (node_at p.table n).accept k (node_within p.alphabet (length p.table) p.table n (part_form ps i h form).nodes)

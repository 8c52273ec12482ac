-- What a process becomes where another one takes the place of its first sub-process.
use Rattle.term_pool.proofs.Prelude.{◌≡◌, ℕ, ◌<◌, true, nat_lt, List, [], ◌∷◌, map, length, refl, ap, sym, ◌∙◌, subst, arith, lt-ltb, and_from, second_so, Proc, Proc-F, layer_with_first, node_with_first, other_first, with_first, tree_at, layer_tree, all_below, layer_below, Layer, layer_parts, ProcId}
use Rattle.csp_program.specs.declared.processes.Proc.TheVariants as proc
use Rattle.term_pool.proofs.NodeLemmas.{layer_of, layer_out}
use Rattle.term_pool.proofs.TreeLemmas.{all_below_more}

others_at : (ts : List Proc) (ps : List ProcId) (q : ProcId) → other_first (map (tree_at ts) ps) (tree_at ts q) ≡ map (tree_at ts) (other_first ps q)
others_at ts [] q = refl
others_at ts (p ∷ ps) q = refl

layer_first : (ts : List Proc) (n : Layer) (q : ProcId) → layer_with_first (layer_of ts n) (tree_at ts q) ≡ layer_tree ts (node_with_first n q)
layer_first ts (Proc-F.External ps) q = ap (λ (us : List Proc). proc.External us) (others_at ts ps q)
layer_first ts (Proc-F.Internal ps) q = ap (λ (us : List Proc). proc.Internal us) (others_at ts ps q)
layer_first ts _ q = refl

-- a node with another first place is its process with what stands there
pub first_at : (ts : List Proc) (n : Layer) (q : ProcId) → with_first (layer_tree ts n) (tree_at ts q) ≡ layer_tree ts (node_with_first n q)
unfolding with_first
first_at ts n q = ap (λ (l : Proc-F Proc). layer_with_first l (tree_at ts q)) (layer_out ts n) ∙ layer_first ts n q

others_below : (b : ℕ) (ps : List ProcId) (q : ProcId) → all_below b ps ≡ true → nat_lt q.0 b ≡ true → all_below b (other_first ps q) ≡ true
others_below b [] q h g = refl
others_below b (p ∷ ps) q h g = and_from (nat_lt q.0 b) (all_below b ps) g (second_so (nat_lt p.0 b) (all_below b ps) h)

first_places : (n : Layer) (q : ProcId) → layer_parts (node_with_first n q) ≡ other_first (layer_parts n) q
first_places Proc-F.Stop q = refl
first_places _ q = refl

pub first_below : (b : ℕ) (n : Layer) (q : ProcId) → layer_below b n ≡ true → q.0 < b → layer_below b (node_with_first n q) ≡ true
first_below b n q h g = ap (all_below b) (first_places n q) ∙ others_below b (layer_parts n) q h (lt-ltb q.0 b g)

module _ (ts : List Proc) (id : ProcId) (q : ProcId) (within : id.0 < length ts) (below : q.0 < length ts) (n : Layer) (tree : layer_tree ts n ≡ tree_at ts id) (smaller : layer_below id.0 n ≡ true)
    (m : Layer) (is : m ≡ node_with_first n q) where
  -- the node that is made stands for the process that is wanted, and looks at places of the list alone
  pub made_below : layer_below (length ts) m ≡ true
  made_below = subst (λ (k : Layer). layer_below (length ts) k ≡ true) (sym is) (first_below (length ts) n q (all_below_more id.0 (length ts) (omega (arith, within)) (layer_parts n) smaller) below)

  pub made_tree : layer_tree ts m ≡ with_first (tree_at ts id) (tree_at ts q)
  made_tree = ap (λ (k : Layer). layer_tree ts k) is ∙ (sym (first_at ts n q) ∙ ap (λ (t : Proc). with_first t (tree_at ts q)) tree)

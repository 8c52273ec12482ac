-- The layer of a process that a node stands for, and that different nodes stand for different processes.
use Rattle.term_pool.proofs.Prelude.{◌≡◌, ℕ, ◌<◌, true, nat_lt, List, [], ◌∷◌, map, refl, ap, sym, ◌∙◌, ltb-true, first_so, second_so, Proc, map-Proc, Proc-F, out-Proc, roll-Proc, out-roll-Proc, moved, with_parts, parts, tree_at, layer_tree, all_below, layer_below, Layer, layer_parts, ProcId}
use Rattle.csp_program.specs.declared.processes.Proc.TheVariants as proc

-- the node with the trees of its places, as a layer
abbrev pub layer_of : List Proc → Layer → Proc-F Proc
layer_of ts n = map-Proc ProcId Proc (tree_at ts) n

pub rolls : (ts : List Proc) (n : Layer) → layer_tree ts n ≡ roll-Proc (layer_of ts n)
rolls ts Proc-F.Stop = sym proc.rolls-Stop
rolls ts (Proc-F.Prefix k fields p) = sym (proc.rolls-Prefix k fields (tree_at ts p))
rolls ts (Proc-F.Guard c p) = sym (proc.rolls-Guard c (tree_at ts p))
rolls ts (Proc-F.If c p q) = sym (proc.rolls-If c (tree_at ts p) (tree_at ts q))
rolls ts (Proc-F.External ps) = sym (proc.rolls-External (map (tree_at ts) ps))
rolls ts (Proc-F.Internal ps) = sym (proc.rolls-Internal (map (tree_at ts) ps))
rolls ts (Proc-F.EachExternal y s p) = sym (proc.rolls-EachExternal y s (tree_at ts p))
rolls ts (Proc-F.EachInternal y s p) = sym (proc.rolls-EachInternal y s (tree_at ts p))
rolls ts (Proc-F.Hide p s) = sym (proc.rolls-Hide (tree_at ts p) s)
rolls ts (Proc-F.Rename p pairs gens) = sym (proc.rolls-Rename (tree_at ts p) pairs gens)
rolls ts (Proc-F.Call d args) = sym (proc.rolls-Call d args)
rolls ts Proc-F.Skip = sym proc.rolls-Skip
rolls ts (Proc-F.Seq p q) = sym (proc.rolls-Seq (tree_at ts p) (tree_at ts q))
rolls ts Proc-F.Ended = sym proc.rolls-Ended

pub layer_out : (ts : List Proc) (n : Layer) → out-Proc (layer_tree ts n) ≡ layer_of ts n
layer_out ts n = ap out-Proc (rolls ts n) ∙ out-roll-Proc (layer_of ts n)

layer_places : (ts : List Proc) (n : Layer) → layer_parts (layer_of ts n) ≡ map (tree_at ts) (layer_parts n)
layer_places ts Proc-F.Stop = refl
layer_places ts _ = refl

-- the sub-processes of a node's tree are the trees at its places
pub parts_at : (ts : List Proc) (n : Layer) → parts (layer_tree ts n) ≡ map (tree_at ts) (layer_parts n)
unfolding parts
parts_at ts n = ap layer_parts (layer_out ts n) ∙ layer_places ts n

-- a layer is its own parts with what stands at its places, and the other way round
pub mapped : (ts : List Proc) (n : Layer) → layer_of ts n ≡ with_parts proc.Stop n (map (tree_at ts) (layer_parts n))
mapped ts Proc-F.Stop = refl
mapped ts _ = refl

back : (ts : List Proc) (n : Layer) → moved (layer_of ts n) (layer_parts n) ≡ n
back ts Proc-F.Stop = refl
back ts _ = refl

-- where the trees at the first b places differ, nodes that look at no other places have different trees
module _ (ts : List Proc) (b : ℕ) (different : (i j : ℕ) → i < b → j < b → (tree_at ts (record { 0 = i })) ≡ (tree_at ts (record { 0 = j })) → i ≡ j) where
  same_id : (p q : ProcId) → nat_lt p.0 b ≡ true → nat_lt q.0 b ≡ true → tree_at ts p ≡ tree_at ts q → p ≡ q
  same_id p q h g e = let z : p.0 ≡ q.0 = different p.0 q.0 (ltb-true p.0 b h) (ltb-true q.0 b g) e in λ i. record { 0 = z i }

  same_ids : (ps qs : List ProcId) → all_below b ps ≡ true → all_below b qs ≡ true → map (tree_at ts) ps ≡ map (tree_at ts) qs → ps ≡ qs
  same_ids [] [] h g e = refl
  same_ids (p ∷ ps) (q ∷ qs) h g e =
      let first : tree_at ts p ≡ tree_at ts q = cc in
      let others : map (tree_at ts) ps ≡ map (tree_at ts) qs = cc in
      λ i. same_id p q (first_so (nat_lt p.0 b) (all_below b ps) h) (first_so (nat_lt q.0 b) (all_below b qs) g) first i ∷
      same_ids ps qs (second_so (nat_lt p.0 b) (all_below b ps) h) (second_so (nat_lt q.0 b) (all_below b qs) g) others i
  same_ids _ _ h g e = cc

  same_layer : (n m : Layer) → layer_below b n ≡ true → layer_below b m ≡ true → layer_of ts n ≡ layer_of ts m → n ≡ m
  same_layer n m h g e =
      let ids : layer_parts n ≡ layer_parts m = same_ids (layer_parts n) (layer_parts m) h g (sym (layer_places ts n) ∙ (ap layer_parts e ∙ layer_places ts m)) in
      sym (back ts n) ∙ ((λ i. moved (e i) (ids i)) ∙ back ts m)

  pub same_node : (n m : Layer) → layer_below b n ≡ true → layer_below b m ≡ true → layer_tree ts n ≡ layer_tree ts m → n ≡ m
  same_node n m h g e = same_layer n m h g (sym (layer_out ts n) ∙ (ap out-Proc e ∙ layer_out ts m))

-- trees that agree at the first b places give a node that looks at no other places one tree
module _ (ts us : List Proc) (b : ℕ) (agree : (id : ProcId) → nat_lt id.0 b ≡ true → tree_at ts id ≡ tree_at us id) where
  pub agree_all : (ids : List ProcId) → all_below b ids ≡ true → map (tree_at ts) ids ≡ map (tree_at us) ids
  agree_all [] h = refl
  agree_all (id ∷ ids) h = λ i. agree id (first_so (nat_lt id.0 b) (all_below b ids) h) i ∷ agree_all ids (second_so (nat_lt id.0 b) (all_below b ids) h) i

  pub agree_node : (n : Layer) → layer_below b n ≡ true → layer_tree ts n ≡ layer_tree us n
  agree_node n h = rolls ts n ∙ (ap roll-Proc (mapped ts n ∙ (ap (with_parts proc.Stop n) (agree_all (layer_parts n) h) ∙ sym (mapped us n))) ∙ sym (rolls us n))

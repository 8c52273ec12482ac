-- The trees of a list of nodes: how they grow, and what stands at each place.
use Rattle.term_pool.proofs.Prelude.{◌≡◌, ℕ, zero, suc, ◌+◌, ◌<◌, ◌≤◌, true, nat_lt, Some, List, [], ◌∷◌, ◌++◌, length, get_or, slice_get, refl, ap, sym, ◌∙◌, subst, arith, length-append, append_assoc, ltb-true, lt-ltb, and_from, append-nil, get_or_append_left, get_or-append_seam, first_so, second_so, Proc, layer_tree, all_below, layer_below, grown, fall, Layer, ProcId}
use Rattle.csp_program.specs.declared.processes.Proc.TheVariants as proc
use Rattle.term_pool.proofs.NodeLemmas.{agree_node}

-- a larger bound serves as well
pub all_below_more : (b c : ℕ) → b ≤ c → (ids : List ProcId) → all_below b ids ≡ true → all_below c ids ≡ true
all_below_more b c le [] h = refl
all_below_more b c le (id ∷ ids) h =
    let lt : id.0 < b = ltb-true id.0 b (first_so (nat_lt id.0 b) (all_below b ids) h) in
    and_from (nat_lt id.0 c) (all_below c ids) (lt-ltb id.0 c (omega arith)) (all_below_more b c le ids (second_so (nat_lt id.0 b) (all_below b ids) h))

-- a node's tree stays the same when the list grows at its end
pub of_front : (ts more : List Proc) (n : Layer) → layer_below (length ts) n ≡ true → layer_tree (ts ++ more) n ≡ layer_tree ts n
of_front ts more n h = agree_node (ts ++ more) ts (length ts) (λ id g. get_or_append_left ts more proc.Stop id.0 (ltb-true id.0 (length ts) g)) n h

pub grown_push : (ts : List Proc) (ns : List Layer) (n : Layer) → grown ts (ns ++ n ∷ []) ≡ grown ts ns ++ layer_tree (grown ts ns) n ∷ []
grown_push ts [] n = refl
grown_push ts (m ∷ ns) n = grown_push (ts ++ layer_tree ts m ∷ []) ns n

pub grown_length : (ts : List Proc) (ns : List Layer) → length (grown ts ns) ≡ length ts + length ns
grown_length ts [] = omega arith
grown_length ts (m ∷ ns) = let h = grown_length (ts ++ layer_tree ts m ∷ []) ns in omega (arith, h, length-append ts (layer_tree ts m ∷ []))

-- the trees that were there are the front of those that there are
unfoldable rest_of : List Proc → List Layer → List Proc
rest_of ts [] = []
rest_of ts (m ∷ ns) = layer_tree ts m ∷ rest_of (ts ++ layer_tree ts m ∷ []) ns

grown_rest : (ts : List Proc) (ns : List Layer) → grown ts ns ≡ ts ++ rest_of ts ns
unfolding rest_of
grown_rest ts [] = sym (append-nil ts)
grown_rest ts (m ∷ ns) = grown_rest (ts ++ layer_tree ts m ∷ []) ns ∙ append_assoc ts (layer_tree ts m ∷ []) (rest_of (ts ++ layer_tree ts m ∷ []) ns)

one_more : (ts : List Proc) (t : Proc) → length ts + 1 ≡ length (ts ++ t ∷ [])
one_more ts t = sym (length-append ts (t ∷ []))

-- the tree at a node's place, where the node is the first after the trees ts
first_at : (ts : List Proc) (m : Layer) (ns : List Layer) → layer_below (length ts) m ≡ true
    → get_or (grown ts (m ∷ ns)) (length ts) proc.Stop ≡ layer_tree (grown ts (m ∷ ns)) m
first_at ts m ns h =
    let t = layer_tree ts m in
    let more = rest_of (ts ++ t ∷ []) ns in
    let whole : grown ts (m ∷ ns) ≡ ts ++ (t ∷ more) = grown_rest (ts ++ t ∷ []) ns ∙ append_assoc ts (t ∷ []) more in
    subst (λ (w : List Proc). get_or w (length ts) proc.Stop ≡ layer_tree w m) (sym whole)
    (get_or-append_seam ts t more proc.Stop ∙ sym (of_front ts (t ∷ more) m h))

later : (ts : List Proc) (m : Layer) (ns : List Layer) → fall (length ts) (m ∷ ns) ≡ true → fall (length (ts ++ layer_tree ts m ∷ [])) ns ≡ true
later ts m ns h = subst (λ (c : ℕ). fall c ns ≡ true) (one_more ts (layer_tree ts m)) (second_so (layer_below (length ts) m) (fall (length ts + 1) ns) h)

pub grown_at : (ts : List Proc) (ns : List Layer) → fall (length ts) ns ≡ true → (k : ℕ) (n : Layer) → slice_get ns k ≡ Some n
    → get_or (grown ts ns) (length ts + k) proc.Stop ≡ layer_tree (grown ts ns) n
grown_at ts [] h k n g = cc
grown_at ts (m ∷ ns) h zero n g =
    let e : m ≡ n = cc in
    let z : length ts + 0 ≡ length ts = omega arith in
    ap (λ k. get_or (grown ts (m ∷ ns)) k proc.Stop) z ∙
    (first_at ts m ns (first_so (layer_below (length ts) m) (fall (length ts + 1) ns) h) ∙ ap (λ q. layer_tree (grown ts (m ∷ ns)) q) e)
grown_at ts (m ∷ ns) h (suc k) n g =
    let t = layer_tree ts m in
    let z : length ts + suc k ≡ length (ts ++ t ∷ []) + k = omega (arith, one_more ts t) in
    ap (λ k. get_or (grown ts (m ∷ ns)) k proc.Stop) z ∙
    grown_at (ts ++ t ∷ []) ns (later ts m ns h) k n g

pub fall_at : (b : ℕ) (ns : List Layer) → fall b ns ≡ true → (k : ℕ) (n : Layer) → slice_get ns k ≡ Some n → layer_below (b + k) n ≡ true
fall_at b [] h k n g = cc
fall_at b (m ∷ ns) h zero n g =
    let e : m ≡ n = cc in
    let z : b ≡ b + 0 = omega arith in
    subst (λ (q : Layer). layer_below (b + 0) q ≡ true) e (subst (λ (c : ℕ). layer_below c m ≡ true) z (first_so (layer_below b m) (fall (b + 1) ns) h))
fall_at b (m ∷ ns) h (suc k) n g =
    let z : b + 1 + k ≡ b + suc k = omega arith in
    subst (λ (c : ℕ). layer_below c n ≡ true) z (fall_at (b + 1) ns (second_so (layer_below b m) (fall (b + 1) ns) h) k n g)

pub fall_push : (b : ℕ) (ns : List Layer) (n : Layer) → fall b ns ≡ true → layer_below (b + length ns) n ≡ true → fall b (ns ++ n ∷ []) ≡ true
fall_push b [] n h g =
    let z : b + 0 ≡ b = omega arith in
    and_from (layer_below b n) true (subst (λ (c : ℕ). layer_below c n ≡ true) z g) refl
fall_push b (m ∷ ns) n h g =
    let z : b + suc (length ns) ≡ b + 1 + length ns = omega arith in
    and_from (layer_below b m) (fall (b + 1) (ns ++ n ∷ []))
    (first_so (layer_below b m) (fall (b + 1) ns) h)
    (fall_push (b + 1) ns n (second_so (layer_below b m) (fall (b + 1) ns) h) (subst (λ (c : ℕ). layer_below c n ≡ true) z g))

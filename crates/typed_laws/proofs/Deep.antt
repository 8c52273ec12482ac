-- How deep occurrences reach, and how deep expressions are with their uses expanded.
use Rattle.typed_laws.proofs.Sources.{◌≡◌, ℕ, ◌+◌, ◌<◌, List, [], ◌∷◌, ◌++◌, map, sym, ◌∙◌, ap, arith, max, gen_depth_of_layer, part_depth_of_layer, greatest, expanded_depth, expanded_depth_of_layer, gen_expanded_depth, part_expanded_depth, deepest, reach, Name, event_part, EventPart, Expr, Expr-F, Gen, Gen-F, Occurrence, fold-roll-EventPart, fold-roll-Expr, fold-roll-Gen, map-Expr, map-Gen, roll-Expr, roll-Gen}

max_assoc : (a b c : ℕ) → max a (max b c) ≡ max (max a b) c
max_assoc a b c = omega arith

pub deepest_append : (f : ℕ → ℕ) (os ps : List (Occurrence Name)) → deepest f (os ++ ps) ≡ max (deepest f os) (deepest f ps)
deepest_append f [] ps = omega arith
deepest_append f (o ∷ os) ps =
    ap (max (reach f o)) (deepest_append f os ps) ∙ max_assoc (reach f o) (deepest f os) (deepest f ps)

-- ---- one layer

pub expr_layer : (f : ℕ → ℕ) (d : Expr-F Expr Gen EventPart) {e : Expr} → roll-Expr d ≡ e
    → expanded_depth f e ≡ expanded_depth_of_layer f (map-Expr Expr Gen EventPart ℕ ℕ ℕ (expanded_depth f) (gen_expanded_depth f) (part_expanded_depth f) d)
expr_layer f d is =
    ap (expanded_depth f) (sym is) ∙ fold-roll-Expr ℕ ℕ ℕ (expanded_depth_of_layer f) gen_depth_of_layer part_depth_of_layer d

pub gen_layer : (f : ℕ → ℕ) (d : Gen-F Expr Gen EventPart) {g : Gen} → roll-Gen d ≡ g
    → gen_expanded_depth f g ≡ gen_depth_of_layer (map-Gen Expr Gen EventPart ℕ ℕ ℕ (expanded_depth f) (gen_expanded_depth f) (part_expanded_depth f) d)
gen_layer f d is =
    ap (gen_expanded_depth f) (sym is) ∙ fold-roll-Gen ℕ ℕ ℕ (expanded_depth_of_layer f) gen_depth_of_layer part_depth_of_layer d

pub part_layer : (f : ℕ → ℕ) (c : ℕ) (es : List Expr) → part_expanded_depth f (event_part c es) ≡ greatest (map (expanded_depth f) es)
part_layer f c es = fold-roll-EventPart ℕ ℕ ℕ (expanded_depth_of_layer f) gen_depth_of_layer part_depth_of_layer (record { channel = c; fields = es })

-- ---- levels

-- a node at the level k + 1 above parts that are so deep from the level k + 1 on
pub below_form : (k x d : ℕ) → max (k + 1) x ≡ (k + 1) + d → max (k + 1) x ≡ k + (1 + d)
below_form k x d h = omega arith

pub none_below : (k : ℕ) → max k 0 ≡ k + 0
none_below k = omega arith

pub one_below : (k x d : ℕ) → x ≡ k + d → max k x ≡ k + d
one_below k x d h = omega arith

pub two_below : (f : ℕ → ℕ) (k : ℕ) (os ps : List (Occurrence Name)) (d e : ℕ) → max k (deepest f os) ≡ k + d → max k (deepest f ps) ≡ k + e
    → max k (deepest f (os ++ ps)) ≡ k + max d e
two_below f k os ps d e h g =
    let same : deepest f (os ++ ps) ≡ max (deepest f os) (deepest f ps) = deepest_append f os ps in omega arith

pub above : (k x d : ℕ) → max (k + 1) x ≡ (k + 1) + d → 0 < d → x ≡ k + (1 + d)
above k x d h some = omega arith

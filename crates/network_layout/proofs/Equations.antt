-- What the walk of a network is, from its layer.
use Rattle.network_layout.proofs.Prelude.{◌≡◌, ◌<◌, ◌-◌, arith, ℕ, zero, suc, List, ap, sym, ◌∙◌, Env, Expr, Net, Content, tree_within, walked_node, Place, node, walked, Net-F, out-Net, out-roll-Net}
use Rattle.csp_program.specs.declared.networks.Net.TheVariants as net

pub layer-Pair : (n : Net) (a b : Expr) (m : Net) → out-Net (net.Pair n a b m) ≡ Net-F.Pair n a b m
layer-Pair n a b m = ap out-Net (sym (net.rolls-Pair n a b m)) ∙ out-roll-Net (Net-F.Pair n a b m)

pub layer-Each : (x : ℕ) (s a : Expr) (n : Net) → out-Net (net.Each x s a n) ≡ Net-F.Each x s a n
layer-Each x s a n = ap out-Net (sym (net.rolls-Each x s a n)) ∙ out-roll-Net (Net-F.Each x s a n)

tree_at : (p : Content) (levels k : ℕ) (alphabet : List ℕ) (env : Env) (n : Net) → 0 < levels
    → tree_within p levels k alphabet env n ≡ walked_node p (tree_within p (levels - 1)) k alphabet env (out-Net n)
unfolding tree_within
tree_at p zero k alphabet env n h = absurd (omega arith)
tree_at p (suc below) k alphabet env n h =
    let e : below ≡ suc below - 1 = omega arith in
    ap (λ l. walked_node p (tree_within p l) k alphabet env (out-Net n)) e

-- a place one node further down
abbrev pub lower : Place → Place
lower s = record { program = s.program; env = s.env; levels = s.levels - 1 }

pub walked_at : (s : Place) (alphabet : List ℕ) (n : Net) → 0 < s.levels → walked s alphabet n ≡ node (lower s) alphabet (out-Net n)
unfolding node
walked_at s alphabet n h = λ i k. tree_at s.program s.levels k alphabet s.env n h i

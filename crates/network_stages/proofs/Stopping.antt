-- Parts without an empty acceptance at a node, and a part with one.
use Rattle.network_stages.proofs.Prelude.{◌≡◌, ℕ, ◌+◌, ◌<◌, inl, inr, List, [], ◌∷◌, length, get_or, nat_eq, refl, sym, ap, subst, ◌∙◌, arith, eq-eqb, cases_eq, or_left, get_or_read, has, Node, node_at, end_of, Part, part_at, IsNonEmpty, IsBusyPart, HasEmpty}

-- no acceptance of a node is empty
abbrev pub AreNonEmpty : List (List ℕ) → Type 0
AreNonEmpty acceptances = (k : ℕ) → k < length acceptances → IsNonEmpty (get_or acceptances k [])

-- a set that is not empty has a member
pub member : (M : List ℕ) → (M ≡ [] → ⊥) → IsNonEmpty M
member [] h = absurd (h refl)
member (e ∷ M) h = (e, or_left (nat_eq e e) (has M e) (eq-eqb e e refl))

pub non_empty : (acceptances : List (List ℕ)) → (HasEmpty acceptances → ⊥) → AreNonEmpty acceptances
non_empty acceptances none k less = member (get_or acceptances k []) (λ empty. none (record { place = k; within = less; empty = empty }))

pub busy_part : (p : Part) → ((n : ℕ) → AreNonEmpty (node_at p.table n).accept) → IsBusyPart p
busy_part p all s k run less = all (end_of p.table 0 s) k less

-- one more node
pub nodes_more : (table nodes : List Node) (n : ℕ) (node : Node) (acceptances : List (List ℕ)) → nodes ≡ table → n < length nodes
    → node ≡ get_or nodes n node → acceptances ≡ node.accept → (HasEmpty acceptances → ⊥)
    → ((m : ℕ) → m < n → AreNonEmpty (node_at table m).accept) → (m : ℕ) → m < n + 1 → AreNonEmpty (node_at table m).accept
nodes_more table nodes n node acceptances is h at same none before m less = elim (cases_eq m n) [
  | inl here ↦
      let read : node_at table n ≡ node = sym (get_or_read table n node (subst (λ ns. n < length ns) is h) (at ∙ ap (λ ns. get_or ns n node) is) (record { next = []; accept = [] })) in
      subst (λ x. AreNonEmpty (node_at table x).accept) (sym here) (subst (λ (x : Node). AreNonEmpty x.accept) (sym read) (subst AreNonEmpty same (non_empty acceptances none)))
  | inr other ↦ before m (omega arith)
]

-- one more part
pub parts_more : (parts : List Part) (n : ℕ) (part : Part) → part_at parts n ≡ part
    → ((m k : ℕ) → k < length (node_at part.table m).accept → IsNonEmpty (get_or (node_at part.table m).accept k []))
    → ((j : ℕ) → j < n → IsBusyPart (part_at parts j)) → (j : ℕ) → j < n + 1 → IsBusyPart (part_at parts j)
parts_more parts n part read all before j less = elim (cases_eq j n) [
  | inl here ↦ subst (λ x. IsBusyPart (part_at parts x)) (sym here) (subst IsBusyPart (sym read) (busy_part part all))
  | inr other ↦ before j (omega arith)
]

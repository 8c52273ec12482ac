-- Links that rise among few parts are few.
use Rattle.network_stages.proofs.Prelude.{◌≡◌, ℕ, zero, suc, ◌+◌, ◌*◌, ◌<◌, ◌≤◌, inl, inr, List, length, arith, Part, Link, IsBelow, link_in, AreLinksBefore}

abbrev number : Link → ℕ
number link = link.left * 512 + link.right

below_number : (a b : Link) → a.right < 512 → IsBelow a b → number a < number b
below_number a b small below = elim below [
  | inl less ↦ let h : a.left < b.left = less in omega arith
  | inr same ↦ let e : a.left ≡ b.left = same.0 in let h : a.right < b.right = same.1 in omega arith
]

module _ (parts : List Part) (few : length parts ≤ 512) (i j : ℕ) (links : List Link) (a : AreLinksBefore parts i j links) where
  small : (k : ℕ) → k < length links → (link_in links k).right < 512
  small k less = let h : (link_in links k).right < length parts = (a.joins k less).within in omega arith

  at_least : (k : ℕ) → k < length links → k ≤ number (link_in links k)
  at_least zero less = omega arith
  at_least (suc k) less =
      let front : k < length links = omega arith in
      let before : k ≤ number (link_in links k) = at_least k front in
      let step : number (link_in links k) < number (link_in links (suc k)) = below_number (link_in links k) (link_in links (suc k)) (small k front) (a.rise k (suc k) (omega arith) less) in
      omega arith

  bounded : (k : ℕ) → k < length links → k < 262144
  bounded k less =
      let h : k ≤ number (link_in links k) = at_least k less in
      let right : (link_in links k).right < 512 = small k less in
      let order : (link_in links k).left < (link_in links k).right = (a.joins k less).ordered in
      omega arith

  pub few_links : length links ≤ 262144
  few_links = go (length links) bounded
    where
      go : (n : ℕ) → ((k : ℕ) → k < n → k < 262144) → n ≤ 262144
      go zero all = omega arith
      go (suc n) all = let h : n < 262144 = all n (omega arith) in omega arith

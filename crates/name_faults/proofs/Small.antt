-- Few declarations, none of them deep: each one that is read is no deeper than the deepest, and the numbers of declarations and of definitions stay below
-- the bound on the size of all.
use Rattle.name_faults.proofs.Prelude.{◌≡◌, ℕ, zero, suc, ◌+◌, ◌<◌, ◌≤◌, List, [], ◌∷◌, length, take, get_or, ap, arith, length-take, Decl, Counts, counted, none_yet, counts_of, next_definition, declaration_depth, declaration_size, depth, size, Known, IsKnown, IsNext}

pub in_declarations : (ds : List Decl) (i : ℕ) (d : Decl) → i < length ds → d ≡ get_or ds i d → declaration_depth d ≤ depth ds
in_declarations [] i d within is = absurd (omega arith)
in_declarations (e ∷ ds) zero d within is = let same : declaration_depth d ≡ declaration_depth e = ap declaration_depth is in omega arith
in_declarations (e ∷ ds) (suc i) d within is = let rest : declaration_depth d ≤ depth ds = in_declarations ds i d (omega arith) is in omega arith

one_counts : (d : Decl) → 0 < declaration_size d
one_counts (Decl.Channel xs types) = omega arith
one_counts _ = omega arith

as_many_at_least : (ds : List Decl) → length ds ≤ size ds
as_many_at_least [] = omega arith
as_many_at_least (d ∷ ds) = let rest : length ds ≤ size ds = as_many_at_least ds in let here : 0 < declaration_size d = one_counts d in omega arith

one_more_at_most : (n : Counts) (d : Decl) → (counted n d).definitions ≤ n.definitions + 1
one_more_at_most n (Decl.Channel xs types) = omega arith
one_more_at_most n _ = omega arith

definitions_among : (n : Counts) (ds : List Decl) → (counts_of n ds).definitions ≤ n.definitions + length ds
definitions_among n [] = omega arith
definitions_among n (d ∷ ds) =
    let here : (counted n d).definitions ≤ n.definitions + 1 = one_more_at_most n d in
    let rest : (counts_of (counted n d) ds).definitions ≤ (counted n d).definitions + length ds = definitions_among (counted n d) ds in
    omega arith

-- what is known of the first declarations, where there is one more
module _ (ds : List Decl) (i limit : ℕ) (k new : Known) (d : Decl) (within : i < length ds) (few : size ds ≤ limit) (known : IsKnown (take i ds) k) (next : IsNext k d new) where
  pub declarations_fit : new.declarations < limit
  declarations_fit =
      let now = next.declarations in
      let earlier = known.declarations in
      let all : length ds ≤ size ds = as_many_at_least ds in
      omega (arith, length-take i ds)

  pub definitions_fit : new.definitions < limit
  definitions_fit =
      let now = next.definitions in
      let earlier = known.definitions in
      let among : next_definition (take i ds) ≤ 0 + length (take i ds) = definitions_among none_yet (take i ds) in
      let all : length ds ≤ size ds = as_many_at_least ds in
      omega (arith, length-take i ds)

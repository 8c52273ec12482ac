-- A script has no more channels, constants and definitions than its declarations hold: each is a name of theirs, or one of them.
use Rattle.csp_resolve.proofs.Prelude.{◌≡◌, ℕ, ◌+◌, ◌<◌, ◌≤◌, ◌^◌, List, [], ◌∷◌, length, drop, get_or, ap, length-append, arith, drop_read, Decl, MOST_BYTES, channels_of, constants_of, defined, definitions_from, plain_content, Counts, Meanings, counted, meanings_of, none_yet, Kind, declaration_size, size}
use Rattle.std.proofs.lemmas.List.{length-map}
use Rattle.std.specs.List.{flat_map}
use Rattle.resolved_laws.specs.Laws.{HasFew}

-- no declaration is without size
has_size : (d : Decl) → 1 ≤ declaration_size d
has_size (Decl.Channel xs types) = omega arith
has_size _ = omega arith

-- Declarations are counted one after another, while those before and the size of what is left are no more than a limit.
pub record IsCounted (decls : List Decl) (i k : ℕ) (d : Decl) (limit : ℕ) : Type 0 where
  pub own : declaration_size d ≤ limit
  pub next : k + 1 ≤ limit
  pub left : k + 1 + size (drop (i + 1) decls) ≤ limit

pub one_counted : (decls : List Decl) (i k : ℕ) (d : Decl) (limit : ℕ) → i < length decls → d ≡ get_or decls i d → k + size (drop i decls) ≤ limit → IsCounted decls i k d limit
one_counted decls i k d limit within is few =
    let here : size (drop i decls) ≡ declaration_size d + size (drop (i + 1) decls) = ap size (drop_read decls i d within is) in
    let own = has_size d in
    record { own = omega arith; next = omega arith; left = omega arith }

flat_few : {X : Type 0} (f : Decl → List X) → ((d : Decl) → length (f d) ≤ declaration_size d) → (decls : List Decl) → length (flat_map f decls) ≤ size decls
flat_few f within [] = omega arith
flat_few f within (d ∷ decls) = omega (arith, length-append (f d) (flat_map f decls), within d, flat_few f within decls)

module _ (meanings : Meanings) (kinds : List Kind) where
  channels_few : (d : Decl) → length (channels_of meanings kinds d) ≤ declaration_size d
  channels_few (Decl.Channel xs types) =
      let long : length (channels_of meanings kinds (Decl.Channel xs types)) ≡ length xs = length-map xs _ in
      omega arith
  channels_few _ = omega arith

  constants_few : (d : Decl) → length (constants_of meanings kinds d) ≤ declaration_size d
  constants_few (Decl.Datatype x ks) = omega arith
  constants_few _ = omega arith

  defined_few : (n : Counts) (d : Decl) → length (defined meanings kinds n d) ≤ declaration_size d
  defined_few n (Decl.Channel xs types) = omega arith
  defined_few n _ = omega arith

  definitions_few : (n : Counts) (decls : List Decl) → length (definitions_from meanings kinds n decls) ≤ size decls
  definitions_few n [] = omega arith
  definitions_few n (d ∷ decls) =
      omega (arith, length-append (defined meanings kinds n d) (definitions_from meanings kinds (counted n d) decls), defined_few n d, definitions_few (counted n d) decls)

below : (n whole : ℕ) → n ≤ whole → whole ≤ MOST_BYTES → n < 2 ^ 32
below n whole h k = omega arith

at_most : (n whole limit : ℕ) → n ≤ whole → whole ≤ limit → n ≤ limit
at_most n whole limit h k = omega arith

-- 32 bits number them
pub has_few : (decls : List Decl) (kinds : List Kind) → size decls ≤ MOST_BYTES → HasFew (plain_content decls kinds)
has_few decls kinds few = record {
  channels = below _ (size decls) (flat_few _ (channels_few (meanings_of decls) kinds) decls) few;
  consts = below _ (size decls) (flat_few _ (constants_few (meanings_of decls) kinds) decls) few;
  defs = below _ (size decls) (definitions_few (meanings_of decls) kinds none_yet decls) few;
}

pub few_channels : (decls : List Decl) (kinds : List Kind) → size decls ≤ MOST_BYTES → length (plain_content decls kinds).channels ≤ MOST_BYTES
few_channels decls kinds few = at_most _ (size decls) MOST_BYTES (flat_few _ (channels_few (meanings_of decls) kinds) decls) few

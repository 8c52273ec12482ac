-- What declarations declare is no more than their size.
use Rattle.name_tables.proofs.Prelude.{◌≡◌, ℕ, zero, suc, ◌+◌, ◌<◌, ◌≤◌, List, [], ◌∷◌, length, drop, get_or, ap, arith, Decl, drop_read, total, Counts, counted, declaration_size, size}

-- the next declaration, and those that are left after it
pub size_read : (decls : List Decl) (i : ℕ) (d : Decl) → i < length decls → d ≡ get_or decls i d → size (drop i decls) ≡ declaration_size d + size (drop (i + 1) decls)
size_read decls i d within is = ap size (drop_read decls i d within is)

-- a declaration is no larger than all
pub size_at : (decls : List Decl) (i : ℕ) (d : Decl) → i < length decls → d ≡ get_or decls i d → declaration_size d ≤ size decls
size_at [] i d within is = absurd (omega arith)
size_at (e ∷ decls) zero d within is = let same : declaration_size d ≡ declaration_size e = ap declaration_size is in omega arith
size_at (e ∷ decls) (suc i) d within is = let later = size_at decls i d (omega arith) is in omega arith

-- each name that a declaration declares is a part of it
pub counted_more : (n : Counts) (d : Decl) → total (counted n d) ≤ total n + declaration_size d
counted_more n (Decl.Channel xs types) = omega arith
counted_more n _ = omega arith

-- what holds of what is left before a declaration is read holds after it
pub few_left : (n next : Counts) (i : ℕ) (decls : List Decl) (d : Decl) (limit : ℕ) → i < length decls → d ≡ get_or decls i d → next ≡ counted n d
    → total n + size (drop i decls) ≤ limit → total next + size (drop (i + 1) decls) ≤ limit
few_left n next i decls d limit within is next_is few =
    let read = size_read decls i d within is in
    let more = counted_more n d in
    let same : total next ≡ total (counted n d) = ap total next_is in
    omega arith

-- the declaration that is read
pub few_here : (n : Counts) (i : ℕ) (decls : List Decl) (d : Decl) (limit : ℕ) → i < length decls → d ≡ get_or decls i d
    → total n + size (drop i decls) ≤ limit → total n + declaration_size d ≤ limit
few_here n i decls d limit within is few = let read = size_read decls i d within is in omega arith

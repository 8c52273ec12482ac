-- Names and lists of them.
use Rattle.name_tables.proofs.Prelude.{◌≡◌, Bool, true, false, cond, if◌then◌else◌, ◌||◌, nat_eq, List, [], ◌∷◌, ◌++◌, Option, Some, None, is_some, refl, sym, ◌∙◌, ap, pointwise, list_any, Decl, Name, Entities, declared, first_of, is_among, meanings_of, same_name, SameFirsts, SameNames, Entity, eqb-true, eq-eqb, and_from, IsExact-pointwise, list_any-append}

pub same_itself : (x : Name) → same_name x x ≡ true
same_itself [] = refl
same_itself (k ∷ x) = and_from (nat_eq k k) (pointwise nat_eq x x) (eq-eqb k k refl) (same_itself x)

pub same_exact : (x y : Name) → same_name x y ≡ true → x ≡ y
same_exact = IsExact-pointwise nat_eq eqb-true

-- the first of two
abbrev pub first : Option Entity → Option Entity → Option Entity
first (Some e) other = Some e
first None other = other

first_step : (b : Bool) (e : Entity) (o p : Option Entity) → cond b (Some e) (first o p) ≡ first (cond b (Some e) o) p
first_step true e o p = refl
first_step false e o p = refl

pub first_of-append : (es fs : Entities) (y : Name) → first_of (es ++ fs) y ≡ first (first_of es y) (first_of fs y)
first_of-append [] fs y = refl
first_of-append (e ∷ es) fs y =
    ap (λ o. cond (same_name y e.0) (Some e.1) o) (first_of-append es fs y)
    ∙ first_step (same_name y e.0) e.1 (first_of es y) (first_of fs y)

pub same_firsts-append : (es fs gs : Entities) → SameFirsts es fs → SameFirsts (es ++ gs) (fs ++ gs)
same_firsts-append es fs gs same y =
    first_of-append es gs y ∙ ap (λ o. first o (first_of gs y)) (same y) ∙ sym (first_of-append fs gs y)

first-known : (o p : Option Entity) → is_some o ≡ true → o ≡ first o p
first-known (Some e) p h = refl
first-known None p h = cc

first-none : (o : Option Entity) → o ≡ first o None
first-none (Some e) = refl
first-none None = refl

-- a name that is declared already stands for what it did
pub same_firsts_known : (es : Entities) (x : Name) (e : Entity) → is_some (first_of es x) ≡ true → SameFirsts es (es ++ (x, e) ∷ [])
same_firsts_known es x e known y = by (same_name y x) refl ∙ sym (first_of-append es ((x, e) ∷ []) y)
  where
    by : (b : Bool) → same_name y x ≡ b → first_of es y ≡ first (first_of es y) (cond b (Some e) None)
    by true h = first-known (first_of es y) (Some e) (ap (λ z. is_some (first_of es z)) (same_exact y x h) ∙ known)
    by false h = first-none (first_of es y)

pub is_among-append : (xs ys : List Name) (y : Name) → is_among (xs ++ ys) y ≡ (is_among xs y || is_among ys y)
is_among-append xs ys y = list_any-append (same_name y) xs ys

pub same_names-append : (xs ys zs : List Name) → SameNames xs ys → SameNames (xs ++ zs) (ys ++ zs)
same_names-append xs ys zs same y = is_among-append xs zs y ∙ ap (λ b. b || is_among zs y) (same y) ∙ sym (is_among-append ys zs y)

pub none_there : (o : Option Entity) → is_some o ≡ false → o ≡ None
none_there (Some e) h = cc
none_there None h = refl

pub same_meanings : (script : List Decl) (es : Entities) → SameFirsts es (declared script) → first_of es ≡ meanings_of script
same_meanings script es same = λ i x. same x i

-- a set with one more name
pub among_longer : (old new : List Name) (x : Name) → new ≡ (if list_any (same_name x) old then old else old ++ x ∷ []) → SameNames new (old ++ x ∷ [])
among_longer old new x is y = ap (λ zs. is_among zs y) is ∙ by (list_any (same_name x) old) refl
  where
    known : (a : Bool) → a ≡ true → a ≡ (a || (true || false))
    known true e = refl
    known false e = cc

    other : (a : Bool) → a ≡ (a || (false || false))
    other true = refl
    other false = refl

    twice : list_any (same_name x) old ≡ true → (b : Bool) → same_name y x ≡ b → is_among old y ≡ (is_among old y || (b || false))
    twice there true e = known (is_among old y) (ap (is_among old) (same_exact y x e) ∙ there)
    twice there false e = other (is_among old y)

    by : (b : Bool) → list_any (same_name x) old ≡ b → is_among (if b then old else old ++ x ∷ []) y ≡ is_among (old ++ x ∷ []) y
    by true h = twice h (same_name y x) refl ∙ sym (is_among-append old (x ∷ []) y)
    by false h = refl

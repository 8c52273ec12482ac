-- Names that are declared one after another.
use Rattle.name_tables.proofs.Prelude.{◌≡◌, ℕ, ◌+◌, ◌<◌, ◌≤◌, List, [], ◌∷◌, ◌++◌, length, drop, get_or, sym, ap, ◌∙◌, append_assoc, flat_map, Decl, Name, Entities, Counts, channels_from, constants_from, counted, declared_from, declares, first_of, parameters, Scope, SameFirsts, drop_read, Entity, drop_of_length-le, append-nil}
use Rattle.name_tables.proofs.NameLemmas.{same_firsts-append}

-- what was declared stands in front of what is left
joined : (new names here more all whole : Entities) → SameFirsts new (names ++ here) → all ≡ here ++ more → SameFirsts (names ++ all) whole → SameFirsts (new ++ more) whole
joined new names here more all whole now all_is so_far y =
    same_firsts-append new (names ++ here) more now y
    ∙ ap (λ es. first_of es y) (append_assoc names here more ∙ ap (λ es. names ++ es) (sym all_is))
    ∙ so_far y

pub channels_step : (new names whole : Entities) (n next fields i : ℕ) (xs : List Name) (x : Name) → i < length xs → x ≡ get_or xs i x → next ≡ n + 1
    → SameFirsts new (names ++ (x, Entity.Channel n fields) ∷ []) → SameFirsts (names ++ channels_from n fields (drop i xs)) whole
    → SameFirsts (new ++ channels_from next fields (drop (i + 1) xs)) whole
channels_step new names whole n next fields i xs x within is next_is now so_far =
    joined new names ((x, Entity.Channel n fields) ∷ []) (channels_from next fields (drop (i + 1) xs)) (channels_from n fields (drop i xs)) whole now
    (ap (channels_from n fields) (drop_read xs i x within is) ∙ ap (λ m. (x, Entity.Channel n fields) ∷ channels_from m fields (drop (i + 1) xs)) (sym next_is))
    so_far

pub constants_step : (new names whole : Entities) (n next i : ℕ) (xs : List Name) (x : Name) → i < length xs → x ≡ get_or xs i x → next ≡ n + 1
    → SameFirsts new (names ++ (x, Entity.Constant n) ∷ []) → SameFirsts (names ++ constants_from n (drop i xs)) whole
    → SameFirsts (new ++ constants_from next (drop (i + 1) xs)) whole
constants_step new names whole n next i xs x within is next_is now so_far =
    joined new names ((x, Entity.Constant n) ∷ []) (constants_from next (drop (i + 1) xs)) (constants_from n (drop i xs)) whole now
    (ap (constants_from n) (drop_read xs i x within is) ∙ ap (λ m. (x, Entity.Constant n) ∷ constants_from m (drop (i + 1) xs)) (sym next_is))
    so_far

pub declared_step : (new names whole : Entities) (n next : Counts) (i : ℕ) (decls : List Decl) (d : Decl) → i < length decls → d ≡ get_or decls i d → next ≡ counted n d
    → SameFirsts new (names ++ declares n d) → SameFirsts (names ++ declared_from n (drop i decls)) whole
    → SameFirsts (new ++ declared_from next (drop (i + 1) decls)) whole
declared_step new names whole n next i decls d within is next_is now so_far =
    joined new names (declares n d) (declared_from next (drop (i + 1) decls)) (declared_from n (drop i decls)) whole now
    (ap (declared_from n) (drop_read decls i d within is) ∙ ap (λ m. declares n d ++ declared_from m (drop (i + 1) decls)) (sym next_is))
    so_far

-- nothing is left
pub nothing_left : {X : Type 0} (f : List X → Entities) (names whole : Entities) (i : ℕ) (xs : List X) → f [] ≡ [] → length xs ≤ i → SameFirsts (names ++ f (drop i xs)) whole → SameFirsts names whole
nothing_left f names whole i xs none at_end so_far y =
    ap (λ es. first_of es y) (sym (append-nil names) ∙ ap (λ es. names ++ es) (sym (ap f (drop_of_length-le xs at_end) ∙ none))) ∙ so_far y

-- a datatype, then its constants
pub datatype_names : (new between names : Entities) (e : Name) (d : ℕ) (constants : Entities) → SameFirsts between (names ++ (e, Entity.Set d) ∷ []) → SameFirsts new (between ++ constants)
    → SameFirsts new (names ++ ((e, Entity.Set d) ∷ constants))
datatype_names new between names e d constants first rest y =
    rest y ∙ same_firsts-append between (names ++ (e, Entity.Set d) ∷ []) constants first y
    ∙ ap (λ es. first_of es y) (append_assoc names ((e, Entity.Set d) ∷ []) constants)

-- parameters are bound one after another
pub parameters_step : (new scope whole : Scope) (n next i : ℕ) (xs : List Name) (x : Name) → i < length xs → x ≡ get_or xs i x → next ≡ n + 1
    → new ≡ scope ++ (x, n) ∷ [] → scope ++ parameters n (drop i xs) ≡ whole → new ++ parameters next (drop (i + 1) xs) ≡ whole
parameters_step new scope whole n next i xs x within is next_is now so_far =
    ap (λ s. s ++ parameters next (drop (i + 1) xs)) now
    ∙ append_assoc scope ((x, n) ∷ []) (parameters next (drop (i + 1) xs))
    ∙ ap (λ s. scope ++ s) (ap (λ m. (x, n) ∷ parameters m (drop (i + 1) xs)) next_is ∙ sym (ap (parameters n) (drop_read xs i x within is)))
    ∙ so_far

pub parameters_end : (scope whole : Scope) (n i : ℕ) (xs : List Name) → length xs ≤ i → scope ++ parameters n (drop i xs) ≡ whole → scope ≡ whole
parameters_end scope whole n i xs at_end so_far =
    sym (append-nil scope) ∙ ap (λ s. scope ++ s) (sym (ap (parameters n) (drop_of_length-le xs at_end))) ∙ so_far

-- one more of a list that is mapped and joined
pub flat_step : {X Y : Type 0} (f : X → List Y) (new old whole : List Y) (i : ℕ) (xs : List X) (x : X) → i < length xs → x ≡ get_or xs i x
    → new ≡ old ++ f x → old ++ flat_map f (drop i xs) ≡ whole → new ++ flat_map f (drop (i + 1) xs) ≡ whole
flat_step f new old whole i xs x within is now so_far =
    ap (λ ys. ys ++ flat_map f (drop (i + 1) xs)) now
    ∙ append_assoc old (f x) (flat_map f (drop (i + 1) xs))
    ∙ ap (λ ys. old ++ ys) (sym (ap (flat_map f) (drop_read xs i x within is)))
    ∙ so_far

pub flat_end : {X Y : Type 0} (f : X → List Y) (old whole : List Y) (i : ℕ) (xs : List X) → length xs ≤ i → old ++ flat_map f (drop i xs) ≡ whole → old ≡ whole
flat_end f old whole i xs at_end so_far =
    sym (append-nil old) ∙ ap (λ ys. old ++ ys) (sym (ap (flat_map f) (drop_of_length-le xs at_end))) ∙ so_far

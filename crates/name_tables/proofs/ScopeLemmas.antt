-- Scopes that grow and shrink at their end.
use Rattle.name_tables.proofs.Prelude.{◌≡◌, ℕ, zero, suc, take, Bool, true, false, cond, ◌||◌, List, [], ◌∷◌, ◌++◌, map, Option, Some, None, is_some, refl, sym, ◌∙◌, ap, subst, append_assoc, Name, is_among, same_name, Scope, names_of, number_of, or_else, shown, KeepHidden, HasNumbers, Writes, Spelling, at_name, BTreeMap, Binding}
use Rattle.name_tables.proofs.NameLemmas.{same_itself, same_exact}

-- the last binding of a spelling counts
or_step : (b : Bool) (n : Option ℕ) (o p : Option ℕ) → or_else (cond b n o) p ≡ cond b (or_else n p) (or_else o p)
or_step true n o p = refl
or_step false n o p = refl

pub number_of-push : (scope : Scope) (x : Name) (n : ℕ) (y : Name) → number_of (scope ++ (x, n) ∷ []) y ≡ cond (same_name y x) (Some n) (number_of scope y)
number_of-push [] x n y = refl
number_of-push (b ∷ scope) x n y =
    ap (λ o. or_else o (cond (same_name y b.0) (Some b.1) None)) (number_of-push scope x n y)
    ∙ or_step (same_name y x) (Some n) (number_of scope y) (cond (same_name y b.0) (Some b.1) None)

pub keep_hidden-push : (front : Scope) (bs : List Binding) (b : Binding) → KeepHidden front bs → b.hidden ≡ number_of (front ++ map shown bs) b.name → KeepHidden front (bs ++ b ∷ [])
keep_hidden-push front [] b kept h = (subst (λ s. b.hidden ≡ number_of s b.name) (append-nothing front) h, tt)
  where
    append-nothing : (s : Scope) → s ++ [] ≡ s
    append-nothing [] = refl
    append-nothing (e ∷ s) = ap (λ t. e ∷ t) (append-nothing s)
keep_hidden-push front (c ∷ bs) b kept h =
    (kept.0, keep_hidden-push (front ++ shown c ∷ []) bs b kept.1 (subst (λ s. b.hidden ≡ number_of s b.name) (sym (append_assoc front (shown c ∷ []) (map shown bs))) h))

pub kept-front : (front : Scope) (bs : List Binding) (b : Binding) → KeepHidden front (bs ++ b ∷ []) → KeepHidden front bs
kept-front front [] b kept = tt
kept-front front (c ∷ bs) b kept = (kept.0, kept-front (front ++ shown c ∷ []) bs b kept.1)

nothing_after : (s : Scope) → s ≡ s ++ []
nothing_after [] = refl
nothing_after (e ∷ s) = ap (λ t. e ∷ t) (nothing_after s)

pub kept-last : (front : Scope) (bs : List Binding) (b : Binding) → KeepHidden front (bs ++ b ∷ []) → b.hidden ≡ number_of (front ++ map shown bs) b.name
kept-last front [] b kept = subst (λ s. b.hidden ≡ number_of s b.name) (nothing_after front) kept.0
kept-last front (c ∷ bs) b kept =
    subst (λ s. b.hidden ≡ number_of s b.name) (append_assoc front (shown c ∷ []) (map shown bs)) (kept-last (front ++ shown c ∷ []) bs b kept.1)

pub map-push : (bs : List Binding) (b : Binding) → map shown (bs ++ b ∷ []) ≡ map shown bs ++ shown b ∷ []
map-push [] b = refl
map-push (c ∷ bs) b = ap (λ t. shown c ∷ t) (map-push bs b)

module _ (old new : BTreeMap Spelling ℕ) where
  -- once a name is bound, the map has the numbers of the longer scope
  pub numbers-push : (scope : Scope) (x : Name) (n : ℕ) → HasNumbers old scope → Writes old new x (Some n) → HasNumbers new (scope ++ (x, n) ∷ [])
  numbers-push scope x n has wrote y =
      wrote y ∙ ap (λ o. cond (same_name y x) (Some n) o) (has y) ∙ sym (number_of-push scope x n y)

  -- once it is unbound, of the shorter one
  pub numbers-pop : (scope : Scope) (x : Name) (n : ℕ) (hidden : Option ℕ) → HasNumbers old (scope ++ (x, n) ∷ []) → hidden ≡ number_of scope x → Writes old new x hidden → HasNumbers new scope
  numbers-pop scope x n hidden has kept wrote y = wrote y ∙ ap (λ o. cond (same_name y x) hidden o) (has y ∙ number_of-push scope x n y) ∙ by (same_name y x) refl
    where
      by : (b : Bool) → same_name y x ≡ b → cond b hidden (cond b (Some n) (number_of scope y)) ≡ number_of scope y
      by true h = kept ∙ ap (number_of scope) (sym (same_exact y x h))
      by false h = refl

-- what is kept of bindings with one more, and what the map has then
pub bound-kept : (bs new : List Binding) (b : Binding) → new ≡ bs ++ b ∷ [] → KeepHidden [] bs → b.hidden ≡ number_of (map shown bs) b.name → KeepHidden [] new
bound-kept bs new b e kept h = subst (KeepHidden []) (sym e) (keep_hidden-push [] bs b kept h)

pub bound-numbers : (old after : BTreeMap Spelling ℕ) (bs new : List Binding) (b : Binding) → new ≡ bs ++ b ∷ [] → HasNumbers old (map shown bs) → Writes old after b.name (Some b.number) → HasNumbers after (map shown new)
bound-numbers old after bs new b e has wrote =
    subst (HasNumbers after) (sym (ap (map shown) e ∙ map-push bs b)) (numbers-push old after (map shown bs) b.name b.number has wrote)

-- and with one less
pub unbound-kept : (bs new : List Binding) (b : Binding) → bs ≡ new ++ b ∷ [] → KeepHidden [] bs → KeepHidden [] new
unbound-kept bs new b e kept = kept-front [] new b (subst (KeepHidden []) e kept)

pub unbound-numbers : (old after : BTreeMap Spelling ℕ) (bs new : List Binding) (b : Binding) → bs ≡ new ++ b ∷ [] → KeepHidden [] bs → HasNumbers old (map shown bs) → Writes old after b.name b.hidden → HasNumbers after (map shown new)
unbound-numbers old after bs new b e kept has wrote =
    numbers-pop old after (map shown new) b.name b.number b.hidden
    (subst (HasNumbers old) (ap (map shown) e ∙ map-push new b) has)
    (kept-last [] new b (subst (KeepHidden []) e kept))
    wrote

some_first : (b : Bool) (n : ℕ) (o : Option ℕ) → b ≡ true → is_some (cond b (Some n) o) ≡ true
some_first true n o h = refl
some_first false n o h = cc

pub bound-found : (old : BTreeMap Spelling ℕ) (bs new : List Binding) (b : Binding) → bs ≡ new ++ b ∷ [] → HasNumbers old (map shown bs) → is_some (at_name old b.name) ≡ true
bound-found old bs new b e has =
    ap is_some (has b.name ∙ ap (λ s. number_of s b.name) (ap (map shown) e ∙ map-push new b) ∙ number_of-push (map shown new) b.name b.number b.name)
    ∙ some_first (same_name b.name b.name) b.number (number_of (map shown new) b.name) (same_itself b.name)

pub map-take : (n : ℕ) (bs : List Binding) → map shown (take n bs) ≡ take n (map shown bs)
map-take zero bs = refl
map-take (suc n) [] = refl
map-take (suc n) (b ∷ bs) = ap (λ t. shown b ∷ t) (map-take n bs)

or_some : (b : Bool) (n : ℕ) (o : Option ℕ) → is_some (or_else o (cond b (Some n) None)) ≡ (b || is_some o)
or_some true n (Some m) = refl
or_some true n None = refl
or_some false n (Some m) = refl
or_some false n None = refl

-- a name is bound where it has a number
pub bound_if_found : (scope : Scope) (x : Name) → is_among (names_of scope) x ≡ is_some (number_of scope x)
bound_if_found [] x = refl
bound_if_found (b ∷ scope) x =
    ap (λ c. same_name x b.0 || c) (bound_if_found scope x) ∙ sym (or_some (same_name x b.0) b.1 (number_of scope x))

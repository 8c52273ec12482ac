-- What is found of a name: where names count up, where they are bound over others, and where some are bound further in.
use Rattle.substitution.proofs.Prelude.{◌≡◌, ℕ, zero, suc, ◌+◌, ◌<◌, ◌≤◌, ◌||◌, Bool, true, false, cond, nat_eq, Option, Some, None, List, [], ◌∷◌, ◌++◌, get_or, length, map, refl, ap, sym, ◌∙◌, eq-eqb, arith, slice_get, is_some, eqb-true, length-map, Atom, Value, One, with_bound, given_by, without, Env, bound_to, atom_or, but_for, counts_up, CountUp, EndBy, NoneFrom, first_so, second_so, option_copied, false≢true, has}
use denote.Bor.{Bor}

not_same : (x y : ℕ) → (x ≡ y → ⊥) → nat_eq x y ≡ false
not_same x y h = grind arith

-- ---- names that count up

counts_step : (first x : ℕ) (xs : List ℕ) → counts_up first (x ∷ xs) ≡ true → (x ≡ first) × (counts_up (first + 1) xs ≡ true)
counts_step first x xs h =
    (eqb-true x first (first_so (nat_eq x first) (counts_up (first + 1) xs) h), second_so (nat_eq x first) (counts_up (first + 1) xs) h)

-- a name that is none of those is not there
pub not_there : (first : ℕ) (xs : List ℕ) (x : ℕ) → counts_up first xs ≡ true → ((k : ℕ) → k < length xs → first + k ≡ x → ⊥) → has xs x ≡ false
not_there first [] x h out = refl
not_there first (y ∷ ys) x h out =
    let at = counts_step first y ys h in
    λ i. not_same y x (λ e. out 0 (omega arith) (omega (arith, e, at.0))) i ||
    not_there (first + 1) ys x at.1 (λ k lt e. out (suc k) (omega (arith, lt)) (omega (arith, e))) i

-- ---- values at their places

pub listed_absent : (xs : List ℕ) (vs : List Value) (x : ℕ) → has xs x ≡ false → given_by (bound_to xs vs) x ≡ None
listed_absent [] vs x h = refl
listed_absent (y ∷ ys) [] x h = refl
listed_absent (y ∷ ys) (v ∷ vs) x h = grind (arith, listed_absent ys vs x)

pub listed_there : (first : ℕ) (xs : List ℕ) (vs : List Value) (k : ℕ) → counts_up first xs ≡ true → k < length xs
    → given_by (bound_to xs vs) (first + k) ≡ slice_get vs k
listed_there first [] vs k h lt = absurd (omega (arith, lt))
listed_there first (y ∷ ys) [] zero h lt = refl
listed_there first (y ∷ ys) [] (suc k) h lt = refl
listed_there first (y ∷ ys) (v ∷ vs) zero h lt =
    let at = counts_step first y ys h in
    λ i. cond (eq-eqb y (first + 0) (omega (arith, at.0)) i) (Some v) (given_by (bound_to ys vs) (first + 0))
listed_there first (y ∷ ys) (v ∷ vs) (suc k) h lt =
    let at = counts_step first y ys h in
    let next : first + suc k ≡ (first + 1) + k = omega arith in
    (λ i. cond (not_same y (first + suc k) (λ e. omega (arith, e, at.0)) i) (Some v) (given_by (bound_to ys vs) (first + suc k))) ∙
    (ap (given_by (bound_to ys vs)) next ∙ listed_there (first + 1) ys vs k at.1 (omega (arith, lt)))

-- ---- names that are bound over others

pub bound_absent : (bs : List (ℕ × Atom)) (x : ℕ) (env : Env) → has (map (λ b. b.0) bs) x ≡ false → given_by (with_bound bs env) x ≡ given_by env x
bound_absent [] x env h = refl
bound_absent (b ∷ bs) x env h = grind (arith, bound_absent bs x ((b.0, One b.1) ∷ env))

pub bound_there : (first : ℕ) (bs : List (ℕ × Atom)) (k : ℕ) (b : ℕ × Atom) (env : Env) → counts_up first (map (λ b. b.0) bs) ≡ true → k < length bs
    → given_by (with_bound bs env) (first + k) ≡ Some (One (get_or bs k b).1)
bound_there first [] k b env h lt = absurd (omega (arith, lt))
bound_there first (c ∷ bs) zero b env h lt =
    let at = counts_step first c.0 (map (λ b. b.0) bs) h in
    bound_absent bs (first + 0) ((c.0, One c.1) ∷ env) (not_there (first + 1) (map (λ b. b.0) bs) (first + 0) at.1 (λ k lt e. omega (arith, e))) ∙
    (λ i. cond (eq-eqb c.0 (first + 0) (omega (arith, at.0)) i) (Some (One c.1)) (given_by env (first + 0)))
bound_there first (c ∷ bs) (suc k) b env h lt =
    let at = counts_step first c.0 (map (λ b. b.0) bs) h in
    let next : first + suc k ≡ (first + 1) + k = omega arith in
    ap (given_by (with_bound bs ((c.0, One c.1) ∷ env))) next ∙ bound_there (first + 1) bs k b ((c.0, One c.1) ∷ env) at.1 (omega (arith, lt))

bound_one : (front : List (ℕ × Atom)) (last : ℕ × Atom) (env : Env) (x : ℕ)
    → given_by (with_bound (front ++ last ∷ []) env) x ≡ cond (nat_eq last.0 x) (Some (One last.1)) (given_by (with_bound front env) x)
bound_one [] last env x = refl
bound_one (b ∷ front) last env x = bound_one front last ((b.0, One b.1) ∷ env) x

pub bound_here : (all front : List (ℕ × Atom)) (last : ℕ × Atom) (env : Env) (x : ℕ) → all ≡ front ++ last ∷ [] → last.0 ≡ x
    → given_by (with_bound all env) x ≡ Some (One last.1)
bound_here all front last env x is same =
    ap (λ bs. given_by (with_bound bs env) x) is ∙
    (bound_one front last env x ∙ (λ i. cond (eq-eqb last.0 x same i) (Some (One last.1)) (given_by (with_bound front env) x)))

pub bound_before : (all front : List (ℕ × Atom)) (last : ℕ × Atom) (env : Env) (x : ℕ) → all ≡ front ++ last ∷ [] → (last.0 ≡ x → ⊥)
    → given_by (with_bound all env) x ≡ given_by (with_bound front env) x
bound_before all front last env x is other =
    ap (λ bs. given_by (with_bound bs env) x) is ∙
    (bound_one front last env x ∙ (λ i. cond (not_same last.0 x other i) (Some (One last.1)) (given_by (with_bound front env) x)))

-- ---- names that are bound further in

hidden_step : (hidden : List ℕ) (x : ℕ) (b : ℕ × Value) (env : Env) (gone : Bool) → has hidden b.0 ≡ gone → (same : Bool) → nat_eq b.0 x ≡ same
    → given_by (but_for hidden env) x ≡ cond (has hidden x) None (given_by env x)
    → given_by (cond gone (but_for hidden env) (b ∷ but_for hidden env)) x ≡ cond (has hidden x) None (given_by (b ∷ env) x)
hidden_step hidden x b env true h true e more =
    let there : has hidden x ≡ true = ap (has hidden) (sym (eqb-true b.0 x e)) ∙ h in
    more ∙ ((λ i. cond (there i) None (given_by env x)) ∙ (λ i. cond (sym there i) None (given_by (b ∷ env) x)))
hidden_step hidden x b env true h false e more = more ∙ (λ i. cond (has hidden x) None (cond (sym e i) (Some b.1) (given_by env x)))
hidden_step hidden x b env false h true e more =
    let there : has hidden x ≡ false = ap (has hidden) (sym (eqb-true b.0 x e)) ∙ h in
    (λ i. cond (e i) (Some b.1) (given_by (but_for hidden env) x)) ∙ (λ i. cond (sym there i) None (cond (sym e i) (Some b.1) (given_by env x)))
hidden_step hidden x b env false h false e more =
    (λ i. cond (e i) (Some b.1) (given_by (but_for hidden env) x)) ∙
    (more ∙ (λ i. cond (has hidden x) None (cond (sym e i) (Some b.1) (given_by env x))))

nothing : (b : Bool) (x : ℕ) → given_by [] x ≡ cond b None (given_by [] x)
nothing true x = refl
nothing false x = refl

-- the value of a name that is not hidden is the one that it had
given_but_for : (hidden : List ℕ) (env : Env) (x : ℕ) → given_by (but_for hidden env) x ≡ cond (has hidden x) None (given_by env x)
given_but_for hidden [] x = nothing (has hidden x) x
given_but_for hidden (b ∷ env) x = hidden_step hidden x b env (has hidden b.0) refl (nat_eq b.0 x) refl (given_but_for hidden env x)

pub none_hidden : (env : Env) → but_for [] env ≡ env
none_hidden [] = refl
none_hidden (b ∷ env) = λ i. b ∷ none_hidden env i

module _ (hidden list : List ℕ) (env self : Env) (view : but_for hidden env ≡ self) (is : list ≡ hidden) where
  found_of : (x : ℕ) (b : Bool) → b ≡ has list x → given_by self x ≡ cond b None (given_by env x)
  found_of x b e =
      ap (λ (left : Env). given_by left x) (sym view) ∙
      (given_but_for hidden env x ∙
      ((λ i. cond (has (sym is i) x) None (given_by env x)) ∙ (λ i. cond (sym e i) None (given_by env x))))

  -- a name that is hidden has no value, and another one has the value that it had
  pub when_hidden : (x : ℕ) (b : Bool) → b ≡ has list x → b ≡ true → given_by self x ≡ None
  when_hidden x b e h = found_of x b e ∙ (λ i. cond (h i) None (given_by env x))

  pub when_open : (x : ℕ) (b : Bool) → b ≡ has list x → b ≡ false → given_by self x ≡ given_by env x
  when_open x b e h = found_of x b e ∙ (λ i. cond (h i) None (given_by env x))

one_more : (hidden : List ℕ) (y x : ℕ) (v : Option Value) → cond (has (hidden ++ y ∷ []) x) None v ≡ cond (nat_eq y x) None (cond (has hidden x) None v)
one_more [] y x v = twice (nat_eq y x) false v
  where
    twice : (b c : Bool) (v : Option Value) → cond (b || c) None v ≡ cond b None (cond c None v)
    twice true c v = refl
    twice false c v = refl
one_more (z ∷ zs) y x v =
    elim (nat_eq z x) as (λ b. cond (b || has (zs ++ y ∷ []) x) None v ≡ cond (nat_eq y x) None (cond (b || has zs x) None v)) [
      | true ↦ none (nat_eq y x)
      | false ↦ one_more zs y x v
    ]
  where
    none : (b : Bool) → None ≡ cond {A = Option Value} b None None
    none true = refl
    none false = refl

-- one name more is hidden
pub hidden_more : (hidden new : List ℕ) (y : ℕ) (env self : Env) → new ≡ hidden ++ y ∷ [] → but_for hidden env ≡ self → given_by (but_for new env) ≡ without y (given_by self)
hidden_more hidden new y env self is view = λ i x. at x i
  where
    at : (x : ℕ) → given_by (but_for new env) x ≡ without y (given_by self) x
    at x =
        ap (λ (names : List ℕ). given_by (but_for names env) x) is ∙
        (given_but_for (hidden ++ y ∷ []) env x ∙
        (one_more hidden y x (given_by env x) ∙
        (ap (λ (v : Option Value). cond (nat_eq y x) None v) (sym (given_but_for hidden env x)) ∙
        ap (λ (left : Env). cond (nat_eq y x) None (given_by left x)) view)))

-- names that end by a number are below it
listed_below : (first : Option ℕ) (xs : List ℕ) (vs : List Value) (least : ℕ) → CountUp first xs → EndBy first (length xs) least → NoneFrom least (given_by (bound_to xs vs))
listed_below None xs vs least counts end = λ x le. absurd end
listed_below (Some first) xs vs least counts end = λ x le. listed_absent xs vs x (not_there first xs x counts (λ k lt e. omega (arith, end, le, lt, e)))

bound_below : (first : Option ℕ) (bs : List (ℕ × Atom)) (env : Env) (least x : ℕ) → CountUp first (map (λ b. b.0) bs) → EndBy first (length bs) least → least ≤ x
    → given_by (with_bound bs env) x ≡ given_by env x
bound_below None bs env least x counts end le = absurd end
bound_below (Some first) bs env least x counts end le =
    let same = length-map bs (λ b. b.0) in
    bound_absent bs x env (not_there first (map (λ b. b.0) bs) x counts (λ k lt e. omega (arith, same, end, le, lt, e)))

hidden_none : (b : Bool) (v : Option Value) → v ≡ None → cond b None v ≡ None
hidden_none true v h = refl
hidden_none false v h = h

pub all_below : (hidden : List ℕ) (first first_bound : Option ℕ) (xs : List ℕ) (vs : List Value) (bs : List (ℕ × Atom)) (self : Env) (least : ℕ)
    → but_for hidden (with_bound bs (bound_to xs vs)) ≡ self → CountUp first xs → CountUp first_bound (map (λ b. b.0) bs)
    → EndBy first (length xs) least → EndBy first_bound (length bs) least → NoneFrom least (given_by self)
all_below hidden first first_bound xs vs bs self least view counts counts_bound end end_bound = λ x le.
    ap (λ (left : Env). given_by left x) (sym view) ∙
    (given_but_for hidden (with_bound bs (bound_to xs vs)) x ∙
    hidden_none (has hidden x) (given_by (with_bound bs (bound_to xs vs)) x)
    (bound_below first_bound bs (bound_to xs vs) least x counts_bound end_bound le ∙ listed_below first xs vs least counts end x le))

some_atom : (a : Option Atom) (other : Option Value) → is_some a ≡ true → is_some (atom_or a other) ≡ true
some_atom None other h = absurd (false≢true h)
some_atom (Some a) other h = refl

no_atom : (a : Option Atom) (other : Option Value) → is_some a ≡ false → atom_or a other ≡ other
no_atom None other h = refl
no_atom (Some a) other h = absurd (false≢true (sym h))

-- whether a name has a value, where it is bound and where it is not
pub has_atom : (self bound : Option Value) (a : Option Atom) (other : Option Value) → self ≡ bound → bound ≡ atom_or a other → is_some a ≡ true → true ≡ is_some self
has_atom self bound a other e f h = sym (ap is_some (e ∙ f) ∙ some_atom a other h)

pub has_listed : (self bound : Option Value) (a : Option Atom) (listed : Option (Bor Value)) (other : Option Value) (found : Bool) → self ≡ bound → bound ≡ atom_or a other → is_some a ≡ false
    → option_copied listed ≡ other → found ≡ is_some listed → found ≡ is_some self
has_listed self bound a None other found e f h copied is = is ∙ ap is_some (copied ∙ sym (e ∙ (f ∙ no_atom a other h)))
has_listed self bound a (Some v) other found e f h copied is = is ∙ ap is_some (copied ∙ sym (e ∙ (f ∙ no_atom a other h)))

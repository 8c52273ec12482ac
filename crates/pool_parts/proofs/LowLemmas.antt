-- Numbers below which no name is read, of names put together.
use Rattle.pool_parts.proofs.Prelude.{◌≡◌, ◌⊎◌, inl, inr, ℕ, ◌+◌, ◌<◌, ◌≤◌, min, Bool, true, false, ◌||◌, ◌&&◌, not, nat_eq, List, [], ◌∷◌, length, map, drop, get_or, Some, None, refl, ap, sym, ◌∙◌, subst, arith, drop_of_length-le, false≢true, eqb-true, drop_read, Names, Binding, any_of, before, either, expr_free, gen_binding, nowhere, under, Given, Gen, Field, IsLow, GetNone, NoneFrom}
use Rattle.csp_program.specs.declared.processes.Field.TheVariants as field

-- where one of two or what is left under a binding is so, in terms of what that is made of
through : (a n u v w : Bool) → (u ≡ true → (v ≡ true) ⊎ (w ≡ true)) → a || (n && u) ≡ true → (a || (n && v) ≡ true) ⊎ (w ≡ true)
through true n u v w h e = inl refl
through false true u v w h e = h e
through false false u v w h e = absurd (false≢true e)

pub one_of : (a b : Bool) → a || b ≡ true → (a ≡ true) ⊎ (b ≡ true)
one_of true b e = inl refl
one_of false b e = inr e

-- what is read under generators or by them, and after fields or by them
pub under_split : (gs : List Binding) (inner : Names) (x : ℕ) → under gs inner x ≡ true → (under gs nowhere x ≡ true) ⊎ (inner x ≡ true)
under_split [] inner x e = inr e
under_split (g ∷ gs) inner x e = through (g.0 x) (not (g.1 x)) (under gs inner x) (under gs nowhere x) (inner x) (under_split gs inner x) e

pub before_split : (fs : List Field) (inner : Names) (x : ℕ) → before fs inner x ≡ true → (before fs nowhere x ≡ true) ⊎ (inner x ≡ true)
before_split [] inner x e = inr e
before_split (field.Put a ∷ fs) inner x e = through (expr_free a x) true (before fs inner x) (before fs nowhere x) (inner x) (before_split fs inner x) e
before_split (field.Get y (Some s) ∷ fs) inner x e = through (expr_free s x) (not (nat_eq y x)) (before fs inner x) (before fs nowhere x) (inner x) (before_split fs inner x) e
before_split (field.Get y None ∷ fs) inner x e = through false (not (nat_eq y x)) (before fs inner x) (before fs nowhere x) (inner x) (before_split fs inner x) e

-- the first generator, and the first field
pub first_gen : (g : Binding) (gs : List Binding) (x : ℕ) → under (g ∷ gs) nowhere x ≡ true → (g.0 x ≡ true) ⊎ (under gs nowhere x ≡ true)
first_gen g gs x e = first (g.0 x) (not (g.1 x)) (under gs nowhere x) e
  where
    first : (a n u : Bool) → a || (n && u) ≡ true → (a ≡ true) ⊎ (u ≡ true)
    first true n u h = inl refl
    first false true u h = inr h
    first false false u h = absurd (false≢true h)

pub first_field : (f : Field) (fs : List Field) (x : ℕ) → before (f ∷ fs) nowhere x ≡ true → (before (f ∷ []) nowhere x ≡ true) ⊎ (before fs nowhere x ≡ true)
first_field (field.Put a) fs x e = through (expr_free a x) true (before fs nowhere x) false (before fs nowhere x) (λ h. inr h) e
first_field (field.Get y (Some s)) fs x e = through (expr_free s x) (not (nat_eq y x)) (before fs nowhere x) false (before fs nowhere x) (λ h. inr h) e
first_field (field.Get y None) fs x e = through false (not (nat_eq y x)) (before fs nowhere x) false (before fs nowhere x) (λ h. inr h) e

pub none_low : (m : ℕ) → IsLow m nowhere
unfolding IsLow
none_low m x h = absurd (false≢true h)

pub name_low : (m y : ℕ) → m ≡ y → IsLow m (nat_eq y)
unfolding IsLow
name_low m y e x h = let same = eqb-true y x h in omega (arith, e, same)

pub lower : (m n : ℕ) (a : Names) → m ≤ n → IsLow n a → IsLow m a
unfolding IsLow
lower m n a h low x e = let l = low x e in omega (arith, h, l)

-- names each of which is one of others
pub low_of : (m : ℕ) (a b whole : Names) → ((x : ℕ) → whole x ≡ true → (a x ≡ true) ⊎ (b x ≡ true)) → IsLow m a → IsLow m b → IsLow m whole
unfolding IsLow
low_of m a b whole split h g x e = either_one (split x e)
  where
    either_one : (a x ≡ true) ⊎ (b x ≡ true) → m ≤ x
    either_one (inl l) = h x l
    either_one (inr r) = g x r

pub low_both : (m l r : ℕ) (a b whole : Names) → ((x : ℕ) → whole x ≡ true → (a x ≡ true) ⊎ (b x ≡ true)) → m ≡ min l r → IsLow l a → IsLow r b → IsLow m whole
low_both m l r a b whole split e h g = low_of m a b whole split (lower m l a (omega (arith, e)) h) (lower m r b (omega (arith, e)) g)

pub low_either : (m l r : ℕ) (a b : Names) → m ≡ min l r → IsLow l a → IsLow r b → IsLow m (either a b)
low_either m l r a b = low_both m l r a b (either a b) (λ x. one_of (a x) (b x))

pub low_under : (m l r : ℕ) (inner : Names) (gs : List Binding) → m ≡ min l r → IsLow l inner → IsLow r (under gs nowhere) → IsLow m (under gs inner)
low_under m l r inner gs e h g = low_both m r l (under gs nowhere) inner (under gs inner) (under_split gs inner) (omega (arith, e)) g h

-- names of a list, of which one is looked at after another: what is known so far, together with the rest, is all
module _ {X : Type 0} (F : List X → Names) (xs : List X) where
  abbrev pub LowSoFar : ℕ → ℕ → Type 0
  LowSoFar all i = (n : ℕ) → IsLow n (F (drop i xs)) → IsLow (min all n) (F xs)

  pub low_start : (all : ℕ) → LowSoFar all 0
  low_start all n h = lower (min all n) n (F xs) (omega arith) h

  pub low_step : (first : X → Names) → ((x : X) (ys : List X) (k : ℕ) → F (x ∷ ys) k ≡ true → (first x k ≡ true) ⊎ (F ys k ≡ true))
      → (i : ℕ) (x : X) (all m new : ℕ) → i < length xs → x ≡ get_or xs i x → LowSoFar all i → new ≡ min all m → IsLow m (first x) → LowSoFar new (i + 1)
  low_step first split i x all m new within read sofar e low n h =
      let here = low_both (min m n) m n (first x) (F (drop (i + 1) xs)) (F (x ∷ drop (i + 1) xs)) (split x (drop (i + 1) xs)) refl low h in
      lower (min new n) (min all (min m n)) (F xs) (omega (arith, e)) (sofar (min m n) (subst (λ (ys : List X). IsLow (min m n) (F ys)) (sym (drop_read xs i x within read)) here))

  pub low_end : F [] ≡ nowhere → (i all : ℕ) → length xs ≤ i → LowSoFar all i → IsLow all (F xs)
  low_end none i all past sofar =
      lower all (min all all) (F xs) (omega arith)
      (sofar all (subst (λ (names : Names). IsLow all names) (sym (ap F (drop_of_length-le xs past) ∙ none)) (none_low all)))

-- names of a list of expressions, of fronts, of generators, of fields and of pairs
abbrev pub each_free : {X : Type 0} → (X → Names) → List X → Names
each_free free xs = any_of (map free xs)

pub each_split : {X : Type 0} (free : X → Names) (x : X) (ys : List X) (k : ℕ) → each_free free (x ∷ ys) k ≡ true → (free x k ≡ true) ⊎ (each_free free ys k ≡ true)
each_split free x ys k = one_of (free x k) (each_free free ys k)

abbrev pub gens_free : List Gen → Names
gens_free gens = under (map gen_binding gens) nowhere

abbrev pub gen_free : Gen → Names
gen_free g = (gen_binding g).0

pub gens_split : (g : Gen) (gs : List Gen) (k : ℕ) → gens_free (g ∷ gs) k ≡ true → (gen_free g k ≡ true) ⊎ (gens_free gs k ≡ true)
gens_split g gs k = first_gen (gen_binding g) (map gen_binding gs) k

abbrev pub fields_free : List Field → Names
fields_free fields = before fields nowhere

abbrev pub field_free : Field → Names
field_free f = before (f ∷ []) nowhere

-- where no name from the number on gets a value, none of the names does
pub get_none : (least : ℕ) (given : Given) (names : Names) → NoneFrom least given → IsLow least names → GetNone given names
unfolding IsLow
get_none least given names none low x h = none x (low x h)

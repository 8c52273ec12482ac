-- The class of a definition follows one way of ends, which leads to one end; so each definition has one kind.
use Rattle.judgement.proofs.Prelude.{◌≡◌, ℕ, zero, suc, Bool, true, false, IsTrue, Option, Some, None, List, [], ◌∷◌, length, take, slice_get, refl, sym, ap, subst, ◌∙◌, arith, slice_get-map, LeadsTo, here, beyond, ends_at, first_ends, HasClass, IsKind, AreKinds, script_ends, option_map, Decl, Class, End, Kind}
use Rattle.script_names.specs.declared.kinds.Class.TheVariants as class
use Rattle.script_names.specs.declared.kinds.End.TheVariants as end

-- a list cut after its first member has at most one
one_of : (es : List End) (j k : ℕ) (x y : End) → slice_get (take 1 es) j ≡ Some x → slice_get (take 1 es) k ≡ Some y → x ≡ y
one_of [] zero k x y p q = absurd (let z : ⊥ = cc in z)
one_of [] (suc j) k x y p q = absurd (let z : ⊥ = cc in z)
one_of (e ∷ es) zero zero x y p q = cc
one_of (e ∷ es) zero (suc k) x y p q = absurd (let z : ⊥ = cc in z)
one_of (e ∷ es) (suc j) k x y p q = absurd (let z : ⊥ = cc in z)

one_in : (o : Option (List End)) (j k : ℕ) (x y : End) → slice_get (ends_at (option_map (λ es. take 1 es) o)) j ≡ Some x
    → slice_get (ends_at (option_map (λ es. take 1 es) o)) k ≡ Some y → x ≡ y
one_in None zero k x y p q = absurd (let z : ⊥ = cc in z)
one_in None (suc j) k x y p q = absurd (let z : ⊥ = cc in z)
one_in (Some es) j k x y p q = one_of es j k x y p q

module _ (all : List (List End)) where
  -- a definition has one end at most that is followed for its class
  one_end : (d j k : ℕ) (x y : End) → slice_get (ends_at (slice_get (first_ends all) d)) j ≡ Some x
      → slice_get (ends_at (slice_get (first_ends all) d)) k ≡ Some y → x ≡ y
  one_end d j k x y p q =
      let cut = slice_get-map (λ (es : List End). take 1 es) all d in
      one_in (slice_get all d) j k x y (subst (λ o. slice_get (ends_at o) j ≡ Some x) cut p) (subst (λ o. slice_get (ends_at o) k ≡ Some y) cut q)

  clash : (next : ℕ) → end.Data ≡ end.Use next → ⊥
  clash next e = cc

  clash_nothing : (next : ℕ) → end.Use next ≡ end.Nothing → ⊥
  clash_nothing next e = cc

  clash_both : end.Data ≡ end.Nothing → ⊥
  clash_both e = cc

  same_next : (m n : ℕ) → end.Use m ≡ end.Use n → m ≡ n
  same_next m n e = cc

  moved : (d c k : ℕ) (y : End) → d ≡ c → slice_get (ends_at (slice_get (first_ends all) c)) k ≡ Some y → slice_get (ends_at (slice_get (first_ends all) d)) k ≡ Some y
  moved d c k y e q = subst (λ z. slice_get (ends_at (slice_get (first_ends all) z)) k ≡ Some y) (sym e) q

  -- following ends comes to one end
  not_both : {d c : ℕ} → LeadsTo end.Data (first_ends all) d → LeadsTo end.Nothing (first_ends all) c → d ≡ c → ⊥
  not_both (here d j p) (here c k q) e = clash_both (one_end d j k end.Data end.Nothing p (moved d c k end.Nothing e q))
  not_both (here d j p) (beyond c k next q rest) e = clash next (one_end d j k end.Data (end.Use next) p (moved d c k (end.Use next) e q))
  not_both (beyond d j next p rest) (here c k q) e = clash_nothing next (one_end d j k (end.Use next) end.Nothing p (moved d c k end.Nothing e q))
  not_both (beyond d j next p rest) (beyond c k other q more) e =
      not_both rest more (same_next next other (one_end d j k (end.Use next) (end.Use other) p (moved d c k (end.Use other) e q)))

  one_class : (d : ℕ) (x y : Class) → HasClass all d x → HasClass all d y → x ≡ y
  one_class d class.Data class.Data p q = refl
  one_class d class.Data class.Process p q = absurd (q.0 p)
  one_class d class.Data class.Unknown p q = absurd (not_both p q refl)
  one_class d class.Process class.Data p q = absurd (p.0 q)
  one_class d class.Process class.Process p q = refl
  one_class d class.Process class.Unknown p q = absurd (p.1 q)
  one_class d class.Unknown class.Data p q = absurd (not_both q p refl)
  one_class d class.Unknown class.Process p q = absurd (q.1 p)
  one_class d class.Unknown class.Unknown p q = refl

  one_bool : (x y : Bool) → (IsTrue x → IsTrue y) → (IsTrue y → IsTrue x) → x ≡ y
  one_bool true true f g = refl
  one_bool true false f g = sym (f refl)
  one_bool false true f g = g refl
  one_bool false false f g = refl

  one_kind : (d : ℕ) (x y : Kind) → IsKind all d x → IsKind all d y → x ≡ y
  one_kind d x y p q =
      let classes : x ≡ record { class = y.class; network = x.network } = ap (λ (c : Class). record { class = c; network = x.network }) (one_class d x.class y.class p.class q.class) in
      let networks : record { class = y.class; network = x.network } ≡ y =
      ap (λ (n : Bool). record { class = y.class; network = n }) (one_bool x.network y.network (λ t. q.network.1 (p.network.0 t)) (λ t. p.network.1 (q.network.0 t))) in
      classes ∙ networks

-- lists that agree at each place
same_lists : (xs ys : List Kind) → length xs ≡ length ys → ((k : ℕ) (x y : Kind) → slice_get xs k ≡ Some x → slice_get ys k ≡ Some y → x ≡ y) → xs ≡ ys
same_lists [] [] e same = refl
same_lists [] (y ∷ ys) e same = absurd (let z : ⊥ = omega arith in z)
same_lists (x ∷ xs) [] e same = absurd (let z : ⊥ = omega arith in z)
same_lists (x ∷ xs) (y ∷ ys) e same =
    let first = same zero x y refl refl in
    let rest = same_lists xs ys (omega arith) (λ k a b p q. same (suc k) a b p q) in
    cc

pub kinds_are_unique : (decls : List Decl) (kinds others : List Kind) → AreKinds decls kinds → AreKinds decls others → kinds ≡ others
kinds_are_unique decls kinds others p q =
    same_lists kinds others (p.one_each ∙ sym q.one_each) (λ k x y at at'. one_kind (script_ends decls) k x y (p.each k x at) (q.each k y at'))

-- Laws of the order of atoms.
use Rattle.csp_atoms.proofs.Prelude.{◌≡◌, Bool, true, false, refl, ◌∙◌, ap, inl, inr, ◌⊎◌, arith, ℤ, pos, ◌<ℤ◌, false≢true, ints, nat_cmp_total, int_cmp_total, on_total, then_total, tied_itself, int_ranked, IsTotalOrder, Ordering, Less, Equal, Greater, int_cmp, is_lt, is_eq, ordering_reverse, kind_of, atom_number, order_of, less, same, Atom}
use Rattle.csp_atoms.specs.declared.atom.Atom.TheVariants as atom

pub order_total : IsTotalOrder order_of
order_total = then_total (on_total kind_of nat_cmp_total) (on_total atom_number int_cmp_total)

is_less : (o : Ordering) → is_lt o ≡ true → o ≡ Less
is_less Less h = refl
is_less Equal h = absurd (false≢true h)
is_less Greater h = absurd (false≢true h)

ints_equal : (o : Ordering) (m n : ℤ) → o ≡ int_cmp m n → is_eq o ≡ true → m ≡ n
ints_equal Less m n e h = absurd (false≢true h)
ints_equal Equal m n e h = int_ranked m n Equal e
ints_equal Greater m n e h = absurd (false≢true h)

bools_equal : (b c : Bool) → is_eq (order_of (atom.Truth b) (atom.Truth c)) ≡ true → b ≡ c
bools_equal true true h = refl
bools_equal true false h = absurd (false≢true h)
bools_equal false true h = absurd (false≢true h)
bools_equal false false h = refl

exact : (a b : Atom) → is_eq (order_of a b) ≡ true → a ≡ b
exact (atom.Num m) (atom.Num n) h = ap atom.Num (ints_equal (int_cmp m n) m n refl h)
exact (atom.Truth b) (atom.Truth c) h = ap atom.Truth (bools_equal b c h)
exact (atom.Const k) (atom.Const l) h = let e : pos k ≡ pos l = ints_equal (int_cmp (pos k) (pos l)) (pos k) (pos l) refl h in cc
exact (atom.Event k) (atom.Event l) h = let e : pos k ≡ pos l = ints_equal (int_cmp (pos k) (pos l)) (pos k) (pos l) refl h in cc
exact a b h = absurd (false≢true h)

-- atoms that compare equal are one atom
pub same_exact : (a b : Atom) → same a b ≡ true → a ≡ b
unfolding same
same_exact a b h = exact a b h

pub same_itself : (a : Atom) → same a a ≡ true
unfolding same
same_itself a = ap is_eq (tied_itself order_total a)

pub less-trans : (a b c : Atom) → less a b ≡ true → less b c ≡ true → less a c ≡ true
unfolding less
less-trans a b c h g = ap is_lt (order_total.trans a b c (is_less (order_of a b) h) (is_less (order_of b c) g))

pub less_number : (m n : ℤ) → m <ℤ n → less (atom.Num m) (atom.Num n) ≡ true
unfolding less
less_number m n h = grind (arith, ints)

pub less_itself : (a : Atom) → less a a ≡ false
unfolding less
less_itself a = ap is_lt (tied_itself order_total a)

-- what follows from the first atom coming before the second
pub record Before (a : Atom) (b : Atom) : Type 0 where
  pub is_before : less a b ≡ true
  pub not_back : less b a ≡ false
  pub not_same : same a b ≡ false
  pub not_same_back : same b a ≡ false

before : (a b : Atom) (o p : Ordering) → order_of a b ≡ o → order_of b a ≡ p → p ≡ ordering_reverse o → is_lt o ≡ true → Before a b
unfolding less same
before a b Less p e f r h = record {
  is_before = ap is_lt e;
  not_back = ap is_lt (f ∙ r);
  not_same = ap is_eq e;
  not_same_back = ap is_eq (f ∙ r);
}
before a b Equal p e f r h = absurd (false≢true h)
before a b Greater p e f r h = absurd (false≢true h)

pub before_from_less : (a b : Atom) → less a b ≡ true → Before a b
unfolding less
before_from_less a b h = before a b (order_of a b) (order_of b a) refl refl (order_total.antisymm b a) h

three : (a b : Atom) (o : Ordering) → order_of a b ≡ o → order_of b a ≡ ordering_reverse o → (less a b ≡ true) ⊎ ((a ≡ b) ⊎ (less b a ≡ true))
unfolding less same
three a b Less e f = inl (ap is_lt e)
three a b Equal e f = inr (inl (exact a b (ap is_eq e)))
three a b Greater e f = inr (inr (ap is_lt f))

-- the order is total
pub cases_atoms : (a b : Atom) → (less a b ≡ true) ⊎ ((a ≡ b) ⊎ (less b a ≡ true))
cases_atoms a b = three a b (order_of a b) refl (order_total.antisymm b a)

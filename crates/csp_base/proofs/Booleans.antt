-- Laws of truth values that the kit's library does not state, or states the other way round.
use Rattle.csp_base.proofs.Prelude.{◌≡◌, Bool, true, false, ◌&&◌, ◌||◌, refl, sym, IsTrue, false≢true, or-false, or_assoc}
pub use Rattle.std.proofs.Math.Bool.{and-false as and_false}

-- ---- equations

pub or_none : (a : Bool) → a ≡ (a || false)
or_none a = sym (or-false a)

pub or_regroup : (a b c : Bool) → (a || (b || c)) ≡ ((a || b) || c)
or_regroup a b c = sym (or_assoc a b c)

pub or_swap : (a b c : Bool) → (a || (b || c)) ≡ (b || (a || c))
or_swap true true c = refl
or_swap true false c = refl
or_swap false b c = refl

pub or_again : (a b : Bool) → (a || b) ≡ (a || (a || b))
or_again true b = refl
or_again false b = refl

pub or_unless : (a b : Bool) → b ≡ false → (a || b) ≡ a
or_unless true b h = refl
or_unless false b h = h

pub same_or : (a b c d : Bool) → a ≡ c → b ≡ d → (a || b) ≡ (c || d)
same_or a b c d p q = λ i. p i || q i

-- two tests that pass for the same things are equal
pub same_tests : (a b : Bool) → (a ≡ true → b ≡ true) → (b ≡ true → a ≡ true) → a ≡ b
same_tests true b f g = sym (f refl)
same_tests false true f g = g refl
same_tests false false f g = refl

-- ---- what fails, and what passes

pub or_first_false : (a b : Bool) → (a || b) ≡ false → a ≡ false
or_first_false true b h = h
or_first_false false b h = refl

pub or_second_false : (a b : Bool) → (a || b) ≡ false → b ≡ false
or_second_false true b h = absurd (false≢true (sym h))
or_second_false false b h = h

pub and_second_false : (a b : Bool) → (a && b) ≡ false → a ≡ true → b ≡ false
and_second_false true b h k = h
and_second_false false b h k = absurd (false≢true k)

pub and_first : (a b : Bool) → (a && b) ≡ true → a ≡ true
and_first true b h = refl
and_first false b h = absurd (false≢true h)

pub and_second : (a b : Bool) → (a && b) ≡ true → b ≡ true
and_second true b h = h
and_second false b h = absurd (false≢true h)

-- ---- the same for tests that are read as facts

pub is_and : (a b : Bool) → IsTrue a → IsTrue b → IsTrue (a && b)
is_and true b s t = t
is_and false b s t = absurd (false≢true s)

pub is_first : (a b : Bool) → IsTrue (a && b) → IsTrue a
is_first true b t = refl
is_first false b t = absurd (false≢true t)

pub is_second : (a b : Bool) → IsTrue (a && b) → IsTrue b
is_second true b t = t
is_second false b t = absurd (false≢true t)

pub is_or_first : (a b : Bool) → IsTrue a → IsTrue (a || b)
is_or_first true b t = refl
is_or_first false b t = absurd (false≢true t)

pub is_or_second : (a b : Bool) → IsTrue b → IsTrue (a || b)
is_or_second true b t = refl
is_or_second false b t = t

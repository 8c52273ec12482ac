-- What the blocks of a set say of the set.
use Rattle.csp_base.proofs.Prelude.{◌≡◌, ℕ, Bool, ◌&&◌, false, eqb, List, [], ◌∷◌, length, IsTrue, sym, subst, ap, ◌∙◌, arith, IsStrictlyIncreasing, pointwise, pointwise_decides, bytes_decides, Decides, has, AreBlocks, events_of, blocks_of}
use Rattle.csp_base.proofs.Standard.{false≢true, ne_eqb, same_from_decides, eqb-true, eq-eqb, and_parts, and_from}
use Rattle.csp_base.proofs.BlocksOf.{blocks_of-events_of}
use Rattle.csp_base.proofs.Rising.{RisesFrom, increasing_from_rises}
use Rattle.csp_base.proofs.BlockMembers.{RisesFrom-events_of}
use Rattle.csp_base.proofs.OrderLemmas.{some_event}

-- the events of blocks rise, under any name
pub set_rises : (ps : List (ℕ × ℕ)) (xs : List ℕ) → AreBlocks ps → events_of ps ≡ xs → RisesFrom 0 xs
set_rises ps xs r is = subst (RisesFrom 0) is (RisesFrom-events_of 0 ps r)

pub set_increases : (ps : List (ℕ × ℕ)) (xs : List ℕ) → AreBlocks ps → events_of ps ≡ xs → IsStrictlyIncreasing xs
set_increases ps xs r is = increasing_from_rises 0 xs (set_rises ps xs r is)

pub no_events : (ps : List (ℕ × ℕ)) (xs : List ℕ) (b : Bool) → AreBlocks ps → events_of ps ≡ xs → b ≡ eqb (length ps) 0 → (IsTrue b → xs ≡ []) × (xs ≡ [] → IsTrue b)
no_events [] xs b r is e = (λ _. sym is, λ _. e)
no_events (p ∷ ps) xs b r is e =
    let some = some_event p ps r in
    (λ h. absurd (false≢true (sym ne ∙ sym e ∙ h)), λ h. absurd (false≢true (ap (λ ys. has ys some.0) (sym (is ∙ h)) ∙ some.1)))
  where
    ne : eqb (length (p ∷ ps)) 0 ≡ false
    ne = ne_eqb (length (p ∷ ps)) 0 (omega arith)

-- ---- equality

same_pair : (x y : ℕ × ℕ) → Decides (eqb x.0 y.0 && eqb x.1 y.1) (x ≡ y)
same_pair x y = (
  λ e. let both = and_parts (eqb x.0 y.0) (eqb x.1 y.1) e in let first = eqb-true x.0 y.0 both.0 in let second = eqb-true x.1 y.1 both.1 in λ i. (first i, second i),
  λ e. and_from (eqb x.0 y.0) (eqb x.1 y.1) (eq-eqb x.0 y.0 (ap (λ p. p.0) e)) (eq-eqb x.1 y.1 (ap (λ p. p.1) e)),
)

-- the blocks are equal exactly where the events are
pub same_blocks : (ps qs : List (ℕ × ℕ)) → AreBlocks ps → AreBlocks qs → pointwise (λ (x : ℕ × ℕ) (y : ℕ × ℕ). eqb x.0 y.0 && eqb x.1 y.1) ps qs ≡ pointwise eqb (events_of ps) (events_of qs)
same_blocks ps qs r s =
    let blocks = pointwise_decides same_pair ps qs in
    let events = bytes_decides (events_of ps) (events_of qs) in
    same_from_decides {P = ps ≡ qs} (pointwise (λ (x : ℕ × ℕ) (y : ℕ × ℕ). eqb x.0 y.0 && eqb x.1 y.1) ps qs) (pointwise eqb (events_of ps) (events_of qs)) blocks
    (λ e. sym (blocks_of-events_of 0 ps r) ∙ ap blocks_of (events.0 e) ∙ blocks_of-events_of 0 qs s, λ e. events.1 (ap events_of e))

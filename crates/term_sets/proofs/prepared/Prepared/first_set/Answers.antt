use Rattle.term_sets.proofs.Prelude.{◌↔◌, ◌<◌, ℕ, zero, suc, [], ◌∷◌, IsTrue, length, sym, subst, arith, All, has, RawTable, IsSilentlyReached, IsSetAfter, IsTermSet}
use Rattle.term_sets.proofs.Silence.{silently}
use Rattle.term_sets.proofs.First.{first_after}
use Rattle.term_sets.proofs.prepared.Prepared.first_set.Goals as goal

-- the list of 0 alone
only_zero : (n : ℕ) → 0 < n → All (λ v. v < n) (0 ∷ [])
only_zero n some zero d h = some
only_zero n some (suc k) d h = absurd (omega arith)

pub closure_from-requires-clause-starts : goal.closure_from-requires-clause-starts
closure_from-requires-clause-starts c = only_zero (length c.self.inside.silent) (omega (arith, c.self.invariant.0.first, c.self.invariant.1.size))

pub returns-clause-after : goal.returns-clause-after
returns-clause-after c =
    let raw : RawTable = c.self.inside.offers in
    let members : (t : ℕ) → IsTrue (has c.in_ok-terms.terms.items t) ↔ IsSilentlyReached raw (0 ∷ []) t = λ t.
    let found = c.in_ok-terms.ensures.members t in
    let runs = silently raw c.self.inside.silent c.self.invariant.1 (0 ∷ []) t in
    (λ h. runs.0 (found.0 h), λ s. found.1 (runs.1 s))
    in
    subst (λ (r : RawTable). IsSetAfter r [] c.from_vec.result) c.self.view_is (subst (IsSetAfter raw []) (sym c.from_vec.ensures) (first_after raw c.in_ok-terms.terms.items members))

pub returns-clause-form : goal.returns-clause-form
returns-clause-form c =
    let raw : RawTable = c.self.inside.offers in
    let below : All (λ t. t < raw.count) c.in_ok-terms.terms.items = rw c.self.invariant.1.size at c.in_ok-terms.ensures.below in
    let form : IsTermSet raw c.in_ok-terms.terms.items = record { rising = c.in_ok-terms.ensures.rising; within = below } in
    subst (λ (r : RawTable). IsTermSet r c.from_vec.result) c.self.view_is (subst (IsTermSet raw) (sym c.from_vec.ensures) form)

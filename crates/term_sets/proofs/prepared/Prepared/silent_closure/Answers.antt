use Rattle.term_sets.proofs.Prelude.{◌↔◌, ◌<◌, ℕ, List, IsTrue, sym, subst, All, has, RawTable, HasArc, ReachesFrom, IsSilentlyReached, IsTermSet}
use Rattle.term_sets.proofs.Silence.{silently}
use Rattle.term_sets.proofs.prepared.Prepared.silent_closure.Goals as goal

pub returns-clause-members : goal.returns-clause-members
returns-clause-members c t =
    let raw : RawTable = c.self.inside.offers in
    let found : IsTrue (has c.from_vec.result t) ↔ ReachesFrom (HasArc c.self.inside.silent) c.args.starts.now t = subst (λ (xs : List ℕ). IsTrue (has xs t) ↔ ReachesFrom (HasArc c.self.inside.silent) c.args.starts.now t) (sym c.from_vec.ensures) (c.in_ok-terms.ensures.members t) in
    let runs = silently raw c.self.inside.silent c.self.invariant.1 c.args.starts.now t in
    subst (λ (r : RawTable). IsTrue (has c.from_vec.result t) ↔ IsSilentlyReached r c.args.starts.now t) c.self.view_is (λ h. runs.0 (found.0 h), λ s. found.1 (runs.1 s))

pub returns-clause-form : goal.returns-clause-form
returns-clause-form c =
    let raw : RawTable = c.self.inside.offers in
    let below : All (λ t. t < raw.count) c.in_ok-terms.terms.items = rw c.self.invariant.1.size at c.in_ok-terms.ensures.below in
    let form : IsTermSet raw c.in_ok-terms.terms.items = record { rising = c.in_ok-terms.ensures.rising; within = below } in
    subst (λ (r : RawTable). IsTermSet r c.from_vec.result) c.self.view_is (subst (IsTermSet raw) (sym c.from_vec.ensures) form)

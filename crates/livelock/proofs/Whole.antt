-- A network is refused, or no order of its components bounds the hidden events, or a bound is told; and the bound is one.
use Rattle.livelock.proofs.Prelude.{◌≡◌, ◌≤◌, ℕ, List, subst, sym, leaves, Taken, IsSpelled, Network, ProcessStep, refused_or, unproved_or, Refusal, Verdict, HasOrder, IsBoundOf, IsBounded, OrderDecides, hidden_steps_are_bounded, network_is_tree, Shortfall, BoundsHidden, IsBoundedWhole}
use Rattle.report.specs.declared.answer.Side.TheVariants as side
use Rattle.report.specs.declared.answer.Verdict.TheVariants as verdict

-- so many steps follow one another at most
most_steps : (network : Network) (events : List ℕ) (order : List Taken) (bound : ℕ) → IsSpelled network → HasOrder network events order → IsBoundOf events order bound → BoundsHidden network events bound
most_steps network events order bound spelled all is u v n reached walk =
    subst (λ (b : ℕ). n ≤ b) (sym is.0)
    (hidden_steps_are_bounded (ProcessStep network.program) network.tree u v events order n (network_is_tree network.program network.tree spelled).0.nesting all reached walk)

-- What holds of each refusal, where there is no order, and of the bound that is told, holds of the verdict.
pub bounded_cases : (network : Network) (name : List ℕ) (Q : Verdict → Type 0) → IsSpelled network → ((r : Refusal) → Q (verdict.Refused side.Script r)) → ((s : Shortfall) → Q (verdict.NotProved s))
    → ((v : Verdict) → IsBoundedWhole network name v → Q v) → (v : Verdict) → IsBounded network name v → Q v
unfolding IsBounded OrderDecides
bounded_cases network name Q spelled refused short whole =
    refused_or _ _ _ _ Q refused (λ expr a named.
    refused_or _ _ _ _ Q refused (λ events b value.
    refused_or _ _ _ _ Q refused (λ tables c are.
    unproved_or _ _ _ Q short (λ order d all.
    refused_or _ _ _ _ Q refused (λ bound e fits is.
    whole e (record {
      events = events;
      set = record { expr = expr; named = named; value = value };
      tables = tables;
      are = are;
      bound = bound;
      bounds = most_steps network events order bound spelled all fits;
      is = is;
    })) d) c) b) a)

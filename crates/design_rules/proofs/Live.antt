-- Each rule's ranking is good, so the network is live.
use Rattle.design_rules.proofs.Prelude.{ℕ, subst, Label, Live, Tree, NetworkStep, leaves, TripleDisjoint, Shape, IsWellFormed, HaveBehaviours, Ranking, Fits, Falls, MetRulesMeanLive, Cyclic, ClientServer, Resource, IsSound, good_rankings_mean_live, same_alphabets}
use Rattle.design_rules.proofs.CyclicRule.{cyclic_ranks_fall}
use Rattle.design_rules.proofs.ClientServer.{client_server_ranks_fall}
use Rattle.design_rules.proofs.Resource.{resource_ranks_fall}

by_ranking : {T : Type 0} (Step : T → Label → T → Type 0) (tree : Tree T) (bound : ℕ) (shape : Shape) (ranking : Ranking) → IsSound Step tree bound → IsWellFormed shape → HaveBehaviours Step (leaves tree) shape.parts → Fits shape.parts ranking → Falls shape.parts ranking → Live (NetworkStep Step) tree bound
by_ranking Step tree bound shape ranking sound form is fits falls = good_rankings_mean_live Step tree bound shape.parts ranking sound (record { form = form.form; behaviours = is; fits = fits; falls = falls })

pub met_rules_mean_live : {T : Type 0} (Step : T → Label → T → Type 0) → MetRulesMeanLive Step
met_rules_mean_live Step tree bound shape Cyclic ranking sound form is rule r = by_ranking Step tree bound shape ranking sound form is r.ranks.fits (cyclic_ranks_fall shape ranking form rule r)
met_rules_mean_live Step tree bound shape (ClientServer roles) ranking sound form is rule r = by_ranking Step tree bound shape ranking sound form is r.fits (client_server_ranks_fall shape roles ranking form rule r)
met_rules_mean_live Step tree bound shape (Resource uses) ranking sound form is rule r =
    by_ranking Step tree bound shape ranking sound form is r.ranks.fits
    (resource_ranks_fall shape uses ranking form (subst TripleDisjoint (same_alphabets Step (leaves tree) shape.parts is) sound.triple) rule r)

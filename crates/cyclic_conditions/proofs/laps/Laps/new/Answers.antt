use Rattle.cyclic_conditions.proofs.Prelude.{◌≡◌, ◌<◌, ◌^◌, ◌-◌, ◌∙◌, ℕ, List, length, ap, subst, arith, Shape, links_of, AreFound, IsExploration, lap_step, table_of}
use Rattle.cyclic_conditions.proofs.LapPlaces.{few_links, links_count}
use Rattle.cyclic_conditions.proofs.laps.Laps.new.Goals as goal

pub overflow_cast-links : goal.overflow_cast-links
overflow_cast-links c =
    let component = c.args.component.now in
    let few : length c.links.result.now < 2 ^ 32 = few_links component.shape.now c.shape-shape.result.now component.number c.links.result.now c.links.ensures c.shape-shape.ensures.value c.links-links.ensures.order in
    omega arith

pub new-lap-requires : goal.new-lap-requires
new-lap-requires c =
    let some : 0 < links_of c.args.component.now.shape.now c.args.component.now.number = c.requires in
    let count : length c.links.result.now ≡ links_of c.args.component.now.shape.now c.args.component.now.number = links_count c.args.component.now.shape.now c.args.component.now.number c.links.result.now c.links.ensures in
    omega arith

pub returns-clause-laps : goal.returns-clause-laps
returns-clause-laps c =
    let component = c.args.component.now in
    let table = table_of c.args.component.now in
    let found = c.in_ok-explored.explored in
    let events : c.new-lap.result.events.now ≡ c.args.component.now.shape.now.vocabulary = c.new-lap.ensures.events ∙ c.vocabulary.ensures ∙ ap (λ (s : Shape). s.vocabulary) c.shape-shape.ensures.value in
    let last : c.new-lap.result.last ≡ links_of c.args.component.now.shape.now c.args.component.now.number - 1 = c.new-lap.ensures.last ∙ ap (λ n. n - 1) (links_count component.shape.now component.number c.links.result.now c.links.ensures) in
    record {
      form = c.shape-shape.ensures.form;
      apart = c.shape-shape.ensures.apart;
      part = component.within;
      some = c.requires;
      explored = subst (λ (n : ℕ). IsExploration table (lap_step component.shape.now.vocabulary n) 0 found.pairs) last
          (subst (λ (V : List ℕ). IsExploration table (lap_step V c.new-lap.result.last) 0 found.pairs) events c.in_ok-explored.ensures.pairs);
      origins = subst (λ (n : ℕ). AreFound table (lap_step component.shape.now.vocabulary n) 0 found) last
          (subst (λ (V : List ℕ). AreFound table (lap_step V c.new-lap.result.last) 0 found) events c.in_ok-explored.ensures.found);
    }

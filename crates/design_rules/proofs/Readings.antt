-- Over the shape of a network, the components' own steps and the parts' tables tell the same traces, the same events after each, and the same acceptances.
use Rattle.design_rules.proofs.Prelude.{◌≡◌, ℕ, List, [], ◌∷◌, ◌++◌, map, true, refl, sym, ap, subst, ◌∙◌, and_parts, and_from, has, Label, Component, ComponentStep, Tree, leaves, IsAcceptance, Node, node_at, node_after, is_possible, is_run, end_of, Part, part_at, alphabets_of, Shape, ArePartsOf, IsShapeOf, RunsTo, IsPossible, Accepts, accepted, run_push, shapes_are_well_formed, SameOutline, AcceptsSame, OutlinesAgree, ReadingsAgree, NetworksMeet, NetworksBreak, NetworkFaultsRefute, HasTrace, HasAcceptance, by_steps, AcceptsSet, by_tables, NetworksAreNumbered, outline, outline_of, Cyclic, shapes_are_busy, component_of, part_of, part_within}
use Rattle.design_rules.proofs.Accepting.{at_place, set_shared}
use Rattle.design_rules.proofs.Refuting.{faults_refute}
use Rattle.design_rules.proofs.CyclicRule.{is_rule_by_numbers}
use Rattle.design_rules.proofs.Linking.{shape_outline}
use Rattle.design_rules.proofs.Transport.{Seen, Alike, turned, is_numbered, meets, breaks}

-- a run with one event more is a run, after which the event is possible
run_pop : (table : List Node) (n : ℕ) (s : List ℕ) (e : ℕ) → is_run table n (s ++ e ∷ []) ≡ true → (is_run table n s ≡ true) × (is_possible (node_at table (end_of table n s)).next e ≡ true)
run_pop table n [] e h = (refl, (and_parts (is_possible (node_at table n).next e) (is_run table (node_after table n e) []) h).0)
run_pop table n (x ∷ s) e h =
    let p = and_parts (is_possible (node_at table n).next x) (is_run table (node_after table n x) (s ++ e ∷ [])) h in
    let q = run_pop table (node_after table n x) s e p.1 in
    (and_from (is_possible (node_at table n).next x) (is_run table (node_after table n x) s) p.0 q.0, q.1)

-- the components have the alphabets of the parts
same_alphabets : {T : Type 0} (Step : T → Label → T → Type 0) (cs : List (Component T)) (ps : List Part) → ArePartsOf Step cs ps → alphabets_of ps ≡ map (λ (c : Component T). c.alphabet) cs
same_alphabets Step [] [] parts = refl
same_alphabets {T} Step (c ∷ cs) (p ∷ ps) parts =
    ap (λ (a : List ℕ). a ∷ alphabets_of ps) (sym parts.0.alphabet) ∙ ap (λ (others : List (List ℕ)). c.alphabet ∷ others) (same_alphabets Step cs ps parts.1)
same_alphabets Step _ _ parts = absurd parts

-- of a vocabulary the members count
module _ {T : Type 0} (Step : T → Label → T → Type 0) (cs : List (Component T)) (shape : Shape) (parts : ArePartsOf Step cs shape.parts) (vocabulary : List ℕ)
    (same : (e : ℕ) → has shape.vocabulary e ≡ has vocabulary e) where
  trace_of_run : (i : ℕ) (s : List ℕ) → RunsTo shape i s → HasTrace Step cs i s
  trace_of_run i s r =
      let c = component_of Step cs shape.parts parts i r.part in
      record { component = c.component; listed = c.listed; trace = (c.part.table.traces s).1 r.follows }

  run_of_trace : (i : ℕ) (s : List ℕ) → HasTrace Step cs i s → RunsTo shape i s
  run_of_trace i s t =
      let p = part_of Step cs shape.parts parts i t.component t.listed in
      record { part = part_within Step cs shape.parts parts i t.component t.listed; follows = (p.table.traces s).0 t.trace }

  goes_on : (i : ℕ) (s : List ℕ) (e : ℕ) → IsPossible shape i s e → HasTrace Step cs i (s ++ e ∷ [])
  goes_on i s e x = trace_of_run i (s ++ e ∷ []) (record { part = x.runs.part; follows = run_push (part_at shape.parts i).table 0 s e x.runs.follows x.next })

  is_possible_there : (i : ℕ) (s : List ℕ) (e : ℕ) → HasTrace Step cs i (s ++ e ∷ []) → IsPossible shape i s e
  is_possible_there i s e t =
      let r = run_of_trace i (s ++ e ∷ []) t in
      let q = run_pop (part_at shape.parts i).table 0 s e r.follows in
      record { runs = record { part = r.part; follows = q.0 }; next = q.1 }

  acceptance_of : (i : ℕ) (s M : List ℕ) → AcceptsSet shape i s M → AcceptsSame (by_steps Step cs vocabulary) i s M
  acceptance_of i s M x =
      let c = component_of Step cs shape.parts parts i x.at.runs.part in
      let a = c.part.table.acceptances.sound s x.place ((c.part.table.traces s).1 x.at.runs.follows) x.at.listed in
      record {
        set = M;
        accepts = record { component = c.component; listed = c.listed; accepts = subst (IsAcceptance (ComponentStep Step) c.component s) x.is a; shared = λ e h. sym (same e) ∙ set_shared shape i s M x e h };
        members = λ e. refl;
      }

  set_of_acceptance : (i : ℕ) (s M : List ℕ) → HasAcceptance Step cs vocabulary i s M → AcceptsSame (by_tables shape) i s M
  set_of_acceptance i s M x =
      let p = part_of Step cs shape.parts parts i x.component x.listed in
      let found = p.table.acceptances.complete s M x.accepts in
      let run = (p.table.traces s).0 (x.accepts.offer.state, x.accepts.offer.reached) in
      let at : Accepts shape i s found.place = record {
        runs = record { part = part_within Step cs shape.parts parts i x.component x.listed; follows = run };
        listed = found.within;
        shared = λ e h. same e ∙ x.shared e (sym (found.members e) ∙ h);
      } in
      record { set = accepted shape i s found.place; accepts = at_place shape i s found.place at; members = found.members }

pub outlines_agree : {T : Type 0} (Step : T → Label → T → Type 0) → OutlinesAgree Step
outlines_agree Step tree shape is =
    subst (λ (alphabets : List (List ℕ)). SameOutline shape (outline_of alphabets)) (same_alphabets Step (leaves tree) shape.parts is.parts) (shape_outline shape is.linked)

pub readings_agree : {T : Type 0} (Step : T → Label → T → Type 0) → ReadingsAgree Step
readings_agree Step tree shape is =
    let vocabulary = (outline (leaves tree)).vocabulary in
    let same : (e : ℕ) → has shape.vocabulary e ≡ has vocabulary e = (outlines_agree Step tree shape is).vocabulary in
    record {
      traces = λ i s. (
        trace_of_run Step (leaves tree) shape is.parts vocabulary same i s,
        run_of_trace Step (leaves tree) shape is.parts vocabulary same i s,
      );
      possible = λ i s e. (
        goes_on Step (leaves tree) shape is.parts vocabulary same i s e,
        is_possible_there Step (leaves tree) shape is.parts vocabulary same i s e,
      );
      accepted = acceptance_of Step (leaves tree) shape is.parts vocabulary same;
      accepts = set_of_acceptance Step (leaves tree) shape is.parts vocabulary same;
    }

-- the network, as a rule sees it, by its shape and by itself
abbrev pub by_shape : Shape → Seen
by_shape shape = record { shape = shape; does = by_tables shape }

abbrev pub by_itself : {T : Type 0} → (T → Label → T → Type 0) → Tree T → Seen
by_itself Step tree = record { shape = outline (leaves tree); does = by_steps Step (leaves tree) (outline (leaves tree)).vocabulary }

pub alike : {T : Type 0} (Step : T → Label → T → Type 0) (tree : Tree T) (shape : Shape) → IsShapeOf Step tree shape → Alike (by_shape shape) (by_itself Step tree)
alike Step tree shape is = record { outline = outlines_agree Step tree shape is; agree = readings_agree Step tree shape is }

pub networks_meet : {T : Type 0} (Step : T → Label → T → Type 0) → NetworksMeet Step
networks_meet Step tree shape is rule =
    let a = alike Step tree shape is in
    (meets rule (by_shape shape) (by_itself Step tree) a, meets rule (by_itself Step tree) (by_shape shape) (turned (by_shape shape) (by_itself Step tree) a))

pub networks_break : {T : Type 0} (Step : T → Label → T → Type 0) → NetworksBreak Step
networks_break Step tree shape is rule fault =
    let a = alike Step tree shape is in
    (breaks rule (by_shape shape) (by_itself Step tree) a fault, breaks rule (by_itself Step tree) (by_shape shape) (turned (by_shape shape) (by_itself Step tree) a) fault)

pub network_faults_refute : {T : Type 0} (Step : T → Label → T → Type 0) → NetworkFaultsRefute Step
network_faults_refute Step tree shape is rule fault met broken =
    faults_refute rule shape fault ((networks_meet Step tree shape is rule).1 met) ((networks_break Step tree shape is rule fault).1 broken)

pub networks_are_numbered : {T : Type 0} (Step : T → Label → T → Type 0) → NetworksAreNumbered Step
networks_are_numbered Step tree shape is busy =
    let a = alike Step tree shape is in
    let form = shapes_are_well_formed Step tree shape is in
    let meets = networks_meet Step tree shape is Cyclic in (
      λ met. is_numbered (by_shape shape) (by_itself Step tree) a (is_rule_by_numbers.sound shape form ((shapes_are_busy Step tree shape is).1 busy) (meets.1 met)),
      λ numbered. meets.0 (is_rule_by_numbers.complete shape form (is_numbered (by_itself Step tree) (by_shape shape) (turned (by_shape shape) (by_itself Step tree) a) numbered)),
    )

-- The shape of a network that is never empty-handed has its components' behaviour.
use Rattle.net_sound.proofs.Prelude.{ℕ, suc, List, [], ◌∷◌, get_or, nat_eq, refl, sym, subst, ◌∙◌, eq-eqb, false≢true, or_left, slice_get_within, get_or_from_slice_get, has, Label, Component, ComponentStep, leaves, IsAcceptance, IsBusy, acceptances_after, Part, part_at, IsNonEmpty, HasBehaviour, HaveBehaviours, IsPartOf, ArePartsOf, AreBusy, ShapesAreBusy, NormalTablesBehave, ShapesBehave, MOST_TERMS}
use Rattle.net_sound.proofs.Parts.{component_of, part_of, part_within}

pub not_empty : {S : Type 0} (Step : S → Label → S → Type 0) (start : S) (s M : List ℕ) → IsBusy Step start → IsAcceptance Step start s M → IsNonEmpty M
not_empty Step start s [] busy a = absurd (busy s a)
not_empty Step start s (e ∷ M) busy a = (e, or_left (nat_eq e e) (has M e) (eq-eqb e e refl))

pub normal_tables_behave : {T : Type 0} (Step : T → Label → T → Type 0) → NormalTablesBehave Step
normal_tables_behave Step c most table busy normal = record {
  alphabet = refl;
  traces = λ s h. (normal.traces s).0 h;
  accepts = λ s d a stable. normal.acceptances.covered s d a stable;
  busy = λ s M k h listed.
      subst IsNonEmpty (get_or_from_slice_get (acceptances_after table s) k M [] listed)
      (not_empty (ComponentStep Step) c s (get_or (acceptances_after table s) k []) busy (normal.acceptances.sound s k h (slice_get_within (acceptances_after table s) k M listed)));
}

part_behaves : {T : Type 0} (Step : T → Label → T → Type 0) (c : Component T) (p : Part) → IsBusy (ComponentStep Step) c → IsPartOf Step c p → HasBehaviour Step c p
part_behaves Step c p busy is = subst (λ (al : List ℕ). HasBehaviour Step c (record { alphabet = al; table = p.table })) is.alphabet (normal_tables_behave Step c MOST_TERMS p.table busy is.table)

parts_behave : {T : Type 0} (Step : T → Label → T → Type 0) (cs : List (Component T)) (ps : List Part) → ArePartsOf Step cs ps → AreBusy Step cs → HaveBehaviours Step cs ps
parts_behave Step [] [] parts busy = tt
parts_behave Step (c ∷ cs) (p ∷ ps) parts busy = (part_behaves Step c p (busy 0 c refl) parts.0, parts_behave Step cs ps parts.1 (λ i d at. busy (suc i) d at))
parts_behave Step _ _ parts busy = absurd parts

pub shapes_behave : {T : Type 0} (Step : T → Label → T → Type 0) → ShapesBehave Step
shapes_behave Step tree shape is busy = parts_behave Step (leaves tree) shape.parts is.parts busy

pub shapes_are_busy : {T : Type 0} (Step : T → Label → T → Type 0) → ShapesAreBusy Step
shapes_are_busy Step tree shape is = (
  λ busy i c at s a.
      let r = part_of Step (leaves tree) shape.parts is.parts i c at in
      let found = r.table.acceptances.complete s [] a in
      let run = (r.table.traces s).0 (a.offer.state, a.offer.reached) in
      let some = busy i s found.place (record { part = part_within Step (leaves tree) shape.parts is.parts i c at; follows = run }) found.within in
      false≢true (sym (found.members some.0) ∙ some.1),
  λ busy i s k runs within.
      let r = component_of Step (leaves tree) shape.parts is.parts i runs.part in
      not_empty (ComponentStep Step) r.component s (get_or (acceptances_after (part_at shape.parts i).table s) k []) (busy i r.component r.listed) (r.part.table.acceptances.sound s k ((r.part.table.traces s).1 runs.follows) within),
)

-- The first part of a network's shape that stops is the first component that does.
use Rattle.network_stages.proofs.Prelude.{◌∙◌, ℕ, List, [], Result, Ok, Err, sym, subst, false≢true, Label, Component, ComponentStep, Tree, leaves, IsAcceptance, IsBusy, IsRun, acceptances_after, Part, part_at, Shape, IsPartOf, IsShapeOf, IsBusyShape, component_of, part_of, ProcessStep, Tells, Stop, HasEmpty, IsBusyPart, PartCanStop, StopsFirst, StopsFirstIn, Network, CanStop, StaysBusy, OnOk, shapes_are_busy, Shortfall}
use Rattle.csp_base.specs.declared.stop.Stop.TheVariants as stop

module _ {T : Type 0} (Step : T → Label → T → Type 0) where
  -- an empty acceptance of a part after a run is one of its component after this trace
  stops : (c : Component T) (p : Part) (s : List ℕ) → IsPartOf Step c p → IsRun p.table s → HasEmpty (acceptances_after p.table s) → IsAcceptance (ComponentStep Step) c s []
  stops c p s is run empty = subst (IsAcceptance (ComponentStep Step) c s) empty.empty (is.table.acceptances.sound s empty.place ((is.table.traces s).1 run) empty.within)

  -- a component whose part is busy is busy
  busy_component : (c : Component T) (p : Part) → IsPartOf Step c p → IsBusyPart p → IsBusy (ComponentStep Step) c
  busy_component c p is busy s a =
      let found = is.table.acceptances.complete s [] a in
      let run = (is.table.traces s).0 (a.offer.state, a.offer.reached) in
      let some = busy s found.place run found.within in
      false≢true (sym (found.members some.0) ∙ some.1)

  stops_first : (tree : Tree T) (shape : Shape) (i : ℕ) (s : List ℕ) → IsShapeOf Step tree shape → StopsFirst shape i s → StopsFirstIn Step (leaves tree) i s
  stops_first tree shape i s is stop =
      let c = component_of Step (leaves tree) shape.parts is.parts i stop.runs.part in
      record {
        component = c.component;
        listed = c.listed;
        stops = stops c.component (part_at shape.parts i) s c.part stop.runs.follows stop.stops;
        first = λ j d before at. busy_component d (part_at shape.parts j) (part_of Step (leaves tree) shape.parts is.parts j d at) (stop.first j before);
      }

pub stays_busy : {A E : Type 0} (network : Network) (shape : Shape) (r : Result A E) → IsShapeOf (ProcessStep network.program) network.tree shape → OnOk r (IsBusyShape shape) → OnOk r (StaysBusy network)
stays_busy network shape (Ok a) is busy = (shapes_are_busy (ProcessStep network.program) network.tree shape is).0 busy
stays_busy network shape (Err e) is busy = tt

pub can_stop : (network : Network) (shape : Shape) (s : Stop Shortfall) → IsShapeOf (ProcessStep network.program) network.tree shape → Tells (PartCanStop shape) s → Tells (CanStop network) s
can_stop network shape stop.NoMemory is tells = tt
can_stop network shape (stop.Told why) is (i, trace, first, same) = (i, trace, stops_first (ProcessStep network.program) network.tree shape i trace is first, same)

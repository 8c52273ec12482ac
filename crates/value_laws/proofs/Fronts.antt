-- The events that the fronts of a production add.
use Rattle.value_laws.proofs.Prelude.{◌≡◌, ℕ, zero, suc, ◌+◌, ◌<◌, ◌≤◌, ◌⊎◌, IsTrue, Option, Some, None, Ok, List, [], ◌∷◌, map, refl, sym, ◌∙◌, ap, inl, inr, arith, ◌↔◌, slice_get, false≢true, cases_eq, has_atom, Atom, Value, Many, added, all_added, IsInOrder, and_then, Env, Front, Meaning, Turn, comprehension, front_events, fronts_added, sets_of, Channel, Content, events_each, events_from, first_of, front_count, front_number, span, BeginsWith, BeginsWithOne, IsBinding, IsSetValue, computed_number, came_through}
use Rattle.value_laws.proofs.Lists.{same_outcome}
use Rattle.value_laws.proofs.RowNumbers.{numbered}
use Rattle.value_laws.proofs.EventPlaces.{events_are_found, same_list}
use Rattle.value_laws.proofs.Fits.{program_fits}
use Rattle.value_laws.proofs.TablePlaces.{as_summed, computed, beginners_stand_together}
use Rattle.value_laws.proofs.Walks.{Grows, grows_by_one, has_here, has_after, has_cases, same_growth, no_growth, two_growths, comprehension_holds}
use Rattle.csp_atoms.specs.declared.atom.Atom.TheVariants as atom

-- a list of atoms that are added one by one
pub all_grow : (atoms new more : List Atom) → all_added atoms new ≡ Ok more → Grows atoms more (λ z. IsTrue (has_atom new z))
all_grow atoms [] more h = no_growth atoms more (same_outcome h) (λ z. IsTrue (has_atom [] z)) (λ z n. false≢true n)
all_grow atoms (a ∷ rest) more h =
    let first = came_through (added atoms a) (λ l. all_added l rest) more h in
    same_growth atoms more (λ z. (a ≡ z) ⊎ IsTrue (has_atom rest z)) (λ z. IsTrue (has_atom (a ∷ rest) z))
    (λ z n. elim n [ inl e ↦ has_here a rest z e | inr r ↦ has_after a rest z r ]) (λ z n. has_cases a rest z n)
    (two_growths atoms first.0 more (λ z. a ≡ z) (λ z. IsTrue (has_atom rest z)) (grows_by_one atoms a first.0 first.1) (all_grow first.0 rest more first.2))

-- an event among those from one on, so many of them
abbrev Among : ℕ → ℕ → Atom → Type 0
Among e n z = (place : ℕ) × (z ≡ atom.Event place) × (e ≤ place) × (place < e + n)

among : (e n : ℕ) (z : Atom) → IsTrue (has_atom (events_from e n) z) → Among e n z
among e zero z h = absurd (false≢true h)
among e (suc n) z h =
    elim (has_cases (atom.Event e) (events_from (e + 1) n) z h) [
      | inl is ↦ (e, sym is, omega arith, omega arith)
      | inr r ↦
          let a = among (e + 1) n z r in
          let low : e + 1 ≤ a.0 = a.2 in
          let high : a.0 < e + 1 + n = a.3 in
          (a.0, a.1, omega arith, omega arith)
    ]

from_among : (e n place : ℕ) (z : Atom) → z ≡ atom.Event place → e ≤ place → place < e + n → IsTrue (has_atom (events_from e n) z)
from_among e zero place z is low high = absurd (omega arith)
from_among e (suc n) place z is low high =
    elim (cases_eq place e) [
      | inl same_place ↦ has_here (atom.Event e) (events_from (e + 1) n) z (ap (λ (p : ℕ). atom.Event p) (sym same_place) ∙ sym is)
      | inr other ↦ has_after (atom.Event e) (events_from (e + 1) n) z (from_among (e + 1) n place z is (omega arith) (omega arith))
    ]

pub has_sets : (first : ℕ) (o : Option (List (List Atom))) (fields : List Meaning) (env : Env) (e : ℕ) → front_number first o fields env ≡ Ok e → (sets : List (List Atom)) × (o ≡ Some sets)
has_sets first None fields env e h = absurd (cc)
has_sets first (Some sets) fields env e h = (sets, refl)

-- an event that begins with the front
abbrev Begun : List Channel → Front → Env → Atom → Type 0
Begun channels f env z = (place : ℕ) × (z ≡ atom.Event place) × BeginsWith channels f env place

front_grows : (p : Content) → IsInOrder p → (f : Front) (env : Env) (e : ℕ) (atoms more : List Atom)
    → computed_number p.channels f.channel f.fields env ≡ Ok e → all_added atoms (events_from e (front_count (sets_of (slice_get p.channels f.channel)) f.fields)) ≡ Ok more
    → Grows atoms more (Begun p.channels f env)
front_grows p ordered f env e atoms more number h =
    let s = has_sets (first_of (slice_get p.channels f.channel)) (sets_of (slice_get p.channels f.channel)) f.fields env e number in
    let k = computed p.channels f.channel s.0 f.fields env e s.1 (sym (as_summed p.channels ordered.firsts f.channel s.0 f.fields env s.1) ∙ number) in
    let r = numbered f.fields s.0 env 0 k.own k.found in
    let all : all_added atoms (events_from e (events_each f.fields s.0)) ≡ Ok more =
    ap (λ (o : Option (List (List Atom))). all_added atoms (events_from e (front_count o f.fields))) (sym s.1) ∙ h in
    same_growth atoms more (λ z. IsTrue (has_atom (events_from e (events_each f.fields s.0)) z)) (Begun p.channels f env)
    (λ z n.
    let a = among e (events_each f.fields s.0) z n in
    let found = (beginners_stand_together p ordered f.channel s.0 f.fields env r.row e s.1 r.values number a.0).0 (a.2, a.3) in
    (a.0, a.1, (r.row, found.0, r.values, found.1)))
    (λ z n.
    let bounds = (beginners_stand_together p ordered f.channel s.0 f.fields env n.2.0 e s.1 n.2.2 number n.0).1 (n.2.1, n.2.3) in
    from_among e (events_each f.fields s.0) n.0 z n.1 bounds.0 bounds.1)
    (all_grow atoms (events_from e (events_each f.fields s.0)) more all)

-- an event that begins with one of the fronts
abbrev BegunWithOne : List Channel → List Front → Env → Atom → Type 0
BegunWithOne channels fronts env z = (place : ℕ) × (z ≡ atom.Event place) × BeginsWithOne channels fronts env place

fronts_grow : (p : Content) → IsInOrder p → (fronts : List Front) (env : Env) (atoms more : List Atom) → fronts_added p.channels fronts env atoms ≡ Ok more → Grows atoms more (BegunWithOne p.channels fronts env)
fronts_grow p ordered [] env atoms more h = no_growth atoms more (same_outcome h) (BegunWithOne p.channels [] env) (λ z n. n.2)
fronts_grow p ordered (f ∷ fs) env atoms more h =
    let sets = sets_of (slice_get p.channels f.channel) in
    let first = came_through (front_events p.channels f.channel f.fields env)
    (λ es. and_then (all_added atoms (map (λ e. atom.Event e) es)) (λ l. fronts_added p.channels fs env l)) more h in
    let found = came_through (computed_number p.channels f.channel f.fields env) (λ e. Ok (span e (front_count sets f.fields))) first.0
    (sym (events_are_found p.channels (program_fits p ordered) f.channel f.fields env) ∙ first.1) in
    let all : all_added atoms (events_from found.0 (front_count sets f.fields)) ≡ all_added atoms (map (λ e. atom.Event e) first.0) =
    ap (λ es. all_added atoms (map (λ e. atom.Event e) es)) (same_list found.2) in
    let second = came_through (all_added atoms (map (λ e. atom.Event e) first.0)) (λ l. fronts_added p.channels fs env l) more first.2 in
    same_growth atoms more (λ z. Begun p.channels f env z ⊎ BegunWithOne p.channels fs env z) (BegunWithOne p.channels (f ∷ fs) env)
    (λ z n. elim n [ inl b ↦ (b.0, b.1, inl b.2) | inr r ↦ (r.0, r.1, inr r.2) ])
    (λ z n. elim n.2 [ inl b ↦ inl (n.0, n.1, b) | inr r ↦ inr (n.0, n.1, r) ])
    (two_growths atoms second.0 more (Begun p.channels f env) (BegunWithOne p.channels fs env)
    (front_grows p ordered f env found.0 atoms second.0 found.1 (all ∙ second.1)) (fronts_grow p ordered fs env second.0 more second.2))

-- where a production has a value, its set has the events that begin with one of its fronts under some binding
pub events_held : (p : Content) → IsInOrder p → (fronts : List Front) (turns : List Turn) (env : Env) (v : Value) → comprehension turns (fronts_added p.channels fronts) env ≡ Ok v
    → (set : List Atom) × (v ≡ Many set) × IsSetValue set × ((a : Atom) → IsTrue (has_atom set a) ↔
    ((bound : Env) × (place : ℕ) × IsBinding turns env bound × (a ≡ atom.Event place) × BeginsWithOne p.channels fronts bound place))
events_held p ordered fronts turns env v h =
    let c = comprehension_holds (fronts_added p.channels fronts) (BegunWithOne p.channels fronts) (fronts_grow p ordered fronts) turns env v h in
    (c.0, c.1, c.2, λ a. (λ g. let f = (c.3 a).0 g in (f.0, f.2.0, f.1, f.2.1, f.2.2), λ f. (c.3 a).1 (f.0, f.2, (f.1, f.3, f.4))))

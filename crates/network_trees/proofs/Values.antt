-- Values that are asked for as truth values, sets, events and networks: what they are.
use Rattle.network_trees.proofs.Prelude.{◌≡◌, ℕ, Bool, Some, None, Ok, Err, List, refl, ap, ◌∙◌, Option, Outcome, and_then, Env, Expr, Net, Content, Def, bound_to, as_set, as_truth, truth, value_under, set_under, needed_events, event_numbers, events_under, truth_under, network_called, network_in, Atom, Value, One, Many, Body}
use Rattle.csp_atoms.specs.declared.atom.Atom.TheVariants as atom
use Rattle.csp_program.specs.declared.programs.Body.TheVariants as body

-- a value was found, from which the next step came to b
record Had {A B : Type 0} (first : Outcome A) (next : A → Outcome B) (b : B) : Type 0 where
  value : A
  is : first ≡ Ok value
  rest : next value ≡ Ok b

had : {A B : Type 0} (first : Outcome A) (next : A → Outcome B) (b : B) → and_then first next ≡ Ok b → Had first next b
had (Ok a) next b h = record { value = a; is = refl; rest = h }
had (Err k) next b h = absurd cc

is_truth : (v : Value) (b : Bool) → as_truth v ≡ Ok b → v ≡ truth b
is_truth (One (atom.Truth c)) b h = let same : c ≡ b = cc in ap truth same
is_truth _ b h = absurd cc

is_set : (v : Value) (atoms : List Atom) → as_set v ≡ Ok atoms → v ≡ Many atoms
is_set (One a) atoms h = absurd cc
is_set (Many bs) atoms h = let same : bs ≡ atoms = cc in ap Many same

are_events : (o : Option (List ℕ)) (events : List ℕ) → needed_events o ≡ Ok events → o ≡ Some events
are_events None events h = absurd cc
are_events (Some es) events h = let same : es ≡ events = cc in ap (λ xs. Some xs) same

is_network : (b : Body) (n : Net) → network_in b ≡ Ok n → b ≡ body.Network n
is_network (body.Network m) n h = let same : m ≡ n = cc in ap body.Network same
is_network _ n h = absurd cc

module _ (p : Content) (env : Env) where
  pub truth_found : (c : Expr) (b : Bool) → truth_under p env c ≡ Ok b → value_under p env c ≡ Ok (truth b)
  truth_found c b h = let found = had (value_under p env c) as_truth b h in found.is ∙ ap (λ v. Ok v) (is_truth found.value b found.rest)

  pub truth_given : (c : Expr) (b : Bool) → value_under p env c ≡ Ok (truth b) → truth_under p env c ≡ Ok b
  truth_given c b h = ap (λ o. and_then o as_truth) h

  pub set_found : (s : Expr) (atoms : List Atom) → set_under p env s ≡ Ok atoms → value_under p env s ≡ Ok (Many atoms)
  set_found s atoms h = let found = had (value_under p env s) as_set atoms h in found.is ∙ ap (λ v. Ok v) (is_set found.value atoms found.rest)

  pub set_given : (s : Expr) (atoms : List Atom) → value_under p env s ≡ Ok (Many atoms) → set_under p env s ≡ Ok atoms
  set_given s atoms h = ap (λ o. and_then o as_set) h

  -- the value of an alphabet
  pub record HasEvents (a : Expr) (alphabet : List ℕ) : Type 0 where
    pub atoms : List Atom
    pub is : value_under p env a ≡ Ok (Many atoms)
    pub events : event_numbers atoms ≡ Some alphabet

  pub events_found : (a : Expr) (alphabet : List ℕ) → events_under p env a ≡ Ok alphabet → HasEvents a alphabet
  events_found a alphabet h =
      let found = had (set_under p env a) (λ atoms. needed_events (event_numbers atoms)) alphabet h in
      record { atoms = found.value; is = set_found a found.value found.is; events = are_events (event_numbers found.value) alphabet found.rest }

  pub events_given : (a : Expr) (alphabet : List ℕ) (atoms : List Atom) → value_under p env a ≡ Ok (Many atoms) → event_numbers atoms ≡ Some alphabet → events_under p env a ≡ Ok alphabet
  events_given a alphabet atoms is events = ap (λ o. and_then o (λ bs. needed_events (event_numbers bs))) (set_given a atoms is) ∙ ap needed_events events

-- a definition of a network with its values
pub record IsCalled (found : Option Def) (vs : List Value) (called : Env × Net) : Type 0 where
  pub def : Def
  pub net : Net
  pub is : found ≡ Some def
  pub body : def.body ≡ body.Network net
  pub made : (bound_to def.params vs, net) ≡ called

pub network_found : (found : Option Def) (vs : List Value) (called : Env × Net) → network_called found vs ≡ Ok called → IsCalled found vs called
network_found None vs called h = absurd cc
network_found (Some def) vs called h =
    let had = had (network_in def.body) (λ n. Ok (bound_to def.params vs, n)) called h in
    record { def = def; net = had.value; is = refl; body = is_network def.body had.value had.is; made = cc }

pub network_given : (found : Option Def) (vs : List Value) (def : Def) (n : Net) → found ≡ Some def → def.body ≡ body.Network n → network_called found vs ≡ Ok (bound_to def.params vs, n)
network_given found vs def n is network =
    ap (λ o. network_called o vs) is ∙ ap (λ b. and_then (network_in b) (λ m. Ok (bound_to def.params vs, m))) network

-- Sets as code makes them: with nested loops over the values of generators, and a state that goes through all bindings. No definition of what a
-- program means cites this; the sets are those of `Value`.
use Rattle.std.specs.Prelude.{ℕ, ◌+◌, Bool, is_none, nat_lt, slice_get, if◌then◌else◌, Ok, Err, List, [], ◌∷◌, map}
use Rattle.std.specs.List.{list_any}
use Rattle.dl_limits.specs.declared.TheConstants.{MOST_BINDINGS}
use Rattle.csp_atoms.specs.declared.atom.Atom.{Atom}
use Rattle.csp_atoms.specs.declared.atom.Atom.TheVariants as atom
use Rattle.csp_atoms.specs.declared.value.Value.{Value}
use Rattle.csp_atoms.specs.declared.value.Value.TheVariants.{One, Many}
use Rattle.csp_program.specs.Atoms.{added}
use Rattle.csp_program.specs.Outcome.{Outcome, and_then}
use Rattle.csp_program.specs.Value.{Env, Front, Meaning, Turn, as_atom, as_set, as_truth, from, front_events, sets_of, when}
use Rattle.csp_program.specs.declared.kinds.ValueKind.TheVariants.{SetLimit}
use Rattle.csp_program.specs.declared.programs.Channel.{Channel}

-- the set with more atoms in it, one by one
abbrev pub all_added : List Atom → List Atom → Outcome (List Atom)
all_added atoms [] = Ok atoms
all_added atoms (a ∷ rest) = and_then (added atoms a) (λ more. all_added more rest)

-- the set with the values of items in it, from the left
abbrev pub items_added : List Meaning → Env → List Atom → Outcome (List Atom)
items_added [] env atoms = Ok atoms
items_added (e ∷ es) env atoms = and_then (e env) (λ v. and_then (as_atom v) (λ a. and_then (added atoms a) (λ more. items_added es env more)))

-- the set with all events of the fronts in it
abbrev pub fronts_added : List Channel → List Front → Env → List Atom → Outcome (List Atom)
fronts_added channels [] env atoms = Ok atoms
fronts_added channels (f ∷ fs) env atoms =
    and_then (front_events channels f.channel f.fields env) (λ es. and_then (all_added atoms (map (λ e. atom.Event e) es)) (λ more. fronts_added channels fs env more))

-- whether one of the fronts is of a channel that has no field sets
abbrev pub lack_sets : List Channel → List Front → Bool
lack_sets channels fronts = list_any (λ f. is_none (sets_of (slice_get channels f.channel))) fronts

-- one step for each atom, in rising order
abbrev pub over : {S : Type 0} → List Atom → (Atom → S → Outcome S) → S → Outcome S
over [] step state = Ok state
over (a ∷ rest) step state = and_then (step a state) (λ next. over rest step next)

-- the bindings of a list of generators, walked in nested loops with a state
abbrev pub walked : {S : Type 0} → List Turn → (Env → S → Outcome S) → Env → S → Outcome S
walked [] gather env state = gather env state
walked (from x s ∷ turns) gather env state =
    and_then (s env) (λ v. and_then (as_set v) (λ atoms. over atoms (λ a. walked turns gather ((x, One a) ∷ env)) state))
walked (when c ∷ turns) gather env state =
    and_then (c env) (λ v. and_then (as_truth v) (λ b. if b then walked turns gather env state else Ok state))

-- what a list of generators has gathered: how many bindings, and which atoms
pub record Gathered : Type 0 where
  pub bindings : ℕ
  pub atoms : List Atom

-- one more binding, and what it adds
abbrev pub gathered : (Env → List Atom → Outcome (List Atom)) → Env → Gathered → Outcome Gathered
gathered adds env state =
    if nat_lt state.bindings MOST_BINDINGS
    then and_then (adds env state.atoms) (λ atoms. Ok (record { bindings = state.bindings + 1; atoms = atoms }))
    else Err SetLimit

-- what all bindings add to the empty set
abbrev pub comprehension : List Turn → (Env → List Atom → Outcome (List Atom)) → Env → Outcome Value
comprehension turns adds env =
    and_then (walked turns (gathered adds) env (record { bindings = 0; atoms = [] })) (λ state. Ok (Many state.atoms))

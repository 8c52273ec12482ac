-- Values put into the processes of a pool: layer by layer, with what stands at the places.
use Rattle.std.specs.Prelude.{◌≡◌, ℕ, nat_eq, Some, None, Option, List, map, slice_get}
use Rattle.std.specs.HashMap.{HashMap, get}
use Rattle.csp_program.specs.Prelude.{after_all, expr_with, fields_with, gens_with, given_by, head_with, pair_with, past, proc_with, without, Given, Env}
use Rattle.csp_program.specs.declared.processes.Proc.{Proc}
use Rattle.csp_program.specs.declared.processes.Proc.TheOpen.{Proc-F}
use Rattle.pool_parts.specs.declared.place.ProcId.{ProcId}
use Rattle.term_pool.specs.Layers.{Layer}
use Rattle.term_pool.specs.Trees.{tree_at}

-- the values that are left in the sub-processes of a layer: those of the names that it doesn't bind
abbrev pub left_below : {A : Type 0} → Proc-F A → Given → Given
left_below (Proc-F.Prefix head fields p) given = after_all fields given
left_below (Proc-F.EachExternal y s p) given = without y given
left_below (Proc-F.EachInternal y s p) given = without y given
left_below other given = given

-- the layer with the values in its own parts
abbrev pub own_with : {A : Type 0} → Given → Proc-F A → Proc-F A
own_with given (Proc-F.Prefix head fields p) = Proc-F.Prefix (head_with given head) (fields_with given fields) p
own_with given (Proc-F.Guard c p) = Proc-F.Guard (expr_with given c) p
own_with given (Proc-F.If c p q) = Proc-F.If (expr_with given c) p q
own_with given (Proc-F.EachExternal y s p) = Proc-F.EachExternal y (expr_with given s) p
own_with given (Proc-F.EachInternal y s p) = Proc-F.EachInternal y (expr_with given s) p
own_with given (Proc-F.Hide p s) = Proc-F.Hide p (expr_with given s)
own_with given (Proc-F.Rename p pairs gens) = Proc-F.Rename p (map (pair_with (past gens given)) pairs) (gens_with given gens)
own_with given (Proc-F.Call d args) = Proc-F.Call d (map (expr_with given) args)
own_with given other = other

-- the processes at the places, each with the values put in
abbrev pub all_with : Given → List Proc → List ProcId → List Proc
all_with given trees ids = map (λ id. proc_with given (tree_at trees id)) ids

module _ (given : Given) where
  -- at the place `made` stands what the process at the place q is with the values put in
  pub record IsMade (trees : List Proc) (q : ℕ) (made : ProcId) : Type 0 where
    pub process : Proc
    pub before : slice_get trees q ≡ Some process
    pub after : slice_get trees made.0 ≡ Some (proc_with given process)

  -- the same of each place that has been visited
  abbrev pub AreMade : {S : Type 0} → List Proc → HashMap ℕ ProcId S → Type 0
  AreMade trees visited = (q : ℕ) (made : ProcId) → get nat_eq visited q ≡ Some made → IsMade trees q made

-- these values are left below the layer; where there are none, all are
abbrev pub IsLeft : Layer → Given → Option Env → Type 0
IsLeft n given None = left_below n given ≡ given
IsLeft n given (Some left) = given_by left ≡ left_below n given

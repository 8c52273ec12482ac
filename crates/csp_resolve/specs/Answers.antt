-- What the calls within this crate answer. Only its private contracts cite it.
use Rattle.std.specs.Prelude.{◌≡◌, ℕ, Result, Ok, Err, List, [], ◌++◌, length, map, replicate}
use Rattle.csp_atoms.specs.declared.atom.Atom.{Atom}
use Rattle.csp_base.specs.Prelude.{Tells}
use Rattle.csp_base.specs.declared.stop.Stop.{Stop}
use Rattle.csp_program.specs.declared.expressions.Expr.{Expr}
use Rattle.csp_program.specs.declared.programs.Content.{Content}
use Rattle.csp_text.specs.declared.script.Decl.{Decl}
use Rattle.csp_text.specs.declared.tree.Tree.{Tree}
use Rattle.event_tables.specs.declared.sets.SharedSets.{SharedSets}
use Rattle.event_tables.specs.Spread.{spread}
use Rattle.script_names.specs.Prelude.{Meanings, Answer, and_next, field_sets, told_in, exprs, reading}
use Rattle.script_names.specs.declared.fault.ResolveFault.{ResolveFault}
use Rattle.script_names.specs.declared.kinds.Kind.{Kind}

-- the value exactly where there is one, the fault exactly where there is that one; want of memory is free
abbrev pub Answers : {A B : Type 0} → (A → B) → Result A (Stop ResolveFault) → Answer B → Type 0
Answers shown (Ok a) answer = answer ≡ Ok (shown a)
Answers shown (Err s) answer = Tells (λ f. answer ≡ Err f) s

-- the types of channels, where names mean this
abbrev pub types_read : Meanings → List Kind → List Tree → List Expr
types_read meanings kinds types = exprs (map (reading meanings kinds) types) [] 0

-- the field sets of the channels of the declaration with the number i
abbrev pub sets_of : Content → (List Tree → List Expr) → ℕ → Decl → Answer (List (List (List Atom)))
sets_of p types_of i (Decl.Channel xs types) =
    and_next (told_in i (field_sets p (types_of types))) (λ sets. Ok (replicate (length xs) sets))
sets_of p types_of i _ = Ok []

abbrev pub GrowsBy : List SharedSets → List SharedSets → Answer (List (List (List Atom))) → Type 0
GrowsBy old new answer = (more : List (List (List Atom))) × (answer ≡ Ok more) × (spread new ≡ spread old ++ more)

-- the list has grown by the field sets of a declaration
abbrev pub Grows : Result (Unit {0}) (Stop ResolveFault) → List SharedSets → List SharedSets → Answer (List (List (List Atom))) → Type 0
Grows (Ok done) old new answer = GrowsBy old new answer
Grows (Err s) old new answer = Tells (λ f. answer ≡ Err f) s

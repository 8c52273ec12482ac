-- The forms of expressions, on what their parts come to.
use Rattle.std.specs.Prelude.{ℕ, ◌-◌, ◌*◌, ◌^◌, min, nat_eq, neg_ℤ, Bool, false, not, ◌||◌, if◌then◌else◌, is_none, Option, Some, None, Ok, Err, List, [], ◌∷◌, drop, slice_get}
use Rattle.csp_program.specs.Prelude.{row_count, Outcome, and_then, Gathered, as_number, as_truth, as_set, truth, in_range, binary, many, sets_of}
use Rattle.csp_program.specs.declared.expressions.EventPart.{EventPart, out-EventPart}
use Rattle.csp_program.specs.declared.kinds.ValueKind.TheVariants.{Kind}
use Rattle.csp_program.specs.declared.programs.Channel.{Channel}
use Rattle.csp_base.specs.declared.operators.BinOp.{BinOp}
use Rattle.csp_atoms.specs.declared.atom.Atom.{Atom}
use Rattle.csp_atoms.specs.declared.value.Value.{Value}
use Rattle.csp_atoms.specs.declared.value.Value.TheVariants.{Many}

abbrev pub negative : Outcome Value → Outcome Value
negative o = and_then o (λ v. and_then (as_number v) (λ n. in_range (neg_ℤ n)))

abbrev pub inverse : Outcome Value → Outcome Value
inverse o = and_then o (λ v. and_then (as_truth v) (λ b. Ok (truth (not b))))

abbrev pub operation : BinOp → Outcome Value → Outcome Value → Outcome Value
operation op first second = and_then first (λ v. binary op v second)

abbrev pub named_set : Outcome Value → Outcome Value
named_set o = and_then o (λ v. many (as_set v))

abbrev pub a_set : Outcome (List Atom) → Outcome Value
a_set o = many o

abbrev pub gathered_set : Outcome Gathered → Outcome Value
gathered_set o = and_then o (λ state. Ok (Many state.atoms))

abbrev pub nothing_yet : Gathered
nothing_yet = record { bindings = 0; atoms = [] }

-- how many events begin with one choice of so many first fields
abbrev pub count_with : Option (List (List Atom)) → ℕ → ℕ
count_with None given = 0
count_with (Some sets) given = row_count (drop given sets)

-- how many events begin with one choice of so many first fields, nothing where no list takes one value from each set
abbrev pub each_of : List (List Atom) → ℕ → ℕ
each_of sets given = if nat_eq (row_count sets) 0 then 0 else row_count (drop given sets)

-- a number that counts so many for one
abbrev pub scaled : Outcome ℕ → ℕ → Outcome ℕ
scaled o each = and_then o (λ k. Ok (k * each))

-- a number that stops at the end of 64 bits
abbrev pub capped : Outcome ℕ → Outcome ℕ
capped o = and_then o (λ k. Ok (min k (2 ^ 64 - 1)))

-- whether one of the parts is of a channel that has no field sets
abbrev pub lack_sets : List Channel → List EventPart → Bool
lack_sets channels [] = false
lack_sets channels (part ∷ parts) = is_none (sets_of (slice_get channels (out-EventPart part).channel)) || lack_sets channels parts

-- a production, where its walk comes to this
abbrev pub produced : Bool → Outcome Gathered → Outcome Value
produced lacks o = if lacks then Err Kind else gathered_set o

-- The program of a script, or why it has none. In this order: no deadlock assertion is in the script; a declaration has a name fault; the type of a
-- channel's field has no value that fits; there are too many events.
use Rattle.std.specs.Prelude.{◌≡◌, ◌+◌, ◌-◌, ◌^◌, if◌then◌else◌, ◌∷◌, ◌++◌}
use Rattle.script_names.specs.Sources.{ℕ, min, nat_le, Option, Some, None, Result, Ok, Err, List, [], length, map, replicate, MOST_EVENTS, Atom, Outcome, Expr, Content, Decl, Script, Tree, ResolveFault}
use Rattle.csp_base.specs.Prelude.{Tells}
use Rattle.csp_base.specs.declared.stop.Stop.{Stop}
use Rattle.script_names.specs.declared.kinds.Kind.{Kind as DefinitionKind}
use Rattle.script_names.specs.Contents.{first_assertion, plain_content}
use Rattle.script_names.specs.Kinds.{AreKinds}
use Rattle.script_names.specs.Names.{meanings_of}
use Rattle.script_names.specs.Told.{name_fault}
use Rattle.script_names.specs.Typed.{exprs, reading}
pub use Rattle.script_names.specs.FieldSets.{field_set, field_sets, may_be_field}
pub use Rattle.script_names.specs.Program.{IsProgram, all_events, with_events, with_sets}

-- what comes of a script: something, or the reason why not
abbrev pub Answer : Type 0 → Type 0
Answer A = Result A ResolveFault

abbrev pub and_next : {A B : Type 0} → Answer A → (A → Answer B) → Answer B
and_next (Ok a) next = next a
and_next (Err f) next = Err f

-- told in the declaration with the number i
abbrev pub told_in : {A : Type 0} → ℕ → Outcome A → Answer A
told_in i (Ok a) = Ok a
told_in i (Err kind) = Err (ResolveFault.Value i kind)

-- the field sets of each channel of declarations that are numbered from i on; `types_of` reads types
abbrev pub channel_sets : Content → (List Tree → List Expr) → ℕ → List Decl → Answer (List (List (List Atom)))
channel_sets p types_of i [] = Ok []
channel_sets p types_of i (Decl.Channel xs types ∷ decls) =
    and_next (told_in i (field_sets p (types_of types))) (λ sets.
    and_next (channel_sets p types_of (i + 1) decls) (λ rest. Ok (replicate (length xs) sets ++ rest)))
channel_sets p types_of i (_ ∷ decls) = channel_sets p types_of (i + 1) decls

-- at most 16,384 events; counting stops at the end of 64 bits
abbrev pub with_table : Content → List (List (List Atom)) → Answer Content
with_table p all =
    if nat_le (all_events all) MOST_EVENTS
    then Ok (with_events p (with_sets 0 p.channels all))
    else Err (ResolveFault.EventLimit (min (all_events all) (2 ^ 64 - 1)))

module _ (decls : List Decl) (kinds : List DefinitionKind) where
  abbrev pub types_of : List Tree → List Expr
  types_of types = exprs (map (reading (meanings_of decls) kinds) types) [] 0

  abbrev pub with_names : Option ResolveFault → Answer Content
  with_names (Some f) = Err f
  with_names None = and_next (channel_sets (plain_content decls kinds) types_of 0 decls) (λ all. with_table (plain_content decls kinds) all)

  abbrev pub with_root : Option Tree → Answer Content
  with_root None = Err ResolveFault.NoAssert
  with_root (Some t) = with_names (name_fault decls kinds)

  -- the program of a script whose definitions are of these kinds
  abbrev pub resolved : Answer Content
  resolved = with_root (first_assertion decls)

-- why a script has none
pub record IsRefused (script : Script) (f : ResolveFault) : Type 0 where
  pub kinds : List DefinitionKind
  pub are : AreKinds script.decls kinds
  pub is : resolved script.decls kinds ≡ Err f

-- what a call owes that resolves a script: want of memory is free
abbrev pub Resolves : Script → Result Content (Stop ResolveFault) → Type 0
Resolves script (Ok p) = IsProgram script p
Resolves script (Err s) = Tells (IsRefused script) s

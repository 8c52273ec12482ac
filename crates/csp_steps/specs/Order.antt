-- The processes to which a process goes by a label, in the order in which its list of steps has them.
use Rattle.std.specs.Prelude.{◌≡◌, nat_eq, Bool, true, false, if◌then◌else◌, Ok, List, [], ◌∷◌}
use Rattle.csp_base.specs.Lists.{StandsIn}
use Rattle.csp_program.specs.declared.processes.Proc.{Proc}
use Rattle.csp_program.specs.declared.programs.Content.{Content}
use Rattle.csp_tables.specs.Prelude.{Label, silent, visible}
use Rattle.process_steps.specs.Prelude.{Move, steps_of}
use Rattle.process_steps.specs.declared.label.Label.TheVariants.{Silent, Visible, Tick}
use Rattle.process_steps.specs.declared.label.Label.{Label as ProcessLabel}

-- Going through the first list gives the third: a value that was seen before is left out, and any other is taken, and seen from then on.
pub data AreFirstsAfter {X : Type 0} : List X → List X → List X → Type 0 where
  none : (seen : List X) → AreFirstsAfter [] seen []
  again : (x : X) (xs seen ys : List X) → StandsIn seen x → AreFirstsAfter xs seen ys → AreFirstsAfter (x ∷ xs) seen ys
  first : (x : X) (xs seen ys : List X) → (StandsIn seen x → ⊥) → AreFirstsAfter xs (x ∷ seen) ys → AreFirstsAfter (x ∷ xs) seen (x ∷ ys)

-- the different values of the first list, in the order in which they first stand there
abbrev pub AreFirsts : {X : Type 0} → List X → List X → Type 0
AreFirsts xs ys = AreFirstsAfter xs [] ys

-- whether a step with this label of a process is one by the label of a component
abbrev pub is_by : Label → ProcessLabel → Bool
is_by silent Silent = true
is_by silent (Visible d) = false
is_by silent Tick = false
is_by (visible e) Silent = false
is_by (visible e) (Visible d) = nat_eq e d
is_by (visible e) Tick = false

-- what the steps by a label lead to, in their order
abbrev pub goals : Label → List Move → List Proc
goals l [] = []
goals l (m ∷ moves) = if is_by l m.0 then m.1 ∷ goals l moves else goals l moves

-- The different processes to which a process goes by a label, in the order in which its list of steps has them.
pub record AreTargets (p : Content) (t : Proc) (l : Label) (targets : List Proc) : Type 0 where
  pub moves : List Move
  pub has : steps_of p t ≡ Ok moves
  pub firsts : AreFirsts (goals l moves) targets

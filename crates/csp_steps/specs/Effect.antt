-- What a hiding, a renaming or a sequence makes of the steps of the process below.
use Rattle.std.specs.Prelude.{◌≡◌, ◌<◌, ℕ, Bool, false, if◌then◌else◌, Ok, Err, List, [], ◌∷◌, map, length}
use Rattle.csp_base.specs.Members.{has}
use Rattle.csp_program.specs.Prelude.{joined, Outcome, and_then}
use Rattle.csp_program.specs.declared.kinds.ValueKind.TheVariants.{Kind}
use Rattle.csp_program.specs.declared.processes.Proc.{Proc}
use Rattle.csp_program.specs.declared.processes.Proc.TheOpen.{Proc-F}
use Rattle.csp_program.specs.declared.processes.Proc.TheViews.{out-Proc}
use Rattle.csp_program.specs.declared.programs.Content.{Content}
use Rattle.csp_program.specs.declared.processes.Proc.TheVariants as proc
use Rattle.process_steps.specs.Prelude.{events_in, images, renaming_in, Move}
use Rattle.process_steps.specs.declared.label.Label.{Label}
use Rattle.process_steps.specs.declared.label.Label.TheVariants.{Silent, Visible, Tick}
use Rattle.step_values.specs.Images.{becomes}
use Rattle.term_pool.specs.Prelude.{with_first, tree_at}
use Rattle.csp_steps.specs.declared.operator.Operator.{Operator}
use Rattle.csp_steps.specs.declared.operator.Operator.TheVariants as operator

-- As which labels a label is seen, where the process below goes on, and the step of the whole where that process ends.
pub record Effect : Type 0 where
  pub labels : Label → List Label
  pub last : Move

-- whether the label is one of the hidden events
abbrev pub hides : List ℕ → Label → Bool
hides hidden Silent = false
hides hidden (Visible e) = has hidden e
hides hidden Tick = false

abbrev pub hidden_labels : List ℕ → Label → List Label
hidden_labels hidden l = (if hides hidden l then Silent else l) ∷ []

abbrev pub renamed_labels : (ℕ → List ℕ) → Label → List Label
renamed_labels become Silent = Silent ∷ []
renamed_labels become (Visible e) = map (λ d. Visible d) (become e)
renamed_labels become Tick = []

abbrev pub effect_of_layer : Content → Proc-F Proc → Outcome Effect
effect_of_layer p (Proc-F.Hide q s) = and_then (events_in p s) (λ hidden. Ok (record { labels = hidden_labels hidden; last = (Tick, proc.Ended) }))
effect_of_layer p (Proc-F.Rename q pairs gens) =
    and_then (renaming_in p pairs gens) (λ renamed. Ok (record { labels = renamed_labels (images renamed); last = (Tick, proc.Ended) }))
effect_of_layer p (Proc-F.Seq q r) = Ok (record { labels = λ l. l ∷ []; last = (Silent, r) })
effect_of_layer p other = Err Kind

abbrev pub effect_of : Content → Proc → Outcome Effect
effect_of p t = effect_of_layer p (out-Proc t)

-- what is made of a step of the process below the process t
abbrev pub moves_of : Effect → Proc → Label → Proc → List Move
moves_of effect t Silent r = map (λ l. (l, with_first t r)) (effect.labels Silent)
moves_of effect t (Visible e) r = map (λ l. (l, with_first t r)) (effect.labels (Visible e))
moves_of effect t Tick r = effect.last ∷ []

abbrev pub all_moves : Effect → Proc → List Move → List Move
all_moves effect t moves = joined (map (λ m. moves_of effect t m.0 m.1) moves)

abbrev pub around : Content → Proc → List Move → Outcome (List Move)
around p t moves = and_then (effect_of p t) (λ effect. Ok (all_moves effect t moves))

-- the effect of an operator of the code
abbrev pub labels_by : Operator → Label → List Label
labels_by (operator.Hide hidden) = hidden_labels hidden
labels_by (operator.Rename kept) = renamed_labels (becomes kept)
labels_by (operator.Seq second) = λ l. l ∷ []

abbrev pub last_by : List Proc → Operator → Move
last_by trees (operator.Hide hidden) = (Tick, proc.Ended)
last_by trees (operator.Rename kept) = (Tick, proc.Ended)
last_by trees (operator.Seq second) = (Silent, tree_at trees second)

abbrev pub effect_as : List Proc → Operator → Effect
effect_as trees op = record { labels = labels_by op; last = last_by trees op }

-- the second part of a sequence stands at one of the first so many places
abbrev pub IsWithin : ℕ → Operator → Type 0
IsWithin count (operator.Hide hidden) = Unit {0}
IsWithin count (operator.Rename kept) = Unit {0}
IsWithin count (operator.Seq second) = second.0 < count

-- the operator is that of the process
pub record Does (p : Content) (trees : List Proc) (op : Operator) (t : Proc) : Type 0 where
  pub effect : effect_of p t ≡ Ok (effect_as trees op)
  pub within : IsWithin (length trees) op

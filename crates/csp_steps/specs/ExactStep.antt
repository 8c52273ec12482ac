-- `==` on steps is equality.
use Rattle.std.specs.Prelude.{◌≡◌, Bool, true, refl}
use Rattle.std.proofs.lemmas.Bool.{eqb-true, false≢true}
use Rattle.std.specs.Cmp.{first_so, second_so}
use Rattle.csp_steps.specs.contracts.step.StepToPartialEq.TheImpl as steps
use Rattle.csp_steps.specs.declared.step.StepTo.{StepTo}
use Rattle.process_steps.specs.contracts.label.LabelPartialEq.TheImpl as labels
use Rattle.process_steps.specs.declared.label.Label.{Label}
use Rattle.process_steps.specs.declared.label.Label.TheVariants.{Silent, Visible, Tick}
use Rattle.pool_parts.specs.ExactId.{eq_id, exact_id}

abbrev pub eq_label : Label → Label → Bool
eq_label = (labels.ghosts).eq

abbrev pub eq_step : StepTo → StepTo → Bool
eq_step = (steps.ghosts).eq

pub exact_label : (x y : Label) → eq_label x y ≡ true → x ≡ y
exact_label Silent Silent h = refl
exact_label (Visible e) (Visible d) h = λ i. Visible (eqb-true e d h i)
exact_label Tick Tick h = refl
exact_label x y h = absurd (false≢true h)

pub exact_step : (x y : StepTo) → eq_step x y ≡ true → x ≡ y
exact_step x y h = λ i. record {
  label = exact_label x.label y.label (first_so (eq_label x.label y.label) (eq_id x.to y.to) h) i;
  to = exact_id x.to y.to (second_so (eq_label x.label y.label) (eq_id x.to y.to) h) i;
}

-- What each fault tells refutes the rule.
use Rattle.design_rules.proofs.Prelude.{ℕ, List, inl, inr, Shape, KeepsPlaces, MustPrecede, BreaksOrder, IsHeldWhile, FaultsRefute, Cyclic, ClientServer, Resource, NoOrder, NoWholeEnd, Broken, LinksCircle, ClientsCircle, ResourcesCircle}
use Rattle.design_rules.specs.declared.condition.Condition.TheVariants as condition
use Rattle.design_rules.proofs.Walks.{no_circle}

-- where places are kept, nothing clashes
clashing : (shape : Shape) (i : ℕ) (s : List ℕ) (e : ℕ) → KeepsPlaces shape i → BreaksOrder shape i s e → ⊥
clashing shape i s e keeps b =
    let same = keeps b.link b.other_link s b.other_run e b.other_event b.reaches b.other_reaches in
    elim b.clash [ inl c ↦ c.0 (same.1 c.1) | inr c ↦ c.1 (same.0 c.0) ]

pub faults_refute : FaultsRefute
faults_refute Cyclic shape (NoOrder i s e) rule told = clashing shape i s e (rule.order i told.breaks.reaches.possible.runs.part) told.breaks
faults_refute Cyclic shape (NoWholeEnd i j s t) rule told = elim (rule.whole told.link told.within) [ inl left ↦ left s told.left | inr right ↦ right t told.right ]
faults_refute Cyclic shape (LinksCircle ends) rule told = no_circle (MustPrecede shape) rule.numbered.number rule.numbered.rise told.links told.circle.circle
faults_refute Cyclic shape _ rule told = told
faults_refute (ClientServer roles) shape (Broken condition.Roles i s) rule told = told.1.broken (rule.keep_roles.parted i told.1.within)
faults_refute (ClientServer roles) shape (Broken condition.Clients i s) rule told = told.1.broken (rule.keep_roles.linked told.1.link told.1.within)
faults_refute (ClientServer roles) shape (Broken condition.Turns i s) rule told = told.1.broken (rule.keep_roles.turns i s)
faults_refute (ClientServer roles) shape (Broken condition.Service i s) rule told = told.2.broken (rule.keep_roles.serving i s)
faults_refute (ClientServer roles) shape (Broken condition.Answers i s) rule told = told.3.broken (rule.keep_roles.answers i s)
faults_refute (ClientServer roles) shape (ClientsCircle clients) rule told = rule.no_circle clients told.circle.circle
faults_refute (ClientServer roles) shape _ rule told = told
faults_refute (Resource uses) shape (Broken condition.Kinds i s) rule told = told.1.broken (record { linked = λ l h left. rule.keep_uses.kinds.linked l h; parted = rule.keep_uses.kinds.parted i told.1.within })
faults_refute (Resource uses) shape (Broken condition.Holders i s) rule told = told.1.broken (rule.keep_uses.used i s)
faults_refute (Resource uses) shape (Broken condition.Grants i s) rule told = told.2.broken (rule.keep_uses.grants i s)
faults_refute (Resource uses) shape (Broken condition.Uses i s) rule told = told.3.broken (rule.keep_uses.turns i s)
faults_refute (Resource uses) shape (ResourcesCircle resources) rule told = no_circle (IsHeldWhile shape uses) rule.ordered.number rule.ordered.rise resources told.circle.circle
faults_refute (Resource uses) shape _ rule told = told

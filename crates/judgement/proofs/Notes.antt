-- What a rule notes: it is one thing, with something for each part; and it isn't there where a set has no value.
use Rattle.judgement.proofs.Prelude.{◌≡◌, ℕ, zero, suc, List, [], ◌∷◌, Ok, Err, Some, length, slice_get, refl, sym, ap, subst, ◌∙◌, arith, none-some, same_Some, Proc, Component, leaves, Shape, ArePartsOf, HasNotes, NotedRule, Network, ProcessStep, HasUntold, Notes, Outcome, and_then, ValueKind, Rule, ClientServer, Cyclic, Resource, one_part_each, IsUntold, NotedFault, all_outcomes, Refusal}

pub same_ok : {A : Type 0} (o : Outcome A) (x y : A) → o ≡ Ok x → o ≡ Ok y → x ≡ y
same_ok o x y a b = cc

-- what there is where something is made of it
pub found : {A B : Type 0} (o : Outcome A) (make : A → B) (y : B) → and_then o (λ x. Ok (make x)) ≡ Ok y → (x : A) × (o ≡ Ok x) × (make x ≡ y)
found (Err why) make y is = absurd (let z : ⊥ = cc in z)
found (Ok x) make y is = (x, refl, same_ok (Ok (make x)) (make x) y refl is)

-- all outcomes are the first one and the others
first_and_others : {A C : Type 0} (f : C → Outcome A) (c : C) (cs : List C) (ys : List A) → all_outcomes f (c ∷ cs) ≡ Ok ys
    → (y : A) × (zs : List A) × (f c ≡ Ok y) × (all_outcomes f cs ≡ Ok zs) × (y ∷ zs ≡ ys)
first_and_others f c cs ys is = split (f c) (all_outcomes f cs) is
  where
    split : (first : Outcome _) (others : Outcome (List _)) → and_then first (λ y. and_then others (λ zs. Ok (y ∷ zs))) ≡ Ok ys
        → (y : _) × (zs : List _) × (first ≡ Ok y) × (others ≡ Ok zs) × (y ∷ zs ≡ ys)
    split (Err why) others is = absurd (let z : ⊥ = cc in z)
    split (Ok y) (Err why) is = absurd (let z : ⊥ = cc in z)
    split (Ok y) (Ok zs) is = (y, zs, refl, refl, same_ok (Ok (y ∷ zs)) (y ∷ zs) ys refl is)

as_many : {A C : Type 0} (f : C → Outcome A) (cs : List C) (ys : List A) → all_outcomes f cs ≡ Ok ys → length ys ≡ length cs
as_many f [] ys is = ap length (sym (same_ok (Ok []) [] ys refl is))
as_many f (c ∷ cs) ys is =
    let (y, zs, here, there, same) = first_and_others f c cs ys is in
    let rest = as_many f cs zs there in
    let whole : length (y ∷ zs) ≡ length ys = ap length same in
    omega (arith, rest, whole)

-- the notes are as many as the parts
pub has_notes : (network : Network) (rule : Rule) (notes : NotedRule) (shape : Shape) → Notes network rule notes → ArePartsOf (ProcessStep network.program) (leaves network.tree) shape.parts
    → HasNotes notes shape
has_notes network Cyclic notes shape are parts = subst (λ (n : NotedRule). HasNotes n shape) (same_ok (Ok _) _ notes refl are) tt
has_notes network ClientServer notes shape are parts =
    let (roles, told, is) = found _ _ notes are in
    subst (λ (n : NotedRule). HasNotes n shape) is (as_many _ (leaves network.tree) roles told ∙ one_part_each (ProcessStep network.program) (leaves network.tree) shape.parts parts)
has_notes network Resource notes shape are parts =
    let (uses, told, is) = found _ _ notes are in
    subst (λ (n : NotedRule). HasNotes n shape) is (as_many _ (leaves network.tree) uses told ∙ one_part_each (ProcessStep network.program) (leaves network.tree) shape.parts parts)

-- where all have a value, no member lacks one
each_told : {A C : Type 0} (f : C → Outcome A) (cs : List C) (ys : List A) (i : ℕ) (c : C) (why : ValueKind) → all_outcomes f cs ≡ Ok ys → slice_get cs i ≡ Some c → f c ≡ Err why → ⊥
each_told f [] ys i c why is at lacks = none-some c at
each_told f (d ∷ cs) ys zero c why is at lacks =
    let (y, zs, here, there, same) = first_and_others f d cs ys is in
    let no : Ok y ≡ Err why = sym here ∙ ap f (same_Some d c at) ∙ lacks in
    cc
each_told f (d ∷ cs) ys (suc i) c why is at lacks =
    let (y, zs, here, there, same) = first_and_others f d cs ys is in
    each_told f cs zs i c why there at lacks

no_untold : {A : Type 0} (f : Component Proc → Outcome A) (cs : List (Component Proc)) (ys : List A) (g : NotedFault) → all_outcomes f cs ≡ Ok ys → IsUntold f cs g → ⊥
no_untold f cs ys g is lacks = each_told f cs ys g.part lacks.component g.kind is lacks.stands lacks.lacks

pub all_told : (network : Network) (rule : Rule) (notes : NotedRule) (r : Refusal) → Notes network rule notes → HasUntold network rule r → ⊥
all_told network Cyclic notes r are has = has
all_told network ClientServer notes r are (f, is, tells) = let (roles, told, same) = found _ _ notes are in no_untold _ (leaves network.tree) roles f told is
all_told network Resource notes r are (f, is, tells) = let (uses, told, same) = found _ _ notes are in no_untold _ (leaves network.tree) uses f told is

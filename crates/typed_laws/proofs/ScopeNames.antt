-- The names of scopes: what a binder says that it binds is what it adds to the scope.
use Rattle.typed_laws.proofs.Sources.{◌≡◌, ℕ, ◌+◌, Bool, true, false, ◌||◌, Option, Some, None, List, [], ◌∷◌, ◌++◌, map, refl, sym, ◌∙◌, ap, append-nil, if◌then◌else◌, Name, Meanings, is_among, same_name, sense_in, sense_of, Binder, Binding, Scope, names_of, number_of, or_else, under, with, FieldTree, FieldTree-F, GenTree, GenTree-F, Kind, Sense, out-FieldTree, out-GenTree, roll-out-FieldTree, roll-out-GenTree}
use Rattle.script_names.specs.Says as says
use Rattle.typed_laws.proofs.Trees.{FieldLayer, GenLayer, at_field, at_gen, field_layer, gen_layer, of_field, of_gen, reads, saying}

pub names_with : (scope : Scope) (x : Name) (n : ℕ) → names_of (with scope x n) ≡ names_of scope ++ x ∷ []
names_with [] x n = refl
names_with (b ∷ scope) x n = ap (λ l. b.0 ∷ l) (names_with scope x n)

-- what a binder says that it binds is what it adds
abbrev pub AddsNames : {B : Type 0} → Binder → Binding B → Type 0
AddsNames b g = (scope : Scope) (n : ℕ) → names_of (g.after scope n) ≡ names_of scope ++ b.names

pub add_names : {T B : Type 0} (said : T → Binder) (read : T → Binding B) → ((t : T) → AddsNames (said t) (read t)) → (ts : List T) (scope : Scope) (n : ℕ)
    → names_of (under (map read ts) scope n) ≡ says.under (map said ts) (names_of scope)
add_names said read one [] scope n = refl
add_names said read one (t ∷ ts) scope n =
    add_names said read one ts ((read t).after scope n) (n + (read t).binds) ∙ ap (says.under (map said ts)) (one t scope n)

module _ (m : Meanings) (ks : List Kind) where
  field_layer_names : (d : FieldLayer) → AddsNames (field_layer (saying m ks) d) (field_layer (reads m ks) d)
  field_layer_names (FieldTree-F.«FieldTree::Dot» a) scope n = sym (append-nil (names_of scope))
  field_layer_names (FieldTree-F.Output a) scope n = sym (append-nil (names_of scope))
  field_layer_names (FieldTree-F.Input x None) scope n = names_with scope x n
  field_layer_names (FieldTree-F.Input x (Some s)) scope n = names_with scope x n

  pub field_names : (t : FieldTree) → AddsNames (of_field (saying m ks) t) (of_field (reads m ks) t)
  field_names t = at_field m ks (λ t b g. AddsNames b g) (out-FieldTree t) (roll-out-FieldTree t) (field_layer_names (out-FieldTree t))

  gen_layer_names : (d : GenLayer) → AddsNames (gen_layer (saying m ks) d) (gen_layer (reads m ks) d)
  gen_layer_names (GenTree-F.From x s) scope n = names_with scope x n
  gen_layer_names (GenTree-F.Cond c) scope n = sym (append-nil (names_of scope))

  pub gen_names : (t : GenTree) → AddsNames (of_gen (saying m ks) t) (of_gen (reads m ks) t)
  gen_names t = at_gen m ks (λ t b g. AddsNames b g) (out-GenTree t) (roll-out-GenTree t) (gen_layer_names (out-GenTree t))

-- a name is bound, with its number, or it is what it is declared as
pub data NameIs (m : Meanings) (x : Name) : Option ℕ → Sense → Type 0 where
  is_bound : (k : ℕ) → NameIs m x (Some k) Sense.Bound
  is_free : NameIs m x None (sense_of (m x))

pub data SameBound : Option ℕ → Bool → Type 0 where
  bound : (k : ℕ) → SameBound (Some k) true
  unbound : SameBound None false

or_else_bound : {a b : Option ℕ} {s t : Bool} → SameBound a s → SameBound b t → SameBound (or_else a b) (t || s)
or_else_bound (bound k) (bound n) = bound k
or_else_bound (bound k) unbound = bound k
or_else_bound unbound (bound n) = bound n
or_else_bound unbound unbound = unbound

if_bound : (b : Bool) (n : ℕ) → SameBound (if b then Some n else None) b
if_bound true n = bound n
if_bound false n = unbound

same_bound : (scope : Scope) (x : Name) → SameBound (number_of scope x) (is_among (names_of scope) x)
same_bound [] x = unbound
same_bound (b ∷ scope) x = or_else_bound (same_bound scope x) (if_bound (same_name x b.0) b.1)

name_of_bound : (m : Meanings) (x : Name) {o : Option ℕ} {b : Bool} → SameBound o b → NameIs m x o (if b then Sense.Bound else sense_of (m x))
name_of_bound m x (bound k) = is_bound k
name_of_bound m x unbound = is_free

pub name_is : (m : Meanings) (scope : Scope) (x : Name) → NameIs m x (number_of scope x) (sense_in m (names_of scope) x)
name_is m scope x = name_of_bound m x (same_bound scope x)

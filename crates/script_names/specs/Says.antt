-- What trees say at their names and forms, in the order of their tokens. The items of a comprehension, the parts of `{| |}` and the pairs of a
-- renaming stand before its generators and under the names that these bind.
use Rattle.std.specs.Prelude.{◌+◌, ◌∷◌, ◌++◌}
use Rattle.script_names.specs.Sources.{Place, true, false, Some, None, List, [], length, map, fold-Tree, FieldTree-F, GenTree-F, Tree-F, EventTree-F, PartTree-F, Tree, Occurrence, Binds, Uses, Form, Parallel, Need, Use, Class}
use Rattle.script_names.specs.Names.{Name, Meanings, sense_in}

-- what is said under these bound names
abbrev pub Saying : Type 0
Saying = List Name → List (Occurrence Name)

-- what a tree says at its place; what a part of a tree says at the place of that tree
abbrev pub Said : Type 0
Said = Place → Saying

-- what a field or a generator says, and the names that it binds in those after it
pub record Binder : Type 0 where
  pub names : List Name
  pub says : Said

-- a channel, and what the fields after it say
pub record Fields (F : Type 0) : Type 0 where
  pub name : Name
  pub fields : List F

-- the places in what stands at a place
abbrev pub data_in : Place → Place
data_in place = record { need = Need.Data; network = false; level = place.level + 1 }

abbrev pub process_in : Place → Place
process_in place = record { need = Need.Process; network = false; level = place.level + 1 }

abbrev pub network_in : Place → Place
network_in place = record { need = Need.Process; network = true; level = place.level + 1 }

-- a part of an `if` has the need of the `if`, and is a network position where the `if` is one
abbrev pub part_in : Place → Place
part_in place = record place { level = place.level + 1 }

abbrev pub all_say : List Said → Said
all_say [] place names = []
all_say (t ∷ ts) place names = t place names ++ all_say ts place names

-- the bound names with those of a list of fields or generators
abbrev pub under : List Binder → List Name → List Name
under [] names = names
under (b ∷ bs) names = under bs (names ++ b.names)

-- what a list of fields or generators says, each under the names of those before it
abbrev pub in_turn : List Binder → Said
in_turn [] place names = []
in_turn (b ∷ bs) place names = b.says place names ++ in_turn bs place (names ++ b.names)

module _ (meanings : Meanings) where
  abbrev pub part_says : Fields Said → Said
  part_says part place names =
      Uses part.name (sense_in meanings names part.name) (Use.Begins (length part.fields)) ∷ all_say part.fields (data_in place) names

  abbrev pub pair_says : Fields Said × Fields Said → Said
  pair_says pair place names =
      Uses pair.0.name (sense_in meanings names pair.0.name) (Use.Renamed (length pair.0.fields) (sense_in meanings names pair.1.name) (length pair.1.fields))
      ∷ part_says pair.0 place names ++ part_says pair.1 place names

  abbrev pub tree_says_of_layer : Tree-F Binder Binder Said (Fields Binder) (Fields Said) → Said
  tree_says_of_layer (Tree-F.Num n) place names = Form Class.Data place ∷ []
  tree_says_of_layer Tree-F.True place names = Form Class.Data place ∷ []
  tree_says_of_layer Tree-F.False place names = Form Class.Data place ∷ []
  tree_says_of_layer (Tree-F.Name x) place names = Uses x (sense_in meanings names x) (Use.Alone place) ∷ []
  tree_says_of_layer (Tree-F.Call f args) place names =
      Uses f (sense_in meanings names f) (Use.Called (length args) place) ∷ all_say args (data_in place) names
  tree_says_of_layer (Tree-F.«Tree::Dot» c fields) place names =
      Form Class.Data place ∷ Uses c (sense_in meanings names c) (Use.Dotted (length fields)) ∷ all_say fields (data_in place) names
  tree_says_of_layer (Tree-F.Neg a) place names = Form Class.Data place ∷ a (data_in place) names
  tree_says_of_layer (Tree-F.Not a) place names = Form Class.Data place ∷ a (data_in place) names
  tree_says_of_layer (Tree-F.Binary op a b) place names = Form Class.Data place ∷ a (data_in place) names ++ b (data_in place) names
  tree_says_of_layer (Tree-F.If c a b) place names = c (data_in place) names ++ (a (part_in place) names ++ b (part_in place) names)
  tree_says_of_layer (Tree-F.Display items) place names = Form Class.Data place ∷ all_say items (data_in place) names
  tree_says_of_layer (Tree-F.Range a b) place names = Form Class.Data place ∷ a (data_in place) names ++ b (data_in place) names
  tree_says_of_layer (Tree-F.Comp items gens) place names =
      Form Class.Data place ∷ all_say items (data_in place) (under gens names) ++ in_turn gens place names
  tree_says_of_layer (Tree-F.Product parts gens) place names =
      Form Class.Data place ∷ all_say (map part_says parts) place (under gens names) ++ in_turn gens place names
  tree_says_of_layer (Tree-F.SetOp op a b) place names = Form Class.Data place ∷ a (data_in place) names ++ b (data_in place) names
  tree_says_of_layer Tree-F.Stop place names = Form Class.Process place ∷ []
  tree_says_of_layer Tree-F.Skip place names = Form Class.Process place ∷ []
  tree_says_of_layer (Tree-F.Prefix event p) place names =
      Form Class.Process place ∷ Uses event.name (sense_in meanings names event.name) (Use.Heads (length event.fields))
      ∷ in_turn event.fields place names ++ p (process_in place) (under event.fields names)
  tree_says_of_layer (Tree-F.Guard c p) place names = Form Class.Process place ∷ c (data_in place) names ++ p (process_in place) names
  tree_says_of_layer (Tree-F.External ps) place names = Form Class.Process place ∷ all_say ps (process_in place) names
  tree_says_of_layer (Tree-F.Internal ps) place names = Form Class.Process place ∷ all_say ps (process_in place) names
  tree_says_of_layer (Tree-F.EachExternal x s p) place names =
      Form Class.Process place ∷ Binds x false ∷ s (data_in place) names ++ p (process_in place) (names ++ x ∷ [])
  tree_says_of_layer (Tree-F.EachInternal x s p) place names =
      Form Class.Process place ∷ Binds x false ∷ s (data_in place) names ++ p (process_in place) (names ++ x ∷ [])
  tree_says_of_layer (Tree-F.Parallel p a b q) place names =
      Parallel place ∷ p (network_in place) names ++ (a (data_in place) names ++ (b (data_in place) names ++ q (network_in place) names))
  tree_says_of_layer (Tree-F.EachParallel x s a p) place names =
      Parallel place ∷ Binds x false ∷ s (data_in place) names ++ (a (data_in place) (names ++ x ∷ []) ++ p (network_in place) (names ++ x ∷ []))
  tree_says_of_layer (Tree-F.Seq p q) place names = Form Class.Process place ∷ p (process_in place) names ++ q (process_in place) names
  tree_says_of_layer (Tree-F.Hide p s) place names = Form Class.Process place ∷ p (process_in place) names ++ s (data_in place) names
  tree_says_of_layer (Tree-F.Rename p pairs gens) place names =
      Form Class.Process place ∷ p (process_in place) names ++ (all_say (map pair_says pairs) place (under gens names) ++ in_turn gens place names)

  abbrev pub field_says_of_layer : FieldTree-F Binder Binder Said (Fields Binder) (Fields Said) → Binder
  field_says_of_layer (FieldTree-F.«FieldTree::Dot» a) = record { names = []; says = λ place names. a (data_in place) names }
  field_says_of_layer (FieldTree-F.Output a) = record { names = []; says = λ place names. a (data_in place) names }
  field_says_of_layer (FieldTree-F.Input x None) = record { names = x ∷ []; says = λ place names. Binds x false ∷ [] }
  field_says_of_layer (FieldTree-F.Input x (Some s)) = record { names = x ∷ []; says = λ place names. Binds x false ∷ s (data_in place) names }

  abbrev pub gen_says_of_layer : GenTree-F Binder Binder Said (Fields Binder) (Fields Said) → Binder
  gen_says_of_layer (GenTree-F.From x s) = record { names = x ∷ []; says = λ place names. Binds x false ∷ s (data_in place) names }
  gen_says_of_layer (GenTree-F.Cond c) = record { names = []; says = λ place names. c (data_in place) names }

  abbrev pub event_says_of_layer : EventTree-F Binder Binder Said (Fields Binder) (Fields Said) → Fields Binder
  event_says_of_layer event = record { name = event.name; fields = event.fields }

  abbrev pub part_says_of_layer : PartTree-F Binder Binder Said (Fields Binder) (Fields Said) → Fields Said
  part_says_of_layer part = record { name = part.name; fields = part.fields }

  abbrev pub tree_says : Tree → Said
  tree_says = fold-Tree Binder Binder Said (Fields Binder) (Fields Said)
      field_says_of_layer gen_says_of_layer tree_says_of_layer event_says_of_layer part_says_of_layer

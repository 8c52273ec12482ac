-- What each form says, in what its parts say: a line for each form, by the equations that are made of the folds.
use Rattle.name_faults.proofs.Prelude.{◌≡◌, ℕ, ◌+◌, ◌<◌, ◌≤◌, Some, None, List, [], ◌∷◌, ◌++◌, length, false, append_assoc, rules, GenTree, PartTree, Tree, length-map, Entities, Name, first_of, sense_in, data_in, process_in, network_in, part_in, Place, Occurrence, Binds, Uses, Form, Parallel, Class, Use, BinOp, SetOp, EventTree, out-EventTree, out-PartTree, the_lemmas, append-nil, field_names, field_said, fields_said, gen_names, gen_said, gens_said, pair_said, pairs_said, part_said, parts_said, tree_said, trees_said, under_fields, under_gens}
use Rattle.csp_text.specs.declared.tree.EventTree.{the_lemmas as event_lemmas}
use Rattle.csp_text.specs.declared.tree.PartTree.{the_lemmas as part_lemmas}
use Rattle.csp_text.specs.declared.tree.FieldTree.TheVariants as field
use Rattle.csp_text.specs.declared.tree.GenTree.TheVariants as generator
use Rattle.csp_text.specs.declared.tree.Tree.TheVariants as tree

module _ (e : Entities) (place : Place) (names : List Name) where
  abbrev used : Name → Use → Occurrence Name
  used x how = Uses x (sense_in (first_of e) names x) how

  pub says-Num : (k : ℕ) → tree_said e (tree.Num k) place names ≡ Form Class.Data place ∷ []
  unfolding tree_said
  says-Num k = search (rules, the_lemmas)

  pub says-True : tree_said e tree.True place names ≡ Form Class.Data place ∷ []
  unfolding tree_said
  says-True = search (rules, the_lemmas)

  pub says-False : tree_said e tree.False place names ≡ Form Class.Data place ∷ []
  unfolding tree_said
  says-False = search (rules, the_lemmas)

  pub says-Stop : tree_said e tree.Stop place names ≡ Form Class.Process place ∷ []
  unfolding tree_said
  says-Stop = search (rules, the_lemmas)

  pub says-Skip : tree_said e tree.Skip place names ≡ Form Class.Process place ∷ []
  unfolding tree_said
  says-Skip = search (rules, the_lemmas)

  pub says-Name : (x : Name) → tree_said e (tree.Name x) place names ≡ used x (Use.Alone place) ∷ []
  unfolding tree_said
  says-Name x = search (rules, the_lemmas)

  pub says-Call : (f : Name) (args : List Tree) → tree_said e (tree.Call f args) place names ≡ used f (Use.Called (length args) place) ∷ trees_said e args (data_in place) names
  unfolding tree_said trees_said
  says-Call f args = search (rules, the_lemmas, length-map)

  pub says-Dot : (c : Name) (fields : List Tree) → tree_said e (tree.Dot c fields) place names ≡ Form Class.Data place ∷ used c (Use.Dotted (length fields)) ∷ trees_said e fields (data_in place) names
  unfolding tree_said trees_said
  says-Dot c fields = search (rules, the_lemmas, length-map)

  pub says-Neg : (a : Tree) → tree_said e (tree.Neg a) place names ≡ Form Class.Data place ∷ tree_said e a (data_in place) names
  unfolding tree_said
  says-Neg a = search (rules, the_lemmas)

  pub says-Not : (a : Tree) → tree_said e (tree.Not a) place names ≡ Form Class.Data place ∷ tree_said e a (data_in place) names
  unfolding tree_said
  says-Not a = search (rules, the_lemmas)

  pub says-Binary : (op : BinOp) (a b : Tree) → tree_said e (tree.Binary op a b) place names ≡ Form Class.Data place ∷ (tree_said e a (data_in place) names ++ tree_said e b (data_in place) names)
  unfolding tree_said
  says-Binary op a b = search (rules, the_lemmas)

  pub says-Range : (a b : Tree) → tree_said e (tree.Range a b) place names ≡ Form Class.Data place ∷ (tree_said e a (data_in place) names ++ tree_said e b (data_in place) names)
  unfolding tree_said
  says-Range a b = search (rules, the_lemmas)

  pub says-SetOp : (op : SetOp) (a b : Tree) → tree_said e (tree.SetOp op a b) place names ≡ Form Class.Data place ∷ (tree_said e a (data_in place) names ++ tree_said e b (data_in place) names)
  unfolding tree_said
  says-SetOp op a b = search (rules, the_lemmas)

  pub says-If : (c a b : Tree) → tree_said e (tree.If c a b) place names ≡ tree_said e c (data_in place) names ++ (tree_said e a (part_in place) names ++ tree_said e b (part_in place) names)
  unfolding tree_said
  says-If c a b = search (rules, the_lemmas)

  pub says-Display : (items : List Tree) → tree_said e (tree.Display items) place names ≡ Form Class.Data place ∷ trees_said e items (data_in place) names
  unfolding tree_said trees_said
  says-Display items = search (rules, the_lemmas)

  pub says-Comp : (items : List Tree) (gens : List GenTree) → tree_said e (tree.Comp items gens) place names ≡ Form Class.Data place ∷ (trees_said e items (data_in place) (under_gens e gens names) ++ gens_said e gens place names)
  unfolding tree_said trees_said gens_said under_gens
  says-Comp items gens = search (rules, the_lemmas)

  pub says-Product : (parts : List PartTree) (gens : List GenTree) → tree_said e (tree.Product parts gens) place names ≡ Form Class.Data place ∷ (parts_said e parts place (under_gens e gens names) ++ gens_said e gens place names)
  unfolding tree_said parts_said gens_said under_gens
  says-Product parts gens = search (rules, the_lemmas)

  pub says-Prefix : (event : EventTree) (p : Tree) → tree_said e (tree.Prefix event p) place names ≡ Form Class.Process place ∷ used (out-EventTree event).name (Use.Heads (length (out-EventTree event).fields)) ∷ (fields_said e (out-EventTree event).fields place names ++ tree_said e p (process_in place) (under_fields e (out-EventTree event).fields names))
  unfolding tree_said fields_said under_fields
  says-Prefix event p = search (rules, the_lemmas, event_lemmas, length-map)

  pub says-Guard : (c p : Tree) → tree_said e (tree.Guard c p) place names ≡ Form Class.Process place ∷ (tree_said e c (data_in place) names ++ tree_said e p (process_in place) names)
  unfolding tree_said
  says-Guard c p = search (rules, the_lemmas)

  pub says-External : (ps : List Tree) → tree_said e (tree.External ps) place names ≡ Form Class.Process place ∷ trees_said e ps (process_in place) names
  unfolding tree_said trees_said
  says-External ps = search (rules, the_lemmas)

  pub says-Internal : (ps : List Tree) → tree_said e (tree.Internal ps) place names ≡ Form Class.Process place ∷ trees_said e ps (process_in place) names
  unfolding tree_said trees_said
  says-Internal ps = search (rules, the_lemmas)

  pub says-EachExternal : (x : Name) (s p : Tree) → tree_said e (tree.EachExternal x s p) place names ≡ Form Class.Process place ∷ Binds x false ∷ (tree_said e s (data_in place) names ++ tree_said e p (process_in place) (names ++ x ∷ []))
  unfolding tree_said
  says-EachExternal x s p = search (rules, the_lemmas)

  pub says-EachInternal : (x : Name) (s p : Tree) → tree_said e (tree.EachInternal x s p) place names ≡ Form Class.Process place ∷ Binds x false ∷ (tree_said e s (data_in place) names ++ tree_said e p (process_in place) (names ++ x ∷ []))
  unfolding tree_said
  says-EachInternal x s p = search (rules, the_lemmas)

  pub says-Parallel : (p a b q : Tree) → tree_said e (tree.Parallel p a b q) place names ≡ Parallel place ∷ (tree_said e p (network_in place) names ++ (tree_said e a (data_in place) names ++ (tree_said e b (data_in place) names ++ tree_said e q (network_in place) names)))
  unfolding tree_said
  says-Parallel p a b q = search (rules, the_lemmas)

  pub says-EachParallel : (x : Name) (s a p : Tree) → tree_said e (tree.EachParallel x s a p) place names ≡ Parallel place ∷ Binds x false ∷ (tree_said e s (data_in place) names ++ (tree_said e a (data_in place) (names ++ x ∷ []) ++ tree_said e p (network_in place) (names ++ x ∷ [])))
  unfolding tree_said
  says-EachParallel x s a p = search (rules, the_lemmas)

  pub says-Seq : (p q : Tree) → tree_said e (tree.Seq p q) place names ≡ Form Class.Process place ∷ (tree_said e p (process_in place) names ++ tree_said e q (process_in place) names)
  unfolding tree_said
  says-Seq p q = search (rules, the_lemmas)

  pub says-Hide : (p s : Tree) → tree_said e (tree.Hide p s) place names ≡ Form Class.Process place ∷ (tree_said e p (process_in place) names ++ tree_said e s (data_in place) names)
  unfolding tree_said
  says-Hide p s = search (rules, the_lemmas)

  pub says-Rename : (p : Tree) (pairs : List (PartTree × PartTree)) (gens : List GenTree) → tree_said e (tree.Rename p pairs gens) place names ≡ Form Class.Process place ∷ (tree_said e p (process_in place) names ++ (pairs_said e pairs place (under_gens e gens names) ++ gens_said e gens place names))
  unfolding tree_said pairs_said gens_said under_gens
  says-Rename p pairs gens = search (rules, the_lemmas)

  pub field-Dot : (a : Tree) → field_said e (field.Dot a) place names ≡ tree_said e a (data_in place) names
  unfolding field_said tree_said
  field-Dot a = search (rules, the_lemmas)

  pub field-Output : (a : Tree) → field_said e (field.Output a) place names ≡ tree_said e a (data_in place) names
  unfolding field_said tree_said
  field-Output a = search (rules, the_lemmas)

  pub field-Input : (x : Name) → field_said e (field.Input x None) place names ≡ Binds x false ∷ []
  unfolding field_said
  field-Input x = search (rules, the_lemmas)

  pub field-Input-within : (x : Name) (s : Tree) → field_said e (field.Input x (Some s)) place names ≡ Binds x false ∷ tree_said e s (data_in place) names
  unfolding field_said tree_said
  field-Input-within x s = search (rules, the_lemmas)

  pub gen-From : (x : Name) (s : Tree) → gen_said e (generator.From x s) place names ≡ Binds x false ∷ tree_said e s (data_in place) names
  unfolding gen_said tree_said
  gen-From x s = search (rules, the_lemmas)

  pub gen-Cond : (c : Tree) → gen_said e (generator.Cond c) place names ≡ tree_said e c (data_in place) names
  unfolding gen_said tree_said
  gen-Cond c = search (rules, the_lemmas)

  pub part-is : (p : PartTree) → part_said e p place names ≡ used (out-PartTree p).name (Use.Begins (length (out-PartTree p).fields)) ∷ trees_said e (out-PartTree p).fields (data_in place) names
  unfolding part_said trees_said
  part-is p = search (rules, the_lemmas, part_lemmas, length-map)

  pub pair-is : (p : PartTree × PartTree) → pair_said e p place names
      ≡ used (out-PartTree p.0).name (Use.Renamed (length (out-PartTree p.0).fields) (sense_in (first_of e) names (out-PartTree p.1).name) (length (out-PartTree p.1).fields)) ∷ (part_said e p.0 place names ++ part_said e p.1 place names)
  unfolding pair_said part_said
  pair-is p = search (rules, the_lemmas, part_lemmas, length-map)

module _ (e : Entities) where
  pub names-Dot : (a : Tree) → field_names e (field.Dot a) ≡ []
  unfolding field_names
  names-Dot a = search (rules, the_lemmas)

  pub names-Output : (a : Tree) → field_names e (field.Output a) ≡ []
  unfolding field_names
  names-Output a = search (rules, the_lemmas)

  pub names-Input : (x : Name) → field_names e (field.Input x None) ≡ x ∷ []
  unfolding field_names
  names-Input x = search (rules, the_lemmas)

  pub names-Input-within : (x : Name) (s : Tree) → field_names e (field.Input x (Some s)) ≡ x ∷ []
  unfolding field_names
  names-Input-within x s = search (rules, the_lemmas)

  pub names-From : (x : Name) (s : Tree) → gen_names e (generator.From x s) ≡ x ∷ []
  unfolding gen_names
  names-From x s = search (rules, the_lemmas)

  pub names-Cond : (c : Tree) → gen_names e (generator.Cond c) ≡ []
  unfolding gen_names
  names-Cond c = search (rules, the_lemmas)

pub ruleset tree_forms = (says-Num, says-True, says-False, says-Stop, says-Skip, says-Name, says-Call, says-Dot, says-Neg, says-Not, says-Binary, says-Range, says-SetOp, says-If, says-Display, says-Comp, says-Product, says-Prefix, says-Guard, says-External, says-Internal, says-EachExternal, says-EachInternal, says-Parallel, says-EachParallel, says-Seq, says-Hide, says-Rename, append_assoc)

pub ruleset part_forms = (field-Dot, field-Output, field-Input, field-Input-within, gen-From, gen-Cond, part-is, pair-is, names-Dot, names-Output, names-Input, names-Input-within, names-From, names-Cond, append_assoc, append-nil)

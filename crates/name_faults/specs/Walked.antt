-- A walk over trees: what names stand for, which are bound, and what was said; and the walk after trees and their parts. It serves the contracts of this
-- crate.
use Rattle.std.specs.Prelude.{◌∷◌, ◌++◌, ℕ, false, List, [], length, map}
use Rattle.csp_text.specs.declared.tree.Tree.{Tree}
use Rattle.script_names.specs.Prelude.{Entities, Meanings, Name, first_of, sense_in, Binder, Fields, Said, all_say, data_in, network_in, process_in, event_says_of_layer, field_says_of_layer, gen_says_of_layer, in_turn, pair_says, part_says, part_says_of_layer, tree_says, tree_says_of_layer}
use Rattle.script_names.specs.declared.occurrence.Occurrence.{Occurrence}
use Rattle.script_names.specs.declared.occurrence.Occurrence.TheVariants.{Binds, Notes, Uses, Form, Parallel, Declares}
use Rattle.script_names.specs.declared.kinds.Use.{Use}
use Rattle.std.specs.Borrow.{Bor}
use Rattle.csp_text.specs.Prelude.{greatest_of_pairs, part_depth}
use Rattle.csp_text.specs.declared.tree.EventTree.{EventTree}
use Rattle.csp_text.specs.declared.tree.FieldTree.{FieldTree, fold-FieldTree}
use Rattle.csp_text.specs.declared.tree.FieldTree.TheFolds.{fold-GenTree, fold-EventTree, fold-PartTree}
use Rattle.csp_text.specs.declared.tree.FieldTree.TheViews.{out-EventTree}
use Rattle.csp_text.specs.declared.tree.GenTree.{GenTree}
use Rattle.csp_text.specs.declared.tree.PartTree.{PartTree}
use Rattle.script_names.specs.declared.kinds.Place.{Place}
use Rattle.script_names.specs.Says.{under}

pub record Walked : Type 0 where
  pub names : Entities
  pub bound : List Name
  pub list : List (Occurrence Name)

-- an occurrence of a borrowed name
abbrev pub seen : Occurrence (Bor Name) → Occurrence Name
seen (Declares x before) = Declares x.now before
seen (Binds x repeats) = Binds x.now repeats
seen (Notes x before) = Notes x.now before
seen (Uses x s how) = Uses x.now s how
seen (Form c place) = Form c place
seen (Parallel place) = Parallel place

module _ (meanings : Meanings) where
  abbrev pub field_binder : FieldTree → Binder
  field_binder = fold-FieldTree Binder Binder Said (Fields Binder) (Fields Said)
      (field_says_of_layer meanings) (gen_says_of_layer meanings) (tree_says_of_layer meanings) (event_says_of_layer meanings) (part_says_of_layer meanings)

  abbrev pub gen_binder : GenTree → Binder
  gen_binder = fold-GenTree Binder Binder Said (Fields Binder) (Fields Said)
      (field_says_of_layer meanings) (gen_says_of_layer meanings) (tree_says_of_layer meanings) (event_says_of_layer meanings) (part_says_of_layer meanings)

  abbrev pub event_fields : EventTree → Fields Binder
  event_fields = fold-EventTree Binder Binder Said (Fields Binder) (Fields Said)
      (field_says_of_layer meanings) (gen_says_of_layer meanings) (tree_says_of_layer meanings) (event_says_of_layer meanings) (part_says_of_layer meanings)

  abbrev pub part_fields : PartTree → Fields Said
  part_fields = fold-PartTree Binder Binder Said (Fields Binder) (Fields Said)
      (field_says_of_layer meanings) (gen_says_of_layer meanings) (tree_says_of_layer meanings) (event_says_of_layer meanings) (part_says_of_layer meanings)

-- what trees and their parts say, by the entities of the script
module _ (names : Entities) where
  unfoldable pub tree_said : Tree → Said
  tree_said t = tree_says (first_of names) t

  unfoldable pub trees_said : List Tree → Said
  trees_said ts place bound = all_say (map (tree_says (first_of names)) ts) place bound

  unfoldable pub part_said : PartTree → Said
  part_said p place bound = part_says (first_of names) (part_fields (first_of names) p) place bound

  unfoldable pub parts_said : List PartTree → Said
  parts_said ps place bound = all_say (map (part_says (first_of names)) (map (part_fields (first_of names)) ps)) place bound

  unfoldable pub pair_said : PartTree × PartTree → Said
  pair_said p place bound = pair_says (first_of names) (part_fields (first_of names) p.0, part_fields (first_of names) p.1) place bound

  unfoldable pub pairs_said : List (PartTree × PartTree) → Said
  pairs_said ps place bound = all_say (map (pair_says (first_of names)) (map (λ p. (part_fields (first_of names) p.0, part_fields (first_of names) p.1)) ps)) place bound

  unfoldable pub field_said : FieldTree → Said
  field_said f place bound = (field_binder (first_of names) f).says place bound

  unfoldable pub field_names : FieldTree → List Name
  field_names f = (field_binder (first_of names) f).names

  unfoldable pub fields_said : List FieldTree → Said
  fields_said fs place bound = in_turn (map (field_binder (first_of names)) fs) place bound

  unfoldable pub under_fields : List FieldTree → List Name → List Name
  under_fields fs bound = under (map (field_binder (first_of names)) fs) bound

  unfoldable pub gen_said : GenTree → Said
  gen_said g place bound = (gen_binder (first_of names) g).says place bound

  unfoldable pub gen_names : GenTree → List Name
  gen_names g = (gen_binder (first_of names) g).names

  unfoldable pub gens_said : List GenTree → Said
  gens_said gs place bound = in_turn (map (gen_binder (first_of names)) gs) place bound

  unfoldable pub under_gens : List GenTree → List Name → List Name
  under_gens gs bound = under (map (gen_binder (first_of names)) gs) bound

-- how deep the pairs of a renaming are
abbrev pub pairs_depth : List (PartTree × PartTree) → ℕ
pairs_depth pairs = greatest_of_pairs (map (λ pair. (part_depth pair.0, part_depth pair.1)) pairs)

-- the use of a name
abbrev pub used : Walked → Name → Use → Occurrence Name
used w x how = Uses x (sense_in (first_of w.names) w.bound x) how

-- after this is said
abbrev pub after : Walked → List (Occurrence Name) → Walked
after w os = record w { list = w.list ++ os }

-- after this is said, and under these bound names
abbrev pub after_under : Walked → List (Occurrence Name) → List Name → Walked
after_under w os bound = record { names = w.names; bound = bound; list = w.list ++ os }

-- under the names of generators
abbrev pub under_gens_of : Walked → List GenTree → Walked
under_gens_of w gens = record w { bound = under_gens w.names gens w.bound }

abbrev pub under_gen_of : Walked → GenTree → Walked
under_gen_of w g = record w { bound = w.bound ++ gen_names w.names g }

abbrev pub after_tree : Walked → Tree → Place → Walked
after_tree w t place = after w (tree_said w.names t place w.bound)

abbrev pub after_trees : Walked → List Tree → Place → Walked
after_trees w ts place = after w (trees_said w.names ts place w.bound)

-- a tree under parameters
abbrev pub after_body : Walked → List Name → Tree → Place → Walked
after_body w params t place = after w (tree_says (first_of w.names) t place params)

-- two trees, each at its place
abbrev pub after_both : Walked → Tree → Place → Tree → Place → Walked
after_both w a at b then_at = after w (tree_said w.names a at w.bound ++ tree_said w.names b then_at w.bound)

-- a field or a generator binds its name, and lists of them bind theirs
abbrev pub after_field : Walked → FieldTree → Place → Walked
after_field w f place = after_under w (field_said w.names f place w.bound) (w.bound ++ field_names w.names f)

abbrev pub after_fields : Walked → List FieldTree → Place → Walked
after_fields w fs place = after_under w (fields_said w.names fs place w.bound) (under_fields w.names fs w.bound)

abbrev pub after_gen : Walked → GenTree → Place → Walked
after_gen w g place = after_under w (gen_said w.names g place w.bound) (w.bound ++ gen_names w.names g)

abbrev pub after_gens : Walked → List GenTree → Place → Walked
after_gens w gs place = after_under w (gens_said w.names gs place w.bound) (under_gens w.names gs w.bound)

abbrev pub after_part : Walked → PartTree → Place → Walked
after_part w p place = after w (part_said w.names p place w.bound)

abbrev pub after_parts : Walked → List PartTree → Place → Walked
after_parts w ps place = after w (parts_said w.names ps place w.bound)

abbrev pub after_pairs : Walked → List (PartTree × PartTree) → Place → Walked
after_pairs w ps place = after w (pairs_said w.names ps place w.bound)

-- what stands over generators, under their names, and these
abbrev pub after_comprehension : Walked → List Tree → List GenTree → Place → Walked
after_comprehension w items gens place =
    after w (trees_said w.names items (data_in place) (under_gens w.names gens w.bound) ++ gens_said w.names gens place w.bound)

abbrev pub after_product : Walked → List PartTree → List GenTree → Place → Walked
after_product w parts gens place = after w (parts_said w.names parts place (under_gens w.names gens w.bound) ++ gens_said w.names gens place w.bound)

abbrev pub after_renaming : Walked → List (PartTree × PartTree) → List GenTree → Place → Walked
after_renaming w pairs gens place = after w (pairs_said w.names pairs place (under_gens w.names gens w.bound) ++ gens_said w.names gens place w.bound)

-- an event, and the process under the names that it binds
abbrev pub after_prefix : Walked → EventTree → Tree → Place → Walked
after_prefix w event p place =
    after w (used w (out-EventTree event).name (Use.Heads (length (out-EventTree event).fields))
    ∷ (fields_said w.names (out-EventTree event).fields place w.bound
    ++ tree_said w.names p (process_in place) (under_fields w.names (out-EventTree event).fields w.bound)))

-- a bound name, its set, and what stands under it
abbrev pub after_each : Walked → Name → Tree → Tree → Place → Walked
after_each w x s p place =
    after w (Binds x false ∷ (tree_said w.names s (data_in place) w.bound ++ tree_said w.names p (process_in place) (w.bound ++ x ∷ [])))

abbrev pub after_each_parallel : Walked → Name → Tree → Tree → Tree → Place → Walked
after_each_parallel w x s a p place =
    after w (Binds x false ∷ (tree_said w.names s (data_in place) w.bound
    ++ (tree_said w.names a (data_in place) (w.bound ++ x ∷ []) ++ tree_said w.names p (network_in place) (w.bound ++ x ∷ []))))

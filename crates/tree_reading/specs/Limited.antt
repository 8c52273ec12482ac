-- The grammar as a reader within limits: functions that read a tree from the front of a list of tokens and answer it with what is left, or nothing. The
-- reader never goes back: it decides by the next token, and by how tightly what it has read is bound. It opens no more brackets than the limits have, and
-- reads no tree that is deeper than they say. A part of a node may be as deep as the node without its own level. Where the first part of a node was read
-- before the node was known, its depth is looked at once it is.
--
-- Each step is a look at the front of the tokens or a call, and nothing comes of a step that gives nothing. The functions of `limited f` may call one
-- another f times in a row.
use Rattle.std.specs.Prelude.{ℕ, zero, suc, Bool, true, false, if◌then◌else◌, Option, Some, None, List, [], ◌∷◌}
use Rattle.csp_text.specs.declared.script.Decl.{Decl}
use Rattle.csp_text.specs.declared.token.Symbol.{Symbol}
use Rattle.csp_text.specs.declared.token.Token.{Token}
use Rattle.csp_text.specs.declared.tree.FieldTree.{FieldTree}
use Rattle.csp_text.specs.declared.tree.GenTree.{GenTree}
use Rattle.csp_text.specs.declared.tree.PartTree.{PartTree}
use Rattle.csp_text.specs.declared.tree.Tree.{Tree}
use Rattle.csp_text.specs.declared.token.Word.{Word}
use Rattle.csp_text.specs.declared.token.Token.TheVariants as token
use Rattle.csp_text.specs.declared.token.Word.TheVariants as word
use Rattle.csp_text.specs.declared.token.Symbol.TheVariants as symbol
use Rattle.csp_text.specs.declared.tree.Tree.TheVariants as tree
use Rattle.csp_base.specs.declared.operators.SetOp.{SetOp}
use Rattle.csp_text.specs.declared.tree.FieldTree.TheVariants as field
use Rattle.csp_text.specs.declared.tree.GenTree.TheVariants as generator
use Rattle.csp_text.specs.declared.script.Decl.TheVariants as decl
use Rattle.csp_grammar.specs.Prelude.{choice_of, event_tree, part_tree, Reading, and_then, case, begins_event, dotted_tree, only, first_token, skip, skip_word}
use Rattle.tree_reading.specs.Asserted.{ending}
use Rattle.tree_reading.specs.Bindings.{Found, of_process, at_least, tighter}
use Rattle.tree_reading.specs.Nesting.{sure, bracketed, inside, around, whole}
use Rattle.tree_reading.specs.Starts.{choice, chain_symbol, each_tree, dotted_fields, named, first_chain, sign_behind, atom_start, prefix_start}
use Rattle.tree_reading.specs.declared.limits.Limits.{Limits}
use Rattle.tree_reading.specs.declared.read.Binding.{Binding}
use Rattle.tree_reading.specs.declared.read.Binding.TheVariants as binding
use Rattle.tree_reading.specs.declared.look.Chain.{Chain}
use Rattle.tree_reading.specs.declared.look.Sign.{Sign}
use Rattle.tree_reading.specs.declared.look.Sign.TheVariants as sign
use Rattle.tree_reading.specs.declared.look.AtomStart.{AtomStart}
use Rattle.tree_reading.specs.declared.look.AtomStart.TheVariants as start
use Rattle.tree_reading.specs.declared.look.PrefixStart.{PrefixStart}
use Rattle.tree_reading.specs.declared.look.PrefixStart.TheVariants as opening

-- the readers that call one another
pub record Limited : Type 0 where
  pub tree : Limits → List Token → Reading Tree
  pub choices : Limits → Chain → List Token → Found (List Tree)
  pub hidings : Limits → Tree → List Token → Found Tree
  pub sequence : Limits → List Token → Found Tree
  pub prefix : Limits → List Token → Found Tree
  pub fields : Limits → Bool → List Token → Reading (List FieldTree)
  pub dots : Limits → List Token → Reading (List Tree)
  pub expression : Limits → Binding → List Token → Found Tree
  pub operators : Limits → Binding → Binding → Tree → List Token → Found Tree
  pub pairs : Limits → List Token → Reading (List (PartTree × PartTree))
  pub parts : Limits → List Token → Reading (List PartTree)
  pub gens : Limits → List Token → Reading (List GenTree)
  pub items : Limits → List Token → Found (List Tree)
  pub atom : Limits → List Token → Reading Tree
  pub names : Symbol → List Token → Reading (List (List ℕ))
  pub types : List Token → Reading (List Tree)
  pub declarations : List Token → Option (List Decl)

module _ (L : Limited) where
  abbrev pub read_dotted : Limits → List Token → Found Tree
  read_dotted l ts =
      and_then (inside l) λ e. and_then (named ts) λ c. and_then (L.dots e c.1) λ p. and_then (dotted_tree c.0 p.0) λ t. Some (binding.Dotted, t, p.1)

  abbrev pub read_item : Limits → List Token → Found Tree
  read_item l ts = if begins_event ts then read_dotted l ts else L.expression l binding.Disjunction ts

  abbrev pub read_items : Limits → List Token → Found (List Tree)
  read_items l ts =
      and_then (read_item l ts) λ p.
      case (skip symbol.Comma p.2)
      (λ us. and_then (L.items l us) λ q. Some (binding.Dotted, p.1 ∷ q.1, q.2))
      (λ _. Some (p.0, p.1 ∷ [], p.2))

  abbrev pub read_dots : Limits → List Token → Reading (List Tree)
  read_dots l ts =
      case (skip symbol.Dot ts)
      (λ us. and_then (L.expression l binding.Sum us) λ p. and_then (L.dots l p.2) λ q. Some (p.1 ∷ q.0, q.1))
      (λ _. Some ([], ts))

  abbrev pub read_part : Limits → List Token → Reading PartTree
  read_part l ts = and_then (named ts) λ c. and_then (L.dots l c.1) λ p. Some (part_tree c.0 p.0, p.1)

  abbrev pub read_parts : Limits → List Token → Reading (List PartTree)
  read_parts l ts =
      and_then (read_part l ts) λ p.
      case (skip symbol.Comma p.1)
      (λ us. and_then (L.parts l us) λ q. Some (p.0 ∷ q.0, q.1))
      (λ _. Some (p.0 ∷ [], p.1))

  -- a pair of parts with an arrow between them
  abbrev pub read_pair : Limits → List Token → Reading (PartTree × PartTree)
  read_pair l ts = and_then (read_part l ts) λ p. and_then (skip symbol.LeftArrow p.1) λ us. and_then (read_part l us) λ q. Some ((p.0, q.0), q.1)

  abbrev pub read_pairs : Limits → List Token → Reading (List (PartTree × PartTree))
  read_pairs l ts =
      and_then (read_pair l ts) λ p.
      case (skip symbol.Comma p.1)
      (λ us. and_then (L.pairs l us) λ q. Some (p.0 ∷ q.0, q.1))
      (λ _. Some (p.0 ∷ [], p.1))

  -- what a name ranges over, behind its arrow
  abbrev pub read_source : Limits → List ℕ → List Token → Reading GenTree
  read_source l x ts = and_then (L.atom l ts) λ p. Some (generator.From x p.0, p.1)

  abbrev pub read_condition : Limits → List Token → Reading GenTree
  read_condition l ts = and_then (L.expression l binding.Disjunction ts) λ p. Some (generator.Cond p.1, p.2)

  abbrev pub read_gen : Limits → List Token → Reading GenTree
  read_gen l ts =
      case (named ts)
      (λ x. case (skip symbol.LeftArrow x.1) (λ us. read_source l x.0 us) (λ _. read_condition l ts))
      (λ _. read_condition l ts)

  abbrev pub read_gens : Limits → List Token → Reading (List GenTree)
  read_gens l ts =
      and_then (read_gen l ts) λ p.
      case (skip symbol.Comma p.1)
      (λ us. and_then (L.gens l us) λ q. Some (p.0 ∷ q.0, q.1))
      (λ _. Some (p.0 ∷ [], p.1))

  abbrev pub read_conditions : Limits → List Token → Reading (List GenTree)
  read_conditions l ts = case (skip symbol.Bar ts) (λ us. L.gens l us) (λ _. Some ([], ts))

  -- what stands behind `(` of a call
  abbrev pub read_call : Limits → List ℕ → List Token → Reading Tree
  read_call l x ts = and_then (L.items l ts) λ p. and_then (skip symbol.CloseParen p.2) λ us. Some (tree.Call x p.1, us)

  -- what stands behind the word of an operator on sets
  abbrev pub read_set_operator : Limits → SetOp → List Token → Reading Tree
  read_set_operator l op ts =
      and_then (skip symbol.OpenParen ts) λ us. and_then (read_item l us) λ p. and_then (skip symbol.Comma p.2) λ vs.
      and_then (read_item l vs) λ q. and_then (skip symbol.CloseParen q.2) λ ws. Some (tree.SetOp op p.1 q.1, ws)

  abbrev pub read_range : Limits → Binding → List Tree → List Token → Reading Tree
  read_range l k items ts =
      and_then (sure (at_least binding.Sum k)) λ _. and_then (only items) λ a. and_then (L.expression l binding.Sum ts) λ q.
      and_then (skip symbol.CloseBrace q.2) λ us. Some (tree.Range a q.1, us)

  abbrev pub read_comprehension : Limits → List Tree → List Token → Reading Tree
  read_comprehension l items ts = and_then (L.gens l ts) λ q. and_then (skip symbol.CloseBrace q.1) λ us. Some (tree.Comp items q.0, us)

  -- what stands behind `{` of a set with items
  abbrev pub read_filled : Limits → List Token → Reading Tree
  read_filled l ts =
      and_then (L.items l ts) λ p.
      case (skip symbol.DotDot p.2) (λ us. read_range l p.0 p.1 us) λ _.
      case (skip symbol.Bar p.2) (λ us. read_comprehension l p.1 us) λ _.
      and_then (skip symbol.CloseBrace p.2) λ us. Some (tree.Display p.1, us)

  -- what stands behind `{`
  abbrev pub read_set : Limits → List Token → Reading Tree
  read_set l ts = case (skip symbol.CloseBrace ts) (λ us. Some (tree.Display [], us)) λ _. read_filled l ts

  -- what stands behind `{|`
  abbrev pub read_product : Limits → List Token → Reading Tree
  read_product l ts =
      and_then (L.parts l ts) λ p. and_then (read_conditions l p.1) λ q. and_then (skip symbol.CloseProduct q.1) λ us. Some (tree.Product p.0 q.0, us)

  abbrev pub read_parentheses : Limits → List Token → Reading Tree
  read_parentheses l ts = and_then (L.tree l ts) λ p. and_then (skip symbol.CloseParen p.1) λ us. Some (p.0, us)

  -- the rest of an atom; within it, one more bracket is open but for a leaf
  abbrev pub read_atom_rest : Limits → AtomStart → List Token → Reading Tree
  read_atom_rest l (start.Leaf t) ts = and_then (inside l) λ _. Some (t, ts)
  read_atom_rest l (start.Call x) ts = and_then (bracketed l) λ m. and_then (inside m) λ e. read_call e x ts
  read_atom_rest l (start.SetOperator op) ts = and_then (bracketed l) λ m. and_then (inside m) λ e. read_set_operator e op ts
  read_atom_rest l start.Parentheses ts = and_then (bracketed l) λ m. read_parentheses m ts
  read_atom_rest l start.Set ts = and_then (bracketed l) λ m. and_then (inside m) λ e. read_set e ts
  read_atom_rest l start.Product ts = and_then (bracketed l) λ m. and_then (inside m) λ e. read_product e ts

  abbrev pub read_atom : Limits → List Token → Reading Tree
  read_atom l ts = and_then (atom_start ts) λ s. read_atom_rest l s.0 s.1

  -- what stands behind `not`, where the level has it
  abbrev pub read_complement : Limits → Binding → List Token → Found Tree
  read_complement l level ts =
      and_then (sure (at_least level binding.Complement)) λ _. and_then (inside l) λ e. and_then (L.expression e binding.Complement ts) λ p.
      L.operators l level binding.Complement (tree.Not p.1) p.2

  -- what stands behind `-`, where the level has it
  abbrev pub read_negative : Limits → Binding → List Token → Found Tree
  read_negative l level ts =
      and_then (sure (at_least level binding.Negative)) λ _. and_then (inside l) λ e. and_then (L.expression e binding.Negative ts) λ p.
      L.operators l level binding.Negative (tree.Neg p.1) p.2

  abbrev pub read_expression : Limits → Binding → List Token → Found Tree
  read_expression l level ts =
      case (skip_word word.Not ts) (λ us. read_complement l level us) λ _.
      case (skip symbol.Minus ts) (λ us. read_negative l level us) λ _.
      and_then (L.atom l ts) λ p. L.operators l level binding.Atom p.0 p.1

  -- a tree with the renaming behind it
  abbrev pub read_renaming : Limits → Tree → List Token → Reading Tree
  read_renaming e t ts =
      and_then (bracketed e) λ m. and_then (L.pairs m ts) λ p. and_then (read_conditions m p.1) λ q.
      and_then (skip symbol.CloseRename q.1) λ vs. Some (tree.Rename t p.0 q.0, vs)

  -- a tree with the sign behind it and what that takes to its right
  abbrev pub read_with : Limits → Tree → Sign → List Token → Found Tree
  read_with l t (sign.Operator op k) ts = and_then (around l t) λ e. and_then (L.expression e (tighter k) ts) λ p. Some (k, tree.Binary op t p.1, p.2)
  read_with l t sign.Renaming ts = and_then (around l t) λ e. and_then (read_renaming e t ts) λ p. Some (binding.Renaming, p.0, p.1)

  abbrev pub read_operators : Limits → Binding → Binding → Tree → List Token → Found Tree
  read_operators l level k t ts =
      case (sign_behind level k ts)
      (λ s. and_then (read_with l t s.0 s.1) λ p. L.operators l level p.0 p.1 p.2)
      (λ _. Some (k, t, ts))

  -- an input behind `?`: no field with a dot may stand behind it
  abbrev pub read_input : Limits → List Token → Option (FieldTree × Bool × List Token)
  read_input l ts =
      and_then (named ts) λ x.
      case (skip symbol.Colon x.1) (λ us. and_then (L.atom l us) λ p. Some (field.Input x.0 (Some p.0), false, p.1)) λ _.
      Some (field.Input x.0 None, false, x.1)

  -- the next field, if there is one
  abbrev pub read_field : Limits → Bool → List Token → Option (Option (FieldTree × Bool × List Token))
  read_field l dot ts =
      case (skip symbol.Dot ts) (λ us. and_then (sure dot) λ _. and_then (L.expression l binding.Sum us) λ p. Some (Some (field.Dot p.1, true, p.2))) λ _.
      case (skip symbol.Bang ts) (λ us. and_then (L.expression l binding.Sum us) λ p. Some (Some (field.Output p.1, true, p.2))) λ _.
      case (skip symbol.Question ts) (λ us. and_then (read_input l us) λ p. Some (Some p)) λ _.
      Some None

  abbrev pub read_fields : Limits → Bool → List Token → Reading (List FieldTree)
  read_fields l dot ts =
      and_then (read_field l dot ts) λ o.
      case o (λ p. and_then (L.fields l p.1 p.2) λ q. Some (p.0 ∷ q.0, q.1)) (λ _. Some ([], ts))

  -- an event with what stands behind its arrow
  abbrev pub read_prefixed : Limits → List ℕ → List FieldTree → List Token → Found Tree
  read_prefixed e c fields ts =
      and_then (L.prefix e ts) λ p. and_then (sure (at_least binding.Open p.0)) λ _. Some (of_process p.0, tree.Prefix (event_tree c fields) p.1, p.2)

  abbrev pub read_event : Limits → List Token → Found Tree
  read_event l ts =
      and_then (inside l) λ e. and_then (named ts) λ c. and_then (L.fields e true c.1) λ q.
      case (skip symbol.Arrow q.1)
      (λ us. read_prefixed e c.0 q.0 us)
      (λ _. and_then (dotted_fields c.0 q.0) λ t. Some (binding.Dotted, t, q.1))

  -- the two parts of an `if`, behind `then`
  abbrev pub read_branches : Limits → Tree → List Token → Found Tree
  read_branches e c ts =
      and_then (L.tree e ts) λ p. and_then (skip_word word.Else p.1) λ vs. and_then (L.tree e vs) λ q. Some (binding.Open, tree.If c p.0 q.0, q.1)

  -- what stands behind `if`
  abbrev pub read_if : Limits → List Token → Found Tree
  read_if l ts =
      and_then (inside l) λ e. and_then (L.expression e binding.Disjunction ts) λ c. and_then (skip_word word.Then c.2) λ us. read_branches e c.1 us

  -- the name, the set and `@` of a replicated form
  abbrev pub read_binder : Limits → List Token → Option (List ℕ × Tree × List Token)
  read_binder e ts =
      and_then (named ts) λ x. and_then (skip symbol.Colon x.1) λ us. and_then (L.atom e us) λ s. and_then (skip symbol.At s.1) λ vs. Some (x.0, s.0, vs)

  -- what stands behind the sign of a replicated choice
  abbrev pub read_each : Limits → Chain → List Token → Found Tree
  read_each l chain ts =
      and_then (inside l) λ e. and_then (read_binder e ts) λ b. and_then (L.tree e b.2) λ p. Some (binding.Open, each_tree chain b.0 b.1 p.0, p.1)

  -- what stands behind the sign of a replicated parallel
  abbrev pub read_each_parallel : Limits → List Token → Found Tree
  read_each_parallel l ts =
      and_then (inside l) λ e. and_then (read_binder e ts) λ b. and_then (skip symbol.OpenBracket b.2) λ ws.
      and_then (bracketed e) λ m. and_then (L.atom m ws) λ a. and_then (skip symbol.CloseBracket a.1) λ zs.
      and_then (L.tree e zs) λ p. Some (binding.Open, tree.EachParallel b.0 b.1 a.0 p.0, p.1)

  -- a guard with what stands behind its `&`
  abbrev pub read_guarded : Limits → Tree → List Token → Found Tree
  read_guarded e a ts =
      and_then (L.prefix e ts) λ q. and_then (sure (at_least binding.Open q.0)) λ _. Some (of_process q.0, tree.Guard a q.1, q.2)

  abbrev pub read_guard : Limits → List Token → Found Tree
  read_guard l ts =
      and_then (L.expression l binding.Disjunction ts) λ p.
      case (skip symbol.Ampersand p.2)
      (λ us. and_then (around l p.1) λ e. read_guarded e p.1 us)
      (λ _. Some (p.0, p.1, p.2))

  abbrev pub read_opened : Limits → PrefixStart → List Token → Found Tree
  read_opened l opening.Event ts = read_event l ts
  read_opened l opening.If ts = read_if l ts
  read_opened l (opening.Each chain) ts = read_each l chain ts
  read_opened l opening.EachParallel ts = read_each_parallel l ts
  read_opened l opening.Expression ts = read_guard l ts

  abbrev pub read_prefix : Limits → List Token → Found Tree
  read_prefix l ts = and_then (prefix_start ts) λ s. read_opened l s.0 s.1

  -- a process with what stands behind its `;`
  abbrev pub read_followed : Limits → Tree → List Token → Found Tree
  read_followed e t ts =
      and_then (L.sequence e ts) λ q. and_then (sure (at_least binding.Open q.0)) λ _. Some (of_process q.0, tree.Seq t q.1, q.2)

  abbrev pub read_sequence : Limits → List Token → Found Tree
  read_sequence l ts =
      and_then (L.prefix l ts) λ p.
      case (skip symbol.Semicolon p.2)
      (λ us. and_then (sure (at_least binding.Closed p.0)) λ _. and_then (around l p.1) λ e. read_followed e p.1 us)
      (λ _. Some (p.0, p.1, p.2))

  -- the operands of a chain of choices; one with another behind it has to be closed
  abbrev pub read_choices : Limits → Chain → List Token → Found (List Tree)
  read_choices l chain ts =
      and_then (L.sequence l ts) λ p. and_then (sure (at_least binding.Open p.0)) λ _.
      case (skip (chain_symbol chain) p.2)
      (λ us. and_then (sure (at_least binding.Closed p.0)) λ _. and_then (L.choices l chain us) λ q. Some (q.0, p.1 ∷ q.1, q.2))
      (λ _. Some (of_process p.0, p.1 ∷ [], p.2))

  abbrev pub read_hiding : Limits → Tree → List Token → Reading Tree
  read_hiding l t ts = and_then (around l t) λ e. and_then (L.atom e ts) λ a. Some (tree.Hide t a.0, a.1)

  abbrev pub read_hidings : Limits → Tree → List Token → Found Tree
  read_hidings l t ts =
      case (skip symbol.Backslash ts)
      (λ us. and_then (read_hiding l t us) λ p. L.hidings l p.0 p.1)
      (λ _. Some (binding.Closed, t, ts))

  -- a process and the choices behind it
  abbrev pub read_chain : Limits → Binding → Tree → Chain → List Token → Found Tree
  read_chain l k t chain ts =
      and_then (sure (at_least binding.Closed k)) λ _. and_then (around l t) λ e. and_then (L.choices e chain ts) λ q.
      Some (q.0, choice_of (choice chain) (t ∷ q.1), q.2)

  abbrev pub read_side : Limits → List Token → Found Tree
  read_side l ts =
      and_then (L.sequence l ts) λ p.
      case (first_chain p.2) (λ c. read_chain l p.0 p.1 c.0 c.1) λ _.
      case (skip symbol.Backslash p.2) (λ us. and_then (sure (at_least binding.Renaming p.0)) λ _. L.hidings l p.1 p.2) λ _.
      Some (p.0, p.1, p.2)

  -- the right side of a parallel, behind `[`
  abbrev pub read_parallel : Limits → Tree → List Token → Reading Tree
  read_parallel e t ts =
      and_then (bracketed e) λ m. and_then (L.atom m ts) λ a. and_then (skip symbol.Parallel a.1) λ us. and_then (L.atom m us) λ b.
      and_then (skip symbol.CloseBracket b.1) λ vs. and_then (read_side e vs) λ q. and_then (sure (at_least binding.Open q.0)) λ _.
      Some (tree.Parallel t a.0 b.0 q.1, q.2)

  abbrev pub read_tree : Limits → List Token → Reading Tree
  read_tree l ts =
      and_then (read_side l ts) λ p.
      case (skip symbol.OpenBracket p.2)
      (λ us. and_then (sure (at_least binding.Closed p.0)) λ _. and_then (around l p.1) λ e. read_parallel e p.1 us)
      (λ _. Some (p.1, p.2))

  -- names with the sign between them
  abbrev pub read_names : Symbol → List Token → Reading (List (List ℕ))
  read_names sign ts =
      and_then (named ts) λ x.
      case (skip sign x.1)
      (λ us. and_then (L.names sign us) λ p. Some (x.0 ∷ p.0, p.1))
      (λ _. Some (x.0 ∷ [], x.1))

  abbrev pub read_types : List Token → Reading (List Tree)
  read_types ts =
      and_then (L.atom whole ts) λ p.
      case (skip symbol.Dot p.1)
      (λ us. and_then (L.types us) λ q. Some (p.0 ∷ q.0, q.1))
      (λ _. Some (p.0 ∷ [], p.1))

  -- what stands behind `channel`
  abbrev pub read_channel : List Token → Reading Decl
  read_channel ts =
      and_then (L.names symbol.Comma ts) λ p.
      case (skip symbol.Colon p.1)
      (λ us. and_then (L.types us) λ q. Some (decl.Channel p.0 q.0, q.1))
      (λ _. Some (decl.Channel p.0 [], p.1))

  -- what stands behind `datatype`
  abbrev pub read_datatype : List Token → Reading Decl
  read_datatype ts =
      and_then (named ts) λ d. and_then (skip symbol.Defines d.1) λ us. and_then (L.names symbol.Bar us) λ p. Some (decl.Datatype d.0 p.0, p.1)

  -- what stands behind `nametype`
  abbrev pub read_nametype : List Token → Reading Decl
  read_nametype ts =
      and_then (named ts) λ x. and_then (skip symbol.Defines x.1) λ us. and_then (L.atom whole us) λ p. Some (decl.Nametype x.0 p.0, p.1)

  abbrev pub read_parameters : List Token → Reading (List (List ℕ))
  read_parameters ts =
      case (skip symbol.OpenParen ts)
      (λ us. and_then (L.names symbol.Comma us) λ p. and_then (skip symbol.CloseParen p.1) λ vs. Some (p.0, vs))
      (λ _. Some ([], ts))

  -- what stands behind the name that is defined
  abbrev pub read_definition : List ℕ → List Token → Reading Decl
  read_definition f ts =
      and_then (read_parameters ts) λ p. and_then (skip symbol.Defines p.1) λ us. and_then (L.tree whole us) λ q. Some (decl.Define f p.0 q.0, q.1)

  -- the name or the call of an assertion: an atom that begins with a name
  abbrev pub read_asserted : List Token → Reading Tree
  read_asserted ts = and_then (named ts) λ _. L.atom whole ts

  -- what stands behind `assert`
  abbrev pub read_assertion : List Token → Reading Decl
  read_assertion ts = and_then (read_asserted ts) λ p. and_then (ending p.1) λ us. Some (decl.Assert p.0, us)

  abbrev pub read_word_declaration : Word → List Token → Reading Decl
  read_word_declaration word.Channel ts = read_channel ts
  read_word_declaration word.Datatype ts = read_datatype ts
  read_word_declaration word.Nametype ts = read_nametype ts
  read_word_declaration word.Assert ts = read_assertion ts
  read_word_declaration _ ts = None

  abbrev pub read_declaration : List Token → Reading Decl
  read_declaration [] = None
  read_declaration (token.Name f ∷ ts) = read_definition f ts
  read_declaration (token.Word w ∷ ts) = read_word_declaration w ts
  read_declaration (token.Roles names ∷ ts) = Some (decl.Roles names, ts)
  read_declaration (token.Resource names ∷ ts) = Some (decl.Resource names, ts)
  read_declaration (token.Num _ ∷ ts) = None
  read_declaration (token.Symbol _ ∷ ts) = None

  abbrev pub read_declarations : List Token → Option (List Decl)
  read_declarations ts =
      case (first_token ts)
      (λ t. and_then (read_declaration ts) λ p. and_then (L.declarations p.1) λ ds. Some (p.0 ∷ ds))
      (λ _. Some [])

-- the readers that may call these
abbrev pub next_limited : Limited → Limited
next_limited L = record {
  tree = read_tree L;
  choices = read_choices L;
  hidings = read_hidings L;
  sequence = read_sequence L;
  prefix = read_prefix L;
  fields = read_fields L;
  dots = read_dots L;
  expression = read_expression L;
  operators = read_operators L;
  pairs = read_pairs L;
  parts = read_parts L;
  gens = read_gens L;
  items = read_items L;
  atom = read_atom L;
  names = read_names L;
  types = read_types L;
  declarations = read_declarations L;
}

-- the readers that read nothing
abbrev pub nothing_limited : Limited
nothing_limited = record {
  tree = λ l ts. None;
  choices = λ l c ts. None;
  hidings = λ l t ts. None;
  sequence = λ l ts. None;
  prefix = λ l ts. None;
  fields = λ l dot ts. None;
  dots = λ l ts. None;
  expression = λ l level ts. None;
  operators = λ l level k t ts. None;
  pairs = λ l ts. None;
  parts = λ l ts. None;
  gens = λ l ts. None;
  items = λ l ts. None;
  atom = λ l ts. None;
  names = λ sign ts. None;
  types = λ ts. None;
  declarations = λ ts. None;
}

unfoldable pub limited : ℕ → Limited
limited zero = nothing_limited
limited (suc f) = next_limited (limited f)

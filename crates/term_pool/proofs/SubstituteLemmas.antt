-- What a node becomes where values are put in: its own parts, and what stands at its places.
use Rattle.term_pool.proofs.Prelude.{◌≡◌, List, [], ◌∷◌, map, refl, ap, sym, ◌∙◌, subst, proc_with, Given, Proc, Proc-F, out-Proc, roll-Proc, out-roll-Proc, ProcId, Layer, layer_parts, moved, parts, StandAt, StandsFor, all_with, left_below, own_with, layer_tree, tree_at, proc_form, proc_is}
use Rattle.term_pool.proofs.NodeLemmas.{layer_of, rolls}
use Rattle.term_pool.proofs.OverLemmas.{stands_form}

module _ (given : Given) (trees : List Proc) where
  -- the layer of what a node's process becomes
  abbrev form : Layer → Proc-F Proc
  form n = proc_form given (layer_of trees n)

  form_parts : (n : Layer) → layer_parts (form n) ≡ all_with (left_below n given) trees (layer_parts n)
  form_parts n = parts_of n
    where
      each : (ids : List ProcId) → map (proc_with given) (map (tree_at trees) ids) ≡ all_with given trees ids
      each [] = refl
      each (id ∷ ids) = λ i. proc_with given (tree_at trees id) ∷ each ids i

      parts_of : (m : Layer) → layer_parts (form m) ≡ all_with (left_below m given) trees (layer_parts m)
      parts_of (Proc-F.External ids) = each ids
      parts_of (Proc-F.Internal ids) = each ids
      parts_of _ = refl

  form_moved : (n : Layer) (ids : List ProcId) → moved (form n) ids ≡ moved (own_with given n) ids
  form_moved Proc-F.Stop ids = refl
  form_moved _ ids = refl

  made_form : (n : Layer) → proc_with given (layer_tree trees n) ≡ roll-Proc (form n)
  made_form n = ap (proc_with given) (rolls trees n) ∙ proc_is given (layer_of trees n)

  -- the sub-processes of what a node's process becomes
  pub parts_layer : (n : Layer) → parts (proc_with given (layer_tree trees n)) ≡ all_with (left_below n given) trees (layer_parts n)
  unfolding parts
  parts_layer n = ap layer_parts (ap out-Proc (made_form n) ∙ out-roll-Proc (form n)) ∙ form_parts n

  -- a node with the values in its own parts, at places where its sub-processes stand with the values put in
  pub stands_layer : (n : Layer) (ids : List ProcId) → StandAt trees ids (parts (proc_with given (layer_tree trees n))) → StandsFor trees (moved (own_with given n) ids) (proc_with given (layer_tree trees n))
  stands_layer n ids h =
      let stand : StandAt trees ids (layer_parts (form n)) = subst (λ (ts : List Proc). StandAt trees ids ts) (parts_layer n ∙ sym (form_parts n)) h in
      let stands : StandsFor trees (moved (form n) ids) (roll-Proc (form n)) = stands_form trees ids (form n) stand in
      subst (λ (t : Proc). StandsFor trees (moved (own_with given n) ids) t) (sym (made_form n))
      (subst (λ (m : Layer). StandsFor trees m (roll-Proc (form n))) (form_moved n ids) stands)

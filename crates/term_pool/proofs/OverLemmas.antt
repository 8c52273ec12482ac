-- The layer of a process over places where its sub-processes stand stands for the process.
use Rattle.term_pool.proofs.Prelude.{◌≡◌, List, [], ◌∷◌, map, length, refl, ap, ◌∙◌, Proc, Proc-F, out-Proc, roll-Proc, roll-out-Proc, ProcId, StandAt, StandsFor, layer_parts, id_or, moved, with_parts, all_below, tree_at}
use Rattle.csp_program.specs.declared.processes.Proc.TheVariants as proc
use Rattle.term_pool.proofs.NodeLemmas.{mapped, rolls}
use Rattle.term_pool.proofs.PutLemmas.{stand_below, stand_trees}

-- places at which no process, one process and two processes stand
none_listed : (trees : List Proc) (ids : List ProcId) → StandAt trees ids [] → [] ≡ ids
none_listed trees [] h = refl
none_listed trees (id ∷ ids) h = absurd h

one_listed : (trees : List Proc) (ids : List ProcId) (t : Proc) → StandAt trees ids (t ∷ []) → id_or ids 0 ∷ [] ≡ ids
one_listed trees [] t h = absurd h
one_listed trees (id ∷ ids) t h = λ i. id ∷ none_listed trees ids h.1 i

two_listed : (trees : List Proc) (ids : List ProcId) (t u : Proc) → StandAt trees ids (t ∷ u ∷ []) → id_or ids 0 ∷ id_or ids 1 ∷ [] ≡ ids
two_listed trees [] t u h = absurd h
two_listed trees (id ∷ ids) t u h = λ i. id ∷ one_listed trees ids u h.1 i

module _ (trees : List Proc) (ids : List ProcId) where
  listed : (d : Proc-F Proc) → StandAt trees ids (layer_parts d) → layer_parts (moved d ids) ≡ ids
  listed Proc-F.Stop h = none_listed trees ids h
  listed (Proc-F.Prefix head fields p) h = one_listed trees ids p h
  listed (Proc-F.Guard c p) h = one_listed trees ids p h
  listed (Proc-F.If c p q) h = two_listed trees ids p q h
  listed (Proc-F.External ps) h = refl
  listed (Proc-F.Internal ps) h = refl
  listed (Proc-F.EachExternal y s p) h = one_listed trees ids p h
  listed (Proc-F.EachInternal y s p) h = one_listed trees ids p h
  listed (Proc-F.Hide p s) h = one_listed trees ids p h
  listed (Proc-F.Rename p pairs gens) h = one_listed trees ids p h
  listed (Proc-F.Call d args) h = none_listed trees ids h
  listed Proc-F.Skip h = none_listed trees ids h
  listed (Proc-F.Seq p q) h = two_listed trees ids p q h
  listed Proc-F.Ended h = none_listed trees ids h

  refilled : (d : Proc-F Proc) → with_parts proc.Stop (moved d ids) (layer_parts d) ≡ d
  refilled Proc-F.Stop = refl
  refilled _ = refl

  -- the layer with these places is the process, where its sub-processes stand there
  pub stands_form : (d : Proc-F Proc) → StandAt trees ids (layer_parts d) → StandsFor trees (moved d ids) (roll-Proc d)
  stands_form d h = record {
    below = ap (all_below (length trees)) (listed d h) ∙ stand_below trees ids (layer_parts d) h;
    tree = rolls trees (moved d ids) ∙
        ap roll-Proc (mapped trees (moved d ids) ∙ (ap (λ (qs : List ProcId). with_parts proc.Stop (moved d ids) (map (tree_at trees) qs)) (listed d h) ∙
        (ap (with_parts proc.Stop (moved d ids)) (stand_trees trees ids (layer_parts d) h) ∙ refilled d)));
  }

  pub stands_over : (t : Proc) → StandAt trees ids (layer_parts (out-Proc t)) → StandsFor trees (moved (out-Proc t) ids) t
  stands_over t h = let stands = stands_form (out-Proc t) h in record { below = stands.below; tree = stands.tree ∙ roll-out-Proc t }

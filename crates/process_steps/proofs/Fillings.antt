-- The ways to fill the fields of a prefix are exactly those by the relation, and there is a list of them where no value is lacking.
use Rattle.process_steps.proofs.Prelude.{◌≡◌, ℕ, ◌+◌, IsTrue, Bool, true, false, if◌then◌else◌, Ok, List, [], ◌∷◌, ◌++◌, refl, sym, subst, inl, inr, Outcome, given_by, proc_with, Env, in_field, Field, Proc, Content, FieldsLackNone, none, Fills, given_under, is_given, value_under, filled, input, output, Way, ways_to_fill, Atom, One, proc_stays}
use Rattle.process_steps.specs.LacksNone.FieldsLackNone.{output as output_there, input as input_there}
use Rattle.process_steps.proofs.Chains.{Has, IsThere, Lists, each_there, from_each, lists_each, onward, there_each, through, where_is}
use Rattle.csp_program.specs.declared.processes.Field.TheVariants as field

-- what is asked of a value that an input may take, and of no other
module _ {W : Type 0} (o : Outcome (List W)) where
  allowed : (b : Bool) (w : W) → Has (if b then o else Ok []) w → IsTrue b × Has o w
  allowed true w h = (refl, h)
  allowed false w h = absurd h

  when_allowed : (b : Bool) → IsTrue b → (P : Outcome (List W) → Type 0) → P o → P (if b then o else Ok [])
  when_allowed b e P h = subst (λ c. P (if c then o else Ok [])) (sym e) h

  where_allowed : (b : Bool) → IsTrue b → IsThere (if b then o else Ok []) → IsThere o
  where_allowed b e h = subst (λ c. IsThere (if c then o else Ok [])) e h

  if_allowed : (b : Bool) → (IsTrue b → IsThere o) → IsThere (if b then o else Ok [])
  if_allowed true h = h refl
  if_allowed false h = tt

-- no value changes nothing
pub nothing_put : (q : Proc) → proc_with (given_by []) q ≡ q
nothing_put q = proc_stays (given_by []) q (λ x h. refl)

module _ (p : Content) where
  -- the ways with the value a of an input
  abbrev ways_from : List (List Atom) → ℕ → List Field → Env → List Atom → ℕ → Atom → Outcome (List Way)
  ways_from sets x fields env row k a = ways_to_fill p sets fields ((x, One a) ∷ env) (row ++ a ∷ [])

  -- each way is one by the relation
  pub fills_sound : (sets : List (List Atom)) (fields : List Field) (env : Env) (row : List Atom) (w : Way) → Has (ways_to_fill p sets fields env row) w
      → Fills p sets fields env row w.0 w.1
  fills_sound [] [] env row w (inl e) = subst (λ (z : Way). Fills p [] [] env row z.0 z.1) e (filled env row)
  fills_sound [] [] env row w (inr h) = absurd h
  fills_sound (set ∷ sets) (field.Put e ∷ fields) env row w h =
      let v = through _ _ (value_under p env e) h in
      let a = through _ _ (in_field set v.0) v.2 in
      output set sets e fields env row w.0 w.1 v.0 a.0 v.1 a.1 (fills_sound sets fields env (row ++ a.0 ∷ []) w a.2)
  fills_sound (set ∷ sets) (field.Get x s ∷ fields) env row w h =
      let given = through _ _ (given_under p env s) h in
      let from = from_each _ w 0 set given.2 in
      let a = from.source in
      let tried = allowed (ways_from sets x fields env row (0 + from.place) a) (is_given given.0 a) w from.has in
      input set sets x s fields env row w.0 w.1 given.0 a from.place given.1 from.at tried.0
      (fills_sound sets fields ((x, One a) ∷ env) (row ++ a ∷ []) w tried.1)
  fills_sound _ _ env row w h = absurd h

  -- each way by the relation is one
  pub fills_complete : {sets : List (List Atom)} {fields : List Field} {env : Env} {row : List Atom} {last : Env} {whole : List Atom}
      → Fills p sets fields env row last whole → Lists (ways_to_fill p sets fields env row) (last, whole)
  fills_complete (filled env row) = inl refl
  fills_complete (output set sets e fields env row last whole v a worth place rest) =
      where_is _ _ (value_under p env e) v worth (where_is _ _ (in_field set v) a place (fills_complete rest))
  fills_complete (input set sets x s fields env row last whole given a k worth at is rest) =
      where_is _ _ (given_under p env s) given worth (lists_each _ (last, whole) 0 set k a at (
      when_allowed (ways_from sets x fields env row (0 + k) a) (is_given given a) is (λ o. Lists o (last, whole)) (fills_complete rest)))

  -- there is a list of them where no value is lacking
  pub fields_there : {sets : List (List Atom)} {fields : List Field} {env : Env} → FieldsLackNone p sets fields env → (row : List Atom)
      → IsThere (ways_to_fill p sets fields env row)
  fields_there (none env) row = tt
  fields_there (output_there set sets e fields env v a worth place rest) row =
      onward _ _ (value_under p env e) v worth (onward _ _ (in_field set v) a place (fields_there rest (row ++ a ∷ [])))
  fields_there (input_there set sets x s fields env given worth rest) row =
      onward _ _ (given_under p env s) given worth (each_there _ 0 set (λ k a at.
      if_allowed (ways_from sets x fields env row (0 + k) a) (is_given given a) (λ is. fields_there (rest k a at is) (row ++ a ∷ []))))

  pub fields_lack_none : (sets : List (List Atom)) (fields : List Field) (env : Env) (row : List Atom) → IsThere (ways_to_fill p sets fields env row)
      → FieldsLackNone p sets fields env
  fields_lack_none [] [] env row h = none env
  fields_lack_none (set ∷ sets) (field.Put e ∷ fields) env row h =
      let v = through _ _ (value_under p env e) h in
      let a = through _ _ (in_field set v.0) v.2 in
      output_there set sets e fields env v.0 a.0 v.1 a.1 (fields_lack_none sets fields env (row ++ a.0 ∷ []) a.2)
  fields_lack_none (set ∷ sets) (field.Get x s ∷ fields) env row h =
      let given = through _ _ (given_under p env s) h in
      input_there set sets x s fields env given.0 given.1 (λ k a at is.
      fields_lack_none sets fields ((x, One a) ∷ env) (row ++ a ∷ [])
      (where_allowed (ways_from sets x fields env row (0 + k) a) (is_given given.0 a) is (there_each _ 0 set given.2 k a at)))
  fields_lack_none _ _ env row h = absurd h

-- Sets that are kept: one more, and the one that is kept for an expression.
use Rattle.csp_steps.proofs.Prelude.{◌≡◌, ℕ, zero, suc, Bool, true, false, cond, not, Some, Ok, Err, List, [], ◌∷◌, ◌++◌, map, slice_get, refl, ap, sym, ◌∙◌, map-append, OnOk, Result, Atom, Outcome, Expr, Proc, Content, set_in, IsFront, AreSets, Fits, HasSet, HasValue, Evaluated, Sets}
use Rattle.csp_steps.proofs.Noting.{fits_stay, fits_then}

module _ (f : Expr → Outcome (List Atom)) where
  kept_at : (exprs : List Expr) (sets : List (List Atom)) (k : ℕ) (e : Expr) → map f exprs ≡ map (λ (atoms : List Atom). Ok atoms) sets → slice_get exprs k ≡ Some e → HasValue sets k (λ atoms. f e ≡ Ok atoms)
  kept_at [] sets k e h g = cc
  kept_at (x ∷ exprs) [] k e h g = cc
  kept_at (x ∷ exprs) (s ∷ sets) zero e h g =
      let same : x ≡ e = cc in
      let worth : f x ≡ Ok s = cc in
      record { value = s; listed = refl; holds = ap f (sym same) ∙ worth }
  kept_at (x ∷ exprs) (s ∷ sets) (suc k) e h g =
      let rest : map f exprs ≡ map (λ (atoms : List Atom). Ok atoms) sets = cc in
      let v = kept_at exprs sets k e rest g in
      record { value = v.value; listed = v.listed; holds = v.holds }

  one_more : (exprs : List Expr) (sets : List (List Atom)) (e : Expr) (atoms : List Atom) → map f exprs ≡ map (λ (a : List Atom). Ok a) sets → f e ≡ Ok atoms
      → map f (exprs ++ e ∷ []) ≡ map (λ (a : List Atom). Ok a) (sets ++ atoms ∷ [])
  one_more exprs sets e atoms h g =
      map-append f exprs (e ∷ []) ∙ ((λ i. h i ++ g i ∷ []) ∙ sym (map-append (λ (a : List Atom). Ok a) sets (atoms ∷ [])))

-- the list with one more, by whether it is new
pub is_old : {X : Type 0} (xs more : List X) (x : X) (member new : Bool) → more ≡ cond member xs (xs ++ x ∷ []) → new ≡ not member → new ≡ false → more ≡ xs
is_old xs more x true new h e g = h
is_old xs more x false new h e g = cc

pub is_new : {X : Type 0} (xs more : List X) (x : X) (member new : Bool) → more ≡ cond member xs (xs ++ x ∷ []) → new ≡ not member → new ≡ true → more ≡ xs ++ x ∷ []
is_new xs more x true new h e g = cc
is_new xs more x false new h e g = h

module _ (p : Content) where
  -- an expression that has a number
  pub set_known : (sets : Sets) (k : ℕ) (e : Expr) → AreSets p sets → slice_get sets.exprs k ≡ Some e → HasSet p sets k e
  set_known sets k e h g = record { sound = h; has = kept_at (set_in p) sets.exprs sets.atoms k e h g }

  -- and one that was kept already, or is kept now
  pub set_there : (old new : Sets) (k : ℕ) (e copy : Expr) → AreSets p old → new.exprs ≡ old.exprs → new.atoms ≡ old.atoms → copy ≡ e → slice_get new.exprs k ≡ Some copy → HasSet p new k e
  set_there old new k e copy h exprs atoms same g =
      set_known new k e (ap (map (set_in p)) exprs ∙ (h ∙ ap (map (λ (a : List Atom). Ok a)) (sym atoms))) (g ∙ ap (λ x. Some x) same)

  pub set_added : (old new : Sets) (k : ℕ) (e copy : Expr) (atoms : List Atom) → AreSets p old → set_in p e ≡ Ok atoms → copy ≡ e → new.exprs ≡ old.exprs ++ copy ∷ [] → new.atoms ≡ old.atoms ++ atoms ∷ []
      → slice_get new.exprs k ≡ Some copy → HasSet p new k e
  set_added old new k e copy atoms h worth same exprs sets g =
      set_known new k e (ap (map (set_in p)) exprs ∙ (one_more (set_in p) old.exprs old.atoms copy atoms h (ap (set_in p) same ∙ worth) ∙ ap (map (λ (a : List Atom). Ok a)) (sym sets)))
      (g ∙ ap (λ x. Some x) same)

  -- the atoms of the set that an expression is worth
  pub worth_atoms : (sets : Sets) (k : ℕ) (e : Expr) (found : List Atom) → HasSet p sets k e → ((atoms : List Atom) → slice_get sets.atoms k ≡ Some atoms → found ≡ atoms) → set_in p e ≡ Ok found
  worth_atoms sets k e found h is = h.has.holds ∙ ap (λ (a : List Atom). Ok a) (sym (is h.has.value h.has.listed))

  -- what is kept stays true with other sets, where the pool grows
  pub fits_sets : {A E : Type 0} (old new : List Proc) (kept : Evaluated) (sets : Sets) (r : Result A E) → IsFront old new → Fits p old kept → AreSets p sets → OnOk r (Fits p new (record kept { sets = sets }))
  fits_sets old new kept sets r front h are =
      fits_then p old new (record kept { sets = sets }) r front (record { operators = h.operators; bodies = h.bodies; stepped = h.stepped; sets = are })

  pub fits_given : {A E : Type 0} (old new : List Proc) (kept : Evaluated) (sets : Sets) (r : Result A E) → IsFront old new → Fits p old kept → OnOk r (AreSets p sets) → OnOk r (Fits p new (record kept { sets = sets }))
  fits_given old new kept sets (Ok x) front h are = fits_stay p old new (record kept { sets = sets }) front (record { operators = h.operators; bodies = h.bodies; stepped = h.stepped; sets = are })
  fits_given old new kept sets (Err f) front h are = tt

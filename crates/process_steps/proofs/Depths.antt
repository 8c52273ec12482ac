-- How deep the processes below a process are, and that the steps of a process do not depend on how much more depth is left.
use Rattle.process_steps.proofs.Prelude.{◌≡◌, ℕ, zero, suc, ◌+◌, ◌<◌, ◌≤◌, Some, Ok, List, [], ◌∷◌, map, slice_get, refl, ap, sym, ◌∙◌, arith, proc_depth, proc_depth_of_layer, Outcome, and_then, one, Proc, Proc-F, out-Proc, out-roll-Proc, roll-Proc, roll-out-Proc, Content, each_joined, set_in, each_put, Move, in_choice, steps_of, steps_of_layer, steps_within, Atom, One, greatest, fold-roll-Proc, map-Proc, proc_keeps_depth}

-- the depth of a layer over the processes below
unfoldable pub layer_depth : Proc-F Proc → ℕ
layer_depth d = proc_depth_of_layer (map-Proc Proc ℕ proc_depth d)

-- where the process t has the layer d
pub depth_of : (d : Proc-F Proc) {t : Proc} → roll-Proc d ≡ t → proc_depth t ≡ layer_depth d
unfolding layer_depth
depth_of d e = ap proc_depth (sym e) ∙ fold-roll-Proc ℕ proc_depth_of_layer d

pub depth_of_out : (t : Proc) → proc_depth t ≡ layer_depth (out-Proc t)
depth_of_out t = depth_of (out-Proc t) (roll-out-Proc t)

some_depth : (d : Proc-F Proc) → 1 ≤ layer_depth d
unfolding layer_depth
some_depth Proc-F.Stop = omega arith
some_depth _ = omega arith

pub no_depth : (t : Proc) → proc_depth t ≤ 0 → ⊥
no_depth t h = let e = depth_of_out t in let one = some_depth (out-Proc t) in omega arith

-- values leave a process as deep as it is
pub put_depths : (x : ℕ) (q : Proc) (atoms : List Atom) → greatest (map proc_depth (each_put x atoms q)) ≤ proc_depth q
put_depths x q [] = omega arith
put_depths x q (a ∷ atoms) = let e = proc_keeps_depth (one x (One a)) q in let rest = put_depths x q atoms in omega (arith, e, rest)

pub depth_at : (qs : List Proc) (k : ℕ) (q : Proc) → slice_get qs k ≡ Some q → proc_depth q ≤ greatest (map proc_depth qs)
depth_at [] k q at = absurd cc
depth_at (r ∷ qs) zero q at = let e : r ≡ q = cc in let same = ap proc_depth e in omega (arith, same)
depth_at (r ∷ qs) (suc k) q at = let rest = depth_at qs k q at in omega (arith, rest)

-- both give the same of each process that is less deep
abbrev pub AgreeBelow : (f g : Proc → Outcome (List Move)) → ℕ → Type 0
AgreeBelow f g n = (q : Proc) → proc_depth q < n → f q ≡ g q

module _ (f g : Proc → Outcome (List Move)) (n : ℕ) (agree : AgreeBelow f g n) where
  -- the steps of operands from the place k on
  abbrev of_operand : (Proc → Outcome (List Move)) → List Proc → ℕ → Proc → Outcome (List Move)
  of_operand below all k q = and_then (below q) (λ moves. Ok (map (λ m. in_choice all k m.0 m.1) moves))

  agree_all : (all : List Proc) (k : ℕ) (qs : List Proc) → 1 + greatest (map proc_depth qs) ≤ n → each_joined (of_operand f all) k qs ≡ each_joined (of_operand g all) k qs
  agree_all all k [] h = refl
  agree_all all k (q ∷ qs) h =
      let first : f q ≡ g q = agree q (omega arith) in
      let rest : each_joined (of_operand f all) (k + 1) qs ≡ each_joined (of_operand g all) (k + 1) qs = agree_all all (k + 1) qs (omega arith) in
      rw (first, rest) refl

  agree_layer : (p : Content) (d : Proc-F Proc) → layer_depth d ≤ n → steps_of_layer p f d ≡ steps_of_layer p g d
  unfolding layer_depth
  agree_layer p (Proc-F.Guard c q) h = let e : f q ≡ g q = agree q (omega arith) in rw e refl
  agree_layer p (Proc-F.If c q r) h = let e : f q ≡ g q = agree q (omega arith) in let e' : f r ≡ g r = agree r (omega arith) in rw (e, e') refl
  agree_layer p (Proc-F.External qs) h = agree_all qs 0 qs h
  agree_layer p (Proc-F.EachExternal x s q) h =
      λ i. and_then (set_in p s) (λ atoms. agree_all (each_put x atoms q) 0 (each_put x atoms q) (let e = put_depths x q atoms in omega (arith, e)) i)
  agree_layer p (Proc-F.Hide q s) h = let e : f q ≡ g q = agree q (omega arith) in rw e refl
  agree_layer p (Proc-F.Rename q pairs gens) h = let e : f q ≡ g q = agree q (omega arith) in rw e refl
  agree_layer p (Proc-F.Seq q r) h = let e : f q ≡ g q = agree q (omega arith) in rw e refl
  agree_layer p _ h = refl

-- two depths that are enough give the same
pub enough : (p : Content) (n m : ℕ) (t : Proc) → proc_depth t ≤ n → proc_depth t ≤ m → steps_within p n t ≡ steps_within p m t
unfolding steps_within
enough p zero m t h g = absurd (no_depth t h)
enough p (suc n) zero t h g = absurd (no_depth t g)
enough p (suc n) (suc m) t h g =
    let e = depth_of_out t in
    agree_layer (steps_within p n) (steps_within p m) (layer_depth (out-Proc t)) (λ q lt. enough p n m q (omega arith) (omega arith)) p (out-Proc t) (omega arith)

within_layer : (p : Content) (n : ℕ) (t : Proc) → proc_depth t ≤ n → steps_within p (suc n) t ≡ steps_of_layer p (steps_of p) (out-Proc t)
unfolding steps_within steps_of
within_layer p n t h =
    let e = depth_of_out t in
    agree_layer (steps_within p n) (steps_of p) (layer_depth (out-Proc t)) (λ q lt. enough p n (proc_depth q) q (omega arith) (omega arith)) p (out-Proc t) (omega arith)

-- the steps of a process are those of its layer
pub of_layer : (p : Content) (t : Proc) → steps_of p t ≡ steps_of_layer p (steps_of p) (out-Proc t)
unfolding steps_of
of_layer p t = enough p (proc_depth t) (suc (proc_depth t)) t (omega arith) (omega arith) ∙ within_layer p (proc_depth t) t (omega arith)

-- where the process t has the layer d
pub steps_of_form : (p : Content) (d : Proc-F Proc) {t : Proc} → roll-Proc d ≡ t → steps_of p t ≡ steps_of_layer p (steps_of p) d
steps_of_form p d {t} e = of_layer p t ∙ ap (steps_of_layer p (steps_of p)) (ap out-Proc (sym e) ∙ out-roll-Proc d)

-- What a hiding, a renaming and a sequence make of steps. The process after a step that is no end has the same operator.
use Rattle.csp_steps.proofs.Prelude.{◌≡◌, ℕ, ◌<◌, if◌then◌else◌, Ok, Err, List, [], ◌∷◌, ◌++◌, map, length, refl, ap, sym, ◌∙◌, joined, Outcome, and_then, EventPart, Expr, Gen, ValueKind, Kind, Proc, Proc-F, Content, ProcId, events_in, Renamed, images, renaming_in, Move, in_hiding, in_renaming, in_sequence, Label, Silent, Visible, Tick, becomes, KeepsOutcome, layer_with_first, with_first, shown, IsFront, tree_of, Node, all_moves, around, effect_of, effect_of_layer, hidden_labels, labels_by, last_by, moves_of, renamed_labels, Does, Effect, IsWithin, Operator, StepTo, has, out-Proc, out-roll-Proc, roll-Proc, Images, layer_of, layer_out}
use Rattle.csp_program.specs.declared.processes.Proc.TheVariants as proc
use Rattle.term_pool.specs.declared.node.Node.TheVariants as node
use Rattle.csp_steps.specs.declared.operator.Operator.TheVariants as operator
use Rattle.csp_steps.proofs.Places.{still_within, tree_stays}

-- ---- an operator round another process, and in a list of processes that has grown

layer : {t : Proc} (d : Proc-F Proc) → roll-Proc d ≡ t → out-Proc t ≡ d
layer d e = ap out-Proc (sym e) ∙ out-roll-Proc d

rolled : {t : Proc} (p : Content) (d : Proc-F Proc) → roll-Proc d ≡ t → effect_of p t ≡ effect_of_layer p d
rolled p d e = ap (effect_of_layer p) (layer d e)

layer_kept : (p : Content) (d : Proc-F Proc) (q : Proc) → effect_of p (layer_with_first d q) ≡ effect_of_layer p d
layer_kept p Proc-F.Stop q = rolled p Proc-F.Stop proc.rolls-Stop
layer_kept p (Proc-F.Prefix h fields r) q = rolled p (Proc-F.Prefix h fields q) (proc.rolls-Prefix h fields q)
layer_kept p (Proc-F.Guard c r) q = rolled p (Proc-F.Guard c q) (proc.rolls-Guard c q)
layer_kept p (Proc-F.If c r s) q = rolled p (Proc-F.If c q s) (proc.rolls-If c q s)
layer_kept p (Proc-F.External []) q = rolled p (Proc-F.External []) (proc.rolls-External [])
layer_kept p (Proc-F.External (r ∷ rs)) q = rolled p (Proc-F.External (q ∷ rs)) (proc.rolls-External (q ∷ rs))
layer_kept p (Proc-F.Internal []) q = rolled p (Proc-F.Internal []) (proc.rolls-Internal [])
layer_kept p (Proc-F.Internal (r ∷ rs)) q = rolled p (Proc-F.Internal (q ∷ rs)) (proc.rolls-Internal (q ∷ rs))
layer_kept p (Proc-F.EachExternal x s r) q = rolled p (Proc-F.EachExternal x s q) (proc.rolls-EachExternal x s q)
layer_kept p (Proc-F.EachInternal x s r) q = rolled p (Proc-F.EachInternal x s q) (proc.rolls-EachInternal x s q)
layer_kept p (Proc-F.Hide r s) q = rolled p (Proc-F.Hide q s) (proc.rolls-Hide q s)
layer_kept p (Proc-F.Rename r pairs gens) q = rolled p (Proc-F.Rename q pairs gens) (proc.rolls-Rename q pairs gens)
layer_kept p (Proc-F.Call d args) q = rolled p (Proc-F.Call d args) (proc.rolls-Call d args)
layer_kept p Proc-F.Skip q = rolled p Proc-F.Skip proc.rolls-Skip
layer_kept p (Proc-F.Seq r s) q = rolled p (Proc-F.Seq q s) (proc.rolls-Seq q s)
layer_kept p Proc-F.Ended q = rolled p Proc-F.Ended proc.rolls-Ended

pub does_kept : (p : Content) (trees : List Proc) (op : Operator) (t q : Proc) → Does p trees op t → Does p trees op (with_first t q)
unfolding with_first
does_kept p trees op t q h = record { effect = layer_kept p (out-Proc t) q ∙ h.effect; within = h.within }

module _ (old new : List Proc) (front : IsFront old new) where
  pub last_stays : (op : Operator) → IsWithin (length old) op → last_by new op ≡ last_by old op
  last_stays (operator.Hide hidden) h = refl
  last_stays (operator.Rename kept) h = refl
  last_stays (operator.Seq second) h = ap (λ (u : Proc). (Silent, u)) (tree_stays old new front second h)

  pub operator_stays : (op : Operator) → IsWithin (length old) op → IsWithin (length new) op
  operator_stays (operator.Hide hidden) h = tt
  operator_stays (operator.Rename kept) h = tt
  operator_stays (operator.Seq second) h = still_within old new front second h

  pub does_stay : (p : Content) (op : Operator) (t : Proc) → Does p old op t → Does p new op t
  does_stay p op t h = record {
    effect = h.effect ∙ ap (λ (m : Move). Ok (record { labels = labels_by op; last = m })) (sym (last_stays op h.within));
    within = operator_stays op h.within;
  }

-- ---- the operator of a node

module _ (p : Content) (trees : List Proc) (n : Node) (t : Proc) (e : tree_of trees n ≡ t) where
  effect_at : (m : Node) → n ≡ m → effect_of p t ≡ effect_of_layer p (layer_of trees (shown m))
  effect_at m is = ap (effect_of p) (sym e ∙ ap (tree_of trees) is) ∙ ap (effect_of_layer p) (layer_out trees (shown m))

  hide_effect : (q : _) (s : _) → n ≡ node.Hide q s → effect_of p t ≡ and_then (events_in p s.now) (λ hidden. Ok (record { labels = hidden_labels hidden; last = (Tick, proc.Ended) }))
  hide_effect q s is = effect_at (node.Hide q s) is

  pub does_hide : (q : _) (s : _) (hidden : List ℕ) → n ≡ node.Hide q s → events_in p s.now ≡ Ok hidden → Does p trees (operator.Hide hidden) t
  does_hide q s hidden is h = record { effect = hide_effect q s is ∙ ap (λ o. and_then o (λ es. Ok (record { labels = hidden_labels es; last = (Tick, proc.Ended) }))) h; within = tt }

  pub hide_fault : (q : _) (s : _) (k : ValueKind) → n ≡ node.Hide q s → events_in p s.now ≡ Err k → effect_of p t ≡ Err k
  hide_fault q s k is h = hide_effect q s is ∙ ap (λ o. and_then o (λ es. Ok (record { labels = hidden_labels es; last = (Tick, proc.Ended) }))) h

  rename_effect : (q : _) (pairs : _) (gens : _) → n ≡ node.Rename q pairs gens
      → effect_of p t ≡ and_then (renaming_in p pairs.now gens.now) (λ renamed. Ok (record { labels = renamed_labels (images renamed); last = (Tick, proc.Ended) }))
  rename_effect q pairs gens is = effect_at (node.Rename q pairs gens) is

  same_labels : (kept : Images) (become : ℕ → List ℕ) → ((a : ℕ) → becomes kept a ≡ become a) → (l : Label) → renamed_labels become l ≡ renamed_labels (becomes kept) l
  same_labels kept become k Silent = refl
  same_labels kept become k (Visible a) = ap (map (λ d. Visible d)) (sym (k a))
  same_labels kept become k Tick = refl

  pub does_rename : (q : _) (pairs : _) (gens : _) (ps : List (EventPart × EventPart)) (gs : List Gen) (kept : Images) → n ≡ node.Rename q pairs gens → ps ≡ pairs.now → gs ≡ gens.now
      → KeepsOutcome kept (renaming_in p ps gs) → Does p trees (operator.Rename kept) t
  does_rename q pairs gens ps gs kept is same alike h = record {
    effect = rename_effect q pairs gens is ∙
        (ap (λ o. and_then o (λ renamed. Ok (record { labels = renamed_labels (images renamed); last = (Tick, proc.Ended) }))) ((λ i. renaming_in p (sym same i) (sym alike i)) ∙ h.same) ∙
        (λ i. Ok (record { labels = λ l. same_labels kept (images h.renamed) h.keeps l i; last = (Tick, proc.Ended) })));
    within = tt;
  }

  pub rename_fault : (q : _) (pairs : _) (gens : _) (ps : List (EventPart × EventPart)) (gs : List Gen) (k : ValueKind) → n ≡ node.Rename q pairs gens → ps ≡ pairs.now → gs ≡ gens.now
      → renaming_in p ps gs ≡ Err k → effect_of p t ≡ Err k
  rename_fault q pairs gens ps gs k is same alike h =
      rename_effect q pairs gens is ∙
      ap (λ o. and_then o (λ renamed. Ok (record { labels = renamed_labels (images renamed); last = (Tick, proc.Ended) }))) ((λ i. renaming_in p (sym same i) (sym alike i)) ∙ h)

  pub does_sequence : (q : _) (second : _) → n ≡ node.Seq q second → second.0 < length trees → Does p trees (operator.Seq second) t
  does_sequence q second is within = record { effect = effect_at (node.Seq q second) is; within = within }

-- any other node has none
pub no_effect : (p : Content) (trees : List Proc) (n : Node) (t : Proc) → tree_of trees n ≡ t → ((q : _) (s : _) → n ≡ node.Hide q s → ⊥) → ((q : _) (pairs : _) (gens : _) → n ≡ node.Rename q pairs gens → ⊥)
    → ((q : _) (r : _) → n ≡ node.Seq q r → ⊥) → effect_of p t ≡ Err Kind
no_effect p trees (node.Hide q s) t e hide rename sequence = absurd (hide q s refl)
no_effect p trees (node.Rename q pairs gens) t e hide rename sequence = absurd (rename q pairs gens refl)
no_effect p trees (node.Seq q r) t e hide rename sequence = absurd (sequence q r refl)
no_effect p trees node.Stop t e hide rename sequence = effect_at p trees node.Stop t e node.Stop refl
no_effect p trees (node.Prefix h fields q) t e hide rename sequence = effect_at p trees (node.Prefix h fields q) t e (node.Prefix h fields q) refl
no_effect p trees (node.Guard c q) t e hide rename sequence = effect_at p trees (node.Guard c q) t e (node.Guard c q) refl
no_effect p trees (node.If c q r) t e hide rename sequence = effect_at p trees (node.If c q r) t e (node.If c q r) refl
no_effect p trees (node.External qs) t e hide rename sequence = effect_at p trees (node.External qs) t e (node.External qs) refl
no_effect p trees (node.Internal qs) t e hide rename sequence = effect_at p trees (node.Internal qs) t e (node.Internal qs) refl
no_effect p trees (node.EachExternal x s q) t e hide rename sequence = effect_at p trees (node.EachExternal x s q) t e (node.EachExternal x s q) refl
no_effect p trees (node.EachInternal x s q) t e hide rename sequence = effect_at p trees (node.EachInternal x s q) t e (node.EachInternal x s q) refl
no_effect p trees (node.Call d args) t e hide rename sequence = effect_at p trees (node.Call d args) t e (node.Call d args) refl
no_effect p trees node.Skip t e hide rename sequence = effect_at p trees node.Skip t e node.Skip refl
no_effect p trees node.Ended t e hide rename sequence = effect_at p trees node.Ended t e node.Ended refl

-- ---- the steps of the three forms, as lists have them

-- all steps, where each of them is made into one, and into several
each_one : (f : Move → Move) (g : Move → List Move) → ((m : Move) → f m ∷ [] ≡ g m) → (moves : List Move) → map f moves ≡ joined (map g moves)
each_one f g h [] = refl
each_one f g h (m ∷ moves) = λ i. h m i ++ each_one f g h moves i

each_more : (f g : Move → List Move) → ((m : Move) → f m ≡ g m) → (moves : List Move) → joined (map f moves) ≡ joined (map g moves)
each_more f g h [] = refl
each_more f g h (m ∷ moves) = λ i. h m i ++ each_more f g h moves i

through : {A : Type 0} (o : Outcome A) (f : A → List Move) (effect : A → Effect) (t : Proc) (moves : List Move) → ((a : A) → f a ≡ all_moves (effect a) t moves)
    → and_then o (λ a. Ok (f a)) ≡ and_then (and_then o (λ a. Ok (effect a))) (λ e. Ok (all_moves e t moves))
through (Ok a) f effect t moves h = ap (λ ms. Ok ms) (h a)
through (Err k) f effect t moves h = refl

first_Seq : (q r s : Proc) → with_first (proc.Seq q r) s ≡ proc.Seq s r
unfolding with_first
first_Seq q r s = ap (λ (d : Proc-F Proc). layer_with_first d s) (layer (Proc-F.Seq q r) (proc.rolls-Seq q r))

first_Hide : (q : Proc) (s : Expr) (r : Proc) → with_first (proc.Hide q s) r ≡ proc.Hide r s
unfolding with_first
first_Hide q s r = ap (λ (d : Proc-F Proc). layer_with_first d r) (layer (Proc-F.Hide q s) (proc.rolls-Hide q s))

first_Rename : (q : Proc) (pairs : List (EventPart × EventPart)) (gens : List Gen) (r : Proc) → with_first (proc.Rename q pairs gens) r ≡ proc.Rename r pairs gens
unfolding with_first
first_Rename q pairs gens r = ap (λ (d : Proc-F Proc). layer_with_first d r) (layer (Proc-F.Rename q pairs gens) (proc.rolls-Rename q pairs gens))

abbrev hide_of : List ℕ → Effect
hide_of hidden = record { labels = hidden_labels hidden; last = (Tick, proc.Ended) }

abbrev rename_of : (ℕ → List ℕ) → Effect
rename_of become = record { labels = renamed_labels become; last = (Tick, proc.Ended) }

one_hidden : (q : Proc) (s : Expr) (hidden : List ℕ) (l : Label) (r : Proc) → in_hiding s hidden l r ∷ [] ≡ moves_of (hide_of hidden) (proc.Hide q s) l r
one_hidden q s hidden Silent r = λ i. (Silent, sym (first_Hide q s r) i) ∷ []
one_hidden q s hidden (Visible e) r = λ i. (if has hidden e then Silent else Visible e, sym (first_Hide q s r) i) ∷ []
one_hidden q s hidden Tick r = refl

two_maps : {A B C : Type 0} (f : A → B) (g : B → C) (xs : List A) → map (λ x. g (f x)) xs ≡ map g (map f xs)
two_maps f g [] = refl
two_maps f g (x ∷ xs) = ap (λ ys. g (f x) ∷ ys) (two_maps f g xs)

one_renamed : (q : Proc) (pairs : List (EventPart × EventPart)) (gens : List Gen) (renamed : List Renamed) (l : Label) (r : Proc)
    → in_renaming pairs gens renamed l r ≡ moves_of (rename_of (images renamed)) (proc.Rename q pairs gens) l r
one_renamed q pairs gens renamed Silent r = λ i. (Silent, sym (first_Rename q pairs gens r) i) ∷ []
one_renamed q pairs gens renamed (Visible e) r =
    (λ i. map (λ d. (Visible d, sym (first_Rename q pairs gens r) i)) (images renamed e)) ∙ two_maps (λ d. Visible d) (λ (l : Label). (l, with_first (proc.Rename q pairs gens) r)) (images renamed e)
one_renamed q pairs gens renamed Tick r = refl

one_sequence : (q r : Proc) (l : Label) (s : Proc) → in_sequence r l s ∷ [] ≡ moves_of (record { labels = λ k. k ∷ []; last = (Silent, r) }) (proc.Seq q r) l s
one_sequence q r Silent s = λ i. (Silent, sym (first_Seq q r s) i) ∷ []
one_sequence q r (Visible e) s = λ i. (Visible e, sym (first_Seq q r s) i) ∷ []
one_sequence q r Tick s = refl

module _ (p : Content) (q : Proc) (moves : List Move) where
  pub around_hide : (s : Expr) → and_then (events_in p s) (λ hidden. Ok (map (λ m. in_hiding s hidden m.0 m.1) moves)) ≡ around p (proc.Hide q s) moves
  around_hide s =
      through (events_in p s) (λ hidden. map (λ m. in_hiding s hidden m.0 m.1) moves) hide_of (proc.Hide q s) moves
      (λ hidden. each_one (λ m. in_hiding s hidden m.0 m.1) (λ m. moves_of (hide_of hidden) (proc.Hide q s) m.0 m.1) (λ m. one_hidden q s hidden m.0 m.1) moves) ∙
      ap (λ d. and_then (effect_of_layer p d) (λ e. Ok (all_moves e (proc.Hide q s) moves))) (sym (layer (Proc-F.Hide q s) (proc.rolls-Hide q s)))

  pub around_rename : (pairs : List (EventPart × EventPart)) (gens : List Gen)
      → and_then (renaming_in p pairs gens) (λ renamed. Ok (joined (map (λ m. in_renaming pairs gens renamed m.0 m.1) moves))) ≡ around p (proc.Rename q pairs gens) moves
  around_rename pairs gens =
      through (renaming_in p pairs gens) (λ renamed. joined (map (λ m. in_renaming pairs gens renamed m.0 m.1) moves)) (λ renamed. rename_of (images renamed)) (proc.Rename q pairs gens) moves
      (λ renamed. each_more (λ m. in_renaming pairs gens renamed m.0 m.1) (λ m. moves_of (rename_of (images renamed)) (proc.Rename q pairs gens) m.0 m.1) (λ m. one_renamed q pairs gens renamed m.0 m.1) moves) ∙
      ap (λ d. and_then (effect_of_layer p d) (λ e. Ok (all_moves e (proc.Rename q pairs gens) moves))) (sym (layer (Proc-F.Rename q pairs gens) (proc.rolls-Rename q pairs gens)))

  pub around_sequence : (r : Proc) → Ok (map (λ m. in_sequence r m.0 m.1) moves) ≡ around p (proc.Seq q r) moves
  around_sequence r =
      ap (λ ms. Ok ms) (each_one (λ m. in_sequence r m.0 m.1) (λ m. moves_of (record { labels = λ l. l ∷ []; last = (Silent, r) }) (proc.Seq q r) m.0 m.1) (λ m. one_sequence q r m.0 m.1) moves) ∙
      ap (λ d. and_then (effect_of_layer p d) (λ e. Ok (all_moves e (proc.Seq q r) moves))) (sym (layer (Proc-F.Seq q r) (proc.rolls-Seq q r)))

-- a step that is no end
pub goes_on : (effect : Effect) (t : Proc) (l : Label) (r : Proc) → (l ≡ Tick → ⊥) → moves_of effect t l r ≡ map (λ k. (k, with_first t r)) (effect.labels l)
goes_on effect t Silent r h = refl
goes_on effect t (Visible e) r h = refl
goes_on effect t Tick r h = absurd (h refl)

-- steps by what the event of a label becomes
pub renamed_steps : (to : ProcId) (become : ℕ → List ℕ) (e : ℕ) (events : List ℕ) (l : Label) → l ≡ Visible e → events ≡ become e
    → map {B = StepTo} (λ d. record { label = Visible d; to = to }) events ≡ map (λ k. record { label = k; to = to }) (renamed_labels become l)
renamed_steps to become e events l is same =
    two_maps {C = StepTo} (λ d. Visible d) (λ (k : Label). record { label = k; to = to }) events ∙ (λ i. map (λ k. record { label = k; to = to }) (map (λ d. Visible d) (same i))) ∙
    ap (λ k. map (λ j. record { label = j; to = to }) (renamed_labels become k)) (sym is)

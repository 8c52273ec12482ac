-- What entries stand for: it stays where the own parts grow, and different entries stand for different layers.
use Rattle.term_pool.proofs.Prelude.{◌≡◌, ℕ, ◌<◌, Some, List, [], length, get_or, slice_get, refl, ap, sym, ◌∙◌, subst, slice_get_within, slice_get-get_or, get_or_from_slice_get, head_at, fields_at, expr_at, arguments_at, pairs_at, gens_at, choice_at, entry_layer, ArePartsOnce, Fits, HasParts, PartsStart, Layer, Entry, OwnParts, EachOnce, Proc-F, IsStart}
use Rattle.csp_program.specs.declared.expressions.Expr.TheVariants as expr
use Rattle.csp_program.specs.declared.processes.Head.TheVariants as head
use Rattle.term_pool.specs.declared.entry.Entry.TheVariants as entry

-- a number of the old list is one of the new one, with the same part
there : {T : Type 0} (old new : List T) → IsStart old new → (k : ℕ) (other : T) → k < length old → slice_get new k ≡ Some (get_or old k other)
there old new start k other h = start k (get_or old k other) (slice_get-get_or old k other h)

within_more : {T : Type 0} (old new : List T) → IsStart old new → (k : ℕ) (other : T) → k < length old → k < length new
within_more old new start k other h = slice_get_within new k (get_or old k other) (there old new start k other h)

stays : {T : Type 0} (old new : List T) → IsStart old new → (k : ℕ) (other : T) → k < length old → get_or new k other ≡ get_or old k other
stays old new start k other h = get_or_from_slice_get new k (get_or old k other) other (there old new start k other h)

-- one part has one number
one_number : {T : Type 0} (xs : List T) → EachOnce xs → (j k : ℕ) (other : T) → j < length xs → k < length xs → get_or xs j other ≡ get_or xs k other → j ≡ k
one_number xs once j k other h g e = once j k (get_or xs j other) (slice_get-get_or xs j other h) (slice_get-get_or xs k other g ∙ ap (λ x. Some x) (sym e))

pub starts_same : (parts : OwnParts) → PartsStart parts parts
starts_same parts = record {
  heads = λ k x h. h;
  fields = λ k x h. h;
  exprs = λ k x h. h;
  arguments = λ k x h. h;
  pairs = λ k x h. h;
  gens = λ k x h. h;
  choices = λ k x h. h;
}

pub starts_both : (old mid new : OwnParts) → PartsStart old mid → PartsStart mid new → PartsStart old new
starts_both old mid new a b = record {
  heads = λ k x h. b.heads k x (a.heads k x h);
  fields = λ k x h. b.fields k x (a.fields k x h);
  exprs = λ k x h. b.exprs k x (a.exprs k x h);
  arguments = λ k x h. b.arguments k x (a.arguments k x h);
  pairs = λ k x h. b.pairs k x (a.pairs k x h);
  gens = λ k x h. b.gens k x (a.gens k x h);
  choices = λ k x h. b.choices k x (a.choices k x h);
}

module _ (old new : OwnParts) (start : PartsStart old new) where
  pub fits_more : (e : Entry) → Fits old e → Fits new e
  fits_more (entry.Prefix b f p) h = (within_more old.heads new.heads start.heads b (head.Channel 0) h.0, within_more old.fields new.fields start.fields f [] h.1)
  fits_more (entry.Guard c p) h = within_more old.exprs new.exprs start.exprs c (expr.Const 0) h
  fits_more (entry.If c p q) h = within_more old.exprs new.exprs start.exprs c (expr.Const 0) h
  fits_more (entry.External ps) h = within_more old.choices new.choices start.choices ps [] h
  fits_more (entry.Internal ps) h = within_more old.choices new.choices start.choices ps [] h
  fits_more (entry.EachExternal x s p) h = within_more old.exprs new.exprs start.exprs s (expr.Const 0) h
  fits_more (entry.EachInternal x s p) h = within_more old.exprs new.exprs start.exprs s (expr.Const 0) h
  fits_more (entry.Hide p s) h = within_more old.exprs new.exprs start.exprs s (expr.Const 0) h
  fits_more (entry.Rename p a w) h = (within_more old.pairs new.pairs start.pairs a [] h.0, within_more old.gens new.gens start.gens w [] h.1)
  fits_more (entry.Call d args) h = within_more old.arguments new.arguments start.arguments args [] h
  fits_more _ h = tt

  pub layer_stays : (e : Entry) → Fits old e → entry_layer new e ≡ entry_layer old e
  layer_stays (entry.Prefix b f p) h = λ i. Proc-F.Prefix (stays old.heads new.heads start.heads b (head.Channel 0) h.0 i) (stays old.fields new.fields start.fields f [] h.1 i) p
  layer_stays (entry.Guard c p) h = λ i. Proc-F.Guard (stays old.exprs new.exprs start.exprs c (expr.Const 0) h i) p
  layer_stays (entry.If c p q) h = λ i. Proc-F.If (stays old.exprs new.exprs start.exprs c (expr.Const 0) h i) p q
  layer_stays (entry.External ps) h = λ i. Proc-F.External (stays old.choices new.choices start.choices ps [] h i)
  layer_stays (entry.Internal ps) h = λ i. Proc-F.Internal (stays old.choices new.choices start.choices ps [] h i)
  layer_stays (entry.EachExternal x s p) h = λ i. Proc-F.EachExternal x (stays old.exprs new.exprs start.exprs s (expr.Const 0) h i) p
  layer_stays (entry.EachInternal x s p) h = λ i. Proc-F.EachInternal x (stays old.exprs new.exprs start.exprs s (expr.Const 0) h i) p
  layer_stays (entry.Hide p s) h = λ i. Proc-F.Hide p (stays old.exprs new.exprs start.exprs s (expr.Const 0) h i)
  layer_stays (entry.Rename p a w) h = λ i. Proc-F.Rename p (stays old.pairs new.pairs start.pairs a [] h.0 i) (stays old.gens new.gens start.gens w [] h.1 i)
  layer_stays (entry.Call d args) h = λ i. Proc-F.Call d (stays old.arguments new.arguments start.arguments args [] h i)
  layer_stays _ h = refl

module _ (parts : OwnParts) where
  -- the layer shows the entry
  abbrev Shows : Entry → Layer → Type 0
  Shows entry.Stop Proc-F.Stop = Unit {0}
  Shows (entry.Prefix b f p) (Proc-F.Prefix b' f' p') = (head_at parts b ≡ b') × ((fields_at parts f ≡ f') × (p ≡ p'))
  Shows (entry.Guard c p) (Proc-F.Guard c' p') = (expr_at parts c ≡ c') × (p ≡ p')
  Shows (entry.If c p q) (Proc-F.If c' p' q') = (expr_at parts c ≡ c') × ((p ≡ p') × (q ≡ q'))
  Shows (entry.External ps) (Proc-F.External ps') = choice_at parts ps ≡ ps'
  Shows (entry.Internal ps) (Proc-F.Internal ps') = choice_at parts ps ≡ ps'
  Shows (entry.EachExternal x s p) (Proc-F.EachExternal x' s' p') = (x ≡ x') × ((expr_at parts s ≡ s') × (p ≡ p'))
  Shows (entry.EachInternal x s p) (Proc-F.EachInternal x' s' p') = (x ≡ x') × ((expr_at parts s ≡ s') × (p ≡ p'))
  Shows (entry.Hide p s) (Proc-F.Hide p' s') = (p ≡ p') × (expr_at parts s ≡ s')
  Shows (entry.Rename p a w) (Proc-F.Rename p' a' w') = (p ≡ p') × ((pairs_at parts a ≡ a') × (gens_at parts w ≡ w'))
  Shows (entry.Call d args) (Proc-F.Call d' args') = (d ≡ d') × (arguments_at parts args ≡ args')
  Shows entry.Skip Proc-F.Skip = Unit {0}
  Shows (entry.Seq p q) (Proc-F.Seq p' q') = (p ≡ p') × (q ≡ q')
  Shows entry.Ended Proc-F.Ended = Unit {0}
  Shows e other = ⊥

  shows_own : (e : Entry) → Shows e (entry_layer parts e)
  shows_own entry.Stop = tt
  shows_own (entry.Guard c p) = (refl, refl)
  shows_own (entry.External ps) = refl
  shows_own (entry.Internal ps) = refl
  shows_own (entry.Hide p s) = (refl, refl)
  shows_own (entry.Call d args) = (refl, refl)
  shows_own entry.Skip = tt
  shows_own (entry.Seq p q) = (refl, refl)
  shows_own entry.Ended = tt
  shows_own _ = (refl, (refl, refl))

  shown_same : ArePartsOnce parts → (e d : Entry) → Fits parts e → Fits parts d → Shows e (entry_layer parts d) → e ≡ d
  shown_same once entry.Stop entry.Stop h g z = refl
  shown_same once (entry.Prefix b f p) (entry.Prefix b' f' p') h g z = λ i. entry.Prefix (one_number parts.heads once.heads b b' (head.Channel 0) h.0 g.0 z.0 i) (one_number parts.fields once.fields f f' [] h.1 g.1 z.1.0 i) (z.1.1 i)
  shown_same once (entry.Guard c p) (entry.Guard c' p') h g z = λ i. entry.Guard (one_number parts.exprs once.exprs c c' (expr.Const 0) h g z.0 i) (z.1 i)
  shown_same once (entry.If c p q) (entry.If c' p' q') h g z = λ i. entry.If (one_number parts.exprs once.exprs c c' (expr.Const 0) h g z.0 i) (z.1.0 i) (z.1.1 i)
  shown_same once (entry.External ps) (entry.External ps') h g z = λ i. entry.External (one_number parts.choices once.choices ps ps' [] h g z i)
  shown_same once (entry.Internal ps) (entry.Internal ps') h g z = λ i. entry.Internal (one_number parts.choices once.choices ps ps' [] h g z i)
  shown_same once (entry.EachExternal x s p) (entry.EachExternal x' s' p') h g z = λ i. entry.EachExternal (z.0 i) (one_number parts.exprs once.exprs s s' (expr.Const 0) h g z.1.0 i) (z.1.1 i)
  shown_same once (entry.EachInternal x s p) (entry.EachInternal x' s' p') h g z = λ i. entry.EachInternal (z.0 i) (one_number parts.exprs once.exprs s s' (expr.Const 0) h g z.1.0 i) (z.1.1 i)
  shown_same once (entry.Hide p s) (entry.Hide p' s') h g z = λ i. entry.Hide (z.0 i) (one_number parts.exprs once.exprs s s' (expr.Const 0) h g z.1 i)
  shown_same once (entry.Rename p a w) (entry.Rename p' a' w') h g z = λ i. entry.Rename (z.0 i) (one_number parts.pairs once.pairs a a' [] h.0 g.0 z.1.0 i) (one_number parts.gens once.gens w w' [] h.1 g.1 z.1.1 i)
  shown_same once (entry.Call d args) (entry.Call d' args') h g z = λ i. entry.Call (z.0 i) (one_number parts.arguments once.arguments args args' [] h g z.1 i)
  shown_same once entry.Skip entry.Skip h g z = refl
  shown_same once (entry.Seq p q) (entry.Seq p' q') h g z = λ i. entry.Seq (z.0 i) (z.1 i)
  shown_same once entry.Ended entry.Ended h g z = refl
  shown_same once e d h g z = absurd z

  -- different entries stand for different layers
  pub same_entry : ArePartsOnce parts → (e d : Entry) → Fits parts e → Fits parts d → entry_layer parts e ≡ entry_layer parts d → e ≡ d
  same_entry once e d h g is = shown_same once e d h g (subst (Shows e) is (shows_own e))

  -- the own parts of what an entry stands for are kept
  has_own : (e : Entry) → Fits parts e → HasParts parts (entry_layer parts e)
  has_own (entry.Prefix b f p) h = ((b, slice_get-get_or parts.heads b (head.Channel 0) h.0), (f, slice_get-get_or parts.fields f [] h.1))
  has_own (entry.Guard c p) h = (c, slice_get-get_or parts.exprs c (expr.Const 0) h)
  has_own (entry.If c p q) h = (c, slice_get-get_or parts.exprs c (expr.Const 0) h)
  has_own (entry.External ps) h = (ps, slice_get-get_or parts.choices ps [] h)
  has_own (entry.Internal ps) h = (ps, slice_get-get_or parts.choices ps [] h)
  has_own (entry.EachExternal x s p) h = (s, slice_get-get_or parts.exprs s (expr.Const 0) h)
  has_own (entry.EachInternal x s p) h = (s, slice_get-get_or parts.exprs s (expr.Const 0) h)
  has_own (entry.Hide p s) h = (s, slice_get-get_or parts.exprs s (expr.Const 0) h)
  has_own (entry.Rename p a w) h = ((a, slice_get-get_or parts.pairs a [] h.0), (w, slice_get-get_or parts.gens w [] h.1))
  has_own (entry.Call d args) h = (args, slice_get-get_or parts.arguments args [] h)
  has_own _ h = tt

  pub has_parts : (e : Entry) (n : Layer) → Fits parts e → entry_layer parts e ≡ n → HasParts parts n
  has_parts e n fits is = subst (λ (m : Layer). HasParts parts m) is (has_own e fits)

-- Names whose uses pass are what a rule of typing asks for.
use Rattle.typed_laws.proofs.Sources.{◌≡◌, ℕ, zero, suc, ◌-◌, ◌≤◌, Bool, true, false, not, ◌&&◌, ◌||◌, nat_eq, nat_lt, Option, Some, None, List, refl, sym, ◌∙◌, ap, arith, slice_get, eqb-true, not-false, or-false, channel_number, clashes, definition_number, is_constant, is_network, kind_class, kind_network, leave_other, takes_other, when, Meanings, Name, sense_of, Scope, number_of, named, IsData, IsExpr, IsNetwork, IsProcess, MayBind, Binds, Entity, Kind, Place, Sense, Uses, Class, Need, Use}
use Rattle.csp_text.specs.declared.tree.Tree.TheVariants as tree
use Rattle.script_names.specs.Typing as t
use Rattle.typed_laws.proofs.Passing.{Passes, data_at, process_at}
use Rattle.typed_laws.proofs.ScopeNames.{NameIs, is_bound, is_free}

-- a definition is of data, of a process or of a network
pub data KindIs (ks : List Kind) (d : ℕ) : Type 0 where
  of_data : slice_get ks d ≡ Some (record { class = Class.Data; network = false }) → KindIs ks d
  of_process : slice_get ks d ≡ Some (record { class = Class.Process; network = false }) → KindIs ks d
  of_network : slice_get ks d ≡ Some (record { class = Class.Process; network = true }) → KindIs ks d

-- each declared definition is so
pub record HaveKinds (m : Meanings) (ks : List Kind) : Type 0 where
  pub at : (x : Name) (d n : ℕ) → m x ≡ Some (Entity.Definition d n) → KindIs ks d

module _ {ks : List Kind} {d : ℕ} where
  pub data_kind : KindIs ks d → clashes (kind_class (slice_get ks d)) Need.Data ≡ false → slice_get ks d ≡ Some (record { class = Class.Data; network = false })
  data_kind (of_data h) c = h
  data_kind (of_process h) c = absurd (let g = ap (λ o. clashes (kind_class o) Need.Data) (sym h) ∙ c in cc)
  data_kind (of_network h) c = absurd (let g = ap (λ o. clashes (kind_class o) Need.Data) (sym h) ∙ c in cc)

  pub process_kind : KindIs ks d → clashes (kind_class (slice_get ks d)) Need.Process ≡ false
      → (b : Bool) × (slice_get ks d ≡ Some (record { class = Class.Process; network = b }))
  process_kind (of_data h) c = absurd (let g = ap (λ o. clashes (kind_class o) Need.Process) (sym h) ∙ c in cc)
  process_kind (of_process h) c = (false, h)
  process_kind (of_network h) c = (true, h)

-- nothing is told of a name, so the test of it fails
pub when_none : (b : Bool) (x : Name) → when b x ≡ None → b ≡ false
when_none true x h = absurd (cc)
when_none false x h = refl

pub same_count : (n k : ℕ) → not (nat_eq n k) ≡ false → n ≡ k
same_count n k h = eqb-true n k (not-false (nat_eq n k) h)

not_less : (n k : ℕ) → nat_lt n k ≡ false → k ≤ n
not_less n k h = grind arith

or_parts : (a b c : Bool) → (a || (b || not c)) ≡ false → c ≡ true
or_parts false false true h = refl
or_parts _ _ _ h = absurd (cc)

module _ (m : Meanings) (ks : List Kind) where
  pub may_bind : (x : Name) → Passes m ks (Binds x false) → MayBind m ks x
  may_bind x h k is =
      let f : when (is_constant (m x)) x ≡ None = h.once in
      let e : when true x ≡ None = ap (λ z. when (is_constant z) x) (sym is) ∙ f in
      cc

  -- ---- definitions

  -- a free name is used as that of a definition with so many parameters
  pub record IsDefinition (o : Option ℕ) (e : Option Entity) (s : Sense) (n : ℕ) (place : Place) : Type 0 where
    pub free : o ≡ None
    pub is : e ≡ Some (Entity.Definition (definition_number e) n)
    pub class : clashes (kind_class (slice_get ks (definition_number e))) place.need ≡ false
    pub inside : (kind_network (slice_get ks (definition_number e)) && not place.network) ≡ false
    pub network : is_network ks s ≡ kind_network (slice_get ks (definition_number e))

  -- with its number of parameters from a fault that was not told
  definition_use : (x : Name) (d n k : ℕ) (place : Place) → when (takes_other (Sense.Declared (Entity.Definition d n)) k) x ≡ None
      → clashes (kind_class (slice_get ks d)) place.need ≡ false → (kind_network (slice_get ks d) && not place.network) ≡ false
      → IsDefinition None (Some (Entity.Definition d n)) (Sense.Declared (Entity.Definition d n)) k place
  definition_use x d n k place count class inside = record {
    free = refl;
    is = ap (λ i. Some (Entity.Definition d i)) (same_count n k (when_none (not (nat_eq n k)) x count));
    class = class;
    inside = inside;
    network = refl;
  }

  called_entity : (x : Name) (e : Option Entity) (k : ℕ) (place : Place) → Passes m ks (Uses x (sense_of e) (Use.Called k place))
      → IsDefinition None e (sense_of e) k place
  called_entity x None k place h = absurd (let g = h.known in cc)
  called_entity x (Some (Entity.Definition d n)) k place h = definition_use x d n k place h.count h.kind h.inside
  called_entity x _ k place h = absurd (let g = h.kind in cc)

  alone_entity : (x : Name) (e : Option Entity) (b : Bool) (l : ℕ) → Passes m ks (Uses x (sense_of e) (Use.Alone (process_at b l)))
      → IsDefinition None e (sense_of e) 0 (process_at b l)
  alone_entity x None b l h = absurd (let g = h.known in cc)
  alone_entity x (Some (Entity.Definition d n)) b l h =
      definition_use x d n 0 (process_at b l) (ap (λ t. when t x) (sym (or-false (not (nat_eq n 0)))) ∙ h.count) h.kind h.inside
  alone_entity x _ b l h = absurd (let g = h.kind in cc)

  pub called : {x : Name} {o : Option ℕ} {s : Sense} → NameIs m x o s → (k : ℕ) (place : Place) → Passes m ks (Uses x s (Use.Called k place))
      → IsDefinition o (m x) s k place
  called (is_bound k) n place h = absurd (let g = h.kind in cc)
  called {x} is_free n place h = called_entity x (m x) n place h

  pub alone : {x : Name} {o : Option ℕ} {s : Sense} → NameIs m x o s → (b : Bool) (l : ℕ) → Passes m ks (Uses x s (Use.Alone (process_at b l)))
      → IsDefinition o (m x) s 0 (process_at b l)
  alone (is_bound k) b l h = absurd (let g = h.kind in cc)
  alone {x} is_free b l h = alone_entity x (m x) b l h

  module _ {o : Option ℕ} {e : Option Entity} {s : Sense} {n l : ℕ} where
    pub data_of : {b : Bool} → IsDefinition o e s n (data_at b l) → KindIs ks (definition_number e) → IsData m ks (definition_number e)
    data_of u k = data_kind k u.class

    pub process_of : (b : Bool) → IsDefinition o e s n (process_at b l) → (b && is_network ks s) ≡ false → KindIs ks (definition_number e)
        → IsProcess m ks (definition_number e)
    process_of b u none (of_data h) = absurd (let g = ap (λ o. clashes (kind_class o) Need.Process) (sym h) ∙ u.class in cc)
    process_of b u none (of_process h) = h
    process_of true u none (of_network h) = absurd (let g = ap kind_network (sym h) ∙ sym u.network in cc)
    process_of false u none (of_network h) = absurd (let g = ap (λ o. kind_network o && not false) (sym h) ∙ u.inside in cc)

    pub network_of : {b : Bool} → IsDefinition o e s n (process_at b l) → is_network ks s ≡ true → KindIs ks (definition_number e)
        → IsNetwork m ks (definition_number e)
    network_of u joined (of_data h) = absurd (let g = ap (λ o. clashes (kind_class o) Need.Process) (sym h) ∙ u.class in cc)
    network_of u joined (of_process h) = absurd (let g = ap kind_network (sym h) ∙ sym u.network ∙ joined in cc)
    network_of u joined (of_network h) = h

  -- ---- a name alone as an expression

  free_expr : (kinds : HaveKinds m ks) (scope : Scope) (n : ℕ) (x : Name) (e : Option Entity) (b : Bool) (l : ℕ) → number_of scope x ≡ None → m x ≡ e
      → Passes m ks (Uses x (sense_of e) (Use.Alone (data_at b l))) → IsExpr m ks scope n (tree.Name x) (named None e) n
  free_expr kinds scope n x None b l none is fine = absurd (let g = fine.known in cc)
  free_expr kinds scope n x (Some (Entity.Channel c k)) b l none is fine =
      let zero_of : k ≡ 0 = same_count k 0 (when_none (not (nat_eq k 0)) x fine.count) in
      t.event (none, is ∙ ap (λ z. Some (Entity.Channel c z)) zero_of)
  free_expr kinds scope n x (Some (Entity.Constant k)) b l none is fine = t.constant (none, is)
  free_expr kinds scope n x (Some (Entity.Definition d k)) b l none is fine =
      let zero_of : k ≡ 0 = same_count k 0 (when_none (not (nat_eq k 0)) x (ap (λ t. when t x) (sym (or-false (not (nat_eq k 0)))) ∙ fine.count)) in
      t.datum (none, is ∙ ap (λ z. Some (Entity.Definition d z)) zero_of) (data_kind (kinds.at x d k is) fine.kind)
  free_expr kinds scope n x (Some (Entity.Set d)) b l none is fine = t.named_set (none, is)

  pub name_expr : (kinds : HaveKinds m ks) (scope : Scope) (n : ℕ) (x : Name) {o : Option ℕ} {s : Sense} → NameIs m x o s → (b : Bool) (l : ℕ)
      → number_of scope x ≡ o → Passes m ks (Uses x s (Use.Alone (data_at b l))) → IsExpr m ks scope n (tree.Name x) (named o (m x)) n
  name_expr kinds scope n x (is_bound k) b l is fine = t.bound is
  name_expr kinds scope n x is_free b l is fine = free_expr kinds scope n x (m x) b l is refl fine

  -- ---- channels

  -- a free name is a channel with a number of fields that passes
  pub record IsChannel (o : Option ℕ) (e : Option Entity) (s : Sense) (P : ℕ → Type 0) : Type 0 where
    pub fields : ℕ
    pub free : o ≡ None
    pub is : e ≡ Some (Entity.Channel (channel_number e) fields)
    pub sense_is : s ≡ Sense.Declared (Entity.Channel (channel_number e) fields)
    pub count : P fields

  channel_use : (c n : ℕ) {P : ℕ → Type 0} → P n → IsChannel None (Some (Entity.Channel c n)) (Sense.Declared (Entity.Channel c n)) P
  channel_use c n count = record { fields = n; free = refl; is = refl; sense_is = refl; count = count }

  dotted_entity : (x : Name) (e : Option Entity) (k : ℕ) → Passes m ks (Uses x (sense_of e) (Use.Dotted k)) → IsChannel None e (sense_of e) (λ n. n ≡ k)
  dotted_entity x None k h = absurd (let g = h.known in cc)
  dotted_entity x (Some (Entity.Channel c n)) k h = channel_use c n (same_count n k (when_none (not (nat_eq n k)) x h.count))
  dotted_entity x _ k h = absurd (let g = h.kind in cc)

  begins_entity : (x : Name) (e : Option Entity) (k : ℕ) → Passes m ks (Uses x (sense_of e) (Use.Begins k)) → IsChannel None e (sense_of e) (λ n. k ≤ n)
  begins_entity x None k h = absurd (let g = h.known in cc)
  begins_entity x (Some (Entity.Channel c n)) k h = channel_use c n (not_less n k (when_none (nat_lt n k) x h.count))
  begins_entity x _ k h = absurd (let g = h.kind in cc)

  pub head_entity : (x : Name) (e : Option Entity) (k : ℕ) → Passes m ks (Uses x (sense_of e) (Use.Heads k)) → IsChannel None e (sense_of e) (λ n. n ≡ k)
  head_entity x None k h = absurd (let g = h.known in cc)
  head_entity x (Some (Entity.Channel c n)) k h = channel_use c n (same_count n k (when_none (not (nat_eq n k)) x h.count))
  head_entity x _ zero h = absurd (let g = h.kind in cc)
  head_entity x _ (suc k) h = absurd (let g = h.kind in cc)

  pub dotted_use : {x : Name} {o : Option ℕ} {s : Sense} → NameIs m x o s → (k : ℕ) → Passes m ks (Uses x s (Use.Dotted k))
      → IsChannel o (m x) s (λ n. n ≡ k)
  dotted_use (is_bound b) k h = absurd (let g = h.kind in cc)
  dotted_use {x} is_free k h = dotted_entity x (m x) k h

  pub begins_use : {x : Name} {o : Option ℕ} {s : Sense} → NameIs m x o s → (k : ℕ) → Passes m ks (Uses x s (Use.Begins k))
      → IsChannel o (m x) s (λ n. k ≤ n)
  begins_use (is_bound b) k h = absurd (let g = h.kind in cc)
  begins_use {x} is_free k h = begins_entity x (m x) k h

  -- both sides of a renaming leave as many
  pub same_left : (x : Name) (s z : Sense) (c n c' n' k k' : ℕ) → s ≡ Sense.Declared (Entity.Channel c n) → z ≡ Sense.Declared (Entity.Channel c' n')
      → Passes m ks (Uses x s (Use.Renamed k z k')) → n - k ≡ n' - k'
  same_left x s z c n c' n' k k' h h' fine =
      eqb-true (n - k) (n' - k') (or_parts (nat_lt n k) (nat_lt n' k') (nat_eq (n - k) (n' - k'))
      (when_none _ x ((λ i. when (leave_other (sym h i) k (sym h' i) k') x) ∙ fine.count)))

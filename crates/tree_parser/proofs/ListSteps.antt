-- Lists, one item after another.
use Rattle.tree_parser.proofs.Prelude.{◌≡◌, ℕ, suc, Bool, true, false, if◌then◌else◌, ◌+◌, ◌*◌, ◌-◌, ◌<◌, ◌≤◌, Option, Some, None, List, [], ◌∷◌, ◌++◌, length, Ok, Err, refl, sym, ap, subst, ◌∙◌, append_assoc, arith, Result, Stop, Symbol, Token, FieldTree, Tree, Reading, and_then, case, skip, Found, at_least, last_item, of_process, sure, chain_symbol, Limited, limited, next_limited, read_field, NoText, Limits, Chain, Binding, Reads, read_operand}
use Rattle.csp_base.specs.declared.stop.Stop.TheVariants as stop
use Rattle.csp_text.specs.declared.token.Symbol.TheVariants as symbol
use Rattle.tree_reading.specs.declared.read.Binding.TheVariants as binding
use Rattle.tree_parser.proofs.Counted.{counted}
use Rattle.tree_parser.proofs.SoFar.{ChoicesSoFar, Comes, SoFar, ItemsSoFar, behind, behind_choices, behind_items}

-- one call more
pub later : {A : Type 0} (F : Limited → Option A) (n m : ℕ) (o : Option A) → Comes n (λ L. F (next_limited L)) o → suc n ≤ m → Comes m F o
later F n m o c le f h = let some : 1 ≤ f = omega arith in let less : n ≤ f - 1 = omega arith in ap F (counted f some) ∙ c (f - 1) less

-- nothing of a list is read
behind_none : {A : Type 0} (o : Reading (List A)) → behind [] o ≡ o
behind_none None = refl
behind_none (Some q) = refl

pub nothing_read : {A : Type 0} (n : ℕ) (F : Limited → Reading (List A)) → SoFar n F [] n F
nothing_read n F = record { goes_on = λ o c f le. c f le ∙ sym (behind_none o) }

behind_one : {A : Type 0} (done : List A) (a : A) (o : Reading (List A)) → behind done (behind (a ∷ []) o) ≡ behind (done ++ a ∷ []) o
behind_one done a None = refl
behind_one done a (Some q) = ap (λ x. Some (x, q.1)) (sym (append_assoc done (a ∷ []) q.0))

-- one more in front of what is left
pub one_more : {A : Type 0} {n m k : ℕ} {F G H : Limited → Reading (List A)} {done new : List A} (a : A) → SoFar n F done m G → new ≡ done ++ a ∷ [] →
    ((o : Reading (List A)) → Comes k H o → Comes m G (behind (a ∷ []) o)) → SoFar n F new k H
one_more {A} {n} {m} {k} {F} {G} {H} {done} {new} a s e go = record {
  goes_on = λ o c f le. s.goes_on (behind (a ∷ []) o) (go o c) f le ∙ behind_one done a o ∙ ap (λ d. behind d o) (sym e);
}

-- LISTS WITH A SIGN BETWEEN THEIR ITEMS

abbrev pub listed : {A : Type 0} → Symbol → Reading A → (List Token → Reading (List A)) → Reading (List A)
listed sign one more = and_then one λ p. case (skip sign p.1) (λ us. and_then (more us) λ q. Some (p.0 ∷ q.0, q.1)) (λ _. Some (p.0 ∷ [], p.1))

-- a list whose reader asks for one item and then for the rest
module _ {A : Type 0} (sign : Symbol) (one : Limited → List Token → Reading A) (list : Limited → List Token → Reading (List A))
    (unfolds : (L : Limited) (ts : List Token) → list (next_limited L) ts ≡ listed sign (one L ts) (list L)) where
  stepped : (ts : List Token) (n m : ℕ) (o : Reading (List A)) → ((f : ℕ) → n ≤ f → listed sign (one (limited f) ts) (list (limited f)) ≡ o) → suc n ≤ m → Comes m (λ L. list L ts) o
  stepped ts n m o c le = later (λ L. list L ts) n m o (λ f h. unfolds (limited f) ts ∙ c f h) le

  pub next_item : {n p m k : ℕ} {F : Limited → Reading (List A)} {done new : List A} {a : A} {ts us vs : List Token} → SoFar n F done m (λ L. list L ts) → new ≡ done ++ a ∷ [] →
      Comes p (λ L. one L ts) (Some (a, us)) → skip sign us ≡ Some vs → suc p ≤ m → suc k ≤ m → SoFar n F new k (λ L. list L vs)
  next_item {n} {p} {m} {k} {F} {done} {new} {a} {ts} {us} {vs} s e c is low less = one_more a s e λ o h.
      stepped ts (m - 1) m (behind (a ∷ []) o) (λ f le.
      let fp : p ≤ f = omega arith in let fk : k ≤ f = omega arith in
      ap (λ x. listed sign x (list (limited f))) (c f fp)
      ∙ ap (λ x. case x (λ ws. behind (a ∷ []) (list (limited f) ws)) (λ _. Some (a ∷ [], us))) is
      ∙ ap (behind (a ∷ [])) (h f fk)) (omega arith)

  pub last_item_read : {n p m : ℕ} {F : Limited → Reading (List A)} {done new : List A} {a : A} {ts us : List Token} → SoFar n F done m (λ L. list L ts) → new ≡ done ++ a ∷ [] →
      Comes p (λ L. one L ts) (Some (a, us)) → skip sign us ≡ None → suc p ≤ m → Comes n F (Some (new, us))
  last_item_read {n} {p} {m} {F} {done} {new} {a} {ts} {us} s e c is low = λ g lg.
      s.goes_on (Some (a ∷ [], us)) (stepped ts p m (Some (a ∷ [], us)) (λ f le.
      ap (λ x. listed sign x (list (limited f))) (c f le) ∙ ap (λ x. case x (λ ws. behind (a ∷ []) (list (limited f) ws)) (λ _. Some (a ∷ [], us))) is) low) g lg
      ∙ ap (λ d. Some (d, us)) (sym e)

  pub item_missing : {B C : Type 0} {n p m : ℕ} {F : Limited → Reading (List A)} {done : List A} {ts : List Token} (seen : B → A × List Token) (shown : C → List A × List Token) (r : Stop NoText) →
      SoFar n F done m (λ L. list L ts) → Reads (Err r) seen p (λ L. one L ts) → suc p ≤ m → Reads (Err r) shown n F
  item_missing seen shown stop.NoMemory s c low = λ g lg. tt
  item_missing {n = n} {p = p} {m = m} {ts = ts} seen shown (stop.Told none) s c low = s.goes_on None (stepped ts p m None (λ f le. ap (λ x. listed sign x (list (limited f))) (c f le)) low)

-- FIELDS WITH A DOT BEFORE EACH

no_more : {A : Type 0} (done : List A) → done ++ [] ≡ done
no_more [] = refl
no_more (a ∷ done) = ap (λ d. a ∷ d) (no_more done)

pub dot : {n p m k : ℕ} {F : Limited → Reading (List Tree)} {done new : List Tree} {b : Binding} {a : Tree} {l : Limits} {ts us vs : List Token} → SoFar n F done m (λ L. L.dots l ts) → new ≡ done ++ a ∷ [] →
    skip symbol.Dot ts ≡ Some us → Comes p (λ L. L.expression l binding.Sum us) (Some (b, a, vs)) → suc p ≤ m → suc k ≤ m → SoFar n F new k (λ L. L.dots l vs)
dot {n} {p} {m} {k} {F} {done} {new} {b} {a} {l} {ts} {us} {vs} s e is c low less = one_more a s e λ o h.
    later (λ L. L.dots l ts) (m - 1) m (behind (a ∷ []) o) (λ f le.
    let fp : p ≤ f = omega arith in let fk : k ≤ f = omega arith in
    ap (λ x. case x (λ ws. and_then ((limited f).expression l binding.Sum ws) λ q. behind (q.1 ∷ []) ((limited f).dots l q.2)) (λ _. Some ([], ts))) is
    ∙ ap (λ x. and_then x λ q. behind (q.1 ∷ []) ((limited f).dots l q.2)) (c f fp)
    ∙ ap (behind (a ∷ [])) (h f fk)) (omega arith)

pub no_dot : {n m : ℕ} {F : Limited → Reading (List Tree)} {done : List Tree} {l : Limits} {ts : List Token} → SoFar n F done m (λ L. L.dots l ts) → skip symbol.Dot ts ≡ None → 1 ≤ m → Comes n F (Some (done, ts))
no_dot {n} {m} {F} {done} {l} {ts} s is some = λ g lg.
    s.goes_on (Some ([], ts)) (later (λ L. L.dots l ts) 0 m (Some ([], ts)) (λ f le.
    ap (λ x. case x (λ ws. and_then ((limited f).expression l binding.Sum ws) λ q. behind (q.1 ∷ []) ((limited f).dots l q.2)) (λ _. Some ([], ts))) is) some) g lg
    ∙ ap (λ d. Some (d, ts)) (no_more done)

pub dot_fails : {B C : Type 0} {n p m : ℕ} {F : Limited → Reading (List Tree)} {done : List Tree} {l : Limits} {ts us : List Token} (seen : B → Binding × Tree × List Token) (shown : C → List Tree × List Token) (r : Stop NoText) →
    SoFar n F done m (λ L. L.dots l ts) → skip symbol.Dot ts ≡ Some us → Reads (Err r) seen p (λ L. L.expression l binding.Sum us) → suc p ≤ m → Reads (Err r) shown n F
dot_fails seen shown stop.NoMemory s is c low = λ g lg. tt
dot_fails {p = p} {m = m} {l = l} {ts = ts} seen shown (stop.Told none) s is c low = s.goes_on None (later (λ L. L.dots l ts) p m None (λ f le.
    ap (λ x. case x (λ ws. and_then ((limited f).expression l binding.Sum ws) λ q. behind (q.1 ∷ []) ((limited f).dots l q.2)) (λ _. Some ([], ts))) is
    ∙ ap (λ x. and_then x λ q. behind (q.1 ∷ []) ((limited f).dots l q.2)) (c f le)) low)

-- ITEMS

items_none : (o : Found (List Tree)) → behind_items [] o ≡ o
items_none None = refl
items_none (Some q) = refl

pub nothing_found : (n : ℕ) (F : Limited → Found (List Tree)) → ItemsSoFar n F [] n F
nothing_found n F = record { goes_on = λ o c f le. c f le ∙ sym (items_none o) }

dotted_last : (done : List Tree) (a : Tree) (k : Binding) → last_item done binding.Dotted ≡ last_item (done ++ a ∷ []) k
dotted_last [] a k = refl
dotted_last (b ∷ done) a k = refl

items_one : (done : List Tree) (a : Tree) (o : Found (List Tree)) → behind_items done (behind_items (a ∷ []) o) ≡ behind_items (done ++ a ∷ []) o
items_one done a None = refl
items_one done a (Some q) = ap (λ x. Some (last_item done binding.Dotted, x, q.2)) (sym (append_assoc done (a ∷ []) q.1)) ∙ ap (λ k. Some (k, (done ++ a ∷ []) ++ q.1, q.2)) (dotted_last done a q.0)

abbrev pub items_behind : Option (Binding × Tree × List Token) → (List Token → Found (List Tree)) → Found (List Tree)
items_behind one more = and_then one λ p. case (skip symbol.Comma p.2) (λ us. behind_items (p.1 ∷ []) (more us)) (λ _. Some (p.0, p.1 ∷ [], p.2))

module _ (one : Limited → List Token → Found Tree) (l : Limits) (unfolds : (L : Limited) (ts : List Token) → (next_limited L).items l ts ≡ items_behind (one L ts) (L.items l)) where
  items_stepped : (ts : List Token) (n m : ℕ) (o : Found (List Tree)) → ((f : ℕ) → n ≤ f → items_behind (one (limited f) ts) ((limited f).items l) ≡ o) → suc n ≤ m → Comes m (λ L. L.items l ts) o
  items_stepped ts n m o c le = later (λ L. L.items l ts) n m o (λ f h. unfolds (limited f) ts ∙ c f h) le

  pub more_items : {n p m k : ℕ} {F : Limited → Found (List Tree)} {done new : List Tree} {b : Binding} {a : Tree} {ts us vs : List Token} → ItemsSoFar n F done m (λ L. L.items l ts) → new ≡ done ++ a ∷ [] →
      Comes p (λ L. one L ts) (Some (b, a, us)) → skip symbol.Comma us ≡ Some vs → suc p ≤ m → suc k ≤ m → ItemsSoFar n F new k (λ L. L.items l vs)
  more_items {n} {p} {m} {k} {F} {done} {new} {b} {a} {ts} {us} {vs} s e c is low less = record {
    goes_on = λ o h g lg. s.goes_on (behind_items (a ∷ []) o)
        (items_stepped ts (m - 1) m (behind_items (a ∷ []) o) (λ f le.
        let fp : p ≤ f = omega arith in let fk : k ≤ f = omega arith in
        ap (λ x. items_behind x ((limited f).items l)) (c f fp)
        ∙ ap (λ x. case x (λ ws. behind_items (a ∷ []) ((limited f).items l ws)) (λ _. Some (b, a ∷ [], us))) is
        ∙ ap (behind_items (a ∷ [])) (h f fk)) (omega arith)) g lg ∙ items_one done a o ∙ ap (λ d. behind_items d o) (sym e);
  }

  pub last_of_items : {n p m : ℕ} {F : Limited → Found (List Tree)} {done new : List Tree} {b k : Binding} {a : Tree} {ts us : List Token} → ItemsSoFar n F done m (λ L. L.items l ts) → new ≡ done ++ a ∷ [] → k ≡ last_item done b →
      Comes p (λ L. one L ts) (Some (b, a, us)) → skip symbol.Comma us ≡ None → suc p ≤ m → Comes n F (Some (k, new, us))
  last_of_items {n} {p} {m} {F} {done} {new} {b} {k} {a} {ts} {us} s e kb c is low = λ g lg.
      s.goes_on (Some (b, a ∷ [], us)) (items_stepped ts p m (Some (b, a ∷ [], us)) (λ f le.
      ap (λ x. items_behind x ((limited f).items l)) (c f le) ∙ ap (λ x. case x (λ ws. behind_items (a ∷ []) ((limited f).items l ws)) (λ _. Some (b, a ∷ [], us))) is) low) g lg
      ∙ ap (λ d. Some (last_item done b, d, us)) (sym e) ∙ ap (λ x. Some (x, new, us)) (sym kb)

  pub items_stop : {B C : Type 0} {n p m : ℕ} {F : Limited → Found (List Tree)} {done : List Tree} {ts : List Token} (seen : B → Binding × Tree × List Token) (shown : C → Binding × List Tree × List Token) (r : Stop NoText) →
      ItemsSoFar n F done m (λ L. L.items l ts) → Reads (Err r) seen p (λ L. one L ts) → suc p ≤ m → Reads (Err r) shown n F
  items_stop seen shown stop.NoMemory s c low = λ g lg. tt
  items_stop {n = n} {p = p} {m = m} {ts = ts} seen shown (stop.Told none) s c low = s.goes_on None (items_stepped ts p m None (λ f le. ap (λ x. items_behind x ((limited f).items l)) (c f le)) low)

-- FIELDS OF AN EVENT

pub field : {n p m k : ℕ} {F : Limited → Reading (List FieldTree)} {done new : List FieldTree} {a : FieldTree} {d e : Bool} {l : Limits} {ts vs : List Token} {x : Option (FieldTree × Bool × List Token)} → SoFar n F done m (λ L. L.fields l d ts) → new ≡ done ++ a ∷ [] →
    Comes p (λ L. read_field L l d ts) (Some x) → x ≡ Some (a, e, vs) → suc p ≤ m → suc k ≤ m → SoFar n F new k (λ L. L.fields l e vs)
field {n} {p} {m} {k} {F} {done} {new} {a} {d} {e} {l} {ts} {vs} {x} s is c there low less = one_more a s is λ o h.
    later (λ L. L.fields l d ts) (m - 1) m (behind (a ∷ []) o) (λ f le.
    let fp : p ≤ f = omega arith in let fk : k ≤ f = omega arith in
    ap (λ x. and_then x λ o. case o (λ q. behind (q.0 ∷ []) ((limited f).fields l q.1 q.2)) (λ _. Some ([], ts))) (c f fp ∙ ap (λ y. Some y) there)
    ∙ ap (behind (a ∷ [])) (h f fk)) (omega arith)

pub no_field : {n p m : ℕ} {F : Limited → Reading (List FieldTree)} {done : List FieldTree} {d : Bool} {l : Limits} {ts : List Token} {x : Option (FieldTree × Bool × List Token)} → SoFar n F done m (λ L. L.fields l d ts) →
    Comes p (λ L. read_field L l d ts) (Some x) → x ≡ None → suc p ≤ m → Comes n F (Some (done, ts))
no_field {n} {p} {m} {F} {done} {d} {l} {ts} {x} s c there low = λ g lg.
    s.goes_on (Some ([], ts)) (later (λ L. L.fields l d ts) p m (Some ([], ts)) (λ f le.
    ap (λ x. and_then x λ o. case o (λ q. behind (q.0 ∷ []) ((limited f).fields l q.1 q.2)) (λ _. Some ([], ts))) (c f le ∙ ap (λ y. Some y) there)) low) g lg
    ∙ ap (λ x. Some (x, ts)) (no_more done)

pub field_fails : {B C : Type 0} {n p m : ℕ} {F : Limited → Reading (List FieldTree)} {done : List FieldTree} {d : Bool} {l : Limits} {ts : List Token} (seen : B → Option (FieldTree × Bool × List Token)) (shown : C → List FieldTree × List Token) (r : Stop NoText) →
    SoFar n F done m (λ L. L.fields l d ts) → Reads (Err r) seen p (λ L. read_field L l d ts) → suc p ≤ m → Reads (Err r) shown n F
field_fails seen shown stop.NoMemory s c low = λ g lg. tt
field_fails {p = p} {m = m} {d = d} {l = l} {ts = ts} seen shown (stop.Told none) s c low = s.goes_on None (later (λ L. L.fields l d ts) p m None (λ f le.
    ap (λ x. and_then x λ o. case o (λ q. behind (q.0 ∷ []) ((limited f).fields l q.1 q.2)) (λ _. Some ([], ts))) (c f le)) low)

-- OPERANDS OF A CHOICE

choices_one : (done : List Tree) (a : Tree) (o : Found (List Tree)) → behind_choices done (behind_choices (a ∷ []) o) ≡ behind_choices (done ++ a ∷ []) o
choices_one done a None = refl
choices_one done a (Some q) = ap (λ x. Some (q.0, x, q.2)) (sym (append_assoc done (a ∷ []) q.1))

-- a choice goes on with what its reader gives behind this operand
abbrev pub choices_behind : (List Token → Found (List Tree)) → Option (Binding × Tree × Bool × List Token) → Found (List Tree)
choices_behind more o = and_then o λ q. if q.2 then behind_choices (q.1 ∷ []) (more q.3) else Some (q.0, q.1 ∷ [], q.3)

module _ (more : List Token → Found (List Tree)) (b : Binding) (a : Tree) (us : List Token) where
  gone_on : (ok : Bool) (vs : List Token) → and_then (sure ok) (λ _. behind_choices (a ∷ []) (more vs)) ≡ choices_behind more (and_then (sure ok) λ _. Some (b, a, true, vs))
  gone_on false vs = refl
  gone_on true vs = refl

  behind_operand : (o : Option (List Token)) → case o (λ vs. and_then (sure (at_least binding.Closed b)) λ _. behind_choices (a ∷ []) (more vs)) (λ _. Some (of_process b, a ∷ [], us))
      ≡ choices_behind more (case o (λ vs. and_then (sure (at_least binding.Closed b)) λ _. Some (b, a, true, vs)) (λ _. Some (of_process b, a, false, us)))
  behind_operand None = refl
  behind_operand (Some vs) = gone_on (at_least binding.Closed b) vs

  open_operand : (ok : Bool) (o : Option (List Token)) →
      and_then (sure ok) (λ _. case o (λ vs. and_then (sure (at_least binding.Closed b)) λ _. behind_choices (a ∷ []) (more vs)) (λ _. Some (of_process b, a ∷ [], us)))
      ≡ choices_behind more (and_then (sure ok) λ _. case o (λ vs. and_then (sure (at_least binding.Closed b)) λ _. Some (b, a, true, vs)) (λ _. Some (of_process b, a, false, us)))
  open_operand false o = refl
  open_operand true o = behind_operand o

whole_operand : (more : List Token → Found (List Tree)) (chain : Chain) (o : Found Tree) →
    and_then o (λ p. and_then (sure (at_least binding.Open p.0)) λ _. case (skip (chain_symbol chain) p.2) (λ vs. and_then (sure (at_least binding.Closed p.0)) λ _. behind_choices (p.1 ∷ []) (more vs)) (λ _. Some (of_process p.0, p.1 ∷ [], p.2)))
    ≡ choices_behind more (and_then o λ p. and_then (sure (at_least binding.Open p.0)) λ _. case (skip (chain_symbol chain) p.2) (λ vs. and_then (sure (at_least binding.Closed p.0)) λ _. Some (p.0, p.1, true, vs)) (λ _. Some (of_process p.0, p.1, false, p.2)))
whole_operand more chain None = refl
whole_operand more chain (Some p) = open_operand more p.0 p.1 p.2 (at_least binding.Open p.0) (skip (chain_symbol chain) p.2)

choices_unfold : (L : Limited) (l : Limits) (chain : Chain) (ts : List Token) → (next_limited L).choices l chain ts ≡ choices_behind (L.choices l chain) (read_operand L l chain ts)
choices_unfold L l chain ts = whole_operand (L.choices l chain) chain (L.sequence l ts)

choices_stepped : (l : Limits) (chain : Chain) (ts : List Token) (n m : ℕ) (o : Found (List Tree)) → ((f : ℕ) → n ≤ f → choices_behind ((limited f).choices l chain) (read_operand (limited f) l chain ts) ≡ o) → suc n ≤ m → Comes m (λ L. L.choices l chain ts) o
choices_stepped l chain ts n m o c le = later (λ L. L.choices l chain ts) n m o (λ f h. choices_unfold (limited f) l chain ts ∙ c f h) le

pub first_chosen : (n : ℕ) (left : Tree) (new : List Tree) (F : Limited → Found (List Tree)) → new ≡ left ∷ [] → ChoicesSoFar n (λ L. and_then (F L) λ q. Some (q.0, left ∷ q.1, q.2)) new n F
first_chosen n left new F e = record { goes_on = λ o c f le. ap (λ x. and_then x λ q. Some (q.0, left ∷ q.1, q.2)) (c f le) ∙ ap (λ d. behind_choices d o) (sym e) }

pub chosen_more : {n p m k : ℕ} {F : Limited → Found (List Tree)} {done new : List Tree} {b : Binding} {a : Tree} {l : Limits} {chain : Chain} {ts vs : List Token} {y : Bool} → ChoicesSoFar n F done m (λ L. L.choices l chain ts) → new ≡ done ++ a ∷ [] →
    Comes p (λ L. read_operand L l chain ts) (Some (b, a, y, vs)) → y ≡ true → suc p ≤ m → suc k ≤ m → ChoicesSoFar n F new k (λ L. L.choices l chain vs)
chosen_more {n} {p} {m} {k} {F} {done} {new} {b} {a} {l} {chain} {ts} {vs} {y} s e c is low less = record {
  goes_on = λ o h g lg. s.goes_on (behind_choices (a ∷ []) o)
      (choices_stepped l chain ts (m - 1) m (behind_choices (a ∷ []) o) (λ f le.
      let fp : p ≤ f = omega arith in let fk : k ≤ f = omega arith in
      ap (choices_behind ((limited f).choices l chain)) (c f fp ∙ ap (λ z. Some (b, a, z, vs)) is) ∙ ap (behind_choices (a ∷ [])) (h f fk)) (omega arith)) g lg
      ∙ choices_one done a o ∙ ap (λ d. behind_choices d o) (sym e);
}

pub chosen_last : {n p m : ℕ} {F : Limited → Found (List Tree)} {done new : List Tree} {b : Binding} {a : Tree} {l : Limits} {chain : Chain} {ts vs : List Token} {y : Bool} → ChoicesSoFar n F done m (λ L. L.choices l chain ts) → new ≡ done ++ a ∷ [] →
    Comes p (λ L. read_operand L l chain ts) (Some (b, a, y, vs)) → y ≡ false → suc p ≤ m → Comes n F (Some (b, new, vs))
chosen_last {n} {p} {m} {F} {done} {new} {b} {a} {l} {chain} {ts} {vs} {y} s e c is low = λ g lg.
    s.goes_on (Some (b, a ∷ [], vs)) (choices_stepped l chain ts p m (Some (b, a ∷ [], vs)) (λ f le. ap (choices_behind ((limited f).choices l chain)) (c f le ∙ ap (λ z. Some (b, a, z, vs)) is)) low) g lg
    ∙ ap (λ d. Some (b, d, vs)) (sym e)

pub choice_fails : {B C : Type 0} {n p m : ℕ} {F : Limited → Found (List Tree)} {done : List Tree} {l : Limits} {chain : Chain} {ts : List Token} (seen : B → Binding × Tree × Bool × List Token) (shown : C → Binding × List Tree × List Token) (r : Stop NoText) →
    ChoicesSoFar n F done m (λ L. L.choices l chain ts) → Reads (Err r) seen p (λ L. read_operand L l chain ts) → suc p ≤ m → Reads (Err r) shown n F
choice_fails seen shown stop.NoMemory s c low = λ g lg. tt
choice_fails {p = p} {m = m} {l = l} {chain = chain} {ts = ts} seen shown (stop.Told none) s c low = s.goes_on None (choices_stepped l chain ts p m None (λ f le. ap (choices_behind ((limited f).choices l chain)) (c f le)) low)

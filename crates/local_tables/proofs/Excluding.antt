-- Where a component has its table, whatever it is said to have stands in that.
use Rattle.local_tables.proofs.Prelude.{◌≡◌, ℕ, zero, suc, ◌+◌, ◌≤◌, List, [], ◌∷◌, length, refl, ap, sym, subst, ◌∙◌, arith, ◌<◌, Ok, Err, map, slice_get, Some, same_Some, total, EachOnce, proc_depth, proc_size, Proc, Content, Label, silent, visible, Component, ComponentStep, Reached, IsTableOf, RawStep, RawTable, standing_at, lists_are_there, ProcessStep, AreSteps, AreTerms, FaultsExcludeTables, MOST_TERMS, run_down}
use Rattle.process_steps.specs.declared.component_fault.ComponentFault.TheVariants as fault

-- the list without the element in a place
without : {X : Type 0} → ℕ → List X → List X
without j [] = []
without zero (x ∷ xs) = xs
without (suc j) (x ∷ xs) = x ∷ without j xs

-- an element in another place is still there
still : {X : Type 0} (xs : List X) (j k : ℕ) (x : X) → slice_get xs k ≡ Some x → (k ≡ j → ⊥) → (i : ℕ) × (slice_get (without j xs) i ≡ Some x)
unfolding without
still [] j k x h other = cc
still (y ∷ xs) zero zero x h other = absurd (other refl)
still (y ∷ xs) zero (suc k) x h other = (k, h)
still (y ∷ xs) (suc j) zero x h other = (0, h)
still (y ∷ xs) (suc j) (suc k) x h other = let r = still xs j k x h (λ e. other (ap suc e)) in (suc r.0, r.1)

total_without : {X : Type 0} (v : X → ℕ) (xs : List X) (j : ℕ) (x : X) → slice_get xs j ≡ Some x → total (map v xs) ≡ v x + total (map v (without j xs))
unfolding without
total_without v [] j x h = cc
total_without v (y ∷ xs) zero x h = let e : y ≡ x = cc in ap (λ z. v z + total (map v xs)) e
total_without v (y ∷ xs) (suc j) x h = let e : total (map v xs) ≡ v x + total (map v (without j xs)) = total_without v xs j x h in omega arith

-- a partner in the list
pub record Partner {X Y : Type 0} (Pair : X → Y → Type 0) (ys : List Y) (x : X) : Type 0 where
  pub place : ℕ
  pub partner : Y
  pub at : slice_get ys place ≡ Some partner
  pub pair : Pair x partner

module _ {X Y : Type 0} (Pair : X → Y → Type 0) (w : X → ℕ) (v : Y → ℕ) (apart : (x z : X) (y : Y) → Pair x y → Pair z y → x ≡ z) (lighter : (x : X) (y : Y) → Pair x y → w x ≤ v y) where
  pub no_heavier : (xs : List X) (ys : List Y) → EachOnce xs → ((k : ℕ) (x : X) → slice_get xs k ≡ Some x → Partner Pair ys x) → total (map w xs) ≤ total (map v ys)
  no_heavier [] ys once partners = omega arith
  no_heavier (x ∷ xs) ys once partners =
      let here = partners 0 x refl in
      let others : total (map w xs) ≤ total (map v (without here.place ys)) = no_heavier xs (without here.place ys) (λ j k z h g. let e : suc j ≡ suc k = once (suc j) (suc k) z h g in omega arith) (λ k z h. rest here k z h (partners (suc k) z h)) in
      let whole : total (map v ys) ≡ v here.partner + total (map v (without here.place ys)) = total_without v ys here.place here.partner here.at in
      let less : w x ≤ v here.partner = lighter x here.partner here.pair in
      omega arith
    where
      rest : (here : Partner Pair ys x) (k : ℕ) (z : X) → slice_get xs k ≡ Some z → Partner Pair ys z → Partner Pair (without here.place ys) z
      rest here k z h found =
          let s = still ys here.place found.place found.partner found.at (λ e.
          let same : found.partner ≡ here.partner = same_Some found.partner here.partner (sym (subst (λ i. slice_get ys i ≡ Some found.partner) e found.at) ∙ here.at) in
          let is : x ≡ z = apart x z here.partner here.pair (subst (λ y. Pair z y) same found.pair) in
          let twice : 0 ≡ suc k = once 0 (suc k) z (ap Some is) h in
          absurd (omega arith)) in
          record { place = s.0; partner = found.partner; at = s.1; pair = found.pair }

-- the number of elements
total_ones : {X : Type 0} (xs : List X) → total (map (λ _. 1) xs) ≡ length xs
total_ones [] = refl
total_ones (x ∷ xs) = let e : total (map (λ _. 1) xs) ≡ length xs = total_ones xs in omega arith

pub no_longer : {X Y : Type 0} (Pair : X → Y → Type 0) → ((x z : X) (y : Y) → Pair x y → Pair z y → x ≡ z) → (xs : List X) (ys : List Y) → EachOnce xs → ((k : ℕ) (x : X) → slice_get xs k ≡ Some x → Partner Pair ys x) → length xs ≤ length ys
no_longer {X} {Y} Pair apart xs ys once partners =
    let h : total (map (λ _. 1) xs) ≤ total (map (λ _. 1) ys) = no_heavier Pair (λ _. 1) (λ _. 1) apart (λ x y h. omega arith) xs ys once partners in
    let a : total (map (λ _. 1) xs) ≡ length xs = total_ones xs in
    let b : total (map (λ _. 1) ys) ≡ length ys = total_ones ys in
    omega arith

module _ (p : Content) (c : Component Proc) (terms : List Proc) (raw : RawTable) (table : IsTableOf (ProcessStep p) c terms raw) where
  -- a term that is reached has a number
  pub listed_of : (x : Proc) → Reached (ComponentStep (ProcessStep p)) c (standing_at c x) → (n : ℕ) × (slice_get terms n ≡ Some x)
  listed_of x r = let i = run_down (ProcessStep p) c terms raw r.0 c (standing_at c x) 0 table table.first refl r.1 in (i.number, i.listed)

  -- terms that are reached
  partner : (xs : List Proc) → AreTerms (ProcessStep p) c xs → (k : ℕ) (x : Proc) → slice_get xs k ≡ Some x → Partner (λ (a b : Proc). a ≡ b) terms x
  partner xs are k x h = let l = listed_of x (are.reached k x h) in record { place = l.0; partner = x; at = l.1; pair = refl }

  same_partner : (x z y : Proc) → x ≡ y → z ≡ y → x ≡ z
  same_partner x z y a b = a ∙ sym b

  few_terms : (xs : List Proc) → AreTerms (ProcessStep p) c xs → length xs ≤ length terms
  few_terms xs are = no_longer (λ (a b : Proc). a ≡ b) same_partner xs terms are.once (partner xs are)

  small_terms : (xs : List Proc) → AreTerms (ProcessStep p) c xs → total (map proc_size xs) ≤ total (map proc_size terms)
  small_terms xs are = no_heavier (λ (a b : Proc). a ≡ b) proc_size proc_size same_partner
      (λ x y e. subst (λ z. proc_size x ≤ proc_size z) e (omega arith)) xs terms are.once (partner xs are)

  -- steps between such terms
  module _ (xs : List Proc) (are : AreTerms (ProcessStep p) c xs) (other : RawTable) (steps : AreSteps (ProcessStep p) c xs other) where
    -- a number among these terms, and the number of the same term in the table
    record AreSame (m n : ℕ) : Type 0 where
      term : Proc
      here : slice_get xs m ≡ Some term
      there : slice_get terms n ≡ Some term

    same_number : (m k n : ℕ) → AreSame m n → AreSame k n → m ≡ k
    same_number m k n a b =
        let is : b.term ≡ a.term = same_Some b.term a.term (sym b.there ∙ a.there) in
        are.once m k a.term a.here (b.here ∙ ap Some is)

    record Found (m n : ℕ) (l : Label) : Type 0 where
      from : ℕ
      to : ℕ
      from_same : AreSame m from
      to_same : AreSame n to
      step : RawStep raw from l to

    found : (m n : ℕ) (l : Label) → RawStep other m l n → Found m n l
    found m n l s =
        let is = steps.sound m n l s in
        let source = listed_of is.source (are.reached m is.source is.from) in
        let i = table.complete source.0 is.source l (standing_at c is.goal) source.1 is.step in
        record {
          from = source.0;
          to = i.number;
          from_same = record { term = is.source; here = is.from; there = source.1 };
          to_same = record { term = is.goal; here = is.to; there = i.listed };
          step = i.step;
        }

    AreSilent : ℕ × ℕ → ℕ × ℕ → Type 0
    AreSilent a b = AreSame a.0 b.0 × AreSame a.1 b.1

    few_silent : length other.silent ≤ length raw.silent
    unfolding AreSilent
    few_silent = no_longer AreSilent
        (λ x z y a b i. (same_number x.0 z.0 y.0 a.0 b.0 i, same_number x.1 z.1 y.1 a.1 b.1 i)) other.silent raw.silent steps.silent_once
        (λ k x h. let f = found x.0 x.1 silent (k, h) in record { place = f.step.0; partner = (f.from, f.to); at = f.step.1; pair = (f.from_same, f.to_same) })

    AreVisible : ℕ × ℕ × ℕ → ℕ × ℕ × ℕ → Type 0
    AreVisible a b = AreSame a.0 b.0 × (a.1 ≡ b.1) × AreSame a.2 b.2

    few_visible : length other.steps ≤ length raw.steps
    unfolding AreVisible
    few_visible = no_longer AreVisible
        (λ x z y a b i. (same_number x.0 z.0 y.0 a.0 b.0 i, (a.1 ∙ sym b.1) i, same_number x.2 z.2 y.2 a.2 b.2 i)) other.steps raw.steps steps.steps_once
        (λ k x h. let f = found x.0 x.2 (visible x.1) (k, h) in record { place = f.step.0; partner = (f.from, x.1, f.to); at = f.step.1; pair = (f.from_same, refl, f.to_same) })

pub excluded : FaultsExcludeTables
excluded p c room made (fault.Value reason) table tells =
    let l = listed_of p c table.terms made.table table.table tells.term tells.reached in
    let list = (lists_are_there p tells.term).1 (table.fit l.0 tells.term l.1).whole in
    let clash : Ok list.0 ≡ Err reason = sym list.1 ∙ tells.none in
    cc
excluded p c room made fault.TermCount table tells =
    let many : MOST_TERMS < length tells.terms = tells.many in
    let few : length tells.terms ≤ length table.terms = few_terms p c table.terms made.table table.table tells.terms tells.are in
    let most : length table.terms ≤ MOST_TERMS = table.few in
    omega arith
excluded p c room made fault.TermDepth table tells =
    let deep : 800 < proc_depth tells.term = tells.deep in
    let l = listed_of p c table.terms made.table table.table tells.term tells.reached in
    let most : proc_depth tells.term ≤ 800 = (table.fit l.0 tells.term l.1).shallow in
    omega arith
excluded p c room made fault.TermTotal table tells =
    let large : room.nodes < total (map proc_size tells.terms) = tells.large in
    let less : total (map proc_size tells.terms) ≤ total (map proc_size table.terms) = small_terms p c table.terms made.table table.table tells.terms tells.are in
    let used : total (map proc_size table.terms) ≡ made.used.nodes = table.nodes in
    let most : made.used.nodes ≤ room.nodes = table.room_for_nodes in
    omega arith
excluded p c room made fault.StepCount table tells =
    let many : room.steps < length tells.raw.silent + length tells.raw.steps = tells.many in
    let a : length tells.raw.silent ≤ length made.table.silent = few_silent p c table.terms made.table table.table tells.terms tells.are tells.raw tells.steps in
    let b : length tells.raw.steps ≤ length made.table.steps = few_visible p c table.terms made.table table.table tells.terms tells.are tells.raw tells.steps in
    let used : length made.table.silent + length made.table.steps ≡ made.used.steps = table.steps in
    let most : made.used.steps ≤ room.steps = table.room_for_steps in
    omega arith
excluded p c room made fault.Diverges table tells = tells
excluded p c room made fault.SubsetLimit table tells = tells
excluded p c room made (fault.Terminates trace) table tells =
    let l = listed_of p c table.terms made.table table.table tells.term (tells.after.0, tells.after.1) in
    (table.fit l.0 tells.term l.1).goes_on tells.ends

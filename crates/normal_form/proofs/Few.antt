-- A node has at most as many acceptances as there are terms: each is what one term offers, and no two are equal.
use Rattle.normal_form.proofs.Prelude.{◌≡◌, ℕ, suc, ◌<◌, ◌≤◌, ◌||◌, ◌↔◌, inl, inr, Bool, true, false, nat_eq, IsTrue, List, [], ◌∷◌, ◌++◌, length, get_or, refl, sym, subst, ◌∙◌, arith, All, AllByRecursion, IsDistinct, IsStrictlyIncreasing, IsStrictlySortedBy, slice_cmp, nat_cmp, is_member, Less, cases_Bool, cases_lt, or_cases, eqb-true, false≢true, nat_eq_equiv, length_push, list_any-append, IsDistinct-push, length-le_from_distinct_below, get_or-eq_default, has, rises_from_increasing, same_members, Label, silent, visible, Path, Offers, IsTrace, IsAcceptance, RawTable, RawStep, HasRawForm, Node, node_at, IsRun, IsReached, HasAcceptances, IsRisingNode, same_tests, silent_listed, step_listed}
use Rattle.normal_form.proofs.SortedSets.{not_below_both}

-- runs stay among the terms
path_below : (raw : RawTable) → HasRawForm raw → (ls : List Label) (m n : ℕ) → m < raw.count → Path (RawStep raw) m ls n → n < raw.count
path_below raw form [] m n below path = subst (λ (k : ℕ). k < raw.count) path below
path_below raw form (silent ∷ ls) m n below path = path_below raw form ls path.0 n (form.silent_within m path.0 (silent_listed raw m path.0 path.1)).1 path.2
path_below raw form (visible e ∷ ls) m n below path = path_below raw form ls path.0 n (form.steps_within m e path.0 (step_listed raw m e path.0 path.1)).1 path.2

-- the term offers the events of the set, which is written as a rising list, and nothing else
record IsOfferedBy (raw : RawTable) (M : List ℕ) (x : ℕ) : Type 0 where
  below : x < raw.count
  exact : (e : ℕ) → IsTrue (has M e) ↔ Offers (RawStep raw) x e
  rising : IsStrictlyIncreasing M

one_offer : (raw : RawTable) (M N : List ℕ) (x : ℕ) → IsOfferedBy raw M x → IsOfferedBy raw N x → M ≡ N
one_offer raw M N x a b = same_members 0 0 M N (rises_from_increasing M a.rising) (rises_from_increasing N b.rising) (λ e. same_tests (has M e) (has N e) (λ h. (b.exact e).1 ((a.exact e).0 h)) (λ h. (a.exact e).1 ((b.exact e).0 h)))

-- a term for each of the sets
record HasTerms (raw : RawTable) (sets : List (List ℕ)) : Type 1 where
  terms : List ℕ
  one_each : length terms ≡ length sets
  distinct : IsDistinct nat_eq terms
  from : (P : List ℕ → Type 0) → AllByRecursion P sets → (x : ℕ) → is_member nat_eq terms x ≡ true → (M : List ℕ) × P M × IsOfferedBy raw M x

or_none : (a b : Bool) → (a || (b || false)) ≡ true → (a || b) ≡ true
or_none true b h = refl
or_none false true h = refl
or_none false false h = h

terms_of : (raw : RawTable) (sets : List (List ℕ)) → IsStrictlySortedBy (slice_cmp nat_cmp) sets → ((k : ℕ) → k < length sets → (x : ℕ) × IsOfferedBy raw (get_or sets k []) x) → HasTerms raw sets
unfolding IsDistinct IsStrictlySortedBy
terms_of raw [] sorted offered = record { terms = []; one_each = refl; distinct = tt; from = λ P all x h. absurd (false≢true h) }
terms_of raw (M ∷ Ms) sorted offered =
    let rest = terms_of raw Ms sorted.1 (λ k below. offered (suc k) (omega arith)) in
    let mine = offered 0 (omega arith) in
    let new : is_member nat_eq rest.terms mine.0 ≡ false = elim (cases_Bool (is_member nat_eq rest.terms mine.0)) as (λ _. is_member nat_eq rest.terms mine.0 ≡ false) [
      | inl known ↦
          let other = rest.from (λ N. slice_cmp nat_cmp M N ≡ Less) sorted.0 mine.0 known in
          let same : M ≡ other.0 = one_offer raw M other.0 mine.0 mine.1 other.2 in
          let low : slice_cmp nat_cmp M M ≡ Less = subst (λ (N : List ℕ). slice_cmp nat_cmp M N ≡ Less) (sym same) other.1 in
          absurd (not_below_both M M low low)
      | inr fresh ↦ fresh
    ] in
    record {
      terms = rest.terms ++ mine.0 ∷ [];
      one_each = let many : length rest.terms ≡ length Ms = rest.one_each in omega (arith, length_push rest.terms mine.0);
      distinct = IsDistinct-push nat_eq_equiv rest.terms mine.0 rest.distinct new;
      from = λ P all x h.
          elim (or_cases (is_member nat_eq rest.terms x) (nat_eq x mine.0) (or_none (is_member nat_eq rest.terms x) (nat_eq x mine.0) (sym (list_any-append (nat_eq x) rest.terms (mine.0 ∷ [])) ∙ h))) as (λ _. (N : List ℕ) × P N × IsOfferedBy raw N x) [
            | inl old ↦ rest.from P all.1 x old
            | inr last ↦ (M, all.0, subst (IsOfferedBy raw M) (sym (eqb-true x mine.0 last)) mine.1)
          ];
    }

anything : (sets : List (List ℕ)) → AllByRecursion (λ _. Unit {0}) sets
anything [] = tt
anything (M ∷ Ms) = (tt, anything Ms)

few_sets : (raw : RawTable) (sets : List (List ℕ)) → HasTerms raw sets → length sets ≤ raw.count
few_sets raw sets h =
    let most : length h.terms ≤ raw.count = length-le_from_distinct_below h.terms raw.count h.distinct (λ x listed. (h.from (λ _. Unit {0}) (anything sets) x listed).2.below) in
    omega (arith, h.one_each)

pub few_acceptances : (raw : RawTable) (table : List Node) → HasRawForm raw → ((s : List ℕ) → IsTrace (RawStep raw) 0 s ↔ IsRun table s) → HasAcceptances (RawStep raw) 0 table → All IsRisingNode table → ((n : ℕ) → n < length table → IsReached table n) → (n : ℕ) → length (node_at table n).accept ≤ raw.count
few_acceptances raw table form traces accepts rising reached n =
    elim (cases_lt n (length table)) as (λ _. length (node_at table n).accept ≤ raw.count) [
      | inl below ↦
          let r = reached n below in
          let node : IsRisingNode (node_at table n) = rising n (record { next = []; accept = [] }) below in
          let sound : (k : ℕ) → k < length (node_at table n).accept → IsAcceptance (RawStep raw) 0 r.run (get_or (node_at table n).accept k []) =
          subst (λ (m : ℕ). (k : ℕ) → k < length (node_at table m).accept → IsAcceptance (RawStep raw) 0 r.run (get_or (node_at table m).accept k [])) r.leads (λ k within. accepts.sound r.run k ((traces r.run).1 r.follows) within) in
          few_sets raw (node_at table n).accept (terms_of raw (node_at table n).accept node.acceptances (λ k within.
          let o = (sound k within).offer in
          (o.state, record { below = path_below raw form o.reached.0 0 o.state (let some : 1 ≤ raw.count = form.first in omega arith) o.reached.1; exact = o.offered; rising = node.members k [] within })))
      | inr past ↦ subst (λ (node : Node). length node.accept ≤ raw.count) (sym (get_or-eq_default table (record { next = []; accept = [] }) past)) (omega arith)
    ]

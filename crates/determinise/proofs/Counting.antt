-- How many sets traces lead to.
use Rattle.determinise.proofs.Prelude.{◌≡◌, ℕ, zero, suc, ◌+◌, ◌<◌, ◌≤◌, inl, inr, true, false, nat_eq, IsTrue, List, [], ◌∷◌, ◌++◌, length, get_or, refl, sym, ap, subst, ◌∙◌, arith, map, list_any, IsDistinct, IsStrictlyIncreasing, cases_lt, cases_Bool, eqb-true, get_or_append_left, length-append, get_or-map, length-map, IsDistinct-from_apart, length-le_from_distinct_below, get_or-append_seam, has, RawTable, RawStep, Node, end_of, HaveSameStates, ReachesSets, set_at, AreReachedSets, AreNodesSoFar, IsSetAfter, any_place, same_tests, Tells, Stop, MOST_SETS, rises_from_increasing, same_members}
use Rattle.csp_base.specs.declared.stop.Stop.TheVariants as stop
use Rattle.determinise.proofs.Runs.{ends_at}

-- traces to the first sets
record TracesTo (raw : RawTable) (sets : List (List ℕ)) (n : ℕ) : Type 0 where
  traces : List (List ℕ)
  count : length traces ≡ n
  each : (k : ℕ) → k < n → IsSetAfter raw (get_or traces k []) (set_at sets k)

traces_to : (raw : RawTable) (sets : List (List ℕ)) → AreReachedSets raw sets → (n : ℕ) → n ≤ length sets → TracesTo raw sets n
traces_to raw sets r zero within = record { traces = []; count = refl; each = λ k h. absurd (omega arith) }
traces_to raw sets r (suc n) within =
    let before = traces_to raw sets r n (omega arith) in
    let here = r.each n (omega arith) in
    record {
      traces = before.traces ++ here.0 ∷ [];
      count = length-append before.traces (here.0 ∷ []) ∙ (λ i. before.count i + 1) ∙ (omega arith);
      each = λ k h. elim (cases_lt k n) as (λ _. IsSetAfter raw (get_or (before.traces ++ here.0 ∷ []) k []) (set_at sets k)) [
        | inl early ↦
            let inside : k < length before.traces = rw before.count early in
            subst (λ (s : List ℕ). IsSetAfter raw s (set_at sets k)) (sym (get_or_append_left before.traces (here.0 ∷ []) [] k inside)) (before.each k early)
        | inr late ↦
            let at : k ≡ n = omega arith in
            let end : k ≡ length before.traces = at ∙ sym before.count in
            let read : get_or (before.traces ++ here.0 ∷ []) k [] ≡ here.0 = ap (λ m. get_or (before.traces ++ here.0 ∷ []) m []) end ∙ get_or-append_seam before.traces here.0 [] [] in
            subst (λ (s : List ℕ). IsSetAfter raw s (set_at sets k)) (sym read) (subst (λ (m : ℕ). IsSetAfter raw here.0 (set_at sets m)) (sym at) here.1)
      ];
    }

-- traces with the same terms lead to the same set
same_set : (raw : RawTable) (s t X Y : List ℕ) → IsSetAfter raw s X → IsSetAfter raw t Y → IsStrictlyIncreasing X → IsStrictlyIncreasing Y → HaveSameStates (RawStep raw) 0 s t → X ≡ Y
same_set raw s t X Y a b rises_x rises_y same =
    same_members 0 0 X Y (rises_from_increasing X rises_x) (rises_from_increasing Y rises_y) (λ x. same_tests (has X x) (has Y x) (λ h. (b.terms x).1 ((same x).0 ((a.terms x).0 h))) (λ h. (a.terms x).1 ((same x).1 ((b.terms x).0 h))))

same_terms : (raw : RawTable) (s t X Y : List ℕ) → IsSetAfter raw s X → IsSetAfter raw t Y → X ≡ Y → HaveSameStates (RawStep raw) 0 s t
same_terms raw s t X Y a b same x = (
  λ h. (b.terms x).0 (subst (λ (S : List ℕ). IsTrue (has S x)) same ((a.terms x).1 h)),
  λ h. (a.terms x).0 (subst (λ (S : List ℕ). IsTrue (has S x)) (sym same) ((b.terms x).1 h)),
)

-- as many sets as were found
many_sets : (raw : RawTable) (sets : List (List ℕ)) (n : ℕ) → AreReachedSets raw sets → length sets ≡ n → ReachesSets (RawStep raw) 0 n
many_sets raw sets n r long =
    let found = traces_to raw sets r n (omega (arith, long)) in
    record {
      traces = found.traces;
      count = found.count;
      each = λ k h. (found.each k h).some;
      apart = λ j k rises h same.
          let first : j < n = omega arith in
          let inside : k < length sets = rw long h in
          r.apart j k rises inside (same_set raw (get_or found.traces j []) (get_or found.traces k []) (set_at sets j) (set_at sets k) (found.each j first) (found.each k h) (r.forms j (omega (arith, inside))).rising (r.forms k inside).rising same);
    }

pub many_told : {F : Type 0} (raw : RawTable) (sets : List (List ℕ)) → AreReachedSets raw sets → (s : Stop F) → Tells (λ _. length sets ≡ MOST_SETS + 1) s → Tells (λ _. ReachesSets (RawStep raw) 0 (MOST_SETS + 1)) s
many_told raw sets r stop.NoMemory told = told
many_told raw sets r (stop.Told f) long = many_sets raw sets (MOST_SETS + 1) r long

-- no more sets are reached than there are nodes
pub no_more_sets : (raw : RawTable) (sets : List (List ℕ)) (nodes : List Node) (n : ℕ) → AreNodesSoFar raw sets nodes → length nodes ≡ length sets → AreReachedSets raw sets → length nodes < n → ReachesSets (RawStep raw) 0 n → ⊥
no_more_sets raw sets nodes n so_far all reached few r =
    let most : length ends ≤ length nodes = length-le_from_distinct_below ends (length nodes) distinct below in
    omega (arith, most, long, r.count)
  where
    ends : List ℕ
    ends = map (λ s. end_of nodes 0 s) r.traces

    long : length ends ≡ length r.traces
    long = length-map r.traces (λ s. end_of nodes 0 s)

    read : (k d : ℕ) → k < length ends → get_or ends k d ≡ end_of nodes 0 (get_or r.traces k [])
    read k d h = get_or-map (λ s. end_of nodes 0 s) r.traces k [] d (rw long at h)

    at : (k : ℕ) → k < length ends → (end_of nodes 0 (get_or r.traces k []) < length nodes) × IsSetAfter raw (get_or r.traces k []) (set_at sets (end_of nodes 0 (get_or r.traces k [])))
    at k h = ends_at raw sets nodes so_far all reached (get_or r.traces k []) (r.each k (omega (arith, h, long, r.count)))

    apart : (i j d : ℕ) → i < j → j < length ends → nat_eq (get_or ends i d) (get_or ends j d) ≡ false
    apart i j d rises h = elim (cases_Bool (nat_eq (get_or ends i d) (get_or ends j d))) as (λ _. nat_eq (get_or ends i d) (get_or ends j d) ≡ false) [
      | inl same ↦
          let first : i < length ends = omega arith in
          let equal : end_of nodes 0 (get_or r.traces i []) ≡ end_of nodes 0 (get_or r.traces j []) = sym (read i d first) ∙ (eqb-true (get_or ends i d) (get_or ends j d) same ∙ read j d h) in
          absurd (r.apart i j rises (omega (arith, h, long, r.count)) (same_terms raw (get_or r.traces i []) (get_or r.traces j []) (set_at sets (end_of nodes 0 (get_or r.traces i []))) (set_at sets (end_of nodes 0 (get_or r.traces j []))) (at i first).1 (at j h).1 (ap (set_at sets) equal)))
      | inr other ↦ other
    ]

    distinct : IsDistinct nat_eq ends
    distinct = IsDistinct-from_apart nat_eq ends apart

    below : (q : ℕ) → list_any (nat_eq q) ends ≡ true → q < length nodes
    below q h =
        let p = any_place (nat_eq q) ends 0 h in
        let same : q ≡ end_of nodes 0 (get_or r.traces p.0 []) = eqb-true q (get_or ends p.0 0) p.2 ∙ read p.0 0 p.1 in
        rw same (at p.0 p.1).0

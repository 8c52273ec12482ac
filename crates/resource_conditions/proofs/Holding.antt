-- What the state of a resource's holder tells, and the conditions on a resource by tests of its exploration.
use Rattle.resource_conditions.proofs.Prelude.{◌≡◌, ℕ, suc, ◌-◌, ◌<◌, inl, inr, List, [], ◌∷◌, ◌++◌, length, Option, None, Some, Bool, true, false, not, ◌&&◌, ◌||◌, cond, IsTrue, nat_eq, refl, sym, ap, subst, ◌∙◌, arith, eq-eqb, ne_eqb, cases_Bool, cases_eq, cond-true, cond-false, and_parts, and_from, both_ways, false≢true, same_Some, has, is_subset_of, inter_of, Node, node_at, is_possible, IsRun, end_of, acceptances_after, part_at, alphabets_of, TripleDisjoint, IsWithin, Shape, link_at, IsWellFormed, IsPossible, Accepts, accepted, use_at, is_held, IsHolder, IsUsedInTurn, GrantsAll, observed, LeadsTo, pair_at, holder_step, IsExploration, Setting, node_of, AreOwners, FindsRun, is_turn, are_turns, wanted_in, are_grants, Keeps, meets, IsDecided, member_of_superset, is_subset_of_from_members, slice_index, part_form, last_more, last_same, odd_more, odd_same, one_link, run_induction, possible_within, end_within, some_link, link_shared, Asked, observed_push, at_place, each_set}
use Rattle.resource_conditions.specs.declared.resources.Asked.TheVariants as asked
use Rattle.resource_conditions.proofs.Sets.{in_both, of_both, all_possible, some_possible, all_at, some_at, either_of, neither_of}

-- ---- the state of the holder

-- where it is free the state is 0, and else it names the holder
record StateIs (shape : Shape) (i : ℕ) (s : List ℕ) (state : ℕ) : Type 0 where
  pub free : is_held shape s ≡ false → state ≡ 0
  pub held : is_held shape s ≡ true → (l : ℕ) × IsHolder shape i s l × (state ≡ suc l)

-- an event without a link changes nothing
stays : (holders : List ℕ) (state e : ℕ) → slice_index holders e ≡ 0 → holder_step holders state e ≡ state
stays holders state e none = cond-true (nat_eq (slice_index holders e) 0) state (cond (nat_eq state 0) (slice_index holders e) 0) (eq-eqb (slice_index holders e) 0 none)

frees : (holders : List ℕ) (state e l m : ℕ) → slice_index holders e ≡ suc l → state ≡ suc m → holder_step holders state e ≡ 0
frees holders state e l m at is =
    cond-false (nat_eq (slice_index holders e) 0) state (cond (nat_eq state 0) (slice_index holders e) 0) (ne_eqb (slice_index holders e) 0 (λ z. omega arith))
    ∙ cond-false (nat_eq state 0) (slice_index holders e) 0 (ne_eqb state 0 (λ z. omega arith))

takes : (holders : List ℕ) (state e l : ℕ) → slice_index holders e ≡ suc l → state ≡ 0 → holder_step holders state e ≡ suc l
takes holders state e l at is =
    cond-false (nat_eq (slice_index holders e) 0) state (cond (nat_eq state 0) (slice_index holders e) 0) (ne_eqb (slice_index holders e) 0 (λ z. omega arith))
    ∙ cond-true (nat_eq state 0) (slice_index holders e) 0 (eq-eqb state 0 is) ∙ at

module _ (g : Setting) (i : ℕ) (holders : List ℕ) (w : IsWellFormed g.shape) (triple : TripleDisjoint (alphabets_of g.shape.parts)) (h : i < length g.shape.parts) (are : AreOwners g.shape holders) where
  abbrev state_of : List ℕ → ℕ
  state_of s = observed (holder_step holders) 0 s

  no_holder : (e : ℕ) → has g.shape.vocabulary e ≡ false → slice_index holders e ≡ 0
  no_holder e hidden = elim (cases_eq (slice_index holders e) 0) [
    | inl none ↦ none
    | inr some ↦
        let o = are.sound e (slice_index holders e - 1) (omega arith) in
        absurd (both_ways (has g.shape.vocabulary e) hidden (link_shared g.shape (slice_index holders e - 1) w o.within e o.event))
  ]

  no_state : StateIs g.shape i [] 0
  no_state = record { free = λ _. refl; held = λ odd. absurd (false≢true odd) }

  next_state : (u : List ℕ) (e : ℕ) → IsTrue (is_possible (node_at (part_at g.shape.parts i).table (end_of (part_at g.shape.parts i).table 0 u)).next e) → StateIs g.shape i u (state_of u) → StateIs g.shape i (u ++ e ∷ []) (state_of (u ++ e ∷ []))
  next_state u e possible p =
      let V = g.shape.vocabulary in
      let push = observed_push (holder_step holders) 0 u e in
      elim (cases_Bool (has g.shape.vocabulary e)) [
        | inr hidden ↦
            let same = push ∙ stays holders (state_of u) e (no_holder e hidden) in
            record {
              free = λ free. same ∙ p.free (sym (odd_same V u e hidden) ∙ free);
              held = λ held.
                  let r = p.held (sym (odd_same V u e hidden) ∙ held) in
                  (r.0, record { within = r.1.within; end = r.1.end; event = r.1.event; last = last_same V u e hidden ∙ r.1.last; on = r.1.on }, same ∙ r.2);
            }
        | inl shared ↦
            let owned = possible_within (part_at g.shape.parts i) (end_of (part_at g.shape.parts i).table 0 u) e (part_form g.shape.parts i h w.form) possible in
            let l = some_link g.shape i e w h owned shared in
            let at = are.complete e l.0 (record { within = l.1.within; event = l.1.event }) in
            elim (cases_Bool (is_held g.shape u)) [
              | inl held ↦
                  let r = p.held held in
                  record {
                    free = λ _. push ∙ frees holders (state_of u) e l.0 r.0 at r.2;
                    held = λ odd. absurd (both_ways (is_held g.shape (u ++ e ∷ [])) (odd_more V u e shared ∙ ap not held) odd);
                  }
              | inr free ↦ record {
                free = λ even. absurd (both_ways (is_held g.shape (u ++ e ∷ [])) even (odd_more V u e shared ∙ ap not free));
                held = λ _. (l.0, record { within = l.1.within; end = l.1.end; event = e; last = last_more V u e shared; on = l.1.event }, push ∙ takes holders (state_of u) e l.0 at (p.free free));
              }
            ]
      ]

  state_is : (s : List ℕ) → IsRun (part_at g.shape.parts i).table s → StateIs g.shape i s (state_of s)
  state_is s run = run_induction (part_at g.shape.parts i).table (λ u. StateIs g.shape i u (state_of u)) no_state (λ u e _ possible p. next_state u e possible p) s run

  one_holder : (s : List ℕ) (l m : ℕ) → IsHolder g.shape i s l → IsHolder g.shape i s m → l ≡ m
  one_holder s l m x y =
      let same : y.event ≡ x.event = same_Some y.event x.event (sym y.last ∙ x.last) in
      one_link g.shape i l m x.event w triple h (record { within = x.within; end = x.end; event = x.on }) (record { within = y.within; end = y.end; event = subst (λ e. IsTrue (has (link_at g.shape m).shared e)) same y.on })

  -- the holder's state
  held_by : (s : List ℕ) (l : ℕ) → IsRun (part_at g.shape.parts i).table s → is_held g.shape s ≡ true → IsHolder g.shape i s l → state_of s ≡ suc l
  held_by s l run held x = let r = (state_is s run).held held in r.2 ∙ ap suc (one_holder s r.0 l r.1 x)

  -- ---- U2

  turn_when : (state e : ℕ) → has g.shape.vocabulary e ≡ true → is_turn g i state e ≡ cond (nat_eq state 0) (has (use_at g.uses i).acquire e) (has (use_at g.uses i).release e && has (link_at g.shape (state - 1)).shared e)
  turn_when state e v = cond-true (has g.shape.vocabulary e) (cond (nat_eq state 0) (has (use_at g.uses i).acquire e) (has (use_at g.uses i).release e && has (link_at g.shape (state - 1)).shared e)) true v

  free_turn : (state e : ℕ) → has g.shape.vocabulary e ≡ true → state ≡ 0 → is_turn g i state e ≡ has (use_at g.uses i).acquire e
  free_turn state e v is = turn_when state e v ∙ cond-true (nat_eq state 0) (has (use_at g.uses i).acquire e) (has (use_at g.uses i).release e && has (link_at g.shape (state - 1)).shared e) (eq-eqb state 0 is)

  held_turn : (state e l : ℕ) → has g.shape.vocabulary e ≡ true → state ≡ suc l → is_turn g i state e ≡ (has (use_at g.uses i).release e && has (link_at g.shape l).shared e)
  held_turn state e l v is =
      turn_when state e v ∙ cond-false (nat_eq state 0) (has (use_at g.uses i).acquire e) (has (use_at g.uses i).release e && has (link_at g.shape (state - 1)).shared e) (ne_eqb state 0 (λ z. omega arith))
      ∙ ap (λ k. has (use_at g.uses i).release e && has (link_at g.shape k).shared e) (let less : state - 1 ≡ l = omega arith in less)

  is_shared : (state e : ℕ) → is_turn g i state e ≡ false → has g.shape.vocabulary e ≡ true
  is_shared state e broken = elim (cases_Bool (has g.shape.vocabulary e)) [
    | inl shared ↦ shared
    | inr hidden ↦ absurd (both_ways (is_turn g i state e) broken (cond-false (has g.shape.vocabulary e) (cond (nat_eq state 0) (has (use_at g.uses i).acquire e) (has (use_at g.uses i).release e && has (link_at g.shape (state - 1)).shared e)) true hidden))
  ]

  pub used_in_turn : ((s : List ℕ) → IsRun (part_at g.shape.parts i).table s → are_turns g i (end_of (part_at g.shape.parts i).table 0 s, observed (holder_step holders) 0 s) ≡ true) → (s : List ℕ) → IsUsedInTurn g.shape g.uses i s
  used_in_turn all s = record {
    turn = λ e possible shared.
        let t = passes e possible in
        let st = state_is s possible.runs.follows in
        elim (cases_Bool (is_held g.shape s)) [
          | inl held ↦
              let r = st.held held in
              cond-true (is_held g.shape s) (has (use_at g.uses i).release e) (has (use_at g.uses i).acquire e) held
              ∙ (and_parts (has (use_at g.uses i).release e) (has (link_at g.shape r.0).shared e) (sym (held_turn (state_of s) e r.0 shared r.2) ∙ t)).0
          | inr free ↦
              cond-false (is_held g.shape s) (has (use_at g.uses i).release e) (has (use_at g.uses i).acquire e) free
              ∙ (sym (free_turn (state_of s) e shared (st.free free)) ∙ t)
        ];
    by_holder = λ l e possible shared held holder.
        (and_parts (has (use_at g.uses i).release e) (has (link_at g.shape l).shared e) (sym (held_turn (state_of s) e l shared (held_by s l possible.runs.follows held holder)) ∙ passes e possible)).1;
  }
    where
      passes : (e : ℕ) → IsPossible g.shape i s e → is_turn g i (state_of s) e ≡ true
      passes e possible = all_possible (is_turn g i (state_of s)) (node_of g i (end_of (part_at g.shape.parts i).table 0 s)).next e (all s possible.runs.follows) possible.next

  pub not_in_turn : (s : List ℕ) → IsRun (part_at g.shape.parts i).table s → are_turns g i (end_of (part_at g.shape.parts i).table 0 s, observed (holder_step holders) 0 s) ≡ false → IsUsedInTurn g.shape g.uses i s → ⊥
  not_in_turn s run broken used =
      let x = some_possible (is_turn g i (state_of s)) (node_of g i (end_of (part_at g.shape.parts i).table 0 s)).next broken in
      let e = x.0 in
      let possible : IsPossible g.shape i s x.0 = record { runs = record { part = h; follows = run }; next = x.1 } in
      let shared = is_shared (state_of s) x.0 x.2 in
      let st = state_is s run in
      let turn = used.turn x.0 possible shared in
      elim (cases_Bool (is_held g.shape s)) [
        | inl held ↦
            let r = st.held held in
            let release = sym (cond-true (is_held g.shape s) (has (use_at g.uses i).release x.0) (has (use_at g.uses i).acquire x.0) held) ∙ turn in
            let on = used.by_holder r.0 x.0 possible shared held r.1 in
            both_ways (is_turn g i (state_of s) x.0) x.2 (held_turn (state_of s) x.0 r.0 shared r.2 ∙ and_from (has (use_at g.uses i).release x.0) (has (link_at g.shape r.0).shared x.0) release on)
        | inr free ↦
            let acquire = sym (cond-false (is_held g.shape s) (has (use_at g.uses i).release x.0) (has (use_at g.uses i).acquire x.0) free) ∙ turn in
            both_ways (is_turn g i (state_of s) x.0) x.2 (free_turn (state_of s) x.0 shared (st.free free) ∙ acquire)
      ]

  -- ---- U3

  free_wanted : (state : ℕ) → state ≡ 0 → wanted_in g i state ≡ (use_at g.uses i).acquire
  free_wanted state is = cond-true (nat_eq state 0) (use_at g.uses i).acquire (inter_of (use_at g.uses i).release (link_at g.shape (state - 1)).shared) (eq-eqb state 0 is)

  held_wanted : (state l : ℕ) → state ≡ suc l → wanted_in g i state ≡ inter_of (use_at g.uses i).release (link_at g.shape l).shared
  held_wanted state l is =
      cond-false (nat_eq state 0) (use_at g.uses i).acquire (inter_of (use_at g.uses i).release (link_at g.shape (state - 1)).shared) (ne_eqb state 0 (λ z. omega arith))
      ∙ ap (λ k. inter_of (use_at g.uses i).release (link_at g.shape k).shared) (let less : state - 1 ≡ l = omega arith in less)

  abbrev granted : List ℕ → List ℕ → Bool
  granted wanted M = not (is_subset_of M g.shape.vocabulary) || is_subset_of wanted M

  pub grants_all : ((s : List ℕ) → IsRun (part_at g.shape.parts i).table s → are_grants g i (end_of (part_at g.shape.parts i).table 0 s, observed (holder_step holders) 0 s) ≡ true) → (s : List ℕ) → GrantsAll g.shape g.uses i s
  grants_all all s = record {
    when_free = λ M set free. each_set g.shape i s (λ N. IsWithin (use_at g.uses i).acquire N) (λ k accepts.
        subst (λ N. IsWithin N (accepted g.shape i s k)) (free_wanted (state_of s) ((state_is s accepts.runs.follows).free free)) (has_all k accepts)) M set;
    when_held = λ l M e set held holder release on. each_set g.shape i s (λ N. IsTrue (has N e)) (λ k accepts.
        subst (λ N. IsWithin N (accepted g.shape i s k)) (held_wanted (state_of s) l (held_by s l accepts.runs.follows held holder)) (has_all k accepts) e
        (in_both (use_at g.uses i).release (link_at g.shape l).shared e release on)) M set;
  }
    where
      has_all : (k : ℕ) → Accepts g.shape i s k → IsWithin (wanted_in g i (state_of s)) (accepted g.shape i s k)
      has_all k accepts =
          let M = accepted g.shape i s k in
          let wanted = wanted_in g i (state_of s) in
          let t = all_at (granted (wanted_in g i (state_of s))) (acceptances_after (part_at g.shape.parts i).table s) k accepts.listed (all s accepts.runs.follows) in
          member_of_superset (wanted_in g i (state_of s)) (accepted g.shape i s k) (either_of (is_subset_of (accepted g.shape i s k) g.shape.vocabulary) (is_subset_of (wanted_in g i (state_of s)) (accepted g.shape i s k)) t (is_subset_of_from_members (accepted g.shape i s k) g.shape.vocabulary accepts.shared))

  pub not_all_granted : (s : List ℕ) → IsRun (part_at g.shape.parts i).table s → are_grants g i (end_of (part_at g.shape.parts i).table 0 s, observed (holder_step holders) 0 s) ≡ false → GrantsAll g.shape g.uses i s → ⊥
  not_all_granted s run broken grants =
      let x = some_at (granted (wanted_in g i (state_of s))) (acceptances_after (part_at g.shape.parts i).table s) broken in
      let k = x.0 in
      let n = neither_of (is_subset_of (accepted g.shape i s x.0) g.shape.vocabulary) (is_subset_of (wanted_in g i (state_of s)) (accepted g.shape i s x.0)) x.2 in
      let accepts : Accepts g.shape i s x.0 = record { runs = record { part = h; follows = run }; listed = x.1; shared = member_of_superset (accepted g.shape i s x.0) g.shape.vocabulary n.0 } in
      let st = state_is s run in
      elim (cases_Bool (is_held g.shape s)) [
        | inl held ↦
            let r = st.held held in
            let all = subst (λ M. IsWithin M (accepted g.shape i s x.0)) (sym (held_wanted (state_of s) r.0 r.2)) (λ (e : ℕ) (m : IsTrue (has (inter_of (use_at g.uses i).release (link_at g.shape r.0).shared) e)). let b = of_both (use_at g.uses i).release (link_at g.shape r.0).shared e m in grants.when_held r.0 _ e (at_place g.shape i s x.0 accepts) held r.1 b.0 b.1) in
            both_ways (is_subset_of (wanted_in g i (state_of s)) (accepted g.shape i s x.0)) n.1 (is_subset_of_from_members (wanted_in g i (state_of s)) (accepted g.shape i s x.0) all)
        | inr free ↦
            let all = subst (λ M. IsWithin M (accepted g.shape i s x.0)) (sym (free_wanted (state_of s) (st.free free))) (grants.when_free _ (at_place g.shape i s x.0 accepts) free) in
            both_ways (is_subset_of (wanted_in g i (state_of s)) (accepted g.shape i s x.0)) n.1 (is_subset_of_from_members (wanted_in g i (state_of s)) (accepted g.shape i s x.0) all)
      ]

  -- ---- what is asked, by the test of it after each run

  not_met : (b : Bool) → (b ≡ true → ⊥) → b ≡ false
  not_met true never = absurd (never refl)
  not_met false never = refl

  pub decided : (what : Asked) (run : Option (List ℕ)) → (use_at g.uses i).resource ≡ true → IsDecided g.shape i (λ s. meets what g i (end_of (part_at g.shape.parts i).table 0 s) (observed (holder_step holders) 0 s) ≡ true) run → FindsRun g.shape i (λ s. (use_at g.uses i).resource ≡ true → Keeps what g i s) run
  decided asked.Turns None resource d = λ s _. used_in_turn (λ t runs. d t (record { part = h; follows = runs })) s
  decided asked.Grants None resource d = λ s _. grants_all (λ t runs. d t (record { part = h; follows = runs })) s
  decided asked.Turns (Some s) resource d = (d.0, λ keeps. not_in_turn s d.0.follows (not_met _ d.1) (keeps resource))
  decided asked.Grants (Some s) resource d = (d.0, λ keeps. not_all_granted s d.0.follows (not_met _ d.1) (keeps resource))

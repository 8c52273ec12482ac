-- Tests that show a written-out shape one of users and resources, with its ranking. For examples.
use Rattle.design_rules.proofs.Prelude.{arith, ◌≡◌, ℕ, ◌+◌, ◌-◌, ◌*◌, ◌<◌, inl, inr, pos, List, [], ◌∷◌, ◌++◌, length, Option, Some, None, Bool, true, false, not, ◌&&◌, cond, nat_eq, refl, sym, ap, subst, ◌∙◌, eq-eqb, IsTrue, cases_Bool, and_from, cond-true, cond-false, has, node_at, node_after, is_possible, end_of, part_at, Shape, link_at, is_end, acceptance_at, RunsTo, UseSets, use_at, Ranking, part_ranks, rank_at, count_in, is_odd, is_held, last_from, IsHolder, holds, KeepUses, acquires, ResourcesRise, top_number, AreResourceRanks}
use Rattle.design_rules.proofs.Holders.{last_more, last_same, odd_more, odd_same}
use Rattle.design_rules.proofs.Checks.{Test, shown, always, never, is_true, is_false, same_truth, same, less, same_rank, both, three, four, when, unless, below, below_passes, members, within, steps, accepted, observed, next_parity, parity_told, parts_shared}
use Rattle.design_rules.proofs.RankCheck.{parts_fit, vertices, others_zero, no_laps}
use Rattle.design_rules.proofs.Accepting.{each_set}

-- ---- whether there was an odd number of shared events, and the last of them if so

abbrev held_with : List ℕ → List ℕ → Bool × Option ℕ
held_with V s = (is_odd (count_in V s), cond (is_odd (count_in V s)) (last_from None V s) None)

abbrev next_held : List ℕ → Bool × Option ℕ → ℕ → Bool × Option ℕ
next_held V o e = cond (has V e) (not o.0, cond o.0 None (Some e)) o

held_goes_on : (V u : List ℕ) (e : ℕ) → held_with V (u ++ e ∷ []) ≡ next_held V (held_with V u) e
held_goes_on V u e = grind (arith, odd_more V u e, odd_same V u e, last_more V u e, last_same V u e)

abbrev is_some : Option ℕ → Bool
is_some (Some x) = true
is_some None = false

abbrev same_option : (x y : Option ℕ) → Test (x ≡ y)
same_option None None = shown always (λ _. refl)
same_option (Some x) (Some y) = shown (same x y) (ap Some)
same_option _ _ = shown never (λ h. absurd h)

-- with what a resource is held, by its node
abbrev told_held : Option ℕ → Bool × Option ℕ
told_held o = (is_some o, o)

abbrev same_held : (x : Bool × Option ℕ) (y : Option ℕ) → Test (x ≡ told_held y)
same_held x y = shown (both (same_truth x.0 (is_some y)) (same_option x.1 y)) (λ h. λ i. (h.0 i, h.1 i))

-- ---- the rule

abbrev holder_on : Shape → ℕ → ℕ → Option ℕ → Bool
holder_on shape i l (Some x) = is_end shape i l && has (link_at shape l).shared x
holder_on shape i l None = false

-- each resource, each user
abbrev resources : {P : ℕ → Type 0} (shape : Shape) (uses : List UseSets) → ((i : ℕ) → Test (P i)) → Test ((i : ℕ) → i < length shape.parts → (use_at uses i).resource ≡ true → P i)
resources shape uses p = below (length shape.parts) (λ i. when (use_at uses i).resource (p i))

abbrev users : {P : ℕ → Type 0} (shape : Shape) (uses : List UseSets) → ((i : ℕ) → Test (P i)) → Test ((i : ℕ) → i < length shape.parts → (use_at uses i).resource ≡ false → P i)
users shape uses p = below (length shape.parts) (λ i. unless (use_at uses i).resource (p i))

-- Node by node it is told with which event a resource is held, and which links of a user have had an odd number of events.
pub record UsesTold (shape : Shape) (uses : List UseSets) (held : ℕ → ℕ → Option ℕ) (parity : ℕ → ℕ → ℕ → Bool) : Type 0 where
  pub held_start : (i : ℕ) → i < length shape.parts → (use_at uses i).resource ≡ true → held_with shape.vocabulary [] ≡ told_held (held i 0)
  pub held_steps : (i : ℕ) → i < length shape.parts → (use_at uses i).resource ≡ true → (n e : ℕ) → is_possible (node_at (part_at shape.parts i).table n).next e ≡ true → next_held shape.vocabulary (told_held (held i n)) e ≡ told_held (held i (node_after (part_at shape.parts i).table n e))
  pub parity_start : (i : ℕ) → i < length shape.parts → (use_at uses i).resource ≡ false → (l : ℕ) → l < length shape.links → false ≡ parity i l 0
  pub parity_steps : (i : ℕ) → i < length shape.parts → (use_at uses i).resource ≡ false → (l : ℕ) → l < length shape.links → (n e : ℕ) → is_possible (node_at (part_at shape.parts i).table n).next e ≡ true → next_parity (link_at shape l).shared (parity i l n) e ≡ parity i l (node_after (part_at shape.parts i).table n e)

abbrev pub uses_told : (shape : Shape) (uses : List UseSets) (held : ℕ → ℕ → Option ℕ) (parity : ℕ → ℕ → ℕ → Bool) → Test (UsesTold shape uses held parity)
uses_told shape uses held parity =
    shown
    (four
    (resources shape uses (λ i. same_held (held_with shape.vocabulary []) (held i 0)))
    (resources shape uses (λ i. steps (part_at shape.parts i).table (λ n e t. same_held (next_held shape.vocabulary (told_held (held i n)) e) (held i t))))
    (users shape uses (λ i. below (length shape.links) (λ l. same_truth false (parity i l 0))))
    (users shape uses (λ i. below (length shape.links) (λ l. steps (part_at shape.parts i).table (λ n e t. same_truth (next_parity (link_at shape l).shared (parity i l n) e) (parity i l t))))))
    (λ h. record { held_start = h.0; held_steps = h.1; parity_start = h.2; parity_steps = h.3 })

module _ (shape : Shape) (uses : List UseSets) (held : ℕ → ℕ → Option ℕ) (parity : ℕ → ℕ → ℕ → Bool) (c : UsesTold shape uses held parity) where
  pub held_told : (i : ℕ) (s : List ℕ) → (use_at uses i).resource ≡ true → RunsTo shape i s → held_with shape.vocabulary s ≡ told_held (held i (end_of (part_at shape.parts i).table 0 s))
  held_told i s r runs =
      observed (part_at shape.parts i).table (held_with shape.vocabulary) (next_held shape.vocabulary) (λ n. told_held (held i n))
      (record { start = c.held_start i runs.part r; goes_on = held_goes_on shape.vocabulary; steps = c.held_steps i runs.part r })
      s runs.follows

  pub is_held_told : (i : ℕ) (s : List ℕ) → (use_at uses i).resource ≡ true → RunsTo shape i s → is_held shape s ≡ is_some (held i (end_of (part_at shape.parts i).table 0 s))
  is_held_told i s r runs = ap (λ (o : Bool × Option ℕ). o.0) (held_told i s r runs)

  -- the holder's link is told
  pub holder_told : (i l : ℕ) (s : List ℕ) → (use_at uses i).resource ≡ true → RunsTo shape i s → is_held shape s ≡ true → IsHolder shape i s l → holder_on shape i l (held i (end_of (part_at shape.parts i).table 0 s)) ≡ true
  holder_told i l s r runs odd h =
      ap (λ (o : Bool × Option ℕ). holder_on shape i l o.1) (sym (held_told i s r runs))
      ∙ ap (holder_on shape i l) (cond-true (is_held shape s) (last_from None shape.vocabulary s) None odd ∙ h.last) ∙ and_from _ _ h.end h.on

  pub holds_told : (i l : ℕ) (s : List ℕ) → (use_at uses i).resource ≡ false → l < length shape.links → RunsTo shape i s → holds shape l s ≡ parity i l (end_of (part_at shape.parts i).table 0 s)
  holds_told i l s u h runs = parity_told (part_at shape.parts i).table (link_at shape l).shared (parity i l) (c.parity_start i runs.part u l h) (c.parity_steps i runs.part u l h) s runs.follows

abbrev turn_test : (shape : Shape) (uses : List UseSets) (parity : ℕ → ℕ → ℕ → Bool) (i l j : ℕ)
    → Test ((n e : ℕ) → is_possible (node_at (part_at shape.parts i).table n).next e ≡ true → has (link_at shape l).shared e ≡ true → cond (parity i l n) (has (use_at uses j).release e) (has (use_at uses j).acquire e) ≡ true)
turn_test shape uses parity i l j = steps (part_at shape.parts i).table (λ n e t. when (has (link_at shape l).shared e) (is_true (cond (parity i l n) (has (use_at uses j).release e) (has (use_at uses j).acquire e))))

abbrev pub keep_uses : (shape : Shape) (uses : List UseSets) (held : ℕ → ℕ → Option ℕ) (parity : ℕ → ℕ → ℕ → Bool) → UsesTold shape uses held parity → Test (KeepUses shape uses)
keep_uses shape uses held parity c =
    shown
    (three
    (both
    (below (length shape.links) (λ l. same_truth (use_at uses (link_at shape l).left).resource (not (use_at uses (link_at shape l).right).resource)))
    (resources shape uses (λ i. parts_shared shape i ((use_at uses i).acquire ∷ (use_at uses i).release ∷ []))))
    (four
    (resources shape uses (λ i. steps (part_at shape.parts i).table (λ n e t. when (has shape.vocabulary e) (is_true (cond (is_some (held i n)) (has (use_at uses i).release e) (has (use_at uses i).acquire e))))))
    (resources shape uses (λ i. below (length shape.links) (λ l. steps (part_at shape.parts i).table (λ n e t. when (holder_on shape i l (held i n)) (when (has shape.vocabulary e) (is_true (has (link_at shape l).shared e)))))))
    (resources shape uses (λ i. accepted (part_at shape.parts i).table (λ n M. unless (is_some (held i n)) (within (use_at uses i).acquire M))))
    (resources shape uses (λ i. below (length shape.links) (λ l. accepted (part_at shape.parts i).table (λ n M. when (holder_on shape i l (held i n)) (members (use_at uses i).release (λ e. when (has (link_at shape l).shared e) (is_true (has M e)))))))))
    (users shape uses (λ i. below (length shape.links) (λ l. both (when (nat_eq (link_at shape l).left i) (turn_test shape uses parity i l (link_at shape l).right)) (when (nat_eq (link_at shape l).right i) (turn_test shape uses parity i l (link_at shape l).left))))))
    (λ h. record {
      kinds = record { linked = h.0.0; parted = h.0.1 };
      used = λ i s r. record {
        turn = λ e possible v.
            ap (λ b. cond b (has (use_at uses i).release e) (has (use_at uses i).acquire e)) (is_held_told shape uses held parity c i s r possible.runs)
            ∙ h.1.0 i possible.runs.part r (end_of (part_at shape.parts i).table 0 s) e possible.next v;
        by_holder = λ l e possible v odd x. h.1.1 i possible.runs.part r l x.within (end_of (part_at shape.parts i).table 0 s) e possible.next (holder_told shape uses held parity c i l s r possible.runs odd x) v;
      };
      grants = λ i s r. record {
        when_free = λ M b even e m. each_set shape i s (λ N. IsTrue (has N e)) (λ k a.
            h.1.2 i a.runs.part r (end_of (part_at shape.parts i).table 0 s) k a.listed (sym (is_held_told shape uses held parity c i s r a.runs) ∙ even) e m) M b;
        when_held = λ l M e b odd x m on. each_set shape i s (λ N. IsTrue (has N e)) (λ k a.
            h.1.3 i a.runs.part r l x.within (end_of (part_at shape.parts i).table 0 s) k a.listed (holder_told shape uses held parity c i l s r a.runs odd x) e m on) M b;
      };
      turns = λ i s u j l e joins possible on.
          let n = end_of (part_at shape.parts i).table 0 s in
          let both' = h.2 i possible.runs.part u l joins.within in
          ap (λ b. cond b (has (use_at uses j).release e) (has (use_at uses j).acquire e)) (holds_told shape uses held parity c i l s u joins.within possible.runs)
          ∙ elim joins.ends [
            | inl x ↦ subst (λ p. cond (parity i l n) (has (use_at uses p).release e) (has (use_at uses p).acquire e) ≡ true) x.1 (both'.0 (eq-eqb _ _ x.0) n e possible.next on)
            | inr x ↦ subst (λ p. cond (parity i l n) (has (use_at uses p).release e) (has (use_at uses p).acquire e) ≡ true) x.0 (both'.1 (eq-eqb _ _ x.1) n e possible.next on)
          ];
    })

-- ---- the order of resources

-- what a user acquires is numbered above what it holds at either end of its links
abbrev pub rises : (shape : Shape) (uses : List UseSets) (number : ℕ → ℕ) (held : ℕ → ℕ → Option ℕ) (parity : ℕ → ℕ → ℕ → Bool) → UsesTold shape uses held parity → Test (ResourcesRise shape uses number)
rises shape uses number held parity c =
    shown
    (users shape uses (λ i. below (length shape.links) (λ l. below (length shape.parts) (λ j. accepted (part_at shape.parts i).table (λ n M. when (acquires uses M j && parity i l n)
    (both (when (nat_eq (link_at shape l).left i) (less (number (link_at shape l).right) (number j))) (when (nat_eq (link_at shape l).right i) (less (number (link_at shape l).left) (number j)))))))))
    (λ h m j x.
    let a = x.accepts.at in
    let acquired = subst (λ N. IsTrue (acquires uses N j)) (sym x.accepts.is) x.acquiring in
    let p = h x.user a.runs.part x.is_user x.link x.joins.within j x.within (end_of (part_at shape.parts x.user).table 0 x.run) x.accepts.place a.listed
    (and_from _ _ acquired (sym (holds_told shape uses held parity c x.user x.link x.run x.is_user x.joins.within a.runs) ∙ x.holding)) in
    elim x.joins.ends [
      | inl e ↦ subst (λ k. number k < number j) e.1 (p.0 (eq-eqb _ _ e.0))
      | inr e ↦ subst (λ k. number k < number j) e.0 (p.1 (eq-eqb _ _ e.1))
    ])

-- ---- the ranking

-- A user's acceptance acquires one resource at most.
abbrev pub use_ranks : (shape : Shape) (uses : List UseSets) (number : ℕ → ℕ) (top : ℕ) (held : ℕ → ℕ → Option ℕ) (parity : ℕ → ℕ → ℕ → Bool) (ranking : Ranking) → UsesTold shape uses held parity → Test (AreResourceRanks shape uses number top ranking)
use_ranks shape uses number top held parity ranking c =
    let ranks = λ (i n k r : ℕ). same_rank (rank_at (part_ranks ranking i).ranks n k) (pos r) in
    shown
    (three
    (four (parts_fit shape.parts ranking.parts) (others_zero shape ranking) (same_rank ranking.scale (pos 0)) (no_laps shape ranking (λ e. false)))
    (three
    (same top (top_number uses number (length shape.parts)))
    (vertices shape (λ i n k. when (use_at uses i).resource (unless (is_some (held i n)) (ranks i n k (2 * top + 2)))))
    (vertices shape (λ i n k. when (use_at uses i).resource (when (is_some (held i n)) (ranks i n k (2 * (top - number i) + 1))))))
    (both
    (below (length shape.parts) (λ j. vertices shape (λ i n k. unless (use_at uses i).resource (when (acquires uses (acceptance_at (part_at shape.parts i) n k) j) (ranks i n k (2 * (top - number j) + 2))))))
    (vertices shape (λ i n k. unless (use_at uses i).resource (when (below (length shape.parts) (λ m. is_false (acquires uses (acceptance_at (part_at shape.parts i) n k) m))).passes (ranks i n k 0))))))
    (λ h. record {
      greatest = h.1.0;
      fits = h.0.0;
      scale = h.0.2;
      free = λ i s k r a even. h.1.1 i (end_of (part_at shape.parts i).table 0 s) k a.accepts.runs.part a.accepts.listed r (sym (is_held_told shape uses held parity c i s r a.accepts.runs) ∙ even);
      held = λ i s k r a odd. h.1.2 i (end_of (part_at shape.parts i).table 0 s) k a.accepts.runs.part a.accepts.listed r (sym (is_held_told shape uses held parity c i s r a.accepts.runs) ∙ odd);
      acquiring = λ i s k j u a here m least. h.2.0 j here i (end_of (part_at shape.parts i).table 0 s) k a.accepts.runs.part a.accepts.listed u m;
      not_acquiring = λ i s k u a nothing. h.2.1 i (end_of (part_at shape.parts i).table 0 s) k a.accepts.runs.part a.accepts.listed u (below_passes (length shape.parts) _ (λ m here. ap not (nothing m here)));
      others = h.0.1 h.0.0;
      laps = λ i n e here. h.0.3 i n e here refl;
    })

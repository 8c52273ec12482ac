-- From what holds at the pairs of an exploration to what holds after runs, and from links to parts.
use Rattle.client_server_conditions.proofs.Prelude.{◌≡◌, ℕ, ◌<◌, ◌≤◌, ◌+◌, List, [], ◌∷◌, Bool, true, false, not, ◌&&◌, Option, Some, None, length, refl, sym, ap, subst, ◌∙◌, arith, inl, inr, ◌⊎◌, IsTrue, list_any, and_parts, both_ways, cases_Bool, false≢true, cond-true, cond-false, and_from, not-true, has, node_at, end_of, part_at, sharers, AreApart, IsWithin, Shape, link_at, IsWellFormed, RoleSets, RunsTo, role_at, count_in, is_odd, has_acknowledgements, is_open, BreaksRoles, turned, first_end, link_within, link_shared, observed, parity_step, off_link, IsDecided, Network, IsLinked, Asks, Grants, splits, keeps, AreAcknowledgements, IsOnSide, Keeps, KeepsOn, KeepsLinks, KeepsWhole, is_asked_of, is_open_at, node_in, node_to, KeepLesser, condition_of, RunCondition, Turns, Service, Answers}
use Rattle.design_rules.proofs.Accepting.{at_place, each_set}
use Rattle.shape_links.proofs.Deciding.{decided_alike}
use Rattle.client_server_conditions.proofs.Keeping.{keeps_at, passes}
use Rattle.client_server_conditions.proofs.Looking.{none_splits, one_splits}
use Rattle.client_server_conditions.proofs.Opening.{opened_is, HasSide}

-- ---- decisions

module _ (network : Network) (i : ℕ) (run : Option (List ℕ)) where
  -- on a link, by a test of nodes in the parity of the link's events
  module _ (condition : RunCondition) (l : ℕ) (acknowledgements : List ℕ) (acknowledged : Bool) where
    abbrev Kept : Shape → ℕ → List ℕ → List ℕ → RoleSets → Type 0
    Kept shape k events shared roles =
        IsDecided shape k (λ s. keeps condition shape.vocabulary shared roles acknowledgements (node_at (part_at shape.parts k).table (end_of (part_at shape.parts k).table 0 s)) (is_open_at acknowledged (observed (parity_step events) 0 s)) ≡ true) run

    pub decided_on : (shape : Shape) (k : ℕ) (events shared : List ℕ) (roles : RoleSets) → shape ≡ network.shape → k ≡ i → events ≡ (link_at network.shape l).shared → shared ≡ (link_at network.shape l).shared → roles ≡ role_at network.roles i → IsOnSide network condition i l → AreAcknowledgements network i l acknowledgements → acknowledged ≡ has_acknowledgements network.shape network.roles l → Kept shape k events shared roles → IsDecided network.shape i (KeepsOn network condition i l) run
    decided_on shape k events shared roles shape_is k_is events_is shared_is roles_is side are is kept =
        let S = (link_at network.shape l).shared in
        let there : Kept network.shape i S S (role_at network.roles i) =
        subst (Kept network.shape i S S) roles_is (subst (λ (x : List ℕ). Kept network.shape i S x roles) shared_is (subst (λ (x : List ℕ). Kept network.shape i x shared roles) events_is
        (subst (λ (n : ℕ). Kept network.shape n events shared roles) k_is (subst (λ (x : Shape). Kept x k events shared roles) shape_is kept)))) in
        let opened = λ (s : List ℕ). opened_is network l s acknowledged is in
        decided_alike network.shape i _ (KeepsOn network condition i l) run
        (λ s runs test _. keeps_at network i l (node_to network i s) (is_open network.shape network.roles l s) condition acknowledgements side are
        (subst (λ o. keeps condition network.shape.vocabulary S (role_at network.roles i) acknowledgements (node_in network i (node_to network i s)) o ≡ true) (opened s) test))
        (λ s runs keep. subst (λ o. keeps condition network.shape.vocabulary S (role_at network.roles i) acknowledgements (node_in network i (node_to network i s)) o ≡ true) (sym (opened s))
        (passes network i l (node_to network i s) (is_open network.shape network.roles l s) condition acknowledgements side are (keep runs)))
        there

  -- whatever the link
  abbrev KeptWhole : Shape → ℕ → List ℕ → Type 0
  KeptWhole shape k requests = IsDecided shape k (λ s. not (list_any (splits shape.vocabulary requests) (node_at (part_at shape.parts k).table (end_of (part_at shape.parts k).table 0 s)).accept) ≡ true) run

  pub decided_whole : (shape : Shape) (k : ℕ) (requests : List ℕ) → shape ≡ network.shape → k ≡ i → requests ≡ (role_at network.roles i).sreq → KeptWhole shape k requests → IsDecided network.shape i (KeepsWhole network Service i) run
  decided_whole shape k requests shape_is k_is requests_is kept =
      let R = (role_at network.roles i).sreq in
      let there : KeptWhole network.shape i R = subst (KeptWhole network.shape i) requests_is (subst (λ (n : ℕ). KeptWhole network.shape n requests) k_is (subst (λ (x : Shape). KeptWhole x k requests) shape_is kept)) in
      decided_alike network.shape i _ (KeepsWhole network Service i) run
      (λ s runs test _. none_splits network.shape.vocabulary R (node_in network i (node_to network i s)).accept (not-true _ test))
      (λ s runs keep. elim (cases_Bool (list_any (splits network.shape.vocabulary R) (node_in network i (node_to network i s)).accept)) [
        | inl some ↦ absurd (one_splits network.shape.vocabulary R (node_in network i (node_to network i s)).accept some (keep runs))
        | inr none ↦ ap not none
      ])
      there

-- an event that is not shared is not on the link
pub unseen : (network : Network) (l : ℕ) (shape : Shape) (shared : List ℕ) → IsWellFormed network.shape → l < length network.shape.links → shape ≡ network.shape → shared ≡ (link_at network.shape l).shared → (e : ℕ) → has shape.vocabulary e ≡ false → has shared e ≡ false
unseen network l shape shared w h shape_is shared_is e out = ap (λ (xs : List ℕ). has xs e) shared_is ∙ off_link network.shape l e w h (ap (λ (s : Shape). has s.vocabulary e) (sym shape_is) ∙ out)

-- ---- ends of which nothing is asked

none_of : (A B C D : List ℕ) (e : ℕ) → has A e ≡ false → has B e ≡ false → has C e ≡ false → has D e ≡ false → sharers (A ∷ B ∷ C ∷ D ∷ []) e ≡ 0
none_of A B C D e a b c d =
    cond-false (has A e) (sharers (B ∷ C ∷ D ∷ []) e + 1) (sharers (B ∷ C ∷ D ∷ []) e) a
    ∙ cond-false (has B e) (sharers (C ∷ D ∷ []) e + 1) (sharers (C ∷ D ∷ []) e) b
    ∙ cond-false (has C e) (sharers (D ∷ []) e + 1) (sharers (D ∷ []) e) c
    ∙ cond-false (has D e) 1 0 d

-- no part is both the client and the server on a link
pub one_side : (network : Network) (i l : ℕ) → IsLinked network → i < length network.shape.parts → Asks network i l → Grants network i l → ⊥
one_side network i l linked h a g =
    let w = linked.form in
    let some = (w.linked.links l a.joins.within).some in
    let own = link_within network.shape i l w a.joins.within (first_end network.shape i a.server l a.joins) some.0 some.1 in
    let shared = link_shared network.shape l w a.joins.within some.0 some.1 in
    let none : sharers ((role_at network.roles i).creq ∷ (role_at network.roles i).cack ∷ (role_at network.roles i).sreq ∷ (role_at network.roles i).sack ∷ []) some.0 ≡ 0 = none_of (role_at network.roles i).creq (role_at network.roles i).cack (role_at network.roles i).sreq (role_at network.roles i).sack some.0 (g.client.no_asking some.0 some.1).0 (g.client.no_asking some.0 some.1).1 (a.client.no_service some.0 some.1).0 (a.client.no_service some.0 some.1).1 in
    let one : sharers ((role_at network.roles i).creq ∷ (role_at network.roles i).cack ∷ (role_at network.roles i).sreq ∷ (role_at network.roles i).sack ∷ []) some.0 ≡ 1 = linked.parted i h some.0 ∙ cond-true (has (part_at network.shape.parts i).alphabet some.0 && has network.shape.vocabulary some.0) 1 0 (and_from (has (part_at network.shape.parts i).alphabet some.0) (has network.shape.vocabulary some.0) own shared) in
    omega arith

closed : (network : Network) (l : ℕ) (s : List ℕ) → has_acknowledgements network.shape network.roles l ≡ false → is_open network.shape network.roles l s ≡ true → ⊥
closed network l s none o = both_ways (has_acknowledgements network.shape network.roles l) none (and_parts (has_acknowledgements network.shape network.roles l) (is_odd (count_in (link_at network.shape l).shared s)) o).0

pub not_asked : (network : Network) (i l : ℕ) (condition : RunCondition) (asks acknowledged : Bool) → IsLinked network → i < length network.shape.parts → HasSide network i l asks → acknowledged ≡ has_acknowledgements network.shape network.roles l → is_asked_of condition asks acknowledged ≡ false → (s : List ℕ) → KeepsOn network condition i l s
not_asked network i l Turns asks acknowledged linked h side is not s runs = absurd (false≢true (sym not))
not_asked network i l Service true acknowledged linked h side is not s runs = λ o g. absurd (one_side network i l linked h (side.client refl) g)
not_asked network i l Service false acknowledged linked h side is not s runs = λ o g. absurd (closed network l s (sym is ∙ not) o)
not_asked network i l Answers true acknowledged linked h side is not s runs = λ o a. absurd (closed network l s (sym is ∙ not) o)
not_asked network i l Answers false acknowledged linked h side is not s runs = λ o a. absurd (one_side network i l linked h a (side.server refl))

-- and of which something is
pub on_side : (network : Network) (i l : ℕ) (condition : RunCondition) (asks acknowledged : Bool) → HasSide network i l asks → is_asked_of condition asks acknowledged ≡ true → IsOnSide network condition i l
on_side network i l Turns asks acknowledged side h = tt
on_side network i l Service true acknowledged side h = absurd (false≢true h)
on_side network i l Service false acknowledged side h = side.server refl
on_side network i l Answers true acknowledged side h = side.client refl
on_side network i l Answers false acknowledged side h = absurd (false≢true h)

-- ---- from links to parts

module _ (network : Network) (i : ℕ) (s : List ℕ) where
  pub keeps_all : (condition : RunCondition) → KeepsWhole network condition i s → KeepsLinks network condition i s → Keeps network condition i s
  keeps_all Turns whole links = λ l e possible on. links l on.within on.end possible.runs e possible.next on.event
  keeps_all Service whole links = record {
    all_or_none = each_set network.shape i s (λ M. IsWithin (role_at network.roles i).sreq M ⊎ AreApart M (role_at network.roles i).sreq) (λ k a. whole a.runs k a.listed a.shared);
    none_while_open = λ j l M set joins client o. each_set network.shape i s (λ N. AreApart N (role_at network.roles i).sreq) (λ k a. links l joins.within (first_end network.shape i j l (turned network.shape j i l joins)) a.runs o (record { asker = j; joins = joins; client = client }) k a.listed a.shared) M set;
  }
  keeps_all Answers whole links = λ j l M e set joins client o on ack. each_set network.shape i s (λ N. IsTrue (has N e)) (λ k a. links l joins.within (first_end network.shape i j l joins) a.runs o (record { server = j; joins = joins; client = client }) k a.listed a.shared e on ack) M set

  pub keeps_links : (condition : RunCondition) → Keeps network condition i s → KeepsLinks network condition i s
  keeps_links Turns keeps = λ l h end runs e possible on. keeps l e (record { runs = runs; next = possible }) (record { within = h; end = end; event = on })
  keeps_links Service keeps = λ l h end runs o g k below within. keeps.none_while_open g.asker l _ (at_place network.shape i s k (record { runs = runs; listed = below; shared = within })) g.joins g.client o
  keeps_links Answers keeps = λ l h end runs o a k below within e on ack. keeps a.server l _ e (at_place network.shape i s k (record { runs = runs; listed = below; shared = within })) a.joins a.client o on ack

  pub keeps_whole : (condition : RunCondition) → Keeps network condition i s → KeepsWhole network condition i s
  keeps_whole Turns keeps = tt
  keeps_whole Service keeps = λ runs k below within. keeps.all_or_none _ (at_place network.shape i s k (record { runs = runs; listed = below; shared = within }))
  keeps_whole Answers keeps = tt

  -- what is asked is asked of runs alone
  pub keeps_by_runs : (condition : RunCondition) → (RunsTo network.shape i s → Keeps network condition i s) → Keeps network condition i s
  keeps_by_runs Turns keep = keeps_all Turns tt (λ l h end runs. keeps_links Turns (keep runs) l h end runs)
  keeps_by_runs Service keep = keeps_all Service (λ runs. keeps_whole Service (keep runs) runs) (λ l h end runs. keeps_links Service (keep runs) l h end runs)
  keeps_by_runs Answers keep = keeps_all Answers tt (λ l h end runs. keeps_links Answers (keep runs) l h end runs)

-- a decision on the links, where nothing else is asked, is one on the part
pub decided_links : (network : Network) (condition : RunCondition) (i : ℕ) (run : Option (List ℕ)) → IsDecided network.shape i (KeepsWhole network condition i) None → IsDecided network.shape i (KeepsLinks network condition i) run → IsDecided network.shape i (Keeps network condition i) run
decided_links network condition i None whole d = λ s runs. keeps_all network i s condition (whole s runs) (d s runs)
decided_links network condition i (Some s) whole d = (d.0, λ keeps. d.1 (keeps_links network i s condition keeps))

-- the parts before n keep the condition
abbrev pub KeepsBelow : Network → RunCondition → ℕ → Type 0
KeepsBelow network condition n = (i : ℕ) (s : List ℕ) → i < n → RunsTo network.shape i s → Keeps network condition i s

pub all_parts : (network : Network) (condition : RunCondition) (n : ℕ) → length network.shape.parts ≤ n → KeepsBelow network condition n → (i : ℕ) (s : List ℕ) → Keeps network condition i s
all_parts network condition n all each i s = keeps_by_runs network i s condition (λ runs. each i s (let h : i < length network.shape.parts = runs.part in omega arith) runs)

-- the first part that breaks the condition, where the lesser ones hold
pub breaks_condition : (network : Network) (condition : RunCondition) (i : ℕ) (s : List ℕ) → IsLinked network → KeepLesser network condition → RunsTo network.shape i s → (Keeps network condition i s → ⊥) → KeepsBelow network condition i → BreaksRoles network.shape network.roles (condition_of condition) i s
breaks_condition network Turns i s linked lesser runs broken first = (record { parted = linked.parted; linked = linked.linked }, record { runs = runs; broken = broken; first = λ j t h. keeps_by_runs network j t Turns (first j t h) })
breaks_condition network Service i s linked lesser runs broken first = (record { parted = linked.parted; linked = linked.linked }, lesser, record { runs = runs; broken = broken; first = λ j t h. keeps_by_runs network j t Service (first j t h) })
breaks_condition network Answers i s linked lesser runs broken first = (record { parted = linked.parted; linked = linked.linked }, lesser.0, lesser.1, record { runs = runs; broken = broken; first = λ j t h. keeps_by_runs network j t Answers (first j t h) })

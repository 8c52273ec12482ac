-- Networks that are alike meet the same rules and break them in the same way: their outlines are the same, and their components behave alike. Each condition
-- is made of traces, possible events and acceptances by "for each" and "there is", so it is carried over part by part; where it stands behind an
-- arrow, it is carried the other way. Of an acceptance the members alone are looked at.
use Rattle.design_rules.proofs.Prelude.{◌≡◌, ℕ, ◌<◌, inl, inr, ◌⊎◌, List, cond, IsTrue, sym, ap, subst, ◌∙◌, and_parts, and_from, list_any, has, any_of, any_member, Shape, link_at, RoleSets, UseSets, use_at, same_least_circle, SameOutline, Agree, Behaviours, place_after, CanBeNumbered, FallsShort, IsFullEnd, IsNumberedCyclic, is_acknowledgement, is_request, TakesTurns, ServesAll, TakesAnswers, Serves, acquires, CanBeOrdered, KeepsHolder, KeepsGrants, KeepsTurns, IsFirstBroken, MeetsRule, BreaksRule, NotedRule, Cyclic, ClientServer, Resource, RuleFault, NoOrder, NoWholeEnd, Broken, LinksCircle, ClientsCircle, ResourcesCircle}
use Rattle.design_rules.specs.CyclicRule.{ReachesLink, KeepsPlaces, AllKeepPlaces, MustPrecede, IsWholeEnd, HasWholeEnd}
use Rattle.design_rules.specs.CyclicRuleFaults.{BreaksOrder}
use Rattle.design_rules.specs.ClientServerRule.{KeepRoles}
use Rattle.design_rules.specs.ResourceRule.{KeepUses, IsHeldWhile}
use Rattle.design_rules.specs.declared.condition.Condition.TheVariants as condition
use Rattle.design_rules.proofs.Outlines.{turned_outline, on_links, on_parts, same_end, same_ends, all_ends, is_on, of_ends, joins, same_place_after, same_place, is_next, clash, client_on, same_open, same_held, same_holds, holder, have_clients, lacks_roles, lacks_client, no_circle, serves, have_kinds, lacks_kind}

-- a network as a rule sees it: its outline, and what its components do
pub record Seen : Type 1 where
  pub shape : Shape
  pub does : Behaviours

pub record Alike (x y : Seen) : Type 0 where
  pub outline : SameOutline x.shape y.shape
  pub agree : Agree x.does y.does

pub turned : (x y : Seen) → Alike x y → Alike y x
turned x y a = record {
  outline = turned_outline x.shape y.shape a.outline;
  agree = record {
    traces = λ i s. ((a.agree.traces i s).1, (a.agree.traces i s).0);
    possible = λ i s e. ((a.agree.possible i s e).1, (a.agree.possible i s e).0);
    accepted = a.agree.accepts;
    accepts = a.agree.accepted;
  };
}

-- ---- the cyclic rule

reaches : (x y : Seen) → Alike x y → (i l : ℕ) (s : List ℕ) (e : ℕ) → ReachesLink x.shape x.does i l s e → ReachesLink y.shape y.does i l s e
reaches x y a i l s e h = record { possible = (a.agree.possible i s e).0 h.possible; on = is_on x.shape y.shape a.outline i l e h.on }

breaks_order : (x y : Seen) → Alike x y → (i : ℕ) (s : List ℕ) (e : ℕ) → BreaksOrder x.shape x.does i s e → BreaksOrder y.shape y.does i s e
breaks_order x y a i s e h = record {
  link = h.link;
  reaches = reaches x y a i h.link s e h.reaches;
  other_run = h.other_run;
  other_event = h.other_event;
  other_link = h.other_link;
  other_reaches = reaches x y a i h.other_link h.other_run h.other_event h.other_reaches;
  not_longer = h.not_longer;
  clash = clash x.shape y.shape a.outline i h.link s h.other_link h.other_run h.clash;
}

keeps_places : (x y : Seen) → Alike x y → (i : ℕ) → KeepsPlaces x.shape x.does i → KeepsPlaces y.shape y.does i
keeps_places x y a i keeps l m s t e f p q =
    let back = turned x y a in
    let k = keeps l m s t e f (reaches y x back i l s e p) (reaches y x back i m t f q) in
    (λ same. same_place x.shape y.shape a.outline i s t (k.0 same), λ place. k.1 (same_place y.shape x.shape back.outline i s t place))

all_keep_places : (x y : Seen) → Alike x y → AllKeepPlaces x.shape x.does → AllKeepPlaces y.shape y.does
all_keep_places x y a keeps i h = keeps_places x y a i (keeps i (on_parts y.shape x.shape (turned_outline x.shape y.shape a.outline) i h))

pub must_precede : (x y : Seen) → Alike x y → (l m : ℕ) → MustPrecede x.shape x.does l m → MustPrecede y.shape y.does l m
must_precede x y a l m h =
    let o = a.outline in
    record {
      part = h.part;
      run = h.run;
      event = h.event;
      reaches = reaches x y a h.part l h.run h.event h.reaches;
      within = on_links x.shape y.shape o m h.within;
      end = sym (same_end x.shape y.shape o h.part m) ∙ h.end;
      later = λ s e r.
          let less : place_after x.shape h.run < place_after x.shape s = h.later s e (reaches y x (turned x y a) h.part m s e r) in
          subst (λ n. n < place_after y.shape s) (same_place_after x.shape y.shape o h.run) (subst (λ n. place_after x.shape h.run < n) (same_place_after x.shape y.shape o s) less);
    }

can_be_numbered : (x y : Seen) → Alike x y → CanBeNumbered x.shape x.does → CanBeNumbered y.shape y.does
can_be_numbered x y a h = record { number = h.number; rise = λ l m p. h.rise l m (must_precede y x (turned x y a) l m p) }

falls_short : (x y : Seen) → Alike x y → (l i : ℕ) (s : List ℕ) → FallsShort x.shape x.does l i s → FallsShort y.shape y.does l i s
falls_short x y a l i s h =
    let z = a.agree.accepted i s h.acceptance h.accepts in
    record {
      acceptance = z.set;
      accepts = z.accepts;
      meets = record { event = h.meets.event; first = z.members h.meets.event ∙ h.meets.first; second = sym (a.outline.shared l h.meets.event) ∙ h.meets.second };
      missing = h.missing;
      on = sym (a.outline.shared l h.missing) ∙ h.on;
      lacks = z.members h.missing ∙ h.lacks;
    }

whole_end : (x y : Seen) → Alike x y → (l i : ℕ) → IsWholeEnd x.shape x.does l i → IsWholeEnd y.shape y.does l i
whole_end x y a l i whole s h = whole s (falls_short y x (turned x y a) l i s h)

has_whole_end : (x y : Seen) → Alike x y → (l : ℕ) → HasWholeEnd x.shape x.does l → HasWholeEnd y.shape y.does l
has_whole_end x y a l h = of_ends x.shape y.shape a.outline l (λ i j. IsWholeEnd y.shape y.does l i ⊎ IsWholeEnd y.shape y.does l j) (elim h [
  | inl left ↦ inl (whole_end x y a l (link_at x.shape l).left left)
  | inr right ↦ inr (whole_end x y a l (link_at x.shape l).right right)
])

full_end : (x y : Seen) → Alike x y → (number : ℕ → ℕ) (l i : ℕ) → IsFullEnd x.shape x.does number l i → IsFullEnd y.shape y.does number l i
full_end x y a number l i full s M accepts next e on =
    let z = a.agree.accepts i s M accepts in
    sym (z.members e) ∙ full s z.set z.accepts (is_next y.shape x.shape (turned x y a).outline number i s l next) e (a.outline.shared l e ∙ on)

pub is_numbered : (x y : Seen) → Alike x y → IsNumberedCyclic x.shape x.does → IsNumberedCyclic y.shape y.does
is_numbered x y a h =
    let o = a.outline in
    let back = (turned x y a).outline in
    record {
      number = h.number;
      differ = λ i l m below other end other_end. h.differ i l m (on_links y.shape x.shape back l below) (on_links y.shape x.shape back m other) (same_end x.shape y.shape o i l ∙ end) (same_end x.shape y.shape o i m ∙ other_end);
      order = λ i l s e possible on. is_next x.shape y.shape o h.number i s l (h.order i l s e ((a.agree.possible i s e).1 possible) (is_on y.shape x.shape back i l e on));
      full = λ l below. of_ends x.shape y.shape o l (λ i j. IsFullEnd y.shape y.does h.number l i ⊎ IsFullEnd y.shape y.does h.number l j) (elim (h.full l (on_links y.shape x.shape back l below)) [
        | inl left ↦ inl (full_end x y a h.number l (link_at x.shape l).left left)
        | inr right ↦ inr (full_end x y a h.number l (link_at x.shape l).right right)
      ]);
    }

-- ---- components that break what is asked of each

first_broken : (b c : Behaviours) → Agree b c → (F G : ℕ → List ℕ → Type 0) → ((i : ℕ) (s : List ℕ) → F i s → G i s) → ((i : ℕ) (s : List ℕ) → G i s → F i s)
    → (i : ℕ) (s : List ℕ) → IsFirstBroken b F i s → IsFirstBroken c G i s
first_broken b c a F G f g i s h = record { runs = (a.traces i s).0 h.runs; broken = λ kept. h.broken (g i s kept); first = λ j t less. f j t (h.first j t less) }

-- ---- the rule of clients and servers

module _ (roles : List RoleSets) where
  takes_turns : (x y : Seen) → Alike x y → (i : ℕ) (s : List ℕ) → TakesTurns x.shape x.does roles i s → TakesTurns y.shape y.does roles i s
  takes_turns x y a i s h l e possible on =
      sym (ap (λ b. cond b (is_acknowledgement roles i e) (is_request roles i e)) (same_open x.shape y.shape a.outline roles l s))
      ∙ h l e ((a.agree.possible i s e).1 possible) (is_on y.shape x.shape (turned_outline x.shape y.shape a.outline) i l e on)

  serves_all : (x y : Seen) → Alike x y → (i : ℕ) (s : List ℕ) → ServesAll x.shape x.does roles i s → ServesAll y.shape y.does roles i s
  serves_all x y a i s h =
      let back = turned_outline x.shape y.shape a.outline in
      record {
        all_or_none = λ M accepts.
            let z = a.agree.accepts i s M accepts in
            elim (h.all_or_none z.set z.accepts) [
              | inl all ↦ inl (λ e asked. sym (z.members e) ∙ all e asked)
              | inr none' ↦ inr (λ e there asked. none' e (z.members e ∙ there) asked)
            ];
        none_while_open = λ j l M accepts joined client is.
            let z = a.agree.accepts i s M accepts in
            λ e there asked.
            h.none_while_open j l z.set z.accepts (joins y.shape x.shape back j i l joined) (client_on y.shape x.shape back roles l j i client)
            (same_open x.shape y.shape a.outline roles l s ∙ is) e (z.members e ∙ there) asked;
      }

  takes_answers : (x y : Seen) → Alike x y → (i : ℕ) (s : List ℕ) → TakesAnswers x.shape x.does roles i s → TakesAnswers y.shape y.does roles i s
  takes_answers x y a i s h j l M e accepts joined client is on asks =
      let back = turned_outline x.shape y.shape a.outline in
      let z = a.agree.accepts i s M accepts in
      sym (z.members e)
      ∙ h j l z.set e z.accepts (joins y.shape x.shape back i j l joined) (client_on y.shape x.shape back roles l i j client) (same_open x.shape y.shape a.outline roles l s ∙ is)
      (a.outline.shared l e ∙ on) asks

  keep_roles : (x y : Seen) → Alike x y → KeepRoles x.shape x.does roles → KeepRoles y.shape y.does roles
  keep_roles x y a h =
      let clients = have_clients x.shape y.shape a.outline roles (record { parted = h.parted; linked = h.linked }) in
      record {
        parted = clients.parted;
        linked = clients.linked;
        turns = λ i s. takes_turns x y a i s (h.turns i s);
        serving = λ i s. serves_all x y a i s (h.serving i s);
        answers = λ i s. takes_answers x y a i s (h.answers i s);
      }

-- ---- the rule of users and resources

-- a set with the same members acquires the same resources
pub acquires_same : (uses : List UseSets) (M N : List ℕ) (j : ℕ) → ((e : ℕ) → has N e ≡ has M e) → IsTrue (acquires uses M j) → IsTrue (acquires uses N j)
acquires_same uses M N j members h =
    let p = and_parts (use_at uses j).resource (list_any (λ e. has (use_at uses j).acquire e) M) h in
    let e = any_member (λ e. has (use_at uses j).acquire e) M p.1 in
    and_from (use_at uses j).resource (list_any (λ e. has (use_at uses j).acquire e) N) p.0 (any_of (λ e. has (use_at uses j).acquire e) N e.0 (members e.0 ∙ e.1) e.2)

module _ (uses : List UseSets) where
  keeps_holder : (x y : Seen) → Alike x y → (i : ℕ) (s : List ℕ) → KeepsHolder x.shape x.does uses i s → KeepsHolder y.shape y.does uses i s
  keeps_holder x y a i s keeps resource =
      let o = a.outline in
      let h = keeps resource in
      record {
        turn = λ e possible v.
            sym (ap (λ b. cond b (has (use_at uses i).release e) (has (use_at uses i).acquire e)) (same_held x.shape y.shape o s))
            ∙ h.turn e ((a.agree.possible i s e).1 possible) (o.vocabulary e ∙ v);
        by_holder = λ l e possible v held by.
            sym (o.shared l e)
            ∙ h.by_holder l e ((a.agree.possible i s e).1 possible) (o.vocabulary e ∙ v) (same_held x.shape y.shape o s ∙ held) (holder y.shape x.shape (turned_outline x.shape y.shape o) i s l by);
      }

  keeps_grants : (x y : Seen) → Alike x y → (i : ℕ) (s : List ℕ) → KeepsGrants x.shape x.does uses i s → KeepsGrants y.shape y.does uses i s
  keeps_grants x y a i s keeps resource =
      let o = a.outline in
      let h = keeps resource in
      record {
        when_free = λ M accepts free.
            let z = a.agree.accepts i s M accepts in
            λ e asked. sym (z.members e) ∙ h.when_free z.set z.accepts (same_held x.shape y.shape o s ∙ free) e asked;
        when_held = λ l M e accepts held by release on.
            let z = a.agree.accepts i s M accepts in
            sym (z.members e)
            ∙ h.when_held l z.set e z.accepts (same_held x.shape y.shape o s ∙ held) (holder y.shape x.shape (turned_outline x.shape y.shape o) i s l by) release (o.shared l e ∙ on);
      }

  keeps_turns : (x y : Seen) → Alike x y → (i : ℕ) (s : List ℕ) → KeepsTurns x.shape x.does uses i s → KeepsTurns y.shape y.does uses i s
  keeps_turns x y a i s h user j l e joined possible on =
      let o = a.outline in
      sym (ap (λ b. cond b (has (use_at uses j).release e) (has (use_at uses j).acquire e)) (same_holds x.shape y.shape o l s))
      ∙ h user j l e (joins y.shape x.shape (turned_outline x.shape y.shape o) i j l joined) ((a.agree.possible i s e).1 possible) (o.shared l e ∙ on)

  keep_uses : (x y : Seen) → Alike x y → KeepUses x.shape x.does uses → KeepUses y.shape y.does uses
  keep_uses x y a h = record {
    kinds = have_kinds x.shape y.shape a.outline uses h.kinds;
    used = λ i s. keeps_holder x y a i s (h.used i s);
    grants = λ i s. keeps_grants x y a i s (h.grants i s);
    turns = λ i s. keeps_turns x y a i s (h.turns i s);
  }

  pub held_while : (x y : Seen) → Alike x y → (m j : ℕ) → IsHeldWhile x.shape x.does uses m j → IsHeldWhile y.shape y.does uses m j
  held_while x y a m j h =
      let o = a.outline in
      let z = a.agree.accepted h.user h.run h.acceptance h.accepts in
      record {
        user = h.user;
        link = h.link;
        run = h.run;
        acceptance = z.set;
        is_user = h.is_user;
        accepts = z.accepts;
        within = on_parts x.shape y.shape o j h.within;
        acquiring = acquires_same uses h.acceptance z.set j z.members h.acquiring;
        joins = joins x.shape y.shape o h.user m h.link h.joins;
        holding = sym (same_holds x.shape y.shape o h.link h.run) ∙ h.holding;
      }

  can_be_ordered : (x y : Seen) → Alike x y → CanBeOrdered x.shape x.does uses → CanBeOrdered y.shape y.does uses
  can_be_ordered x y a h = record { number = h.number; rise = λ m j held. h.rise m j (held_while y x (turned x y a) m j held) }

-- ---- a rule with its notes

pub meets : (rule : NotedRule) (x y : Seen) → Alike x y → MeetsRule rule x.shape x.does → MeetsRule rule y.shape y.does
meets Cyclic x y a h = record {
  order = all_keep_places x y a h.order;
  numbered = can_be_numbered x y a h.numbered;
  whole = λ l below. has_whole_end x y a l (h.whole l (on_links y.shape x.shape (turned_outline x.shape y.shape a.outline) l below));
}
meets (ClientServer roles) x y a h = record { keep_roles = keep_roles roles x y a h.keep_roles; no_circle = no_circle x.shape y.shape a.outline roles h.no_circle }
meets (Resource uses) x y a h = record { keep_uses = keep_uses uses x y a h.keep_uses; ordered = can_be_ordered uses x y a h.ordered }

pub breaks : (rule : NotedRule) (x y : Seen) → Alike x y → (fault : RuleFault) → BreaksRule rule x.shape x.does fault → BreaksRule rule y.shape y.does fault
breaks Cyclic x y a (NoOrder i s e) h = record { breaks = breaks_order x y a i s e h.breaks; first = λ j less. keeps_places x y a j (h.first j less) }
breaks Cyclic x y a (NoWholeEnd i j s t) h = record {
  order = all_keep_places x y a h.order;
  numbered = can_be_numbered x y a h.numbered;
  link = h.link;
  within = on_links x.shape y.shape a.outline h.link h.within;
  ends = sym (same_ends x.shape y.shape a.outline h.link) ∙ h.ends;
  left = subst (λ k. FallsShort y.shape y.does h.link k s) (a.outline.left h.link) (falls_short x y a h.link (link_at x.shape h.link).left s h.left);
  right = subst (λ k. FallsShort y.shape y.does h.link k t) (a.outline.right h.link) (falls_short x y a h.link (link_at x.shape h.link).right t h.right);
  first = λ m less. has_whole_end x y a m (h.first m less);
}
breaks Cyclic x y a (LinksCircle ends) h = record {
  order = all_keep_places x y a h.order;
  links = h.links;
  circle = same_least_circle (MustPrecede x.shape x.does) (MustPrecede y.shape y.does) (must_precede x y a) h.links h.circle;
  are = h.are ∙ all_ends x.shape y.shape a.outline h.links;
}
breaks Cyclic x y a _ h = absurd h
breaks (ClientServer roles) x y a (Broken condition.Roles i s) h = (h.0, lacks_roles x.shape y.shape a.outline roles i h.1)
breaks (ClientServer roles) x y a (Broken condition.Clients i s) h = (h.0, lacks_client x.shape y.shape a.outline roles i h.1)
breaks (ClientServer roles) x y a (Broken condition.Turns i s) h =
    (have_clients x.shape y.shape a.outline roles h.0, first_broken x.does y.does a.agree _ _ (takes_turns roles x y a) (takes_turns roles y x (turned x y a)) i s h.1)
breaks (ClientServer roles) x y a (Broken condition.Service i s) h = (
  have_clients x.shape y.shape a.outline roles h.0,
  λ j t. takes_turns roles x y a j t (h.1 j t),
  first_broken x.does y.does a.agree _ _ (serves_all roles x y a) (serves_all roles y x (turned x y a)) i s h.2,
)
breaks (ClientServer roles) x y a (Broken condition.Answers i s) h = (
  have_clients x.shape y.shape a.outline roles h.0,
  λ j t. takes_turns roles x y a j t (h.1 j t),
  λ j t. serves_all roles x y a j t (h.2 j t),
  first_broken x.does y.does a.agree _ _ (takes_answers roles x y a) (takes_answers roles y x (turned x y a)) i s h.3,
)
breaks (ClientServer roles) x y a (ClientsCircle clients) h = record {
  keep_roles = keep_roles roles x y a h.keep_roles;
  circle = same_least_circle (Serves x.shape roles) (Serves y.shape roles) (serves x.shape y.shape a.outline roles) clients h.circle;
}
breaks (ClientServer roles) x y a _ h = absurd h
breaks (Resource uses) x y a (Broken condition.Kinds i s) h = (h.0, lacks_kind x.shape y.shape a.outline uses i h.1)
breaks (Resource uses) x y a (Broken condition.Holders i s) h =
    (have_kinds x.shape y.shape a.outline uses h.0, first_broken x.does y.does a.agree _ _ (keeps_holder uses x y a) (keeps_holder uses y x (turned x y a)) i s h.1)
breaks (Resource uses) x y a (Broken condition.Grants i s) h = (
  have_kinds x.shape y.shape a.outline uses h.0,
  λ j t. keeps_holder uses x y a j t (h.1 j t),
  first_broken x.does y.does a.agree _ _ (keeps_grants uses x y a) (keeps_grants uses y x (turned x y a)) i s h.2,
)
breaks (Resource uses) x y a (Broken condition.Uses i s) h = (
  have_kinds x.shape y.shape a.outline uses h.0,
  λ j t. keeps_holder uses x y a j t (h.1 j t),
  λ j t. keeps_grants uses x y a j t (h.2 j t),
  first_broken x.does y.does a.agree _ _ (keeps_turns uses x y a) (keeps_turns uses y x (turned x y a)) i s h.3,
)
breaks (Resource uses) x y a (ResourcesCircle resources) h = record {
  keep_uses = keep_uses uses x y a h.keep_uses;
  circle = same_least_circle (IsHeldWhile x.shape x.does uses) (IsHeldWhile y.shape y.does uses) (held_while uses x y a) resources h.circle;
}
breaks (Resource uses) x y a _ h = absurd h

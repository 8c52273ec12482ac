-- The two networks of components that take two events in turn.
use Rattle.net_sound.proofs.Prelude.{◌≡◌, ℕ, zero, suc, ◌+◌, ◌<◌, ◌≤◌, inl, inr, List, [], ◌∷◌, length, Bool, true, false, ◌||◌, cond, IsTrue, MatchBool, nat_eq, Some, slice_get, refl, sym, ap, subst, ◌∙◌, arith, false≢true, and_from, and_parts, eqb-true, or_cases, none-some, same_Some, has, Label, silent, visible, Path, Silently, Stable, Component, ComponentStep, Tree, NetworkStep, leaves, FlatStep, IsGreatestSilence, visible_events, After, Offers, node_at, node_after, is_run, end_of, Part, part_at, project, IsNonEmpty, sharers, Stands, acceptance, acceptances_of, HasForm, OffersAcceptance, HasBehaviour, Falls, IsGoodRanking, or_none, IsSound, Turn, TurnStep, both, pair, turns, flat_ranking, ExampleIsLive, ExampleIsStuck, waking, at_zero, at_one}
use Rattle.net_sound.proofs.Flattening.{forth}
use Rattle.net_sound.proofs.Soundness.{good_rankings_mean_live, path_alphabet}

abbrev one : Turn → Component Turn
one x = record { alphabet = both; term = x }

-- ---- silent steps

abbrev IsAwake : Turn → Type 0
IsAwake waking = ⊥
IsAwake at_zero = Unit {0}
IsAwake at_one = Unit {0}

awake_after : (x : Turn) (l : Label) (y : Turn) → TurnStep x l y → IsAwake y
awake_after waking silent y h = subst IsAwake (sym h) tt
awake_after at_zero (visible e) y h = subst IsAwake (sym h.1) tt
awake_after at_one (visible e) y h = subst IsAwake (sym h.1) tt
awake_after _ _ y h = absurd h

awake_is_stable : (x y : Turn) → IsAwake x → TurnStep x silent y → ⊥
awake_is_stable waking y a h = a
awake_is_stable _ y a h = h

step_awake : (s : Component Turn) (l : Label) (t : Component Turn) → ComponentStep TurnStep s l t → IsAwake t.term
step_awake s silent t h = awake_after s.term silent t.term h.1
step_awake s (visible e) t h = awake_after s.term (visible e) t.term h.2

path_awake : (ls : List Label) (s t : Component Turn) → IsAwake s.term → Path (ComponentStep TurnStep) s ls t → IsAwake t.term
path_awake [] s t a h = subst (λ (x : Component Turn). IsAwake x.term) h a
path_awake (l ∷ ls) s t a h = path_awake ls h.0 t (step_awake s l h.0 h.1) h.2

none_awake : (m : ℕ) (s t : Component Turn) → IsAwake s.term → Silently (ComponentStep TurnStep) m s t → m ≤ 0
none_awake zero s t a h = omega arith
none_awake (suc m) s t a h = absurd (awake_is_stable s.term h.0.term a h.1.1)

one_at_most : (m : ℕ) (s t : Component Turn) → Silently (ComponentStep TurnStep) m s t → m ≤ 1
one_at_most zero s t h = omega arith
one_at_most (suc m) s t h = let rest : m ≤ 0 = none_awake m h.0 t (step_awake s silent h.0 h.1) h.2 in omega arith

awake_silence : (x : Turn) → IsAwake x → IsGreatestSilence (ComponentStep TurnStep) (one x) 0
awake_silence x a = record {
  attained = (one x, one x, ([], refl), refl);
  most = λ s t m r h. none_awake m s t (path_awake r.0 (one x) s a r.1) h;
}

waking_silence : IsGreatestSilence (ComponentStep TurnStep) (one waking) 1
waking_silence = record {
  attained = (one waking, one at_zero, ([], refl), (one at_zero, (refl, refl), refl));
  most = λ s t m r h. one_at_most m s t h;
}

-- ---- the networks are sound

pub two_sharers : (e : ℕ) → sharers (both ∷ both ∷ []) e ≤ 2
two_sharers e = go (has both e)
  where
    go : (b : Bool) → cond b (cond b (0 + 1) 0 + 1) (cond b (0 + 1) 0) ≤ 2
    go true = omega arith
    go false = omega arith

sound_pair : (x y : Turn) (m : ℕ) → IsGreatestSilence (ComponentStep TurnStep) (one x) m → IsGreatestSilence (ComponentStep TurnStep) (one y) 0 → IsSound TurnStep (pair x y) m
sound_pair x y m g h = record {
  some = omega arith;
  nested = ((λ e. or_none (has both e)), tt, ((λ e. or_none (has both e)), tt, tt));
  triple = two_sharers;
  silence = (m, 0, g, (0, 0, h, refl, refl), omega arith);
}

-- ---- the table has the behaviour

abbrev node_of : Turn → ℕ
node_of waking = 0
node_of at_zero = 0
node_of at_one = 1

silent_node : (x y : Turn) → TurnStep x silent y → node_of x ≡ node_of y
silent_node waking y h = sym (ap node_of h)
silent_node _ y h = absurd h

abbrev Leads : ℕ → ℕ → ℕ → Type 0
Leads n e m = (is_run turns.table n (e ∷ []) ≡ true) × (node_after turns.table n e ≡ m)

event_node : (x : Turn) (e : ℕ) (y : Turn) → TurnStep x (visible e) y → Leads (node_of x) e (node_of y)
event_node waking e y h = absurd h
event_node at_zero e y h = subst (λ k. Leads 0 k (node_of y)) (sym h.0) (subst (λ z. Leads 0 0 (node_of z)) (sym h.1) (refl, refl))
event_node at_one e y h = subst (λ k. Leads 1 k (node_of y)) (sym h.0) (subst (λ z. Leads 1 1 (node_of z)) (sym h.1) (refl, refl))

abbrev Follows : ℕ → List ℕ → ℕ → Type 0
Follows n s m = (is_run turns.table n s ≡ true) × (end_of turns.table n s ≡ m)

follows : (ls : List Label) (s t : Component Turn) → Path (ComponentStep TurnStep) s ls t → Follows (node_of s.term) (visible_events ls) (node_of t.term)
follows [] s t h = (refl, ap (λ (x : Component Turn). node_of x.term) h)
follows (silent ∷ ls) s t h = subst (λ n. Follows n (visible_events ls) (node_of t.term)) (sym (silent_node s.term h.0.term h.1.1)) (follows ls h.0 t h.2)
follows (visible e ∷ ls) s t h =
    let first = event_node s.term e h.0.term h.1.2 in
    let rest = subst (λ n. Follows n (visible_events ls) (node_of t.term)) (sym first.1) (follows ls h.0 t h.2) in
    (and_from _ _ ((and_parts _ _ first.0).0) rest.0, rest.1)

-- the state that a trace leads to, and the node
leads : (x : Turn) (s : List ℕ) (d : Component Turn) → After (ComponentStep TurnStep) (one x) s d → Follows (node_of x) s (node_of d.term)
leads x s d a = subst (λ w. Follows (node_of x) w (node_of d.term)) a.2 (follows a.0 (one x) d a.1)

member : (n e : ℕ) → IsTrue (has (n ∷ []) e) → n ≡ e
member n e h = elim (or_cases (nat_eq n e) false h) [ inl same ↦ eqb-true n e same | inr never ↦ absurd (false≢true never) ]

-- a stable state offers the acceptance of its node
offers : (x y : Turn) (d : Component Turn) → d.alphabet ≡ both → d.term ≡ y → (n : ℕ) → TurnStep y (visible n) x → IsTrue (has both n) → (e : ℕ) → IsTrue (has (n ∷ []) e) → Offers (ComponentStep TurnStep) d e
offers x y d al is n step owned e h =
    subst (λ k. Offers (ComponentStep TurnStep) d k) (member n e h)
    (record { alphabet = d.alphabet; term = x }, (refl, subst (λ w. IsTrue (has w n)) (sym al) owned, subst (λ z. TurnStep z (visible n) x) (sym is) step))

at_node : (y : Turn) (d : Component Turn) → d.alphabet ≡ both → d.term ≡ y → Stable (ComponentStep TurnStep) d → OffersAcceptance (ComponentStep TurnStep) d (node_at turns.table (node_of y)).accept
at_node waking d al is stable = absurd (stable (record { alphabet = d.alphabet; term = at_zero }) (refl, subst (λ z. TurnStep z silent at_zero) (sym is) refl))
at_node at_zero d al is stable = record { place = 0; acceptance = 0 ∷ []; listed = refl; offered = offers at_one at_zero d al is 0 (refl, refl) refl }
at_node at_one d al is stable = record { place = 0; acceptance = 1 ∷ []; listed = refl; offered = offers at_zero at_one d al is 1 (refl, refl) refl }

not_empty : (y : Turn) (k : ℕ) (M : List ℕ) → slice_get (node_at turns.table (node_of y)).accept k ≡ Some M → IsNonEmpty M
not_empty waking zero M h = subst IsNonEmpty (same_Some (0 ∷ []) M h) (0, refl)
not_empty waking (suc k) M h = absurd (none-some M h)
not_empty at_zero zero M h = subst IsNonEmpty (same_Some (0 ∷ []) M h) (0, refl)
not_empty at_zero (suc k) M h = absurd (none-some M h)
not_empty at_one zero M h = subst IsNonEmpty (same_Some (1 ∷ []) M h) (1, refl)
not_empty at_one (suc k) M h = absurd (none-some M h)

behaves : (x : Turn) → node_of x ≡ 0 → HasBehaviour TurnStep (one x) turns
behaves x start = record {
  alphabet = refl;
  traces = λ s t. subst (λ n. IsTrue (is_run turns.table n s)) start (leads x s t.0 t.1).0;
  accepts = λ s d a stable.
      let e : node_of d.term ≡ end_of turns.table 0 s = sym (subst (λ n. end_of turns.table n s ≡ node_of d.term) start (leads x s d a).1) in
      subst (λ n. OffersAcceptance (ComponentStep TurnStep) d (node_at turns.table n).accept) e (at_node d.term d (sym (path_alphabet TurnStep a.0 (one x) d a.1)) refl stable);
  busy = λ s M k t h.
      let e : end_of turns.table 0 s ≡ node_of t.0.term = subst (λ n. end_of turns.table n s ≡ node_of t.0.term) start (leads x s t.0 t.1).1 in
      not_empty t.0.term k M (subst (λ n. slice_get (node_at turns.table n).accept k ≡ Some M) e h);
}

-- ---- the ranking is good

one_acceptance : (n : ℕ) → length (node_at turns.table n).accept ≤ 1
one_acceptance zero = omega arith
one_acceptance (suc zero) = omega arith
one_acceptance (suc (suc n)) = omega arith

part_is : (i : ℕ) → i < length (turns ∷ turns ∷ []) → part_at (turns ∷ turns ∷ []) i ≡ turns
part_is zero h = refl
part_is (suc zero) h = refl
part_is (suc (suc i)) h = absurd (omega arith)

first_place : (s : List ℕ) (k : ℕ) → Stands turns s k → k ≡ 0
first_place s k h =
    let within : k < length (acceptances_of turns s) = h.listed in
    let most : length (acceptances_of turns s) ≤ 1 = one_acceptance (end_of turns.table 0 (project both s)) in
    omega arith

-- both stand at the same acceptance, so no request is ungranted
same_acceptance : (p q : Part) (s : List ℕ) (k l : ℕ) → p ≡ turns → q ≡ turns → Stands p s k → Stands q s l → acceptance p s k ≡ acceptance q s l
same_acceptance p q s k l a b h i =
    let k0 = first_place s k (subst (λ r. Stands r s k) a h) in
    let l0 = first_place s l (subst (λ r. Stands r s l) b i) in
    ap (λ r. acceptance r s k) a ∙ ap (acceptance turns s) (k0 ∙ sym l0) ∙ sym (ap (λ r. acceptance r s l) b)

pair_falls : Falls (turns ∷ turns ∷ []) flat_ranking
pair_falls s i j k l u =
    let same = same_acceptance (part_at (turns ∷ turns ∷ []) i) (part_at (turns ∷ turns ∷ []) j) s k l (part_is i u.here) (part_is j u.there) u.stands u.other_stands in
    let e = u.stands.some in
    absurd (u.apart e.0 e.1 (subst (λ M. IsTrue (has M e.0)) same e.1))

member_both : (n : ℕ) → IsTrue (has both n) → (e : ℕ) → IsTrue (has (n ∷ []) e) → IsTrue (has both e)
member_both n owned e h = subst (λ k. IsTrue (has both k)) (member n e h) owned

pub turns_form : HasForm turns
turns_form = record {
  least = omega arith;
  most = omega arith;
  nodes = ((refl, omega arith, tt, tt), (member_both 0 refl, tt), ((refl, omega arith, tt, tt), (member_both 1 refl, tt), tt));
}

good_pair : IsGoodRanking TurnStep (leaves (pair waking at_zero)) (turns ∷ turns ∷ []) flat_ranking
good_pair = record {
  form = (turns_form, (turns_form, tt));
  behaviours = (behaves waking refl, (behaves at_zero refl, tt));
  fits = ((tt, (tt, tt)), (tt, (omega arith, tt), (tt, (omega arith, tt), tt)), ((tt, (tt, tt)), (tt, (omega arith, tt), (tt, (omega arith, tt), tt)), tt));
  falls = pair_falls;
}

sound_live : IsSound TurnStep (pair waking at_zero) 1
sound_live = sound_pair waking at_zero 1 waking_silence (awake_silence at_zero tt)

pub example_is_live : ExampleIsLive
example_is_live = record { sound = sound_live; good = good_pair; live = good_rankings_mean_live TurnStep (pair waking at_zero) 1 (turns ∷ turns ∷ []) flat_ranking sound_live good_pair }

-- ---- the network that is stuck

sound_stuck : IsSound TurnStep (pair at_zero at_one) 0
sound_stuck = sound_pair at_zero at_one 0 (awake_silence at_zero tt) (awake_silence at_one tt)

clash : (e : ℕ) (b : Bool) (P Q R S : Type 0) → (P → e ≡ 0) → (R → e ≡ 1) → b ≡ true → MatchBool b P Q → MatchBool b R S → ⊥
clash e true P Q R S f g h p r = let x : e ≡ 0 = f p in let y : e ≡ 1 = g r in omega arith
clash e false P Q R S f g h p r = false≢true h

owned : (b : Bool) → (b || (b || false)) ≡ true → b ≡ true
owned true h = refl
owned false h = h

stuck_flat : (l : Label) (ds : List (Component Turn)) → FlatStep TurnStep (one at_zero ∷ one at_one ∷ []) l ds → ⊥
stuck_flat silent [] h = h
stuck_flat silent (d ∷ ds) (inl h) = h.0.1
stuck_flat silent (d ∷ []) (inr h) = h.1
stuck_flat silent (d ∷ d' ∷ ds) (inr h) = elim h.1 [ inl k ↦ k.0.1 | inr k ↦ k.1 ]
stuck_flat (visible e) [] h = h.1
stuck_flat (visible e) (d ∷ []) h = h.1.1
stuck_flat (visible e) (d ∷ d' ∷ ds) h =
    clash e (has both e) (ComponentStep TurnStep (one at_zero) (visible e) d) (one at_zero ≡ d) (ComponentStep TurnStep (one at_one) (visible e) d') (one at_one ≡ d')
    (λ k. k.2.0) (λ k. k.2.0) (owned (has both e) h.0) h.1.0 h.1.1.0

stuck : (l : Label) (t : Tree Turn) → NetworkStep TurnStep (pair at_zero at_one) l t → ⊥
stuck l t h = stuck_flat l (leaves t) (forth TurnStep (pair at_zero at_one) l t sound_stuck.nested h)

pub example_is_stuck : ExampleIsStuck
example_is_stuck = record {
  sound = sound_stuck;
  stuck = stuck;
  no_ranking = λ parts ranking good.
      let live = good_rankings_mean_live TurnStep (pair at_zero at_one) 0 parts ranking sound_stuck good in
      let m = live.moves (pair at_zero at_one) ([], refl) (λ t h. stuck silent t h) in
      stuck (visible m.0) m.1 m.2;
}

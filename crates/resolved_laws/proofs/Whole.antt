-- A program that holds what typed declarations put into it is in order, whichever event table and field sets it has, as far as those are in order.
use Rattle.resolved_laws.proofs.Sources.{◌≡◌, ℕ, zero, suc, ◌+◌, ◌<◌, ◌^◌, nat_eq, IsTrue, Some, None, List, [], ◌∷◌, ◌++◌, length, map, refl, sym, ◌∙◌, ap, subst, inr, is_none, arith, slice_get, flat_map, eq-eqb, false≢true, EachOnce, Every, def_bound, exprs_bound, KeepFirsts, event_count, first_event, AllClosed, AllClosedBodies, AllClosedTypes, IsEventTable, IsInOrder, channel_in_order, def_in_order, expr_in_order, lacks_sets, sets_in_order, with_fields, all_true, def_uses, channels_of, plain_content, IsShallow, AreKinds, Meanings, Name, meanings_of, none_yet, name_fault, Declares, Atom, Channel, Content, Decl, Def, EventInfo, Kind, MOST_DATA_DEPTH, Tree, PlainIsInOrder, any_sets, sets_for_any, is_and}
use Rattle.resolved_laws.proofs.Booleans.{and, two}
use Rattle.resolved_laws.proofs.ContentSound.{ChannelSound, DefsSound, Sound, content_sound, nothing_free}
use Rattle.resolved_laws.proofs.Declared.{Fits}
use Rattle.resolved_laws.proofs.InTurn.{each_once}
use Rattle.resolved_laws.proofs.NamesFit.{ChannelsFrom, HoldsFrom, StandsFrom, names_fit}
use Rattle.resolved_laws.proofs.NoCircle.{none_reaches_itself}
use Rattle.typed_laws.proofs.Declared.{types_of}
use Rattle.typed_laws.proofs.Passing.{element_at}
use Rattle.typed_laws.proofs.Programs.{puts}

-- channels of the same types
abbrev pub SameTypes : List Channel → List Channel → Type 0
SameTypes [] [] = Unit {0}
SameTypes (c ∷ cs) (d ∷ ds) = (c.types ≡ d.types) × SameTypes cs ds
SameTypes [] (d ∷ ds) = ⊥
SameTypes (c ∷ cs) [] = ⊥

pub same_length : (cs ds : List Channel) → SameTypes cs ds → length cs ≡ length ds
same_length [] [] h = refl
same_length (c ∷ cs) (d ∷ ds) h = ap (λ k. suc k) (same_length cs ds h.1)
same_length _ _ h = absurd h

pub same_itself : (cs : List Channel) → SameTypes cs cs
same_itself [] = tt
same_itself (c ∷ cs) = (refl, same_itself cs)

-- the program of these declarations with these channels and events
abbrev pub with_channels : Content → List Channel → List EventInfo → Content
with_channels q cs es = record q { channels = cs; events = es }

module _ (decls : List Decl) (ks : List Kind) (q : Content) (all : List (List (List Atom)))
    (declared : Declares (meanings_of decls) ks q (λ types sets. Unit {0}) none_yet decls q all) (cs : List Channel)
    (es : List EventInfo) (same : SameTypes cs q.channels) where
  abbrev m : Meanings
  m = meanings_of decls

  abbrev p : Content
  p = with_channels q cs es

  here : (all : List Channel) (n : ℕ) (xs ys : List Channel) → SameTypes xs ys → StandsFrom all n xs → all ≡ cs → ChannelsFrom m ks p n ys
  here all n [] [] s h is = tt
  here all n (x ∷ xs) (y ∷ ys) s h is =
      let e : n ≡ n + 0 = omega arith in
      let at : slice_get cs n ≡ Some x = ap (λ l. slice_get l n) (sym is) ∙ (ap (slice_get all) e ∙ h 0) in (
        subst (λ o. IsTrue (with_fields (λ k. nat_eq k (length y.types)) o)) (sym at) (eq-eqb (length x.types) (length y.types) (ap (λ l. length l) s.0)),
        here all (n + 1) xs ys s.1 (λ i. let e' : n + 1 + i ≡ n + suc i = omega arith in ap (slice_get all) e' ∙ h (suc i)) is,
      )
  here all n _ _ s h is = absurd s

  from_first : {X : Type 0} (xs : List X) → StandsFrom xs 0 xs
  from_first xs i = let e : 0 + i ≡ i = omega arith in ap (slice_get xs) e

  holds : HoldsFrom m ks p none_yet q
  holds = record { channels = here cs 0 cs q.channels same (from_first cs) refl; consts = omega arith; defs = from_first q.defs }

  fits : Fits m ks p
  fits = names_fit decls ks q (λ types sets. Unit {0}) p q all declared holds

  sound : Sound m ks p q fits none_yet q
  sound = content_sound m ks p q fits declared (omega arith)

  -- ---- channels

  abbrev TypesSound : Channel → Type 0
  TypesSound = ChannelSound m ks p q fits

  same_sound : (xs ys : List Channel) → SameTypes xs ys → Every TypesSound ys → Every TypesSound xs
  same_sound [] [] s h = tt
  same_sound (x ∷ xs) (y ∷ ys) s h = (
    record {
      order = subst (λ z. IsTrue (all_true (map (expr_in_order p) z))) (sym s.0) h.0.order;
      closed = subst AllClosed (sym s.0) h.0.closed;
      once = subst (λ z. EachOnce (exprs_bound z)) (sym s.0) h.0.once;
    },
    same_sound xs ys s.1 h.1,
  )
  same_sound _ _ s h = absurd s

  channels_used : (xs : List Channel) → Every TypesSound xs → IsTrue (all_true (map (λ c. sets_in_order p (length c.types) c.fields) xs))
      → IsTrue (all_true (map (channel_in_order p) xs))
  channels_used [] h g = refl
  channels_used (x ∷ xs) h g =
      let w = two (sets_in_order p (length x.types) x.fields) (all_true (map (λ c. sets_in_order p (length c.types) c.fields) xs)) g in
      and (and h.0.order w.0) (channels_used xs h.1 w.1)

  types_closed : (xs : List Channel) → Every TypesSound xs → AllClosedTypes xs
  types_closed [] h = tt
  types_closed (x ∷ xs) h = (h.0.closed, types_closed xs h.1)

  -- ---- definitions

  abbrev AreSound : ℕ → List Def → Type 0
  AreSound = DefsSound m ks p q fits

  defs_used : (n : ℕ) (defs : List Def) → AreSound n defs → IsTrue (all_true (map (def_in_order p) defs))
  defs_used n [] h = refl
  defs_used n (def ∷ defs) h = and h.0.order (defs_used (n + 1) defs h.1)

  bodies_closed : (n : ℕ) (defs : List Def) → AreSound n defs → AllClosedBodies defs
  bodies_closed n [] h = tt
  bodies_closed n (def ∷ defs) h = (h.0.closed, bodies_closed (n + 1) defs h.1)

  defs_once : (n : ℕ) (defs : List Def) → AreSound n defs → (i : ℕ) (def : Def) → slice_get defs i ≡ Some def → EachOnce (def_bound def)
  defs_once n [] h i def at = absurd (cc)
  defs_once n (d ∷ defs) h zero def at = let e : d ≡ def = cc in subst (λ z. EachOnce (def_bound z)) e h.0.once
  defs_once n (d ∷ defs) h (suc i) def at = defs_once (n + 1) defs h.1 i def at

  defs_shallow : (n : ℕ) (defs : List Def) → AreSound n defs → (i j : ℕ) → IsTrue (def_uses (slice_get defs i) j) → IsShallow q (n + i)
  defs_shallow n [] h i j t = absurd (false≢true t)
  defs_shallow n (d ∷ defs) h zero j t = let e : n ≡ n + 0 = omega arith in subst (IsShallow q) e (h.0.shallow j t)
  defs_shallow n (d ∷ defs) h (suc i) j t =
      let e : n + 1 + i ≡ n + suc i = omega arith in subst (IsShallow q) e (defs_shallow (n + 1) defs h.1 i j t)

  pub in_order : length es < 2 ^ 32 → length cs < 2 ^ 32 → length q.consts < 2 ^ 32 → length q.defs < 2 ^ 32
      → IsTrue (all_true (map (λ c. sets_in_order p (length c.types) c.fields) cs)) → IsEventTable p → KeepFirsts cs → IsInOrder p
  in_order events channels consts defs sets table firsts = record {
    few_events = events;
    few_channels = channels;
    few_consts = consts;
    few_defs = defs;
    channels_used = channels_used cs (same_sound cs q.channels same sound.channels) sets;
    defs_used = defs_used 0 q.defs sound.defs;
    roles_used = sound.roles;
    resources_used = sound.resources;
    root_used = sound.root.order;
    closed_types = types_closed cs (same_sound cs q.channels same sound.channels);
    closed_bodies = bodies_closed 0 q.defs sound.defs;
    closed_root = nothing_free _ sound.root.free;
    bound_once = defs_once 0 q.defs sound.defs;
    root_bound_once = each_once sound.root.turn;
    types_bound_once = λ i c at. (element_at TypesSound cs i c (same_sound cs q.channels same sound.channels) at).once;
    no_circle = none_reaches_itself q.defs MOST_DATA_DEPTH
        (λ i j t. let e : 0 + i ≡ i = omega arith in subst (IsShallow q) e (defs_shallow 0 q.defs sound.defs i j t));
    table = table;
    firsts = firsts;
  }

-- ---- while channels have no field sets

abbrev IsPlain : Channel → Type 0
IsPlain c = (c.fields ≡ None) × (c.first ≡ 0)

abbrev ArePlain : List Channel → Type 0
ArePlain cs = Every IsPlain cs

module _ (m : Meanings) (ks : List Kind) where
  channel_plain : (xs : List Name) (types : List Tree) (rest : List Channel) → ArePlain rest → ArePlain (channels_of m ks (Decl.Channel xs types) ++ rest)
  channel_plain [] types rest h = h
  channel_plain (x ∷ xs) types rest h = ((refl, refl), channel_plain xs types rest h)

  channels_plain : (decls : List Decl) → ArePlain (flat_map (channels_of m ks) decls)
  channels_plain [] = tt
  channels_plain (Decl.Channel xs types ∷ decls) = channel_plain xs types (flat_map (channels_of m ks) decls) (channels_plain decls)
  channels_plain (_ ∷ decls) = channels_plain decls

plain_lack : (cs : List Channel) → ArePlain cs → IsTrue (all_true (map lacks_sets cs))
plain_lack [] h = refl
plain_lack (c ∷ cs) h = is_and (lacks_sets c) (all_true (map lacks_sets cs)) (ap is_none h.0.0) (plain_lack cs h.1)

pub plain_lacks : (decls : List Decl) (ks : List Kind) → IsTrue (all_true (map lacks_sets (plain_content decls ks).channels))
plain_lacks decls ks = plain_lack (flat_map (channels_of (meanings_of decls) ks) decls) (channels_plain (meanings_of decls) ks decls)

plain_sets : (p : Content) (cs : List Channel) → ArePlain cs → IsTrue (all_true (map (λ c. sets_in_order p (length c.types) c.fields) cs))
plain_sets p [] h = refl
plain_sets p (c ∷ cs) h =
    is_and (sets_in_order p (length c.types) c.fields) (all_true (map (λ d. sets_in_order p (length d.types) d.fields) cs))
    (ap (sets_in_order p (length c.types)) h.0.0) (plain_sets p cs h.1)

no_events : (cs : List Channel) (i : ℕ) → ArePlain cs → first_event cs i ≡ 0
no_events cs zero h = refl
no_events [] (suc i) h = refl
no_events (c ∷ cs) (suc i) h =
    let a : event_count c.fields ≡ 0 = ap event_count h.0.0 in
    let b : first_event cs i ≡ 0 = no_events cs i h.1 in
    omega (arith, a, b)

-- the declarations of a faultless script put the plain content into the program, by the rules of typing
pub plain_declares : (decls : List Decl) (ks : List Kind) → AreKinds decls ks → name_fault decls ks ≡ None
    → Declares (meanings_of decls) ks (plain_content decls ks) (λ types sets. Unit {0}) none_yet decls (plain_content decls ks) (any_sets decls)
plain_declares decls ks are none =
    puts decls ks are none (λ types sets. Unit {0}) (any_sets decls) (sets_for_any (types_of (meanings_of decls) ks) decls)

pub plain_is_in_order : PlainIsInOrder
plain_is_in_order decls ks are none few =
    let cs = flat_map (channels_of (meanings_of decls) ks) decls in
    let plain : ArePlain cs = channels_plain (meanings_of decls) ks decls in
    in_order decls ks (plain_content decls ks) (any_sets decls) (plain_declares decls ks are none) cs [] (same_itself cs) (omega arith) few.channels few.consts
    few.defs
    (plain_sets (plain_content decls ks) cs plain)
    (inr (plain_lack cs plain, refl)) (λ i c g. (element_at IsPlain cs i c plain g).1 ∙ sym (no_events cs i plain))

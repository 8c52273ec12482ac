-- The program of a script is in order.
use Rattle.resolved_laws.proofs.Sources.{◌≡◌, ℕ, ◌+◌, ◌<◌, ◌≤◌, ◌^◌, Some, None, Ok, List, length, refl, sym, ◌∙◌, subst, inl, arith, if◌then◌else◌, slice_get, flat_map, first_event, event_table, IsInOrder, channels_of, plain_content, AreKinds, meanings_of, all_events, channel_sets, types_of, with_sets, name_fault, any_sets, Atom, Channel, Decl, Kind, HasFew, ResolvedIsInOrder}
use Rattle.typed_laws.proofs.Back.{sets_for}
use Rattle.typed_laws.proofs.Programs.{parts}
use Rattle.resolved_laws.proofs.Sets.{HaveSets, count_events, firsts_kept, have_all, have_sets, sets_in_place, sets_same}
use Rattle.resolved_laws.proofs.Whole.{SameTypes, in_order, plain_declares, plain_is_in_order, same_length, with_channels}
use Rattle.dl_limits.specs.declared.TheConstants.{MOST_EVENTS}

few_enough : (n k : ℕ) → n ≡ k → k ≤ MOST_EVENTS → n < 2 ^ 32
few_enough n k e h = omega (arith, h, e)

module _ (decls : List Decl) (ks : List Kind) (are : AreKinds decls ks) (none : name_fault decls ks ≡ None) (few : HasFew (plain_content decls ks))
    (all : List (List (List Atom))) (found : channel_sets (plain_content decls ks) (types_of decls ks) 0 decls ≡ Ok all)
    (enough : all_events all ≤ MOST_EVENTS) where
  abbrev whole : IsInOrder (plain_content decls ks)
  whole = plain_is_in_order decls ks are none few

  abbrev cs : List Channel
  cs = flat_map (channels_of (meanings_of decls) ks) decls

  have : HaveSets (plain_content decls ks) cs all
  have = have_sets (plain_content decls ks) whole (meanings_of decls) ks decls all whole.channels_used
      (sets_for (plain_content decls ks) (types_of decls ks) 0 decls all found)

  abbrev filled : List Channel
  filled = with_sets 0 cs all

  same : SameTypes filled cs
  same = sets_same (plain_content decls ks) 0 cs all have

  first_kept : (i : ℕ) (c : Channel) → slice_get filled i ≡ Some c → c.first ≡ first_event filled i
  first_kept i c h = let e : 0 + first_event filled i ≡ first_event filled i = omega arith in firsts_kept (plain_content decls ks) 0 cs all have i c h ∙ e

  pub tabled_in_order : IsInOrder (with_channels (plain_content decls ks) filled (event_table filled))
  tabled_in_order =
      in_order decls ks (plain_content decls ks) (any_sets decls) (plain_declares decls ks are none) filled (event_table filled) same
      (few_enough (length (event_table filled)) (all_events all) (count_events (plain_content decls ks) 0 0 cs all have) enough)
      (subst (λ k. k < 2 ^ 32) (sym (same_length filled cs same)) few.channels) few.consts few.defs
      (sets_in_place (plain_content decls ks) 0 cs all have)
      (inl (have_all (plain_content decls ks) 0 cs all have, refl)) first_kept

pub resolved_is_in_order : ResolvedIsInOrder
resolved_is_in_order decls ks p are h few =
    let w = parts decls ks p h in
    subst IsInOrder (sym w.is) (tabled_in_order decls ks are w.none few w.sets w.found w.few)

-- The channels of a program in order.
use Rattle.value_laws.proofs.Prelude.{◌≡◌, ℕ, zero, suc, ◌+◌, ◌<◌, ◌^◌, IsTrue, Option, Some, None, List, [], ◌∷◌, ◌++◌, map, length, refl, sym, ◌∙◌, ap, subst, inl, inr, arith, is_none, false≢true, is_first, is_second, channel_events, event_table, events_from_channel, IsEventTable, IsInOrder, lacks_sets, all_true, Channel, Content, EventInfo, HasSets, ChannelsFit, Atom}
use Rattle.value_laws.proofs.Rises.{field_sets_rise}
use Rattle.value_laws.proofs.TablePlaces.{first_is, rise_at}

no_events : (b : ℕ) (o : Option (List (List Atom))) → IsTrue (is_none o) → channel_events b o ≡ []
no_events b None h = refl
no_events b (Some sets) h = absurd (false≢true h)

-- where no channel has field sets, there is no event
none_in_table : (channels : List Channel) (b : ℕ) → IsTrue (all_true (map lacks_sets channels)) → events_from_channel b channels ≡ []
none_in_table [] b lack = refl
none_in_table (channel ∷ channels) b lack =
    ap (λ l. l ++ events_from_channel (b + 1) channels) (no_events b channel.fields (is_first (lacks_sets channel) (all_true (map lacks_sets channels)) lack)) ∙
    none_in_table channels (b + 1) (is_second (lacks_sets channel) (all_true (map lacks_sets channels)) lack)

pub none_has : (channels : List Channel) (c : ℕ) (sets : List (List Atom)) → IsTrue (all_true (map lacks_sets channels)) → HasSets channels c sets → ⊥
none_has [] c sets all h = absurd (cc)
none_has (channel ∷ channels) zero sets all h =
    false≢true (subst (λ o. IsTrue (is_none o)) h (is_first (lacks_sets channel) (all_true (map lacks_sets channels)) all))
none_has (channel ∷ channels) (suc c) sets all h = none_has channels c sets (is_second (lacks_sets channel) (all_true (map lacks_sets channels)) all) h

-- channels without field sets have no event that is to be found
pub empty_fits : (channels : List Channel) → IsTrue (all_true (map lacks_sets channels)) → ChannelsFit channels
empty_fits channels lack =
    let none : event_table channels ≡ [] = none_in_table channels 0 lack in
    record {
      firsts = λ c sets has. absurd (none_has channels c sets lack has);
      rise = λ c sets has. absurd (none_has channels c sets lack has);
      few = subst (λ (l : List EventInfo). length l < 2 ^ 32) (sym none) (omega arith);
    }

few_events : (p : Content) → IsInOrder p → IsEventTable p → length (event_table p.channels) < 2 ^ 32
few_events p ordered (inl t) = subst (λ (l : List EventInfo). length l < 2 ^ 32) t.1 ordered.few_events
few_events p ordered (inr t) = (empty_fits p.channels t.0).few

pub program_fits : (p : Content) → IsInOrder p → ChannelsFit p.channels
program_fits p ordered = record {
  firsts = λ c sets has. first_is p.channels ordered.firsts c sets has;
  rise = λ c sets has. rise_at p.channels c sets (field_sets_rise p p.channels ordered.channels_used) has;
  few = few_events p ordered ordered.table;
}

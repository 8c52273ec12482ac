-- The values of the fields of a program in order rise.
use Rattle.value_laws.proofs.Prelude.{ℕ, IsTrue, nat_eq, Option, Some, None, List, [], ◌∷◌, map, length, is_set, Atom, IsAtomSet-from, channel_in_order, expr_in_order, is_field_value, set_in_order, sets_in_order, all_true, Channel, Content, AllRise, is_first, is_second}

-- the values of each field rise, where a channel has them
abbrev pub FieldsRise : Option (List (List Atom)) → Type 0
FieldsRise None = Unit {0}
FieldsRise (Some sets) = AllRise sets

abbrev pub FieldSetsRise : List Channel → Type 0
FieldSetsRise [] = Unit {0}
FieldSetsRise (channel ∷ channels) = FieldsRise channel.fields × FieldSetsRise channels

module _ (p : Content) where
  all_rise : (sets : List (List Atom)) → IsTrue (all_true (map (set_in_order p) sets)) → AllRise sets
  all_rise [] o = tt
  all_rise (set ∷ sets) o = (
    (IsAtomSet-from set (is_second (all_true (map (is_field_value p) set)) (is_set set) (is_first (set_in_order p set) (all_true (map (set_in_order p) sets)) o))).0,
    all_rise sets (is_second (set_in_order p set) (all_true (map (set_in_order p) sets)) o),
  )

  fields_rise : (count : ℕ) (o : Option (List (List Atom))) → IsTrue (sets_in_order p count o) → FieldsRise o
  fields_rise count None o = tt
  fields_rise count (Some sets) o = all_rise sets (is_second (nat_eq (length sets) count) (all_true (map (set_in_order p) sets)) o)

  pub field_sets_rise : (channels : List Channel) → IsTrue (all_true (map (channel_in_order p) channels)) → FieldSetsRise channels
  field_sets_rise [] o = tt
  field_sets_rise (channel ∷ channels) o = (
    fields_rise (length channel.types) channel.fields
        (is_second (all_true (map (expr_in_order p) channel.types)) (sets_in_order p (length channel.types) channel.fields)
        (is_first (channel_in_order p channel) (all_true (map (channel_in_order p) channels)) o)),
    field_sets_rise channels (is_second (channel_in_order p channel) (all_true (map (channel_in_order p) channels)) o),
  )

-- Where two programs give the same names, equal events are printed alike.
use Rattle.comparison.proofs.Prelude.{◌≡◌, ◌<◌, ◌≤◌, ◌+◌, ℕ, List, [], ◌∷◌, ◌++◌, length, get_or, true, nat_eq, Some, refl, sym, ap, ap₂, subst, ◌∙◌, arith, inl, inr, codes, slice_get, pointwise, flat_map, option_map, cases_lt, eqb-true, slice_get-get_or, slice_get-map, slice_get_past, Content, AgreeAt, HaveSameNames, Channel, IsExact-pointwise, Atom, EventInfo, channel_name, field_text, info_text, text_or_none}
use Rattle.csp_atoms.specs.declared.atom.Atom.TheVariants as atom

pub same_names : (names others : List (List ℕ)) → pointwise (pointwise nat_eq) names others ≡ true → names ≡ others
same_names = IsExact-pointwise (pointwise nat_eq) (IsExact-pointwise nat_eq eqb-true)

pub same_fields : (i j : EventInfo) → i.channel ≡ j.channel → i.fields ≡ j.fields → i ≡ j
same_fields i j channel fields = λ k. record { channel = channel k; fields = fields k }

-- the first n channels have the same names
abbrev pub AlikeBefore : List Channel → List Channel → ℕ → Type 0
AlikeBefore cs ds n = (k : ℕ) → k < n → channel_name (slice_get cs k) ≡ channel_name (slice_get ds k)

pub one_more_alike : (cs ds : List Channel) (n : ℕ) (c d : Channel) → n < length cs → n < length ds → (get_or cs n c).name ≡ (get_or ds n d).name → AlikeBefore cs ds n → AlikeBefore cs ds (n + 1)
one_more_alike cs ds n c d below there same before k h = elim (cases_lt k n) as (λ _. channel_name (slice_get cs k) ≡ channel_name (slice_get ds k)) [
  | inl less ↦ before k less
  | inr more ↦
      let here : n ≡ k = omega (arith, h, more) in
      subst (λ j. channel_name (slice_get cs j) ≡ channel_name (slice_get ds j)) here
      (ap channel_name (slice_get-get_or cs n c below) ∙ same ∙ sym (ap channel_name (slice_get-get_or ds n d there)))
]

pub all_alike : (cs ds : List Channel) (n : ℕ) → length cs ≤ n → length ds ≤ n → AlikeBefore cs ds n → (k : ℕ) → channel_name (slice_get cs k) ≡ channel_name (slice_get ds k)
all_alike cs ds n few others before k = elim (cases_lt k n) as (λ _. channel_name (slice_get cs k) ≡ channel_name (slice_get ds k)) [
  | inl less ↦ before k less
  | inr past ↦ ap channel_name (slice_get_past cs k (omega (arith, few, past))) ∙ sym (ap channel_name (slice_get_past ds k (omega (arith, others, past))))
]

module _ (p q : Content) (same : HaveSameNames p q) where
  fields_alike : (fields : List Atom) → flat_map (field_text p) fields ≡ flat_map (field_text q) fields
  fields_alike [] = refl
  fields_alike (a ∷ fields) = ap₂ (λ (x y : List ℕ). x ++ y) (field_alike a) (fields_alike fields)
    where
      field_alike : (f : Atom) → field_text p f ≡ field_text q f
      field_alike (atom.Num n) = refl
      field_alike (atom.Truth b) = refl
      field_alike (atom.Const k) = ap (λ (names : List (List ℕ)). codes "." ++ text_or_none (slice_get names k)) same.constants
      field_alike (atom.Event e) = refl

  pub infos_agree : (n : ℕ) (i j : EventInfo) → slice_get p.events n ≡ Some i → slice_get q.events n ≡ Some j → i ≡ j → AgreeAt p q n
  infos_agree n i j here there is =
      slice_get-map (λ (info : EventInfo). info_text p (Some info)) p.events n ∙ ap (option_map (λ (info : EventInfo). info_text p (Some info))) here
      ∙ ap (λ (text : List ℕ). Some text) (ap₂ (λ (x y : List ℕ). x ++ y) (same.channels i.channel) (fields_alike i.fields) ∙ ap (λ (info : EventInfo). info_text q (Some info)) is)
      ∙ sym (slice_get-map (λ (info : EventInfo). info_text q (Some info)) q.events n ∙ ap (option_map (λ (info : EventInfo). info_text q (Some info))) there)

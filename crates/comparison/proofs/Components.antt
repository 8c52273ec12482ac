-- From the parts of two networks to their components: which conform, and which is the first that does not.
use Rattle.comparison.proofs.Prelude.{◌≡◌, ℕ, suc, ◌<◌, inl, inr, List, [], ◌∷◌, get_or, length, Some, refl, sym, ap, subst, ◌∙◌, arith, slice_get, get_or_read, same_Some, tables_tell, Proc, Content, HasForm, HaveForm, Component, leaves, Part, part_at, IsPartOf, component_of, one_part_each, part_of, part_within, alphabets, HasSilentBound, IsLive, IsSpelled, Network, HasParts, ProcessStep, AllConform, Conforms, Tells, ComponentsConform, ConformBefore, FailsToConform, HaveSameEvents, StandsFirst, failure, TableConforms, Fails, ConformFault, part_form, network_is_tree, conforming_networks_are_live, Stop}
use Rattle.conformance.specs.declared.fault.ConformFault.TheVariants as fault
use Rattle.csp_base.specs.declared.stop.Stop.TheVariants as stop
use Rattle.comparison.proofs.Lists.{alphabet_there, as_many_alphabets}

-- component by component
each_conforms : (p q : Content) (cs ds : List (Component Proc)) → alphabets cs ≡ alphabets ds
    → ((k : ℕ) (c d : Component Proc) → slice_get cs k ≡ Some c → slice_get ds k ≡ Some d → Conforms (ProcessStep p) (ProcessStep q) c d) → AllConform (ProcessStep p) (ProcessStep q) cs ds
each_conforms p q [] [] same each = tt
each_conforms p q [] (d ∷ ds) same each = absurd (let no : ◌≡◌ {A = List (List ℕ)} [] (d.alphabet ∷ alphabets ds) = same in cc)
each_conforms p q (c ∷ cs) [] same each = absurd (let no : ◌≡◌ {A = List (List ℕ)} (c.alphabet ∷ alphabets cs) [] = same in cc)
each_conforms p q (c ∷ cs) (d ∷ ds) same each =
    let rest : alphabets cs ≡ alphabets ds = (let whole : ◌≡◌ {A = List (List ℕ)} (c.alphabet ∷ alphabets cs) (d.alphabet ∷ alphabets ds) = same in cc) in
    (each 0 c d refl refl, each_conforms p q cs ds rest (λ k a b here there. each (suc k) a b here there))

fault_told : (network specified : Network) (n : ℕ) (c d : Component Proc) (p q : Part) → IsPartOf (ProcessStep network.program) c p → IsPartOf (ProcessStep specified.program) d q
    → StandsFirst network specified n c d → (f : Stop ConformFault) → Tells (Fails p.table q.table) f → Tells (FailsToConform network specified) (failure n f)
fault_told network specified n c d p q part other stands stop.NoMemory fails = tt
fault_told network specified n c d p q part other stands (stop.Told (fault.Outside s)) fails =
    (n, c, d, s, stands, inl ((tables_tell (ProcessStep network.program) (ProcessStep specified.program)).outside c d p q s part other fails, refl))
fault_told network specified n c d p q part other stands (stop.Told (fault.Refuses s)) fails =
    (n, c, d, s, stands, inr ((tables_tell (ProcessStep network.program) (ProcessStep specified.program)).refuses c d p q s part other fails, refl))

-- a part as it is read
pub part_read : (ps : List Part) (n : ℕ) (p : Part) → n < length ps → p ≡ get_or ps n p → p ≡ part_at ps n
part_read ps n p within at = get_or_read ps n p within at (record { alphabet = []; table = [] })

pub form_read : (ps : List Part) (n : ℕ) (p : Part) → HaveForm ps → n < length ps → p ≡ get_or ps n p → HasForm p
form_read ps n p form within at = subst HasForm (sym (part_read ps n p within at)) (part_form ps n within form)

module _ (network specified : Network) (ps qs : List Part) (has : HasParts network ps) (others : HasParts specified qs)
    (same : alphabets (leaves network.tree) ≡ alphabets (leaves specified.tree)) where
  pub as_many : length ps ≡ length qs
  as_many =
      let a = one_part_each (ProcessStep network.program) (leaves network.tree) ps has.are in
      let b = one_part_each (ProcessStep specified.program) (leaves specified.tree) qs others.are in
      let c : length (alphabets (leaves network.tree)) ≡ length (alphabets (leaves specified.tree)) = ap length same in
      omega (arith, a, b, c, as_many_alphabets (leaves network.tree), as_many_alphabets (leaves specified.tree))

  one_alphabet : (i : ℕ) (c d : Component Proc) → slice_get (leaves network.tree) i ≡ Some c → slice_get (leaves specified.tree) i ≡ Some d → c.alphabet ≡ d.alphabet
  one_alphabet i c d here there =
      same_Some c.alphabet d.alphabet (sym (alphabet_there (leaves network.tree) i c here) ∙ ap (λ (as' : List (List ℕ)). slice_get as' i) same ∙ alphabet_there (leaves specified.tree) i d there)

  pub same_events : HaveSameEvents ps qs
  same_events i within =
      let here = component_of (ProcessStep network.program) (leaves network.tree) ps has.are i within in
      let there = component_of (ProcessStep specified.program) (leaves specified.tree) qs others.are i (omega (arith, within, as_many)) in
      sym here.part.alphabet ∙ one_alphabet i here.component there.component here.listed there.listed ∙ there.part.alphabet

  one_conforms : (i : ℕ) (c d : Component Proc) → slice_get (leaves network.tree) i ≡ Some c → slice_get (leaves specified.tree) i ≡ Some d → TableConforms (part_at ps i).table (part_at qs i).table
      → Conforms (ProcessStep network.program) (ProcessStep specified.program) c d
  one_conforms i c d here there conforms =
      (tables_tell (ProcessStep network.program) (ProcessStep specified.program)).conforms c d (part_at ps i) (part_at qs i)
      (part_of (ProcessStep network.program) (leaves network.tree) ps has.are i c here) (part_of (ProcessStep specified.program) (leaves specified.tree) qs others.are i d there) (one_alphabet i c d here there) conforms

  pub all_conform : ConformBefore ps qs (length ps) → ComponentsConform network specified
  all_conform conform =
      each_conforms network.program specified.program (leaves network.tree) (leaves specified.tree) same
      (λ i c d here there. one_conforms i c d here there (conform i (part_within (ProcessStep network.program) (leaves network.tree) ps has.are i c here)))

  -- the first part that does not conform is that of the first component
  pub first_fails : (n : ℕ) (f : Stop ConformFault) → n < length ps → ConformBefore ps qs n → Tells (Fails (part_at ps n).table (part_at qs n).table) f → Tells (FailsToConform network specified) (failure n f)
  first_fails n f within before fails =
      let here = component_of (ProcessStep network.program) (leaves network.tree) ps has.are n within in
      let there = component_of (ProcessStep specified.program) (leaves specified.tree) qs others.are n (omega (arith, within, as_many)) in
      fault_told network specified n here.component there.component (part_at ps n) (part_at qs n) here.part there.part (record {
        here = here.listed;
        there = there.listed;
        earlier = λ i c d less at other. one_conforms i c d at other (before i less);
      }) f fails

-- what a network inherits whose components conform
pub inherits : (network specified : Network) → IsSpelled network → IsSpelled specified → (ps : List Part) → HasParts network ps → ComponentsConform network specified → (bound : ℕ)
    → HasSilentBound network bound → (some : ℕ) → IsLive specified some → IsLive network bound
inherits network specified spelled other ps has conform bound exact some live =
    conforming_networks_are_live (ProcessStep network.program) (ProcessStep specified.program) network.tree specified.tree ps bound some
    (network_is_tree network.program network.tree spelled).0.nesting (network_is_tree specified.program specified.tree other).0.nesting has.are conform exact live

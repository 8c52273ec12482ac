-- Where a network passes, no point of its judgement can tell a fault. And two verdicts on one network have one status.
use Rattle.judgement_laws.proofs.Prelude.{◌≡◌, ◌≤◌, ℕ, length, take, sym, ap, subst, ◌∙◌, arith, min, length-take, slice_get_within, leaves, TripleDisjoint, sharers, Shape, Rule, NotedRule, one_network, IsDeadlockFree, IsJudged, RuleDecides, Breaks, Meets, Notes, notes_of, Network, HaveFewSets, IsApart, CanStop, HasNoParts, ShareEvent, StaysBusy, ProcessStep, Point, UnprovedUnless, passed, told, verdict_status, Refusal, Shortfall, Verdict, EachScriptHasOneStatus, Passes, network_faults_refute, RuleFault, all_told, same_ok, length-holders, alphabets, holders, faults_exclude_tables}
use Rattle.report.specs.declared.answer.Side.TheVariants as side
use Rattle.report.specs.declared.answer.Verdict.TheVariants as verdict

-- what holds at a point where no fault is told
pub goes_past : {A F X : Type 0} (Fails : F → Type 0) (Tells : F → A → Type 0) (Is : X → Type 0) (Then : X → A → Type 0) (Q : Type 0) (a : A) → ((f : F) → Fails f → ⊥)
    → ((x : X) → Is x → Then x a → Q) → Point Fails Tells Is Then a → Q
goes_past Fails Tells Is Then Q a never rest (told f fails tells) = absurd (never f fails)
goes_past Fails Tells Is Then Q a never rest (passed x is next) = rest x is next

-- ---- each of the faults

module _ (network : Network) where
  few_sets : (r : Refusal) → HaveFewSets network.program (leaves network.tree) → HasNoParts network r → ⊥
  few_sets r few (i, first, is) = few i first.component (slice_get_within (leaves network.tree) i first.component first.at) first.at first.many

  none_shared : (s : Shortfall) → TripleDisjoint (alphabets (leaves network.tree)) → ShareEvent network s → ⊥
  none_shared s apart (f, first_three, is) =
      let all = alphabets (leaves network.tree) in
      let e = f.event in
      let many : length (take 3 (holders 0 all e)) ≡ 3 = ap length first_three.first in
      let taken : length (take 3 (holders 0 all e)) ≡ min 3 (length (holders 0 all e)) = length-take 3 (holders 0 all e) in
      let whole : length (holders 0 all e) ≡ sharers all e = length-holders 0 all e in
      let few : sharers all e ≤ 2 = apart e in
      omega (arith, many, taken, whole, few)

  none_stops : (s : Shortfall) → StaysBusy network → CanStop network s → ⊥
  none_stops s busy (i, trace, stops, is) = busy i stops.component stops.listed trace stops.stops

  -- a rule has its notes once
  one_note : (rule : Rule) (m n : NotedRule) → Notes network rule m → Notes network rule n → m ≡ n
  one_note rule m n a b = same_ok (notes_of network rule) m n a b

  not_broken : (notes : NotedRule) (shape : Shape) (s : Shortfall) → IsApart network shape → Meets network notes → Breaks network notes s → ⊥
  not_broken notes shape s apart meets (f, breaks, tells) = network_faults_refute (ProcessStep network.program) network.tree shape apart.is notes f meets breaks

-- ---- a network that passes

pub complete : (network : Network) (rule : Rule) (v : Verdict) → Passes network rule → IsJudged network rule v → verdict_status v ≡ 0
unfolding IsJudged RuleDecides
complete network rule v passes judged =
    goes_past _ _ _ _ (verdict_status v ≡ 0) v (λ r. faults_exclude_tables network.program (leaves network.tree) passes.tables 0 r passes.are) (λ tables are judged1.
    goes_past _ _ _ _ (verdict_status v ≡ 0) v (λ r. few_sets network r passes.few) (λ parts by judged2.
    goes_past _ _ _ _ (verdict_status v ≡ 0) v (λ s. none_shared network s passes.apart) (λ shape apart judged3.
    goes_past _ _ _ _ (verdict_status v ≡ 0) v (λ s. none_stops network s passes.busy) (λ unit busy judged4.
    goes_past _ _ _ _ (verdict_status v ≡ 0) v (λ r. all_told network rule passes.notes r passes.noted) (λ notes noted judged5.
    goes_past _ _ _ _ (verdict_status v ≡ 0) v (λ s. not_broken network notes shape s apart
    (subst (λ (n : NotedRule). Meets network n) (one_note network rule passes.notes notes passes.noted noted) passes.meets))
    (λ unit' meets free. ap verdict_status free.is) judged5) judged4) judged3) judged2) judged1) judged

-- ---- two verdicts

-- Two verdicts at one point, where no fault is told of what stands there, and each that is told has the same status.
both_here : {F X : Type 0} (Fails : F → Type 0) (Tells : F → Verdict → Type 0) (Is Other : X → Type 0) (Then Next : X → Verdict → Type 0) (n : ℕ) (v w : Verdict)
    → ((f : F) (u : Verdict) → Tells f u → verdict_status u ≡ n) → ((f : F) (x : X) → Fails f → Is x → ⊥) → ((f : F) (x : X) → Fails f → Other x → ⊥)
    → ((x y : X) → Is x → Other y → Then x v → Next y w → verdict_status v ≡ verdict_status w) → Point Fails Tells Is Then v → Point Fails Tells Other Next w → verdict_status v ≡ verdict_status w
both_here Fails Tells Is Other Then Next n v w as_told never never' rest (told f fails tells) (told g fails' tells') = as_told f v tells ∙ sym (as_told g w tells')
both_here Fails Tells Is Other Then Next n v w as_told never never' rest (told f fails tells) (passed y is' next') = absurd (never' f y fails is')
both_here Fails Tells Is Other Then Next n v w as_told never never' rest (passed x is next) (told g fails' tells') = absurd (never g x fails' is)
both_here Fails Tells Is Other Then Next n v w as_told never never' rest (passed x is next) (passed y is' next') = rest x y is is' next next'

refused_two : (r : Refusal) (v : Verdict) → v ≡ verdict.Refused side.Script r → verdict_status v ≡ 2
refused_two r v is = ap verdict_status is

unproved_one : (s : Shortfall) (v : Verdict) → v ≡ verdict.NotProved s → verdict_status v ≡ 1
unproved_one s v is = ap verdict_status is

module _ (network : Network) (rule : Rule) (v w : Verdict) where
  rules_agree : (shape other : Shape) → IsApart network shape → IsApart network other → RuleDecides network rule shape v → RuleDecides network rule other w → verdict_status v ≡ verdict_status w
  unfolding RuleDecides
  rules_agree shape other apart apart' decides decides' =
      both_here _ _ _ _ _ _ 2 v w refused_two (λ r notes fails noted. all_told network rule notes r noted fails) (λ r notes fails noted. all_told network rule notes r noted fails)
      (λ notes others noted noted' next next'.
      both_here _ _ _ _ _ _ 1 v w unproved_one
      (λ s u fails meets. not_broken network notes shape s apart meets fails)
      (λ s u fails meets. not_broken network notes shape s apart meets fails)
      (λ u u' meets meets' free free'. ap verdict_status free.is ∙ sym (ap verdict_status free'.is))
      next (subst (λ (n : NotedRule). UnprovedUnless (Breaks network n) (Meets network n) (IsDeadlockFree network rule n other) w)
      (sym (one_note network rule notes others noted noted')) next')) decides decides'

  one_status : IsJudged network rule v → IsJudged network rule w → verdict_status v ≡ verdict_status w
  unfolding IsJudged
  one_status judged judged' =
      let p = network.program in
      let cs = leaves network.tree in
      both_here _ _ _ _ _ _ 2 v w refused_two (λ r ts fails are. faults_exclude_tables p cs ts 0 r are fails) (λ r ts fails are. faults_exclude_tables p cs ts 0 r are fails)
      (λ ts us are are' next1 next1'.
      both_here _ _ _ _ _ _ 2 v w refused_two (λ r ps fails by. few_sets network r by.few fails) (λ r ps fails by. few_sets network r by.few fails)
      (λ ps qs by by' next2 next2'.
      both_here _ _ _ _ _ _ 1 v w unproved_one (λ s shape fails apart. none_shared network s apart.apart fails) (λ s shape fails apart. none_shared network s apart.apart fails)
      (λ shape shape' apart apart' next3 next3'.
      both_here _ _ _ _ _ _ 1 v w unproved_one (λ s u fails busy. none_stops network s busy fails) (λ s u fails busy. none_stops network s busy fails)
      (λ u u' busy busy' next4 next4'. rules_agree shape shape' apart apart' next4 next4')
      next3 next3') next2 next2') next1 next1') judged judged'

pub each_script_has_one_status : EachScriptHasOneStatus
each_script_has_one_status script network other rule v w is is' judged judged' =
    one_status network rule v w judged (subst (λ (n : Network). IsJudged n rule w) (sym (one_network script network other is is')) judged')

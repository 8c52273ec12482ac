-- What was read of texts is what they call for.
use Rattle.dl_top.proofs.Prelude.{◌≡◌, ℕ, List, Result, IfErr, IfOk, inl, inr, refl, sym, ap, subst, IsErrAnd, IfErr-weaker, IfOk-weaker, err_from_is_err_and, Job, Livelock, IsCompared, Script, EachTextSpellsOneScript, Spells, IsBounded, IsNetworkOf, Network, HasNoNetwork, weaker, Tells, Stop, Answers, Ends, Halt, Answer, Done, Side, Verdict, IsDecided, NetworkDecides, SpellsNoNetwork, SpellsNoScript, SpellsOnlyNetwork, SpellsOnlyScript, TextCallsFor, TextIsShown, TextsCompare, no_script, NoScript, IsPlaceOf, Content, one_network}
use Rattle.csp_base.specs.declared.stop.Stop.TheVariants as stop
use Rattle.report.specs.declared.answer.Answer.TheVariants as answer
use Rattle.report.specs.declared.answer.Side.TheVariants as side
use Rattle.dl_top.proofs.Walks.{at_end}

-- ---- one text

-- the script that was read is the only one
pub only_script : (text : List ℕ) (s : Script) → Spells text s → EachTextSpellsOneScript → SpellsOnlyScript text s
only_script text s spelled only = record { spelled = spelled; only = λ t other. only text t s other spelled }

pub no_script_read : (side : Side) (text : List ℕ) (why : Stop NoScript) → Tells (λ _. (s : Script) → Spells text s → ⊥) why → Tells (λ fault. IsPlaceOf text fault.at) why
    → Tells (SpellsNoScript side text) (no_script side why)
no_script_read side text stop.NoMemory none place = tt
no_script_read side text (stop.Told fault) none place = record { none = none; at = fault.at; place = place; told = refl }

-- the network of the only script is the only one
only_network : (text : List ℕ) (script : Script) (network : Network) → SpellsOnlyScript text script → IsNetworkOf script network → SpellsOnlyNetwork text network
only_network text script network spells is = record {
  spelled = record { script = script; spelled = spells.spelled; is = is };
  only = λ other there.
      one_network script other network (subst (λ (s : Script). IsNetworkOf s other) (spells.only there.script there.spelled) there.is) is;
}

module _ (side : Side) (text : List ℕ) where
  pub no_script_exit : {A : Type 0} (r : Result A (Stop Answer)) (why : Stop Answer) → IsErrAnd r (λ t. t ≡ why) → Tells (SpellsNoScript side text) why → IfErr r (Tells (SpellsNoNetwork side text))
  no_script_exit r why exit tells =
      let p = err_from_is_err_and r exit in
      subst (λ (x : Result _ (Stop Answer)). IfErr x (Tells (SpellsNoNetwork side text))) (sym p.1)
      (subst (Tells (SpellsNoNetwork side text)) (sym p.2) (weaker (SpellsNoScript side text) (SpellsNoNetwork side text) (λ a none. inl none) why tells))

  module _ (script : Script) (only : SpellsOnlyScript text script) where
    pub spelled : {E : Type 0} (made : Result Network E) → IfOk made (IsNetworkOf script) → IfOk made (SpellsOnlyNetwork text)
    spelled made is = IfOk-weaker made (IsNetworkOf script) (SpellsOnlyNetwork text) (λ network. only_network text script network only) is

    pub unspelled : {A : Type 0} (made : Result A (Stop Answer)) → IfErr made (Tells (HasNoNetwork side script)) → IfErr made (Tells (SpellsNoNetwork side text))
    unspelled made tells =
        IfErr-weaker made (Tells (HasNoNetwork side script)) (Tells (SpellsNoNetwork side text))
        (weaker (HasNoNetwork side script) (SpellsNoNetwork side text) (λ a none. inr (script, only, none))) tells

-- ---- what is decided

-- the name of a set, read from a job
pub set_decides : (job : Job) (network : Network) (set slice : List ℕ) (r : Result Done Halt) → job ≡ Livelock set → slice ≡ set → Answers (IsBounded network slice) r
    → Answers (NetworkDecides job network) r
set_decides job network set slice r is same bounded =
    subst (λ (j : Job). Answers (NetworkDecides j network) r) (sym is) (subst (λ (name : List ℕ). Answers (IsBounded network name) r) same bounded)

-- a verdict with the network's program
told_with : (network : Network) (Decides : Verdict → Type 0) (v : Verdict) (program : Content) → program ≡ network.program → Decides v → IsDecided network Decides (answer.Decided program v)
told_with network Decides v program same decides = (v, decides, ap (λ (p : Content). answer.Decided p v) same)

module _ (text : List ℕ) (job : Job) where
  pub at_network : (r : Result Answer (Stop Answer)) (why : Stop Answer) → IsErrAnd r (λ t. t ≡ why) → Tells (SpellsNoNetwork side.Script text) why → Ends (TextCallsFor text job) r
  at_network r why exit tells = at_end (TextCallsFor text job) r why exit (weaker (SpellsNoNetwork side.Script text) (TextCallsFor text job) (λ a none. inl none) why tells)

  pub decides : (network : Network) (v : Verdict) (program : Content) → SpellsOnlyNetwork text network → program ≡ network.program → NetworkDecides job network v
      → TextCallsFor text job (answer.Decided program v)
  decides network v program spells same decided = inr (network, spells, told_with network (NetworkDecides job network) v program same decided)

-- a script that is shown
pub at_script : (text : List ℕ) (r : Result Answer (Stop Answer)) (why : Stop Answer) → IsErrAnd r (λ t. t ≡ why) → Tells (SpellsNoScript side.Script text) why → Ends (TextIsShown text) r
at_script text r why exit tells = at_end (TextIsShown text) r why exit (weaker (SpellsNoScript side.Script text) (TextIsShown text) (λ a none. inl none) why tells)

-- two texts
module _ (text specification : List ℕ) (r : Result Answer (Stop Answer)) where
  pub at_script_network : (why : Stop Answer) → IsErrAnd r (λ t. t ≡ why) → Tells (SpellsNoNetwork side.Script text) why → Ends (TextsCompare text specification) r
  at_script_network why exit tells = at_end (TextsCompare text specification) r why exit (weaker (SpellsNoNetwork side.Script text) (TextsCompare text specification) (λ a none. inl none) why tells)

  pub at_specified_network : (network : Network) (why : Stop Answer) → SpellsOnlyNetwork text network → IsErrAnd r (λ t. t ≡ why) → Tells (SpellsNoNetwork side.Specification specification) why
      → Ends (TextsCompare text specification) r
  at_specified_network network why spells exit tells =
      at_end (TextsCompare text specification) r why exit
      (weaker (SpellsNoNetwork side.Specification specification) (TextsCompare text specification) (λ a none. inr (network, spells, inl none)) why tells)

pub compares : (text specification : List ℕ) (network specified : Network) (v : Verdict) (program : Content) → SpellsOnlyNetwork text network → SpellsOnlyNetwork specification specified
    → program ≡ network.program → IsCompared network specified v → TextsCompare text specification (answer.Decided program v)
compares text specification network specified v program spells specifies same compared =
    inr (network, spells, inr (specified, specifies, told_with network (IsCompared network specified) v program same compared))

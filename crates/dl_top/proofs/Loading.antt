-- Texts that are loaded one after another, and the reply for which they call.
use Rattle.dl_top.proofs.Prelude.{◌≡◌, ◌≤◌, ℕ, List, [], ◌∷◌, Option, None, Some, Result, Ok, Err, IfNone, IfSome, inl, inr, refl, sym, ap, subst, ◌∙◌, arith, length, IsErrAnd, same_Some, Asks, IsNoRequest, names, trial_of, Request, Trial, MOST_BYTES, Counts, HasRisen, AnswersTold, LoadAnswers, text_of, NamedText, weaker, status, Ends, IsEnd, Answer, Side, Tells, Stop, CallsFor, HoldsAll, HoldsAllNamed, IsLoad, Loaded, LoadsHeld, MayGive, Replies, TellsLoad, TextsCallFor, HoldWithin, Handed, HaveGiven, IsUnloaded, plain, reply_status, Reply, words_ask_once, LoadFault, Missing, TooLong, Failed, NoMemory, OutsideFault}
use Rattle.command_words.specs.declared.request.Request.TheVariants as request
use Rattle.report.specs.declared.answer.Answer.TheVariants as answer
use Rattle.report.specs.declared.answer.Side.TheVariants as side
use Rattle.report.specs.declared.answer.Verdict.TheVariants as verdict
use Rattle.dl_top.proofs.Promising.{IsInside, inside}
use Rattle.dl_top.proofs.Walks.{at_end, is_end}

-- ---- one load

pub load_is_short : (texts : Option (List NamedText)) (old new : Counts) (name text : List ℕ) → LoadAnswers texts old new name MOST_BYTES (Ok text) → length text ≤ MOST_BYTES
load_is_short None old new name text load = load
load_is_short (Some held) old new name text load = load.1

pub unloaded : (Load : Result (List ℕ) LoadFault → Type 0) (s : Side) (f : LoadFault) (why : Stop Answer) → Load (Err f) → Tells (TellsLoad s f) why → Tells (IsUnloaded Load s) why
unloaded Load s f why load tells = weaker (TellsLoad s f) (IsUnloaded Load s) (λ a is. (f, load, is)) why tells

-- a text that can't be loaded has a status of more than 1
tells_more : (s : Side) (f : LoadFault) (a : Answer) → TellsLoad s f a → status a ≤ 1 → ⊥
tells_more s Missing a is few = let four : status a ≡ 4 = ap status is in omega (arith, four, few)
tells_more s TooLong a is few = let two : status a ≡ 2 = ap status is in omega (arith, two, few)
tells_more s Failed a is few = let four : status a ≡ 4 = ap status is in omega (arith, four, few)
tells_more s NoMemory a is few = is

-- ---- loads of any shelf

module _ {S : Type 0} (Loads : S → S → List ℕ → Result (List ℕ) LoadFault → Type 0) where
  -- the first of the texts is not loaded
  pub at_load : (s : Side) (old new : S) (name : List ℕ) (more : List (List ℕ)) (Then : List (List ℕ) → Answer → Type 0) (r : Result Answer (Stop Answer)) (why : Stop Answer)
      → IsErrAnd r (λ t. t ≡ why) → Tells (IsUnloaded (Loads old new name) s) why → Ends (Loaded Loads s old new (name ∷ more) Then) r
  at_load s old new name more Then r why exit tells =
      at_end (Loaded Loads s old new (name ∷ more) Then) r why exit (weaker (IsUnloaded (Loads old new name) s) (Loaded Loads s old new (name ∷ more) Then) (λ a is. inl is) why tells)

  -- the second is not
  pub at_second : (old between new : S) (first second text : List ℕ) (Then : List (List ℕ) → Answer → Type 0) (r : Result Answer (Stop Answer)) (why : Stop Answer) → Loads old between first (Ok text)
      → IsErrAnd r (λ t. t ≡ why) → Tells (IsUnloaded (Loads between new second) side.Specification) why → Ends (Loaded Loads side.Script old new (first ∷ second ∷ []) Then) r
  at_second old between new first second text Then r why load exit tells =
      at_end (Loaded Loads side.Script old new (first ∷ second ∷ []) Then) r why exit
      (weaker (IsUnloaded (Loads between new second) side.Specification) (Loaded Loads side.Script old new (first ∷ second ∷ []) Then) (λ a is. inr (text, between, load, inl is)) why tells)

  -- a request that is read
  pub same_request : (old new : S) (r q : Request) (result : Result Answer (Stop Answer)) → r ≡ q → Ends (Loaded Loads side.Script old new (names q) (TextsCallFor q)) result
      → Ends (Loaded Loads side.Script old new (names r) (TextsCallFor r)) result
  same_request old new r q result same ends = subst (λ (x : Request). Ends (Loaded Loads side.Script old new (names x) (TextsCallFor x)) result) (sym same) ends

  -- the reply to what the words ask for
  pub gives : (words : List (List ℕ)) (found : Option Request) (r : Request) (old new : S) (trial : Option Trial) (walk : Result Answer (Stop Answer)) (a : Answer) → found ≡ Some r
      → IfSome found (Asks words) → trial ≡ trial_of r → Ends (Loaded Loads side.Script old new (names r) (TextsCallFor r)) walk → IsEnd walk a
      → MayGive Loads words old new (record { trial = trial; answer = a })
  gives words found r old new trial walk a is asked same ends end = inr (
    r,
    subst (λ (o : Option Request). IfSome o (Asks words)) is asked,
    record { trial = same; calls = is_end (Loaded Loads side.Script old new (names r) (TextsCallFor r)) walk a ends end },
  )

  pub gives_usage : (words : List (List ℕ)) (found : Option Request) (old new : S) → found ≡ None → IfNone found (IsNoRequest words) → MayGive Loads words old new (plain answer.Usage)
  gives_usage words found old new is none = inl (subst (λ (o : Option Request). IfNone o (IsNoRequest words)) is none, refl)

  -- what the words ask for is the only request
  pub only : (words : List (List ℕ)) (r : Request) (old new : S) (reply : Reply) → Asks words r → MayGive Loads words old new reply → Replies Loads old new r reply
  only words r old new reply asked (inl none) = absurd (none.0 r asked)
  only words r old new reply asked (inr (s, asked', replies)) = subst (λ (q : Request). Replies Loads old new q reply) (words_ask_once words s r asked' asked) replies

pub names_none : (r q : Request) → r ≡ q → (names q ≡ [] → ⊥) → names r ≡ [] → ⊥
names_none r q same never none = never (sym (ap names same) ∙ none)

-- ---- loads of a shelf that says what they gave

-- where texts are told, what was loaded is the one under the name
told_text : (texts : Option (List NamedText)) (before now : Counts) (name text : List ℕ) → LoadAnswers texts before now name MOST_BYTES (Ok text)
    → IfSome texts (λ held. text_of held name ≡ Some text)
told_text (Some held) before now name text answers = answers.0
told_text None before now name text answers = tt

module _ {S : Type 0} (texts : S → Option (List NamedText)) (counts : S → Counts) (gives : S → S → List ℕ → List ℕ → Type 0) where
  -- where the texts decide, they are those that the loads gave
  pub given : (s : Side) (old new : S) (ns : List (List ℕ)) (Then : List (List ℕ) → Answer → Type 0) (a : Answer) → Loaded (IsLoad texts counts gives) s old new ns Then a → status a ≤ 1
      → (ts : List (List ℕ)) × HaveGiven (Handed texts gives) old new ns ts × Then ts a
  given s old new [] Then a (same, then) few = ([], same, then)
  given s old new (n ∷ ns) Then a (inl (f, load, tells)) few = absurd (tells_more s f a tells few)
  given s old new (n ∷ ns) Then a (inr (t, between, load, rest)) few =
      let later = given side.Specification between new ns (λ ts. Then (t ∷ ts)) a rest few in
      (t ∷ later.0, (between, (load.given, load.texts_stay, told_text (texts old) (counts old) (counts between) n t load.answers), later.1), later.2)

  -- no count falls
  never_falls : (s : Side) (old new : S) (ns : List (List ℕ)) (Then : List (List ℕ) → Answer → Type 0) (a : Answer) → Loaded (IsLoad texts counts gives) s old new ns Then a
      → (counts old).faults ≤ (counts new).faults
  never_falls s old new [] Then a (same, then) = subst (λ (x : S). (counts old).faults ≤ (counts x).faults) (sym same) (omega arith)
  never_falls s old new (n ∷ ns) Then a (inl (f, load, tells)) = load.never_fall.faults
  never_falls s old new (n ∷ ns) Then a (inr (t, between, load, rest)) =
      let here = load.never_fall.faults in
      let later = never_falls side.Specification between new ns (λ ts. Then (t ∷ ts)) a rest in
      omega (arith, here, later)

-- a load in which no count rose
quiet_told : (held : List NamedText) (name : List ℕ) (rose : Type 0) (r : Result (List ℕ) LoadFault) → ¬ rose → AnswersTold held name MOST_BYTES rose r → AnswersTold held name MOST_BYTES ⊥ r
quiet_told held name rose (Ok text) still load = (load.0, load.1, λ no. no)
quiet_told held name rose (Err Missing) still load = (load.0, λ no. no)
quiet_told held name rose (Err TooLong) still load = (load.0, λ no. no)
quiet_told held name rose (Err Failed) still load = absurd (still load)
quiet_told held name rose (Err NoMemory) still load = tt

quiet_load : (texts : Option (List NamedText)) (held : List NamedText) (old new : Counts) (name : List ℕ) (r : Result (List ℕ) LoadFault) → texts ≡ Some held → ¬ HasRisen old.faults new.faults
    → LoadAnswers texts old new name MOST_BYTES r → LoadsHeld held tt tt name r
quiet_load texts held old new name r is still load =
    quiet_told held name (HasRisen old.faults new.faults) r still (subst (λ (o : Option (List NamedText)). LoadAnswers o old new name MOST_BYTES r) is load)

rises_first : (a b c : ℕ) → b ≤ c → HasRisen a b → HasRisen a c
rises_first a b c le rose = omega arith

rises_later : (a b c : ℕ) → a ≤ b → HasRisen b c → HasRisen a c
rises_later a b c le rose = omega arith

module _ {S : Type 0} (texts : S → Option (List NamedText)) (counts : S → Counts) (gives : S → S → List ℕ → List ℕ → Type 0) (held : List NamedText) where
  -- where no count rose, the texts are those that the shelf holds
  quiet_loads : (s : Side) (old new : S) (ns : List (List ℕ)) (Then : List (List ℕ) → Answer → Type 0) (a : Answer) → texts old ≡ Some held → ¬ HasRisen (counts old).faults (counts new).faults
      → Loaded (IsLoad texts counts gives) s old new ns Then a → Loaded (LoadsHeld held) s tt tt ns Then a
  quiet_loads s old new [] Then a is still (same, then) = (refl, then)
  quiet_loads s old new (n ∷ ns) Then a is still (inl (f, load, tells)) = inl (f, quiet_load (texts old) held (counts old) (counts new) n (Err f) is still load.answers, tells)
  quiet_loads s old new (n ∷ ns) Then a is still (inr (t, between, load, rest)) =
      let here = load.never_fall.faults in
      let later = never_falls texts counts gives side.Specification between new ns (λ ts. Then (t ∷ ts)) a rest in
      inr (
        t,
        tt,
        quiet_load (texts old) held (counts old) (counts between) n (Ok t) is (λ rose. still (rises_first _ _ _ later rose)) load.answers,
        quiet_loads side.Specification between new ns (λ ts. Then (t ∷ ts)) a (load.texts_stay ∙ is) (λ rose. still (rises_later _ _ _ here rose)) rest,
      )

  pub quiet_gives : (words : List (List ℕ)) (old new : S) (reply : Reply) → texts old ≡ Some held → ¬ HasRisen (counts old).faults (counts new).faults
      → MayGive (IsLoad texts counts gives) words old new reply → CallsFor held words reply
  quiet_gives words old new reply is still (inl none) = inl none
  quiet_gives words old new reply is still (inr (r, asked, replies)) =
      inr (r, asked, record { trial = replies.trial; calls = quiet_loads side.Script old new (names r) (TextsCallFor r) reply.answer is still replies.calls })

-- ---- texts that are held

module _ (texts : List NamedText) where
  -- a text that is held within the limit is loaded
  never_told : (s : Side) (name text : List ℕ) (f : LoadFault) (a : Answer) → text_of texts name ≡ Some text → length text ≤ MOST_BYTES → LoadsHeld texts tt tt name (Err f) → TellsLoad s f a → ⊥
  never_told s name text Missing a held within load tells = let no : None ≡ Some text = sym load.0 ∙ held in cc
  never_told s name text TooLong a held within load tells =
      let long = load.0 in
      let same : long.0 ≡ text = same_Some long.0 text (sym long.1 ∙ held) in
      let few : length long.0 ≤ MOST_BYTES = subst (λ (t : List ℕ). length t ≤ MOST_BYTES) (sym same) within in
      let many = long.2 in
      omega (arith, few, many)
  never_told s name text Failed a held within load tells = load
  never_told s name text NoMemory a held within load tells = tells

  -- the texts that are held within the limit decide
  pub held_decide : (s : Side) (ns ts : List (List ℕ)) (Then : List (List ℕ) → Answer → Type 0) (a : Answer) → HoldWithin texts ns ts → Loaded (LoadsHeld texts) s tt tt ns Then a → Then ts a
  held_decide s [] [] Then a hold (same, then) = then
  held_decide s (n ∷ ns) (t ∷ ts) Then a (here, within, hold) (inl (f, load, tells)) = absurd (never_told s n t f a here within load tells)
  held_decide s (n ∷ ns) (t ∷ ts) Then a (here, within, hold) (inr (u, between, load, rest)) =
      subst (λ (x : List ℕ). Then (x ∷ ts) a) (same_Some u t (sym load.0 ∙ here)) (held_decide side.Specification ns ts (λ more. Then (u ∷ more)) a hold rest)
  held_decide s [] (t ∷ ts) Then a hold loaded = absurd hold
  held_decide s (n ∷ ns) [] Then a hold loaded = absurd hold

  -- where all texts are held, none is missing
  told_inside : (s : Side) (name : List ℕ) (f : LoadFault) (a : Answer) → (text : List ℕ) × (text_of texts name ≡ Some text) → LoadsHeld texts tt tt name (Err f) → TellsLoad s f a → IsInside a
  told_inside s name Missing a held load tells four = let no : None ≡ Some held.0 = sym load.0 ∙ held.1 in cc
  told_inside s name TooLong a held load tells four = let no : ◌≡◌ {A = ℕ} 2 4 = sym (ap status tells) ∙ four in cc
  told_inside s name Failed a held load tells four = absurd load
  told_inside s name NoMemory a held load tells four = absurd tells

  loaded_inside : (s : Side) (ns : List (List ℕ)) (Then : List (List ℕ) → Answer → Type 0) (a : Answer) → HoldsAll texts ns → ((ts : List (List ℕ)) → Then ts a → IsInside a)
      → Loaded (LoadsHeld texts) s tt tt ns Then a → IsInside a
  loaded_inside s [] Then a hold rest (same, then) = rest [] then
  loaded_inside s (n ∷ ns) Then a hold rest (inl (f, load, tells)) = told_inside s n f a hold.0 load tells
  loaded_inside s (n ∷ ns) Then a hold rest (inr (t, between, load, later)) = loaded_inside side.Specification ns (λ ts. Then (t ∷ ts)) a hold.1 (λ ts. rest (t ∷ ts)) later

  pub held_not_four : (words : List (List ℕ)) (reply : Reply) → HoldsAllNamed texts words → CallsFor texts words reply → reply_status reply ≡ 4 → ⊥
  held_not_four words reply held (inl none) four = let no : ◌≡◌ {A = ℕ} 3 4 = sym (ap reply_status none.1) ∙ four in cc
  held_not_four words reply held (inr (r, asked, replies)) four =
      loaded_inside side.Script (names r) (TextsCallFor r) reply.answer (held r asked) (λ ts calls. inside r ts reply.answer calls) replies.calls four

-- ---- faults outside

-- status 4 is that of a fault outside
outside : (a : Answer) → status a ≡ 4 → (s : Side) × (f : OutsideFault) × (a ≡ answer.Outside s f)
outside answer.Usage four = absurd (let no : ◌≡◌ {A = ℕ} 3 4 = four in cc)
outside (answer.Outside s f) four = (s, f, refl)
outside (answer.NoProgram s f) four = absurd (let no : ◌≡◌ {A = ℕ} 2 4 = four in cc)
outside (answer.Shown text) four = absurd (let no : ◌≡◌ {A = ℕ} 0 4 = four in cc)
outside (answer.Decided p (verdict.Refused s r)) four = absurd (let no : ◌≡◌ {A = ℕ} 2 4 = four in cc)
outside (answer.Decided p (verdict.NotProved s)) four = absurd (let no : ◌≡◌ {A = ℕ} 1 4 = four in cc)
outside (answer.Decided p (verdict.Stuck moves)) four = absurd (let no : ◌≡◌ {A = ℕ} 1 4 = four in cc)
outside (answer.Decided p (verdict.Done what)) four = absurd (let no : ◌≡◌ {A = ℕ} 0 4 = four in cc)

plain_is : (reply : Reply) (x : Answer) → reply.trial ≡ None → reply.answer ≡ x → reply ≡ plain x
plain_is reply x none is =
    let trials : reply ≡ record { trial = None; answer = reply.answer } = ap (λ (t : Option Trial). record { trial = t; answer = reply.answer }) none in
    let answers : record { trial = None; answer = reply.answer } ≡ plain x = ap (λ (a : Answer). record { trial = None; answer = a }) is in
    trials ∙ answers

-- a trial loads nothing
no_trial : {S : Type 0} (Loads : S → S → List ℕ → Result (List ℕ) LoadFault → Type 0) (old new : S) (r : Request) (reply : Reply) → Replies Loads old new r reply → reply_status reply ≡ 4 → reply.trial ≡ None
no_trial Loads old new (request.Show name) reply replies four = replies.trial
no_trial Loads old new (request.Script job name) reply replies four = replies.trial
no_trial Loads old new (request.Conform script specification) reply replies four = replies.trial
no_trial Loads old new (request.Trial trial) reply replies four = absurd (inside (request.Trial trial) [] reply.answer replies.calls.1 four)

pub shelf_fault : {S : Type 0} (Loads : S → S → List ℕ → Result (List ℕ) LoadFault → Type 0) (words : List (List ℕ)) (old new : S) (reply : Reply) → MayGive Loads words old new reply → reply_status reply ≡ 4
    → (s : Side) × (f : OutsideFault) × (reply ≡ plain (answer.Outside s f))
shelf_fault Loads words old new reply (inl none) four = absurd (let no : ◌≡◌ {A = ℕ} 3 4 = sym (ap reply_status none.1) ∙ four in cc)
shelf_fault Loads words old new reply (inr (r, asked, replies)) four =
    let fault = outside reply.answer four in
    (fault.0, fault.1, plain_is reply (answer.Outside fault.0 fault.1) (no_trial Loads old new r reply replies four) fault.2)

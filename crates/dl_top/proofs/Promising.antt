-- What texts call for keeps the promise of its status; and where the texts are such, the status is 0.
use Rattle.dl_top.proofs.Prelude.{◌≡◌, ◌≤◌, ℕ, Bool, true, false, List, [], ◌∷◌, Result, Ok, Err, IfOk, inl, inr, map, refl, sym, ap, subst, ◌∙◌, arith, pos, slice_get_within, Job, Check, Livelock, Run, Table, Request, Trial, IsCompared, IsConforming, Rule, Spells, Script, IsBounded, IsNetworkOf, Network, HaveFewSets, HasNoPart, HasTables, AreTablesOf, refused_or, passed, told, report_text, run_text, status, verdict_status, verdict_text, Answer, Side, Verdict, TextsCallFor, Passing, Running, SpellMatching, SpellsPassing, SpellsTabled, SpellsTables, SpellsWithinBound, TextPasses, IsDecided, NetworkDecides, NetworkOr, SpellsNetwork, SpellsNoNetwork, SpellsOnlyNetwork, SpellsOnlyScript, TextCallsFor, TextIsShown, TextsCompare, IsStuckRun, JobPromised, Promised, SpellsBounded, SpellsConforming, SpellsShown, SpellsTable, TellsRank, IsFree, SpellsDeadlockFree, IsRun, SpellsRun, last_line, rule_of, trial_text, compared_cases, comparison_is_exact, Matches, AreTargets, Proc, Component, leaves, WellNested, node_count, IsJudged, complete, faults_exclude_networks, all_go_on, IsJudgedWhole, classes, goes_on, has_greatest_rank, judged_whole, passes, Passes, bounds_are_told, bounded_cases, faults_exclude_tables, ComponentTable, network_is_tree, no_move_means_stuck, stays_nested, stuck_walks_refute_live, walks_are_runs, IsNetworkWalk, IsWalked, TellsWalk, walk_verdict, label, first_draw, Move, no_other, printed_spells, ProcessStep, Refusal, script_text, tabulated_cases, tabulated_is_complete, IsTabulated}
use Rattle.command_words.specs.declared.request.Request.TheVariants as request
use Rattle.report.specs.declared.answer.Side.TheVariants as side
use Rattle.report.specs.declared.answer.Verdict.TheVariants as verdict

-- ---- statuses

-- a text that spells no network is refused
none_two : (s : Side) (text : List ℕ) (a : Answer) → SpellsNoNetwork s text a → status a ≡ 2
none_two s text a (inl none) = ap status none.told
none_two s text a (inr (script, only, inl (f, refused, is))) = ap status is
none_two s text a (inr (script, only, inr (p, program, (f, fails, is)))) = ap status is

not_two : (n : ℕ) (a : Answer) → status a ≡ 2 → status a ≡ n → n ≤ 1 → ⊥
not_two n a two is few = omega (arith, two, is, few)

-- What holds of each verdict with this status that the network of a text decides holds of the answer for which the text calls.
pub decided : (text : List ℕ) (Decides : Network → Verdict → Type 0) (Q : List ℕ → Type 0) (n : ℕ) → n ≤ 1
    → ((network : Network) (v : Verdict) → SpellsOnlyNetwork text network → Decides network v → verdict_status v ≡ n → Q (verdict_text network.program v))
    → (a : Answer) → NetworkOr side.Script text (λ network. IsDecided network (Decides network)) a → status a ≡ n → Q (report_text a)
decided text Decides Q n few keeps a (inl none) is = absurd (not_two n a (none_two side.Script text a none) is few)
decided text Decides Q n few keeps a (inr (network, spells, (v, decides, same))) is =
    subst Q (sym (ap report_text same)) (keeps network v spells decides (sym (ap status same) ∙ is))

-- ---- judgements

ranked : (text : List ℕ) (rule : Rule) (network : Network) (v : Verdict) → SpellsOnlyNetwork text network → IsJudgedWhole network rule v → TellsRank text rule (verdict_text network.program v)
ranked text rule network v spells whole = record {
  free = record {
    network = network;
    spells = spells;
    bound = whole.free.bound;
    live = whole.free.live;
    exact = whole.free.exact;
    lasting = goes_on network rule v whole;
    nodes = node_count whole.shape.parts;
    classes = classes network rule v whole;
    greatest_rank = pos whole.free.rank;
    is = ap (verdict_text network.program) whole.free.is;
  };
  passes = passes network rule v whole;
  greatest = has_greatest_rank network rule v whole;
}

pub text_ranked : (text : List ℕ) (rule : Rule) (a : Answer) → TextCallsFor text (Check rule) a → status a ≡ 0 → TellsRank text rule (report_text a)
text_ranked text rule =
    decided text (λ network. IsJudged network rule) (TellsRank text rule) 0 (omega arith) (λ network v spells judged.
    judged_whole network rule (λ w. verdict_status w ≡ 0 → TellsRank text rule (verdict_text network.program w))
    (λ r zero. absurd (let no : 2 ≡ 0 = zero in cc)) (λ s zero. absurd (let no : 1 ≡ 0 = zero in cc)) (λ w whole zero. ranked text rule network w spells whole) v judged)

pub text_free : (text : List ℕ) (rule : Rule) (a : Answer) → TextCallsFor text (Check rule) a → status a ≡ 0 → SpellsDeadlockFree text rule (report_text a)
text_free text rule a calls zero = (text_ranked text rule a calls zero).free

-- ---- tables

pub text_told : (text : List ℕ) (i : ℕ) (a : Answer) → TextCallsFor text (Table i) a → status a ≡ 0 → SpellsTable text i (report_text a)
text_told text i =
    decided text (λ network. IsTabulated network i) (SpellsTable text i) 0 (omega arith) (λ network v spells tabulated.
    tabulated_cases network i (λ w. verdict_status w ≡ 0 → SpellsTable text i (verdict_text network.program w)) (λ r zero. absurd (let no : 2 ≡ 0 = zero in cc))
    (λ w whole zero. record {
      network = network;
      spells = spells;
      component = whole.component;
      there = whole.at;
      part = whole.part;
      normal = whole.normal;
      is = ap (verdict_text network.program) whole.is;
    }) v tabulated)

-- ---- bounds

pub text_bounded : (text name : List ℕ) (a : Answer) → TextCallsFor text (Livelock name) a → status a ≡ 0 → SpellsBounded text name (report_text a)
text_bounded text name =
    decided text (λ network. IsBounded network name) (SpellsBounded text name) 0 (omega arith) (λ network v spells bounded.
    bounded_cases network name (λ w. verdict_status w ≡ 0 → SpellsBounded text name (verdict_text network.program w)) spells.spelled.is.tree (λ r zero. absurd (let no : 2 ≡ 0 = zero in cc))
    (λ s zero. absurd (let no : 1 ≡ 0 = zero in cc))
    (λ w whole zero. record {
      network = network;
      spells = spells;
      lasting = all_go_on network.program (leaves network.tree) whole.tables whole.are;
      events = whole.events;
      set = whole.set;
      bound = whole.bound;
      bounds = whole.bounds;
      is = ap (verdict_text network.program) whole.is;
    }) v bounded)

-- ---- runs

abbrev run_status : Bool → ℕ
run_status true = 1
run_status false = 0

same_end : (b c : Bool) → run_status b ≡ run_status c → b ≡ c
same_end true true is = refl
same_end true false is = absurd (let no : 1 ≡ 0 = is in cc)
same_end false true is = absurd (let no : 0 ≡ 1 = is in cc)
same_end false false is = refl

few : (b : Bool) → run_status b ≤ 1
few true = omega arith
few false = omega arith

no_refusal : (b : Bool) → 2 ≡ run_status b → ⊥
no_refusal true is = let no : 2 ≡ 1 = is in cc
no_refusal false is = let no : 2 ≡ 0 = is in cc

walk_status : (b : Bool) (moves : List Move) → verdict_status (walk_verdict b moves) ≡ run_status b
walk_status true moves = refl
walk_status false moves = refl

walk_text : (network : Network) (b : Bool) (moves : List Move) → verdict_text network.program (walk_verdict b moves) ≡ run_text network.program moves (last_line b)
walk_text network true moves = refl
walk_text network false moves = refl

nested : (network : Network) (text : List ℕ) → SpellsOnlyNetwork text network → WellNested network.tree
nested network text spells = (network_is_tree network.program network.tree spells.spelled.is.tree).0.nesting

-- a walk of a network is a run of it
is_run : (network : Network) (seed steps : ℕ) (moves : List Move) (b : Bool) → WellNested network.tree → IsNetworkWalk network seed steps moves b → IsRun network seed steps moves b
is_run network seed steps moves b nested walk =
    let Step = ProcessStep network.program in
    let Targets = AreTargets network.program in
    let path = walks_are_runs Step Targets seed (first_draw seed) walk.drawn network.tree walk.last moves walk.walk in
    record {
      walk = walk;
      path = path;
      stuck = λ h. (no_move_means_stuck Step walk.last (stays_nested Step network.tree walk.last (map label moves) nested path)).0 (walk.stuck.0 h);
      dead = λ h bound. stuck_walks_refute_live Step Targets seed steps bound network.tree moves nested (subst (λ (x : Bool). IsNetworkWalk network seed steps moves x) h walk);
    }

spells_run : (text : List ℕ) (seed steps : ℕ) (b : Bool) (network : Network) (tables : List ComponentTable) (v : Verdict) → SpellsOnlyNetwork text network → HasTables network tables
    → TellsWalk network seed steps v → verdict_status v ≡ run_status b → SpellsRun text seed steps b (verdict_text network.program v)
spells_run text seed steps b network tables v spells are tells is =
    let end : tells.is_stuck ≡ b = same_end tells.is_stuck b (sym (walk_status tells.is_stuck tells.moves) ∙ sym (ap verdict_status tells.is) ∙ is) in
    record {
      network = network;
      spells = spells;
      lasting = all_go_on network.program (leaves network.tree) tables are;
      moves = tells.moves;
      run = is_run network seed steps tells.moves b (nested network text spells) (subst (λ (x : Bool). IsNetworkWalk network seed steps tells.moves x) end tells.walk);
      is = ap (verdict_text network.program) tells.is ∙ walk_text network tells.is_stuck tells.moves ∙ ap (λ (x : Bool). run_text network.program tells.moves (last_line x)) end;
    }

text_ran : (text : List ℕ) (seed steps : ℕ) (b : Bool) (a : Answer) → TextCallsFor text (Run seed steps) a → status a ≡ run_status b → SpellsRun text seed steps b (report_text a)
unfolding IsWalked
text_ran text seed steps b =
    decided text (λ network. IsWalked network seed steps) (SpellsRun text seed steps b) (run_status b) (few b) (λ network v spells walked.
    refused_or _ _ _ _ (λ w. verdict_status w ≡ run_status b → SpellsRun text seed steps b (verdict_text network.program w)) (λ r is. absurd (no_refusal b is))
    (λ tables w are tells is. spells_run text seed steps b network tables w spells are tells is) v walked)

pub text_goes_on : (text : List ℕ) (seed steps : ℕ) (a : Answer) → TextCallsFor text (Run seed steps) a → status a ≡ 0 → SpellsRun text seed steps false (report_text a)
text_goes_on text seed steps a calls is = text_ran text seed steps false a calls is

pub text_stuck : (text : List ℕ) (seed steps : ℕ) (a : Answer) → TextCallsFor text (Run seed steps) a → status a ≡ 1 → SpellsRun text seed steps true (report_text a)
text_stuck text seed steps a calls is = text_ran text seed steps true a calls is

-- ---- scripts that are shown

-- the printed text of a script that a text spells
printed_again : (text : List ℕ) (script : Script) → SpellsOnlyScript text script → SpellsOnlyScript (script_text script) script
printed_again text script spells =
    let first = spells.spelled in
    let again = printed_spells text first.tokens script first.cut first.spelled in
    record {
      spelled = record { tokens = again.0; cut = again.1; spelled = again.2 };
      only = λ t spelled. no_other text first.tokens script first.cut first.spelled spelled.tokens t spelled.cut spelled.spelled;
    }

pub text_shown : (text : List ℕ) (a : Answer) → TextIsShown text a → status a ≡ 0 → SpellsShown text (report_text a)
text_shown text a (inl none) zero = absurd (let no : 2 ≡ 0 = sym (ap status none.told) ∙ zero in cc)
text_shown text a (inr (script, spells, is)) zero = record {
  script = script;
  spells = spells;
  is = ap report_text is;
  again = subst (λ (t : List ℕ). SpellsOnlyScript t script) (sym (ap report_text is)) (printed_again text script spells);
}

-- ---- two texts

conforming : (text specification : List ℕ) (network specified : Network) (v : Verdict) → SpellsOnlyNetwork text network → SpellsOnlyNetwork specification specified → Matches network specified
    → IsConforming network specified v → SpellsConforming text specification (verdict_text network.program v)
conforming text specification network specified v spells specifies matches conforms = record {
  network = network;
  spells = spells;
  specified = specified;
  specifies = specifies;
  matches = matches;
  lasting = all_go_on network.program (leaves network.tree) matches.within.tables matches.within.are;
  specified_lasting = all_go_on specified.program (leaves specified.tree) matches.specified_within.tables matches.specified_within.are;
  bound = conforms.bound;
  exact = conforms.exact;
  inherits = conforms.inherits;
  is = ap (verdict_text network.program) conforms.is;
}

pub texts_conform : (text specification : List ℕ) (a : Answer) → TextsCompare text specification a → status a ≡ 0 → SpellsConforming text specification (report_text a)
texts_conform text specification a (inl none) zero = absurd (not_two 0 a (none_two side.Script text a none) zero (omega arith))
texts_conform text specification a (inr (network, spells, inl none)) zero = absurd (not_two 0 a (none_two side.Specification specification a none) zero (omega arith))
texts_conform text specification a (inr (network, spells, inr (specified, specifies, (v, compared, same)))) zero =
    subst (SpellsConforming text specification) (sym (ap report_text same))
    (compared_cases network specified (λ w. verdict_status w ≡ 0 → SpellsConforming text specification (verdict_text network.program w)) (λ s r never is. absurd (let no : 2 ≡ 0 = is in cc))
    (λ s never is. absurd (let no : 1 ≡ 0 = is in cc)) (λ w matches conforms is. conforming text specification network specified w spells specifies matches conforms) v compared (sym (ap status same) ∙ zero))

-- ---- all requests

pub keeps_job : (job : Job) (text : List ℕ) (a : Answer) → TextCallsFor text job a → status a ≡ 0 → JobPromised job text (report_text a)
keeps_job (Check rule) text a calls zero = text_ranked text rule a calls zero
keeps_job (Table i) text a calls zero = text_told text i a calls zero
keeps_job (Run seed steps) text a calls zero = text_goes_on text seed steps a calls zero
keeps_job (Livelock set) text a calls zero = text_bounded text set a calls zero

pub keeps : (r : Request) (texts : List (List ℕ)) (a : Answer) → TextsCallFor r texts a → status a ≡ 0 → Promised r texts (report_text a)
keeps (request.Show name) (text ∷ []) a calls zero = text_shown text a calls zero
keeps (request.Script job name) (text ∷ []) a calls zero = keeps_job job text a calls zero
keeps (request.Trial trial) [] a calls zero = text_ranked (trial_text trial) (rule_of trial.family) a calls zero
keeps (request.Conform script specification) (text ∷ next ∷ []) a calls zero = texts_conform text next a calls zero
keeps r texts a calls zero = absurd calls

pub keeps_free : (rule : Rule) (name : List ℕ) (texts : List (List ℕ)) (a : Answer) → TextsCallFor (request.Script (Check rule) name) texts a → status a ≡ 0
    → IsFree (request.Script (Check rule) name) texts (report_text a)
keeps_free rule name (text ∷ []) a calls zero = text_free text rule a calls zero
keeps_free rule name texts a calls zero = absurd calls

pub keeps_tried : (trial : Trial) (texts : List (List ℕ)) (a : Answer) → TextsCallFor (request.Trial trial) texts a → status a ≡ 0 → IsFree (request.Trial trial) texts (report_text a)
keeps_tried trial [] a calls zero = text_free (trial_text trial) (rule_of trial.family) a calls zero
keeps_tried trial (text ∷ texts) a calls zero = absurd calls

pub keeps_stuck : (seed steps : ℕ) (name : List ℕ) (texts : List (List ℕ)) (a : Answer) → TextsCallFor (request.Script (Run seed steps) name) texts a → status a ≡ 1
    → IsStuckRun (request.Script (Run seed steps) name) texts (report_text a)
keeps_stuck seed steps name (text ∷ []) a calls is = text_stuck text seed steps a calls is
keeps_stuck seed steps name texts a calls is = absurd calls

-- what holds of the answer to a text with a job holds of the answer where the job is known
pub of_job : {E : Type 0} (text : List ℕ) (job : Job) (made : Result Answer E) (Q : Answer → Type 0) → IfOk made (TextCallsFor text job)
    → ((a : Answer) → ((other : Job) → job ≡ other → TextCallsFor text other a) → Q a) → IfOk made Q
of_job text job (Err e) Q calls holds = tt
of_job text job (Ok a) Q calls holds = holds a (λ other same. subst (λ (j : Job). TextCallsFor text j a) same calls)

-- ---- completeness

-- a text that spells a network does not spell none
spells_one : (s : Side) (text : List ℕ) (network : Network) (a : Answer) → SpellsNetwork text network → SpellsNoNetwork s text a → ⊥
spells_one s text network a spelled (inl none) = none.none spelled.script spelled.spelled
spells_one s text network a spelled (inr (script, only, none)) =
    faults_exclude_networks s script network a (subst (λ (t : Script). IsNetworkOf t network) (only.only spelled.script spelled.spelled) spelled.is) none

text_completes : (text : List ℕ) (rule : Rule) (a : Answer) → SpellsPassing text rule → TextCallsFor text (Check rule) a → status a ≡ 0
text_completes text rule a passing (inl none) = absurd (spells_one side.Script text passing.network a passing.spelled none)
text_completes text rule a passing (inr (network, spells, (v, judged, same))) =
    ap status same ∙ complete network rule v (subst (λ (n : Network). Passes n rule) (spells.only passing.network passing.spelled) passing.passes) judged

pub texts_match : (text specification : List ℕ) (a : Answer) → SpellMatching text specification → TextsCompare text specification a → status a ≡ 0
texts_match text specification a matching (inl none) = absurd (spells_one side.Script text matching.network a matching.spelled none)
texts_match text specification a matching (inr (network, spells, inl none)) = absurd (spells_one side.Specification specification matching.specified a matching.specified_spelled none)
texts_match text specification a matching (inr (network, spells, inr (specified, specifies, (v, compared, same)))) =
    let first = spells.only matching.network matching.spelled in
    let second = specifies.only matching.specified matching.specified_spelled in
    ap status same ∙ (comparison_is_exact network specified v compared).1 (subst (λ (n : Network). Matches n specified) first (subst (λ (n : Network). Matches matching.network n) second matching.matches))

-- a component that has a table and few sets has its part
has_part : (network : Network) (i : ℕ) (c : Component Proc) (tables : List ComponentTable) → AreTablesOf network.program (c ∷ []) tables → HaveFewSets network.program (c ∷ []) → (r : Refusal)
    → HasNoPart network.program i c r → ⊥
has_part network i c tables are small r (inl none) = faults_exclude_tables network.program (c ∷ []) tables i r are none
has_part network i c tables are small r (inr (others, there, (j, first, is))) = small j first.component (slice_get_within (c ∷ []) j first.component first.at) first.at first.many

text_tabled : (text : List ℕ) (i : ℕ) (a : Answer) → SpellsTabled text i → TextCallsFor text (Table i) a → status a ≡ 0
text_tabled text i a tabled (inl none) = absurd (spells_one side.Script text tabled.network a tabled.spelled none)
text_tabled text i a tabled (inr (network, spells, (v, tabulated, same))) =
    let here = subst (λ (n : Network). IsTabulated n i v) (sym (spells.only tabled.network tabled.spelled)) tabulated in
    let whole = tabulated_is_complete tabled.network i tabled.component tabled.there (has_part tabled.network i tabled.component tabled.tables tabled.are tabled.few) v here in
    ap status same ∙ ap verdict_status whole.is

text_bounds : (text name : List ℕ) (a : Answer) → SpellsWithinBound text name → TextCallsFor text (Livelock name) a → status a ≡ 0
text_bounds text name a within (inl none) = absurd (spells_one side.Script text within.network a within.spelled none)
text_bounds text name a within (inr (network, spells, (v, bounded, same))) =
    let here = subst (λ (n : Network). IsBounded n name v) (sym (spells.only within.network within.spelled)) bounded in
    ap status same ∙ ap verdict_status (bounds_are_told within.network name within.bound v within.within here)

walk_runs : (seed steps : ℕ) (network : Network) (v : Verdict) (tables : List ComponentTable) → HasTables network tables → IsWalked network seed steps v → verdict_status v ≤ 1
unfolding IsWalked
walk_runs seed steps network v tables are (told r fails same) = absurd (faults_exclude_tables network.program (leaves network.tree) tables 0 r are fails)
walk_runs seed steps network v tables are (passed others these tells) =
    let ends = ap verdict_status tells.is ∙ walk_status tells.is_stuck tells.moves in
    let most = few tells.is_stuck in
    omega (arith, ends, most)

pub text_runs : (text : List ℕ) (seed steps : ℕ) (a : Answer) → SpellsTables text → TextCallsFor text (Run seed steps) a → status a ≤ 1
text_runs text seed steps a runs (inl none) = absurd (spells_one side.Script text runs.network a runs.spelled none)
text_runs text seed steps a runs (inr (network, spells, (v, walked, same))) =
    let here = subst (λ (n : Network). IsWalked n seed steps v) (sym (spells.only runs.network runs.spelled)) walked in
    let most = walk_runs seed steps runs.network v runs.tables runs.are here in
    subst (λ n. n ≤ 1) (sym (ap status same)) most

pub shown_completes : (text : List ℕ) (a : Answer) (script : Script) → Spells text script → TextIsShown text a → status a ≡ 0
shown_completes text a script spelled (inl none) = absurd (none.none script spelled)
shown_completes text a script spelled (inr (other, only, is)) = ap status is

pub text_passes : (job : Job) (text : List ℕ) (a : Answer) → TextPasses job text → TextCallsFor text job a → status a ≡ 0
text_passes (Check rule) text a passing calls = text_completes text rule a passing calls
text_passes (Table i) text a passing calls = text_tabled text i a passing calls
text_passes (Run seed steps) text a passing calls = absurd passing
text_passes (Livelock set) text a passing calls = text_bounds text set a passing calls

pub completes : (r : Request) (texts : List (List ℕ)) (a : Answer) → Passing r texts → TextsCallFor r texts a → status a ≡ 0
completes (request.Show name) (text ∷ []) a (script, spelled) calls = shown_completes text a script spelled calls
completes (request.Script job name) (text ∷ []) a passing calls = text_passes job text a passing calls
completes (request.Trial trial) [] a passing calls = text_completes (trial_text trial) (rule_of trial.family) a passing calls
completes (request.Conform script specification) (text ∷ next ∷ []) a passing calls = texts_match text next a passing calls
completes r texts a passing calls = absurd passing

pub runs : (r : Request) (texts : List (List ℕ)) (a : Answer) → Running r texts → TextsCallFor r texts a → status a ≤ 1
runs (request.Script (Run seed steps) name) (text ∷ []) a tables calls = text_runs text seed steps a tables calls
runs r texts a running calls = absurd running

-- ---- no text calls for an answer with status 4

few_verdicts : (v : Verdict) → verdict_status v ≡ 4 → ⊥
few_verdicts (verdict.Refused s r) four = let no : ◌≡◌ {A = ℕ} 2 4 = four in cc
few_verdicts (verdict.NotProved s) four = let no : ◌≡◌ {A = ℕ} 1 4 = four in cc
few_verdicts (verdict.Stuck moves) four = let no : ◌≡◌ {A = ℕ} 1 4 = four in cc
few_verdicts (verdict.Done what) four = let no : ◌≡◌ {A = ℕ} 0 4 = four in cc

abbrev pub IsInside : Answer → Type 0
IsInside a = status a ≡ 4 → ⊥

told_inside : (network : Network) (Decides : Verdict → Type 0) (a : Answer) → IsDecided network Decides a → IsInside a
told_inside network Decides a (v, decides, same) four = few_verdicts v (sym (ap status same) ∙ four)

network_inside : (s : Side) (text : List ℕ) (Then : Network → Answer → Type 0) → ((network : Network) (a : Answer) → Then network a → IsInside a) → (a : Answer) → NetworkOr s text Then a → IsInside a
network_inside s text Then rest a (inl none) four = let no : ◌≡◌ {A = ℕ} 2 4 = sym (none_two s text a none) ∙ four in cc
network_inside s text Then rest a (inr (network, spells, then)) four = rest network a then four

text_inside : (text : List ℕ) (job : Job) (a : Answer) → TextCallsFor text job a → IsInside a
text_inside text job a calls = network_inside side.Script text _ (λ network. told_inside network (NetworkDecides job network)) a calls

pub inside : (r : Request) (texts : List (List ℕ)) (a : Answer) → TextsCallFor r texts a → IsInside a
inside (request.Show name) (text ∷ []) a (inl none) four = let no : ◌≡◌ {A = ℕ} 2 4 = sym (ap status none.told) ∙ four in cc
inside (request.Show name) (text ∷ []) a (inr (script, spells, is)) four = let no : ◌≡◌ {A = ℕ} 0 4 = sym (ap status is) ∙ four in cc
inside (request.Script job name) (text ∷ []) a calls four = text_inside text job a calls four
inside (request.Trial trial) [] a calls four = text_inside (trial_text trial) (Check (rule_of trial.family)) a calls four
inside (request.Conform script specification) (text ∷ next ∷ []) a calls four =
    network_inside side.Script text _ (λ network. network_inside side.Specification next _ (λ specified. told_inside network (IsCompared network specified))) a calls four
inside r texts a calls four = absurd calls

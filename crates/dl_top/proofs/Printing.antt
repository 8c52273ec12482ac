-- What is printed of a reply, and how a call ends that sends it.
use Rattle.dl_top.proofs.Prelude.{◌≡◌, ◌≢◌, ◌≤◌, ℕ, List, ◌++◌, Option, None, Some, Result, Ok, Err, IfOk, IfSome, ap, inl, inr, refl, sym, ◌∙◌, subst, arith, Asks, names, Request, Trial, Counts, HasRisen, GrowsBy, NamedText, report_text, status, Answer, CallsFor, IsLoad, LoadsHeld, MayGive, TextsCallFor, AsksForSuch, EndsInShelfFault, EndsWhole, GrowsByFront, SinkSigns, Handed, Kept, Prints, heading_text, reply_status, reply_text, Reply, Printed}
use Rattle.report.specs.declared.answer.Side.TheVariants as side
use Rattle.dl_top.proofs.Loading.{given, held_decide, only, quiet_gives, shelf_fault}
use Rattle.dl_top.specs.Prelude.{Ends}

pub prints : {E : Type 0} (Cause : Reply → Type 0) (reply : Reply) (made : Result Printed E) → Cause reply → IfOk made (λ printed. printed.text ≡ reply_text reply)
    → IfOk made (λ printed. printed.status ≡ reply_status reply) → IfOk made (Prints Cause)
prints Cause reply (Ok printed) cause text status = record { reply = reply; cause = cause; text = text; status = status }
prints Cause reply (Err e) cause text status = tt

-- ---- how a call ends that sends what was printed

module _ (Cause : Reply → Type 0) (sink : SinkSigns) (printed : Printed) (is : Prints Cause printed) (slice : List ℕ) (read : slice ≡ printed.text) where
  front : GrowsByFront sink.old sink.new slice → GrowsByFront sink.old sink.new (reply_text is.reply)
  front grew = subst (λ (sent : List ℕ). GrowsByFront sink.old sink.new sent) (read ∙ is.text) grew

  pub ends_whole : GrowsBy sink.old sink.new slice → Ends Cause sink printed.status
  ends_whole grew = inl (is.reply, is.cause, subst (λ (sent : List ℕ). GrowsBy sink.old sink.new sent) (read ∙ is.text) grew, is.status)

  pub ends_broken : sink.rose → GrowsByFront sink.old sink.new slice → Ends Cause sink 4
  ends_broken rose grew = inr (inl (is.reply, is.cause, rose, front grew, refl))

  pub ends_short : GrowsByFront sink.old sink.new slice → Ends Cause sink 5
  ends_short grew = inr (inr (inr (is.reply, is.cause, front grew), refl))

-- ---- the other clauses, from how the call ended

-- a smaller status than 4 is that of a whole report
whole : (Cause : Reply → Type 0) (sink : SinkSigns) (result : ℕ) → result ≤ 3 → Ends Cause sink result → EndsWhole Cause sink result
whole Cause sink result few (inl ends) = ends
whole Cause sink result few (inr (inl broken)) = let four = broken.4 in absurd (omega (arith, few, four))
whole Cause sink result few (inr (inr short)) = let five = short.1 in absurd (omega (arith, few, five))

-- so is any without a fault of the sink and with memory enough
still_whole : (Cause : Reply → Type 0) (sink : SinkSigns) (result : ℕ) → result ≢ 5 → ¬ sink.rose → Ends Cause sink result → EndsWhole Cause sink result
still_whole Cause sink result memory still (inl ends) = ends
still_whole Cause sink result memory still (inr (inl broken)) = absurd (still broken.2)
still_whole Cause sink result memory still (inr (inr short)) = absurd (memory short.1)

pub ends_weaker : (P Q : Reply → Type 0) → ((reply : Reply) → P reply → Q reply) → (sink : SinkSigns) (result : ℕ) → Ends P sink result → Ends Q sink result
ends_weaker P Q weak sink result (inl (reply, cause, grew, is)) = inl (reply, weak reply cause, grew, is)
ends_weaker P Q weak sink result (inr (inl (reply, cause, rose, grew, is))) = inr (inl (reply, weak reply cause, rose, grew, is))
ends_weaker P Q weak sink result (inr (inr (inl nothing, five))) = inr (inr (inl nothing, five))
ends_weaker P Q weak sink result (inr (inr (inr (reply, cause, grew), five))) = inr (inr (inr (reply, weak reply cause, grew), five))

-- a whole report with the status of an answer that the texts of a request call for
module _ {S : Type 0} (texts : S → Option (List NamedText)) (counts : S → Counts) (gives : S → S → List ℕ → List ℕ → Type 0) (old new : S) (words : List (List ℕ)) (sink : SinkSigns) (result : ℕ)
    (ends : Ends (MayGive (IsLoad texts counts gives) words old new) sink result) where
  pub kept : (Promise : Request → List (List ℕ) → List ℕ → Type 0) (n : ℕ) → n ≤ 1 → (r : Request) → ((ts : List (List ℕ)) (a : Answer) → TextsCallFor r ts a → status a ≡ n → Promise r ts (report_text a))
      → Asks words r → result ≡ n → Kept Promise (Handed texts gives) old new words sink.old sink.new
  kept Promise n few r keeps asked is =
      let sent = whole (MayGive (IsLoad texts counts gives) words old new) sink result (omega (arith, few, is)) ends in
      let reply = sent.0 in
      let replies = only (IsLoad texts counts gives) words r old new reply asked sent.1 in
      let ended : reply_status reply ≡ n = sym sent.3 ∙ is in
      let there = given texts counts gives side.Script old new (names r) (TextsCallFor r) reply.answer replies.calls (omega (arith, few, ended)) in
      record {
        request = r;
        asked = asked;
        texts = there.0;
        given = there.1;
        report = report_text reply.answer;
        promise = keeps there.0 reply.answer there.2 ended;
        printed = subst (λ (t : Option Trial). GrowsBy sink.old sink.new (heading_text t ++ report_text reply.answer)) replies.trial sent.2;
      }

  of_cause : (Promise : Request → List (List ℕ) → List ℕ → Type 0) (n : ℕ) → n ≤ 1
      → ((r : Request) (ts : List (List ℕ)) (a : Answer) → TextsCallFor r ts a → status a ≡ n → Promise r ts (report_text a)) → result ≡ n
      → (reply : Reply) → reply_status reply ≡ n → MayGive (IsLoad texts counts gives) words old new reply → Kept Promise (Handed texts gives) old new words sink.old sink.new
  of_cause Promise n few keeps is reply ended (inl (none, usage)) = let three : 3 ≡ n = sym (ap reply_status usage) ∙ ended in absurd (omega (arith, few, three))
  of_cause Promise n few keeps is reply ended (inr (r, asks, replies)) = kept Promise n few r (keeps r) asks is

  -- the same, whatever is asked for: the words ask for something
  pub kept_all : (Promise : Request → List (List ℕ) → List ℕ → Type 0) (n : ℕ) → n ≤ 1
      → ((r : Request) (ts : List (List ℕ)) (a : Answer) → TextsCallFor r ts a → status a ≡ n → Promise r ts (report_text a)) → result ≡ n
      → Kept Promise (Handed texts gives) old new words sink.old sink.new
  kept_all Promise n few keeps is =
      let sent = whole (MayGive (IsLoad texts counts gives) words old new) sink result (omega (arith, few, is)) ends in
      of_cause Promise n few keeps is sent.0 (sym sent.3 ∙ is) sent.1

  -- the whole line of a fault of the shelf
  pub in_shelf_fault : result ≡ 4 → ¬ sink.rose → EndsInShelfFault (MayGive (IsLoad texts counts gives) words old new) sink
  in_shelf_fault four still =
      let sent = still_whole (MayGive (IsLoad texts counts gives) words old new) sink result (λ five. let no : ◌≡◌ {A = ℕ} 4 5 = sym four ∙ five in cc) still ends in
      (sent.0, shelf_fault (IsLoad texts counts gives) words old new sent.0 sent.1 (sym sent.3 ∙ four), sent.1, sent.2)

  -- the reply is the one that the texts call for
  pub settled : result ≢ 5 → ¬ HasRisen (counts old).faults (counts new).faults → ¬ sink.rose → IfSome (texts old) (λ held. EndsWhole (CallsFor held words) sink result)
  settled memory shelf_still sink_still =
      let sent = still_whole (MayGive (IsLoad texts counts gives) words old new) sink result memory sink_still ends in
      elim (texts old) as (λ o. texts old ≡ o → IfSome o (λ held. EndsWhole (CallsFor held words) sink result)) [
        | None ↦ λ is. tt
        | Some held ↦ λ is. (sent.0, quiet_gives texts counts gives held words old new sent.0 is shelf_still sent.1, sent.2, sent.3)
      ] refl

-- and its status is as the texts have it
ends_as : (Such : Request → List (List ℕ) → Type 0) (Is : ℕ → Type 0) → ((r : Request) (ts : List (List ℕ)) (a : Answer) → Such r ts → TextsCallFor r ts a → Is (status a)) → (texts : List NamedText)
    (words : List (List ℕ)) (sink : SinkSigns) (result : ℕ) → EndsWhole (CallsFor texts words) sink result → AsksForSuch Such texts words → Is result
ends_as Such Is status_is texts words sink result (reply, cause, grew, is) asks =
    let replies = only (LoadsHeld texts) words asks.request tt tt reply asks.asked cause in
    let decide = held_decide texts side.Script (names asks.request) asks.given (TextsCallFor asks.request) reply.answer asks.held replies.calls in
    subst Is (sym is) (status_is asks.request asks.given reply.answer asks.such decide)

pub settled_as : (Such : Request → List (List ℕ) → Type 0) (Is : ℕ → Type 0) → ((r : Request) (ts : List (List ℕ)) (a : Answer) → Such r ts → TextsCallFor r ts a → Is (status a)) → (texts : Option (List NamedText))
    (words : List (List ℕ)) (sink : SinkSigns) (result : ℕ) → IfSome texts (λ held. EndsWhole (CallsFor held words) sink result) → IfSome texts (λ held. AsksForSuch Such held words → Is result)
settled_as Such Is status_is None words sink result ends = tt
settled_as Such Is status_is (Some texts) words sink result ends = ends_as Such Is status_is texts words sink result ends

-- How a call ends: what was sent, and the exit status.
use Rattle.std.specs.Prelude.{◌≡◌, ◌⊎◌, ℕ, List, ◌++◌, Option}
use Rattle.dl_outside.specs.Prelude.{HasRisen, GrowsBy}
use Rattle.report.specs.declared.answer.Answer.TheVariants.{Outside}
use Rattle.report.specs.declared.answer.OutsideFault.{OutsideFault}
use Rattle.report.specs.declared.answer.Side.{Side}
use Rattle.dl_top.specs.Reply.{plain, reply_status, reply_text}
use Rattle.dl_top.specs.declared.reply.Reply.{Reply}

-- What was sent, where it is told, has grown by a front of the report: perhaps nothing, perhaps all of it.
abbrev pub GrowsByFront : Option (List ℕ) → Option (List ℕ) → List ℕ → Type 0
GrowsByFront old new report = (front : List ℕ) × (rest : List ℕ) × (report ≡ front ++ rest) × GrowsBy old new front

-- The sink before and after the call, and whether its count of faults rose.
pub record SinkSigns : Type 1 where
  pub old : Option (List ℕ)
  pub new : Option (List ℕ)
  pub rose : Type 0

abbrev pub sink_signs : (sent_before sent_after : Option (List ℕ)) → (faults_before faults_after : ℕ) → SinkSigns
sink_signs sent_before sent_after faults_before faults_after = record {
  old = sent_before;
  new = sent_after;
  rose = HasRisen faults_before faults_after;
}

-- The whole text of a reply, with its status.
abbrev pub EndsWhole : (Reply → Type 0) → SinkSigns → ℕ → Type 0
EndsWhole Cause sink result = (reply : Reply) × Cause reply × GrowsBy sink.old sink.new (reply_text reply) × (result ≡ reply_status reply)

-- A fault of the sink: a front of the report.
abbrev pub EndsBroken : (Reply → Type 0) → SinkSigns → ℕ → Type 0
EndsBroken Cause sink result = (reply : Reply) × Cause reply × sink.rose × GrowsByFront sink.old sink.new (reply_text reply) × (result ≡ 4)

-- Want of memory: nothing, or a front of a report.
abbrev pub EndsShort : (Reply → Type 0) → SinkSigns → ℕ → Type 0
EndsShort Cause sink result = ((sink.new ≡ sink.old) ⊎ ((reply : Reply) × Cause reply × GrowsByFront sink.old sink.new (reply_text reply))) × (result ≡ 5)

abbrev pub Ends : (Reply → Type 0) → SinkSigns → ℕ → Type 0
Ends Cause sink result = EndsWhole Cause sink result ⊎ EndsBroken Cause sink result ⊎ EndsShort Cause sink result

-- The whole line of a fault of the shelf.
abbrev pub EndsInShelfFault : (Reply → Type 0) → SinkSigns → Type 0
EndsInShelfFault Cause sink =
    (reply : Reply) × ((side : Side) × (fault : OutsideFault) × (reply ≡ plain (Outside side fault))) × Cause reply × GrowsBy sink.old sink.new (reply_text reply)

use Rattle.client_server_conditions.proofs.Prelude.{◌∙◌, sym, false≢true}
use Rattle.client_server_conditions.proofs.Sets.{agree_on, agree_within, agree_turned}
use Rattle.client_server_conditions.proofs.clients.agree_on.Goals as goal

pub returns-then-not-is_subset : goal.returns-then-not-is_subset
returns-then-not-is_subset c = (
  λ h. absurd (false≢true h),
  λ a. absurd (false≢true (sym c.if-not-is_subset.true ∙ c.is_subset.ensures ∙ agree_within c.args.events.now c.args.first.now c.args.second.now c.in_ok-mine.mine c.in_ok-mine.ensures.members a)),
)

pub returns : goal.returns
returns c = (
  λ h. agree_on c.args.events.now c.args.first.now c.args.second.now c.in_ok-mine.mine c.in_ok-other.other c.in_ok-mine.ensures.members c.in_ok-other.ensures.members (sym c.is_subset.ensures ∙ c.if-not-is_subset.false) (sym c.is_subset-2.ensures ∙ h),
  λ a. c.is_subset-2.ensures ∙ agree_within c.args.events.now c.args.second.now c.args.first.now c.in_ok-other.other c.in_ok-other.ensures.members (agree_turned c.args.events.now c.args.first.now c.args.second.now a),
)

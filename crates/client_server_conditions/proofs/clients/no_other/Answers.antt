use Rattle.client_server_conditions.proofs.Prelude.{◌≡◌, ◌∙◌, ℕ, List, Bool, true, false, not, refl, sym, subst, false≢true, not-true, meets_of, LacksAll}
use Rattle.client_server_conditions.proofs.Sets.{lacks_all, meets_none}
use Rattle.client_server_conditions.proofs.clients.no_other.Goals as goal

-- what one test showed, of a set that was read
lacks : (E M N : List ℕ) (b : Bool) → b ≡ meets_of E M → M ≡ N → b ≡ false → LacksAll E N
lacks E M N b is same h = subst (LacksAll E) same (lacks_all E M (sym is ∙ h))

meets : (E M N : List ℕ) (b : Bool) → b ≡ meets_of E M → M ≡ N → b ≡ true → LacksAll E N → ⊥
meets E M N b is same h l = meets_none E M (subst (LacksAll E) (sym same) l) (sym is ∙ h)

holds_not : (b : Bool) → (b ≡ true → ⊥) → not b ≡ true
holds_not true h = absurd (h refl)
holds_not false h = refl

pub returns-then-meets : goal.returns-then-meets
returns-then-meets c = (
  λ h. absurd (false≢true h),
  λ o. absurd (meets c.args.events.now c.sreq.result.now c.args.client.now.sreq c.meets.result c.meets.ensures c.sreq.ensures c.if-meets.true o.requests_taken),
)

pub returns-then-meets-2 : goal.returns-then-meets-2
returns-then-meets-2 c = (
  λ h. absurd (false≢true h),
  λ o. absurd (meets c.args.events.now c.sack.result.now c.args.client.now.sack c.meets-2.result c.meets-2.ensures c.sack.ensures c.if-meets-2.true o.acknowledged),
)

pub returns-then-meets-3 : goal.returns-then-meets-3
returns-then-meets-3 c = (
  λ h. absurd (false≢true h),
  λ o. absurd (meets c.args.events.now c.creq.result.now c.args.server.now.creq c.meets-3.result c.meets-3.ensures c.creq.ensures c.if-meets-3.true o.requests_made),
)

pub returns : goal.returns
returns c = (
  λ h. record {
    requests_taken = lacks c.args.events.now c.sreq.result.now c.args.client.now.sreq c.meets.result c.meets.ensures c.sreq.ensures c.if-meets.false;
    acknowledged = lacks c.args.events.now c.sack.result.now c.args.client.now.sack c.meets-2.result c.meets-2.ensures c.sack.ensures c.if-meets-2.false;
    requests_made = lacks c.args.events.now c.creq.result.now c.args.server.now.creq c.meets-3.result c.meets-3.ensures c.creq.ensures c.if-meets-3.false;
    awaited = lacks c.args.events.now c.cack.result.now c.args.server.now.cack c.meets-4.result c.meets-4.ensures c.cack.ensures (not-true c.meets-4.result h);
  },
  λ o. holds_not c.meets-4.result (λ h. meets c.args.events.now c.cack.result.now c.args.server.now.cack c.meets-4.result c.meets-4.ensures c.cack.ensures h o.awaited),
)

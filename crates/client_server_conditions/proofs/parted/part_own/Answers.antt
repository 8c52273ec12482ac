use Rattle.client_server_conditions.proofs.Prelude.{◌≡◌, ◌∙◌, ◌||◌, ℕ, List, Bool, true, false, sym, ap, false≢true, has, meets_of, RoleSets}
use Rattle.client_server_conditions.proofs.Sets.{AreUnions, meets_none, parts_own, own_client, own_server, own_apart, own_within}
use Rattle.client_server_conditions.proofs.parted.part_own.Goals as goal

-- what one test showed, of two sets that were read
test_of : (f : List ℕ → List ℕ → Bool) (M N A B : List ℕ) (b v : Bool) → b ≡ f M N → M ≡ A → N ≡ B → b ≡ v → f A B ≡ v
test_of f M N A B b v is m n h = ap (λ (zs : List ℕ). f zs B) (sym m) ∙ ap (f M) (sym n) ∙ sym is ∙ h

pub returns-then-meets : goal.returns-then-meets
returns-then-meets c = (
  λ h. absurd (false≢true h),
  λ o. absurd (meets_none c.args.roles.now.creq c.args.roles.now.cack (own_client c.args.own.now c.args.roles.now o) (test_of meets_of c.creq-2.result.now c.cack-2.result.now c.args.roles.now.creq c.args.roles.now.cack c.meets.result true c.meets.ensures c.creq-2.ensures c.cack-2.ensures c.if-meets.true)),
)

pub returns-then-meets-2 : goal.returns-then-meets-2
returns-then-meets-2 c = (
  λ h. absurd (false≢true h),
  λ o. absurd (meets_none c.args.roles.now.sreq c.args.roles.now.sack (own_server c.args.own.now c.args.roles.now o) (test_of meets_of c.sreq-2.result.now c.sack-2.result.now c.args.roles.now.sreq c.args.roles.now.sack c.meets-2.result true c.meets-2.ensures c.sreq-2.ensures c.sack-2.ensures c.if-meets-2.true)),
)

-- the unions that were made, of sets that were read
unions : (roles : RoleSets) (a b d e client server all : List ℕ) → a ≡ roles.creq → b ≡ roles.cack → d ≡ roles.sreq → e ≡ roles.sack → ((x : ℕ) → has client x ≡ (has a x || has b x)) → ((x : ℕ) → has server x ≡ (has d x || has e x)) → ((x : ℕ) → has all x ≡ (has client x || has server x)) → AreUnions roles client server all
unions roles a b d e client server all i j k l u v w = record {
  client_is = λ x. u x ∙ ap (λ (zs : List ℕ). has zs x || has b x) i ∙ ap (λ (zs : List ℕ). has roles.creq x || has zs x) j;
  server_is = λ x. v x ∙ ap (λ (zs : List ℕ). has zs x || has e x) k ∙ ap (λ (zs : List ℕ). has roles.sreq x || has zs x) l;
  all_is = w;
}

pub returns-then-meets-3 : goal.returns-then-meets-3
returns-then-meets-3 c =
    let u = unions c.args.roles.now c.creq.result.now c.cack.result.now c.sreq.result.now c.sack.result.now c.in_ok-client.client c.in_ok-server.server c.in_ok-all.all c.creq.ensures c.cack.ensures c.sreq.ensures c.sack.ensures c.in_ok-client.ensures.members c.in_ok-server.ensures.members c.in_ok-all.ensures.members in (
      λ h. absurd (false≢true h),
      λ o. absurd (meets_none c.in_ok-client.client c.in_ok-server.server (own_apart c.args.own.now c.in_ok-client.client c.in_ok-server.server c.in_ok-all.all c.args.roles.now u o) (sym c.meets-3.ensures ∙ c.if-meets-3.true)),
    )

pub returns-then-not-is_subset : goal.returns-then-not-is_subset
returns-then-not-is_subset c =
    let u = unions c.args.roles.now c.creq.result.now c.cack.result.now c.sreq.result.now c.sack.result.now c.in_ok-client.client c.in_ok-server.server c.in_ok-all.all c.creq.ensures c.cack.ensures c.sreq.ensures c.sack.ensures c.in_ok-client.ensures.members c.in_ok-server.ensures.members c.in_ok-all.ensures.members in (
      λ h. absurd (false≢true h),
      λ o. absurd (false≢true (sym c.if-not-is_subset.true ∙ c.is_subset.ensures ∙ (own_within c.args.own.now c.in_ok-client.client c.in_ok-server.server c.in_ok-all.all c.args.roles.now u o).0)),
    )

pub returns : goal.returns
returns c =
    let u = unions c.args.roles.now c.creq.result.now c.cack.result.now c.sreq.result.now c.sack.result.now c.in_ok-client.client c.in_ok-server.server c.in_ok-all.all c.creq.ensures c.cack.ensures c.sreq.ensures c.sack.ensures c.in_ok-client.ensures.members c.in_ok-server.ensures.members c.in_ok-all.ensures.members in
    let roles = c.args.roles.now in (
      λ h. parts_own c.args.own.now c.in_ok-client.client c.in_ok-server.server c.in_ok-all.all c.args.roles.now u
          (test_of meets_of c.creq-2.result.now c.cack-2.result.now roles.creq roles.cack c.meets.result false c.meets.ensures c.creq-2.ensures c.cack-2.ensures c.if-meets.false)
          (test_of meets_of c.sreq-2.result.now c.sack-2.result.now roles.sreq roles.sack c.meets-2.result false c.meets-2.ensures c.sreq-2.ensures c.sack-2.ensures c.if-meets-2.false)
          (sym c.meets-3.ensures ∙ c.if-meets-3.false) (sym c.is_subset.ensures ∙ c.if-not-is_subset.false) (sym c.is_subset-2.ensures ∙ h),
      λ o. c.is_subset-2.ensures ∙ (own_within c.args.own.now c.in_ok-client.client c.in_ok-server.server c.in_ok-all.all c.args.roles.now u o).1,
    )

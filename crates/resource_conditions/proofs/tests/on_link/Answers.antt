use Rattle.resource_conditions.proofs.Prelude.{◌≤◌, ◌∙◌, length, inl, inr, ap, sym, cases_lt, false≢true, Shape, inter_of, Link, link_past}
use Rattle.resource_conditions.proofs.Sets.{inter_none}
use Rattle.resource_conditions.proofs.tests.on_link.Goals as goal

pub returns-in-None : goal.returns-in-None
returns-in-None c =
    let links = c.links.ensures.value ∙ ap (λ (s : Shape). s.links) c.shape.ensures.value in
    let past : length c.links.result.now ≤ c.args.link = elim (cases_lt c.args.link (length c.links.result.now)) [ inl less ↦ absurd (false≢true (c.in-None.ensures.lookup.2 less)) | inr more ↦ more ] in
    c.new.ensures ∙ sym (ap (λ (k : Link). inter_of c.args.events.now k.shared) (link_past c.args.setting.now.shape c.args.link c.links.result.now links past) ∙ inter_none c.args.events.now)

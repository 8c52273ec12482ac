use Rattle.report.proofs.Prelude.{◌≡◌, ◌++◌, take, flat_map}
use Rattle.report.specs.Shortfalls.{link_text}
use Rattle.report.proofs.shortfalls.push_links.Given as goal
use Rattle.csp_base.specs.Texts.{line}

abbrev pub invariant-loop-link : goal.invariant-loop-link
invariant-loop-link l = l.report ≡ l.fn.report ++ flat_map (λ link. line (link_text link)) (take l.link-index l.links)

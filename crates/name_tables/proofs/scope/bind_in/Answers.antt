use Rattle.name_tables.proofs.Prelude.{◌≡◌, ◌∙◌, Some, map, subst, shown, Writes, at_name, number_of}
use Rattle.name_tables.proofs.ScopeLemmas.{bound-kept, bound-numbers}
use Rattle.name_tables.proofs.scope.bind_in.Goals as goal

pub returns-in-Ok-clause-kept : goal.returns-in-Ok-clause-kept
returns-in-Ok-clause-kept c =
    let bs = c.args.bindings.now.items in
    let e : c.number_at-hidden.result ≡ at_name c.args.last.now c.args.name = c.number_at-hidden.ensures in
    let h : c.number_at-hidden.result ≡ number_of (map shown bs) c.args.name = e ∙ c.requires.numbers c.args.name in
    bound-kept bs c.push.new.self.items (record { name = c.args.name; number = c.args.number; hidden = c.number_at-hidden.result }) c.in_ok-push.ensures.items c.requires.kept h

pub returns-in-Ok-clause-numbers : goal.returns-in-Ok-clause-numbers
returns-in-Ok-clause-numbers c =
    let bs = c.args.bindings.now.items in
    bound-numbers c.args.last.now c.write.new.last bs c.push.new.self.items (record { name = c.args.name; number = c.args.number; hidden = c.number_at-hidden.result })
    c.in_ok-push.ensures.items c.requires.numbers
    (subst (λ x. Writes c.args.last.now c.write.new.last x (Some c.args.number)) c.requires.same c.in-Ok.ensures.writes)

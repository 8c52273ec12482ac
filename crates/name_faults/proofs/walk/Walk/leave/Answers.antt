use Rattle.name_faults.proofs.Prelude.{List, map, take, ap, sym, ◌∙◌, take-map, Name, Scope, names_of, Walked, seen}
use Rattle.name_faults.proofs.walk.Walk.leave.Goals as goal

pub returns : goal.returns
returns c =
    let with : List Name → Walked = λ b. record { names = c.self.inside.names.now; bound = b; list = map seen c.self.inside.list.items } in
    ap (λ (s : Scope). with (names_of s)) c.leave.ensures
    ∙ ap with (sym (take-map (λ b. b.0) c.args.count c.self.inside.bound))
    ∙ ap (λ (w : Walked). record w { bound = take c.args.count w.bound }) c.self.view_is

use Rattle.csp_resolve.proofs.Prelude.{◌≡◌, List, ap, refl, sym, ◌∙◌, subst, Expr, Decl, GrowsBy, sets_of, types_read, first_of}
use Rattle.csp_resolve.proofs.SetsLaws.{grows_by_channels}
use Rattle.script_names.specs.Resolved as meant
use Rattle.csp_resolve.proofs.events.add_sets.Goals as goal

pub returns-in_ok-push_shared-in-Channel : goal.returns-in_ok-push_shared-in-Channel
returns-in_ok-push_shared-in-Channel c =
    let p = c.args.content.now in
    let types_of = types_read (first_of c.args.meanings.now.names.now) c.args.meanings.now.kinds.now in
    let read : c.as_slice-in-Channel.result.now ≡ types_of c.in-Channel.types =
    c.as_slice-in-Channel.ensures ∙ c.in_ok-types-in-Channel.ensures ∙ ap types_of c.as_slice.ensures in
    subst (λ (d : Decl). GrowsBy c.args.shared.now.items c.push_shared.new.shared.items (sets_of p types_of c.args.i d)) (sym c.in-Channel.is)
    (grows_by_channels p types_of c.args.i c.in-Channel.xs c.in-Channel.types c.in_ok-sets-in-Channel.sets
    (record { channels = c.len-channels.result; sets = c.in_ok-sets-in-Channel.sets }) c.args.shared.now.items c.push_shared.new.shared.items
    (ap (λ (es : List Expr). meant.told_in c.args.i (meant.field_sets p es)) (sym read) ∙ c.in_ok-sets-in-Channel.ensures)
    c.len-channels.ensures refl c.in_ok-push_shared-in-Channel.ensures)

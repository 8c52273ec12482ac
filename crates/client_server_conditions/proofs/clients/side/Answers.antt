use Rattle.client_server_conditions.proofs.Prelude.{◌≡◌, inl, inr, role_at, link_at, both_ways}
use Rattle.client_server_conditions.proofs.Reading.{left_role, right_role, shared_there}
use Rattle.client_server_conditions.proofs.Sides.{client_on, client_read}
use Rattle.client_server_conditions.proofs.clients.side.Goals as goal

pub returns-then-branch : goal.returns-then-branch
returns-then-branch c =
    let left : c.index-roles-left.result ≡ role_at c.args.roles.now (link_at c.args.shape.now c.args.link).left = left_role c.args.shape.now c.args.roles.now c.args.link c.requires.form c.requires.roles c.requires.link c.links.result.now c.index-links-link.result c.links.ensures.value c.index-links-link.is c.left.result c.index-roles-left.result c.left.ensures.value c.index-roles-left.is in
    let right : c.index-roles-right.result ≡ role_at c.args.roles.now (link_at c.args.shape.now c.args.link).right = right_role c.args.shape.now c.args.roles.now c.args.link c.requires.form c.requires.roles c.requires.link c.links.result.now c.index-links-link.result c.links.ensures.value c.index-links-link.is c.right.result c.index-roles-right.result c.right.ensures.value c.index-roles-right.is in
    client_on c.args.shape.now c.args.roles.now c.args.link (link_at c.args.shape.now c.args.link).left (link_at c.args.shape.now c.args.link).right c.shared.result.now c.index-roles-left.result c.index-roles-right.result
    (shared_there c.args.shape.now c.args.roles.now c.args.link c.requires.form c.requires.roles c.requires.link c.links.result.now c.index-links-link.result c.links.ensures.value c.index-links-link.is c.shared.result.now c.shared.ensures) left right (c.in_ok-is_client.ensures.0 c.if-branch.true)

pub returns-then-branch-2 : goal.returns-then-branch-2
returns-then-branch-2 c =
    let left : c.index-roles-left.result ≡ role_at c.args.roles.now (link_at c.args.shape.now c.args.link).left = left_role c.args.shape.now c.args.roles.now c.args.link c.requires.form c.requires.roles c.requires.link c.links.result.now c.index-links-link.result c.links.ensures.value c.index-links-link.is c.left.result c.index-roles-left.result c.left.ensures.value c.index-roles-left.is in
    let right : c.index-roles-right.result ≡ role_at c.args.roles.now (link_at c.args.shape.now c.args.link).right = right_role c.args.shape.now c.args.roles.now c.args.link c.requires.form c.requires.roles c.requires.link c.links.result.now c.index-links-link.result c.links.ensures.value c.index-links-link.is c.right.result c.index-roles-right.result c.right.ensures.value c.index-roles-right.is in
    client_on c.args.shape.now c.args.roles.now c.args.link (link_at c.args.shape.now c.args.link).right (link_at c.args.shape.now c.args.link).left c.shared-2.result.now c.index-roles-right.result c.index-roles-left.result
    (shared_there c.args.shape.now c.args.roles.now c.args.link c.requires.form c.requires.roles c.requires.link c.links.result.now c.index-links-link.result c.links.ensures.value c.index-links-link.is c.shared-2.result.now c.shared-2.ensures) right left (c.in_ok-is_client-2.ensures.0 c.if-branch-2.true)

pub returns : goal.returns
returns c =
    let left : c.index-roles-left.result ≡ role_at c.args.roles.now (link_at c.args.shape.now c.args.link).left = left_role c.args.shape.now c.args.roles.now c.args.link c.requires.form c.requires.roles c.requires.link c.links.result.now c.index-links-link.result c.links.ensures.value c.index-links-link.is c.left.result c.index-roles-left.result c.left.ensures.value c.index-roles-left.is in
    let right : c.index-roles-right.result ≡ role_at c.args.roles.now (link_at c.args.shape.now c.args.link).right = right_role c.args.shape.now c.args.roles.now c.args.link c.requires.form c.requires.roles c.requires.link c.links.result.now c.index-links-link.result c.links.ensures.value c.index-links-link.is c.right.result c.index-roles-right.result c.right.ensures.value c.index-roles-right.is in
    λ h. elim h [
      | inl k ↦ both_ways c.in_ok-is_client.field-0 c.if-branch.false (c.in_ok-is_client.ensures.1 (client_read c.args.shape.now c.args.roles.now c.args.link (link_at c.args.shape.now c.args.link).left (link_at c.args.shape.now c.args.link).right c.shared.result.now c.index-roles-left.result c.index-roles-right.result (shared_there c.args.shape.now c.args.roles.now c.args.link c.requires.form c.requires.roles c.requires.link c.links.result.now c.index-links-link.result c.links.ensures.value c.index-links-link.is c.shared.result.now c.shared.ensures) left right k))
      | inr k ↦ both_ways c.in_ok-is_client-2.field-0 c.if-branch-2.false (c.in_ok-is_client-2.ensures.1 (client_read c.args.shape.now c.args.roles.now c.args.link (link_at c.args.shape.now c.args.link).right (link_at c.args.shape.now c.args.link).left c.shared-2.result.now c.index-roles-right.result c.index-roles-left.result (shared_there c.args.shape.now c.args.roles.now c.args.link c.requires.form c.requires.roles c.requires.link c.links.result.now c.index-links-link.result c.links.ensures.value c.index-links-link.is c.shared-2.result.now c.shared-2.ensures) right left k))
    ]

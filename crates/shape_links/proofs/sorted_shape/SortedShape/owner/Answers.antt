use Rattle.shape_links.proofs.sorted_shape.SortedShape.owner.Goals as goal

pub returns-clause-found : goal.returns-clause-found
returns-clause-found c l h = c.link_of.ensures.found c.args.self.now l c.owners.ensures h

pub returns-clause-owned : goal.returns-clause-owned
returns-clause-owned c l o = c.link_of.ensures.owned c.args.self.now l c.owners.ensures o

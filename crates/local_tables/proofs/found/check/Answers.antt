use Rattle.local_tables.proofs.Prelude.{◌≡◌, ap, length, arith, map, min, length-map, total, proc_depth, tree_at, counted_size, terms_at}
use Rattle.local_tables.proofs.Ending.{are_terms, no_larger}
use Rattle.local_tables.proofs.Following.{are_steps, map_at}
use Rattle.local_tables.proofs.Walking.{reached}
use Rattle.local_tables.proofs.found.check.Goals as goal

pub returns-then-terms-gt-MOST_TERMS-clause-fault : goal.returns-then-terms-gt-MOST_TERMS-clause-fault
returns-then-terms-gt-MOST_TERMS-clause-fault c =
    let found = c.args.found.now in
    record {
      terms = terms_at c.args.pool.now found.terms;
      are = are_terms c.args.task.now c.args.pool.now found c.requires.tabled.found c.len.ensures.different c.as_slice-terms.ensures.distinct;
      many = omega (arith, length-map c.args.found.now.terms (tree_at c.args.pool.now), c.if-terms-gt-MOST_TERMS.true, ap length c.as_slice-terms.ensures.value);
    }

pub returns-then-depth-gt-MOST_TERM_DEPTH-clause-fault : goal.returns-then-depth-gt-MOST_TERM_DEPTH-clause-fault
returns-then-depth-gt-MOST_TERM_DEPTH-clause-fault c =
    let known = c.requires.newest in
    let trees = c.args.pool.now in
    let x = tree_at trees c.args.newest in
    let terms = terms_at trees c.args.found.now.terms in
    let counted : c.depth-depth.result ≡ min (proc_depth (tree_at c.args.pool.now c.args.newest)) 4294967295 = c.depth-depth.ensures in
    record {
      term = x;
      reached = reached c.args.task.now terms c.args.found.now.origins c.requires.tabled.found.led known.0 x
          (map_at (tree_at trees) c.args.found.now.terms known.0 c.args.newest known.1);
      deep = omega (arith, counted, c.if-depth-gt-MOST_TERM_DEPTH.true);
    }

pub returns-then-found-from-clause-fault : goal.returns-then-found-from-clause-fault
returns-then-found-from-clause-fault c =
    let found = c.args.found.now in
    let terms = terms_at c.args.pool.now found.terms in
    let sizes : total (map counted_size (terms_at c.args.pool.now c.args.found.now.terms)) ≡ c.args.found.now.nodes = c.requires.tabled.found.sizes in
    record {
      terms = terms;
      are = are_terms c.args.task.now c.args.pool.now found c.requires.tabled.found c.len.ensures.different c.as_slice-terms.ensures.distinct;
      large = omega (arith, sizes, no_larger (terms_at c.args.pool.now c.args.found.now.terms), c.if-found-from.true);
    }

pub returns-then-steps-clause-fault : goal.returns-then-steps-clause-fault
returns-then-steps-clause-fault c =
    let found = c.args.found.now in
    let terms = terms_at c.args.pool.now found.terms in
    record {
      terms = terms;
      raw = found.table;
      are = are_terms c.args.task.now c.args.pool.now found c.requires.tabled.found c.len.ensures.different c.as_slice-terms.ensures.distinct;
      steps = are_steps c.args.task.now terms found.table c.requires.tabled.rows;
      many = omega (arith, ap length c.silent.ensures.value, ap length c.steps.ensures.value, c.steps-2.ensures.value, c.if-steps.true);
    }

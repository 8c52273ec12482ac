use Rattle.dl_top.proofs.Prelude.{IsCompared, TextsCompare}
use Rattle.dl_top.proofs.Judging.{at_script_network, at_specified_network, compares}
use Rattle.dl_top.proofs.Walks.{at_short, is_verdict}
use Rattle.dl_top.proofs.judge.compare_texts.Goals as goal

pub returns-in_err-network : goal.returns-in_err-network
returns-in_err-network c = at_script_network c.args.text.now c.args.specification.now c.from_residual.result _ c.from_residual.ensures.1 c.in_err-network.ensures.told

pub returns-in_err-specified : goal.returns-in_err-specified
returns-in_err-specified c =
    at_specified_network c.args.text.now c.args.specification.now c.from_residual-in_err-specified.result c.in_ok-network.network _ c.in_ok-network.ensures.ok c.from_residual-in_err-specified.ensures.1
    c.in_err-specified.ensures.told

pub returns-in_err-verdict : goal.returns-in_err-verdict
returns-in_err-verdict c = at_short (TextsCompare c.args.text.now c.args.specification.now) c.from_residual-in_err-verdict.result c.from_residual-in_err-verdict.ensures.1

pub returns : goal.returns
returns c =
    let network = c.in_ok-network.network in
    let specified = c.in_ok-specified.specified in
    compares c.args.text.now c.args.specification.now network specified c.in_ok-verdict.verdict c.into_program.result c.in_ok-network.ensures.ok c.in_ok-specified.ensures.ok c.into_program.ensures
    (is_verdict (IsCompared network specified) c.compare_networks.result c.in_ok-verdict.verdict c.compare_networks.ensures c.in_ok-verdict.ensures)

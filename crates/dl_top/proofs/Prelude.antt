-- What the proofs of this crate cite of the crates below, and of its own definitions.
pub use Rattle.command_words.proofs.AskOnce.{words_ask_once}
pub use Rattle.command_words.specs.Prelude.{Asks, IsNoRequest, names, trial_of}
pub use Rattle.command_words.specs.declared.request.Job.TheVariants.{Check, Livelock, Run, Table}
pub use Rattle.command_words.specs.declared.request.Job.{Job}
pub use Rattle.command_words.specs.declared.request.Request.{Request}
pub use Rattle.command_words.specs.declared.request.Trial.{Trial}
pub use Rattle.comparison.proofs.Matching.{compared_cases, comparison_is_exact}
pub use Rattle.comparison.specs.Compared.{IsCompared, IsConforming}
pub use Rattle.comparison.specs.Complete.{Matches}
pub use Rattle.csp_base.proofs.Standard.{length-append, length-decimal-le, length-take-le, take-append-add, take-append-drop, take_rest}
pub use Rattle.csp_base.specs.Prelude.{Tells}
pub use Rattle.csp_base.specs.declared.stop.Stop.{Stop}
pub use Rattle.csp_parser.specs.Places.{IsPlaceOf}
pub use Rattle.csp_parser.specs.Spells.{EachTextSpellsOneScript, Spells}
pub use Rattle.csp_program.specs.declared.programs.Content.{Content}
pub use Rattle.csp_program.specs.declared.processes.Proc.{Proc}
pub use Rattle.csp_steps.specs.Prelude.{AreTargets}
pub use Rattle.csp_tables.specs.Prelude.{Component, WellNested, leaves}
pub use Rattle.csp_tables.specs.declared.rule.Rule.{Rule}
pub use Rattle.csp_text.specs.declared.fault.NoScript.{NoScript}
pub use Rattle.csp_text.specs.declared.script.Script.{Script}
pub use Rattle.dl_limits.specs.declared.TheConstants.{MOST_BYTES}
pub use Rattle.dl_outside.specs.Prelude.{AnswersTold, GrowsBy, HasRisen, LoadAnswers, WriteAnswers, text_of}
pub use Rattle.dl_outside.specs.declared.count.Counts.{Counts}
pub use Rattle.dl_outside.specs.declared.shelf.LoadFault.TheVariants.{Failed, Missing, NoMemory, TooLong}
pub use Rattle.dl_outside.specs.declared.shelf.LoadFault.{LoadFault}
pub use Rattle.dl_outside.specs.declared.sink.SinkFault.{SinkFault}
pub use Rattle.dl_outside.specs.declared.texts.NamedText.{NamedText}
pub use Rattle.dl_top.specs.Prelude.{AsksForSuch, CallsFor, EndsInShelfFault, EndsWhole, GrowsByFront, Handed, HaveGiven, HoldWithin, HoldsAll, HoldsAllNamed, IsDecided, IsFree, IsLoad, IsRun, IsStuckRun, IsUnloaded, JobPromised, Kept, Loaded, LoadsHeld, MayGive, NetworkDecides, NetworkOr, Passing, Prints, Promised, Replies, Running, SinkSigns, SpellMatching, SpellsBounded, SpellsConforming, SpellsDeadlockFree, SpellsNetwork, SpellsNoNetwork, SpellsNoScript, SpellsOnlyNetwork, SpellsOnlyScript, SpellsPassing, SpellsRun, SpellsShown, SpellsTable, SpellsTabled, SpellsTables, SpellsWithinBound, TellsLoad, TellsRank, TextCallsFor, TextIsShown, TextPasses, TextsCallFor, TextsCompare, heading_text, last_line, no_script, plain, reply_status, reply_text, rule_of, sink_signs, trial_text}
pub use Rattle.dl_top.specs.declared.reply.Printed.{Printed}
pub use Rattle.dl_top.specs.declared.reply.Reply.{Reply}
pub use Rattle.judgement.proofs.OneNetwork.{one_network}
pub use Rattle.judgement.specs.Counts.{node_count}
unfoldable pub use Rattle.judgement.specs.Judged.{IsJudged}
pub use Rattle.judgement_laws.proofs.Complete.{complete}
pub use Rattle.judgement_laws.proofs.Networks.{faults_exclude_networks}
pub use Rattle.judgement_laws.proofs.Tables.{all_go_on}
pub use Rattle.judgement_laws.proofs.Whole.{IsJudgedWhole, classes, goes_on, has_greatest_rank, judged_whole, passes}
pub use Rattle.judgement_laws.specs.Complete.{Passes}
pub use Rattle.livelock.proofs.Agreeing.{bounds_are_told}
pub use Rattle.livelock.proofs.Whole.{bounded_cases}
pub use Rattle.livelock.specs.Bounded.{IsBounded}
pub use Rattle.net_maker.specs.Families.{lines_of}
pub use Rattle.net_maker.specs.declared.families.Family.TheVariants.{Chain, Forks, Mesh}
pub use Rattle.net_maker.specs.declared.families.Family.{Family}
pub use Rattle.network_stages.proofs.Excluded.{faults_exclude_tables}
pub use Rattle.network_stages.specs.Prelude.{AreTablesOf, HasNoNetwork, HasNoPart, HasTables, HaveFewSets, IsNetworkOf, Network}
pub use Rattle.network_stages.specs.declared.component_tables.ComponentTable.{ComponentTable}
pub use Rattle.network_trees.proofs.InOrder.{network_is_tree}
pub use Rattle.network_walks.proofs.Runs.{no_move_means_stuck, stays_nested, stuck_walks_refute_live, walks_are_runs}
pub use Rattle.network_walks.specs.Walked.{IsNetworkWalk, TellsWalk, walk_verdict}
unfoldable pub use Rattle.network_walks.specs.Walked.{IsWalked}
pub use Rattle.numbered_walks.specs.Prelude.{first_draw, label}
pub use Rattle.numbered_walks.specs.declared.moves.Move.{Move}
pub use Rattle.print_laws.proofs.RoundTrip.{no_other, printed_spells}
pub use Rattle.process_steps.specs.Prelude.{ProcessStep}
pub use Rattle.report.proofs.Points.{refused_or, weaker}
pub use Rattle.report.specs.Prelude.{Answers, Ends, IsEnd, IsVerdict, passed, report_text, run_text, status, told, verdict_status, verdict_text}
pub use Rattle.report.specs.declared.answer.OutsideFault.{OutsideFault}
pub use Rattle.report.specs.declared.answer.Refusal.{Refusal}
pub use Rattle.report.specs.declared.answer.Answer.{Answer}
pub use Rattle.report.specs.declared.answer.Done.{Done}
pub use Rattle.report.specs.declared.answer.Side.{Side}
pub use Rattle.report.specs.declared.answer.Verdict.{Verdict}
pub use Rattle.report.specs.declared.stop.Halt.{Halt}
unfoldable pub use Rattle.script_printer.specs.PrintedScript.{script_text}
pub use Rattle.std.proofs.Common.{Bool, Err, IfErr, IfNone, IfOk, IfSome, List, None, Ok, Option, Result, Some, [], ap, append_assoc, ap₂, arith, codes, drop, false, inl, inr, length, length-drop, map, refl, subst, sym, take, true, ℕ, ◌++◌, ◌+◌, ◌-◌, ◌<◌, ◌^◌, ◌∙◌, ◌∷◌, ◌≡◌, ◌≢◌, ◌≤◌}
pub use Rattle.std.proofs.lemmas.Option.{same_Some, slice_get_within}
pub use Rattle.std.proofs.lemmas.Result.{IfErr-weaker, IfOk-weaker, err_from_is_err_and}
pub use Rattle.std.specs.Fmt.{decimal}
pub use Rattle.std.specs.Option.{option_map}
pub use Rattle.std.specs.Prelude.{pos}
pub use Rattle.std.specs.Result.{IsErrAnd}
pub use Rattle.tabulation.proofs.Status.{tabulated_cases, tabulated_is_complete}
unfoldable pub use Rattle.tabulation.specs.Tabulated.{IsTabulated}

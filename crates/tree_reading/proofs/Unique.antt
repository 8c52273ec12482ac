-- What is read is one, so the grammar has one; and a reading decides what a text is.
use Rattle.tree_reading.proofs.Prelude.{max, List, refl, ap, arith, tree_depth, Decl, none-some, Script, EachTextHasOneTree, EachTextIsOneScript, ReaderIsComplete, ReaderGivesTrees, ReaderIsSound, ReadTreesAreTrees, SettledScriptIsOne, SettledNothingIsNone, ScriptsSettle}
use Rattle.tree_reading.proofs.Complete.{tree_read}
use Rattle.tree_reading.proofs.Fitting.{first_part, second_part}
use Rattle.tree_reading.proofs.Follow.{below_stops}
use Rattle.tree_reading.proofs.Scripts.{declarations_read}
use Rattle.tree_reading.proofs.Settling.{one_answer, same}
use Rattle.tree_reading.proofs.SoundScripts.{script_sound, tree_sound}

pub one_tree : EachTextHasOneTree
one_tree n tokens t u p q =
    ap (λ x. x.0) (same (tree_read p (max (tree_depth t) (tree_depth u)) (first_part (tree_depth t) (tree_depth u)) refl)
    (tree_read q (max (tree_depth t) (tree_depth u)) (second_part (tree_depth t) (tree_depth u)) refl))

of_decls : List Decl → Script
of_decls ds = record { decls = ds }

pub one_script : EachTextIsOneScript
unfolding of_decls
one_script tokens s t p q = ap of_decls (same (declarations_read p) (declarations_read q))

pub complete : ReaderIsComplete
complete tokens s p = let read = declarations_read p in (read.enough, read.settles)

pub complete_trees : ReaderGivesTrees
complete_trees n d tokens t rest p fits h = let read = tree_read p d fits (below_stops 6 rest h) in (read.enough, read.settles)

pub sound : ReaderIsSound
sound tokens s f e = script_sound f tokens s.decls e

pub sound_trees : ReadTreesAreTrees
sound_trees = tree_sound

pub settled_script : SettledScriptIsOne
settled_script tokens s h = script_sound h.enough tokens s.decls (h.settles h.enough (omega arith))

pub settled_nothing : SettledNothingIsNone
settled_nothing tokens s h p = none-some s.decls (one_answer h (declarations_read p))

pub scripts_settle : ScriptsSettle
scripts_settle tokens s p = declarations_read p

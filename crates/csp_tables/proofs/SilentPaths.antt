-- Silent steps in a row are a path whose labels are all silent.
use Rattle.std.proofs.Common.{ℕ, zero, suc, replicate}
use Rattle.csp_tables.specs.Prelude.{Label, silent, Path, Silently}

pub silent_path : {S : Type 0} (Step : S → Label → S → Type 0) (n : ℕ) (s t : S) → Silently Step n s t → Path Step s (replicate n silent) t
silent_path Step zero s t run = run
silent_path Step (suc n) s t run = (run.0, run.1, silent_path Step n run.0 t run.2)

pub path_silent : {S : Type 0} (Step : S → Label → S → Type 0) (n : ℕ) (s t : S) → Path Step s (replicate n silent) t → Silently Step n s t
path_silent Step zero s t path = path
path_silent Step (suc n) s t path = (path.0, path.1, path_silent Step n path.0 t path.2)

-- Calls of a device in memory, some of which are planned to fail.
use Rattle.std.specs.Prelude.{ℕ, Bool, ◌+◌, ◌==◌, ◌&&◌, List, min, nat_lt, if◌then◌else◌}
use Rattle.std.specs.List.{list_any}

-- The numbers of the calls that are to fail, how many calls there were, and how many of them failed.
pub record FaultPlan : Type 0 where
  pub failing : List ℕ
  pub calls : ℕ
  pub faults : ℕ

-- A plan in which no call was made yet.
abbrev pub new_plan : List ℕ → FaultPlan
new_plan failing = record { failing = failing; calls = 0; faults = 0 }

-- The number of the next call. Calls count from 1, and the number stays at 4,294,967,295 once it is there.
abbrev pub next_number : FaultPlan → ℕ
next_number plan = min (plan.calls + 1) 4294967295

-- Whether the next call is to fail. No call of the last number fails.
abbrev pub fails_next : FaultPlan → Bool
fails_next plan = nat_lt (next_number plan) 4294967295 && list_any (λ number. number == next_number plan) plan.failing

-- What the plan is after the next call.
abbrev pub after_call : FaultPlan → FaultPlan
after_call plan = record {
  failing = plan.failing;
  calls = next_number plan;
  faults = plan.faults + (if fails_next plan then 1 else 0);
}

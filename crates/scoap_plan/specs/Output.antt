-- What the program `scoap_plan` prints, of its arguments and of files that were loaded. Document 02, K3.
use Rattle.std.specs.Prelude.{List, ◌≡◌, ℕ, replicate, Option, Some, None}
use Rattle.sizes.specs.Sizes as Size
use Rattle.files.specs.Output.{of_files, Outputs, PrintsFiles}
use Rattle.plan_calls.specs.Printed.{plan_printed}
use Rattle.scoap_plan.specs.declared.arguments.Arguments.{Arguments}
use Rattle.scoap_plan.specs.Arguments.{usage}

-- Of two texts: the text or the refusal, by a buffer of 65,536 bytes, as `scoap` has for the report.
unfoldable pub plan_shown : (line value kind : ℕ) (lib net : List ℕ) → List ℕ
plan_shown line value kind lib net = plan_printed lib net line value kind (replicate Size.report_bytes 0)

-- Of bad arguments the usage, whatever the files hold.
unfoldable pub plan_output : Option Arguments → Option ℕ → List ℕ → Option ℕ → List ℕ → List ℕ
plan_output (Some a) l lib n net = of_files (plan_shown a.line a.value a.kind) l lib n net
plan_output None l lib n net = usage

-- What `put_output` promises: the bytes, by equation; and of good arguments what every program promises of two files.
pub record PlanOutputs (a : Option Arguments) (l : Option ℕ) (lib : List ℕ) (n : Option ℕ) (net after : List ℕ) (said : ℕ) : Type 0 where
  pub outputs : Outputs Size.report_bytes (plan_output a l lib n net) after said
  pub files : (asked : Arguments) → a ≡ Some asked
      → PrintsFiles Size.report_bytes (plan_shown asked.line asked.value asked.kind) l lib n net after said

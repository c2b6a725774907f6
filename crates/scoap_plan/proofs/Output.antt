-- What is printed of good arguments and of bad ones, from what the parts of the program put into the buffer.
use Rattle.common_laws.proofs.Base.{List, [], ◌∷◌, ◌||◌, ◌≡◌, ℕ, arith, length, replicate}
use Rattle.std.specs.Prelude.{Option, Some, None}
use Rattle.sizes.specs.Sizes as Size
use Rattle.reading.specs.Numbers as No
use Rattle.reading.specs.Refusal.{weigh}
use Rattle.text.specs.Bytes.{bytes}
use Rattle.writer.specs.Put.{Put}
use Rattle.demands.specs.Outcome as O
use Rattle.demands.specs.Outcome.{given_texts, text_long}
use Rattle.demands.specs.Own.{own_tables}
use Rattle.plan_calls.specs.Promise.{plan_outcome}
use Rattle.plan_calls.specs.Printed.{plan_printed, PlanPrinted}
use Rattle.files.specs.Output.{Outputs, LongRefused, PrintsFiles}
use Rattle.files.proofs.Output.{prints-outputs, put-outputs, long-shown, either-long}
use Rattle.scoap_plan.specs.declared.arguments.Arguments.{Arguments}
use Rattle.scoap_plan.specs.Arguments.{usage}
use Rattle.demands.proofs.EntryChecks.{own-entry}
use Rattle.scoap_plan.specs.Output.{plan_shown, plan_output, PlanOutputs}

-- ---- the plan

entry-own : (lib net before : List ℕ) → O.entry (given_texts lib net) (own_tables before) ≡ weigh 0 ((No.text_long, text_long lib || text_long net) ∷ [])
entry-own lib net before = own-entry _ lib net before

pub plan-long : (line value kind : ℕ) → LongRefused (plan_shown line value kind)
unfolding plan_shown plan_printed plan_outcome
plan-long line value kind lib net h =
    rw (entry-own lib net (replicate Size.report_bytes 0)) (unfold text_long in long-shown _ (either-long lib net h) _)

-- Put into a buffer that is clear.
pub plan-outputs : (lib net before : List ℕ) (line value kind : ℕ) {clear after : List ℕ} {said : ℕ} → clear ≡ replicate (length before) 0
    → Size.report_bytes ≡ length before → PlanPrinted lib net line value kind clear after said
    → Outputs Size.report_bytes (plan_shown line value kind lib net) after said
unfolding plan_shown
plan-outputs lib net before line value kind f e p = rw (f, ← e) at (prints-outputs p.bytes)

-- ---- all of it

module _ (a : Option Arguments) (l : Option ℕ) (lib : List ℕ) (n : Option ℕ) (net : List ℕ) where
  pub asked-outputs : {after : List ℕ} {asked : Arguments} {said : ℕ} → a ≡ Some asked
      → PrintsFiles Size.report_bytes (plan_shown asked.line asked.value asked.kind) l lib n net after said → PlanOutputs a l lib n net after said
  unfolding plan_output
  asked-outputs {asked = asked} e p =
      rw e
      (record {
        outputs = p.outputs;
        files = λ other same. let x : asked ≡ other = cc in rw (← x) p;
      })

  pub usage-outputs : {before after : List ℕ} {said : ℕ} → a ≡ None → Size.report_bytes ≡ length before → Put 0 usage before after said
      → PlanOutputs a l lib n net after said
  unfolding plan_output usage bytes
  usage-outputs e s p =
      rw e
      (record {
        outputs = put-outputs s (omega arith) p;
        files = λ asked same. absurd (let z : ◌≡◌ {A = ℕ} 0 1 = cc in omega arith);
      })

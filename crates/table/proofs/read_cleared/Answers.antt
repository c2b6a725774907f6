-- What was read stands in the table, or nothing does.
use Rattle.std.specs.Prelude.{Result, Ok, Err, MatchResult, is_err}
use Rattle.std.specs.Fn.{FnOnceReturnsAtMut}
use Rattle.std.proofs.Common.{true, false, ◌≡◌, refl, ap, ◌∙◌, ℕ, length, replicate, rules}
use Rattle.table.specs.Blocks.{cleared}
use Rattle.table.proofs.read_cleared.Goals as goal

refused : {E : Type 0} (P : Type 0) {Q : Type 0} (r : Result (Unit {0}) E) → true ≡ is_err r → Q → MatchResult r (λ _. P) (λ _. Q)
refused P (Ok u) e q = absurd (cc)
refused P (Err x) e q = q

accepted : {E P : Type 0} (Q : Type 0) (r : Result (Unit {0}) E) → false ≡ is_err r → P → MatchResult r (λ _. P) (λ _. Q)
accepted Q (Ok u) e p = p
accepted Q (Err x) e p = absurd (cc)

pub returns-then-is_err : goal.returns-then-is_err
returns-then-is_err g c =
    let says : FnOnceReturnsAtMut g.F.FnOnce c.args.read (cleared c.args.n c.args.table.now) c.read-answer.result c.read-answer.new.arg2 = search rules in
    let zero : c.fill.new.self ≡ replicate (length c.read-answer.new.arg2) 0 = search rules in
    let long : length c.read-answer.new.arg2 ≡ length c.args.table.now = c.read-answer.auto.arg2 ∙ c.clear.auto.table in
    (c.read-answer.new.arg2, says, refused _ _ c.if-is_err.ensures.value (zero ∙ ap (λ (n : ℕ). replicate n 0) long))

pub returns-else-is_err : goal.returns-else-is_err
returns-else-is_err g c =
    let says : FnOnceReturnsAtMut g.F.FnOnce c.args.read (cleared c.args.n c.args.table.now) c.read-answer.result c.read-answer.new.arg2 = search rules in
    (c.read-answer.new.arg2, says, accepted _ _ c.if-is_err.ensures.value refl)

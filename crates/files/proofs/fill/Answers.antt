-- `fill`: each turn but the last reads at least one byte, and none past the buffer.
use Rattle.std.proofs.Common.{rules, sym, refl, ◌<◌, length}
use Rattle.files.proofs.Answers.{more, done}
use Rattle.files.proofs.fill.Goals as goal

pub returns-in-Break : goal.returns-in-Break
returns-in-Break g c = done _ c.loop-loaded.at (search rules) c.read-got.result c.in-Break.loaded (sym c.in-Break.ensures) _ refl

reads_on : (g : _) (c : goal.In-Continue g) → (c.loop-loaded.at < c.in-Continue.end) × (c.in-Continue.end < length c.loop-loaded.buffer)
reads_on g c =
    let h = more _ c.loop-loaded.at (search rules) c.read-got.result c.in-Continue.end (sym c.in-Continue.ensures) in
    (h.0, search rules)

pub loop-loaded-smaller : goal.loop-loaded-smaller
loop-loaded-smaller g c = let h = reads_on g c in search rules

pub loop-loaded-preserved : goal.loop-loaded-preserved
loop-loaded-preserved g c = let h = reads_on g c in search rules

-- What the two writers put, over the tables: the marks that crate `plan_marks` notes, and the netlist table. A goal is a line
-- at a value, as twice the line and the value.
use Rattle.std.specs.Prelude.{List, [], ◌++◌, ℕ, zero, suc, ◌+◌, ◌*◌, ◌-◌, ◌/◌, ◌%◌, ltb, eqb, get_or}
use Rattle.sizes.specs.Sizes as Size
use Rattle.reading.specs.Choice.{pick}
use Rattle.writer.specs.Octal.{octal_bytes}
use Rattle.sweep_sums.specs.Columns.{column_places}
use Rattle.plan_text.specs.PlanText.{node_line, input_text, joined}

module _ (marks : List ℕ) where
  abbrev pub visit_at : ℕ → ℕ
  visit_at goal = get_or marks (goal * Size.mark_words) 0

  abbrev pub row_at : ℕ → ℕ
  row_at goal = get_or marks (goal * Size.mark_words + 1) 0

  abbrev pub columns_at : ℕ → ℕ
  columns_at goal = get_or marks (goal * Size.mark_words + 2) 0

  abbrev pub last_at : ℕ → ℕ
  last_at goal = get_or marks (goal * Size.mark_words + 3) 0

module _ (netlist : List ℕ) where
  -- What a column asks for: the lines from the last pin's back, each at 1 and then at 0.
  unfoldable pub goal_at : ℕ → ℕ → ℕ
  goal_at last j = 2 * get_or netlist (last - j / 2) 0 + (1 - j % 2)

  -- "each line it names, lowest column first"
  unfoldable pub goals : ℕ → ℕ → List ℕ
  goals last columns = column_places (goal_at last) 32 0 columns

unfoldable pub goal_row : ℕ → ℕ → List ℕ
goal_row visit row = pick (eqb visit 0) input_text (octal_bytes row)

unfoldable pub goal_line : List ℕ → ℕ → ℕ → List ℕ
goal_line marks depth goal =
    node_line depth (goal / 2) (goal % 2) (goal_row (visit_at marks goal) (row_at marks goal))

module _ (marks netlist : List ℕ) where
  -- Of a goal that was last lowered at a visit below `before`, of at most so many levels; of any other nothing.
  unfoldable pub levels : ℕ → ℕ → ℕ → ℕ → List ℕ
  levels zero before depth goal = []
  levels (suc more) before depth goal =
      pick (ltb (visit_at marks goal) before)
      (goal_line marks depth goal ++ joined (levels more (visit_at marks goal) (suc depth)) (goals netlist (last_at marks goal) (columns_at marks goal)))
      []

  -- "Writing a line turns to writing its row": there are no more levels than visits before.
  unfoldable pub line_bytes : ℕ → ℕ → ℕ → List ℕ
  line_bytes before depth goal = levels before before depth goal

  -- ".. and a row to each line it names"
  unfoldable pub row_bytes : ℕ → ℕ → ℕ → ℕ → List ℕ
  row_bytes before depth last columns = joined (line_bytes before depth) (goals netlist last columns)

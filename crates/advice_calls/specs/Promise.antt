-- What the adviser's two calls promise. Document 02, K13: `g` is what a call was given to read, `said` what it answered. By
-- equation of every answer that is lent (`advice_call`, `rank_call`), and what that says of an accepted pair of texts.
use Rattle.std.specs.Prelude.{true, false, List, ◌↔◌, ◌≡◌, ℕ, ◌+◌, ◌*◌, ◌-◌, ◌≤◌, ◌<◌, length, get_or}
use Rattle.sizes.specs.Sizes as Size
use Rattle.reading.specs.Numbers as No
use Rattle.reading.specs.Refusal.{Read, refused, read}
use Rattle.cost.specs.Cost.{never}
use Rattle.calculation.specs.declared.Advice.{Advice}
use Rattle.std.specs.Prelude.{Option, None}
use Rattle.calculation.specs.Advice.{pad, allowed, leaves, Rank, rank_of, advice, ranks, LeavesExact, Best, ForbidSame}
use Rattle.demands.specs.Call.{Call, comes, Promises}
use Rattle.demands.specs.Outcome.{Given, Pair, Accepted, outcome}
use Rattle.demands.specs.Own.{own_tables}
use Rattle.advice_calls.specs.Calls.{advice_size, advice_call, rank_call}

-- ---- refusals, of both calls

-- A refused library or netlist is refused as the first library refuses it, with whatever report buffer: the same number and
-- line. What it accepts is accepted, and nothing else is. An answer that is too short is 1 at line 0.
pub record HandedOn {B : Type 0} (size : ℕ) (g : Given) (c : Call Pair B (List ℕ)) (said : Read B) : Type 0 where
  pub short : length c.lent < size → said ≡ refused No.table_short 0
  pub refusals : size ≤ length c.lent → (number line : ℕ) → said ≡ refused number line
      → (report : List ℕ) → outcome g (own_tables report) ≡ refused number line
  pub was_read : (x : B) → said ≡ read x → (p : Pair) × (comes c ≡ read p)
  pub accepts : size ≤ length c.lent → (report : List ℕ) (a : Accepted) → outcome g (own_tables report) ≡ read a → (x : B) × (said ≡ read x)

-- ---- the advice

-- Of an accepted library and netlist: which line is named, with the answer's first entry; "with no such line, and only then, it
-- says so"; entries past the first keep their values; and what else the list names, and how often, counts for nothing.
pub record AdviceMeans (p : Pair) (forbidden before after : List ℕ) (said : Read (Option Advice)) : Type 0 where
  pub named : (l x : ℕ) → said ≡ read (pad l x) → (get_or after 0 0 ≡ x) × Best p.cells p.statements forbidden l x
  pub none : (said ≡ read None) ↔ ((m : ℕ) → allowed p.statements forbidden m ≡ false)
  pub none_leaves : said ≡ read None → after ≡ before
  pub rest : (i : ℕ) → 1 ≤ i → get_or after i 0 ≡ get_or before i 0
  pub same : (others : List ℕ) → ForbidSame p.statements forbidden others → said ≡ read (advice p.cells p.statements others)

pub record AdvicePromised (g : Given) (forbidden before after : List ℕ) (said : Read (Option Advice)) : Type 0 where
  pub promises : Promises (advice_call g forbidden before) (λ p after said. AdviceMeans p forbidden before after said) after said
  pub handed_on : HandedOn advice_size g (advice_call g forbidden before) said
  pub line : (l x : ℕ) → said ≡ read (pad l x) → (1 ≤ l) × (l ≤ Size.lines)

-- ---- the ranks

-- The four numbers of a line in the table of ranks.
abbrev pub rank_at : List ℕ → ℕ → Rank
rank_at after l =
    let place = (l - 1) * Size.rank_words in
    record {
      nevers = get_or after place 0;
      overs = get_or after (place + 1) 0;
      largest = get_or after (place + 2) 0;
      total = get_or after (place + 3) 0;
    }

-- Of an accepted library and netlist: the numbers of an allowed line are those of what a pad on it leaves, of which demand 3
-- holds; those of any other of the 1,000 lines are never; entries past the table's size keep their values; and what else the
-- list names, and how often, counts for nothing.
pub record RanksMean (p : Pair) (forbidden before after : List ℕ) (said : Read ℕ) : Type 0 where
  pub ranked : (l : ℕ) → allowed p.statements forbidden l ≡ true
      → (rank_at after l ≡ rank_of (leaves p.cells p.statements l)) × LeavesExact p.cells p.statements l
  pub others : (l : ℕ) → 1 ≤ l → l ≤ Size.lines → allowed p.statements forbidden l ≡ false
      → rank_at after l ≡ record { nevers = never; overs = never; largest = never; total = never }
  pub rest : (i : ℕ) → Size.ranks ≤ i → get_or after i 0 ≡ get_or before i 0
  pub same : (others : List ℕ) → ForbidSame p.statements forbidden others
      → ranks p.cells p.statements others ≡ ranks p.cells p.statements forbidden

pub record RankPromised (g : Given) (forbidden before after : List ℕ) (said : Read ℕ) : Type 0 where
  pub promises : Promises (rank_call g forbidden before) (λ p after said. RanksMean p forbidden before after said) after said
  pub handed_on : HandedOn Size.ranks g (rank_call g forbidden before) said
  pub few : (n : ℕ) → said ≡ read n → n ≤ Size.lines

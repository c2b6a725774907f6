-- The laws of the report's bytes: what the report depends on, and how long it is.
use Rattle.common_laws.proofs.Base.{Bool, List, [], ◌∷◌, ◌++◌, ◌≡◌, refl, ap, ℕ, zero, suc, ◌+◌, ◌*◌, ◌-◌, ◌^◌, ◌≤◌, ◌<◌, min, arith, leb, ltb, eqb, length, get_or, length-append}
use Rattle.common_laws.proofs.Base.{leb-false, ltb-true, ltb-false, eqb-false}
use Rattle.sizes.specs.Sizes as Size
use Rattle.sizes.specs.Places.{line_place}
use Rattle.cost.specs.Cost.{over, never}
use Rattle.text.specs.Bytes.{bytes}
use Rattle.reading.specs.Choice.{pick}
use Rattle.reading.proofs.Laws.{by_test}
use Rattle.writer.specs.Decimal.{decimal_bytes}
use Rattle.writer.proofs.Decimal.{decimal-below, decimal-length}
use Rattle.calculation.specs.declared.Counts.{Counts}
use Rattle.calculation.specs.Settled.{FewSweeps}
use Rattle.report_text.specs.Report.{cost_bytes, costs_from, line_bytes, lines_bytes, sweeps_bytes, header, report_bytes, high_line, line_digits, most_sweeps, sweep_digits, behind_number, header_bytes, sweeps_beside, longest_report}

-- ---- what the report depends on

costs-same : (ns ms : List ℕ) (n place : ℕ) → ((i : ℕ) → i < place + n → get_or ns i 0 ≡ get_or ms i 0) → costs_from ns n place ≡ costs_from ms n place
unfolding costs_from
costs-same ns ms zero place same = refl
costs-same ns ms (suc n) place same =
    rw (same place (omega arith), costs-same ns ms n (suc place) (λ i h. same i (omega arith))) refl

lines_same : (m q : ℕ → Bool) (ns ms : List ℕ) (n l : ℕ) → l + n ≤ Size.lines + 1 → ((i : ℕ) → l ≤ i → i < l + n → m i ≡ q i) → ((i : ℕ) → i < Size.numbers → get_or ns i 0 ≡ get_or ms i 0) → lines_bytes m ns n l ≡ lines_bytes q ms n l
unfolding lines_bytes line_bytes
lines_same m q ns ms zero l h marks same = refl
lines_same m q ns ms (suc n) l h marks same =
    rw (
      marks l (omega arith) (omega arith),
      costs-same ns ms Size.costs (line_place l) (λ i b. same i (omega arith)),
      lines_same m q ns ms n (suc l) (omega arith) (λ i a b. marks i (omega arith) (omega arith)) same,
    ) refl

-- The report depends on the marks of the lines and on their numbers alone.
pub report-same : (m q : ℕ → Bool) (ns ms : List ℕ) (k : Counts) → ((l : ℕ) → 1 ≤ l → l ≤ Size.lines → m l ≡ q l) → ((i : ℕ) → i < Size.numbers → get_or ns i 0 ≡ get_or ms i 0) → report_bytes m ns k ≡ report_bytes q ms k
unfolding report_bytes
report-same m q ns ms k marks same =
    ap (λ (f : List ℕ). header ++ (f ++ sweeps_bytes k))
    (lines_same m q ns ms Size.lines 1 (omega arith) (λ i a b. marks i a (omega arith)) same)

-- ---- how long the report is

cost-length : (x : ℕ) → length (cost_bytes x) ≤ 9
unfolding cost_bytes bytes pick
cost-length x =
    by_test (leb never x)
    (λ is_never_lem. rw is_never_lem (omega arith))
    (λ below.
    by_test (eqb x over)
    (λ is-over. rw (below, is-over) (omega arith))
    (λ exact.
    let least : x < 10 ^ 9 = omega (arith, leb-false never x below, eqb-false x over exact) in
    rw (below, exact) (decimal-below 8 x least)))

costs-length : (ns : List ℕ) (n place : ℕ) → length (costs_from ns n place) ≤ n * 10
unfolding costs_from
costs-length ns zero place = omega arith
costs-length ns (suc n) place =
    rw (length-append (44 ∷ cost_bytes (get_or ns place 0)) (costs_from ns n (suc place)))
    (omega (arith, cost-length (get_or ns place 0), costs-length ns n (suc place)))

line-length : (ns : List ℕ) (l : ℕ) → length (line_bytes ns l) ≤ length (decimal_bytes l) + behind_number
unfolding line_bytes
line-length ns l =
    let costs = costs_from ns Size.costs (line_place l) in
    rw (length-append (decimal_bytes l) (costs ++ (10 ∷ [])), length-append costs (10 ∷ []))
    (omega (arith, costs-length ns Size.costs (line_place l)))

-- The digits of so many line numbers from l on.
unfoldable numbers_length : ℕ → ℕ → ℕ
numbers_length zero l = 0
numbers_length (suc n) l = length (decimal_bytes l) + numbers_length n (suc l)

lines-length : (m : ℕ → Bool) (ns : List ℕ) (n l : ℕ) → length (lines_bytes m ns n l) ≤ numbers_length n l + n * behind_number
unfolding lines_bytes numbers_length pick
lines-length m ns zero l = omega arith
lines-length m ns (suc n) l =
    let rest : length (lines_bytes m ns n (suc l)) ≤ numbers_length n (suc l) + n * behind_number = lines-length m ns n (suc l) in
    by_test (m l)
    (λ yes. rw (yes, length-append (line_bytes ns l) (lines_bytes m ns n (suc l))) (omega (arith, line-length ns l)))
    (λ no. rw no (omega arith))

-- Numbers below a power of ten have no more digits than it has zeros.
decade : (d n l : ℕ) → l + n ≤ 10 ^ suc d → numbers_length n l ≤ n * suc d
unfolding numbers_length
decade d zero l h = omega arith
decade d (suc n) l h =
    let rest : numbers_length n (suc l) ≤ n * suc d = decade d n (suc l) (omega arith) in
    let one : length (decimal_bytes l) ≤ suc d = decimal-below d l (omega arith) in
    omega (arith, rest, one)

numbers-then : (n more l : ℕ) → numbers_length (more + n) l ≡ numbers_length n l + numbers_length more (l + n)
unfolding numbers_length
numbers-then zero more l =
    let none : more + 0 ≡ more = omega arith in
    let same : l + 0 ≡ l = omega arith in
    rw (none, same) (omega arith)
numbers-then (suc n) more l =
    let one : more + suc n ≡ suc (more + n) = omega arith in
    let same : l + suc n ≡ suc l + n = omega arith in
    rw (one, same) (omega (arith, numbers-then n more (suc l)))

-- The numbers of four digits among the lines, and those of five.
abbrev fours : ℕ
fours = min 9000 (Size.lines - 999)

abbrev fives : ℕ
fives = Size.lines - 999 - fours

-- The decades one after the other.
lines-digits : numbers_length Size.lines 1 ≤ line_digits
lines-digits =
    let ones = numbers-then 9 (Size.lines - 9) 1 in
    let tens = numbers-then 90 (Size.lines - 99) 10 in
    let hundreds = numbers-then 900 (Size.lines - 999) 100 in
    let thousands = numbers-then fours fives 1000 in
    omega (arith, ones, tens, hundreds, thousands, decade 0 9 1 (omega arith), decade 1 90 10 (omega arith), decade 2 900 100 (omega arith), decade 3 fours 1000 (omega arith), decade 4 fives (1000 + fours) (omega arith))

report-digits : (m : ℕ → Bool) (ns : List ℕ) (k : Counts) (digits : ℕ) → length (decimal_bytes k.cc) ≤ digits → length (decimal_bytes k.sc) ≤ digits
    → length (decimal_bytes k.co) ≤ digits → length (decimal_bytes k.so) ≤ digits → length (report_bytes m ns k) ≤ header_bytes + line_digits + Size.lines * behind_number + sweeps_beside + 4 * digits
unfolding report_bytes header sweeps_bytes bytes
report-digits m ns k digits cc sc co so = simp length-append (omega (arith, lines-length m ns Size.lines 1, lines-digits))

count-digits : (x : ℕ) → x ≤ most_sweeps → length (decimal_bytes x) ≤ sweep_digits
count-digits x h =
    by_test (ltb x Size.numbers_end) (λ t. omega (arith, decimal-below (Size.number_digits - 1) x (ltb-true x Size.numbers_end t)))
    (λ t. omega (arith, ltb-false x Size.numbers_end t, decimal-below Size.number_digits x (omega arith)))

-- "With G gates, CC and SC take at most 2G + 1 sweeps each, CO and SO at most G + 1".
pub report-length : (m : ℕ → Bool) (ns : List ℕ) (k : Counts) (gates : ℕ) → gates ≤ Size.gates → FewSweeps gates k → length (report_bytes m ns k) ≤ longest_report
report-length m ns k gates h few =
    report-digits m ns k sweep_digits
    (count-digits k.cc (omega arith))
    (count-digits k.sc (omega arith))
    (count-digits k.co (omega arith))
    (count-digits k.so (omega arith))

pub high-length : length high_line ≡ 5
unfolding high_line bytes
high-length = refl

-- Whatever the counts are, they have at most twenty digits each, so that "a report buffer of 65,536 bytes" has room.
pub report-fits : (m : ℕ → Bool) (ns : List ℕ) (k : Counts) → length (report_bytes m ns k) ≤ Size.report_bytes
report-fits m ns k =
    omega (arith, report-digits m ns k 20 (decimal-length k.cc).1 (decimal-length k.sc).1 (decimal-length k.co).1 (decimal-length k.so).1)

-- What the functions that write a report share: a cost more, a line more.
use Rattle.common_laws.proofs.Base.{Bool, false, List, [], ◌∷◌, ◌++◌, append-nil, append_assoc, ◌≡◌, sym, ap, ◌∙◌, ℕ, zero, suc, ◌+◌, ◌-◌, ◌≤◌, ◌<◌, add-zero, add-suc, suc-add}
use Rattle.common_laws.proofs.Base.{arith, get_or}
use Rattle.sizes.specs.Sizes as Size
use Rattle.reading.specs.Choice.{pick}
use Rattle.report_text.specs.Report.{cost_bytes, costs_from, line_bytes, lines_bytes}

pub costs-more : (numbers : List ℕ) (k place : ℕ) → costs_from numbers (suc k) place ≡ costs_from numbers k place ++ (44 ∷ cost_bytes (get_or numbers (place + k) 0))
unfolding costs_from
costs-more numbers zero place = rw (add-zero place) (append-nil (44 ∷ cost_bytes (get_or numbers place 0)))
costs-more numbers (suc k) place =
    rw (costs-more numbers k (suc place), suc-add place k, add-suc place k)
    (sym
    (append_assoc (44 ∷ cost_bytes (get_or numbers place 0)) (costs_from numbers k (suc place))
    (44 ∷ cost_bytes (get_or numbers (suc (place + k)) 0))))

pub lines_more : (mentioned : ℕ → Bool) (numbers : List ℕ) (n l : ℕ) → lines_bytes mentioned numbers (suc n) l ≡ lines_bytes mentioned numbers n l ++ pick (mentioned (l + n)) (line_bytes numbers (l + n)) []
unfolding lines_bytes
lines_more mentioned numbers zero l = rw (add-zero l) (append-nil (pick (mentioned l) (line_bytes numbers l) []))
lines_more mentioned numbers (suc n) l =
    rw (lines_more mentioned numbers n (suc l), suc-add l n, add-suc l n)
    (sym
    (append_assoc (pick (mentioned l) (line_bytes numbers l) []) (lines_bytes mentioned numbers n (suc l))
    (pick (mentioned (suc (l + n))) (line_bytes numbers (suc (l + n))) [])))

-- Lines that are not mentioned have nothing.
lines_none : (mentioned : ℕ → Bool) (numbers : List ℕ) (n k l : ℕ) → ((i : ℕ) → n ≤ i → i < n + k → mentioned (l + i) ≡ false)
    → lines_bytes mentioned numbers (n + k) l ≡ lines_bytes mentioned numbers n l
unfolding pick
lines_none mentioned numbers n zero l none = rw (add-zero n)
lines_none mentioned numbers n (suc k) l none =
    rw (add-suc n k, lines_more mentioned numbers (n + k) l, none (n + k) (omega arith) (omega arith), append-nil (lines_bytes mentioned numbers (n + k) l))
    (lines_none mentioned numbers n k l (λ i low high. none i low (omega arith)))

-- So all lines are those up to one past which none is mentioned.
pub lines-all : (mentioned : ℕ → Bool) (numbers : List ℕ) (n : ℕ) → n ≤ Size.lines → ((l : ℕ) → n < l → l ≤ Size.lines → mentioned l ≡ false)
    → lines_bytes mentioned numbers n 1 ≡ lines_bytes mentioned numbers Size.lines 1
lines-all mentioned numbers n few none =
    let all : n + (Size.lines - n) ≡ Size.lines = omega arith in
    sym (lines_none mentioned numbers n (Size.lines - n) 1 (λ i low high. none (1 + i) (omega arith) (omega arith)))
    ∙ ap (λ (k : ℕ). lines_bytes mentioned numbers k 1) all

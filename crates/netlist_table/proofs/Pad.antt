-- One output mark more, of a line that the netlist mentions and that is no output yet: a pad. Document 02, K11.
use Rattle.common_laws.proofs.Base.{Bool, true, false, ◌||◌, or-false, List, [], ◌∷◌, ◌++◌, map, append-nil, append_assoc, flat_map, some, ◌≡◌, refl, sym, ◌∙◌, ap, ℕ, suc, eqb}
use Rattle.common_laws.proofs.Base.{le-leb, eqb-true, eq-eqb}
use Rattle.common_laws.proofs.Lists.{flatMap_append}
use Rattle.sizes.specs.Sizes as Size
use Rattle.reading.specs.Choice.{pick}
use Rattle.reading.specs.Each.{Each}
use Rattle.reading.specs.Numbers as No
use Rattle.reading.specs.Refusal.{read}
use Rattle.reading.proofs.Laws.{by_test, each_right}
use Rattle.library_table.specs.Cells.{Cell}
use Rattle.netlist_table.specs.Netlist.{input, output, Statement, mark, member, lines_of, lines_marked, lines_claimed, gates_in, gates_of, mentioned, mentioned_lines, is_marked, marked_lines, claimed, claimed_lines, undeclared, undeclared_lines, is_input, is_output, line_bad, any_line_bad, unknown_cell, count_differs, any_member, driven_before, marked_before, not_input, range_bad, causes, admitted, Range, ranges_in, ranges_of, of_range, low_price}
use Rattle.netlist_table.specs.Lowest.{lowest}
use Rattle.netlist_table.specs.Admission.{refusal_of, extended}
use Rattle.netlist_table.specs.Sound.{InRange, LinesInRange, Sound}
use Rattle.netlist_table.proofs.Causes.{member-more, one_more_lem}
use Rattle.netlist_table.proofs.Admission.{admitted-more}
use Rattle.netlist_table.proofs.Soundness.{sound-next}
use Rattle.netlist_table.proofs.Laws.{apart-both, mentioned-in-range}
use Rattle.netlist_table.proofs.HeldLines.{where-same}
use Rattle.netlist_table.proofs.OpenLines.{mention_undeclared}

module _ (ss : List Statement) (l : ℕ) where
  abbrev after : List Statement
  after = ss ++ (mark output l ∷ [])

  pub pad-gates : gates_of after ≡ gates_of ss
  unfolding gates_of gates_in
  pad-gates = one_more_lem gates_in ss (mark output l) ∙ append-nil (flat_map gates_in ss)

  pub pad-inputs : (k : ℕ) → is_input k after ≡ is_input k ss
  unfolding is_marked marked_lines lines_marked pick member
  pad-inputs k = member-more k (lines_marked input) ss (mark output l) ∙ or-false (member k (flat_map (lines_marked input) ss))

  pub pad-outputs : (k : ℕ) → is_output k after ≡ (is_output k ss || eqb l k)
  unfolding is_marked marked_lines lines_marked pick member
  pad-outputs k = member-more k (lines_marked output) ss (mark output l) ∙ ap (λ (b : Bool). is_output k ss || b) (or-false (eqb l k))

  pad-ranges : ranges_of after ≡ ranges_of ss
  unfolding ranges_of ranges_in
  pad-ranges = one_more_lem ranges_in ss (mark output l) ∙ append-nil (flat_map ranges_in ss)

  pub pad-prices : low_price after ≡ low_price ss
  unfolding low_price
  pad-prices = ap (λ (rs : List Range). of_range (λ r. r.low) 1 rs) pad-ranges

  -- A line that is mentioned leaves no other line undeclared.
  pad-mentions : mentioned l ss ≡ true → (k : ℕ) → mentioned k after ≡ mentioned k ss
  unfolding mentioned mentioned_lines lines_of member
  pad-mentions said k =
      member-more k lines_of ss (mark output l)
      ∙ by_test (eqb l k)
      (λ t. let m : member k (flat_map lines_of ss) ≡ true = rw (eqb-true l k t) at said in rw (t, m))
      (λ t. rw t (or-false (member k (flat_map lines_of ss))))

  pad_claims : (k : ℕ) → claimed k after ≡ claimed k ss
  unfolding claimed claimed_lines lines_claimed member
  pad_claims k = member-more k lines_claimed ss (mark output l) ∙ or-false (member k (flat_map lines_claimed ss))

  range-good : InRange l → line_bad l ≡ false
  unfolding InRange line_bad
  range-good h = rw (le-leb 1 l h.0, le-leb l Size.lines h.1)

  module _ (cells : List Cell) (range : InRange l) where
    -- The one cause that refuses it.
    pad_cause : refusal_of cells ss (some (mark output l)) ≡ pick (is_output l ss) No.marked_before 0
    unfolding refusal_of causes lowest lines_of any_line_bad unknown_cell count_differs driven_before marked_before not_input range_bad lines_claimed lines_marked any_member is_marked pick
    pad_cause =
        rw (range-good range, or-false (member l (marked_lines output ss)))
        (by_test (member l (marked_lines output ss)) (λ t. rw t) (λ t. rw t))

    pub pad-admitted : is_output l ss ≡ false → refusal_of cells ss (some (mark output l)) ≡ 0
    unfolding pick
    pad-admitted free = pad_cause ∙ rw free

    pub pad-refused : is_output l ss ≡ true → refusal_of cells ss (some (mark output l)) ≡ No.marked_before
    unfolding pick
    pad-refused taken = pad_cause ∙ rw taken

  pub pad-sound : (cells : List Cell) → Sound cells ss → mentioned l ss ≡ true → is_output l ss ≡ false → Sound cells after
  unfolding extended
  pad-sound cells so said free =
      sound-next cells ss (some (mark output l)) so (pad-admitted cells (mentioned-in-range cells ss so l said) free)

  pub pad-declared : (cells : List Cell) → Sound cells ss → mentioned l ss ≡ true → is_output l ss ≡ false → undeclared_lines after ≡ undeclared_lines ss
  unfolding undeclared_lines
  pad-declared cells so said free =
      where-same (undeclared after) (undeclared ss) Size.lines 1
      (λ k low high.
      sym (mention_undeclared after (pad-sound cells so said free) k) ∙ rw (pad-mentions said k, pad_claims k) (mention_undeclared ss so k))

-- ---- pads that stand are admitted again, one after the other: so a call that makes the tables again puts them there

module _ (cells : List Cell) where
  first_admitted : (ss rest : List Statement) (l : ℕ) → Sound cells (ss ++ (mark output l ∷ rest)) → refusal_of cells ss (some (mark output l)) ≡ 0
  first_admitted ss rest l so = pad-admitted ss l cells range (unfold is_marked in unmarked)
    where
      range : InRange l
      range = unfold LinesInRange lines_of Each in (each_right LinesInRange ss (mark output l ∷ rest) so.lines).0.0

      split : marked_lines output (ss ++ (mark output l ∷ rest)) ≡ marked_lines output ss ++ (l ∷ marked_lines output rest)
      split = unfold marked_lines lines_marked pick flat_map in flatMap_append (lines_marked output) ss (mark output l ∷ rest)

      unmarked : member l (marked_lines output ss) ≡ false
      unmarked =
          by_test (member l (marked_lines output ss))
          (λ t. apart-both l (marked_lines output ss) (l ∷ marked_lines output rest) (rw split at so.marked) t (unfold member in rw (eq-eqb l l refl)))
          (λ t. t)

  pub pads-admitted : (line : ℕ) (ss : List Statement) (ls : List ℕ) → Sound cells (ss ++ map (mark output) ls)
      → admitted line cells ss (map (λ l. some (mark output l)) ls) ≡ read (ss ++ map (mark output) ls)
  pads-admitted line ss [] so = unfold admitted in ap read (sym (append-nil ss))
  pads-admitted line ss (l ∷ ls) so =
      admitted-more line cells ss (some (mark output l)) (map (λ k. some (mark output k)) ls) (first_admitted ss (map (mark output) ls) l so)
      ∙ later
      (pads-admitted (suc line) (ss ++ (mark output l ∷ [])) ls (rw (append_assoc ss (mark output l ∷ []) (map (mark output) ls)) so))
    where
      later : admitted (suc line) cells (ss ++ (mark output l ∷ [])) (map (λ k. some (mark output k)) ls) ≡ read ((ss ++ (mark output l ∷ [])) ++ map (mark output) ls)
          → admitted (suc line) cells (extended ss (some (mark output l))) (map (λ k. some (mark output k)) ls) ≡ read (ss ++ (mark output l ∷ map (mark output) ls))
      later e = unfold extended in e ∙ ap read (append_assoc ss (mark output l ∷ []) (map (mark output) ls))

-- The entry: what its two checks say of the lengths.
use Rattle.common_laws.proofs.Base.{Bool, false, ◌||◌, List, [], ◌∷◌, ◌≡◌, refl, ℕ, ◌≤◌, ltb-false, le-ltb, ltb, arith, length, replicate, length-replicate}
use Rattle.sizes.specs.Sizes as Size
use Rattle.reading.specs.Numbers as No
use Rattle.reading.specs.Choice.{pick}
use Rattle.reading.specs.Refusal.{read, weigh}
use Rattle.reading.proofs.Laws.{or_left, or_right, weigh-one}
use Rattle.netlist_table.specs.declared.Rules.{Rules}
use Rattle.demands.specs.Outcome.{Lent, entry, entry_by, given_by, table_short, text_long}
use Rattle.demands.specs.Own.{own_tables}

-- Tables of a call's own have the published sizes. The lengths are variables first, so that no list is computed.
long : (n : ℕ) → ltb (length {A = ℕ} (replicate n 0)) n ≡ false
long n = rw (length-replicate {A = ℕ} n 0) (le-ltb n n (omega arith))

none_of : {a b c : Bool} → a ≡ false → b ≡ false → c ≡ false → (a || (b || c)) ≡ false
none_of x y z = rw (x, y, z)

pub own-fit : (report : List ℕ) → table_short (own_tables report) ≡ false
unfolding table_short own_tables
own-fit report = none_of (long Size.library) (long Size.netlist) (long Size.numbers)

-- So the entry weighs the texts alone: with tables of the call's own, and by lengths.
pub own-entry : (rules : Rules) (lib net report : List ℕ)
    → entry (given_by rules lib net) (own_tables report) ≡ weigh 0 ((No.text_long, text_long lib || text_long net) ∷ [])
unfolding entry given_by weigh pick
own-entry rules lib net report = rw (own-fit report) refl

by_long : (lib net library netlist numbers : ℕ) → ltb library Size.library ≡ false → ltb netlist Size.netlist ≡ false → ltb numbers Size.numbers ≡ false
    → entry_by lib net library netlist numbers ≡ weigh 0 ((No.text_long, ltb Size.text_bytes lib || ltb Size.text_bytes net) ∷ [])
unfolding entry_by weigh pick
by_long lib net library netlist numbers x y z = rw (x, y, z) refl

pub own-entry_by : (lib net : List ℕ)
    → entry_by (length lib) (length net) (length {A = ℕ} (replicate Size.library 0)) (length {A = ℕ} (replicate Size.netlist 0)) Size.numbers
    ≡ weigh 0 ((No.text_long, text_long lib || text_long net) ∷ [])
unfolding text_long
own-entry_by lib net =
    by_long (length lib) (length net) (length {A = ℕ} (replicate Size.library 0)) (length {A = ℕ} (replicate Size.netlist 0)) Size.numbers
    (long Size.library) (long Size.netlist) (le-ltb Size.numbers Size.numbers (omega arith))

-- Of two texts the entry is weighed by their lengths.
pub texts-entry : (rules : Rules) (lib net : List ℕ) (m : Lent)
    → entry_by (length lib) (length net) (length m.library) (length m.netlist) (length m.numbers) ≡ entry (given_by rules lib net) m
unfolding entry_by entry table_short given_by text_long
texts-entry rules lib net m = refl

-- What is known behind the entry.
pub record Entered (lib net library netlist numbers : ℕ) : Type 0 where
  pub lib-short : lib ≤ Size.text_bytes
  pub net-short : net ≤ Size.text_bytes
  pub library-long : Size.library ≤ library
  pub netlist-long : Size.netlist ≤ netlist
  pub numbers-long : Size.numbers ≤ numbers

pub entered : (lib net library netlist numbers : ℕ) → entry_by lib net library netlist numbers ≡ read tt → Entered lib net library netlist numbers
unfolding entry_by
entered lib net library netlist numbers e =
    let l = ltb library Size.library in
    let n = ltb netlist Size.netlist in
    let x = ltb numbers Size.numbers in
    let w = weigh-one No.table_short 0 (l || (n || x)) _ tt e in
    let v = weigh-one No.text_long 0 (ltb Size.text_bytes lib || ltb Size.text_bytes net) [] tt w.1 in
    let rest = or_right l (n || x) w.0 in
    record {
      lib-short = ltb-false Size.text_bytes lib (or_left (ltb Size.text_bytes lib) (ltb Size.text_bytes net) v.0);
      net-short = ltb-false Size.text_bytes net (or_right (ltb Size.text_bytes lib) (ltb Size.text_bytes net) v.0);
      library-long = ltb-false library Size.library (or_left l (n || x) w.0);
      netlist-long = ltb-false netlist Size.netlist (or_left n x rest);
      numbers-long = ltb-false numbers Size.numbers (or_right n x rest);
    }
